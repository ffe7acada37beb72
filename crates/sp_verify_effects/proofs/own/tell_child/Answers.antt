use Rattle.sp_verify_effects.specs.Own.{IsOf, IsHanded, IsEffectAmong, TellsAsked}
use Rattle.std.specs.Prelude.{false}
use Rattle.sp_base.proofs.Facts.{on_map as ok_on}
use Rattle.sp_verify_effects.proofs.Owns.{child_told}
use Rattle.sp_verify_effects.proofs.own.tell_child.Goals as goal

pub returns : goal.returns
returns c =
    let k = c.args.asked.now in
    let n = c.args.area in
    let t = c.args.child.now in
    let f = c.args.facts.now in
    let g = c.tell.new.facts in
    let h = c.tell-2.new.facts in
    ok_on c.tell-2.result (TellsAsked k g h (IsOf n (IsEffectAmong false c.items-2.result.now)))
    (TellsAsked k f h (IsOf n (IsHanded t)))
    (λ v. child_told k f g h n t c.items.result.now c.items-2.result.now c.items.ensures c.items-2.ensures
    c.in-Ok.ensures v)
    c.tell-2.ensures
