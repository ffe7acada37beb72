use Rattle.sp_base.proofs.Facts.{on_map as ok_on}
use Rattle.sp_verify_effects.specs.Facts.{Tells}
use Rattle.sp_verify_effects.specs.Own.{AskedAt, ForkedAt, IsOf, TellsAsked}
use Rattle.sp_verify_effects.proofs.Owns.{at_told}
use Rattle.sp_verify_effects.proofs.own.tell_in.Goals as goal

pub returns : goal.returns
returns c =
    let code = c.args.g.now.code.now in
    let k = c.args.asked.now in
    let p = c.args.p in
    let n = c.args.area in
    let f = c.args.facts.now in
    let g = c.tell_reached.new.facts in
    let h = c.tell_forked.new.facts in
    let a = c.requires.lies in
    ok_on c.tell_forked.result (TellsAsked k g h (IsOf n (ForkedAt code p))) (Tells f h (AskedAt code k p))
    (λ v. at_told k code p f g h n a.0 a.1 a.2 c.in-Ok.ensures v)
    c.tell_forked.ensures
