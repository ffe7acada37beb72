use Rattle.std.proofs.Common.{sym, ap, ◌∙◌, subst}
use Rattle.sp_verify_shapes.specs.Stacks.{list_of}
use Rattle.sp_verify_effects.specs.Calls.{is_outer, meets_outer}
use Rattle.sp_verify_effects.specs.Walks.{NoneOfTop}
use Rattle.sp_verify_effects.specs.Windows.{AreApart}
use Rattle.sp_verify_effects.proofs.CallTests.{no_clash}
use Rattle.sp_verify_effects.proofs.calls.call_clashes.Goals as goal

pub returns-then-not-meets_outer-clause-clashes : goal.returns-then-not-meets_outer-clause-clashes
returns-then-not-meets_outer-clause-clashes c =
    let e = c.args.effects.now in
    let P = is_outer e in
    let l = c.args.l.now in
    let st = c.args.g.now.shapes.now.stacks in
    let ss = list_of st c.args.stack in
    let none = ap (meets_outer e l.entry) (sym c.items.ensures) ∙ sym c.meets_outer.ensures
    ∙ c.if-not-meets_outer.true in
    let top = c.in-Ok.ensures P c.requires.walks none in
    let apart = c.is_apart.ensures c.if-is_apart.true st c.requires.windows in
    let n = c.len-count.ensures in
    no_clash e l ss (subst (λ k. AreApart k ss) n apart) (subst (λ k. NoneOfTop P l.entry k ss) n top)

pub returns-then-not-meets_outer-clause-walks : goal.returns-then-not-meets_outer-clause-walks
returns-then-not-meets_outer-clause-walks c =
    let e = c.args.effects.now in
    let none = ap (meets_outer e c.args.l.now.entry) (sym c.items.ensures) ∙ sym c.meets_outer.ensures
    ∙ c.if-not-meets_outer.true in
    c.in-Ok-put_walk.ensures (is_outer e) c.requires.walks (c.in-Ok.ensures (is_outer e) c.requires.walks none)
