use Rattle.std.proofs.Common.{◌≡◌, ◌∙◌, length, ap, sym, subst, arith}
use Rattle.sp_code.specs.declared.code.Parts.{Parts}
use Rattle.sp_verify_areas.specs.Namers.{AreNamers}
use Rattle.sp_verify_areas.proofs.NamedTables.{begun}
use Rattle.sp_verify_areas.proofs.table_names.first_unnamed.Goals as goal

pub loop-p-init : goal.loop-p-init
loop-p-init c =
    let code = c.args.code.now in
    let n = c.len.result in
    let e : n ≡ length code.forks = c.len.ensures ∙ ap (λ (z : Parts). length z.forks) c.parts-parts.ensures.same in
    subst (AreNamers code 0)
    (sym (c.of-namers.ensures ∙ c.in-Ok.ensures.items_if_clones_equal (λ y h. h))) (begun code n e)

pub first_lost-requires-clause-namers : goal.first_lost-requires-clause-namers
first_lost-requires-clause-namers c =
    let code = c.args.code.now in
    let m : c.len-p-end.result ≡ length code.instrs = c.len-p-end.ensures ∙ ap (λ (z : Parts). length z.instrs)
    c.parts-parts.ensures.same in
    let e : c.loop-p.p ≡ length code.instrs = omega (arith, m) in
    subst (λ n. AreNamers code n c.loop-p.namers) e c.loop-p.invariant
