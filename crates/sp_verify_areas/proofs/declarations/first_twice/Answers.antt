use Rattle.std.proofs.Common.{◌≤◌, ◌∙◌, length, ap, subst}
use Rattle.sp_code.specs.declared.code.Parts.{Parts}
use Rattle.sp_verify_areas.proofs.DeclarationSteps.{begins, ends, layouts_end}
use Rattle.sp_verify_areas.proofs.declarations.first_twice.Goals as goal

pub loop-place-init : goal.loop-place-init
loop-place-init c = λ kept. begins c.args.code.now c.new.result c.new.ensures.empty

pub loop-table-init : goal.loop-table-init
loop-table-init c = λ kept.
    let code = c.args.code.now in
    let end : length code.layouts ≤ c.loop-place.place = subst (λ n. n ≤ c.loop-place.place) (c.len-place-end.ensures
    ∙ ap (λ (z : Parts). length z.layouts) c.parts-parts.ensures.same) c.loop-place-test.false in
    layouts_end code c.loop-place.place c.loop-place.seen.variables c.loop-place.seen.first end
    (c.loop-place.invariant kept)

pub returns : goal.returns
returns c =
    let code = c.args.code.now in
    let end : length code.forks ≤ c.loop-table.table = subst (λ n. n ≤ c.loop-table.table) (c.len-table-end.ensures
    ∙ ap (λ (z : Parts). length z.forks) c.parts-parts.ensures.same) c.loop-table-test.false in
    ends code c.loop-table.table c.loop-table.seen.variables c.loop-table.seen.first end
    (c.loop-table.invariant c.if-seen.false)
