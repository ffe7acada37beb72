use Rattle.std.proofs.Common.{◌≡◌, length, sym, ap, Some, arith}
use Rattle.std.proofs.lemmas.Option.{slice_get_within}
use Rattle.sp_base.proofs.Facts.{on_map}
use Rattle.sp_code.specs.declared.code.Parts.{Parts}
use Rattle.sp_verify_shapes.specs.Search.{WalkOutcome, with_arrival}
use Rattle.sp_verify_shapes.proofs.SearchSteps.{lacks_operands, brings_lists}
use Rattle.sp_verify_shapes.proofs.search.walk.Goals as goal

pub step_from-requires-clause-there : goal.step_from-requires-clause-there
step_from-requires-clause-there c =
    let l = slice_get_within c.args.search.now.at c.args.p c.in-Some-Some.field-0 (sym c.in-Some-Some.ensures) in
    let s = c.requires.sane.size in
    omega (arith, l, s)

pub step_from-requires-clause-small : goal.step_from-requires-clause-small
step_from-requires-clause-small c =
    let l = slice_get_within c.args.search.now.at c.args.p c.in-Some-Some.field-0 (sym c.in-Some-Some.ensures) in
    let s = c.requires.sane.size in
    let k = c.parts-parts.ensures.sizes.instrs in
    let e = ap (λ (z : Parts). length z.instrs) c.parts-parts.ensures.same in
    omega (arith, l, s, k, e)

pub returns-in-Wrong : goal.returns-in-Wrong
returns-in-Wrong c =
    lacks_operands c.args.code.now c.args.search.now c.args.p c.in-Some-Some.k c.step_from.new.stacks
    (Some c.in-Some-Some.field-0) c.in-Some-Some.ensures (ap Some c.in-Some-Some.field-0-is)
    (sym c.if-is_marked.ensures) c.step_from.ensures.stacks c.step_from.ensures.extends
    c.in-Ok.value c.in-Ok.ensures.goes c.mark.new.broken c.in-Wrong.is c.mark.ensures

pub returns-in-Ok-wait : goal.returns-in-Ok-wait
returns-in-Ok-wait c =
    on_map c.wait-in-To.result (c.wait-in-To.new.arrivals ≡ with_arrival c.in-To.second c.wait.new.arrivals)
    (WalkOutcome c.args.code.now c.args.search.now
    (record c.args.search.now { stacks = c.step_from.new.stacks; arrivals = c.wait-in-To.new.arrivals }) c.args.p)
    (λ d. brings_lists c.args.code.now c.args.search.now c.args.p c.in-Some-Some.k c.step_from.new.stacks
    (Some c.in-Some-Some.field-0) c.in-Some-Some.ensures (ap Some c.in-Some-Some.field-0-is)
    (sym c.if-is_marked.ensures) c.step_from.ensures.stacks c.step_from.ensures.extends
    c.in-Ok.value c.in-Ok.ensures.goes c.in-To.first c.in-To.second c.wait.new.arrivals
    c.wait-in-To.new.arrivals c.in-To.is c.in-Ok-wait.ensures d)
    c.wait-in-To.ensures
