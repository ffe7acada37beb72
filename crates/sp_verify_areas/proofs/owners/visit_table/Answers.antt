use Rattle.std.proofs.Common.{◌≡◌, ◌+◌, length, Some, ap, sym, ◌∙◌, subst, arith}
use Rattle.std.specs.Prelude.{slice_get}
use Rattle.sp_code.specs.declared.code.Parts.{Parts}
use Rattle.sp_verify_areas.proofs.OwnerSteps.{child_true, spread_by}
use Rattle.std.proofs.lemmas.Grind.{common_steps}
use Rattle.sp_verify_areas.proofs.owners.visit_table.Goals as goal

pub visit_children-requires-clause-owner : goal.visit_children-requires-clause-owner
visit_children-requires-clause-owner c =
    let code = c.args.code.now in
    let o = c.in-Some.o.now in
    let tb = c.in-Some-get.table.now in
    let m : c.len.result ≡ length code.instrs = c.len.ensures
    ∙ ap (λ (z : Parts). length z.instrs) c.parts-parts.ensures.same in
    let e : slice_get c.args.owners.now (length code.instrs + c.args.t) ≡ Some o = subst
    (λ n. slice_get c.args.owners.now (n + c.args.t) ≡ Some o) m (sym c.in-Some.ensures) in
    let g : slice_get code.forks c.args.t ≡ Some tb = subst
    (λ (z : Parts). slice_get z.forks c.args.t ≡ Some tb) c.parts-parts.ensures.same (sym c.in-Some-get.ensures) in
    child_true code c.args.owners.now c.args.t o tb c.items.result.now c.requires.just e g c.items.ensures

pub returns : goal.returns
returns c =
    let code = c.args.code.now in
    let o = c.in-Some.o.now in
    let tb = c.in-Some-get.table.now in
    let a = c.args.owners.now in
    let b = c.visit_children.new.owners in
    let ts = c.items.result.now in
    let m : c.len.result ≡ length code.instrs = c.len.ensures
    ∙ ap (λ (z : Parts). length z.instrs) c.parts-parts.ensures.same in
    let e : slice_get a (length code.instrs + c.args.t) ≡ Some o = subst (λ n. slice_get a (n + c.args.t) ≡ Some o) m
    (sym c.in-Some.ensures) in
    let g : slice_get code.forks c.args.t ≡ Some tb = subst
    (λ (z : Parts). slice_get z.forks c.args.t ≡ Some tb) c.parts-parts.ensures.same (sym c.in-Some-get.ensures) in
    spread_by code a b c.args.t o tb ts c.visit_children.result e g c.items.ensures c.visit_children.ensures

pub returns-in-None : goal.returns-in-None
returns-in-None c = grind (arith, common_steps)

pub returns-in-None-get : goal.returns-in-None-get
returns-in-None-get c = grind (arith, common_steps)

pub returns-then-is_same : goal.returns-then-is_same
returns-then-is_same c = grind (arith, common_steps)
