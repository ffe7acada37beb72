use Rattle.std.proofs.Common.{sym, ◌∙◌, subst, List}
use Rattle.std.specs.Prelude.{◌≡◌, Some}
use Rattle.sp_base.proofs.Facts.{on_map as ok_on}
use Rattle.sp_code.specs.declared.code.Layout.{Layout}
use Rattle.sp_code.specs.declared.code.Parts.{Parts}
use Rattle.sp_code.specs.Machine.{layout_of}
use Rattle.sp_verify_shapes.specs.Stacks.{list_of}
use Rattle.sp_verify_effects.specs.Edges.{Links, IsCall, CalledAt}
use Rattle.sp_verify_effects.specs.Linked.{AreLinked}
use Rattle.sp_verify_effects.proofs.EdgeRows.{no_stack, call_at}
use Rattle.sp_verify_effects.proofs.edges.link_called.Goals as goal

pub returns-in-None-clause-edges : goal.returns-in-None-clause-edges
returns-in-None-clause-edges c = no_stack c.args.g.now.code.now c.args.p c.args.acts.now c.args.g.now.shapes.now
    c.requires.known.shapes c.args.rows.now
    (sym c.reached.ensures ∙ c.in-None.is)

pub link_call-requires-clause-linked : goal.link_call-requires-clause-linked
link_call-requires-clause-linked c =
    let f = c.in-Some-called_block.block in
    let l = c.in-Some-find.layout.now in
    c.requires.linked f c.args.to l (subst (λ (z : Parts). layout_of z.layouts f ≡ Some l) c.parts.ensures.same
    (sym c.in-Some-find.ensures))

pub returns-in-Some-find-clause-linked : goal.returns-in-Some-find-clause-linked
returns-in-Some-find-clause-linked c =
    let code = c.args.g.now.code.now in
    let st = c.args.g.now.shapes.now.stacks in
    let f = c.in-Some-called_block.block in
    let l = c.in-Some-find.layout.now in
    let x = c.args.rows.now in
    let y = c.link_call.new.rows in
    let old = c.args.linked.now in
    let new = c.link_call.new.linked in
    ok_on c.link_call.result ((ls : List Layout) → layout_of ls f ≡ Some l → AreLinked ls st x old
    → AreLinked ls st y new) (AreLinked code.layouts st y new)
    (λ v. v code.layouts (subst (λ (z : Parts). layout_of z.layouts f ≡ Some l) c.parts.ensures.same
    (sym c.in-Some-find.ensures)) c.requires.linked)
    c.link_call.ensures.linked

pub returns-in-Some-find-clause-edges : goal.returns-in-Some-find-clause-edges
returns-in-Some-find-clause-edges c =
    let code = c.args.g.now.code.now in
    let p = c.args.p in
    let n = c.args.to in
    let x = c.args.rows.now in
    let y = c.link_call.new.rows in
    let s = c.in-Some.stack in
    let f = c.in-Some-called_block.block in
    let l = c.in-Some-find.layout.now in
    let lies = c.requires.lies in
    let e : layout_of code.layouts f ≡ Some l = subst
    (λ (z : Parts). layout_of z.layouts f ≡ Some l) c.parts.ensures.same (sym c.in-Some-find.ensures) in
    let shapes = c.args.g.now.shapes.now in
    let acts = c.args.acts.now in
    ok_on c.link_call.result (Links x y (IsCall c.flag_at-acts.result l n (list_of shapes.stacks s)))
    (Links x y (CalledAt code acts p))
    (λ v. call_at code p lies.0 n lies.1 lies.2 acts x y shapes s f l c.requires.known.shapes (sym c.reached.ensures
    ∙ c.in-Some.is) (sym c.called_block.ensures ∙ c.in-Some-called_block.is) e
    (subst (λ b. Links x y (IsCall b l n (list_of shapes.stacks s))) c.flag_at-acts.ensures v))
    c.link_call.ensures.edges
