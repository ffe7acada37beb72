use Rattle.std.proofs.Common.{◌≡◌, ap, ◌∙◌, subst, length, arith}
use Rattle.sp_code.specs.declared.code.Parts.{Parts}
use Rattle.sp_verify_effects.specs.Edges.{HasEdges}
use Rattle.sp_verify_effects.proofs.EdgeRows.{no_edges}
use Rattle.sp_verify_effects.proofs.edges.link_all.Goals as goal

pub loop-p-init : goal.loop-p-init
loop-p-init c =
    let code = c.args.g.now.code.now in
    let m : c.len-count.result ≡ length code.instrs = c.len-count.ensures
    ∙ ap (λ (z : Parts). length z.instrs) c.parts.ensures.same in (
      no_edges code c.args.acts.now c.in-Ok.value (c.in-Ok.ensures.0 ∙ m) c.in-Ok.ensures.1,
      c.none_linked-linked.ensures code.layouts c.args.g.now.shapes.now.stacks c.in-Ok.value,
    )

pub loop-p-preserved : goal.loop-p-preserved
loop-p-preserved c = (c.in-Ok-link_next.ensures.edges, c.in-Ok-link_next.ensures.linked)

pub returns : goal.returns
returns c =
    let code = c.args.g.now.code.now in
    let m : c.len-count.result ≡ length code.instrs = c.len-count.ensures
    ∙ ap (λ (z : Parts). length z.instrs) c.parts.ensures.same in
    let e : c.loop-p.p ≡ c.len-count.result = omega arith in
    subst (λ n. HasEdges code c.args.acts.now n c.loop-p.rows) (e ∙ m) c.loop-p.invariant.0
