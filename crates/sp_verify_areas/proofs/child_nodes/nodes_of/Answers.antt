use Rattle.std.proofs.Common.{◌+◌, ℕ, List, Option, length, ap, sym, ◌∙◌, subst}
use Rattle.sp_verify_areas.specs.Around.{AreNodes, node_of}
use Rattle.sp_verify_areas.proofs.Surroundings.{nodes_more}
use Rattle.sp_verify_areas.proofs.child_nodes.nodes_of.Goals as goal

pub loop-p-preserved : goal.loop-p-preserved
loop-p-preserved c =
    let code = c.args.code.now in
    let g = c.args.grown.now in
    let os = c.args.owners.now in
    let p = c.loop-p.p in
    subst (λ (at : List (Option ℕ)). AreNodes code os c.args.of_blocks.now g at (p + 1)) (sym c.in-Ok.ensures.ok)
    (nodes_more code c.args.of_blocks.now os g c.loop-p.at p c.node_of-node.result c.loop-p.invariant
    (c.node_of-node.ensures
    ∙ ap (node_of code (length g.nodes) c.args.of_blocks.now g.of) c.owner_in-owner.ensures))
