use Rattle.std.proofs.Common.{List, None, sym, subst}
use Rattle.sp_verify_areas.specs.declared.tree.Node.{Node}
use Rattle.sp_verify_areas.specs.Around.{PutsChild}
use Rattle.sp_verify_areas.proofs.Attachments.{puts_again}
use Rattle.sp_verify_areas.proofs.child_nodes.put_again.Goals as goal

pub returns : goal.returns
returns c =
    let old = c.args.nodes.now in
    subst (λ (ns : List Node). PutsChild old ns c.args.number None) (sym c.in-Ok.ensures.ok)
    (puts_again old c.args.number c.node-again.result c.node-again.ensures)
