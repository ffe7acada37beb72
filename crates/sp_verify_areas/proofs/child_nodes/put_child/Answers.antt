use Rattle.std.proofs.Common.{Option, ℕ, Some, sym, subst}
use Rattle.std.specs.Prelude.{OnOk}
use Rattle.sp_base.proofs.Facts.{on_map}
use Rattle.sp_verify_areas.specs.declared.tree.Frame.TheVariants as frame
use Rattle.sp_verify_areas.specs.Around.{PutsChild}
use Rattle.sp_verify_areas.specs.Grown.{PutsNode}
use Rattle.sp_verify_areas.proofs.Attachments.{puts_index}
use Rattle.sp_verify_areas.proofs.child_nodes.put_child.Goals as goal

pub returns-in-Some : goal.returns-in-Some
returns-in-Some c =
    let old = c.args.nodes.now in
    let new = c.put.new.tree in
    let x = c.in-Some.x in
    subst (λ (o : Option ℕ). OnOk c.put.result (PutsChild old new c.args.around o)) (sym c.in-Some.is)
    (on_map c.put.result (PutsNode old new (frame.Index x) (Some c.args.around))
    (PutsChild old new c.args.around (Some x))
    (puts_index old new c.args.around x) c.put.ensures)
