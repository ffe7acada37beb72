use Rattle.std.proofs.Common.{◌≡◌, length, refl, subst, arith}
use Rattle.std.proofs.lemmas.Option.{slice_get_read}
use Rattle.sp_verify_areas.specs.Around.{PutsChildren}
use Rattle.sp_verify_areas.proofs.Attachments.{puts_more, puts_none}
use Rattle.sp_verify_areas.proofs.child_nodes.put_children.Goals as goal

pub loop-child-init : goal.loop-child-init
loop-child-init c = puts_none c.args.around c.args.children.now c.args.nodes.now

pub loop-child-preserved : goal.loop-child-preserved
loop-child-preserved c =
    let ts = c.args.children.now in
    let n = c.loop-child.child-index in
    let ch = c.child-item.result in
    let g = slice_get_read ts (length ts) n ch refl c.loop-child-test.true c.child-item.is in
    puts_more c.args.around ts c.args.nodes.now c.loop-child.nodes c.put_child.new.nodes n ch g c.loop-child.invariant
    c.in-Ok.ensures

pub returns : goal.returns
returns c =
    let ts = c.args.children.now in
    let e : c.loop-child.child-index ≡ length ts = omega arith in
    subst (PutsChildren c.args.nodes.now c.loop-child.nodes c.args.around ts) e c.loop-child.invariant
