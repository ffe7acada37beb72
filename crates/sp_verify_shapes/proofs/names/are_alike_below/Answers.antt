use Rattle.sp_verify_shapes.proofs.AlikeLists.{alike_below}
use Rattle.sp_verify_shapes.proofs.names.are_alike_below.Goals as goal

pub returns-else-not-have_one_name : goal.returns-else-not-have_one_name
returns-else-not-have_one_name c = λ e.
    alike_below c.args.stacks.now c.args.one.below c.args.other.below c.in-Some.near c.in-Some-cell.over
    c.in-Some-cell-2.next c.args.one.jump.far c.requires.stacks c.in-Some.ensures c.in-Some-cell.ensures
    c.in-Some-cell-2.ensures (c.have_one_name.ensures c.if-not-have_one_name.false)
    (c.have_one_name-in-Some-cell-2.ensures e) c.if-one-near.false
