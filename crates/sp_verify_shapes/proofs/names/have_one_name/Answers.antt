use Rattle.std.proofs.Common.{sym, arith, eqb-true}
use Rattle.sp_verify_shapes.proofs.AlikeLists.{alike_names}
use Rattle.sp_verify_shapes.proofs.names.have_one_name.Goals as goal

pub returns-in-Some-get : goal.returns-in-Some-get
returns-in-Some-get c = λ e.
    let some = c.if-one-eq0.false in
    let more = c.if-other-eq0.false in
    alike_names c.args.stacks.now c.args.names.now c.args.one c.args.other c.in-Some.n.now c.in-Some-get.m.now
    c.requires.names (omega (arith, some)) (omega (arith, more)) (sym c.in-Some.ensures) (sym c.in-Some-get.ensures)
    (eqb-true c.in-Some.n.now c.in-Some-get.m.now e)
