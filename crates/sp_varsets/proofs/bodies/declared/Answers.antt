use Rattle.std.proofs.Common.{length, arith, refl, sym, subst}
use Rattle.std.proofs.lemmas.Option.{slice_get_read}
use Rattle.sp_base.proofs.Facts.{get_of_map}
use Rattle.sp_tree.specs.declared.checked.Variable.{Variable}
use Rattle.sp_tree.specs.Bare.{without_places, variable_of}
use Rattle.sp_tree.specs.CheckedOf.{program_of}
use Rattle.sp_varsets.specs.Bodies.{Declares}
use Rattle.sp_varsets.proofs.BlockRows.{declared_more}
use Rattle.sp_varsets.proofs.bodies.declared.Goals as goal

pub variables-preserved : goal.variables-preserved
variables-preserved c =
    let inside = c.variables-test.true in
    let at0 = slice_get_read c.items-variables.result.now (length c.items-variables.result.now) c.variables.x
    c.index-variables-x.result refl (omega arith) c.index-variables-x.is in
    let at1 = rw c.items-variables.ensures at at0 in
    declared_more (without_places (program_of c.args.checked.now)) c.variables.rows c.declare.new.rows c.variables.x
    (variable_of c.index-variables-x.result) c.variables.invariant
    (get_of_map variable_of c.args.checked.now.variables c.variables.x c.index-variables-x.result at1)
    (subst (λ (z : Variable). Declares (without_places (program_of c.args.checked.now)) c.variables.rows
    c.declare.new.rows
    c.variables.x z.block) (sym c.index-variables-x.is) c.in-Ok-declare.ensures)
