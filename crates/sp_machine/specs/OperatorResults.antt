-- None of this belongs to what the program promises: it is for contracts between crates.
-- What a call of an operator gives, as the definitions of sp_tree have it. The contracts of operators, the machine
-- and the interpreter cite it.
use Rattle.std.specs.Prelude.{ℤ, Result, Ok, Err}
use Rattle.sp_base.specs.declared.fault.Fault.{Fault}
use Rattle.sp_tree.specs.Operators.{OperatorResult, Yields, OperatorFault}

-- the number, or the fault
abbrev pub operator_result : Result ℤ Fault → OperatorResult
operator_result (Ok n) = Yields n
operator_result (Err f) = OperatorFault f
