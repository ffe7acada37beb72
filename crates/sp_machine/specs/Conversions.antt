-- None of this belongs to what the program promises: it is for contracts between crates.
-- The operations on one ordinal, by the names that the machine gives them. The contract of `convert` cites it.
use Rattle.std.specs.Prelude.{ℤ}
use Rattle.sp_tree.specs.declared.operators.UnaryOp.TheVariants as sign
use Rattle.sp_tree.specs.Operators.{OperatorResult, absolute_value, square, is_odd, unary_op}
use Rattle.sp_machine.specs.declared.arithmetic.Conversion.{Conversion}
use Rattle.sp_machine.specs.declared.arithmetic.Conversion.TheVariants as conversion

abbrev pub conversion_result : Conversion → ℤ → OperatorResult
conversion_result conversion.Negative = unary_op sign.Minus
conversion_result conversion.Absolute = absolute_value
conversion_result conversion.Square = square
conversion_result conversion.Odd = is_odd
conversion_result conversion.Not = unary_op sign.Not
