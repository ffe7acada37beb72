-- None of this belongs to what the program promises: it is for contracts between crates.
-- The operators, which the meaning and the code share: those of `sp_tree`, passed on.
pub use Rattle.sp_tree.specs.Operators.{OperatorResult, Yields, OperatorFault, is_integer, integer, truth}
pub use Rattle.sp_tree.specs.Operators.{value_in_range, successor}
pub use Rattle.sp_tree.specs.Operators.{predecessor, modulo, same_ordinal, is_range, is_before, next_value}
pub use Rattle.sp_tree.specs.Operators.{absolute_value}
pub use Rattle.sp_tree.specs.Operators.{square, is_odd, unary_op, binary_op, least_ordinal, greatest_ordinal}
