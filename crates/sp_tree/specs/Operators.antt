-- All of this belongs to what the program promises (docs/promise.txt).
-- Operators and standard functions of ordinals, as functions to a number or a fault. The meaning and the code share
-- them, and `sp_machine` promises them, so that no operator is said twice. `succ` tests the greatest number of its
-- type alone and `pred` the least, since a value in range is what either is given.
use Rattle.std.specs.Prelude.{ℤ, pos, ◌+ℤ◌, ◌-ℤ◌, ◌*ℤ◌, neg_ℤ, nat_abs, int_lt, int_le, int_div, int_rem, Bool, ◌&&◌}
use Rattle.std.specs.Prelude.{◌||◌, not, if◌then◌else◌}
use Rattle.sp_base.specs.declared.fault.Fault.{Fault}
use Rattle.sp_base.specs.declared.fault.Fault.TheVariants as fault
use Rattle.sp_base.specs.declared.limits.TheConstants.{MAXINT}
use Rattle.sp_tree.specs.declared.checked.KindOf.{KindOf}
use Rattle.sp_tree.specs.declared.checked.KindOf.TheVariants as kind
use Rattle.sp_tree.specs.declared.operators.UnaryOp.{UnaryOp}
use Rattle.sp_tree.specs.declared.operators.UnaryOp.TheVariants as unary
use Rattle.sp_tree.specs.declared.operators.BinaryOp.{BinaryOp}
use Rattle.sp_tree.specs.declared.operators.BinaryOp.TheVariants as binary

-- what an operator gives: an ordinal, or a fault
pub data OperatorResult : Type 0 where
  Yields : (n : ℤ) → OperatorResult
  OperatorFault : (fault : Fault) → OperatorResult

-- integers are -maxint to maxint
abbrev pub is_integer : ℤ → Bool
is_integer n = int_le (neg_ℤ MAXINT) n && int_le n MAXINT

-- an integer that stays in their range, or F2
abbrev pub integer : ℤ → OperatorResult
integer n = if is_integer n then Yields n else OperatorFault fault.F2

-- what a condition takes as true: in code of a tree 1, and in code from a file any number above 0
abbrev pub is_true : ℤ → Bool
is_true n = not (int_le n (pos 0))

-- false is 0, and true is 1
abbrev pub truth : Bool → OperatorResult
truth b = Yields (if b then pos 1 else pos 0)

-- a number in a range, or F1
abbrev pub value_in_range : ℤ → ℤ → ℤ → OperatorResult
value_in_range low high n = if int_le low n && int_le n high then Yields n else OperatorFault fault.F1

-- the number after one below the greatest, and the number before one above the least, or F1
abbrev pub successor : ℤ → ℤ → OperatorResult
successor high n = if int_lt n high then Yields (n +ℤ pos 1) else OperatorFault fault.F1

abbrev pub predecessor : ℤ → ℤ → OperatorResult
predecessor low n = if int_lt low n then Yields (n -ℤ pos 1) else OperatorFault fault.F1

-- i mod j is from 0 to j - 1 (ISO 7185)
abbrev pub modulo : ℤ → ℤ → ℤ
modulo i j = if int_lt (int_rem i j) (pos 0) then int_rem i j +ℤ j else int_rem i j

-- whether two ordinals are equal
abbrev pub same_ordinal : ℤ → ℤ → Bool
same_ordinal m n = int_le m n && int_le n m

-- for loops, up and down: there is a value, there is a next one, the next one
abbrev pub is_range : Bool → ℤ → ℤ → Bool
is_range down from to = if down then int_le to from else int_le from to

abbrev pub is_before : Bool → ℤ → ℤ → Bool
is_before down n limit = if down then int_lt limit n else int_lt n limit

abbrev pub next_value : Bool → ℤ → ℤ
next_value down n = if down then n -ℤ pos 1 else n +ℤ pos 1

abbrev pub absolute_value : ℤ → OperatorResult
absolute_value n = integer (pos (nat_abs n))

abbrev pub square : ℤ → OperatorResult
square n = integer (n *ℤ n)

abbrev pub is_odd : ℤ → OperatorResult
is_odd n = truth (not (same_ordinal (int_rem n (pos 2)) (pos 0)))

abbrev pub unary_op : UnaryOp → ℤ → OperatorResult
unary_op unary.Plus n = Yields n
unary_op unary.Minus n = integer (neg_ℤ n)
unary_op unary.Not n = truth (int_le n (pos 0))

-- `div` truncates toward zero and is F3 by 0; `mod` is F3 by what is not above 0
abbrev pub binary_op : BinaryOp → ℤ → ℤ → OperatorResult
binary_op binary.Eq m n = truth (same_ordinal m n)
binary_op binary.Ne m n = truth (not (same_ordinal m n))
binary_op binary.Lt m n = truth (int_lt m n)
binary_op binary.Le m n = truth (int_le m n)
binary_op binary.Gt m n = truth (int_lt n m)
binary_op binary.Ge m n = truth (int_le n m)
binary_op binary.Add m n = integer (m +ℤ n)
binary_op binary.Sub m n = integer (m -ℤ n)
binary_op binary.Or m n = truth (is_true m || is_true n)
binary_op binary.Mul m n = integer (m *ℤ n)
binary_op binary.Div m n = if same_ordinal n (pos 0) then OperatorFault fault.F3 else integer (int_div m n)
binary_op binary.Mod m n = if int_le n (pos 0) then OperatorFault fault.F3 else integer (modulo m n)
binary_op binary.And m n = truth (is_true m && is_true n)

-- an ordinal type's least and greatest number
abbrev pub least_ordinal : KindOf → ℤ
least_ordinal kind.Integer = neg_ℤ MAXINT
least_ordinal _ = pos 0

-- the greatest integer
abbrev pub greatest_ordinal : KindOf → ℤ
greatest_ordinal kind.Integer = MAXINT
greatest_ordinal kind.Boolean = pos 1
greatest_ordinal kind.Char = pos 255
greatest_ordinal (kind.Enumeration n) = pos n -ℤ pos 1
greatest_ordinal _ = pos 0
