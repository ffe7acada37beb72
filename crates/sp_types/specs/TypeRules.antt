-- All of this belongs to what the program promises (docs/promise.txt).
-- The rules of types at one node, by the types of its parts. None is a part that is broken: it has no type, and a rule
-- that needs its type is not broken. The walk asks them at each node, and the functions of `rules` promise them.
use Rattle.std.specs.Option.{option_map_or}
use Rattle.std.specs.Prelude.{option_and_then}
use Rattle.std.specs.Prelude.{ℕ, ◌+◌, nat_eq, nat_lt, int_le, not, Bool, true, false, ◌&&◌, ◌||◌, if◌then◌else◌, List}
use Rattle.std.specs.Prelude.{[], ◌∷◌, length, slice_get, Option, Some, None}
use Rattle.std.specs.List.{list_any}
use Rattle.sp_base.specs.declared.place.Place.{Place}
use Rattle.sp_base.specs.declared.rule.Rule.{Rule}
use Rattle.sp_base.specs.declared.rule.Rule.TheVariants as rule
use Rattle.sp_tree.specs.declared.checked.KindOf.{KindOf}
use Rattle.sp_tree.specs.declared.checked.KindOf.TheVariants as kind
use Rattle.sp_tree.specs.declared.checked.Role.{Role}
use Rattle.sp_tree.specs.declared.checked.Role.TheVariants as role
use Rattle.sp_tree.specs.declared.checked.Variable as checked
use Rattle.sp_tree.specs.declared.operators.UnaryOp.{UnaryOp}
use Rattle.sp_tree.specs.declared.operators.UnaryOp.TheVariants as unary
use Rattle.sp_tree.specs.declared.operators.BinaryOp.{BinaryOp}
use Rattle.sp_tree.specs.declared.operators.BinaryOp.TheVariants as binary
use Rattle.sp_tree.specs.declared.operators.StandardFn.{StandardFn}
use Rattle.sp_tree.specs.declared.operators.StandardFn.TheVariants as fn
use Rattle.sp_tree.specs.declared.named.NamedConst.{NamedConst}
use Rattle.sp_tree.specs.PhaseResults.{FirstRefusal, refusal_at, refusal_if, earlier_refusal}
use Rattle.sp_tree.specs.Cells.{first_or, cells_by}
use Rattle.sp_types.specs.declared.tables.Ordinal.{Ordinal}
use Rattle.sp_types.specs.FieldTable.{field_from}
use Rattle.sp_types.specs.Tables.{Env, kind_at, value_by, has_wrong_sign, is_long, are_wrong}

-- the three types that every program has
abbrev pub integer : ℕ
integer = 0

abbrev pub boolean : ℕ
boolean = 1

abbrev pub char : ℕ
char = 2

-- a type of ordinals: integer, boolean, char and enumerations
abbrev pub is_ordinal : Option KindOf → Bool
is_ordinal (Some kind.Integer) = true
is_ordinal (Some kind.Boolean) = true
is_ordinal (Some kind.Char) = true
is_ordinal (Some (kind.Enumeration n)) = true
is_ordinal k = false

-- a type of channels
abbrev pub is_channel : Option KindOf → Bool
is_channel (Some (kind.Channel ks)) = true
is_channel k = false

abbrev pub ordinal : Env → ℕ → Bool
ordinal env k = is_ordinal (kind_at env k)

abbrev pub channel : Env → ℕ → Bool
channel env k = is_channel (kind_at env k)

-- broken where the part has a type that is not taken
abbrev pub unless : Rule → Place → (ℕ → Bool) → Option ℕ → FirstRefusal
unless r at takes k = option_and_then (λ k. refusal_if r at (not (takes k))) k

-- two types are known, and they are different
abbrev pub differ : Option ℕ → Option ℕ → Bool
differ (Some j) (Some k) = not (nat_eq j k)
differ j k = false

-- what an operator takes and gives
abbrev pub unary_takes : UnaryOp → ℕ
unary_takes unary.Not = boolean
unary_takes _ = integer

-- the operator may stand between operands of this type
abbrev pub binary_takes : Env → BinaryOp → ℕ → Bool
binary_takes env binary.Eq k = ordinal env k || channel env k
binary_takes env binary.Ne k = ordinal env k || channel env k
binary_takes env binary.Lt k = ordinal env k
binary_takes env binary.Le k = ordinal env k
binary_takes env binary.Gt k = ordinal env k
binary_takes env binary.Ge k = ordinal env k
binary_takes env binary.Or k = nat_eq k boolean
binary_takes env binary.And k = nat_eq k boolean
binary_takes _ _ k = nat_eq k integer

-- the type of what a comparison or another operator gives
abbrev pub binary_gives : BinaryOp → ℕ
binary_gives binary.Add = integer
binary_gives binary.Sub = integer
binary_gives binary.Mul = integer
binary_gives binary.Div = integer
binary_gives binary.Mod = integer
binary_gives _ = boolean

-- Y1: an operand of a type that its operator does not take
abbrev pub unary_rule : UnaryOp → Place → Option ℕ → FirstRefusal
unary_rule op at k = unless rule.Y1 at (nat_eq (unary_takes op)) k

-- Y1 at the left operand
abbrev pub left_rule : Env → BinaryOp → Place → Option ℕ → FirstRefusal
left_rule env op at k = unless rule.Y1 at (binary_takes env op) k

-- Y1: the same, or a right operand of another type than the left
abbrev pub right_rule : Env → BinaryOp → Place → Option ℕ → Option ℕ → FirstRefusal
right_rule env op at left k =
    earlier_refusal (unless rule.Y1 at (binary_takes env op) k) (refusal_if rule.Y1 at (differ left k))

-- Y2: an index on what is no array, at the variable; an index of another type than the array's, at the index
abbrev pub index_of_rule : Place → Place → Option ℕ → KindOf → FirstRefusal
index_of_rule at index_at i (kind.Array low high index element) = unless rule.Y2 index_at (nat_eq index) i
index_of_rule at index_at i k = refusal_at rule.Y2 at

abbrev pub index_kind_rule : Place → Place → Option ℕ → Option KindOf → FirstRefusal
index_kind_rule at index_at i k = option_and_then (index_of_rule at index_at i) k

-- the rule at an index, by the array's type
abbrev pub index_rule : Env → Place → Option ℕ → Place → Option ℕ → FirstRefusal
index_rule env at k index_at i = option_and_then (λ k. index_kind_rule at index_at i (kind_at env k)) k

-- a field's number and type, where the type is a record
abbrev pub field_in : List ℕ → Option KindOf → Option (ℕ × ℕ)
field_in name (Some (kind.Fields fs)) = field_from 0 name fs
field_in name k = None

-- Y3: a field of what is no record or has no such field, at the variable
abbrev pub field_found : Place → Option (ℕ × ℕ) → FirstRefusal
field_found at f = option_map_or (λ f. None) f (refusal_at rule.Y3 at)

-- the rule at a field
abbrev pub field_rule : Env → Place → Option ℕ → List ℕ → FirstRefusal
field_rule env at k name = option_and_then (λ k. field_found at (field_in name (kind_at env k))) k

-- Y4: a condition is not boolean
abbrev pub condition_rule : Place → Option ℕ → FirstRefusal
condition_rule at k = unless rule.Y4 at (nat_eq boolean) k

-- Y5: an assigned expression has another type than the variable
abbrev pub assign_rule : Place → Option ℕ → Option ℕ → FirstRefusal
assign_rule at v k = refusal_if rule.Y5 at (differ v k)

-- Y6: an actual value parameter has another type than the formal
abbrev pub value_rule : Place → Option ℕ → Option ℕ → FirstRefusal
value_rule at formal k = refusal_if rule.Y6 at (differ formal k)

-- Y7: an actual variable parameter is not written as a variable, or has another type
abbrev pub reference_rule : Place → Bool → Option ℕ → Option ℕ → FirstRefusal
reference_rule at is_variable formal k = refusal_if rule.Y7 at (not is_variable || differ formal k)

-- by the role of the formal
abbrev pub actual_rule : Option Role → Place → Bool → Option ℕ → Option ℕ → FirstRefusal
actual_rule (Some role.Reference) at is_variable formal k = reference_rule at is_variable formal k
actual_rule (Some r) at is_variable formal k = value_rule at formal k
actual_rule None at is_variable formal k = None

-- what the parameter of a standard function may be
abbrev pub standard_takes : Env → StandardFn → ℕ → Bool
standard_takes env fn.Ord k = ordinal env k
standard_takes env fn.Succ k = ordinal env k
standard_takes env fn.Pred k = ordinal env k
standard_takes env fn.Eof k = false
standard_takes env fn.Eoln k = false
standard_takes _ _ k = nat_eq k integer

-- Y8: an argument of a standard call has a type that it does not take
abbrev pub standard_rule : Env → StandardFn → Place → Option ℕ → FirstRefusal
standard_rule env f at k = unless rule.Y8 at (standard_takes env f) k

-- a type whose values are read
abbrev pub is_readable : ℕ → Bool
is_readable k = nat_eq k integer || nat_eq k char

-- a type whose values are written
abbrev pub is_writable : ℕ → Bool
is_writable k = nat_eq k integer || (nat_eq k char || nat_eq k boolean)

abbrev pub read_rule : Place → Option ℕ → FirstRefusal
read_rule at k = unless rule.Y8 at is_readable k

abbrev pub write_rule : Place → Option ℕ → FirstRefusal
write_rule at k = unless rule.Y8 at is_writable k

-- Y8: a width is no integer, at the argument
abbrev pub width_rule : Place → Option ℕ → FirstRefusal
width_rule at k = unless rule.Y8 at (nat_eq integer) k

-- Y8: what is opened, or the first argument of `send` or `receive`, is no channel
abbrev pub channel_rule : Env → Place → Option ℕ → FirstRefusal
channel_rule env at k = unless rule.Y8 at (channel env) k

-- the message types of a channel; none: it is no channel
abbrev pub messages_in : Option KindOf → Option (List ℕ)
messages_in (Some (kind.Channel ks)) = Some ks
messages_in k = None

-- the message types of a channel, where its type is known
abbrev pub messages : Env → Option ℕ → Option (List ℕ)
messages env k = option_and_then (λ k. messages_in (kind_at env k)) k

-- Y9: a sent or received type is not among the channel's message types
abbrev pub message_in_rule : Place → Option (List ℕ) → Option ℕ → FirstRefusal
message_in_rule at ks k = option_and_then (λ ks. unless rule.Y9 at (λ j. list_any (nat_eq j) ks) k) ks

-- the rule at a message, by the channel's type
abbrev pub message_rule : Env → Place → Option ℕ → Option ℕ → FirstRefusal
message_rule env at c k = message_in_rule at (messages env c) k

-- Y10: a for variable or the first limit of a forall is not ordinal
abbrev pub range_rule : Env → Place → Option ℕ → FirstRefusal
range_rule env at k = unless rule.Y10 at (ordinal env) k

-- Y10: a limit has another type than the variable, or than the first limit of a forall
abbrev pub limit_rule : Place → Option ℕ → Option ℕ → FirstRefusal
limit_rule at k limit = refusal_if rule.Y10 at (differ k limit)

-- Y11: a case selector is not ordinal
abbrev pub selector_rule : Env → Place → Option ℕ → FirstRefusal
selector_rule env at k = unless rule.Y11 at (ordinal env) k

-- Y11: a case constant has another type than the selector
abbrev pub choice_rule : Place → Option ℕ → Option ℕ → FirstRefusal
choice_rule at selector k = refusal_if rule.Y11 at (differ selector k)

-- equal in type and number
abbrev pub is_same_ordinal : Ordinal → Ordinal → Bool
is_same_ordinal a b = nat_eq a.kind b.kind && (int_le a.number b.number && int_le b.number a.number)

-- Y12: a case constant is repeated in one case statement, at the second
abbrev pub repeat_rule : Place → List Ordinal → Option Ordinal → FirstRefusal
repeat_rule at before o = option_and_then (λ o. refusal_if rule.Y12 at (list_any (is_same_ordinal o) before)) o

-- Y13: two bounds have different types, or the lower is above the upper, at the second
abbrev pub bounds_rule : Place → Option Ordinal → Option Ordinal → FirstRefusal
bounds_rule at a b = refusal_if rule.Y13 at (are_wrong a b)

-- Y14: a sign before what is no integer, or a text that is no char, in a constant
abbrev pub const_rule : List (Option Ordinal) → NamedConst → FirstRefusal
const_rule known c = refusal_if rule.Y14 c.at (is_long c.value || has_wrong_sign c.negative (value_by known c.value))

-- Y14: a text that is no char, in an expression
abbrev pub text_rule : Place → List ℕ → FirstRefusal
text_rule at t = refusal_if rule.Y14 at (not (nat_eq (length t) 1))

-- Y14: the result of a function is not ordinal
abbrev pub answer_rule : Env → Place → Option ℕ → FirstRefusal
answer_rule env at k = unless rule.Y14 at (ordinal env) k

-- how many cells a type may have, and a block's frame
abbrev pub most_cells : ℕ
most_cells = 1048576

-- L3: a type has too many cells
abbrev pub cells_rule : Place → ℕ → FirstRefusal
cells_rule at cells = refusal_if rule.L3 at (nat_lt most_cells cells)

-- the cells of one block's variables
abbrev pub frame_cells : List ℕ → List ℕ → ℕ → List checked.Variable → ℕ
frame_cells numbers sizes b [] = 0
frame_cells numbers sizes b (x ∷ xs) = (if nat_eq x.block b then
    cells_by sizes x.role (first_or 0 (slice_get numbers x.kind)) else 0) + frame_cells numbers sizes b xs

-- L6: a call of a block, or the program's variables together, have too many cells
abbrev pub frame_rule : Place → ℕ → FirstRefusal
frame_rule at cells = refusal_if rule.L6 at (nat_lt most_cells cells)
