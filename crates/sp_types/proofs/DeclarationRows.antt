-- Worked rows of the rules of types on declarations, by computing: what breaks a rule, with the place, and the nearest
-- that does not.
use Rattle.std.proofs.Common.{◌≡◌, ℕ, List, [], ◌∷◌, ◌++◌, Some, None, refl}
use Rattle.std.specs.Prelude.{codes}
use Rattle.sp_base.specs.declared.rule.Rule.TheVariants as rule
use Rattle.sp_tree.specs.declared.checked.Role.TheVariants as role
use Rattle.sp_tree.specs.declared.checked.Variable as checked
use Rattle.sp_tree.specs.declared.named.NamedConstant.{NamedConstant}
use Rattle.sp_tree.specs.declared.named.NamedConstant.TheVariants as constant
use Rattle.sp_tree.specs.declared.named.NamedConst.{NamedConst}
use Rattle.sp_tree.specs.declared.named.NamedValue.TheVariants as given
use Rattle.sp_tree.specs.declared.named.NamedKind.{NamedKind}
use Rattle.sp_tree.specs.declared.named.NamedKindForm.TheVariants as form
use Rattle.sp_tree.specs.PhaseResults.{FirstRefusal, refusal_at}
use Rattle.sp_tree.specs.NamedTree.{standard_constants, standard_kinds, consoles}
use Rattle.sp_tree.specs.PlainNamed.{Empty, Block}
use Rattle.sp_types.specs.TypeFirst.{types_first}
use Rattle.sp_types.proofs.Rows.{col, given_const, minus_const, type_at, variable, does, block}

-- a program with these constants, types, variables and blocks inside
abbrev with_declarations : List NamedConstant → List NamedKind → List checked.Variable → List Block → FirstRefusal
with_declarations cs ks xs bs = types_first (record {
  constants = standard_constants (col 9) ++ cs;
  kinds = standard_kinds (col 9) ++ ks;
  variables = consoles (col 9) ++ xs;
  blocks = record { name = codes "g"; parent = None; formals = []; answer = None; body = does Empty; at = col 9 } ∷ bs;
})

-- const c = V
abbrev with_constant : NamedConst → FirstRefusal
with_constant c = with_declarations (constant.Value c ∷ []) [] [] []

-- type a = array [A..B] of integer, with the name at column 17
abbrev array : NamedConst → NamedConst → NamedKind
array a b = type_at 17 (form.Array a b 0)

abbrev with_array : NamedConst → NamedConst → FirstRefusal
with_array a b = with_declarations [] (array a b ∷ []) [] []

abbrev number : ℕ → ℕ → NamedConst
number at n = given_const at (given.Number n)

abbrev named : ℕ → ℕ → NamedConst
named at k = given_const at (given.Constant k)

-- const c = 'ab'; c = 'a'; c = -true; c = -maxint
y14_text : with_constant (given_const 12 (given.Quoted (codes "ab"))) ≡ refusal_at rule.Y14 (col 12)
y14_text = refl

y14_char : with_constant (given_const 12 (given.Quoted (codes "a"))) ≡ None
y14_char = refl

y14_sign : with_constant (minus_const 12 (given.Constant 1)) ≡ refusal_at rule.Y14 (col 12)
y14_sign = refl

y14_integer : with_constant (minus_const 12 (given.Constant 2)) ≡ None
y14_integer = refl

-- const c = -'a', by a name: a char takes no sign
y14_char_sign : with_declarations (constant.Value (given_const 12 (given.Quoted (codes "a")))
    ∷ constant.Value (minus_const 20 (given.Constant 3)) ∷ []) [] [] [] ≡ refusal_at rule.Y14 (col 20)
y14_char_sign = refl

-- array [1..true]; array [2..1]; array [1..1]; array [false..true]; array [-maxint..-1] has too many cells, but its
-- bounds stand
y13_types : with_array (number 22 1) (named 25 1) ≡ refusal_at rule.Y13 (col 25)
y13_types = refl

y13_order : with_array (number 22 2) (number 25 1) ≡ refusal_at rule.Y13 (col 25)
y13_order = refl

y13_equal : with_array (number 22 1) (number 25 1) ≡ None
y13_equal = refl

y13_truth : with_array (named 22 0) (named 29 1) ≡ None
y13_truth = refl

y13_negative : with_array (minus_const 22 (given.Number 1)) (minus_const 26 (given.Number 2))
    ≡ refusal_at rule.Y13 (col 26)
y13_negative = refl

y13_negative_kept : with_array (minus_const 22 (given.Number 2)) (minus_const 26 (given.Number 1)) ≡ None
y13_negative_kept = refl

-- array ['ab'..1]: the text has no type, and Y13 is silent
y13_silent : with_array (given_const 22 (given.Quoted (codes "ab"))) (number 28 1) ≡ refusal_at rule.Y14 (col 22)
y13_silent = refl

-- array [1..1048577]; array [1..1048576]; array [0..maxint]; array [-maxint..maxint]; array [-maxint..-maxint]
l3_more : with_array (number 26 1) (number 29 1048577) ≡ refusal_at rule.L3 (col 17)
l3_more = refl

l3_most : with_array (number 26 1) (number 29 1048576) ≡ None
l3_most = refl

l3_from_zero : with_array (number 26 0) (named 29 2) ≡ refusal_at rule.L3 (col 17)
l3_from_zero = refl

l3_all : with_array (minus_const 26 (given.Constant 2)) (named 35 2) ≡ refusal_at rule.L3 (col 17)
l3_all = refl

l3_one : with_array (minus_const 26 (given.Constant 2)) (minus_const 35 (given.Constant 2)) ≡ None
l3_one = refl

-- arrays of arrays: 1024 of 1024; 1025 of 1024
abbrev square : ℕ → List NamedKind
square n = type_at 17 (form.Array (number 18 1) (number 19 1024) 0)
    ∷ type_at 27 (form.Array (number 28 1) (number 29 n) 3) ∷ []

l3_square : with_declarations [] (square 1024) [] [] ≡ None
l3_square = refl

l3_too_wide : with_declarations [] (square 1025) [] [] ≡ refusal_at rule.L3 (col 27)
l3_too_wide = refl

-- a record of such an array and an integer
l3_record : with_declarations [] (type_at 17 (form.Array (number 18 1) (number 19 1048576) 0)
    ∷ type_at 27 (form.Fields ((codes "a", 3) ∷ (codes "b", 0) ∷ [])) ∷ []) [] [] ≡ refusal_at rule.L3 (col 27)
l3_record = refl

-- a channel of it has one cell
l3_channel : with_declarations [] (type_at 17 (form.Array (number 18 1) (number 19 1048576) 0)
    ∷ type_at 27 (form.Channel (3 ∷ [])) ∷ []) [] [] ≡ None
l3_channel = refl

-- a type of so many cells, and another name of it
abbrev wide : ℕ → List NamedKind
wide n = type_at 17 (form.Array (number 18 1) (number 19 n) 0) ∷ type_at 27 (form.Alias 3) ∷ []

-- the program's variables together: two of 524288 cells; and one integer more
l6_most : with_declarations [] (wide 524288) (variable 3 0 role.Local ∷ variable 4 0 role.Local ∷ []) [] ≡ None
l6_most = refl

l6_program : with_declarations [] (wide 524288)
    (variable 3 0 role.Local ∷ variable 4 0 role.Local ∷ variable 0 0 role.Local ∷ []) [] ≡ refusal_at rule.L6 (col 9)
l6_program = refl

-- a procedure at column 20: its variables are counted alone; a variable parameter has one cell; the index of a forall
-- has none
l6_procedure : with_declarations [] (wide 524288)
    (variable 3 0 role.Local ∷ variable 3 1 role.Value ∷ variable 4 1 role.Local ∷ variable 0 1 role.Local ∷ [])
    (block (Some 0) (3 ∷ []) None (does Empty) ∷ []) ≡ refusal_at rule.L6 (col 20)
l6_procedure = refl

l6_apart : with_declarations [] (wide 524288)
    (variable 3 0 role.Local ∷ variable 3 1 role.Value ∷ variable 4 1 role.Local ∷ [])
    (block (Some 0) (3 ∷ []) None (does Empty) ∷ []) ≡ None
l6_apart = refl

l6_reference : with_declarations [] (wide 1048575) (variable 3 1 role.Local ∷ variable 3 1 role.Reference ∷ [])
    (block (Some 0) (3 ∷ []) None (does Empty) ∷ []) ≡ None
l6_reference = refl

l6_one_reference : with_declarations [] (wide 1048575)
    (variable 3 1 role.Local ∷ variable 3 1 role.Reference ∷ variable 3 1 role.Reference ∷ [])
    (block (Some 0) (3 ∷ 4 ∷ []) None (does Empty) ∷ []) ≡ refusal_at rule.L6 (col 20)
l6_one_reference = refl

l6_index : with_declarations [] (wide 1048576) (variable 3 1 role.Local ∷ variable 0 1 role.Index ∷ [])
    (block (Some 0) [] None (does Empty) ∷ []) ≡ None
l6_index = refl

-- the result is counted: of a function with a local of 1048576 and of 1048575 cells
l6_result : with_declarations [] (wide 1048576) (variable 0 1 role.Answer ∷ variable 3 1 role.Local ∷ [])
    (block (Some 0) [] (Some (record { variable = 2; at = col 25 })) (does Empty) ∷ []) ≡ refusal_at rule.L6 (col 20)
l6_result = refl

l6_result_kept : with_declarations [] (wide 1048575) (variable 0 1 role.Answer ∷ variable 3 1 role.Local ∷ [])
    (block (Some 0) [] (Some (record { variable = 2; at = col 25 })) (does Empty) ∷ []) ≡ None
l6_result_kept = refl

-- the type of a procedure's variable is too large, and stands inside the procedure: L6 at the heading comes first
l6_first : types_first (record {
  constants = standard_constants (col 9);
  kinds = standard_kinds (col 9) ++ (type_at 40 (form.Array (number 41 1) (number 42 1048577) 0) ∷ []);
  variables = consoles (col 9) ++ (variable 3 1 role.Local ∷ []);
  blocks = record { name = codes "g"; parent = None; formals = []; answer = None; body = does Empty; at = col 9 }
      ∷ block (Some 0) [] None (does Empty) ∷ [];
}) ≡ refusal_at rule.L6 (col 20)
l6_first = refl

-- function f: T, with the type's name at column 25: an array, and an enumeration
y14_result : with_declarations [] (wide 3) (variable 3 1 role.Answer ∷ [])
    (block (Some 0) [] (Some (record { variable = 2; at = col 25 })) (does Empty) ∷ []) ≡ refusal_at rule.Y14 (col 25)
y14_result = refl

y14_ordinal_result : with_declarations [] (type_at 17 (form.Enumeration 3) ∷ []) (variable 3 1 role.Answer ∷ [])
    (block (Some 0) [] (Some (record { variable = 2; at = col 25 })) (does Empty) ∷ []) ≡ None
y14_ordinal_result = refl
