-- All of this belongs to what the program promises (docs/promise.txt).
-- The orders of lines and of variables in the text of the sets: by places. The contracts of the sorts cite it, so that
-- the text goes as the program does.
use Rattle.std.specs.Prelude.{ℕ, zero, suc, ◌+◌, List, Option, Some, None, slice_get}
use Rattle.std.specs.Ordering.{nat_cmp, on, then_cmp, is_lt}
use Rattle.std.specs.declared.cmp.Ordering.{Ordering}
use Rattle.std.specs.List.Sorted.{IsPermutation, IsSortedBy}
use Rattle.sp_base.specs.declared.place.Place.{Place}
use Rattle.sp_varsets.specs.declared.sets_line.SetsLine.{SetsLine}
use Rattle.sp_tree.specs.declared.checked.Variable.{Variable}

-- by line, and then by column
abbrev pub place_cmp : Place → Place → Ordering
place_cmp = then_cmp (on (λ p. p.line) nat_cmp) (on (λ p. p.column) nat_cmp)

-- an element statement, or a process statement by its number in its parallel statement
abbrev pub part_number : Option ℕ → ℕ
part_number None = 0
part_number (Some k) = k + 1

-- lines go by place, and those of one parallel statement by its process statements
abbrev pub line_cmp : SetsLine → SetsLine → Ordering
line_cmp = then_cmp (on (λ l. l.at) place_cmp)
    (then_cmp (on (λ l. part_number l.part) nat_cmp) (on (λ l. l.statement) nat_cmp))

-- where a variable is declared
abbrev pub declaration_place : Option Variable → Place
declaration_place None = record { line = 0; column = 0 }
declaration_place (Some v) = v.at

-- where a variable stands: the input and the output before all that is declared
abbrev pub place_of_variable : List Variable → ℕ → Place
place_of_variable vs zero = record { line = 0; column = 0 }
place_of_variable vs (suc zero) = record { line = 0; column = 0 }
place_of_variable vs (suc (suc x)) = declaration_place (slice_get vs (suc (suc x)))

-- variables go by the place of their declaration
abbrev pub variable_cmp : List Variable → ℕ → ℕ → Ordering
variable_cmp vs = then_cmp (on (place_of_variable vs) place_cmp) nat_cmp

-- the second list is the first in this order
abbrev pub IsInOrder : {X : Type 0} → (X → X → Ordering) → List X → List X → Type 0
IsInOrder {X} cmp xs ys = IsPermutation xs ys × IsSortedBy (λ a b. is_lt (cmp a b)) ys
