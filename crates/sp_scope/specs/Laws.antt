-- None of this belongs to what the program promises: it is for contracts between crates.
-- What the first broken rule of names is to all of them. The law of this crate promises it, so that the walk is tied
-- to the list of all breaches.
use Rattle.std.specs.Prelude.{◌≡◌, List, [], ◌∷◌, ◌⊎◌, Some, None}
use Rattle.sp_base.specs.declared.halt.Refusal.{Refusal}
use Rattle.sp_tree.specs.PhaseResults.{FirstRefusal}
use Rattle.sp_tree.specs.First.{IsFirst}

-- it is one of the list
abbrev pub Among : Refusal → List Refusal → Type 0
Among r [] = ⊥
Among r (s ∷ rs) = (r ≡ s) ⊎ Among r rs

-- It is one of the list, and no other is before it; or nothing is found, and the list is empty.
abbrev pub IsFirstOf : List Refusal → FirstRefusal → Type 0
IsFirstOf rs None = rs ≡ []
IsFirstOf rs (Some r) = IsFirst (λ rule at. Among (record { rule = rule; at = at }) rs) r
