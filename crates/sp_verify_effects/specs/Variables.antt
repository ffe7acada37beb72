-- None of this belongs to what the program promises: it is for contracts between crates.
-- Which variables blocks have: an ordered set of the first instructions of blocks, each with a variable.
use Rattle.std.specs.Prelude.{◌≡◌, ◌⊎◌, ◌↔◌, ℕ, List, [], ◌∷◌, Some, Bool, true, false, ◌&&◌, ◌||◌, not, nat_le}
use Rattle.std.specs.Prelude.{slice_get}
use Rattle.sp_tree.specs.Interference.{IsMember}
use Rattle.sp_code.specs.declared.code.Layout.{Layout}
use Rattle.sp_code.specs.declared.code.Parts.{Parts}
use Rattle.sp_verify_effects.specs.Facts.{has_pair}

-- the block that begins there has a variable
abbrev pub owns : List (ℕ × ℕ) → ℕ → ℕ → Bool
owns ks m x = has_pair ks (m, x)

-- pairs are added
abbrev pub AddsPairs : List (ℕ × ℕ) → List (ℕ × ℕ) → (ℕ × ℕ → Type 0) → Type 0
AddsPairs old new W = (q : ℕ × ℕ) → (has_pair new q ≡ true) ↔ ((has_pair old q ≡ true) ⊎ W q)

-- a first instruction, and a variable among these
abbrev pub IsOwnOf : ℕ → List ℕ → ℕ × ℕ → Type 0
IsOwnOf m xs q = (q.0 ≡ m) × IsMember q.1 xs

-- of a layout, and a variable of it
abbrev pub IsOwnIn : List Layout → ℕ × ℕ → Type 0
IsOwnIn ls q = (j : ℕ) × (l : Layout) × (slice_get ls j ≡ Some l) × IsOwnOf l.entry l.variables q

-- the pairs are those
abbrev pub AreOwn : Parts → List (ℕ × ℕ) → Type 0
AreOwn c ks = (q : ℕ × ℕ) → (has_pair ks q ≡ true) ↔ IsOwnIn c.layouts q

-- one of these variables, from number n on, is not of the block that begins there
abbrev pub goes_out : List (ℕ × ℕ) → (m n : ℕ) → List ℕ → Bool
goes_out ks m n [] = false
goes_out ks m n (x ∷ xs) = (nat_le n x && not (owns ks m x)) || goes_out ks m n xs

-- a layout at place j does something, and has its first instruction there
abbrev pub LayoutDoes : (ℕ → Layout → Type 0) → List Layout → ℕ → ℕ → Type 0
LayoutDoes Does ls j p = (l : Layout) × (slice_get ls j ≡ Some l) × (l.entry ≡ p) × Does j l
