-- None of this belongs to what the program promises: it is for contracts between crates.
-- Variables that are declared a second time: what a pass knows of the declarations before the one that it looks at.
use Rattle.std.specs.Prelude.{◌≡◌, ◌⊎◌, ℕ, ◌<◌, Option, Some, Bool, true, false, ◌||◌, cond, nat_lt}
use Rattle.std.specs.Ordering.{nat_cmp, is_eq}
use Rattle.std.specs.BTreeSet.{BTreeSet, contains}
use Rattle.sp_code.specs.declared.code.Parts.{Parts}
use Rattle.sp_verify_rules.specs.NameRules.{Declared, IsBefore, declaration_at}
use Rattle.sp_verify_areas.specs.declared.declarations.Seen.{Seen}
use Rattle.sp_verify_areas.specs.LeastPlaces.{IsLeast, earlier_of}

module _ (c : Parts) where
  -- a variable is declared before this one
  abbrev pub IsDeclaredBefore : Declared → ℕ → Type 0
  IsDeclaredBefore d x = (e : Declared) × (q : ℕ) × IsBefore e d × (declaration_at c e ≡ Some (x, q))

  -- this declares a variable, at p, that is declared before, or the input or the output
  abbrev pub IsLate : Declared → ℕ → Type 0
  IsLate d p = (x : ℕ) × (declaration_at c d ≡ Some (x, p)) × ((x < 2) ⊎ IsDeclaredBefore d x)

  -- one before this does
  abbrev pub IsLateBefore : Declared → ℕ → Type 0
  IsLateBefore d p = (e : Declared) × IsBefore e d × IsLate e p

  -- the set has the variables that are declared before this, and the answer is the least place at which one of them is
  -- late
  pub record SeenBefore (d : Declared) (seen : BTreeSet ℕ) (first : Option ℕ) : Type 0 where
    pub has : (x : ℕ) → IsDeclaredBefore d x → contains nat_cmp seen x ≡ true
    pub just : (x : ℕ) → contains nat_cmp seen x ≡ true → IsDeclaredBefore d x
    pub lowest : IsLeast (IsLateBefore d) first

  -- this is so of what was seen, if memory was not refused
  abbrev pub IsSeen : Declared → Seen → Type 0
  IsSeen d s = s.is_lost ≡ false → SeenBefore d s.variables s.first

-- a variable is late
abbrev pub is_late : BTreeSet ℕ → ℕ → Bool
is_late seen x = nat_lt x 2 || contains nat_cmp seen x

-- a variable is noted, with the first instruction of what declares it
pub record NotesVariable (old new : BTreeSet ℕ) (before now : Option ℕ) (x entry : ℕ) : Type 0 where
  pub added : (y : ℕ) → contains nat_cmp new y ≡ cond (is_eq (nat_cmp x y)) true (contains nat_cmp old y)
  pub here : Option ℕ
  pub now_is : now ≡ earlier_of before here
  pub late : IsLeast (λ p. (entry ≡ p) × (is_late old x ≡ true)) here
