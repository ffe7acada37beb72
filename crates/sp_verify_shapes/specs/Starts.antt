-- None of this belongs to what the program promises: it is for contracts between crates.
-- Where ways begin: at the entry of each area that is there, with no operands.
use Rattle.std.specs.Prelude.{◌≡◌, ◌⊎◌, ℕ, ◌<◌, List, Some, slice_get, length}
use Rattle.sp_code.specs.declared.code.Layout.{Layout}
use Rattle.sp_code.specs.declared.code.ChildTable.{ChildTable}
use Rattle.sp_code.specs.declared.code.Parts.{Parts}
use Rattle.sp_code.specs.Machine.{layout_of}
use Rattle.sp_verify_rules.specs.Areas.{Area, child_at, entry}
use Rattle.sp_verify_rules.specs.Reach.{IsArea}
use Rattle.sp_verify_rules.specs.NameRules.{LiesIn}
use Rattle.sp_verify_shapes.specs.declared.steps.Arrival.{Arrival}
use Rattle.sp_verify_shapes.specs.Search.{IsOneOf}

-- the empty list, brought there
abbrev pub start : ℕ → Arrival
start q = record { at = q; list = 0 }

-- so many items, and each is this one
abbrev pub AreAll : {T : Type 0} → T → ℕ → List T → Type 0
AreAll {T} x n xs = (length xs ≡ n) × ((p : ℕ) (y : T) → slice_get xs p ≡ Some y → y ≡ x)

-- an area begins there
abbrev pub IsEntry : Parts → ℕ → Type 0
IsEntry c q = (a : Area) × IsArea c a × (entry c a ≡ q)

-- starts are added, only where areas begin, and wherever this holds
pub record AddsStarts (c : Parts) (Q : ℕ → Type 0) (old new : List Arrival) : Type 0 where
  pub keeps : (x : Arrival) → IsOneOf x old → IsOneOf x new
  pub true_of : (x : Arrival) → IsOneOf x new → IsOneOf x old ⊎ ((x ≡ start x.at) × IsEntry c x.at)
  pub has : (q : ℕ) → Q q → IsOneOf (start q) new

-- one of the first layouts is its block's, and begins there
abbrev pub IsOfLayouts : Parts → ℕ → ℕ → Type 0
IsOfLayouts c n q = (j : ℕ) × (l m : Layout) × (j < n) × (slice_get c.layouts j ≡ Some l)
    × (layout_of c.layouts l.block ≡ Some m) × (m.entry ≡ q)

-- one of the first children begins there
abbrev pub IsOfChildren : List ChildTable → ℕ → ℕ → Type 0
IsOfChildren ts n q = (k : ℕ) × (ch : ChildTable) × (k < n) × (slice_get ts k ≡ Some ch) × (ch.entry ≡ q)

-- a child that an instruction of an area makes begins there
abbrev pub IsMadeAt : Parts → ℕ → ℕ → Type 0
IsMadeAt c p q = (k : ℕ) × (ch : ChildTable) × (child_at c p k ≡ Some ch) × (ch.entry ≡ q) × ((a : Area) × LiesIn c p a)

-- one of the first instructions makes it
abbrev pub IsMade : Parts → ℕ → ℕ → Type 0
IsMade c n q = (p : ℕ) × (p < n) × IsMadeAt c p q
