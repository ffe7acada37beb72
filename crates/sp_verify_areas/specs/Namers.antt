-- None of this belongs to what the program promises: it is for contracts between crates.
-- Which instructions name each table, as a pass over the instructions finds it: none, one or several.
use Rattle.std.specs.Prelude.{◌≡◌, ◌⊎◌, ◌≢◌, ℕ, ◌<◌, List, Some, Bool, true, slice_get, slice_set, length, replicate}
use Rattle.sp_code.specs.declared.code.ChildTable.{ChildTable}
use Rattle.sp_code.specs.declared.code.Parts.{Parts}
use Rattle.sp_verify_rules.specs.Areas.{Area, on_option}
use Rattle.sp_verify_rules.specs.NameRules.{LiesIn, Names, IsChild}
use Rattle.sp_verify_areas.specs.declared.table_names.Namer.{Namer}
use Rattle.sp_verify_areas.specs.declared.table_names.Namer.TheVariants as namer
use Rattle.sp_verify_areas.specs.declared.owners.Owner.{Owner}
use Rattle.sp_verify_areas.specs.declared.owners.Owner.TheVariants as owner
use Rattle.sp_verify_areas.specs.Owners.{is_same}

-- one more instruction names a table
abbrev pub with_namer : Namer → ℕ → Namer
with_namer namer.Nothing p = namer.One p
with_namer (namer.One q) p = namer.Several
with_namer namer.Several p = namer.Several

-- one more names this one
abbrev pub with_namer_of : List Namer → ℕ → ℕ → List Namer
with_namer_of ws t p = on_option ws (slice_get ws t) (λ w. slice_set ws t (with_namer w p))

-- no instruction names one of so many tables
abbrev pub none_yet : ℕ → List Namer
none_yet n = replicate n namer.Nothing

-- a table is at fault, by which instructions name it and whose code these are
abbrev pub is_lost : List Owner → Namer → Bool
is_lost os namer.Nothing = true
is_lost os (namer.One p) = on_option true (slice_get os p) (λ o. is_same o owner.Nobody)
is_lost os namer.Several = true

module _ (c : Parts) where
  -- of the first n instructions these name table t
  abbrev pub NamedBy : ℕ → ℕ → Namer → Type 0
  NamedBy n t namer.Nothing = (q : ℕ) → q < n → Names c t q → ⊥
  NamedBy n t (namer.One p) = (p < n) × Names c t p × ((q : ℕ) → q < n → Names c t q → q ≡ p)
  NamedBy n t namer.Several = (q r : ℕ) × Names c t q × Names c t r × (q ≢ r)

  -- and so for each table
  abbrev pub AreNamers : ℕ → List Namer → Type 0
  AreNamers n ws = (length ws ≡ length c.forks) × ((t : ℕ) (w : Namer) → slice_get ws t ≡ Some w → NamedBy n t w)

  -- no instruction names table t, or two do, or one that lies in no area
  abbrev pub IsLost : ℕ → Type 0
  IsLost t = ((q : ℕ) → Names c t q → ⊥) ⊎ (((q r : ℕ) × Names c t q × Names c t r × (q ≢ r)) ⊎ ((q : ℕ) × Names c t q
      × ((a : Area) → LiesIn c q a → ⊥)))

  -- and its first child begins at p
  abbrev pub LostAt : ℕ → ℕ → Type 0
  LostAt t p = (ch : ChildTable) × IsChild c t 0 ch × (ch.entry ≡ p) × IsLost t
