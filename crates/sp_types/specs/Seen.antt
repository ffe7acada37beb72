-- None of this belongs to what the program promises: it is for contracts between crates.
-- Constants, and an ordered set of the same. The contracts of `seen` cite it, for the rule that no constant of a
-- `case` comes twice.
use Rattle.std.specs.Prelude.{◌≡◌, ℕ, ℤ, List}
use Rattle.std.specs.List.{list_any}
use Rattle.std.specs.declared.cmp.Ordering.{Ordering}
use Rattle.std.specs.Ordering.{nat_cmp, int_cmp, ordering_then, is_eq}
use Rattle.sp_types.specs.declared.tables.Ordinal.{Ordinal}
use Rattle.sp_types.specs.TypeRules.{is_same_ordinal}

-- the order of the set: by types, then by numbers
abbrev pub key_cmp : ℕ × ℤ → ℕ × ℤ → Ordering
key_cmp x y = ordering_then (nat_cmp x.0 y.0) (int_cmp x.1 y.1)

-- The keys are those of the constants: each constant is among the ones as it is among the others.
abbrev pub IsSet : List Ordinal → List (ℕ × ℤ) → Type 0
IsSet constants keys = (o : Ordinal) → list_any (λ (k : ℕ × ℤ). is_eq (key_cmp (o.kind, o.number) k)) keys
    ≡ list_any (is_same_ordinal o) constants
