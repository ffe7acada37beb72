-- None of this belongs to what the program promises: it is for contracts between crates.
-- What the children before another one of their table are handed, as a verifier keeps it.
use Rattle.std.specs.Prelude.{◌≡◌, ◌↔◌, ℕ, List, true}
use Rattle.sp_code.specs.declared.code.ChildTable.{ChildTable}
use Rattle.sp_verify_rules.specs.Effects.{handed_to}
use Rattle.sp_verify_effects.specs.declared.child_effects.Before.{Before}
use Rattle.sp_verify_effects.specs.ChildEffects.{SomeHas, moved_to}
use Rattle.sp_verify_effects.specs.Sets.{has}

-- of the first so many children
pub record IsBefore (ts : List ChildTable) (n : ℕ) (b : Before) : Type 0 where
  pub moved : (x : ℕ) → (has b.moved.keys x ≡ true) ↔ SomeHas moved_to ts n x
  pub handed : (x : ℕ) → (has b.handed.keys x ≡ true) ↔ SomeHas handed_to ts n x
