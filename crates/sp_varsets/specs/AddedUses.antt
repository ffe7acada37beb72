-- None of this belongs to what the program promises: it is for contracts between crates.
-- What a pass over a part of a tree adds to the sets that it gathers. The contracts of `uses` and `simple` promise it:
-- exactly what stands in the part, beside what was there.
use Rattle.std.specs.Prelude.{◌≡◌, ◌↔◌, ◌⊎◌, ℕ, true, false}
use Rattle.sp_tree.specs.PlainChecked as p
use Rattle.sp_tree.specs.Bare.{bare_expression, bare_variable}
use Rattle.sp_tree.specs.Plain.{Actuals}
use Rattle.sp_tree.specs.Uses.{Use, Target, Seen, CallOf, Stop, In_expr, In_target}
use Rattle.sp_varsets.specs.declared.uses.Uses.{Uses}
use Rattle.sp_varsets.specs.declared.var_set.VarSet.{VarSet}
use Rattle.sp_varsets.specs.Members.{has}

-- if the new uses are not lost, the old ones were not, and the new sets have what the old ones had, and what stands
-- here: target positions, expression positions, calls, statements that stop
pub record AddsUses (old new : Uses) (Here : Use → Type 0) : Type 0 where
  pub kept : new.is_lost ≡ false → old.is_lost ≡ false
  pub targets : new.is_lost ≡ false → (x : ℕ) → (has new.targets x ≡ true)
      ↔ ((has old.targets x ≡ true) ⊎ Here (Target x))
  pub expressions : new.is_lost ≡ false → (x : ℕ) → (has new.expressions x ≡ true)
      ↔ ((has old.expressions x ≡ true) ⊎ Here (Seen x))
  pub calls : new.is_lost ≡ false → (f : ℕ) → (has new.calls f ≡ true)
      ↔ ((has old.calls f ≡ true) ⊎ ((args : Actuals) × Here (CallOf f args)))
  pub stops : new.is_lost ≡ false → (has new.stops 0 ≡ true) ↔ ((has old.stops 0 ≡ true) ⊎ Here Stop)

-- the sets are empty
pub record AreEmpty (uses : Uses) : Type 0 where
  pub targets : (x : ℕ) → has uses.targets x ≡ false
  pub expressions : (x : ℕ) → has uses.expressions x ≡ false
  pub calls : (x : ℕ) → has uses.calls x ≡ false
  pub stops : (x : ℕ) → has uses.stops x ≡ false

-- the set has what one of both had
abbrev pub IsUnion : VarSet → VarSet → VarSet → Type 0
IsUnion a b both = (x : ℕ) → (has both x ≡ true) ↔ ((has a x ≡ true) ⊎ (has b x ≡ true))

-- if these uses are not lost, neither are the two, and each set has what one of both had
pub record AreUnions (a b both : Uses) : Type 0 where
  pub kept : both.is_lost ≡ false → (a.is_lost ≡ false) × (b.is_lost ≡ false)
  pub targets : both.is_lost ≡ false → IsUnion a.targets b.targets both.targets
  pub expressions : both.is_lost ≡ false → IsUnion a.expressions b.expressions both.expressions
  pub calls : both.is_lost ≡ false → IsUnion a.calls b.calls both.calls
  pub stops : both.is_lost ≡ false → IsUnion a.stops b.stops both.stops

-- the set but for one member
abbrev pub IsWithout : VarSet → VarSet → ℕ → Type 0
IsWithout old new y = (x : ℕ) → (has new x ≡ true) ↔ ((has old x ≡ true) × (y ≡ x → ⊥))

-- one selector, or one actual parameter
abbrev pub In_selector : p.Selector → Use → Type 0
In_selector (p.Index e) u = In_expr (bare_expression e) u
In_selector (p.Field f) u = ⊥

abbrev pub In_actual : p.Actual → Use → Type 0
In_actual (p.ByValue e) u = In_expr (bare_expression e) u
In_actual (p.ByReference v) u = In_target (bare_variable v) u
