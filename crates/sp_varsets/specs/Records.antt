-- None of this belongs to what the program promises: it is for contracts between crates.
-- What a pass over statements records of them: sets in a pool, named by an index for each statement, where 0 names the
-- empty set. The contracts of `walk` promise it.
use Rattle.std.specs.Prelude.{◌≡◌, ◌≢◌, ◌↔◌, ◌⊎◌, ℕ, zero, suc, ◌≤◌, Bool, true, false, List, length, Option, Some}
use Rattle.std.specs.Prelude.{None, slice_get}
use Rattle.sp_tree.specs.PlainChecked as p
use Rattle.sp_tree.specs.Bare.{bare_statement}
use Rattle.sp_tree.specs.Plain.{Actuals}
use Rattle.sp_tree.specs.Uses.{Use, Target, Seen, CallOf, In_stmt}
use Rattle.sp_varsets.specs.declared.uses.Uses.{Uses}
use Rattle.sp_varsets.specs.declared.var_set.VarSet.{VarSet}
use Rattle.sp_varsets.specs.declared.walk.StatementSets.{StatementSets}
use Rattle.sp_varsets.specs.declared.walk.Walk.{Walk}
use Rattle.sp_varsets.specs.Members.{has}
use Rattle.sp_varsets.specs.Parts.{number_of}
use Rattle.sp_varsets.specs.Paths.{row_has}

-- the members of a set in the pool; 0 names the empty set, n + 1 the set of place n
abbrev pub pool_has : List VarSet → ℕ → ℕ → Bool
pool_has pool zero x = false
pool_has pool (suc i) x = row_has (slice_get pool i) x

-- the pool has what it had
pub record Extends (old new : List VarSet) : Type 0 where
  pub longer : length old ≤ length new
  pub unchanged : (i x : ℕ) → i ≤ length old → pool_has new i x ≡ pool_has old i x

-- the set of this index has exactly these members
pub record IsSetOfIndex (pool : List VarSet) (i : ℕ) (F : ℕ → Type 0) : Type 0 where
  pub within : i ≤ length pool
  pub members : (x : ℕ) → (pool_has pool i x ≡ true) ↔ F x

-- what is recorded of a statement is what stands in it
pub record Records (pool : List VarSet) (sets : StatementSets) (Here : Use → Type 0) : Type 0 where
  pub targets : IsSetOfIndex pool sets.targets (λ x. Here (Target x))
  pub expressions : IsSetOfIndex pool sets.expressions (λ x. Here (Seen x))
  pub calls : IsSetOfIndex pool sets.calls (λ f. (args : Actuals) × Here (CallOf f args))

abbrev pub recorded_sets : Option (Option StatementSets) → Option StatementSets
recorded_sets None = None
recorded_sets (Some o) = o

-- what is recorded under a number
abbrev pub slot_at : List (Option StatementSets) → ℕ → Option StatementSets
slot_at slots n = recorded_sets (slice_get slots n)

-- these statements were recorded under their numbers, and nothing else changed
pub record RecordsStatements (old new : Walk) (S : p.Statement → Type 0) : Type 0 where
  pub pool : Extends old.pool new.pool
  pub all : (t : p.Statement) → S t → (sets : StatementSets) × (slot_at new.slots (number_of t) ≡ Some sets)
  pub kept : (n : ℕ) (sets : StatementSets) → slot_at old.slots n ≡ Some sets → (o : StatementSets)
      × (slot_at new.slots n ≡ Some o)
  pub only : (n : ℕ) (sets : StatementSets) → slot_at new.slots n ≡ Some sets
      → (slot_at old.slots n ≡ Some sets) ⊎ ((t : p.Statement) × S t × (number_of t ≡ n)
      × Records new.pool sets (In_stmt (bare_statement t)))

-- the sets were recorded under this number, and nothing else changed
pub record RecordsSets (old new : Walk) (n : ℕ) (uses : Uses) : Type 0 where
  pub pool : Extends old.pool new.pool
  pub slot : (sets : StatementSets) × (slot_at new.slots n ≡ Some sets) × IsSetOfIndex new.pool sets.targets
      (λ x. has uses.targets x ≡ true)
      × IsSetOfIndex new.pool sets.expressions (λ x. has uses.expressions x ≡ true) × IsSetOfIndex new.pool sets.calls
      (λ x. has uses.calls x ≡ true)
  pub others : (m : ℕ) → m ≢ n → slot_at new.slots m ≡ slot_at old.slots m
