-- None of this belongs to what the program promises: it is for contracts between crates.
-- The sets of statements with what their calls carry: a statement's own members, and those that the rows of called
-- blocks have. The contracts of `totals` promise it.
use Rattle.std.specs.Prelude.{◌≡◌, ◌⊎◌, ℕ, ◌<◌, ◌≤◌, true, List, length, Option, Some, slice_get}
use Rattle.sp_varsets.specs.declared.sets.Entry.{Entry}
use Rattle.sp_varsets.specs.declared.var_set.VarSet.{VarSet}
use Rattle.sp_varsets.specs.declared.walk.StatementSets.{StatementSets}
use Rattle.sp_varsets.specs.declared.walk.Walk.{Walk}
use Rattle.sp_varsets.specs.Paths.{member}
use Rattle.sp_varsets.specs.Records.{pool_has, Extends, IsSetOfIndex, slot_at}

-- the indexes name sets of the pool
pub record IsWithin (pool : List VarSet) (sets : StatementSets) : Type 0 where
  pub targets : sets.targets ≤ length pool
  pub expressions : sets.expressions ≤ length pool
  pub calls : sets.calls ≤ length pool

-- so for each statement
abbrev pub AreWithin : Walk → Type 0
AreWithin w = (n : ℕ) (sets : StatementSets) → slot_at w.slots n ≡ Some sets → IsWithin w.pool sets

-- a member of the statement's own set, or of the row of a block that is called in it
abbrev pub IsInTotal : List VarSet → List VarSet → ℕ → ℕ → ℕ → Type 0
IsInTotal pool rows own calls x = (pool_has pool own x ≡ true)
    ⊎ ((f : ℕ) × (pool_has pool calls f ≡ true) × (member rows f x ≡ true))

-- the entry names the statement's sets; old is the pool before
pub record IsEntry (old pool : List VarSet) (sets : StatementSets) (target_rows seen_rows : List VarSet)
    (e : Entry) : Type 0 where
  pub targets : IsSetOfIndex pool e.targets (λ x. IsInTotal old target_rows sets.targets sets.calls x)
  pub expressions : IsSetOfIndex pool e.expressions (λ x. IsInTotal old seen_rows sets.expressions sets.calls x)

-- each recorded statement below a number has an entry with its sets
pub record AreEntries (old pool : List VarSet) (slots : List (Option StatementSets)) (targets seen : List VarSet)
    (entries : List Entry) (n : ℕ) : Type 0 where
  pub count : length entries ≡ n
  pub extends : Extends old pool
  pub each : (m : ℕ) (sets : StatementSets) → m < n → slot_at slots m ≡ Some sets → (e : Entry)
      × (slice_get entries m ≡ Some e) × IsEntry old pool sets targets seen e

-- each block has an entry with its rows
pub record AreRowEntries (old pool : List VarSet) (targets seen : List VarSet) (entries : List Entry) (n : ℕ) : Type
    0 where
  pub count : length entries ≡ n
  pub extends : Extends old pool
  pub each : (b : ℕ) → b < n → (e : Entry) × (slice_get entries b ≡ Some e)
      × IsSetOfIndex pool e.targets (λ x. member targets b x ≡ true) × IsSetOfIndex pool e.expressions
      (λ x. member seen b x ≡ true)
