-- None of this belongs to what the program promises: it is for contracts between crates.
-- What paths of calls lead to, from a row of members for each block. The contracts of `closure` promise it: by paths,
-- so that the way in which the closure is computed does not show.
use Rattle.std.specs.Prelude.{◌≡◌, ◌≢◌, ◌↔◌, ◌⊎◌, ℕ, ◌<◌, Bool, true, false, List, [], ◌∷◌, length, Option, Some, None}
use Rattle.std.specs.Prelude.{slice_get}
use Rattle.sp_varsets.specs.declared.var_set.VarSet.{VarSet}
use Rattle.sp_varsets.specs.Members.{has}

-- the row is there and has the member
abbrev pub row_has : Option VarSet → ℕ → Bool
row_has None x = false
row_has (Some s) x = has s x

-- the row of this block has the member
abbrev pub member : List VarSet → ℕ → ℕ → Bool
member rows b x = row_has (slice_get rows b) x

-- the row of the last block of a path has the member, and no block before it hides it
abbrev pub PathLeads : List VarSet → List VarSet → List VarSet → List ℕ → ℕ → ℕ → Type 0
PathLeads rows calls hidden [] b x = member rows b x ≡ true
PathLeads rows calls hidden (c ∷ cs) b x = (member calls b c ≡ true) × (member hidden b x ≡ false)
    × PathLeads rows calls hidden cs c x

-- the new rows have what the old ones had, and only what paths lead to
pub record ExtendsByPaths (calls hidden old new : List VarSet) : Type 0 where
  pub rows : length new ≡ length old
  pub kept : (b x : ℕ) → member old b x ≡ true → member new b x ≡ true
  pub led : (b x : ℕ) → member new b x ≡ true → (cs : List ℕ) × PathLeads old calls hidden cs b x

-- the row of a block that is called was added to that of one that calls it
pub record Carried (old new : List VarSet) (to from : ℕ) (hidden : VarSet) (changed : Bool) : Type 0 where
  pub rows : length new ≡ length old
  pub kept : (b x : ℕ) → member old b x ≡ true → member new b x ≡ true
  pub led : (b x : ℕ) → member new b x ≡ true → (member old b x ≡ true)
      ⊎ ((b ≡ to) × (has hidden x ≡ false) × (member old from x ≡ true))
  pub others : (b x : ℕ) → b ≢ to → member new b x ≡ member old b x
  pub full : (x : ℕ) → has hidden x ≡ false → member new from x ≡ true → member new to x ≡ true
  pub none : changed ≡ false → (b x : ℕ) → member new b x ≡ member old b x
  pub some : changed ≡ true → (x : ℕ) × (member new to x ≡ true) × (member old to x ≡ false)

-- the rows of all blocks below this number that one block calls were added to its row
pub record Visited (old new : List VarSet) (b : ℕ) (calls hidden : VarSet) (n : ℕ) (changed : Bool) : Type 0 where
  pub rows : length new ≡ length old
  pub kept : (c x : ℕ) → member old c x ≡ true → member new c x ≡ true
  pub led : (c x : ℕ) → member new c x ≡ true → (member old c x ≡ true)
      ⊎ ((c ≡ b) × (f : ℕ) × (has calls f ≡ true) × (has hidden x ≡ false) × (member old f x ≡ true))
  pub others : (c x : ℕ) → c ≢ b → member new c x ≡ member old c x
  pub full : (f x : ℕ) → f < n → has calls f ≡ true → has hidden x ≡ false → member new f x ≡ true
      → member new b x ≡ true
  pub none : changed ≡ false → (c x : ℕ) → member new c x ≡ member old c x
  pub some : changed ≡ true → (x : ℕ) × (member new b x ≡ true) × (member old b x ≡ false)

-- so for all blocks below this number, one after another
pub record PassUpTo (calls hidden old new : List VarSet) (n : ℕ) (changed : Bool) : Type 0 where
  pub follows : ExtendsByPaths calls hidden old new
  pub none : changed ≡ false → (b x : ℕ) → member new b x ≡ member old b x
  pub full : changed ≡ false → (b c x : ℕ) → b < n → member calls b c ≡ true → member hidden b x ≡ false
      → member new c x ≡ true → member new b x ≡ true
  pub some : changed ≡ true → (b : ℕ) × (x : ℕ) × (member new b x ≡ true) × (member old b x ≡ false)

-- the new rows have exactly what paths lead to
pub record Closes (calls hidden old new : List VarSet) : Type 0 where
  pub rows : length new ≡ length old
  pub members : (b x : ℕ) → (member new b x ≡ true) ↔ ((cs : List ℕ) × PathLeads old calls hidden cs b x)
