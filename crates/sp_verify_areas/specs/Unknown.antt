-- None of this belongs to what the program promises: it is for contracts between crates.
-- Rule V1, the point on the variables that a fork hands to its children: each is one that something around the fork
-- has.
use Rattle.std.specs.Prelude.{◌≡◌, ◌⊎◌, ℕ, ◌≤◌, ◌<◌, ◌++◌, List, Option, Some, None, false, slice_get}
use Rattle.sp_code.specs.declared.code.Layout.{Layout}
use Rattle.sp_code.specs.declared.code.ChildTable.{ChildTable}
use Rattle.sp_code.specs.declared.code.Parts.{Parts}
use Rattle.sp_code.specs.Memory.{Home}
use Rattle.sp_verify_rules.specs.Areas.{Area, homes}
use Rattle.sp_verify_rules.specs.Reach.{IsMember}
use Rattle.sp_verify_rules.specs.NameRules.{Names, IsChild, some_has}
use Rattle.sp_verify_areas.specs.Only.{LiesOnlyIn}

-- a variable other than the input and the output is in none of these homes
abbrev pub OneUnknown : List Layout → ℕ → List Home → Type 0
OneUnknown ls x hs = (2 ≤ x) × (some_has ls x hs ≡ false)

-- one of these variables, other than the input and the output, is in none of these homes
abbrev pub HasUnknown : List Layout → List ℕ → List Home → Type 0
HasUnknown ls xs hs = (x : ℕ) × IsMember x xs × OneUnknown ls x hs

-- it is one that child k of a fork gets, and the child begins there
abbrev pub ChildUnknown : List Layout → List Home → List ChildTable → ℕ → ℕ → Type 0
ChildUnknown ls hs ts k p = (ch : ChildTable) × (slice_get ts k ≡ Some ch) × (ch.entry ≡ p)
    × HasUnknown ls (ch.moved ++ ch.shared) hs

-- the instruction at q, of one area alone, names the table of a child that begins at p and gets one
pub record UnknownBy (c : Parts) (q p : ℕ) : Type 0 where
  pub area : Area
  pub table : ℕ
  pub number : ℕ
  pub child : ChildTable
  pub names_table : Names c table q
  pub lies_only_there : LiesOnlyIn c q area
  pub is_child : IsChild c table number child
  pub begins : child.entry ≡ p
  pub unknown : HasUnknown c.layouts (child.moved ++ child.shared) (homes c area)

-- 8: some instruction of one area alone does
abbrev pub UnknownOnly : Parts → ℕ → Type 0
UnknownOnly c p = (q : ℕ) × UnknownBy c q p

-- before a number, if there is one
abbrev pub IsBelow : Option ℕ → ℕ → Type 0
IsBelow None p = Unit {0}
IsBelow (Some n) p = p < n

-- where something is found at p, and that is before the first place so far, p is the first one now
abbrev pub IsBetter : Option ℕ → ℕ → Type 0 → Option ℕ → Type 0
IsBetter first p U result = ((result ≡ first) × (IsBelow first p → U → ⊥)) ⊎ ((result ≡ Some p) × IsBelow first p × U)
