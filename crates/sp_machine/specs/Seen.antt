-- None of this belongs to what the program promises: it is for contracts between crates.
-- Tables of what stands under the numbers of variables: under each number what was noted first. Forks that ask for many
-- variables cite it.
use Rattle.std.specs.Prelude.{◌≡◌, ℕ, ◌==◌, if◌then◌else◌, List, Option, Some, None, length}
use Rattle.std.specs.Ordering.{nat_cmp}
use Rattle.std.specs.BTreeMap.{BTreeMap, get}
use Rattle.std.specs.Option.{option_or}
use Rattle.sp_cell.specs.declared.spot.Spot.{Spot}
use Rattle.sp_cell.specs.declared.spot.Address.{Address}
use Rattle.sp_code.specs.declared.code.Layout.{Layout}
use Rattle.sp_code.specs.Memory.{Frame, reference_target}
use Rattle.sp_code.specs.System.{spot_from}

module _ {A : Type 0} where
  -- what stands under a number
  abbrev pub under : BTreeMap ℕ A → ℕ → Option A
  under m x = get nat_cmp m x

  -- the item stands under this number, unless another one did; all others are as before
  abbrev pub Notes : BTreeMap ℕ A → BTreeMap ℕ A → ℕ → A → Type 0
  Notes old new number item = (x : ℕ) → under new x
      ≡ option_or (under old x) (if number == x then Some item else None)

  -- so stands what the function finds, behind what stood there
  abbrev pub NotesAll : BTreeMap ℕ A → BTreeMap ℕ A → (ℕ → Option A) → Type 0
  NotesAll old new f = (x : ℕ) → under new x ≡ option_or (under old x) (f x)

-- under each number stands what the first of these has under it
abbrev pub HasReferences : BTreeMap ℕ Address → List (ℕ × Address) → Type 0
HasReferences m rs = (x : ℕ) → under m x ≡ reference_target x rs

-- if there is a table, the spot of each variable stands in it, as it is found outward from the newest frame
abbrev pub IsSeen : List Layout → List Frame → Option (BTreeMap ℕ Spot) → Type 0
IsSeen ls fs None = Unit {0}
IsSeen ls fs (Some m) = (x : ℕ) → under m x ≡ spot_from ls (length fs) fs x
