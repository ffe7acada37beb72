-- None of this belongs to what the program promises: it is for contracts between crates.
-- Lists of shapes of which the topmost addresses are known to be those of different variables.
use Rattle.std.specs.Prelude.{◌≡◌, ℕ, ◌<◌, ◌≤◌, List, Some, length, slice_get}
use Rattle.std.specs.Ordering.{nat_cmp}
use Rattle.std.specs.BTreeMap.{BTreeMap, get}
use Rattle.sp_verify_rules.specs.Shapes.{Shape, A}
use Rattle.sp_verify_shapes.specs.declared.stacks.Stacks.{Stacks}
use Rattle.sp_verify_shapes.specs.Stacks.{list_of}
use Rattle.sp_verify_effects.specs.declared.windows.Window.{Window}

-- no two addresses among the topmost shapes, so many, have one variable
abbrev pub AreApart : ℕ → List Shape → Type 0
AreApart k ss = (i j x l m : ℕ) → i < j → j < k → slice_get ss i ≡ Some (A x l) → slice_get ss j ≡ Some (A x m) → ⊥

-- the list of this number has the address of the variable on top
abbrev pub Tops : Stacks → ℕ → ℕ → Type 0
Tops st n x = (left : ℕ) × (slice_get (list_of st n) 0 ≡ Some (A x left))

-- a list with a number between these has
abbrev pub IsHeld : Stacks → (m n x : ℕ) → Type 0
IsHeld st m n x = (q : ℕ) × (m ≤ q) × (q ≤ n) × Tops st q x

-- the window says the truth about the list of this number
pub record IsWindow (st : Stacks) (n : ℕ) (w : Window) : Type 0 where
  pub apart : AreApart w.count (list_of st n)
  pub held : (i x left : ℕ) → i < w.count → slice_get (list_of st n) i ≡ Some (A x left) → IsHeld st w.deep n x

abbrev pub AreWindows : Stacks → List Window → Type 0
AreWindows st ws = (n : ℕ) (w : Window) → slice_get ws n ≡ Some w → IsWindow st n w

-- of each variable that is on top of one of the first n lists, the last one of these is known, or a later one
abbrev pub AreLast : Stacks → ℕ → BTreeMap ℕ ℕ → Type 0
AreLast st n last = (q x : ℕ) → q < n → Tops st q x → (m : ℕ) × (get nat_cmp last x ≡ Some m) × (q ≤ m)

-- the windows of the first n lists, and the last ones
pub record AreFirstWindows (st : Stacks) (n : ℕ) (ws : List Window) (latest : BTreeMap ℕ ℕ) : Type 0 where
  pub size : length ws ≡ n
  pub windows : AreWindows st ws
  pub last : AreLast st n latest
