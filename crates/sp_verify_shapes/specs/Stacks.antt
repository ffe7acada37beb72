-- None of this belongs to what the program promises: it is for contracts between crates.
-- Lists of shapes by numbers: each list is kept once, as its first shape and the number of the rest.
use Rattle.std.specs.Prelude.{◌≡◌, ℕ, zero, suc, ◌+◌, ◌*◌, ◌≤◌, ◌<◌, List, [], ◌∷◌, ◌++◌, Option, Some}
use Rattle.std.specs.Prelude.{slice_get, length}
use Rattle.std.specs.Ordering.{nat_cmp}
use Rattle.std.specs.BTreeMap.{get}
use Rattle.sp_code.specs.declared.code.Formal.{Formal}
use Rattle.sp_verify_rules.specs.Areas.{on_option}
use Rattle.sp_verify_rules.specs.Shapes.{Shape, O, C, L, A}
use Rattle.sp_verify_shapes.specs.declared.stacks.Shape.{Shape as Kept}
use Rattle.sp_verify_shapes.specs.declared.stacks.Shape.TheVariants as kept
use Rattle.sp_verify_shapes.specs.declared.stacks.Cell.{Cell}
use Rattle.sp_verify_shapes.specs.declared.stacks.Jump.{Jump}
use Rattle.sp_verify_shapes.specs.declared.stacks.Stacks.{Stacks}
use Rattle.sp_verify_shapes.specs.Asks.{AllFit}

-- the shape that the code means
abbrev pub shape_of : Kept → Shape
shape_of kept.Ordinal = O
shape_of kept.Channel = C
shape_of (kept.Cells n) = L n
shape_of (kept.Address x n) = A x n

-- the list of a number, by cells of which each has its rest before it: at most so many shapes of it
abbrev pub shapes_from : List Cell → ℕ → ℕ → List Shape
shapes_from cs zero n = []
shapes_from cs (suc k) zero = []
shapes_from cs (suc k) (suc i) = on_option [] (slice_get cs i) (λ c. shape_of c.shape ∷ shapes_from cs k c.below)

-- the list of a number: 0 is the empty one
abbrev pub list_of : Stacks → ℕ → List Shape
list_of st n = shapes_from st.cells n n

-- a number of a list
abbrev pub IsListNumber : Stacks → ℕ → Type 0
IsListNumber st n = n ≤ length st.cells

-- each list that was there is there, under its number
abbrev pub Extends : Stacks → Stacks → Type 0
Extends old new = (n : ℕ) → IsListNumber old n → IsListNumber new n × (list_of new n ≡ list_of old n)

-- a shape by one number; of another shape it is another one
abbrev pub shape_key : Kept → ℕ
shape_key kept.Ordinal = 0
shape_key kept.Channel = 1
shape_key (kept.Cells n) = 2 + n
shape_key (kept.Address x n) = 4294967298 + x * 4294967296 + n

-- a shape and the number of the rest by one number
abbrev pub key_of : Kept → ℕ → ℕ
key_of s below = shape_key s * 4294967296 + below

-- the number under a key
abbrev pub number_at : Stacks → ℕ → Option ℕ
number_at st key = get nat_cmp st.known key

-- the numbers in a shape are of 32 bits
abbrev pub IsSmall : Kept → Type 0
IsSmall kept.Ordinal = Unit {0}
IsSmall kept.Channel = Unit {0}
IsSmall (kept.Cells n) = n < 4294967296
IsSmall (kept.Address x n) = (x < 4294967296) × (n < 4294967296)

-- a list has so many shapes before those of another one
pub record HasBefore (k : ℕ) (ss ts : List Shape) : Type 0 where
  pub before : List Shape
  pub many : length before ≡ k
  pub whole : ss ≡ before ++ ts

-- a jump leads from a list to what is left of it behind so many shapes, which all fit its formal
pub record JumpsIn (cs : List Cell) (ss : List Shape) (j : Jump) : Type 0 where
  pub held : j.to ≤ length cs
  pub lands : HasBefore j.far ss (shapes_from cs j.to j.to)
  pub fits : (f : Formal) → j.fits ≡ Some f → AllFit f lands.before

abbrev pub IsJump : Stacks → List Shape → Jump → Type 0
IsJump st = JumpsIn st.cells

-- the rest of each list comes before it, its jump leads to what is left of it, and under each key stands the number of
-- the list that it is the key of
pub record IsStacks (st : Stacks) : Type 0 where
  pub few : length st.cells < 4294967296
  pub earlier : (i : ℕ) (c : Cell) → slice_get st.cells i ≡ Some c → c.below ≤ i
  pub small : (i : ℕ) (c : Cell) → slice_get st.cells i ≡ Some c → IsSmall c.shape
  pub known : (i : ℕ) (c : Cell) → slice_get st.cells i ≡ Some c → number_at st (key_of c.shape c.below) ≡ Some (i + 1)
  pub jumps : (i : ℕ) (c : Cell) → slice_get st.cells i ≡ Some c → IsJump st (list_of st (i + 1)) c.jump
  pub found : (key n : ℕ) → number_at st key ≡ Some n → (i : ℕ) × (c : Cell) × (n ≡ i + 1)
      × (slice_get st.cells i ≡ Some c) × (key ≡ key_of c.shape c.below)
