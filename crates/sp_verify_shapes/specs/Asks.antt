-- None of this belongs to what the program promises: it is for contracts between crates.
-- Formals that stand for many: what fits one fits others.
use Rattle.std.specs.Prelude.{◌≡◌, ℕ, ◌+◌, ◌<◌, ◌≤◌, List, [], ◌∷◌, Option, Some, true, length, slice_get}
use Rattle.sp_code.specs.declared.code.Formal.{Formal}
use Rattle.sp_code.specs.declared.code.Layout.{Layout}
use Rattle.sp_verify_rules.specs.Shapes.{Shape}
use Rattle.sp_verify_rules.specs.Rules.{fits_formal}
use Rattle.sp_verify_shapes.specs.declared.asks.Ask.{Ask}

-- what fits the one fits the other one
abbrev pub Covers : Formal → Formal → Type 0
Covers f g = (s : Shape) → fits_formal f s ≡ true → fits_formal g s ≡ true

-- there is one that it covers; one that covers it
abbrev pub IsCovered : Formal → Option Formal → Type 0
IsCovered f o = (g : Formal) × (o ≡ Some g) × Covers f g

abbrev pub IsCovering : Formal → Option Formal → Type 0
IsCovering f o = (g : Formal) × (o ≡ Some g) × Covers g f

-- each of these shapes fits it
abbrev pub AllFit : Formal → List Shape → Type 0
AllFit f [] = Unit {0}
AllFit f (s ∷ ss) = (fits_formal f s ≡ true) × AllFit f ss

-- it covers each formal from a place up to another one
abbrev pub CoversAll : Formal → List Formal → ℕ → ℕ → Type 0
CoversAll f fs i j = (q : ℕ) (g : Formal) → i ≤ q → q < j → slice_get fs q ≡ Some g → Covers f g

-- it is so with what is kept of the formals before a place
abbrev pub IsAsk : List Formal → ℕ → Ask → Type 0
IsAsk fs k a = (a.to ≤ k) × ((f : Formal) → a.all ≡ Some f → CoversAll f fs a.to k)

-- with what is kept of those before each place, the first one left out
abbrev pub AreAsks : List Formal → List Ask → Type 0
AreAsks fs xs = (i : ℕ) (a : Ask) → slice_get xs i ≡ Some a → IsAsk fs (i + 1) a

-- and with what is kept of each layout
pub record AreAsked (ls : List Layout) (rows : List (List Ask)) : Type 0 where
  pub size : length rows ≡ length ls
  pub each : (i : ℕ) (l : Layout) (xs : List Ask) → slice_get ls i ≡ Some l → slice_get rows i ≡ Some xs
      → AreAsks l.formals xs
