-- None of this belongs to what the program promises: it is for contracts between crates.
-- Where an instruction leads, and with which lists of shapes.
use Rattle.std.specs.Prelude.{◌≡◌, ◌⊎◌, ℕ, List, [], ◌∷◌, Option, Some, None}
use Rattle.sp_verify_rules.specs.Shapes.{Shape, Shaped, Wrong, To}
use Rattle.sp_verify_shapes.specs.declared.stacks.Stacks.{Stacks}
use Rattle.sp_verify_shapes.specs.declared.steps.Arrival.{Arrival}
use Rattle.sp_verify_shapes.specs.declared.steps.Step.{Step}
use Rattle.sp_verify_shapes.specs.declared.steps.Step.TheVariants as step
use Rattle.sp_verify_shapes.specs.Stacks.{IsListNumber, list_of}

-- with one more, if it is there
abbrev pub with_brought : Stacks → Option Arrival → List (ℕ × List Shape) → List (ℕ × List Shape)
with_brought st None ws = ws
with_brought st (Some x) ws = (x.at, list_of st x.list) ∷ ws

-- what a step means
abbrev pub shaped_by : Stacks → Step → Shaped
shaped_by st step.Wrong = Wrong
shaped_by st (step.To f s) = To (with_brought st f (with_brought st s []))

-- an arrival is of a step
abbrev pub GivesArrival : Step → Arrival → Type 0
GivesArrival step.Wrong x = ⊥
GivesArrival (step.To f s) x = (f ≡ Some x) ⊎ (s ≡ Some x)

-- a step means this, and its lists are there
pub record IsStep (st : Stacks) (o : Step) (sh : Shaped) : Type 0 where
  pub shaped_is : shaped_by st o ≡ sh
  pub held : (x : Arrival) → GivesArrival o x → IsListNumber st x.list
