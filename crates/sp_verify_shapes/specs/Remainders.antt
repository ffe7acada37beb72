-- None of this belongs to what the program promises: it is for contracts between crates.
-- What is left of a list of shapes where something was taken from it.
use Rattle.std.specs.Prelude.{◌≡◌, ℕ, List, Option, Some, Bool, true, false}
use Rattle.sp_verify_rules.specs.Areas.{on_option}
use Rattle.sp_verify_rules.specs.Shapes.{Shape, Shaped, Wrong}
use Rattle.sp_verify_shapes.specs.declared.stacks.Shape.{Shape as Kept}
use Rattle.sp_verify_shapes.specs.declared.stacks.Shape.TheVariants as kept
use Rattle.sp_verify_shapes.specs.declared.stacks.Stacks.{Stacks}
use Rattle.sp_verify_shapes.specs.declared.plans.OperandKind.{OperandKind}
use Rattle.sp_verify_shapes.specs.declared.plans.OperandKind.TheVariants as kind
use Rattle.sp_verify_shapes.specs.declared.operands.TakeResult.{TakeResult}
use Rattle.sp_verify_shapes.specs.Stacks.{IsListNumber, list_of}

-- a shape is of a kind
abbrev pub admits : OperandKind → Kept → Bool
admits kind.Ordinal kept.Ordinal = true
admits kind.Channel kept.Channel = true
admits kind.Address (kept.Address x n) = true
admits kind.Value kept.Ordinal = true
admits kind.Value kept.Channel = true
admits kind.Message kept.Ordinal = true
admits kind.Message kept.Channel = true
admits kind.Message (kept.Cells n) = true
admits k s = false

-- what is left where a shape was taken
abbrev pub taken_of : Kept → ℕ → TakeResult
taken_of (kept.Address x n) r = record { variable = x; left = n; rest = r }
taken_of s r = record { variable = 0; left = 0; rest = r }

-- this is what goes on where something is taken, and nothing goes on where that is not there
pub record IsTaken (st : Stacks) (take : (ℕ → ℕ → List Shape → Shaped) → Shaped) (o : Option TakeResult) : Type 0 where
  pub goes : (go : ℕ → ℕ → List Shape → Shaped) → take go
      ≡ on_option Wrong o (λ t. go t.variable t.left (list_of st t.rest))
  pub held : (t : TakeResult) → o ≡ Some t → IsListNumber st t.rest
