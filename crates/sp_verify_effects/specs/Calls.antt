-- None of this belongs to what the program promises: it is for contracts between crates.
-- Rule V7 at a call, as a verifier tests it: the variables of the operands for its reference formals, held against each
-- other and against what the called block does outside itself.
use Rattle.std.specs.Prelude.{◌≡◌, ℕ, zero, suc, ◌-◌, List, [], ◌∷◌, ◌++◌, Option, Some, None, Bool, true, false, ◌&&◌}
use Rattle.std.specs.Prelude.{◌||◌, not, slice_get, length}
use Rattle.std.specs.List.{list_any}
use Rattle.sp_tree.specs.Interference.{IsMember}
use Rattle.sp_code.specs.declared.instr.Instr.{Instr}
use Rattle.sp_code.specs.declared.code.Formal.{Formal}
use Rattle.sp_code.specs.declared.code.Formal.TheVariants as formal
use Rattle.sp_code.specs.declared.code.Layout.{Layout}
use Rattle.sp_code.specs.declared.code.Parts.{Parts}
use Rattle.sp_code.specs.Machine.{layout_of}
use Rattle.sp_verify_rules.specs.Areas.{on_option, instr_at}
use Rattle.sp_verify_rules.specs.Shapes.{Shape, A}
use Rattle.sp_verify_shapes.specs.declared.shapes.Shapes.{Shapes}
use Rattle.sp_verify_shapes.specs.declared.stacks.Stacks.{Stacks}
use Rattle.sp_verify_shapes.specs.ReachRules.{reached_at}
use Rattle.sp_verify_shapes.specs.Stacks.{list_of}
use Rattle.sp_verify_effects.specs.declared.effects.Effects.{Effects}
use Rattle.sp_verify_effects.specs.declared.facts.Fact.{Fact}
use Rattle.sp_verify_shapes.specs.Repeats.{called_block}
use Rattle.sp_verify_effects.specs.Effects.{touches}
use Rattle.sp_verify_effects.specs.Facts.{touched}
use Rattle.sp_verify_effects.specs.Variables.{owns}
use Rattle.sp_verify_effects.specs.Sets.{all_new}

-- the variable of an operand, if it is an address
abbrev pub variable_of : Shape → Option ℕ
variable_of (A x n) = Some x
variable_of _ = None

-- the variable of an operand for a formal, if that is by reference
abbrev pub actual_of : Formal → Shape → Option ℕ
actual_of (formal.Value n) s = None
actual_of (formal.Reference n) s = variable_of s

-- the variable of the operand that has i others above it, if its formal is by reference
abbrev pub actual_at : List Formal → List Shape → ℕ → Option ℕ
actual_at fs ss i = on_option None (slice_get fs (length fs - 1 - i))
    (λ f. on_option None (slice_get ss i) (actual_of f))

abbrev pub list_of_option : Option ℕ → List ℕ
list_of_option None = []
list_of_option (Some x) = x ∷ []

-- the variables of the n topmost operands for their reference formals
abbrev pub actuals : List Formal → List Shape → ℕ → List ℕ
actuals fs ss zero = []
actuals fs ss (suc n) = actuals fs ss n ++ list_of_option (actual_at fs ss n)

-- the block with this entry stores or loads the variable, and the variable is not its own
abbrev pub is_outer : Effects → ℕ → ℕ → Bool
is_outer e entry x = touches e entry x && not (owns e.own.keys entry x)

-- the block does so with one of these variables
abbrev pub meets_outer : Effects → ℕ → List ℕ → Bool
meets_outer e entry xs = list_any (is_outer e entry) xs

-- two operands of a call have one variable, or one is what the block does outside itself
abbrev pub call_clashes : Effects → Layout → List Shape → Bool
call_clashes e l ss = not (all_new [] (actuals l.formals ss (length l.formals)))
    || meets_outer e l.entry (actuals l.formals ss (length l.formals))

-- the block does this to a variable that the call passes by reference, and that is not its own
pub record Meets (ks : List (ℕ × ℕ)) (l : Layout) (ss : List Shape) (f : Fact) : Type 0 where
  pub begins : l.entry ≡ f.area
  pub variable : ℕ
  pub does : touched f.effect ≡ Some variable
  pub outside : owns ks l.entry variable ≡ false
  pub among : IsMember variable (actuals l.formals ss (length l.formals))

-- the instruction is a call that clashes, with the list of shapes of this number (None: nothing arrives there)
abbrev pub clashes_at : Effects → List Layout → Stacks → Option ℕ → Option Instr → Bool
clashes_at e ls st o instr =
    on_option false o (λ n. on_option false (called_block instr)
    (λ b. on_option false (layout_of ls b) (λ l. call_clashes e l (list_of st n))))

-- the instruction at p is such a call
abbrev pub fails_at : Parts → Effects → Shapes → ℕ → Bool
fails_at c e s p = clashes_at e c.layouts s.stacks (reached_at s p) (instr_at c p)

abbrev pub CallFails : Parts → Effects → Shapes → ℕ → Type 0
CallFails c e s p = fails_at c e s p ≡ true
