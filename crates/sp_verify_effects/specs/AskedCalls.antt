-- None of this belongs to what the program promises: it is for contracts between crates.
-- What rule V7 asks of a call, as a verifier tests it: what the called block does to the variables that the call passes
-- by reference, unless they are its own.
use Rattle.std.specs.Prelude.{ℕ, List, Option, Bool, false, ◌&&◌, not, length}
use Rattle.std.specs.List.{list_any}
use Rattle.sp_code.specs.declared.instr.Instr.{Instr}
use Rattle.sp_code.specs.declared.code.Layout.{Layout}
use Rattle.sp_code.specs.declared.code.Parts.{Parts}
use Rattle.sp_code.specs.Machine.{layout_of}
use Rattle.sp_verify_rules.specs.Areas.{instr_at, on_option}
use Rattle.sp_verify_rules.specs.Shapes.{Shape}
use Rattle.sp_verify_shapes.specs.declared.shapes.Shapes.{Shapes}
use Rattle.sp_verify_shapes.specs.declared.stacks.Stacks.{Stacks}
use Rattle.sp_verify_shapes.specs.ReachRules.{reached_at}
use Rattle.sp_verify_shapes.specs.Repeats.{called_block}
use Rattle.sp_verify_shapes.specs.Stacks.{list_of}
use Rattle.sp_verify_effects.specs.declared.asked_areas.Asked.{Asked}
use Rattle.sp_verify_effects.specs.declared.facts.Effect.TheVariants as effect
use Rattle.sp_verify_effects.specs.AskedAreas.{is_asked}
use Rattle.sp_verify_effects.specs.Calls.{actuals}
use Rattle.sp_verify_effects.specs.Variables.{owns}

-- the variable is not the block's own, and it is not asked about whether the block stores it, or loads it
abbrev pub lacks_actual : Asked → List (ℕ × ℕ) → ℕ → ℕ → Bool
lacks_actual k ks m x = not (owns ks m x) && not (is_asked k m (effect.Stores x) && is_asked k m (effect.Loads x))

-- so for one of these variables
abbrev pub lacks_actuals : Asked → List (ℕ × ℕ) → ℕ → List ℕ → Bool
lacks_actuals k ks m xs = list_any (lacks_actual k ks m) xs

-- for one that operands of a call have for reference formals
abbrev pub lacks_operands : Asked → List (ℕ × ℕ) → Layout → List Shape → Bool
lacks_operands k ks l ss = lacks_actuals k ks l.entry (actuals l.formals ss (length l.formals))

-- for an instruction, with the list of shapes of this number, if it is a call that is reached
abbrev pub lacks_by : Asked → List (ℕ × ℕ) → List Layout → Stacks → Option ℕ → Option Instr → Bool
lacks_by k ks ls st o instr =
    on_option false o (λ n. on_option false (called_block instr)
    (λ b. on_option false (layout_of ls b) (λ l. lacks_operands k ks l (list_of st n))))

-- for the instruction at p
abbrev pub lacks_at : Parts → Asked → List (ℕ × ℕ) → Shapes → ℕ → Bool
lacks_at c k ks s p = lacks_by k ks c.layouts s.stacks (reached_at s p) (instr_at c p)
