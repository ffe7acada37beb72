-- None of this belongs to what the program promises: it is for contracts between crates.
-- What the rules ask of an instruction, by the shapes that it is reached with: an instruction that is not reached
-- breaks none.
use Rattle.std.specs.Prelude.{ℕ, List, Option, Some, None, Bool, false, not, ◌&&◌, slice_get}
use Rattle.sp_code.specs.declared.instr.Instr.{Instr}
use Rattle.sp_code.specs.declared.code.Layout.{Layout}
use Rattle.sp_code.specs.declared.code.Parts.{Parts}
use Rattle.sp_verify_rules.specs.Areas.{on_option, instr_at}
use Rattle.sp_verify_rules.specs.Shapes.{Shape}
use Rattle.sp_verify_rules.specs.Rules.{some_reference}
use Rattle.sp_verify_shapes.specs.declared.shapes.Shapes.{Shapes}
use Rattle.sp_verify_shapes.specs.Stacks.{list_of}

-- the number of the list of shapes that an instruction is reached with, if it is
abbrev pub reached_at : Shapes → ℕ → Option ℕ
reached_at s p = on_option None (slice_get s.at p) (λ o. o)

-- the shapes themselves
abbrev pub shapes_at : Shapes → ℕ → Option (List Shape)
shapes_at s p = on_option None (reached_at s p) (λ n. Some (list_of s.stacks n))

-- an instruction that is reached fails a test of what it finds there
abbrev pub fails_at : (Option Instr → List Shape → Bool) → Parts → Shapes → ℕ → Bool
fails_at well c s p = on_option false (shapes_at s p) (λ ss. not (well (instr_at c p) ss))

-- a block answers, and has a formal by reference
abbrev pub answers_by_reference : Layout → Bool
answers_by_reference l = l.answer && some_reference l.formals
