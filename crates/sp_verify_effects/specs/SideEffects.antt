-- None of this belongs to what the program promises: it is for contracts between crates.
-- Rules V8, and V7 at a block that is called inside itself, as a verifier tests them: of each layout what its block
-- does, held against its own variables.
use Rattle.std.specs.Prelude.{◌≡◌, ◌⊎◌, ℕ, List, Option, Some, None, Bool, true, false, ◌&&◌, ◌||◌, not}
use Rattle.std.specs.Prelude.{slice_get}
use Rattle.sp_tree.specs.Interference.{IsMember}
use Rattle.sp_code.specs.declared.code.Layout.{Layout}
use Rattle.sp_verify_effects.specs.declared.effects.EffectRow.{EffectRow}
use Rattle.sp_verify_effects.specs.declared.effects.Effects.{Effects}
use Rattle.sp_verify_effects.specs.declared.facts.Effect.{Effect}
use Rattle.sp_verify_effects.specs.declared.facts.Effect.TheVariants as effect
use Rattle.sp_verify_effects.specs.Variables.{LayoutDoes, goes_out, owns}

-- an answering block stores outside itself, or stops
abbrev pub has_side_effects : List (ℕ × ℕ) → Layout → Option EffectRow → Bool
has_side_effects ks l None = false
has_side_effects ks l (Some d) = l.answer && (d.stops || goes_out ks l.entry 0 d.stored)

-- a block that answers has a side effect, if it does this
abbrev pub is_side_effect : List (ℕ × ℕ) → Layout → Effect → Bool
is_side_effect ks l (effect.Stores x) = l.answer && not (owns ks l.entry x)
is_side_effect ks l (effect.Loads x) = false
is_side_effect ks l effect.Stops = l.answer

abbrev pub HasSideEffects : Layout → Option EffectRow → Type 0
HasSideEffects l None = ⊥
HasSideEffects l (Some d) = (l.answer ≡ true)
    × (((x : ℕ) × IsMember x d.stored × (IsMember x l.variables → ⊥)) ⊎ (d.stops ≡ true))

abbrev pub LayoutHasSideEffects : Effects → List Layout → ℕ → ℕ → Type 0
LayoutHasSideEffects e = LayoutDoes (λ j l. HasSideEffects l (slice_get e.rows l.entry))
