-- None of this belongs to what the program promises: it is for contracts between crates.
-- Rule V7 at a block that is called inside itself, as a verifier tests it: which layouts are those of such blocks, by
-- flags, and what the blocks do outside themselves.
use Rattle.std.specs.Prelude.{◌≡◌, ◌⊎◌, ◌↔◌, ◌<◌, ℕ, ◌-◌, if◌then◌else◌, List, Option, Some, None, Bool, true}
use Rattle.std.specs.Prelude.{false, ◌&&◌, ◌||◌, slice_get, length, nat_lt}
use Rattle.std.specs.BTreeMap.{BTreeMap}
use Rattle.sp_tree.specs.Interference.{IsMember}
use Rattle.sp_code.specs.declared.instr.Instr.{Instr}
use Rattle.sp_code.specs.declared.instr.Instr.TheVariants as i
use Rattle.sp_code.specs.declared.code.Layout.{Layout}
use Rattle.sp_code.specs.declared.code.Parts.{Parts}
use Rattle.sp_code.specs.Memory.{Home}
use Rattle.sp_verify_rules.specs.Areas.{Area, homes, instr_at}
use Rattle.sp_verify_rules.specs.NameRules.{is_block}
use Rattle.sp_verify_areas.specs.Alone.{flag_at}
use Rattle.sp_verify_areas.specs.Blocks.{number_of}
use Rattle.sp_verify_areas.specs.Only.{LiesOnlyIn}
use Rattle.sp_verify_shapes.specs.declared.shapes.Shapes.{Shapes}
use Rattle.sp_verify_shapes.specs.ReachRules.{reached_at}
use Rattle.sp_verify_effects.specs.declared.effects.EffectRow.{EffectRow}
use Rattle.sp_verify_effects.specs.declared.effects.Effects.{Effects}
use Rattle.sp_verify_effects.specs.Variables.{LayoutDoes, goes_out}

-- a block that is called from so many levels inside the one around it is called inside itself: it is around the call
abbrev pub is_inside : List Home → (b up : ℕ) → Bool
is_inside hs b up = nat_lt 0 up && is_block (Some b) (slice_get hs (up - 1))

-- the place of the layout of a block that is called inside itself, by a call with these homes around it
abbrev pub inside_of : List Home → BTreeMap ℕ ℕ → Option Instr → Option ℕ
inside_of hs first (Some (i.Call b up)) = if is_inside hs b up then number_of first b else None
inside_of hs first o = None

-- the call at p, which is reached, calls the block of the layout at place j inside itself
pub record CallsInside (c : Parts) (first : BTreeMap ℕ ℕ) (s : Shapes) (p j : ℕ) : Type 0 where
  pub area : Area
  pub lies : LiesOnlyIn c p area
  pub stack : ℕ
  pub come : reached_at s p ≡ Some stack
  pub calls : inside_of (homes c area) first (instr_at c p) ≡ Some j

-- one of the first n instructions does
pub record SomeCalls (c : Parts) (first : BTreeMap ℕ ℕ) (s : Shapes) (n j : ℕ) : Type 0 where
  pub position : ℕ
  pub before : position < n
  pub calls : CallsInside c first s position j

-- so many flags, which say of each layout whether one of the first n instructions calls its block inside itself
pub record AreInside (c : Parts) (first : BTreeMap ℕ ℕ) (s : Shapes) (n : ℕ) (flags : List Bool) : Type 0 where
  pub size : length flags ≡ length c.layouts
  pub each : (j : ℕ) → j < length c.layouts → (flag_at flags j ≡ true) ↔ SomeCalls c first s n j

-- such a block, by its flag, does something outside itself, besides to the input and the output
abbrev pub turns : List (ℕ × ℕ) → Bool → Layout → Option EffectRow → Bool
turns ks flag l None = false
turns ks flag l (Some d) = flag && (goes_out ks l.entry 2 d.stored || goes_out ks l.entry 2 d.loaded)

abbrev pub Turns : Bool → Layout → Option EffectRow → Type 0
Turns flag l None = ⊥
Turns flag l (Some d) = (flag ≡ true)
    × ((x : ℕ) × (IsMember x d.stored ⊎ IsMember x d.loaded) × (IsMember x l.variables → ⊥) × (1 < x))

abbrev pub LayoutTurns : Effects → List Bool → List Layout → ℕ → ℕ → Type 0
LayoutTurns e flags = LayoutDoes (λ j l. Turns (flag_at flags j) l (slice_get e.rows l.entry))
