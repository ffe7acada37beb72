-- None of this belongs to what the program promises: it is for contracts between crates.
-- The areas that rules V6 to V8 ask about, and what they ask about these and all that these start and call. Nothing
-- else is followed.
use Rattle.std.specs.Prelude.{◌≡◌, ℕ, List, Option, Some, None, Bool, true, ◌&&◌, ◌||◌, not, if◌then◌else◌, slice_get}
use Rattle.std.specs.Prelude.{nat_lt}
use Rattle.sp_tree.specs.Interference.{IsMember}
use Rattle.sp_code.specs.declared.instr.Instr.{Instr}
use Rattle.sp_code.specs.declared.instr.Instr.TheVariants as i
use Rattle.sp_code.specs.declared.code.ChildTable.{ChildTable}
use Rattle.sp_code.specs.declared.code.ForkTable.{ForkTable}
use Rattle.sp_code.specs.declared.code.Layout.{Layout}
use Rattle.sp_code.specs.declared.code.Parts.{Parts}
use Rattle.sp_code.specs.Machine.{layout_of}
use Rattle.sp_code.specs.Memory.{Home}
use Rattle.sp_verify_rules.specs.Areas.{Area, homes, instr_at, on_option}
use Rattle.sp_verify_rules.specs.Effects.{IsActual, IsCalled}
use Rattle.sp_verify_rules.specs.Reach.{IsArea}
use Rattle.sp_verify_rules.specs.Shapes.{Shape}
use Rattle.sp_verify_rules.specs.Verdict.{BreaksV7, BreaksV8}
use Rattle.sp_verify_areas.specs.Alone.{flag_at}
use Rattle.sp_verify_areas.specs.Only.{LiesOnlyIn}
use Rattle.sp_verify_areas.specs.Owners.{entry_at}
use Rattle.sp_verify_effects.specs.declared.allowance.Allowance.{Allowance}
use Rattle.sp_verify_effects.specs.declared.asked_areas.Asked.{Asked}
use Rattle.sp_verify_effects.specs.declared.asked_areas.Known.{Known}
use Rattle.sp_verify_effects.specs.declared.edges.Edge.{Edge}
use Rattle.sp_verify_effects.specs.declared.edges.Edge.TheVariants as edge
use Rattle.sp_verify_effects.specs.declared.facts.Effect.{Effect}
use Rattle.sp_verify_effects.specs.declared.facts.Effect.TheVariants as effect
use Rattle.sp_verify_effects.specs.Allowances.{IsGiven, IsOwnEffect, allows_some}
use Rattle.sp_verify_effects.specs.Turns.{is_inside}

-- the area with this first instruction is one of them
abbrev pub is_marked : Asked → ℕ → Bool
is_marked k m = k.all || flag_at k.flags m

-- its allowance
abbrev pub allowance_at : Asked → ℕ → Option Allowance
allowance_at k m = on_option None (slice_get k.numbers m) (slice_get k.allowances)

-- this is asked about it
abbrev pub is_asked : Asked → ℕ → Effect → Bool
is_asked k m d = k.all || (flag_at k.flags m && not (allows_some (allowance_at k m) d))

-- where an edge leads
abbrev pub target : Edge → ℕ
target (edge.Started to index) = to
target (edge.Called to) = to
target (edge.Passed to y x) = to

-- the flags say that a block begins there that answers or is called inside itself
abbrev pub has_block : Asked → ℕ → Bool
has_block k m = k.all || flag_at k.blocks m

-- an instruction is below a bound, if there is one
abbrev pub is_below : Option ℕ → ℕ → Bool
is_below None p = true
is_below (Some n) p = nat_lt p n

-- the block answers and begins before one that is known to have a side effect, or the flags have it
abbrev pub is_asked_block : Asked → Layout → Bool
is_asked_block k l = (l.answer && is_below k.known.side_effect l.entry) || has_block k l.entry

-- what a child is not handed is asked about it; so if it begins below a bound, for the children of a table, and of all
-- tables
abbrev pub AsksChild : Asked → ChildTable → Type 0
AsksChild k t = (d : Effect) → (IsGiven t d → ⊥) → is_asked k t.entry d ≡ true

abbrev pub AsksBelow : Option ℕ → Asked → ChildTable → Type 0
AsksBelow o k t = is_below o t.entry ≡ true → AsksChild k t

abbrev pub AsksChildren : Option ℕ → Asked → List ChildTable → Type 0
AsksChildren o k ts = (j : ℕ) (t : ChildTable) → slice_get ts j ≡ Some t → AsksBelow o k t

abbrev pub AsksTables : Option ℕ → Asked → List ForkTable → Type 0
AsksTables o k fs = (t : ℕ) (tb : ForkTable) → slice_get fs t ≡ Some tb → AsksChildren o k tb.children

-- what a block does is asked about it, but for what it does to its own variables; so for all blocks that answer or are
-- called inside themselves
abbrev pub AsksOutside : Asked → Layout → Type 0
AsksOutside k l = (d : Effect) → (IsOwnEffect l d → ⊥) → is_asked k l.entry d ≡ true

abbrev pub AsksLayout : Asked → Layout → Type 0
AsksLayout k l = is_asked_block k l ≡ true → AsksOutside k l

abbrev pub AsksLayouts : Asked → List Layout → Type 0
AsksLayouts k ls = (j : ℕ) (l : Layout) → slice_get ls j ≡ Some l → AsksLayout k l

-- where the block begins that an instruction calls inside itself, with these homes around it
abbrev pub inside_entry : List Home → List Layout → Option Instr → Option ℕ
inside_entry hs ls (Some (i.Call b up)) = if is_inside hs b up then entry_at (layout_of ls b) else None
inside_entry hs ls o = None

module _ (c : Parts) where
  -- what a called block does to a variable that the call passes by reference is asked about, unless it is its own, or
  -- a clash is known that does not come after the call
  abbrev pub AsksCalls : Asked → Type 0
  AsksCalls k = (a : Area) (p b up : ℕ) (ss : List Shape) (l : Layout) → IsArea c a → IsCalled c a p b up ss l
      → is_below k.known.clash p ≡ true → (j x : ℕ) → IsActual l ss j x → (IsMember x l.variables → ⊥)
      → (is_asked k l.entry (effect.Stores x) ≡ true) × (is_asked k l.entry (effect.Loads x) ≡ true)

  -- the flags have the block that the instruction at p calls inside itself
  abbrev pub AsksInsideAt : Asked → ℕ → Type 0
  AsksInsideAt k p = (a : Area) (n : ℕ) → LiesOnlyIn c p a
      → inside_entry (homes c a) c.layouts (instr_at c p) ≡ Some n → has_block k n ≡ true

  -- what is known to be broken is broken
  pub record AreKnown (known : Known) : Type 0 where
    pub clash : (p : ℕ) → known.clash ≡ Some p → BreaksV7 c p
    pub side_effect : (p : ℕ) → known.side_effect ≡ Some p → BreaksV8 c p

  -- all that the rules ask about is asked about
  pub record Asks (k : Asked) : Type 0 where
    pub tables : AsksTables None k c.forks
    pub layouts : AsksLayouts k c.layouts
    pub calls : AsksCalls k
    pub inside : (p : ℕ) → AsksInsideAt k p
    pub known : AreKnown k.known
