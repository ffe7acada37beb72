-- None of this belongs to what the program promises: it is for contracts between crates.
-- What an instruction does itself, in forms that are few.
use Rattle.std.specs.Prelude.{◌≡◌, ◌⊎◌, ℕ, ◌<◌, List, [], ◌∷◌, Option, Some, None, Bool, true, false, length, slice_get}
use Rattle.sp_tree.specs.Interference.{IsMember}
use Rattle.sp_code.specs.declared.instr.Instr.{Instr}
use Rattle.sp_code.specs.declared.code.Layout.{Layout}
use Rattle.sp_code.specs.declared.code.ChildTable.{ChildTable}
use Rattle.sp_code.specs.declared.code.Parts.{Parts}
use Rattle.sp_code.specs.Machine.{layout_of}
use Rattle.sp_verify_rules.specs.Areas.{Area, on_option, instr_at, child_at, variable_at, entry}
use Rattle.sp_verify_rules.specs.Shapes.{Shape, below_topmost}
use Rattle.sp_verify_rules.specs.Reach.{Reaches}
use Rattle.sp_verify_rules.specs.Touches.{stored_by, loaded_by, topmost_variable, addresses, number_list}
use Rattle.sp_verify_rules.specs.Effects.{IsStarted}
use Rattle.sp_verify_rules.specs.Verdict.{is_stop}
use Rattle.sp_verify_rules.specs.NameRules.{LiesIn}
use Rattle.sp_verify_rules.specs.Rules.{ComesTo}
use Rattle.sp_verify_areas.specs.declared.owners.Owner.{Owner}
use Rattle.sp_verify_areas.specs.declared.owners.Owner.TheVariants as owner
use Rattle.sp_verify_areas.specs.Owners.{entry_at}
use Rattle.sp_verify_effects.specs.declared.asked_areas.Asked.{Asked}
use Rattle.sp_verify_effects.specs.declared.facts.Fact.{Fact}
use Rattle.sp_verify_effects.specs.declared.facts.Effect.{Effect}
use Rattle.sp_verify_effects.specs.declared.facts.Effect.TheVariants as effect
use Rattle.sp_verify_effects.specs.declared.places.Place.{Place}
use Rattle.sp_verify_effects.specs.declared.places.Place.TheVariants as place
use Rattle.sp_verify_effects.specs.AskedAreas.{is_asked}
use Rattle.sp_verify_effects.specs.Facts.{Tells}

-- where a child begins, if there is one
abbrev pub child_entry : Option ChildTable → Option ℕ
child_entry None = None
child_entry (Some t) = Some t.entry

-- where the area of an owner begins
abbrev pub entry_by : Parts → Owner → Option ℕ
entry_by c owner.Nobody = None
entry_by c (owner.Block b) = entry_at (layout_of c.layouts b)
entry_by c (owner.Child p k) = child_entry (child_at c p k)
entry_by c owner.Several = None

-- the variables of the operands for the formals of a layout, if there is one
abbrev pub operand_variables : Option Layout → List Shape → List ℕ
operand_variables l ss = on_option [] l (λ m. addresses (length m.formals) ss)

module _ (c : Parts) where
  -- the variables at a place
  abbrev pub variables_at : Area → Place → List Shape → List ℕ
  variables_at a place.Nowhere ss = []
  variables_at a (place.Number x) ss = x ∷ []
  variables_at a place.Input ss = 0 ∷ topmost_variable ss
  variables_at a place.Top ss = topmost_variable ss
  variables_at a place.Second ss = topmost_variable (below_topmost ss)
  variables_at a (place.Loop var) ss = number_list (variable_at c a 0 var)
  variables_at a (place.Passed b) ss = operand_variables (layout_of c.layouts b) ss

  -- the instruction at p does this, where the operands have these shapes
  abbrev pub DoesBy : Area → ℕ → List Shape → Effect → Type 0
  DoesBy a p ss (effect.Stores x) = IsMember x (stored_by c a (instr_at c p) ss)
  DoesBy a p ss (effect.Loads x) = IsMember x (loaded_by c a (instr_at c p) ss)
  DoesBy a p ss effect.Stops = is_stop (instr_at c p) ≡ true

-- a child is handed this
abbrev pub IsHanded : ChildTable → Effect → Type 0
IsHanded t (effect.Stores x) = IsMember x t.moved
IsHanded t (effect.Loads x) = IsMember x t.shared
IsHanded t effect.Stops = ⊥

-- one of these children is
abbrev pub OneIsHanded : List ChildTable → ℕ → Effect → Type 0
OneIsHanded ts n d = (k : ℕ) × (t : ChildTable) × (k < n) × (slice_get ts k ≡ Some t) × IsHanded t d

-- these facts are added where they are asked about, and no others
abbrev pub TellsAsked : Asked → (old new : List Fact) → (Fact → Type 0) → Type 0
TellsAsked k old new W = Tells old new (λ f. W f × (is_asked k f.area f.effect ≡ true))

-- a variable is stored, or loaded
abbrev pub effect_of : Bool → ℕ → Effect
effect_of true x = effect.Stores x
effect_of false x = effect.Loads x

-- an area does what fits
pub record IsOf (n : ℕ) (D : Effect → Type 0) (f : Fact) : Type 0 where
  pub area : f.area ≡ n
  pub does : D f.effect

-- it comes to a stop, if the instruction is one
abbrev pub IsStop : Option Instr → Effect → Type 0
IsStop o d = (is_stop o ≡ true) × (d ≡ effect.Stops)

-- a variable among these is stored, or loaded
abbrev pub IsEffectAmong : Bool → List ℕ → Effect → Type 0
IsEffectAmong s xs d = (x : ℕ) × IsMember x xs × (d ≡ effect_of s x)

module _ (c : Parts) where
  -- the fork or forall at p hands it to a child
  abbrev pub ForkedAt : ℕ → Effect → Type 0
  ForkedAt p d = (k : ℕ) × (t : ChildTable) × (child_at c p k ≡ Some t) × IsHanded t d

  -- the instruction at p does it itself, where it is reached
  abbrev pub ReachedAt : ℕ → Fact → Type 0
  ReachedAt p f = (a : Area) × (ss : List Shape) × ComesTo c a p ss × (f.area ≡ entry c a) × DoesBy c a p ss f.effect

  -- the instruction at p does it itself, or hands it to a child
  abbrev pub DoesAt : Area → ℕ → Effect → Type 0
  DoesAt a p d = ((ss : List Shape) × Reaches c a p ss × DoesBy c a p ss d)
      ⊎ ((k : ℕ) × (t : ChildTable) × IsStarted c a p k t × IsHanded t d)

  -- the area that has the instruction does it there
  abbrev pub OwnAt : ℕ → Fact → Type 0
  OwnAt p f = (a : Area) × LiesIn c p a × (f.area ≡ entry c a) × DoesAt a p f.effect

  -- an area that is asked about it does
  abbrev pub AskedAt : Asked → ℕ → Fact → Type 0
  AskedAt k p f = OwnAt p f × (is_asked k f.area f.effect ≡ true)

  -- at one of the first instructions
  abbrev pub OwnBefore : Asked → ℕ → Fact → Type 0
  OwnBefore k n f = (p : ℕ) × (p < n) × AskedAt k p f
