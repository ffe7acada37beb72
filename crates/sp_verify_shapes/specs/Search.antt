-- None of this belongs to what the program promises: it is for contracts between crates.
-- What following all ways keeps, the shorter ones first: for each instruction the list of shapes that came first, marks
-- where V2 is found broken, the instructions that wait to be stepped from, and the lists that were brought and wait to
-- be compared.
use Rattle.std.specs.Prelude.{◌≡◌, ◌≢◌, ◌⊎◌, ℕ, suc, ◌+◌, ◌<◌, List, [], ◌∷◌, ◌++◌, Option, Some, None, Bool, true}
use Rattle.std.specs.Prelude.{false, slice_get, slice_set, length, sum_by}
use Rattle.sp_code.specs.declared.code.Parts.{Parts}
use Rattle.sp_verify_rules.specs.Areas.{Area, instr_at}
use Rattle.sp_verify_rules.specs.Shapes.{Shape, Wrong, instr_shapes}
use Rattle.sp_verify_rules.specs.Reach.{LeadsWith}
use Rattle.sp_verify_rules.specs.NameRules.{LiesIn, BreaksV1}
use Rattle.sp_verify_rules.specs.Rules.{ArrivesAt}
use Rattle.sp_verify_areas.specs.Only.{LiesOnlyIn}
use Rattle.sp_verify_shapes.specs.declared.stacks.Stacks.{Stacks}
use Rattle.sp_verify_shapes.specs.declared.steps.Arrival.{Arrival}
use Rattle.sp_verify_shapes.specs.declared.steps.Step.{Step}
use Rattle.sp_verify_shapes.specs.declared.steps.Step.TheVariants as step
use Rattle.sp_verify_shapes.specs.declared.search.Search.{Search}
use Rattle.sp_verify_shapes.specs.Stacks.{Extends, IsListNumber, IsStacks, list_of}
use Rattle.sp_verify_shapes.specs.Steps.{IsStep}

abbrev pub IsOneOf : {T : Type 0} → T → List T → Type 0
IsOneOf x [] = ⊥
IsOneOf x (y ∷ ys) = (x ≡ y) ⊎ IsOneOf x ys

-- this list came first there
abbrev pub HasAt : Search → ℕ → ℕ → Type 0
HasAt s p k = slice_get s.at p ≡ Some (Some k)

-- V2 is found broken there
abbrev pub IsMarked : Search → ℕ → Type 0
IsMarked s p = slice_get s.broken p ≡ Some true

-- how many instructions nothing came to
abbrev pub free_count : Option ℕ → ℕ
free_count None = 1
free_count (Some k) = 0

abbrev pub room : Search → ℕ
room s = sum_by free_count s.at

-- these shapes came first there, or others did, and there is a mark
abbrev pub InTable : Search → ℕ → List Shape → Type 0
InTable s q ts = (k : ℕ) × HasAt s q k × ((list_of s.stacks k ≡ ts) ⊎ IsMarked s q)

-- or they wait to be compared
abbrev pub Awaits : Search → ℕ → List Shape → Type 0
Awaits s q ts = (x : Arrival) × IsOneOf x s.arrivals × (x.at ≡ q) × (list_of s.stacks x.list ≡ ts)

abbrev pub KnowsShapes : Search → ℕ → List Shape → Type 0
KnowsShapes s q ts = InTable s q ts ⊎ Awaits s q ts

module _ (c : Parts) where
  -- ways of at most n instructions show that V2 is broken there
  pub data BrokenBy (n p : ℕ) : Type 0 where
    LacksBy : (a : Area) (ss : List Shape) → ArrivesAt c a n p ss → instr_shapes c a (instr_at c p) p ss ≡ Wrong
        → BrokenBy n p
    DiffersBy : (a : Area) (ss ts : List Shape) → ArrivesAt c a n p ss → ArrivesAt c a n p ts → ss ≢ ts → BrokenBy n p

  -- some area has shapes brought there
  abbrev pub SomeAreaBrings : ℕ → ℕ → List Shape → Type 0
  SomeAreaBrings n p ss = (a : Area) × ArrivesAt c a n p ss

  -- all that is kept is true: of ways of at most n instructions, and of at most m what waits to be compared
  pub record IsSound (n m : ℕ) (s : Search) : Type 0 where
    pub stacks : IsStacks s.stacks
    pub size : length s.at ≡ length c.instrs
    pub marks : length s.broken ≡ length c.instrs
    pub held : (p k : ℕ) → HasAt s p k → IsListNumber s.stacks k
    pub come : (p k : ℕ) → HasAt s p k → SomeAreaBrings n p (list_of s.stacks k)
    pub marked : (p : ℕ) → IsMarked s p → BrokenBy n p
    pub carried : (x : Arrival) → IsOneOf x s.arrivals → IsListNumber s.stacks x.list
    pub arrive : (x : Arrival) → IsOneOf x s.arrivals → SomeAreaBrings m x.at (list_of s.stacks x.list)

  -- the instruction lacks nothing of these shapes, and all that it leads to is known
  abbrev pub IsStepped : Search → ℕ → List Shape → Type 0
  IsStepped s p ss = (a : Area) → LiesIn c p a → (instr_shapes c a (instr_at c p) p ss ≢ Wrong)
      × ((q : ℕ) (ts : List Shape) → LeadsWith (instr_shapes c a (instr_at c p) p ss) q ts → KnowsShapes s q ts)

  -- so for each instruction that has a list, waits no more and has no mark
  abbrev pub IsClosedSearch : Search → Type 0
  IsClosedSearch s = (p k : ℕ) → HasAt s p k → IsMarked s p
      ⊎ (IsOneOf p s.frontier ⊎ IsStepped s p (list_of s.stacks k))

  -- all that ways of at most n instructions bring is known
  abbrev pub Covers : ℕ → Search → Type 0
  Covers n s = (a : Area) (p : ℕ) (ss : List Shape) → ArrivesAt c a n p ss → KnowsShapes s p ss

  abbrev pub CoversTable : ℕ → Search → Type 0
  CoversTable n s = (a : Area) (p : ℕ) (ss : List Shape) → ArrivesAt c a n p ss → InTable s p ss

  -- while brought lists are compared, and while instructions are stepped from
  pub record WhileComparing (n : ℕ) (s : Search) : Type 0 where
    pub sound : IsSound n n s
    pub closed : IsClosedSearch s
    pub covers : Covers n s

  pub record WhileStepping (n : ℕ) (s : Search) : Type 0 where
    pub sound : IsSound n (suc n) s
    pub closed : IsClosedSearch s
    pub covers : CoversTable n s

  abbrev pub AreCompared : Search → Type 0
  AreCompared s = (n : ℕ) × WhileComparing n s

  abbrev pub AreStepped : Search → Type 0
  AreStepped s = (n : ℕ) × WhileStepping n s

  -- nothing is left to be done
  pub record IsDoneSearch (s : Search) : Type 0 where
    pub true_so_far : AreCompared s
    pub none : s.arrivals ≡ []
    pub still : s.frontier ≡ []

-- V1 is kept
abbrev pub KeepsV1 : Parts → Type 0
KeepsV1 c = (p : ℕ) → BreaksV1 c p → ⊥

-- ---- one list is compared

-- the list that was brought is the first one there, the same as the first one, or another
pub data Places (old new : Search) (x : Arrival) : Type 0 where
  Past : slice_get old.at x.at ≡ None → new ≡ old → Places old new x
  First : slice_get old.at x.at ≡ Some None
      → new ≡ record old { at = slice_set old.at x.at (Some x.list); frontier = old.frontier ++ x.at ∷ [] }
      → Places old new x
  Again : HasAt old x.at x.list → new ≡ old → Places old new x
  Other : (k : ℕ) → HasAt old x.at k → k ≢ x.list → new ≡ record old { broken = slice_set old.broken x.at true }
      → Places old new x

-- one is compared
pub record ComparesOne (old new : Search) : Type 0 where
  pub keeps : (c : Parts) → KeepsV1 c → AreCompared c old → AreCompared c new
  pub less : length new.arrivals < length old.arrivals
  pub room : room new + length new.frontier ≡ room old + length old.frontier

-- all are
pub record ComparesAll (old new : Search) : Type 0 where
  pub keeps : (c : Parts) → KeepsV1 c → AreCompared c old → AreCompared c new
  pub none : new.arrivals ≡ []
  pub room : room new + length new.frontier ≡ room old + length old.frontier

-- ---- one instruction is stepped from

abbrev pub is_set : Option Bool → Bool
is_set None = false
is_set (Some b) = b

abbrev pub with_arrival : Option Arrival → List Arrival → List Arrival
with_arrival None xs = xs
with_arrival (Some x) xs = xs ++ x ∷ []

-- what a step from p with list k needs, and gives
pub record TakesStepFrom (c : Parts) (old : Search) (p k : ℕ) (st : Stacks) (o : Step) : Type 0 where
  pub has : HasAt old p k
  pub unmarked : IsMarked old p → ⊥
  pub stacks : IsStacks st
  pub extends : Extends old.stacks st
  pub goes : (a : Area) → LiesOnlyIn c p a → IsStep st o (instr_shapes c a (instr_at c p) p (list_of old.stacks k))

-- there is a mark or no list, something is wrong, or up to two lists are brought on
pub data WalkOutcome (c : Parts) (old new : Search) (p : ℕ) : Type 0 where
  Marked : IsMarked old p → new ≡ old → WalkOutcome c old new p
  Unknown : ((k : ℕ) → HasAt old p k → ⊥) → new ≡ old → WalkOutcome c old new p
  IsWrongStep : (k : ℕ) (st : Stacks) → TakesStepFrom c old p k st step.Wrong
      → new ≡ record old { stacks = st; broken = slice_set old.broken p true } → WalkOutcome c old new p
  BringsOn : (k : ℕ) (st : Stacks) (f s : Option Arrival) → TakesStepFrom c old p k st (step.To f s)
      → new ≡ record old { stacks = st; arrivals = with_arrival s (with_arrival f old.arrivals) }
      → WalkOutcome c old new p

-- what a step needs of all that is kept
pub record IsSane (c : Parts) (s : Search) : Type 0 where
  pub stacks : IsStacks s.stacks
  pub size : length s.at ≡ length c.instrs
  pub held : (p k : ℕ) → HasAt s p k → IsListNumber s.stacks k

-- one is stepped from
pub record WalksOne (c : Parts) (old new : Search) : Type 0 where
  pub stepped : AreStepped c new
  pub less : length new.frontier < length old.frontier
  pub position_is : new.at ≡ old.at

-- all are
pub record WalksAll (c : Parts) (old new : Search) : Type 0 where
  pub stepped : AreStepped c new
  pub still : new.frontier ≡ []
  pub position_is : new.at ≡ old.at
