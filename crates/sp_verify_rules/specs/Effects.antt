-- Some of this belongs to what the program promises (docs/promise.txt).
-- The effects of an area: the variables that code reachable from its first instruction stores, and those that it loads.
-- Code is followed into the children of its forks and into the blocks that it calls.
use Rattle.std.specs.Prelude.{◌≡◌, ◌⊎◌, ℕ, ◌-◌, List, [], ◌∷◌, ◌++◌, length, Option, Some, None, slice_get}
use Rattle.sp_tree.specs.Interference.{IsMember}
use Rattle.sp_code.specs.declared.instr.Instr.TheVariants as i
use Rattle.sp_code.specs.declared.code.Formal.TheVariants as formal
use Rattle.sp_code.specs.declared.code.Layout.{Layout}
use Rattle.sp_code.specs.declared.code.ChildTable.{ChildTable}
use Rattle.sp_code.specs.declared.code.Parts.{Parts}
use Rattle.sp_code.specs.Machine.{layout_of}
use Rattle.sp_verify_rules.specs.Areas.{Area, Body, Child, instr_at, child_at}
use Rattle.sp_verify_rules.specs.Shapes.{Shape, A}
use Rattle.sp_verify_rules.specs.Reach.{IsInCodeOf, Reaches}
use Rattle.sp_verify_rules.specs.Touches.{stored_by, loaded_by}
use Rattle.sp_verify_rules.specs.Chains.{variables_of}

-- an effect stores a variable, or loads it
pub data EffectKind : Type 0 where
  Stored : EffectKind
  Loaded : EffectKind

-- the index of a forall is no effect of the code around it, unless it is stored
abbrev pub CountsAsEffect : EffectKind → Option ℕ → ℕ → Type 0
CountsAsEffect Stored index x = Unit {0}
CountsAsEffect Loaded None x = Unit {0}
CountsAsEffect Loaded (Some y) x = x ≡ y → ⊥

-- x is the variable of the operand for reference formal k of a block, where the operands have these shapes, the last
-- one first
abbrev pub IsActual : Layout → List Shape → ℕ → ℕ → Type 0
IsActual l ss k x = (cells left : ℕ) × (slice_get l.formals k ≡ Some (formal.Reference cells))
    × (slice_get ss (length l.formals - 1 - k) ≡ Some (A x left))

-- x is k-th among the variables of a layout
abbrev pub IsNumber : Layout → ℕ → ℕ → Type 0
IsNumber l k x = slice_get l.variables k ≡ Some x

-- what variable y of a called block is to its caller: itself, if the block does not have it; the actual variable, for a
-- reference formal
abbrev pub Becomes : Layout → List Shape → ℕ → ℕ → Type 0
Becomes l ss y x = ((x ≡ y) × (IsMember y l.variables → ⊥)) ⊎ ((k : ℕ) × IsNumber l k y × IsActual l ss k x)

-- the variables that a child is handed
abbrev pub handed_to : ChildTable → List ℕ
handed_to t = t.moved ++ t.shared

module _ (c : Parts) where
  -- child k of the fork or forall at p is started in an area
  abbrev pub IsStarted : Area → (p k : ℕ) → ChildTable → Type 0
  IsStarted a p k t = IsInCodeOf c a p × (child_at c p k ≡ Some t)

  -- the block is called at p in an area, where the operands have these shapes
  pub record IsCalled (a : Area) (p b up : ℕ) (ss : List Shape) (l : Layout) : Type 0 where
    pub reached : Reaches c a p ss
    pub call : instr_at c p ≡ Some (i.Call b up)
    pub layout : layout_of c.layouts b ≡ Some l

  module _ (Does : EffectKind → Area → ℕ → Type 0) where
    -- along these areas, each a child that the one before it starts or a block that it calls, code stores or loads x
    abbrev pub EffectBy : List Area → EffectKind → Area → ℕ → Type 0
    EffectBy [] e a x = Does e a x
    EffectBy (b ∷ bs) e a x =
        ((p k : ℕ) × (t : ChildTable) × (b ≡ Child a p k) × IsStarted a p k t × CountsAsEffect e t.index x
        × EffectBy bs e b x)
        ⊎ ((p f up : ℕ) × (ss : List Shape) × (l : Layout) × (b ≡ Body f) × IsCalled a p f up ss l
        × ((y : ℕ) × EffectBy bs e b y × Becomes l ss y x))

    -- x is an effect of the area
    pub record IsEffect (e : EffectKind) (a : Area) (x : ℕ) : Type 0 where
      pub areas : List Area
      pub proof : EffectBy areas e a x

    -- of either kind
    abbrev pub HasEffect : Area → ℕ → Type 0
    HasEffect a x = IsEffect Stored a x ⊎ IsEffect Loaded a x

    -- along these areas code comes to a stop other than a fault
    abbrev pub StopsBy : (Stops : Area → Type 0) → List Area → Area → Type 0
    StopsBy Stops [] a = Stops a
    StopsBy Stops (b ∷ bs) a =
        ((p k : ℕ) × (t : ChildTable) × (b ≡ Child a p k) × IsStarted a p k t × StopsBy Stops bs b)
        ⊎ ((p f up : ℕ) × (ss : List Shape) × (l : Layout) × (b ≡ Body f) × IsCalled a p f up ss l × StopsBy Stops bs b)

-- ---- of code

module _ (c : Parts) where
  -- what the instruction at p does to variables. Selecting within a variable counts as loading it, though the machine
  -- asks for no cell there: what uses the address does
  abbrev pub does_at : EffectKind → Area → ℕ → List Shape → List ℕ
  does_at Stored a p ss = stored_by c a (instr_at c p) ss
  does_at Loaded a p ss = loaded_by c a (instr_at c p) ss

  -- what a fork moves counts as stored, what it shares as loaded
  abbrev pub handed_as : EffectKind → ChildTable → List ℕ
  handed_as Stored t = t.moved
  handed_as Loaded t = t.shared

  -- code of the area itself stores or loads x
  abbrev pub Does : EffectKind → Area → ℕ → Type 0
  Does e a x = ((p : ℕ) × (ss : List Shape) × Reaches c a p ss × IsMember x (does_at e a p ss))
      ⊎ ((p k : ℕ) × (t : ChildTable) × IsStarted c a p k t × IsMember x (handed_as e t))

  -- what a child may touch: what it is handed, and its index
  abbrev pub Granted : Option ChildTable → ℕ → Type 0
  Granted None x = ⊥
  Granted (Some t) x = IsMember x (handed_to t) ⊎ (t.index ≡ Some x)

  -- what an activation of an area may touch: the effects and the own variables of a block; what a child is handed
  abbrev pub May : Area → ℕ → Type 0
  May (Body b) x = HasEffect c Does (Body b) x ⊎ IsMember x (variables_of (layout_of c.layouts b))
  May (Child a p k) x = Granted (child_at c p k) x
