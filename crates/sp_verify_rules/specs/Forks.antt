-- Some of this belongs to what the program promises (docs/promise.txt).
-- The rules on forks, calls and blocks with a result: V6, V7 and V8, each said by what breaks it.
use Rattle.std.specs.Prelude.{◌≡◌, ◌≢◌, ◌⊎◌, ℕ, ◌<◌, List, [], Some, IsSome, true}
use Rattle.sp_tree.specs.Interference.{IsMember, AllDifferent}
use Rattle.sp_code.specs.declared.code.Layout.{Layout}
use Rattle.sp_code.specs.declared.code.ChildTable.{ChildTable}
use Rattle.sp_code.specs.declared.code.Parts.{Parts}
use Rattle.sp_verify_rules.specs.Areas.{Area, Body, Child, child_at, block_of}
use Rattle.sp_verify_rules.specs.Shapes.{Shape}
use Rattle.sp_verify_rules.specs.Reach.{IsArea}
pub use Rattle.sp_verify_rules.specs.Effects.{handed_to}
use Rattle.sp_verify_rules.specs.Effects.{EffectKind, Stored, Loaded, CountsAsEffect, IsActual, IsCalled, IsEffect}
use Rattle.sp_verify_rules.specs.Effects.{HasEffect, StopsBy}

-- a variable that moves to one child is handed to the other
abbrev pub Clash : ChildTable → ChildTable → Type 0
Clash s t = (x : ℕ) × ((IsMember x s.moved × IsMember x (handed_to t))
    ⊎ (IsMember x t.moved × IsMember x (handed_to s)))

-- the lists of a child are wrong in themselves: a variable is named twice, the output is shared, or a forall moves
-- something
abbrev pub IsIllHanded : ChildTable → Type 0
IsIllHanded t = (AllDifferent (handed_to t) → ⊥) ⊎ (IsMember 1 t.shared ⊎ (IsSome t.index × (t.moved ≢ [])))

module _ (c : Parts) (Does : EffectKind → Area → ℕ → Type 0) (Stops : Area → Type 0) where
  -- what a child stores is not moved to it; what it loads is not handed to it, nor its index
  abbrev pub StoresMore : Area → ChildTable → Type 0
  StoresMore a t = (x : ℕ) × IsEffect c Does Stored a x × (IsMember x t.moved → ⊥)

  abbrev pub LoadsMore : Area → ChildTable → Type 0
  LoadsMore a t = (x : ℕ) × IsEffect c Does Loaded a x × CountsAsEffect Loaded t.index x
      × (IsMember x (handed_to t) → ⊥)

  -- V6 at child k of the fork or forall at p; two children that clash break it at the later one
  abbrev pub BreaksV6 : Area → (p k : ℕ) → ChildTable → Type 0
  BreaksV6 a p k t =
      StoresMore (Child a p k) t
      ⊎ (LoadsMore (Child a p k) t
      ⊎ (IsIllHanded t ⊎ ((j : ℕ) × (s : ChildTable) × (j < k) × (child_at c p j ≡ Some s) × Clash s t)))

  -- the block has x as an effect outside itself
  abbrev pub IsOuter : Layout → ℕ → ℕ → Type 0
  IsOuter l b x = HasEffect c Does (Body b) x × (IsMember x l.variables → ⊥)

  -- V7 at a call: two reference operands have one variable, or one is an effect of the called block
  abbrev pub BreaksV7 : Layout → ℕ → List Shape → Type 0
  BreaksV7 l b ss =
      ((j k x : ℕ) × (j ≢ k) × IsActual l ss j x × IsActual l ss k x) ⊎ ((k x : ℕ) × IsActual l ss k x × IsOuter l b x)

  -- the block is called in its own code or in that of a block inside it; d says which blocks are inside which
  abbrev pub IsCalledInside : (Inside : ℕ → ℕ → Type 0) → ℕ → Type 0
  IsCalledInside Inside b = (a : Area) × (p up : ℕ) × (ss : List Shape) × (l : Layout) × IsArea c a
      × IsCalled c a p b up ss l × Inside (block_of c a) b

  -- V7 at a block that is called inside itself and has effects outside itself besides the input and the output
  abbrev pub BreaksV7Inside : (Inside : ℕ → ℕ → Type 0) → Layout → ℕ → Type 0
  BreaksV7Inside Inside l b = IsCalledInside Inside b × ((x : ℕ) × IsOuter l b x × (1 < x))

  -- V8 at a block that answers: it stores outside itself, or comes to a stop other than a fault
  abbrev pub BreaksV8 : Layout → ℕ → Type 0
  BreaksV8 l b = (l.answer ≡ true)
      × (((x : ℕ) × IsEffect c Does Stored (Body b) x × (IsMember x l.variables → ⊥))
      ⊎ ((bs : List Area) × StopsBy c Does Stops bs (Body b)))

-- ---- code that keeps V6 and V7, said as what holds

pub record KeepsEffects (c : Parts) (Does : EffectKind → Area → ℕ → Type 0) : Type 0 where
  -- what a child stores is moved to it; what it loads is handed to it, or its index
  pub stored : (a : Area) (p k x : ℕ) (t : ChildTable) → IsArea c (Child a p k) → child_at c p k ≡ Some t
      → IsEffect c Does Stored (Child a p k) x → IsMember x t.moved
  pub loaded : (a : Area) (p k x : ℕ) (t : ChildTable) → IsArea c (Child a p k) → child_at c p k ≡ Some t
      → IsEffect c Does Loaded (Child a p k) x → CountsAsEffect Loaded t.index x → IsMember x (handed_to t)
  -- nothing is named twice, the output is not shared, and a forall moves nothing
  pub once : (a : Area) (p k : ℕ) (t : ChildTable) → IsArea c (Child a p k) → child_at c p k ≡ Some t
      → AllDifferent (handed_to t)
  pub no_output : (a : Area) (p k : ℕ) (t : ChildTable) → IsArea c (Child a p k) → child_at c p k ≡ Some t
      → IsMember 1 t.shared → ⊥
  pub no_moves : (a : Area) (p k : ℕ) (t : ChildTable) → IsArea c (Child a p k) → child_at c p k ≡ Some t
      → IsSome t.index → t.moved ≡ []
  -- what moves to one child is handed to no other
  pub clear : (a : Area) (p j k x : ℕ) (s t : ChildTable) → IsArea c (Child a p j) → IsArea c (Child a p k)
      → child_at c p j ≡ Some s → child_at c p k ≡ Some t → j ≢ k → IsMember x s.moved → IsMember x (handed_to t) → ⊥
  -- reference operands have different variables, none of them an effect of the block outside itself
  pub actual_once : (a : Area) (p b up : ℕ) (ss : List Shape) (l : Layout) → IsArea c a → IsCalled c a p b up ss l
      → (i j x : ℕ) → IsActual l ss i x → IsActual l ss j x → i ≡ j
  pub actual_none : (a : Area) (p b up : ℕ) (ss : List Shape) (l : Layout) → IsArea c a → IsCalled c a p b up ss l
      → (i x : ℕ) → IsActual l ss i x → HasEffect c Does (Body b) x → IsMember x l.variables
