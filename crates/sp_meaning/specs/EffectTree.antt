-- All of this belongs to what the program promises (docs/promise.txt).
-- A step's local work as a tree of reads and writes: what it touches, and that it goes by nothing else, hold of every
-- tree. The language's acts are such trees, and the laws of disjoint runs need no look inside them.
use Rattle.std.specs.Prelude.{◌≡◌, ◌⊎◌, Bool, List, [], ◌∷◌}
use Rattle.sp_meaning.specs.Maps.{at_key}

-- it is done, it reads a location and goes on by what stands there, or it writes one and goes on
pub data EffectTree (Loc Value A : Type 0) : Type 0 where
  Leaf : (a : A) → EffectTree Loc Value A
  ReadThen : (l : Loc) (more : Value → EffectTree Loc Value A) → EffectTree Loc Value A
  WriteThen : (l : Loc) (v : Value) (more : EffectTree Loc Value A) → EffectTree Loc Value A

module _ {Loc Value : Type 0} (same : Loc → Loc → Bool) where
  -- the answer in this store, and the store afterwards
  abbrev pub run_tree : {A : Type 0} → EffectTree Loc Value A → (Loc → Value) → A × (Loc → Value)
  run_tree (Leaf a) m = (a, m)
  run_tree (ReadThen l more) m = run_tree (more (m l)) m
  run_tree (WriteThen l v more) m = run_tree more (at_key same l v m)

  -- it reads or writes the location
  abbrev pub TreeTouches : {A : Type 0} → EffectTree Loc Value A → (Loc → Value) → Loc → Type 0
  TreeTouches (Leaf a) m q = ⊥
  TreeTouches (ReadThen l more) m q = (l ≡ q) ⊎ TreeTouches (more (m l)) m q
  TreeTouches (WriteThen l v more) m q = (l ≡ q) ⊎ TreeTouches more (at_key same l v m) q

  -- what it writes, the newest last
  abbrev pub tree_writes : {A : Type 0} → EffectTree Loc Value A → (Loc → Value) → List (Loc × Value)
  tree_writes (Leaf a) m = []
  tree_writes (ReadThen l more) m = tree_writes (more (m l)) m
  tree_writes (WriteThen l v more) m = (l, v) ∷ tree_writes more (at_key same l v m)

-- one computation, and then another one by its answer
abbrev pub and_then : {Loc Value A B : Type 0} → EffectTree Loc Value A → (A → EffectTree Loc Value B)
    → EffectTree Loc Value B
and_then (Leaf a) f = f a
and_then (ReadThen l more) f = ReadThen l (λ v. and_then (more v) f)
and_then (WriteThen l v more) f = WriteThen l v (and_then more f)
