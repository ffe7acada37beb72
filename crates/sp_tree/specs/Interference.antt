-- Some of this belongs to what the program promises (docs/promise.txt).
-- The rules of interference, said of the whole program by paths, variables and sets. The promises of disjoint runs
-- and of verdicts require them; they stand apart from the walk that finds a breach, which is `Interferes.antt`.
use Rattle.std.specs.Prelude.{◌≡◌, ◌⊎◌, ℕ, ◌<◌, List, [], ◌∷◌, Some, slice_get}
use Rattle.sp_tree.specs.declared.checked.Role.TheVariants as role
use Rattle.sp_tree.specs.Plain.{Entire, ByValue, ByReference, Actuals, Nothing, Pass, Program, Variable, Block, Stmt}
use Rattle.sp_tree.specs.Plain.{Stmts, No, And}
use Rattle.sp_tree.specs.Uses.{Use, CallOf, ParallelOf, ForallOf, In_stmt, In_stmts}
use Rattle.sp_tree.specs.Sets.{IsBelow, IsTarget, IsUsed, Implicit}

-- the entire variables of the actual variable parameters
abbrev pub refs : Actuals → List ℕ
refs Nothing = []
refs (Pass (ByValue e) rest) = refs rest
refs (Pass (ByReference (Entire x ss)) rest) = x ∷ refs rest

-- one of a list
abbrev pub IsMember : ℕ → List ℕ → Type 0
IsMember x [] = ⊥
IsMember x (y ∷ ys) = (x ≡ y) ⊎ IsMember x ys

-- none comes twice
abbrev pub AllDifferent : List ℕ → Type 0
AllDifferent [] = Unit
AllDifferent (x ∷ xs) = (IsMember x xs → ⊥) × AllDifferent xs

module _ (p : Program) where
  -- the rules
  abbrev pub KeepsI1 : Stmts → Type 0
  KeepsI1 No = Unit
  KeepsI1 (And s rest) = ((x : ℕ) → IsTarget p (In_stmt s) x → IsUsed p (In_stmts rest) x → ⊥)
      × ((x : ℕ) → IsUsed p (In_stmt s) x → IsTarget p (In_stmts rest) x → ⊥) × KeepsI1 rest

  -- the element statement of a forall has no target
  abbrev pub KeepsI2 : Stmt → Type 0
  KeepsI2 s = (x : ℕ) → IsTarget p (In_stmt s) x → ⊥

  -- no variable is passed twice as a variable parameter
  abbrev pub KeepsI4 : Actuals → Type 0
  KeepsI4 args = AllDifferent (refs args)

  -- no implicit variable of the block is passed
  abbrev pub KeepsI5 : ℕ → Actuals → Type 0
  KeepsI5 b args = (x : ℕ) → IsMember x (refs args) → Implicit p b x → ⊥

  -- a block called in itself or in a block inside it
  abbrev pub IsCalledInside : ℕ → Type 0
  IsCalledInside b = (n c : ℕ) × IsBelow p n c b × (k : Block) × (slice_get p.blocks c ≡ Some k) × (args : Actuals)
      × In_stmt k.body (CallOf b args)

  -- the block has a result
  abbrev pub IsFunction : ℕ → Type 0
  IsFunction b = (k : Block) × (x : ℕ) × (slice_get p.blocks b ≡ Some k) × (k.answer ≡ Some x)

  -- the variable is the index of a forall
  abbrev pub IsIndexOf : ℕ → Type 0
  IsIndexOf x = (i : Variable) × (slice_get p.variables x ≡ Some i) × (i.role ≡ role.Index)

  -- what the rules say of what stands in a statement
  abbrev pub IsFreeUse : Use → Type 0
  IsFreeUse (CallOf b args) = KeepsI4 args × KeepsI5 b args
  IsFreeUse (ParallelOf ss) = KeepsI1 ss
  IsFreeUse (ForallOf x s) = IsIndexOf x × KeepsI2 s
  IsFreeUse _ = Unit

  -- the rules of interference on which disjointness rests, and what names and types give of the tree
  pub record IsFreeOfInterference : Type 0 where
    pub blocks : (b : ℕ) (k : Block) → slice_get p.blocks b ≡ Some k → (u : Use) → In_stmt k.body u → IsFreeUse u
    pub parents : (b : ℕ) (k : Block) (q : ℕ) → slice_get p.blocks b ≡ Some k → k.parent ≡ Some q → q < b
    pub consoles : (x : ℕ) (i : Variable) → slice_get p.variables x ≡ Some i → i.role ≡ role.Console → (i.block ≡ 0)
        × (x < 2)
    pub answers : (b : ℕ) (k : Block) (x : ℕ) → slice_get p.blocks b ≡ Some k → k.answer ≡ Some x → (i : Variable)
        × (slice_get p.variables x ≡ Some i) × (i.role ≡ role.Answer) × (i.block ≡ b)
    pub input : (i : Variable) × (slice_get p.variables 0 ≡ Some i) × (i.role ≡ role.Console)
    pub output : (i : Variable) × (slice_get p.variables 1 ≡ Some i) × (i.role ≡ role.Console)
