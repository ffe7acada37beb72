-- All of this belongs to what the program promises (docs/promise.txt).
-- The variables that a statement uses, by paths of calls: the meaning of the sets that `sp_varsets` computes. It is
-- said by paths, and not by a closure, so that it shares nothing with the computation.
use Rattle.std.specs.Prelude.{◌≡◌, ◌⊎◌, ℕ, zero, suc, List, [], ◌∷◌, Some, slice_get}
use Rattle.sp_tree.specs.Plain.{Actuals, Program, Variable, Block}
use Rattle.sp_tree.specs.Uses.{Use, Target, Seen, CallOf, Stop, In_stmt}

module _ (p : Program) where
  -- block c is block b, or stands in it n levels deep
  abbrev pub IsBelow : ℕ → ℕ → ℕ → Type 0
  IsBelow zero c b = c ≡ b
  IsBelow (suc n) c b = (k : Block) × (slice_get p.blocks c ≡ Some k) × (q : ℕ) × (k.parent ≡ Some q) × IsBelow n q b

  -- neither block b nor one inside it declares the variable
  abbrev pub IsFree : ℕ → ℕ → Type 0
  IsFree b x = (i : Variable) → slice_get p.variables x ≡ Some i → (n : ℕ) → IsBelow n i.block b → ⊥

  -- a use in block b that those who call it have as well: one of a variable from outside, or a stop
  abbrev pub IsUseOfCallers : ℕ → Use → Type 0
  IsUseOfCallers b (Target x) = IsFree b x
  IsUseOfCallers b (Seen x) = IsFree b x
  IsUseOfCallers b Stop = Unit
  IsUseOfCallers _ _ = ⊥

  -- a call of block b is among the uses Here, those who call it have the use as well, and Rest is so of the block
  pub record CallStep (Here : Use → Type 0) (b : ℕ) (u : Use) (Rest : Block → Type 0) : Type 0 where
    pub actuals : Actuals
    pub is_called : Here (CallOf b actuals)
    pub block : Block
    pub is_block : slice_get p.blocks b ≡ Some block
    pub is_of_callers : IsUseOfCallers b u
    pub rest : Rest block

  -- by a path of calls from where the uses Here stand, this use
  abbrev pub Reach : (Use → Type 0) → List ℕ → Use → Type 0
  Reach Here [] u = Here u
  Reach Here (b ∷ bs) u = CallStep Here b u (λ k. Reach (In_stmt k.body) bs u)

  -- target and expression variables
  abbrev pub IsTarget : (Use → Type 0) → ℕ → Type 0
  IsTarget Here x = (bs : List ℕ) × Reach Here bs (Target x)

  -- the statement has it as an expression variable
  abbrev pub IsSeen : (Use → Type 0) → ℕ → Type 0
  IsSeen Here x = (bs : List ℕ) × Reach Here bs (Seen x)

  -- either
  abbrev pub IsUsed : (Use → Type 0) → ℕ → Type 0
  IsUsed Here x = IsTarget Here x ⊎ IsSeen Here x

  -- a target of the block that is declared outside it
  abbrev pub ImplicitTarget : ℕ → ℕ → Type 0
  ImplicitTarget b x = (k : Block) × (slice_get p.blocks b ≡ Some k) × IsFree b x × IsTarget (In_stmt k.body) x

  -- a variable of the block that is declared outside it
  abbrev pub Implicit : ℕ → ℕ → Type 0
  Implicit b x = (k : Block) × (slice_get p.blocks b ≡ Some k) × IsFree b x × IsUsed (In_stmt k.body) x

  -- a call of it leads to a statement that a function may not have
  abbrev pub LeadsToStop : ℕ → Type 0
  LeadsToStop b = (k : Block) × (slice_get p.blocks b ≡ Some k) × (bs : List ℕ) × Reach (In_stmt k.body) bs Stop
