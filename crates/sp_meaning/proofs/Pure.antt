-- Expressions are pure: what they call is functions alone, with values alone, and a function changes nothing outside
-- itself.
use Rattle.std.proofs.Common.{◌≡◌, inl, inr, ℕ, List, [], ◌∷◌, Option, Some, None, sym}
use Rattle.std.proofs.Common.{subst}
use Rattle.std.specs.Prelude.{slice_get}
use Rattle.sp_tree.specs.declared.checked.Role.TheVariants as role
use Rattle.sp_tree.specs.Plain.{Expr, Typed, ExprForm, Number, Read, Unary, Binary, Apply, Standard, AtInput, Var}
use Rattle.sp_tree.specs.Plain.{Entire, Index, Field, Selectors, Whole, Select, ByValue, ByReference, Actuals, Nothing}
use Rattle.sp_tree.specs.Plain.{Pass, Program, Variable, Block, Stmt, Empty, Assign, Call, Sequence, If, IfElse, While}
use Rattle.sp_tree.specs.Plain.{Repeat, For, Case, Parallel, Forall, Assume, ReadValue, ReadLine, WriteValue, WriteText}
use Rattle.sp_tree.specs.Plain.{WriteLine, Open, Send, Receive, Stmts, No, And, On, Arms, NoArm, Or}
use Rattle.sp_tree.specs.Uses.{Use, Target, CallOf, In_expr, In_form, In_selectors}
use Rattle.sp_tree.specs.Uses.{In_actuals}
use Rattle.sp_tree.specs.Sets.{Reach, ImplicitTarget}
use Rattle.sp_tree.specs.Interference.{IsMember, IsFunction}
use Rattle.sp_meaning.specs.LocalWork.{Item, Do, First, Again, Test, Leave, Break}

module _ (p : Program) where
  -- no function changes a variable from outside (rule I8)
  abbrev pub AreFunctionsPure : Type 0
  AreFunctionsPure = (f : ℕ) → IsFunction p f → (x : ℕ) → ImplicitTarget p f x → ⊥

  -- no parameter of a function is a variable parameter (rule I7)
  abbrev pub DoFunctionsTakeValues : Type 0
  DoFunctionsTakeValues = (f : ℕ) (b : Block) → slice_get p.blocks f ≡ Some b → IsFunction p f → (x : ℕ)
      → IsMember x b.formals → (v : Variable) → slice_get p.variables x ≡ Some v → v.role ≡ role.Reference → ⊥

  -- a for variable is a local one
  abbrev pub IsLocal : ℕ → Type 0
  IsLocal x = (v : Variable) × (slice_get p.variables x ≡ Some v) × (v.role ≡ role.Local)

  -- functions alone are called here, with values
  abbrev mutual
    pub PureExpr : Expr → Type 0
    PureExpr (Typed k form) = PureForm form

    pub PureForm : ExprForm → Type 0
    PureForm (Number n) = Unit {0}
    PureForm (Read v) = PureVar v
    PureForm (Unary op a) = PureExpr a
    PureForm (Binary op a b) = PureExpr a × PureExpr b
    PureForm (Apply f args) = IsFunction p f × PureValues args
    PureForm (Standard f a) = PureExpr a
    PureForm (AtInput f) = Unit {0}

    pub PureVar : Var → Type 0
    PureVar (Entire x ss) = PureSelectors ss

    pub PureSelectors : Selectors → Type 0
    PureSelectors Whole = Unit {0}
    PureSelectors (Select (Index e) rest) = PureExpr e × PureSelectors rest
    PureSelectors (Select (Field f) rest) = PureSelectors rest

    pub PureValues : Actuals → Type 0
    PureValues Nothing = Unit {0}
    PureValues (Pass (ByValue e) rest) = PureExpr e × PureValues rest
    PureValues (Pass (ByReference v) rest) = ⊥

  -- the arguments of a procedure
  abbrev pub PureActuals : Actuals → Type 0
  PureActuals Nothing = Unit {0}
  PureActuals (Pass (ByValue e) rest) = PureExpr e × PureActuals rest
  PureActuals (Pass (ByReference v) rest) = PureVar v × PureActuals rest

  abbrev pub PureWidth : Option Expr → Type 0
  PureWidth None = Unit {0}
  PureWidth (Some e) = PureExpr e

  -- so it is in every expression of a statement
  abbrev mutual
    pub PureStmt : Stmt → Type 0
    PureStmt Empty = Unit {0}
    PureStmt (Assign v e) = PureVar v × PureExpr e
    PureStmt (Call f args) = PureActuals args
    PureStmt (Sequence ss) = PureStmts ss
    PureStmt (If e a) = PureExpr e × PureStmt a
    PureStmt (IfElse e a b) = PureExpr e × PureStmt a × PureStmt b
    PureStmt (While e s) = PureExpr e × PureStmt s
    PureStmt (Repeat s e) = PureExpr e × PureStmt s
    PureStmt (For x from down to s) = PureExpr from × PureExpr to × IsLocal x × PureStmt s
    PureStmt (Case e arms) = PureExpr e × PureArms arms
    PureStmt (Parallel ss) = PureStmts ss
    PureStmt (Forall x from to s) = PureExpr from × PureExpr to × PureStmt s
    PureStmt (Assume e) = PureExpr e
    PureStmt (ReadValue v) = PureVar v
    PureStmt ReadLine = Unit {0}
    PureStmt (WriteValue e w) = PureExpr e × PureWidth w
    PureStmt (WriteText t w) = PureWidth w
    PureStmt WriteLine = Unit {0}
    PureStmt (Open v) = PureVar v
    PureStmt (Send c e) = PureExpr c × PureExpr e
    PureStmt (Receive c v) = PureExpr c × PureVar v

    pub PureStmts : Stmts → Type 0
    PureStmts No = Unit {0}
    PureStmts (And s rest) = PureStmt s × PureStmts rest

    pub PureArms : Arms → Type 0
    PureArms NoArm = Unit {0}
    PureArms (Or (On ms s) rest) = PureStmt s × PureArms rest

  -- and in all that is left to do
  abbrev pub PureItems : List Item → Type 0
  PureItems [] = Unit {0}
  PureItems (Do s ∷ todo) = PureStmt s × PureItems todo
  PureItems (First x low high down s ∷ todo) = (IsLocal x × PureStmt s) × PureItems todo
  PureItems (Again x limit down s ∷ todo) = (IsLocal x × PureStmt s) × PureItems todo
  PureItems (Test s e ∷ todo) = (PureExpr e × PureStmt s) × PureItems todo
  PureItems (Leave ∷ todo) = PureItems todo
  PureItems (Break f ∷ todo) = PureItems todo

  abbrev pub AreBlocksPure : Type 0
  AreBlocksPure = (f : ℕ) (b : Block) → slice_get p.blocks f ≡ Some b → PureStmt b.body

  -- what stands in such an expression: no target, and calls of functions
  abbrev pub PureUse : Use → Type 0
  PureUse (Target x) = ⊥
  PureUse (CallOf f args) = IsFunction p f
  PureUse _ = Unit {0}

  mutual
    pub expr_uses : (e : Expr) → PureExpr e → (u : Use) → In_expr e u → PureUse u
    expr_uses (Typed k form) h u i = form_uses form h u i

    form_uses : (form : ExprForm) → PureForm form → (u : Use) → In_form form u → PureUse u
    form_uses (Number n) h u i = absurd i
    form_uses (Read (Entire x ss)) h u (inl e) = subst PureUse (sym e) tt
    form_uses (Read (Entire x ss)) h u (inr i) = selectors_uses ss h u i
    form_uses (Unary op a) h u i = expr_uses a h u i
    form_uses (Binary op a b) h u (inl i) = expr_uses a h.0 u i
    form_uses (Binary op a b) h u (inr i) = expr_uses b h.1 u i
    form_uses (Apply f args) h u (inl e) = subst PureUse (sym e) h.0
    form_uses (Apply f args) h u (inr i) = values_uses args h.1 u i
    form_uses (Standard f a) h u i = expr_uses a h u i
    form_uses (AtInput f) h u e = subst PureUse (sym e) tt

    pub selectors_uses : (ss : Selectors) → PureSelectors ss → (u : Use) → In_selectors ss u → PureUse u
    selectors_uses Whole h u i = absurd i
    selectors_uses (Select (Index e) rest) h u (inl i) = expr_uses e h.0 u i
    selectors_uses (Select (Index e) rest) h u (inr i) = selectors_uses rest h.1 u i
    selectors_uses (Select (Field f) rest) h u i = selectors_uses rest h u i

    values_uses : (args : Actuals) → PureValues args → (u : Use) → In_actuals args u → PureUse u
    values_uses Nothing h u i = absurd i
    values_uses (Pass (ByValue e) rest) h u (inl i) = expr_uses e h.0 u i
    values_uses (Pass (ByValue e) rest) h u (inr i) = values_uses rest h.1 u i
    values_uses (Pass (ByReference v) rest) h u i = absurd h

  -- no target is reached from it
  pub no_target : AreFunctionsPure → {Here : Use → Type 0} → ((u : Use) → Here u → PureUse u) → (bs : List ℕ) (x : ℕ)
      → Reach p Here bs (Target x) → ⊥
  no_target pure uses [] x r = uses (Target x) r
  no_target pure uses (b ∷ bs) x step = pure b (uses (CallOf b step.actuals) step.is_called) x
      (step.block, step.is_block, step.is_of_callers, (bs, step.rest))
