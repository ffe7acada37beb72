-- None of this belongs to what the program promises: it is for contracts between crates.
-- What the phase of names gives of a tree with numbers for names: each name in it is of a declaration that is visible
-- there. The facts of code are led from it, part by part.
use Rattle.std.specs.Prelude.{◌≡◌, ◌⊎◌, ℕ, suc, ◌≤◌, List, [], ◌∷◌, Option, Some, None, true, slice_get}
use Rattle.std.specs.Prelude.{drop}
use Rattle.sp_tree.specs.declared.checked.Role.{Role}
use Rattle.sp_tree.specs.declared.checked.Role.TheVariants as role
use Rattle.sp_tree.specs.declared.meaning.StandardProcedure.{StandardProcedure}
use Rattle.sp_tree.specs.declared.meaning.StandardProcedure.TheVariants as procedure
use Rattle.sp_tree.specs.NameRules.{function_takes, procedure_takes}
use Rattle.sp_tree.specs.Plain.{Program, Variable, Block}
use Rattle.sp_tree.specs.PlainNamed as n
use Rattle.sp_code.specs.Scopes.{Scope, OfBlock, OfIndex, is_block, is_index, level, scopes_of}
use Rattle.sp_types.specs.TypeWalk.{count, is_variable}
use Rattle.sp_code.specs.CodeOfTree.{NoIndex}

abbrev pub IsInForall : List Scope → Type 0
IsInForall [] = ⊥
IsInForall (OfBlock b ∷ sc) = ⊥
IsInForall (OfIndex x ∷ sc) = Unit {0}

-- p: the program; constants: how many constants are declared
module _ (p : Program) (constants : ℕ) where
  abbrev pub SeenRole : List Scope → ℕ → Variable → Role → Type 0
  SeenRole sc x v role.Console = ⊥
  SeenRole sc x v role.Index = (up : ℕ) × (level (is_index x) sc ≡ Some up)
  SeenRole sc _ v _ = (up : ℕ) × (level (is_block v.block) sc ≡ Some up)

  -- a variable that is visible
  abbrev pub SeenIn : List Scope → ℕ → Type 0
  SeenIn sc x = (v : Variable) × (slice_get p.variables x ≡ Some v) × SeenRole sc x v v.role

  -- one that may be changed
  abbrev pub AimedIn : ℕ → Type 0
  AimedIn x = (v : Variable) × (slice_get p.variables x ≡ Some v) × NoIndex v.role

  abbrev pub AroundIn : List Scope → ℕ → Option ℕ → ℕ → Type 0
  AroundIn sc f None up = ⊥
  AroundIn sc f (Some b) up = (level (is_block b) sc ≡ Some up) × (scopes_of p f ≡ OfBlock f ∷ drop up sc)

  -- a block that is visible
  abbrev pub CallIn : List Scope → ℕ → Block → Type 0
  CallIn sc f b = (up : ℕ) × (slice_get p.blocks f ≡ Some b) × AroundIn sc f b.parent up

  -- a local variable of the block, where no forall is around; in a forall no rule of names refuses it, but one of
  -- interference does
  abbrev pub ForIn : List Scope → ℕ → Type 0
  ForIn sc x = (v : Variable) × (slice_get p.variables x ≡ Some v) × (v.role ≡ role.Local)
      × ((level (is_block v.block) sc ≡ Some 0) ⊎ IsInForall sc)

  abbrev pub AimedExpression : n.Expression → Type 0
  AimedExpression (n.ExpressionAt at (n.Read (n.Entire x name ss))) = AimedIn x
  AimedExpression e = Unit {0}

  abbrev mutual
    pub InExpression : List Scope → n.Expression → Type 0
    InExpression sc (n.ExpressionAt at form) = InForm sc form

    pub InForm : List Scope → n.ExpressionForm → Type 0
    InForm sc (n.Number k) = Unit {0}
    InForm sc (n.Quoted t) = Unit {0}
    InForm sc (n.Constant k) = suc k ≤ constants
    InForm sc (n.Read v) = InVariable sc v
    InForm sc (n.Apply f at args) = (b : Block) × CallIn sc f b × ((x : ℕ) × (b.answer ≡ Some x))
        × InActuals sc b.formals args
    InForm sc (n.Standard f args) = (function_takes f (count args) ≡ true) × InArguments sc args
    InForm sc (n.Unary op a) = InExpression sc a
    InForm sc (n.Binary op a b) = InExpression sc a × InExpression sc b

    pub InVariable : List Scope → n.Variable → Type 0
    InVariable sc (n.Entire x at ss) = SeenIn sc x × InSelectors sc ss

    pub InSelectors : List Scope → n.Selectors → Type 0
    InSelectors sc n.Whole = Unit {0}
    InSelectors sc (n.Select (n.Index e) rest) = InExpression sc e × InSelectors sc rest
    InSelectors sc (n.Select (n.Field name) rest) = InSelectors sc rest

    -- as many as there are parameters; what a variable parameter is to stand for may be changed
    pub InActuals : List Scope → List ℕ → n.Arguments → Type 0
    InActuals sc [] n.NoArgument = Unit {0}
    InActuals sc (x ∷ xs) n.NoArgument = ⊥
    InActuals sc [] (n.AndArgument a rest) = ⊥
    InActuals sc (x ∷ xs) (n.AndArgument (n.Pass e w) rest) =
        InExpression sc e × ((v : Variable) → slice_get p.variables x ≡ Some v → v.role ≡ role.Reference
        → is_variable e ≡ true → AimedExpression e) × InActuals sc xs rest

    pub InArguments : List Scope → n.Arguments → Type 0
    InArguments sc n.NoArgument = Unit {0}
    InArguments sc (n.AndArgument (n.Pass e w) rest) = InExpression sc e × InWidth sc w × InArguments sc rest

    pub InWidth : List Scope → n.Width → Type 0
    InWidth sc n.NoWidth = Unit {0}
    InWidth sc (n.WithWidth e) = InExpression sc e

  -- what `read`, `open` and `receive` are given
  abbrev pub AreAimed : n.Arguments → Type 0
  AreAimed n.NoArgument = Unit {0}
  AreAimed (n.AndArgument (n.Pass (n.ExpressionAt at (n.Read (n.Entire x name ss))) w) rest) = AimedIn x × AreAimed rest
  AreAimed (n.AndArgument a rest) = ⊥

  abbrev pub AreAimedLater : n.Arguments → Type 0
  AreAimedLater n.NoArgument = Unit {0}
  AreAimedLater (n.AndArgument a rest) = AreAimed rest

  abbrev pub AimsOf : StandardProcedure → n.Arguments → Type 0
  AimsOf procedure.Write args = Unit {0}
  AimsOf procedure.Writeln args = Unit {0}
  AimsOf procedure.Send args = Unit {0}
  AimsOf procedure.Receive args = AreAimedLater args
  AimsOf _ args = AreAimed args

  abbrev mutual
    pub InStatement : List Scope → n.Statement → Type 0
    InStatement sc (n.Does at form) = InStatementForm sc form

    pub InStatementForm : List Scope → n.Form → Type 0
    InStatementForm sc n.Empty = Unit {0}
    InStatementForm sc (n.Assign (n.Entire x at ss) e) = SeenIn sc x × AimedIn x × InSelectors sc ss × InExpression sc e
    InStatementForm sc (n.Call f args) = (b : Block) × CallIn sc f b × (b.answer ≡ None) × InActuals sc b.formals args
    InStatementForm sc (n.Perform f args) = (procedure_takes f (count args) ≡ true) × AimsOf f args
        × InArguments sc args
    InStatementForm sc (n.Sequence ss) = InStatements sc ss
    InStatementForm sc (n.If e a o) = InExpression sc e × InStatement sc a × InOther sc o
    InStatementForm sc (n.While e a) = InExpression sc e × InStatement sc a
    InStatementForm sc (n.Repeat ss e) = InStatements sc ss × InExpression sc e
    InStatementForm sc (n.Case e arms) = InExpression sc e × InArms sc arms
    InStatementForm sc (n.For x at from down to a) = ForIn sc x × InExpression sc from × InExpression sc to
        × InStatement sc a
    InStatementForm sc (n.Parallel bs) = InBranches sc bs
    InStatementForm sc (n.Forall x from to a) =
        ((v : Variable) × (slice_get p.variables x ≡ Some v) × (v.role ≡ role.Index)) × InExpression sc from
        × InExpression sc to × InStatement (OfIndex x ∷ sc) a
    InStatementForm sc (n.Assume e) = InExpression sc e

    pub InOther : List Scope → n.ElsePart → Type 0
    InOther sc n.NoElse = Unit {0}
    InOther sc (n.Else a) = InStatement sc a

    pub InStatements : List Scope → n.Statements → Type 0
    InStatements sc n.NoStatement = Unit {0}
    InStatements sc (n.AndThen a rest) = InStatement sc a × InStatements sc rest

    pub InArms : List Scope → n.Arms → Type 0
    InArms sc n.NoArm = Unit {0}
    InArms sc (n.Or (n.On cs a) rest) = InStatement sc a × InArms sc rest

    pub InBranches : List Scope → n.Branches → Type 0
    InBranches sc n.NoBranch = Unit {0}
    InBranches sc (n.Beside ss rest) = InStatements sc ss × InBranches sc rest
