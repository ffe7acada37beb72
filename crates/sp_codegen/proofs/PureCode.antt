-- What stands in code has pure expressions: what they call is functions, with values.
use Rattle.std.proofs.Common.{◌≡◌, ℕ, ◌+◌, List, [], ◌∷◌, Option, Some, None, Bool, true, inl, inr, refl}
use Rattle.std.specs.Prelude.{slice_get}
use Rattle.sp_tree.specs.declared.checked.Role.TheVariants as role
use Rattle.sp_tree.specs.Plain.{Expr, Typed, ExprForm, Number, Read, Unary, Binary, Apply, Standard, AtInput, Var}
use Rattle.sp_tree.specs.Plain.{Entire, Index, Field, Selectors, Whole, Select, ByValue, ByReference, Actuals, Nothing}
use Rattle.sp_tree.specs.Plain.{Pass, Program, Variable, Stmt, Empty, Assign, Call, Sequence, If, IfElse, While, Repeat}
use Rattle.sp_tree.specs.Plain.{For, Case, Parallel, Forall, Assume, ReadValue, ReadLine, WriteValue, WriteText}
use Rattle.sp_tree.specs.Plain.{WriteLine, Open, Send, Receive, Stmts, No, And, On, Arms, NoArm, Or}
use Rattle.sp_tree.specs.Interference.{IsMember, IsFunction}
use Rattle.sp_meaning.specs.LocalWork.{Item, Do, First, Again, Test, Leave, Break}
use Rattle.sp_meaning.proofs.Pure.{DoFunctionsTakeValues, IsLocal, PureExpr, PureForm, PureVar, PureSelectors}
use Rattle.sp_meaning.proofs.Pure.{PureValues, PureActuals, PureWidth, PureStmt, PureStmts, PureArms, PureItems}
use Rattle.sp_meaning.proofs.Pure.{AreBlocksPure}
use Rattle.sp_code.specs.declared.code.ForkTable.{ForkTable}
use Rattle.sp_code.specs.declared.code.Parts.{Parts}
use Rattle.sp_code.specs.declared.instr.Instr.{Instr}
use Rattle.sp_code.specs.Machine.{Entry, is_in_no_function}
use Rattle.sp_code.specs.Places.{after_value, after_var, after_tests, after_statement, after_arms}
use Rattle.sp_code.specs.Scopes.{Sort, Ordinals, Channels, Many, NoSort, Scope, OfIndex, scopes_of, sort}
use Rattle.sp_code.specs.CodeOfTree.{ForVar, ValueAt, FormAt, PlaceAt, SelectedAt, ActualsAt, WidthAt, RightAt}
use Rattle.sp_code.specs.CodeOfTree.{StatementAt}
use Rattle.sp_code.specs.CodeOfTree.{AllAt, ChildrenAt, ArmsAt, CodeAt, HasFork, HasWords, BlocksAt}
use Rattle.sp_codegen.specs.FramePairs.{FramePair}
use Rattle.sp_codegen.specs.Executions.{Execution}
use Rattle.sp_codegen.specs.CodePositions.{CodeFollows}

module _ (p : Program) (values : DoFunctionsTakeValues p) (moves shares : Stmt → List ℕ) (Is : ℕ → Instr → Type 0)
    (HasTable : ℕ → ForkTable → Type 0) (HasText : ℕ → List ℕ → Type 0) (callable : ℕ → Type 0) where
  mutual
    expr_pure : (e : Expr) (sc : List Scope) (q : ℕ) → ValueAt p moves shares Is HasTable HasText callable sc q e
        → PureExpr p e
    expr_pure (Typed k form) sc q h = form_pure form k sc q h

    form_pure : (form : ExprForm) (k : ℕ) (sc : List Scope) (q : ℕ)
        → FormAt p moves shares Is HasTable HasText callable sc q k form → PureForm p form
    form_pure (Number n) k sc q h = tt
    form_pure (Read v) k sc q (place, _) = var_pure v k sc q place
    form_pure (Unary op a) k sc q (operand, _, _, _) = expr_pure a sc q operand
    form_pure (Binary op a b) k sc q (left, right, _, _, _) =
        (expr_pure a sc q left, expr_pure b sc (after_value q a) right)
    form_pure (Apply f args) k sc q (b, given, (_, block, _, _), (answer, answer_is), _) =
        let function : IsFunction p f = (b, answer, block, answer_is) in
        (function, values_pure args b.formals sc q (λ x m v e r. values f b block function x m v e r) given)
    form_pure (Standard f a) k sc q (_, _, operand, _, _, _) = expr_pure a sc q operand
    form_pure (AtInput f) k sc q h = tt

    var_pure : (v : Var) (k : ℕ) (sc : List Scope) (q : ℕ)
        → PlaceAt p moves shares Is HasTable HasText callable sc q v k
        → PureVar p v
    var_pure (Entire x ss) k sc q (whole, _, selected) = selectors_pure ss whole k sc (q + 1) selected

    selectors_pure : (ss : Selectors) (k k2 : ℕ) (sc : List Scope) (q : ℕ)
        → SelectedAt p moves shares Is HasTable HasText callable sc q ss k k2 → PureSelectors p ss
    selectors_pure Whole k k2 sc q h = tt
    selectors_pure (Select (Index e) rest) k k2 sc q (_, _, _, element, _, value, _, _, further) =
        (expr_pure e sc q value, selectors_pure rest element k2 sc (after_value q e + 1) further)
    selectors_pure (Select (Field f) rest) k k2 sc q (_, _, type, _, _, _, further) =
        selectors_pure rest type k2 sc (q + 1) further

    -- the arguments of a function, none of whose parameters is a variable parameter
    values_pure : (args : Actuals) (xs : List ℕ) (sc : List Scope) (q : ℕ)
        → ((x : ℕ) → IsMember x xs → (v : Variable) → slice_get p.variables x ≡ Some v → v.role ≡ role.Reference → ⊥)
        → ActualsAt p moves shares Is HasTable HasText callable sc q args xs → PureValues p args
    values_pure Nothing xs sc q never h = tt
    values_pure (Pass a rest) [] sc q never h = absurd h
    values_pure (Pass (ByValue e) rest) (x ∷ xs) sc q never (value, _, others) =
        (expr_pure e sc q value, values_pure rest xs sc (after_value q e) (λ y m. never y (inr m)) others)
    values_pure (Pass (ByReference v) rest) (x ∷ xs) sc q never (_, _, _, (formal, known, _, role_is), _) =
        never x (inl refl) formal known role_is

  actuals_pure : (args : Actuals) (xs : List ℕ) (sc : List Scope) (q : ℕ)
      → ActualsAt p moves shares Is HasTable HasText callable sc q args xs → PureActuals p args
  actuals_pure Nothing xs sc q h = tt
  actuals_pure (Pass a rest) [] sc q h = absurd h
  actuals_pure (Pass (ByValue e) rest) (x ∷ xs) sc q (value, _, others) =
      (expr_pure e sc q value, actuals_pure rest xs sc (after_value q e) others)
  actuals_pure (Pass (ByReference v) rest) (x ∷ xs) sc q (k, place, _, _, others) =
      (var_pure v k sc q place, actuals_pure rest xs sc (after_var q v) others)

  width_pure : (w : Option Expr) (sc : List Scope) (q : ℕ) → WidthAt p moves shares Is HasTable HasText callable sc q w
      → PureWidth p w
  width_pure None sc q h = tt
  width_pure (Some e) sc q h = expr_pure e sc q h.0

  right_pure : (z : Sort) (form : ExprForm) (k : ℕ) (sc : List Scope) (q : ℕ)
      → RightAt p moves shares Is HasTable HasText callable sc q k z form → PureForm p form
  right_pure Ordinals form k sc q h = form_pure form k sc q h.0
  right_pure Channels form k sc q h = form_pure form k sc q h.0
  right_pure Many (Number n) k sc q h = absurd h
  right_pure Many (Read v) k sc q h = var_pure v k sc q h.0
  right_pure Many (Unary op a) k sc q h = absurd h
  right_pure Many (Binary op a b) k sc q h = absurd h
  right_pure Many (Apply f args) k sc q h = absurd h
  right_pure Many (Standard f a) k sc q h = absurd h
  right_pure Many (AtInput f) k sc q h = absurd h
  right_pure NoSort form k sc q h = absurd h

  for_local : (sc : List Scope) (x : ℕ) → ForVar p moves shares Is HasTable HasText callable sc x → IsLocal p x
  for_local sc x (v, known, role_is, _, _) = (v, known, role_is)

  mutual
    pub stmt_pure : (s : Stmt) (free : Bool) (sc : List Scope) (q : ℕ)
        → StatementAt p moves shares Is HasTable HasText callable free sc q s → PureStmt p s
    stmt_pure Empty free sc q h = tt
    stmt_pure (Assign v (Typed k form)) free sc q (place, _, right) =
        (var_pure v k sc q place, right_pure (sort p k) form k sc (after_var q v) right)
    stmt_pure (Call f args) free sc q (b, given, _, _, _) = actuals_pure args b.formals sc q given
    stmt_pure (Sequence ss) free sc q h = all_pure ss free sc q h
    stmt_pure (If e a) free sc q ((value, _), _, body) =
        (expr_pure e sc q value, stmt_pure a free sc (after_value q e + 1) body)
    stmt_pure (IfElse e a b) free sc q ((value, _), _, first, _, second) = (
      expr_pure e sc q value,
      stmt_pure a free sc (after_value q e + 1) first,
      stmt_pure b free sc (after_statement p (after_value q e + 1) a + 1) second,
    )
    stmt_pure (While e s) free sc q ((value, _), _, _, body, _) =
        (expr_pure e sc q value, stmt_pure s free sc (after_value q e + 1 + 1) body)
    stmt_pure (Repeat s e) free sc q (_, body, (value, _), _) =
        (expr_pure e sc (after_statement p (q + 1) s) value, stmt_pure s free sc (q + 1) body)
    stmt_pure (For x from down to s) free sc q ((first, _), (last, _), (local, _, _, body, _)) =
        let t = after_value (after_value q from) to in (
          expr_pure from sc q first,
          expr_pure to sc (after_value q from) last,
          for_local sc x local,
          stmt_pure s free sc (t + 1 + 1) body,
        )
    stmt_pure (Case e arms) free sc q ((value, _), _, _, bodies) =
        let b = after_tests (after_value q e) arms in
        (expr_pure e sc q value, arms_pure arms free sc (b + 1) (after_arms p (b + 1) arms) bodies)
    stmt_pure (Parallel ss) free sc q (_, _, _, _, children, _) = children_pure ss free sc (q + 1 + 1) children
    stmt_pure (Forall x from to s) free sc q (_, _, (first, _), (last, _), _, _, body, _, _) = (
      expr_pure from sc q first,
      expr_pure to sc (after_value q from) last,
      stmt_pure s free (OfIndex x ∷ sc) (after_value (after_value q from) to + 1 + 1) body,
    )
    stmt_pure (Assume e) free sc q ((value, _), _) = expr_pure e sc q value
    stmt_pure (ReadValue v) free sc q (k, _, place, _, _, _) = var_pure v k sc q place
    stmt_pure ReadLine free sc q h = tt
    stmt_pure (WriteValue e w) free sc q (_, (value, _), _, width, _, _) =
        (expr_pure e sc q value, width_pure w sc (after_value q e) width)
    stmt_pure (WriteText t w) free sc q (_, _, width, _) = width_pure w sc q width
    stmt_pure WriteLine free sc q h = tt
    stmt_pure (Open v) free sc q (k, place, _, _, _, _) = var_pure v k sc q place
    stmt_pure (Send c e) free sc q (channel, _, value, _, _) =
        (expr_pure c sc q channel, expr_pure e sc (after_value q c) value)
    stmt_pure (Receive c v) free sc q (k, channel, _, place, _, _, _) =
        (expr_pure c sc q channel, var_pure v k sc (after_value q c) place)

    all_pure : (ss : Stmts) (free : Bool) (sc : List Scope) (q : ℕ)
        → AllAt p moves shares Is HasTable HasText callable free sc q ss → PureStmts p ss
    all_pure No free sc q h = tt
    all_pure (And s rest) free sc q (first, others) =
        (stmt_pure s free sc q first, all_pure rest free sc (after_statement p q s) others)

    children_pure : (ss : Stmts) (free : Bool) (sc : List Scope) (q : ℕ)
        → ChildrenAt p moves shares Is HasTable HasText callable free sc q ss → PureStmts p ss
    children_pure No free sc q h = tt
    children_pure (And s rest) free sc q (first, _, others) =
        (stmt_pure s free sc q first, children_pure rest free sc (after_statement p q s + 1) others)

    arms_pure : (arms : Arms) (free : Bool) (sc : List Scope) (q end : ℕ)
        → ArmsAt p moves shares Is HasTable HasText callable free sc q arms end → PureArms p arms
    arms_pure NoArm free sc q end h = tt
    arms_pure (Or (On ms s) rest) free sc q end (first, _, others) =
        (stmt_pure s free sc q first, arms_pure rest free sc (after_statement p q s + 1) end others)

-- the program's blocks
pub blocks_pure : (p : Program) → DoFunctionsTakeValues p
    → (moves shares : Stmt → List ℕ) (code : Parts) (callable : ℕ → Type 0) → BlocksAt p moves shares code callable
    → AreBlocksPure p
blocks_pure p values moves shares code callable blocks f b e = let z = blocks f b e in
    stmt_pure p values moves shares (CodeAt code) (HasFork code) (HasWords code) callable b.body true (scopes_of p f)
    z.layout.entry (z.stands.body true tt)

-- what a process has left to do where it stands in its code
module _ {M : Type 0} (ex : Execution M) (values : DoFunctionsTakeValues ex.run_input.program) where
  open ex use {run_input as g, code, moves, shares, IsCallableInFunctions as callable}

  pub follows_pure : (end : ℕ) (base : List Entry) (below : List FramePair) (pc : ℕ) (stack : List Entry)
      (fs : List FramePair)
      (todo : List Item) → CodeFollows ex end base below pc stack fs todo → PureItems g.program todo
  follows_pure end base below pc stack fs [] h = tt
  follows_pure end base below pc stack fs (Do s ∷ todo) (at, _, k) = (
    stmt_pure g.program values moves shares (CodeAt code) (HasFork code) (HasWords code) callable s
        (is_in_no_function stack) k.scopes at k.stands,
    follows_pure end base below (after_statement g.program at s) stack fs todo k.rest,
  )
  follows_pure end base below pc stack fs (First x lo hi d s ∷ todo) (at, _, k, _) =
      let (local, _, _, body, _) = k.turns in (
        (
          for_local g.program values moves shares (CodeAt code) (HasFork code) (HasWords code) callable k.scopes x
              local,
          stmt_pure g.program values moves shares (CodeAt code) (HasFork code) (HasWords code) callable s
              (is_in_no_function k.under) k.scopes (at + 1 + 1) body,
        ),
        follows_pure end base below (after_statement g.program (at + 1 + 1) s + 1) k.under fs todo k.rest,
      )
  follows_pure end base below pc stack fs (Again x hi d s ∷ todo) (at, _, k) =
      let (local, _, _, body, _) = k.turns in (
        (
          for_local g.program values moves shares (CodeAt code) (HasFork code) (HasWords code) callable k.scopes x
              local,
          stmt_pure g.program values moves shares (CodeAt code) (HasFork code) (HasWords code) callable s
              (is_in_no_function k.under) k.scopes (at + 1 + 1) body,
        ),
        follows_pure end base below (after_statement g.program (at + 1 + 1) s + 1) k.under fs todo k.rest,
      )
  follows_pure end base below pc stack fs (Test s e ∷ todo) (at, _, k) = (
    stmt_pure g.program values moves shares (CodeAt code) (HasFork code) (HasWords code) callable (Repeat s e)
        (is_in_no_function stack) k.scopes at k.stands,
    follows_pure end base below (after_statement g.program at (Repeat s e)) stack fs todo k.rest,
  )
  follows_pure end base below pc stack fs (Leave ∷ todo) (_, _, k) =
      follows_pure end base below k.back k.under k.outer todo k.rest
  follows_pure end base below pc stack fs (Break f ∷ todo) h = absurd h
