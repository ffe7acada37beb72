-- A variable that a statement uses is declared, and an index is used by the statement itself and in scope
-- (`is_scoped`): the code of a statement finds each variable by its scopes, and no scope of a called block is an index.
use Rattle.std.proofs.Common.{◌≡◌, inl, inr, ℕ, suc, zero, ◌+◌, ◌==◌, List, [], ◌∷◌, length, Option, Some, None, Bool}
use Rattle.std.proofs.Common.{true, false, if◌then◌else◌, eqb-true, refl, sym, ◌∙◌, subst}
use Rattle.std.specs.Prelude.{slice_get}
use Rattle.sp_tree.specs.declared.checked.Role.TheVariants as role
use Rattle.sp_tree.specs.Plain.{Expr, Typed, ExprForm, Number, Read, Unary, Binary, Apply, Standard, AtInput, Var}
use Rattle.sp_tree.specs.Plain.{Entire, Index, Field, Selectors, Whole, Select, ByValue, ByReference, Actuals, Nothing}
use Rattle.sp_tree.specs.Plain.{Pass, Program, Variable, Stmt, Empty, Assign, Call, Sequence, If, IfElse, While, Repeat}
use Rattle.sp_tree.specs.Plain.{For, Case, Parallel, Forall, Assume, ReadValue, ReadLine, WriteValue, WriteText}
use Rattle.sp_tree.specs.Plain.{WriteLine, Open, Send, Receive, Stmts, No, And, On, Arms, NoArm, Or}
use Rattle.sp_tree.specs.Uses.{Use, Target, Seen, CallOf, ParallelOf, ForallOf, Stop, IsOther, In_expr, In_form}
use Rattle.sp_tree.specs.Uses.{In_read, In_target, In_selectors, In_actuals, In_width, In_stmt, In_stmts, In_arms}
use Rattle.sp_tree.specs.Sets.{Reach, IsUsed}
use Rattle.sp_tree.specs.TreeShape.{IsFormedUse}
use Rattle.sp_tree.specs.Interference.{IsFreeOfInterference}
use Rattle.sp_code.specs.declared.code.ForkTable.{ForkTable}
use Rattle.sp_code.specs.declared.instr.Instr.{Instr}
use Rattle.sp_code.specs.Places.{after_value, after_var, after_tests, after_statement, after_arms}
use Rattle.sp_code.specs.Scopes.{Sort, Ordinals, Channels, Many, NoSort, Scope, OfIndex, is_index, level, one_more}
use Rattle.sp_code.specs.Scopes.{parent_of, scopes_by, scopes_of, sort}
use Rattle.sp_code.specs.CodeOfTree.{ValueAt, FormAt, PlaceAt, SelectedAt, ActualsAt, WidthAt, RightAt, VarRole}
use Rattle.sp_code.specs.CodeOfTree.{StatementAt}
use Rattle.sp_code.specs.CodeOfTree.{AllAt, ChildrenAt, ArmsAt, CodeAt, HasFork, HasWords}
use Rattle.sp_link.proofs.ChildrenStand.{reached_formed}
use Rattle.sp_link.proofs.Relation.{RunContext}

-- another index that is in scope behind this one's forall is in scope before it
pub index_further : (sc : List Scope) (x y up : ℕ) → (x ≡ y → ⊥) → level (is_index y) (OfIndex x ∷ sc) ≡ Some up
    → (n : ℕ) × (level (is_index y) sc ≡ Some n)
index_further sc x y up other e = go (y == x) refl e
  where
    inner : (l : Option ℕ) → level (is_index y) sc ≡ l → one_more l ≡ Some up → (n : ℕ)
        × (level (is_index y) sc ≡ Some n)
    inner None e h = absurd (cc h)
    inner (Some n) e h = (n, e)

    go : (b : Bool) → y == x ≡ b → (if b then Some 0 else one_more (level (is_index y) sc)) ≡ Some up → (n : ℕ)
        × (level (is_index y) sc ≡ Some n)
    go true e h = absurd (other (sym (eqb-true y x e)))
    go false e h = inner (level (is_index y) sc) refl h

-- a use that stands here: a variable that is seen is declared, and an index is in scope
abbrev Direct : Program → List Scope → Use → Type 0
Direct p sc (Seen x) = (v : Variable) × (slice_get p.variables x ≡ Some v)
    × (v.role ≡ role.Index → (up : ℕ) × (level (is_index x) sc ≡ Some up))
Direct _ _ _ = Unit {0}

module _ (p : Program) (free : IsFreeOfInterference p) (moves shares : Stmt → List ℕ) (Is : ℕ → Instr → Type 0)
    (HasTable : ℕ → ForkTable → Type 0) (HasText : ℕ → List ℕ → Type 0) (callable : ℕ → Type 0) where
  abbrev D : List Scope → Use → Type 0
  D sc u = Direct p sc u

  at : (sc : List Scope) (u w : Use) → u ≡ w → D sc w → D sc u
  at sc u w e d = subst (λ a. D sc a) (sym e) d

  -- the input is a console
  input : (sc : List Scope) → D sc (Seen 0)
  input sc = (free.input.0, free.input.1, λ h. no_console free.input.2 h)
    where
      no_console : {r : Rattle.sp_tree.specs.declared.checked.Role.Role} {A : Type 0} → r ≡ role.Console
          → r ≡ role.Index → A
      no_console e h = let bad : role.Console ≡ role.Index = sym e ∙ h in absurd (cc bad)

  mutual
    expr : (e : Expr) (sc : List Scope) (q : ℕ) → ValueAt p moves shares Is HasTable HasText callable sc q e → (u : Use)
        → In_expr e u → D sc u
    expr (Typed k form) sc q h u a = formed form k sc q h u a

    formed : (form : ExprForm) (k : ℕ) (sc : List Scope) (q : ℕ)
        → FormAt p moves shares Is HasTable HasText callable sc q k form → (u : Use) → In_form form u → D sc u
    formed (Number n) k sc q h u a = absurd a
    formed (Read v) k sc q h u a = variable v k sc q h.0 u a
    formed (Unary op e) k sc q h u a = expr e sc q h.0 u a
    formed (Binary op e f) k sc q h u (inl a) = expr e sc q h.0 u a
    formed (Binary op e f) k sc q h u (inr a) = expr f sc (after_value q e) h.1 u a
    formed (Apply f args) k sc q h u (inl a) = at sc u (CallOf f args) a tt
    formed (Apply f args) k sc q h u (inr a) = actuals args h.0.formals sc q h.1 u a
    formed (Standard f e) k sc q h u a = expr e sc q h.2 u a
    formed (AtInput f) k sc q h u a = at sc u (Seen 0) a (input sc)

    variable : (v : Var) (k : ℕ) (sc : List Scope) (q : ℕ)
        → PlaceAt p moves shares Is HasTable HasText callable sc q v k
        → (u : Use) → In_read v u → D sc u
    variable (Entire x ss) k sc q (_, (info, known, _, in_role), _) u (inl a) =
        at sc u (Seen x) a (
          info,
          known,
          λ iv. (let r = subst (λ r. VarRole p moves shares Is HasTable HasText callable sc q x info r) iv in_role in
              (r.0, r.1)),
        )
    variable (Entire x ss) k sc q h u (inr a) = selectors ss h.0 k sc (q + 1) h.2 u a

    target : (v : Var) (k : ℕ) (sc : List Scope) (q : ℕ) → PlaceAt p moves shares Is HasTable HasText callable sc q v k
        → (u : Use) → In_target v u → D sc u
    target (Entire x ss) k sc q h u (inl a) = at sc u (Target x) a tt
    target (Entire x ss) k sc q h u (inr a) = selectors ss h.0 k sc (q + 1) h.2 u a

    selectors : (ss : Selectors) (k k2 : ℕ) (sc : List Scope) (q : ℕ)
        → SelectedAt p moves shares Is HasTable HasText callable sc q ss k k2 → (u : Use) → In_selectors ss u → D sc u
    selectors Whole k k2 sc q h u a = absurd a
    selectors (Select (Index e) rest) k k2 sc q (_, _, _, _, _, value, _, _, _) u (inl a) = expr e sc q value u a
    selectors (Select (Index e) rest) k k2 sc q (_, _, _, element, _, _, _, _, more) u (inr a) =
        selectors rest element k2 sc (after_value q e + 1) more u a
    selectors (Select (Field f) rest) k k2 sc q (_, _, kind, _, _, _, more) u a =
        selectors rest kind k2 sc (q + 1) more u a

    actuals : (args : Actuals) (xs : List ℕ) (sc : List Scope) (q : ℕ)
        → ActualsAt p moves shares Is HasTable HasText callable sc q args xs → (u : Use) → In_actuals args u → D sc u
    actuals Nothing xs sc q h u a = absurd a
    actuals (Pass b rest) [] sc q h u a = absurd h
    actuals (Pass (ByValue e) rest) (x ∷ xs) sc q h u (inl a) = expr e sc q h.0 u a
    actuals (Pass (ByValue e) rest) (x ∷ xs) sc q h u (inr a) = actuals rest xs sc (after_value q e) h.2 u a
    actuals (Pass (ByReference v) rest) (x ∷ xs) sc q h u (inl a) = target v h.0 sc q h.1 u a
    actuals (Pass (ByReference v) rest) (x ∷ xs) sc q (_, _, _, _, more) u (inr a) =
        actuals rest xs sc (after_var q v) more u a

  width : (w : Option Expr) (sc : List Scope) (q : ℕ) → WidthAt p moves shares Is HasTable HasText callable sc q w
      → (u : Use) → In_width w u → D sc u
  width None sc q h u a = absurd a
  width (Some e) sc q h u a = expr e sc q h.0 u a

  right : (z : Sort) (form : ExprForm) (k : ℕ) (sc : List Scope) (q : ℕ)
      → RightAt p moves shares Is HasTable HasText callable sc q k z form → (u : Use) → In_form form u → D sc u
  right Ordinals form k sc q h u a = formed form k sc q h.0 u a
  right Channels form k sc q h u a = formed form k sc q h.0 u a
  right Many (Number n) k sc q h u a = absurd h
  right Many (Read v) k sc q h u a = variable v k sc q h.0 u a
  right Many (Unary op e) k sc q h u a = absurd h
  right Many (Binary op e f) k sc q h u a = absurd h
  right Many (Apply f args) k sc q h u a = absurd h
  right Many (Standard f e) k sc q h u a = absurd h
  right Many (AtInput f) k sc q h u a = absurd h
  right NoSort form k sc q h u a = absurd h

  -- an index further in is none of these
  outer : (sc : List Scope) (x : ℕ) (u : Use) → IsOther x u → D (OfIndex x ∷ sc) u → D sc u
  outer sc x (Seen y) o d = (d.0, d.1, λ iv. further (d.2 iv))
    where
      further : (up : ℕ) × (level (is_index y) (OfIndex x ∷ sc) ≡ Some up) → (up : ℕ)
          × (level (is_index y) sc ≡ Some up)
      further r = index_further sc x y r.0 o r.1
  outer _ _ _ _ _ = tt

  mutual
    pub stmt : (s : Stmt) (fr : Bool) (sc : List Scope) (q : ℕ)
        → StatementAt p moves shares Is HasTable HasText callable fr sc q s → (u : Use) → In_stmt s u → D sc u
    stmt Empty fr sc q h u a = absurd a
    stmt (Assign v (Typed k form)) fr sc q h u (inl a) = target v k sc q h.0 u a
    stmt (Assign v (Typed k form)) fr sc q h u (inr a) = right (sort p k) form k sc (after_var q v) h.2 u a
    stmt (Call f args) fr sc q h u (inl a) = at sc u (CallOf f args) a tt
    stmt (Call f args) fr sc q h u (inr a) = actuals args h.0.formals sc q h.1 u a
    stmt (Sequence ss) fr sc q h u a = all ss fr sc q h u a
    stmt (If e s) fr sc q ((condition, _), _, _) u (inl a) = expr e sc q condition u a
    stmt (If e s) fr sc q h u (inr a) = stmt s fr sc (after_value q e + 1) h.2 u a
    stmt (IfElse e s t) fr sc q ((condition, _), _, _, _, _) u (inl a) = expr e sc q condition u a
    stmt (IfElse e s t) fr sc q h u (inr (inl a)) = stmt s fr sc (after_value q e + 1) h.2 u a
    stmt (IfElse e s t) fr sc q ((_, _), _, _, _, second_body) u (inr (inr a)) =
        stmt t fr sc (after_statement p (after_value q e + 1) s + 1) second_body u a
    stmt (While e s) fr sc q ((condition, _), _, _, _, _) u (inl a) = expr e sc q condition u a
    stmt (While e s) fr sc q ((_, _), _, _, body, _) u (inr a) = stmt s fr sc (after_value q e + 1 + 1) body u a
    stmt (Repeat s e) fr sc q (_, _, (condition, _), _) u (inl a) =
        expr e sc (after_statement p (q + 1) s) condition u a
    stmt (Repeat s e) fr sc q h u (inr a) = stmt s fr sc (q + 1) h.1 u a
    stmt (For x from down to s) fr sc q h u (inl a) = at sc u (Target x) a tt
    stmt (For x from down to s) fr sc q ((start, _), _, _) u (inr (inl a)) = expr from sc q start u a
    stmt (For x from down to s) fr sc q (_, (limit, _), _) u (inr (inr (inl a))) =
        expr to sc (after_value q from) limit u a
    stmt (For x from down to s) fr sc q (_, _, (_, _, _, body, _)) u (inr (inr (inr a))) =
        stmt s fr sc (after_value (after_value q from) to + 1 + 1) body u a
    stmt (Case e arms) fr sc q ((selector, _), _, _, _) u (inl a) = expr e sc q selector u a
    stmt (Case e arms) fr sc q (_, _, _, arms_at) u (inr a) = let b = after_tests (after_value q e) arms in
        each arms fr sc (b + 1) (after_arms p (b + 1) arms) arms_at u a
    stmt (Parallel ss) fr sc q h u (inl a) = at sc u (ParallelOf ss) a tt
    stmt (Parallel ss) fr sc q (_, _, _, _, children_at, _) u (inr (inl a)) =
        children ss fr sc (q + 1 + 1) children_at u a
    stmt (Parallel ss) fr sc q h u (inr (inr a)) = at sc u Stop a tt
    stmt (Forall x from to s) fr sc q h u (inl a) = at sc u (ForallOf x s) a tt
    stmt (Forall x from to s) fr sc q (_, _, (start, _), (_, _), _, _, _, _, _) u (inr (inl a)) =
        expr from sc q start u a
    stmt (Forall x from to s) fr sc q (_, _, (_, _), (limit, _), _, _, _, _, _) u (inr (inr (inl a))) =
        expr to sc (after_value q from) limit u a
    stmt (Forall x from to s) fr sc q (_, _, _, _, _, _, body, _, _) u (inr (inr (inr (inl a)))) =
        outer sc x u a.1 (stmt s fr (OfIndex x ∷ sc) (after_value (after_value q from) to + 1 + 1) body u a.0)
    stmt (Forall x from to s) fr sc q h u (inr (inr (inr (inr a)))) = at sc u Stop a tt
    stmt (Assume e) fr sc q ((condition, _), _) u a = expr e sc q condition u a
    stmt (ReadValue v) fr sc q h u (inl a) = at sc u (Target 0) a tt
    stmt (ReadValue v) fr sc q h u (inr (inl a)) = target v h.0 sc q h.2 u a
    stmt (ReadValue v) fr sc q h u (inr (inr a)) = at sc u Stop a tt
    stmt ReadLine fr sc q h u (inl a) = at sc u (Target 0) a tt
    stmt ReadLine fr sc q h u (inr a) = at sc u Stop a tt
    stmt (WriteValue e w) fr sc q h u (inl a) = at sc u (Target 1) a tt
    stmt (WriteValue e w) fr sc q (_, (value, _), _, _, _, _) u (inr (inl a)) = expr e sc q value u a
    stmt (WriteValue e w) fr sc q (_, _, _, width_at, _, _) u (inr (inr (inl a))) =
        width w sc (after_value q e) width_at u a
    stmt (WriteValue e w) fr sc q h u (inr (inr (inr a))) = at sc u Stop a tt
    stmt (WriteText t w) fr sc q h u (inl a) = at sc u (Target 1) a tt
    stmt (WriteText t w) fr sc q h u (inr (inl a)) = width w sc q h.2 u a
    stmt (WriteText t w) fr sc q h u (inr (inr a)) = at sc u Stop a tt
    stmt WriteLine fr sc q h u (inl a) = at sc u (Target 1) a tt
    stmt WriteLine fr sc q h u (inr a) = at sc u Stop a tt
    stmt (Open v) fr sc q h u (inl a) = target v h.0 sc q h.1 u a
    stmt (Open v) fr sc q h u (inr a) = at sc u Stop a tt
    stmt (Send c e) fr sc q h u (inl a) = expr c sc q h.0 u a
    stmt (Send c e) fr sc q h u (inr (inl a)) = expr e sc (after_value q c) h.2 u a
    stmt (Send c e) fr sc q h u (inr (inr a)) = at sc u Stop a tt
    stmt (Receive c v) fr sc q h u (inl a) = expr c sc q h.1 u a
    stmt (Receive c v) fr sc q (kind, _, _, place, _, _, _) u (inr (inl a)) =
        target v kind sc (after_value q c) place u a
    stmt (Receive c v) fr sc q h u (inr (inr a)) = at sc u Stop a tt

    all : (ss : Stmts) (fr : Bool) (sc : List Scope) (q : ℕ)
        → AllAt p moves shares Is HasTable HasText callable fr sc q ss
        → (u : Use) → In_stmts ss u → D sc u
    all No fr sc q h u a = absurd a
    all (And s rest) fr sc q h u (inl a) = stmt s fr sc q h.0 u a
    all (And s rest) fr sc q h u (inr a) = all rest fr sc (after_statement p q s) h.1 u a

    children : (ss : Stmts) (fr : Bool) (sc : List Scope) (q : ℕ)
        → ChildrenAt p moves shares Is HasTable HasText callable fr sc q ss → (u : Use) → In_stmts ss u → D sc u
    children No fr sc q h u a = absurd a
    children (And s rest) fr sc q h u (inl a) = stmt s fr sc q h.0 u a
    children (And s rest) fr sc q h u (inr a) = children rest fr sc (after_statement p q s + 1) h.2 u a

    each : (arms : Arms) (fr : Bool) (sc : List Scope) (q end : ℕ)
        → ArmsAt p moves shares Is HasTable HasText callable fr sc q arms end → (u : Use) → In_arms arms u → D sc u
    each NoArm fr sc q end h u a = absurd a
    each (Or (On ms s) rest) fr sc q end h u (inl a) = stmt s fr sc q h.0 u a
    each (Or (On ms s) rest) fr sc q end h u (inr a) = each rest fr sc (after_statement p q s + 1) end h.2 u a

-- no scope of a block is an index
no_index_scope : (p : Program) (n : ℕ) (c : Option ℕ) (x up : ℕ) → level (is_index x) (scopes_by p n c) ≡ Some up → ⊥
no_index_scope p zero c x up e = absurd (cc e)
no_index_scope p (suc n) None x up e = absurd (cc e)
no_index_scope p (suc n) (Some c) x up e = go (level (is_index x) (scopes_by p n (parent_of (slice_get p.blocks c))))
    (λ k d. no_index_scope p n (parent_of (slice_get p.blocks c)) x k d) e
  where
    go : (l : Option ℕ) → ((k : ℕ) → l ≡ Some k → ⊥) → one_more l ≡ Some up → ⊥
    go None ih e = absurd (cc e)
    go (Some k) ih e = ih k refl

-- a variable that a statement uses is declared, and an index is used by the statement itself and in scope
abbrev pub IsScoped : Program → List Scope → Stmt → Type 0
IsScoped p sc st = (y : ℕ) → IsUsed p (In_stmt st) y → (v : Variable) × (slice_get p.variables y ≡ Some v)
    × (v.role ≡ role.Index → In_stmt st (Seen y) × ((up : ℕ) × (level (is_index y) sc ≡ Some up)))

module _ (G : RunContext) where
  -- what is seen by a path of calls
  seen : {Here : Use → Type 0} (sc : List Scope) (direct : (u : Use) → Here u → Direct G.g.program sc u) (bs : List ℕ)
      (y : ℕ) → Reach G.g.program Here bs (Seen y)
      → (v : Variable) × (slice_get G.g.program.variables y ≡ Some v)
      × (v.role ≡ role.Index → Here (Seen y) × ((up : ℕ) × (level (is_index y) sc ≡ Some up)))
  seen {Here = Here} sc direct [] y r = let d = direct (Seen y) r in (d.0, d.1, λ iv. (r, d.2 iv))
  seen {Here = Here} sc direct (b ∷ bs) y step =
      let z = G.blocks b step.block step.is_block in
      let w = seen {Here = λ a. In_stmt step.block.body a} (scopes_of G.g.program b)
      (λ u a. stmt G.g.program G.free G.moves G.shares (CodeAt G.code) (HasFork G.code) (HasWords G.code) G.callable
      step.block.body true (scopes_of G.g.program b) z.layout.entry (z.stands.body true tt) u a) bs y step.rest in (
        w.0,
        w.1,
        λ iv. (let (_, (up, level_is)) = w.2 iv in absurd
            (no_index_scope G.g.program (length G.g.program.blocks) (Some b) y up level_is)),
      )

  pub is_scoped : (fr : Bool) (sc : List Scope) (q : ℕ) (st : Stmt)
      → StatementAt G.g.program G.moves G.shares (CodeAt G.code) (HasFork G.code)
      (HasWords G.code) G.callable fr sc q st
      → ((u : Use) → In_stmt st u → IsFormedUse G.g.program u) → IsScoped G.g.program sc st
  is_scoped fr sc q st h formed y (inl a) = let f = reached_formed G a.0 formed (Target y) a.1 in
      (f.0, f.1, λ iv. absurd (f.2 iv))
  is_scoped fr sc q st h formed y (inr a) = seen sc
      (λ u b. stmt G.g.program G.free G.moves G.shares (CodeAt G.code) (HasFork G.code)
      (HasWords G.code) G.callable st fr
      sc q h u b) a.0 y a.1

  -- of all children of a parallel statement
  pub parts_scoped : (fr : Bool) (sc : List Scope) (q : ℕ) (ss : Stmts)
      → ChildrenAt G.g.program G.moves G.shares (CodeAt G.code) (HasFork G.code) (HasWords G.code) G.callable fr sc q ss
      → ((u : Use) → In_stmt (Parallel ss) u → IsFormedUse G.g.program u) → IsScoped G.g.program sc (Parallel ss)
  parts_scoped fr sc q ss h formed y (inl a) = let f = reached_formed G a.0 formed (Target y) a.1 in
      (f.0, f.1, λ iv. absurd (f.2 iv))
  parts_scoped fr sc q ss h formed y (inr a) = seen sc direct a.0 y a.1
    where
      direct : (u : Use) → In_stmt (Parallel ss) u → Direct G.g.program sc u
      direct u (inl b) = subst (λ k. Direct G.g.program sc k) (sym b) tt
      direct u (inr (inl b)) = children G.g.program G.free G.moves G.shares (CodeAt G.code) (HasFork G.code)
          (HasWords G.code) G.callable ss fr sc q h u b
      direct u (inr (inr b)) = subst (λ k. Direct G.g.program sc k) (sym b) tt
