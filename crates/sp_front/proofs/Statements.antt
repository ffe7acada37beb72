-- Where no rule of types is broken, and each name is of a visible declaration, a statement is fine.
use Rattle.std.proofs.Common.{◌≡◌, ◌⊎◌, inl, inr, refl, ap, sym, ◌∙◌, subst, ℕ, zero, suc, ◌+◌, ◌≤◌, List, [], ◌∷◌}
use Rattle.std.proofs.Common.{Option, Some, None, Bool, true, false, if◌then◌else◌, length, slice_get, slice_set, arith}
use Rattle.std.proofs.Common.{eq-eqb, eqb-true, ◌==◌}
use Rattle.std.specs.Prelude.{ℤ, nat_eq}
use Rattle.std.proofs.lemmas.Bool.{true≢false}
use Rattle.std.proofs.lemmas.List.{length-set}
use Rattle.std.proofs.lemmas.Option.{same_Some}
use Rattle.sp_base.specs.declared.place.Place.{Place}
use Rattle.sp_base.specs.declared.rule.Rule.{Rule}
use Rattle.sp_base.specs.declared.rule.Rule.TheVariants as rule
use Rattle.sp_tree.specs.declared.checked.KindOf.{KindOf}
use Rattle.sp_tree.specs.declared.checked.KindOf.TheVariants as kind
use Rattle.sp_tree.specs.declared.checked.Role.TheVariants as role
use Rattle.sp_tree.specs.PhaseResults.{refusal_list}
use Rattle.sp_tree.specs.NameFirst.{both_lists}
use Rattle.sp_tree.specs.Plain.{Program, Variable, Stmt, Expr, ExprForm, Actuals}
use Rattle.sp_tree.specs.Plain as plain
use Rattle.sp_tree.specs.PlainNamed as n
use Rattle.sp_code.specs.Scopes.{Sort, Ordinals, Channels, Many, NoSort, kind_of, Scope, is_block, is_index, level}
use Rattle.sp_code.specs.Scopes.{sort, sort_by}
use Rattle.sp_code.specs.Places.{after_value, after_var, after_actuals}
use Rattle.sp_types.specs.Tables.{Env, table_entry, variable_kind, formals_of, formals_in}
use Rattle.sp_types.specs.TypeRules.{is_ordinal, ordinal, unless, differ}
use Rattle.sp_types.specs.Kinds.{expression_kind, form_kind, selected, element}
use Rattle.sp_types.specs.TypeWalk.{expression_sites, form_sites, variable_sites}
use Rattle.sp_types.specs.TypeWalk.{actuals_sites, place}
use Rattle.sp_types.specs.CheckedTree.{or_zero, checked_expression, checked_form, checked_variable, checked_actuals}
use Rattle.sp_tree.specs.CheckedOf as of_
use Rattle.sp_tree.specs.Bare.{bare_expression, bare_form, bare_variable, bare_actuals}
use Rattle.sp_front.specs.MatchingTables.{IsKind, TablesMatch, HasIndices}
use Rattle.sp_code.specs.CodeOfTree.{FormAt, PlaceAt, ActualsAt, NoIndex, AnyInstr, AnyTable, AnyText}
use Rattle.sp_front.specs.ScopeFacts.{InExpression}
use Rattle.sp_front.proofs.NoBreachInParts.{none_in_parts, none_at_site, none_with_site, not_if_none, takes_if_none}
use Rattle.sp_front.proofs.NoBreachInParts.{same_if_none, nat_eq_is}
use Rattle.sp_tree.specs.declared.meaning.StandardProcedure.{StandardProcedure}
use Rattle.sp_tree.specs.Uses.{Use, Target, ForallOf, Stop, CallOf, In_stmt, In_stmts, In_arms}
use Rattle.sp_code.specs.Scopes.{OfIndex, one_more}
use Rattle.sp_code.specs.Places.{after_test, after_tests, after_statement, after_arms}
use Rattle.sp_types.specs.Tables.{with_next_number, with_index_type}
use Rattle.sp_types.specs.TypeRules.{condition_rule, assign_rule, range_rule, limit_rule, selector_rule}
use Rattle.sp_types.specs.TypeWalk as w
use Rattle.sp_types.specs.TypeWalk.{statement_after, statements_after, branches_after}
use Rattle.sp_types.specs.TypeWalk.{arms_after, form_after, with_more_numbers, parts_count, single_count}
use Rattle.sp_types.specs.CheckedTree.{checked_statement, checked_statement_form, checked_statements, checked_arms}
use Rattle.sp_types.specs.CheckedTree.{checked_branches, in_sequence, first_place, constant_numbers}
use Rattle.sp_tree.specs.Bare.{bare_statement, bare_statement_form, bare_statements, bare_arms}
use Rattle.sp_front.specs.MatchingTables.{IsTyped, IsTypedForm, AreTyped, AreTypedArms, AreTypedBranches}
use Rattle.sp_code.specs.CodeOfTree.{IsCallable, StatementAt, AllAt, ChildrenAt, ArmsAt, RightAt, OrdinalAt, TestAt}
use Rattle.sp_code.specs.CodeOfTree.{TestsAt}
use Rattle.sp_front.specs.ScopeFacts.{IsInForall, InStatement, InStatementForm, InStatements, InArms, InBranches}
use Rattle.sp_front.proofs.Expressions.{form_fine, ordinal_sort, expression_fine, variable_fine, actuals_fine, call_at}
use Rattle.sp_front.proofs.Expressions.{ordinal_is, boolean_is}

-- ---- what is known goes on

pub get_set : {A : Type 0} (xs : List A) (x : ℕ) (a : A) → suc x ≤ length xs → slice_get (slice_set xs x a) x ≡ Some a
get_set [] x a l = absurd (omega (arith, l))
get_set (y ∷ xs) zero a l = refl
get_set (y ∷ xs) (suc x) a l = get_set xs x a (omega (arith, l))

pub get_other : {A : Type 0} (xs : List A) (x y : ℕ) (a : A) → (y ≡ x → ⊥)
    → slice_get (slice_set xs x a) y ≡ slice_get xs y
get_other [] x y a d = refl
get_other (z ∷ xs) zero zero a d = absurd (d refl)
get_other (z ∷ xs) zero (suc y) a d = refl
get_other (z ∷ xs) (suc x) zero a d = refl
get_other (z ∷ xs) (suc x) (suc y) a d = get_other xs x y a (λ e. d (ap suc e))

module _ (p : Program) (m : ℕ) where
  abbrev pub IsIndex : ℕ → Type 0
  IsIndex x = (v : Variable) × (slice_get p.variables x ≡ Some v) × (v.role ≡ role.Index)

  knows_counted : (env : Env) → TablesMatch p m env → TablesMatch p m (with_next_number env)
  knows_counted env h = record {
    kinds = h.kinds;
    integer = h.integer;
    boolean = h.boolean;
    char = h.char;
    given = h.given;
    variables = h.variables;
    room = h.room;
    roles = h.roles;
    blocks = h.blocks;
    formals = h.formals;
    answers = h.answers;
    elements = h.elements;
    fields = h.fields;
  }

  knows_by : (env : Env) → TablesMatch p m env → (k : ℕ) → TablesMatch p m (with_more_numbers k env)
  knows_by env h k = record {
    kinds = h.kinds;
    integer = h.integer;
    boolean = h.boolean;
    char = h.char;
    given = h.given;
    variables = h.variables;
    room = h.room;
    roles = h.roles;
    blocks = h.blocks;
    formals = h.formals;
    answers = h.answers;
    elements = h.elements;
    fields = h.fields;
  }

  knows_indexed : (env : Env) (x : ℕ) (k : Option ℕ) → IsIndex x → TablesMatch p m env
      → TablesMatch p m (with_index_type env x k)
  knows_indexed env x k (v, at, r) h = record {
    kinds = h.kinds;
    integer = h.integer;
    boolean = h.boolean;
    char = h.char;
    given = h.given;
    variables = λ y u ya d. (
      ap table_entry (get_other env.variables x y k
          (λ e. subst NoIndex (ap (λ (z : Variable). z.role)
          (same_Some u v (sym ya ∙ ap (slice_get p.variables) e ∙ at))
          ∙ r) d)) ∙ (h.variables y u ya d).0,
      (h.variables y u ya d).1,
    );
    room = λ y u ya. (let l = h.room y u ya in let z = length-set env.variables x k in omega (arith, l, z));
    roles = h.roles;
    blocks = h.blocks;
    formals = h.formals;
    answers = h.answers;
    elements = h.elements;
    fields = h.fields;
  }

  pub more_indices : (env : Env) (x k : ℕ) (sc : List Scope) (o : Option ℕ) → TablesMatch p m env → o ≡ Some k
      → is_ordinal (slice_get p.kinds k) ≡ true → ((v : Variable) → slice_get p.variables x ≡ Some v → v.kind ≡ k)
      → HasIndices p env sc → HasIndices p (with_index_type env x o) (OfIndex x ∷ sc)
  more_indices env x k sc o knows oe ord typed h y up v e at = go (y == x) refl e
    where
      grown_to_itself : y ≡ x → (table_entry (slice_get (slice_set env.variables x o) y) ≡ Some v.kind)
          × (is_ordinal (slice_get p.kinds v.kind) ≡ true)
      grown_to_itself yx =
          let vx = subst (λ z. slice_get p.variables z ≡ Some v) yx at in
          let vk = typed v vx in (
            ap (λ z. table_entry (slice_get (slice_set env.variables x o) z)) yx
                ∙ ap table_entry (get_set env.variables x o (knows.room x v vx)) ∙ oe ∙ ap Some (sym vk),
            subst (λ z. is_ordinal (slice_get p.kinds z) ≡ true) (sym vk) ord,
          )

      less : (l : Option ℕ) → one_more l ≡ Some up → (j : ℕ) × (l ≡ Some j)
      less None e = absurd (cc e)
      less (Some j) e = (j, refl)

      go : (b : Bool) → (y == x) ≡ b → (if b then Some 0 else one_more (level (is_index y) sc)) ≡ Some up
          → (table_entry (slice_get (slice_set env.variables x o) y) ≡ Some v.kind)
          × (is_ordinal (slice_get p.kinds v.kind) ≡ true)
      go true b e = grown_to_itself (eqb-true y x b)
      go false b e =
          let found = less (level (is_index y) sc) e in
          let r = h y found.0 v found.1 at in
          (ap table_entry (get_other env.variables x y o (λ yx. true≢false (sym (eq-eqb y x yx) ∙ b))) ∙ r.0, r.1)

  -- what is known later of the same program
  abbrev pub Grown : Env → Env → Type 0
  Grown env later = TablesMatch p m later × ((y : ℕ) (v : Variable) → slice_get p.variables y ≡ Some v
      → variable_kind env y ≡ Some v.kind → variable_kind later y ≡ Some v.kind)

  abbrev pub MatchesWithIndices : Env → List Scope → Type 0
  MatchesWithIndices env sc = TablesMatch p m env × HasIndices p env sc

  pub grown_to_itself : (env : Env) → TablesMatch p m env → Grown env env
  grown_to_itself env h = (h, λ y v at e. e)

  pub then_ : (a b c : Env) → Grown a b → Grown b c → Grown a c
  then_ a b c x y = (y.0, λ z v at e. y.1 z v at (x.1 z v at e))

  pub ready_after : (a b : Env) (sc : List Scope) → MatchesWithIndices a sc → Grown a b → MatchesWithIndices b sc
  ready_after a b sc r g = (g.0, λ x up v l at. (g.1 x v at (r.1 x up v l at).0, (r.1 x up v l at).1))

  pub by_count : (env : Env) → TablesMatch p m env → Grown env (with_next_number env)
  by_count env h = (knows_counted env h, λ y v at e. e)

  pub by_index : (env : Env) (x k : ℕ) (o : Option ℕ) → o ≡ Some k → IsIndex x
      → ((v : Variable) → slice_get p.variables x ≡ Some v → v.kind ≡ k) → TablesMatch p m env
      → Grown env (with_index_type env x o)
  by_index env x k o oe is typed h = (knows_indexed env x o is h, λ y v at e. go y v at e (y == x) refl)
    where
      go : (y : ℕ) (v : Variable) → slice_get p.variables y ≡ Some v → variable_kind env y ≡ Some v.kind → (b : Bool)
          → (y == x) ≡ b → table_entry (slice_get (slice_set env.variables x o) y) ≡ Some v.kind
      go y v at e true b =
          let yx = eqb-true y x b in
          let vx = subst (λ z. slice_get p.variables z ≡ Some v) yx at in
          ap (λ z. table_entry (slice_get (slice_set env.variables x o) z)) yx
          ∙ ap table_entry (get_set env.variables x o (h.room x v vx)) ∙ oe ∙ ap Some (sym (typed v vx))
      go y v at e false b =
          ap table_entry (get_other env.variables x y o (λ yx. true≢false (sym (eq-eqb y x yx) ∙ b))) ∙ e

  module _ (moves shares : Stmt → List ℕ) (callable : ℕ → Type 0) where
    abbrev pub StatementHasCode : Bool → List Scope → Stmt → Type 0
    StatementHasCode free sc s = (q : ℕ) → StatementAt p moves shares AnyInstr AnyTable AnyText callable free sc q s

    -- what may stand where a function is being called, and in a forall: the rules of interference say so
    abbrev pub KeepsRulesHere : Bool → List Scope → (Use → Type 0) → Type 0
    KeepsRulesHere free sc Here =
        (free ≡ false → (Here Stop → ⊥) × ((g : ℕ) (args : Actuals) → Here (CallOf g args) → callable g))
        × (IsInForall sc → (x : ℕ) → Here (Target x) → ⊥)
        × ((x : ℕ) (s : Stmt) → Here (ForallOf x s) → (y : ℕ) → In_stmt s (Target y) → ⊥)

    forall_part : (free : Bool) (sc : List Scope) (x : ℕ) (f t : Expr) (a : Stmt)
        → KeepsRulesHere free sc (In_stmt (plain.Forall x f t a)) → KeepsRulesHere free (OfIndex x ∷ sc) (In_stmt a)
    forall_part free sc x f t a kept = (
      (λ e. (
        λ h. (kept.0 e).0 (inr (inr (inr (inl (h, tt))))),
        λ g args h. (kept.0 e).1 g args (inr (inr (inr (inl (h, tt))))),
      )),
      (λ i y h. kept.2 x a (inl refl) y h),
      λ y s h z k. kept.2 y s (inr (inr (inr (inl (h, tt))))) z k,
    )

    pub within : (free : Bool) (sc : List Scope) (All_ Here : Use → Type 0) → ((u : Use) → Here u → All_ u)
        → KeepsRulesHere free sc All_ → KeepsRulesHere free sc Here
    within free sc All_ Here into kept = (
      (λ e.
          (λ h. (kept.0 e).0 (into Stop h), λ g args h. (kept.0 e).1 g args (into (CallOf g args) h))),
      (λ i x h. kept.1 i x (into (Target x) h)),
      λ x s h y k. kept.2 x s (into (ForallOf x s) h) y k,
    )

    pub free_is : (free : Bool) (sc : List Scope) (Here : Use → Type 0) → KeepsRulesHere free sc Here → Here Stop
        → free ≡ true
    free_is true sc Here kept h = refl
    free_is false sc Here kept h = absurd ((kept.0 refl).0 h)

    callable_if_called : (free : Bool) (sc : List Scope) (Here : Use → Type 0) (f : ℕ) (args : Actuals)
        → KeepsRulesHere free sc Here
        → Here (CallOf f args) → IsCallable callable free f
    callable_if_called true sc Here f args kept h = tt
    callable_if_called false sc Here f args kept h = (kept.0 refl).1 f args h

    for_level : (free : Bool) (sc : List Scope) (Here : Use → Type 0) (x b : ℕ) → KeepsRulesHere free sc Here
        → Here (Target x)
        → (level (is_block b) sc ≡ Some 0) ⊎ IsInForall sc → level (is_block b) sc ≡ Some 0
    for_level free sc Here x b kept h (inl e) = e
    for_level free sc Here x b kept h (inr i) = absurd (kept.1 i x h)

    -- of an array or record nothing but a variable has the type
    right_at : (sc : List Scope) (q k : ℕ) (s : Sort) (form : ExprForm) → sort p k ≡ s → IsKind p k
        → FormAt p moves shares AnyInstr AnyTable AnyText callable sc q k form
        → RightAt p moves shares AnyInstr AnyTable AnyText callable sc q k s form
    right_at sc q k Ordinals form e ik h = (h, tt)
    right_at sc q k Channels form e ik h = (h, tt)
    right_at sc q k Many (plain.Read v) e ik h = (h.0, tt)
    right_at sc q k Many (plain.Number n) e ik h = no (sym h.1 ∙ e)
      where
        no : Ordinals ≡ Many → ⊥
        no e = cc e
    right_at sc q k Many (plain.Unary op a) e ik h = no (sym h.2 ∙ e)
      where
        no : Ordinals ≡ Many → ⊥
        no e = cc e
    right_at sc q k Many (plain.Binary op a b) e ik (_, _, _, _, result_sort) = no (sym result_sort ∙ e)
      where
        no : Ordinals ≡ Many → ⊥
        no e = cc e
    right_at sc q k Many (plain.Apply f args) e ik (_, _, _, _, result_sort) = no (sym result_sort ∙ e)
      where
        no : Ordinals ≡ Many → ⊥
        no e = cc e
    right_at sc q k Many (plain.Standard f a) e ik (_, _, _, _, result_sort, _) = no (sym result_sort ∙ e)
      where
        no : Ordinals ≡ Many → ⊥
        no e = cc e
    right_at sc q k Many (plain.AtInput f) e ik h = no (sym h.1 ∙ e)
      where
        no : Ordinals ≡ Many → ⊥
        no e = cc e
    right_at sc q k NoSort form e (t, at) h = absurd (go t (sym (ap sort_by at) ∙ e))
      where
        go : (t : KindOf) → sort_by (Some t) ≡ NoSort → ⊥
        go kind.Integer e = cc e
        go kind.Boolean e = cc e
        go kind.Char e = cc e
        go (kind.Enumeration j) e = cc e
        go (kind.Array low high index element) e = cc e
        go (kind.Fields fs) e = cc e
        go (kind.Channel ks) e = cc e

    tests_at : (q : ℕ) (arms : plain.Arms) (b : ℕ) → TestsAt p moves shares AnyInstr AnyTable AnyText callable q arms b
    tests_at q plain.NoArm b = tt
    tests_at q (plain.Or (plain.On ms s) rest) b =
        (one q ms, tests_at (after_test q ms) rest (after_statement p b s + 1))
      where
        one : (q : ℕ) (ms : List ℤ) → TestAt p moves shares AnyInstr AnyTable AnyText callable q ms b
        one q [] = tt
        one q (n ∷ ms) = (tt, one (q + 1) ms)

    abbrev pub Ordinal_ : List Scope → Expr → Type 0
    Ordinal_ sc e = (q : ℕ) → OrdinalAt p moves shares AnyInstr AnyTable AnyText callable sc q e

    pub condition : (env : Env) (sc : List Scope) → MatchesWithIndices env sc → (e : n.Expression)
        → w.condition_sites [] both_lists refusal_list env e ≡ [] → InExpression p m sc e
        → Ordinal_ sc (bare_expression (checked_expression env e))
    condition env sc ready e calm here q =
        let parts = none_with_site (expression_sites [] both_lists refusal_list env e)
        (condition_rule (place e) (expression_kind env e)) calm in
        let (number, gives, _, own_kind, value_at) = expression_fine p m moves shares callable env ready.0 sc ready.1 e
        parts.0 here in
        let is = nat_eq_is 1 number (takes_if_none rule.Y4 (place e) (nat_eq 1) (expression_kind env e) number gives
        parts.1) in (
          value_at q,
          boolean_is p m moves shares callable env ready.0 sc ready.1
              (kind_of (bare_expression (checked_expression env e))) (own_kind ∙ sym is),
        )

    -- an expression of a known ordinal type
    limit : (env : Env) (sc : List Scope) → MatchesWithIndices env sc → (o : Option ℕ) (k : ℕ) → o ≡ Some k
        → sort p k ≡ Ordinals
        → (e : n.Expression) → w.limit_sites [] both_lists refusal_list env o e ≡ [] → InExpression p m sc e
        → Ordinal_ sc (bare_expression (checked_expression env e))
    limit env sc ready o k oe ord e calm here q =
        let parts = none_with_site (expression_sites [] both_lists refusal_list env e)
        (limit_rule (place e) o (expression_kind env e))
        calm in
        let (number, gives, _, own_kind, value_at) = expression_fine p m moves shares callable env ready.0 sc ready.1 e
        parts.0 here in
        let is = same_if_none o (expression_kind env e) k number oe gives
        (not_if_none rule.Y10 (place e) (differ o (expression_kind env e)) parts.1) in
        (value_at q, ap (sort p) (own_kind ∙ sym is) ∙ ord)

    -- an expression whose type a rule wants to be ordinal
    ranged : (r : Rule) (env : Env) (sc : List Scope) → MatchesWithIndices env sc → (e : n.Expression)
        → both_lists (expression_sites [] both_lists refusal_list env e)
        (refusal_list (unless r (place e) (ordinal env) (expression_kind env e))) ≡ [] → InExpression p m sc e
        → (k : ℕ) × (expression_kind env e ≡ Some k) × (is_ordinal (slice_get p.kinds k) ≡ true)
        × Ordinal_ sc (bare_expression (checked_expression env e))
    ranged rl env sc ready e calm here =
        let parts = none_with_site (expression_sites [] both_lists refusal_list env e)
        (unless rl (place e) (ordinal env) (expression_kind env e)) calm in
        let (number, gives, _, own_kind, value_at) = expression_fine p m moves shares callable env ready.0 sc ready.1 e
        parts.0 here in
        let ord = takes_if_none rl (place e) (ordinal env) (expression_kind env e) number gives parts.1 in
        let is = subst (λ ks. is_ordinal (slice_get ks number) ≡ true) ready.0.kinds ord in
        (number, gives, is, λ q. (value_at q, ap (sort p) own_kind ∙ ordinal_sort (slice_get p.kinds number) is))

    -- the calls of standard procedures (open: `performs`)
    abbrev pub Performs : Type 0
    Performs = (free : Bool) (env : Env) (sc : List Scope) (at : Place) (f : StandardProcedure) (args : n.Arguments)
        → MatchesWithIndices env sc → w.perform_sites [] both_lists refusal_list env f args ≡ []
        → InStatementForm p m sc (n.Perform f args)
        → KeepsRulesHere free sc (In_stmt (bare_statement_form (checked_statement_form env at (n.Perform f args))))
        → StatementHasCode free sc (bare_statement_form (checked_statement_form env at (n.Perform f args)))

    module _ (performs : Performs) (free : Bool) where
      abbrev pub GrowsWithCode : Env → Env → List Scope → Stmt → Type 0
      GrowsWithCode env later sc s = Grown env later × StatementHasCode free sc s

      mutual
        pub statement_fine : (env : Env) (sc : List Scope) (s : n.Statement) → MatchesWithIndices env sc
            → w.statement_sites [] both_lists refusal_list env s ≡ [] → InStatement p m sc s → IsTyped p env s
            → KeepsRulesHere free sc (In_stmt (bare_statement (checked_statement env s)))
            → GrowsWithCode env (statement_after env s) sc (bare_statement (checked_statement env s))
        statement_fine env sc (n.Does at form) ready calm here typed kept =
            let up = by_count env ready.0 in
            let r = statement_form_fine (with_next_number env) sc at form
            (ready_after env (with_next_number env) sc ready up) calm here
            typed kept in
            (then_ env (with_next_number env) (form_after (with_next_number env) form) up r.0, r.1)

        pub statement_form_fine : (env : Env) (sc : List Scope) (at : Place) (form : n.Form) → MatchesWithIndices env sc
            → w.statement_form_sites [] both_lists refusal_list env form ≡ [] → InStatementForm p m sc form
            → IsTypedForm p env form
            → KeepsRulesHere free sc (In_stmt (bare_statement_form (checked_statement_form env at form)))
            → GrowsWithCode env (form_after env form) sc (bare_statement_form (checked_statement_form env at form))
        statement_form_fine env sc at n.Empty ready calm here typed kept = (grown_to_itself env ready.0, λ q. tt)
        statement_form_fine env sc at (n.Assign (n.Entire x name ss) (n.ExpressionAt eat form)) ready calm
            (seen, aimed, in_ss, in_e) typed kept =
            let parts = none_in_parts (variable_sites [] both_lists refusal_list env (n.Entire x name ss))
            (both_lists (form_sites [] both_lists refusal_list env eat form)
            (refusal_list (assign_rule eat (selected env (n.Entire x name ss)) (form_kind env form)))) calm in
            let one = none_with_site (form_sites [] both_lists refusal_list env eat form)
            (assign_rule eat (selected env (n.Entire x name ss)) (form_kind env form)) parts.1 in
            let (target_number, target_gives, _, place_at) = variable_fine p m moves shares callable env ready.0 sc
            ready.1 (n.Entire x name ss) parts.0 (seen, in_ss) in
            let (number, gives, is_kind, form_at) = form_fine p m moves shares callable env ready.0 sc ready.1 eat form
            one.0 in_e in
            let is = same_if_none (selected env (n.Entire x name ss)) (form_kind env form) target_number number
            target_gives gives
            (not_if_none rule.Y5 eat (differ (selected env (n.Entire x name ss)) (form_kind env form)) one.1) in
            let v = bare_variable (checked_variable env (n.Entire x name ss)) in (
              grown_to_itself env ready.0,
              λ q. subst (λ z. StatementAt p moves shares AnyInstr AnyTable AnyText callable free sc q
                  (plain.Assign v (plain.Typed z (bare_form (checked_form env form))))) (sym (ap or_zero gives)) (
                    subst (λ z. PlaceAt p moves shares AnyInstr AnyTable AnyText callable sc q v z) is (place_at q),
                    aimed,
                    right_at sc (after_var q v) number (sort p number) (bare_form (checked_form env form)) refl is_kind
                        (form_at (after_var q v)),
                  ),
            )
        statement_form_fine env sc at (n.Call f args) ready calm (b, call, none, acts) typed kept =
            let formals : formals_of env f ≡ b.formals = ap formals_in (ready.0.blocks f b call.1) in
            let passes = actuals_fine p m moves shares callable env ready.0 sc ready.1 b.formals args
            (subst (λ z. actuals_sites [] both_lists refusal_list env z args ≡ []) formals calm)
            (ready.0.formals f b call.1) acts in
            let args_ = bare_actuals (of_.actuals (checked_actuals env (formals_of env f) args)) in (
              grown_to_itself env ready.0,
              λ q. (
                b,
                subst (λ z. ActualsAt p moves shares AnyInstr AnyTable AnyText callable sc q
                    (bare_actuals (of_.actuals (checked_actuals env z args))) b.formals) (sym formals) (passes q),
                call_at p m moves shares callable env ready.0 sc ready.1 f b call (after_actuals q args_),
                none,
                callable_if_called free sc (In_stmt (plain.Call f args_)) f args_ kept (inl refl),
              ),
            )
        statement_form_fine env sc at (n.Perform f args) ready calm here typed kept = (
          (knows_by env ready.0 (parts_count (single_count f args)), λ y v at e. e),
          performs free env sc at f args ready calm here kept,
        )
        statement_form_fine env sc at (n.Sequence ss) ready calm here typed kept =
            statements_fine env sc ss ready calm here typed kept
        statement_form_fine env sc at (n.If e a n.NoElse) ready calm (in_e, in_a, in_o) (ta, to) kept =
            let parts = none_in_parts (w.condition_sites [] both_lists refusal_list env e)
            (both_lists (w.statement_sites [] both_lists refusal_list env a) []) calm in
            let two = none_in_parts (w.statement_sites [] both_lists refusal_list env a) [] parts.1 in
            let c1 = condition env sc ready e parts.0 in_e in
            let ra = statement_fine env sc a ready two.0 in_a ta
            (within free sc (In_stmt (plain.If (bare_expression (checked_expression env e))
            (bare_statement (checked_statement env a)))) (In_stmt (bare_statement (checked_statement env a)))
            (λ u h. inr h) kept) in
            (ra.0, λ q. (c1 q, tt, ra.1 (after_value q (bare_expression (checked_expression env e)) + 1)))
        statement_form_fine env sc at (n.If e a (n.Else b)) ready calm (in_e, in_a, in_o) (ta, to) kept =
            let parts = none_in_parts (w.condition_sites [] both_lists refusal_list env e)
            (both_lists (w.statement_sites [] both_lists refusal_list env a)
            (w.statement_sites [] both_lists refusal_list (statement_after env a) b)) calm in
            let two = none_in_parts (w.statement_sites [] both_lists refusal_list env a)
            (w.statement_sites [] both_lists refusal_list (statement_after env a) b) parts.1 in
            let c1 = condition env sc ready e parts.0 in_e in
            let e_ = bare_expression (checked_expression env e) in
            let a_ = bare_statement (checked_statement env a) in
            let b_ = bare_statement (checked_statement (statement_after env a) b) in
            let ra = statement_fine env sc a ready two.0 in_a ta
            (within free sc (In_stmt (plain.IfElse e_ a_ b_)) (In_stmt a_) (λ u h. inr (inl h)) kept) in
            let rb = statement_fine (statement_after env a) sc b (ready_after env (statement_after env a) sc ready ra.0)
            two.1 in_o to (within free sc (In_stmt (plain.IfElse e_ a_ b_)) (In_stmt b_) (λ u h. inr (inr h))
            kept) in (
              then_ env (statement_after env a) (statement_after (statement_after env a) b) ra.0 rb.0,
              λ q. (c1 q, tt, ra.1 (after_value q e_ + 1), tt, rb.1 (after_statement p (after_value q e_ + 1) a_ + 1)),
            )
        statement_form_fine env sc at (n.While e a) ready calm (in_e, in_a) typed kept =
            let parts = none_in_parts (w.condition_sites [] both_lists refusal_list env e)
            (w.statement_sites [] both_lists refusal_list env a) calm in
            let c1 = condition env sc ready e parts.0 in_e in
            let e_ = bare_expression (checked_expression env e) in
            let a_ = bare_statement (checked_statement env a) in
            let ra = statement_fine env sc a ready parts.1 in_a typed
            (within free sc (In_stmt (plain.While e_ a_)) (In_stmt a_) (λ u h. inr h) kept) in
            (ra.0, λ q. (c1 q, tt, tt, ra.1 (after_value q e_ + 1 + 1), tt))
        statement_form_fine env sc at (n.Repeat ss e) ready calm (in_ss, in_e) typed kept =
            let parts = none_in_parts (w.statements_sites [] both_lists refusal_list (with_next_number env) ss)
            (w.condition_sites [] both_lists refusal_list (statements_after (with_next_number env) ss) e) calm in
            let up = by_count env ready.0 in
            let e_ = bare_expression (checked_expression (statements_after (with_next_number env) ss) e) in
            let a_ = bare_statement
            (in_sequence env.next (first_place at ss) (checked_statements (with_next_number env) ss)) in
            let ra = statements_fine (with_next_number env) sc ss (ready_after env (with_next_number env) sc ready up)
            parts.0 in_ss typed
            (within free sc (In_stmt (plain.Repeat a_ e_)) (In_stmt a_) (λ u h. inr h) kept) in
            let later = then_ env (with_next_number env) (statements_after (with_next_number env) ss) up ra.0 in
            let c1 = condition (statements_after (with_next_number env) ss) sc
            (ready_after env (statements_after (with_next_number env) ss) sc ready later) e parts.1 in_e in
            (later, λ q. (tt, ra.1 (q + 1), c1 (after_statement p (q + 1) a_), tt))
        statement_form_fine env sc at (n.Case e arms) ready calm (in_e, in_arms) typed kept =
            let parts = none_in_parts (both_lists (expression_sites [] both_lists refusal_list env e)
            (refusal_list (selector_rule env (place e) (expression_kind env e))))
            (both_lists (w.lists_sites [] both_lists refusal_list env (expression_kind env e) []
            (w.constant_lists arms))
            (w.arms_sites [] both_lists refusal_list env arms)) calm in
            let two = none_in_parts (w.lists_sites [] both_lists refusal_list env (expression_kind env e) []
            (w.constant_lists arms)) (w.arms_sites [] both_lists refusal_list env arms) parts.1 in
            let (_, _, _, ordinal_at) = ranged rule.Y11 env sc ready e parts.0 in_e in
            let e_ = bare_expression (checked_expression env e) in
            let arms_ = bare_arms (of_.arms (checked_arms env arms)) in
            let ra = arms_fine env sc arms ready two.1 in_arms typed
            (within free sc (In_stmt (plain.Case e_ arms_)) (In_arms arms_) (λ u h. inr h) kept) in (
              ra.0,
              λ q. (
                ordinal_at q,
                tests_at (after_value q e_) arms_ (after_tests (after_value q e_) arms_ + 1),
                tt,
                ra.1 (after_tests (after_value q e_) arms_ + 1)
                    (after_arms p (after_tests (after_value q e_) arms_ + 1) arms_),
              ),
            )
        statement_form_fine env sc at (n.For x name from down to a) ready calm ((v, vat, vr, vl), in_from, in_to, in_a)
            typed kept =
            let known = ready.0.variables x v vat (subst NoIndex (sym vr) tt) in
            let parts = none_in_parts (refusal_list (range_rule env name (variable_kind env x)))
            (both_lists (w.limit_sites [] both_lists refusal_list env (variable_kind env x) from)
            (both_lists (w.limit_sites [] both_lists refusal_list env (variable_kind env x) to)
            (w.statement_sites [] both_lists refusal_list env a))) calm in
            let two = none_in_parts (w.limit_sites [] both_lists refusal_list env (variable_kind env x) from)
            (both_lists (w.limit_sites [] both_lists refusal_list env (variable_kind env x) to)
            (w.statement_sites [] both_lists refusal_list env a)) parts.1 in
            let three = none_in_parts (w.limit_sites [] both_lists refusal_list env (variable_kind env x) to)
            (w.statement_sites [] both_lists refusal_list env a) two.1 in
            let ord = takes_if_none rule.Y10 name (ordinal env) (variable_kind env x) v.kind known.0
            (none_at_site (range_rule env name (variable_kind env x)) parts.0) in
            let sorted = ordinal_is p m moves shares callable env ready.0 sc ready.1 v.kind ord in
            let l1 = limit env sc ready (variable_kind env x) v.kind known.0 sorted from two.0 in_from in
            let l2 = limit env sc ready (variable_kind env x) v.kind known.0 sorted to three.0 in_to in
            let f_ = bare_expression (checked_expression env from) in
            let t_ = bare_expression (checked_expression env to) in
            let a_ = bare_statement (checked_statement env a) in
            let ra = statement_fine env sc a ready three.1 in_a typed
            (within free sc (In_stmt (plain.For x f_ down t_ a_)) (In_stmt a_) (λ u h. inr (inr (inr h))) kept) in (
              ra.0,
              λ q. (
                l1 q,
                l2 (after_value q f_),
                (
                  (
                    v,
                    vat,
                    vr,
                    for_level free sc (In_stmt (plain.For x f_ down t_ a_)) x v.block kept (inl refl) vl,
                    sorted,
                  ),
                  tt,
                  tt,
                  ra.1 (after_value (after_value q f_) t_ + 1 + 1),
                  tt,
                ),
              ),
            )
        statement_form_fine env sc at (n.Parallel bs) ready calm here typed kept =
            let ss_ = bare_statements (of_.statements (checked_branches env at bs)) in
            let rb = branches_fine env sc at bs ready calm here typed
            (within free sc (In_stmt (plain.Parallel ss_)) (In_stmts ss_) (λ u h. inr (inl h)) kept) in (
              rb.0,
              λ q. (
                0,
                tt,
                tt,
                tt,
                rb.1 (q + 1 + 1),
                free_is free sc (In_stmt (plain.Parallel ss_)) kept (inr (inr refl)),
              ),
            )
        statement_form_fine env sc at (n.Forall x from to a) ready calm (is, in_from, in_to, in_a) (kinds, typed)
            kept =
            let parts = none_in_parts (both_lists (expression_sites [] both_lists refusal_list env from)
            (refusal_list (range_rule env (place from) (expression_kind env from))))
            (both_lists (w.limit_sites [] both_lists refusal_list env (expression_kind env from) to)
            (w.statement_sites [] both_lists refusal_list (with_index_type env x (expression_kind env from)) a)) calm in
            let two = none_in_parts (w.limit_sites [] both_lists refusal_list env (expression_kind env from) to)
            (w.statement_sites [] both_lists refusal_list (with_index_type env x (expression_kind env from)) a)
            parts.1 in
            let (number, gives, is_ordinal_kind, ordinal_at) = ranged rule.Y10 env sc ready from parts.0 in_from in
            let l2 = limit env sc ready (expression_kind env from) number gives
            (ordinal_sort (slice_get p.kinds number) is_ordinal_kind) to two.0 in_to in
            let inner = with_index_type env x (expression_kind env from) in
            let is_kind = λ (v : Variable) (vat : slice_get p.variables x ≡ Some v). kinds v vat number gives in
            let up = by_index env x number (expression_kind env from) gives is is_kind ready.0 in
            let f_ = bare_expression (checked_expression env from) in
            let t_ = bare_expression (checked_expression env to) in
            let a_ = bare_statement (checked_statement inner a) in
            let all_ = In_stmt (plain.Forall x f_ t_ a_) in
            let ra = statement_fine inner (OfIndex x ∷ sc) a (
              up.0,
              more_indices env x number sc (expression_kind env from) ready.0 gives is_ordinal_kind is_kind
                  ready.1,
            ) two.1
            in_a typed
            (forall_part free sc x f_ t_ a_ kept) in (
              then_ env inner (statement_after inner a) up ra.0,
              λ q. (
                0,
                tt,
                ordinal_at q,
                l2 (after_value q f_),
                tt,
                tt,
                ra.1 (after_value (after_value q f_) t_ + 1 + 1),
                tt,
                free_is free sc all_ kept (inr (inr (inr (inr refl)))),
              ),
            )
        statement_form_fine env sc at (n.Assume e) ready calm here typed kept = let c1 =
            condition env sc ready e calm here in (grown_to_itself env ready.0, λ q. (c1 q, tt))

        pub statements_fine : (env : Env) (sc : List Scope) (ss : n.Statements) → MatchesWithIndices env sc
            → w.statements_sites [] both_lists refusal_list env ss ≡ [] → InStatements p m sc ss → AreTyped p env ss
            → KeepsRulesHere free sc (In_stmts (bare_statements (of_.statements (checked_statements env ss))))
            → Grown env (statements_after env ss)
            × ((q : ℕ) → AllAt p moves shares AnyInstr AnyTable AnyText callable free sc q
            (bare_statements (of_.statements (checked_statements env ss))))
        statements_fine env sc n.NoStatement ready calm here typed kept = (grown_to_itself env ready.0, λ q. tt)
        statements_fine env sc (n.AndThen a rest) ready calm (in_a, in_rest) (ta, trest) kept =
            let parts = none_in_parts (w.statement_sites [] both_lists refusal_list env a)
            (w.statements_sites [] both_lists refusal_list (statement_after env a) rest) calm in
            let a_ = bare_statement (checked_statement env a) in
            let rest_ = bare_statements (of_.statements (checked_statements (statement_after env a) rest)) in
            let ra = statement_fine env sc a ready parts.0 in_a ta
            (within free sc (In_stmts (plain.And a_ rest_)) (In_stmt a_) (λ u h. inl h) kept) in
            let rb = statements_fine (statement_after env a) sc rest
            (ready_after env (statement_after env a) sc ready ra.0) parts.1 in_rest trest
            (within free sc (In_stmts (plain.And a_ rest_)) (In_stmts rest_) (λ u h. inr h) kept) in (
              then_ env (statement_after env a) (statements_after (statement_after env a) rest) ra.0 rb.0,
              λ q. (ra.1 q, rb.1 (after_statement p q a_)),
            )

        pub arms_fine : (env : Env) (sc : List Scope) (arms : n.Arms) → MatchesWithIndices env sc
            → w.arms_sites [] both_lists refusal_list env arms ≡ [] → InArms p m sc arms → AreTypedArms p env arms
            → KeepsRulesHere free sc (In_arms (bare_arms (of_.arms (checked_arms env arms))))
            → Grown env (arms_after env arms)
            × ((q end : ℕ) → ArmsAt p moves shares AnyInstr AnyTable AnyText callable free sc q
            (bare_arms (of_.arms (checked_arms env arms))) end)
        arms_fine env sc n.NoArm ready calm here typed kept = (grown_to_itself env ready.0, λ q end. tt)
        arms_fine env sc (n.Or (n.On cs a) rest) ready calm (in_a, in_rest) (ta, trest) kept =
            let parts = none_in_parts (w.statement_sites [] both_lists refusal_list env a)
            (w.arms_sites [] both_lists refusal_list (statement_after env a) rest) calm in
            let a_ = bare_statement (checked_statement env a) in
            let rest_ = bare_arms (of_.arms (checked_arms (statement_after env a) rest)) in
            let all_ = In_arms (plain.Or (plain.On (constant_numbers env cs) a_) rest_) in
            let ra = statement_fine env sc a ready parts.0 in_a ta
            (within free sc all_ (In_stmt a_) (λ u h. inl h) kept) in
            let rb = arms_fine (statement_after env a) sc rest (ready_after env (statement_after env a) sc ready ra.0)
            parts.1 in_rest trest (within free sc all_ (In_arms rest_) (λ u h. inr h) kept) in (
              then_ env (statement_after env a) (arms_after (statement_after env a) rest) ra.0 rb.0,
              λ q end. (ra.1 q, tt, rb.1 (after_statement p q a_ + 1) end),
            )

        pub branches_fine : (env : Env) (sc : List Scope) (at : Place) (bs : n.Branches) → MatchesWithIndices env sc
            → w.branches_sites [] both_lists refusal_list env bs ≡ [] → InBranches p m sc bs → AreTypedBranches p env bs
            → KeepsRulesHere free sc (In_stmts (bare_statements (of_.statements (checked_branches env at bs))))
            → Grown env (branches_after env bs)
            × ((q : ℕ) → ChildrenAt p moves shares AnyInstr AnyTable AnyText callable free sc q
            (bare_statements (of_.statements (checked_branches env at bs))))
        branches_fine env sc at n.NoBranch ready calm here typed kept = (grown_to_itself env ready.0, λ q. tt)
        branches_fine env sc at (n.Beside ss rest) ready calm (in_ss, in_rest) (ts, trest) kept =
            let parts = none_in_parts (w.statements_sites [] both_lists refusal_list (with_next_number env) ss)
            (w.branches_sites [] both_lists refusal_list (statements_after (with_next_number env) ss) rest) calm in
            let up = by_count env ready.0 in
            let a_ = bare_statement
            (in_sequence env.next (first_place at ss) (checked_statements (with_next_number env) ss)) in
            let rest_ = bare_statements (of_.statements
            (checked_branches (statements_after (with_next_number env) ss) at rest)) in
            let ra = statements_fine (with_next_number env) sc ss (ready_after env (with_next_number env) sc ready up)
            parts.0 in_ss ts
            (within free sc (In_stmts (plain.And a_ rest_)) (In_stmt a_) (λ u h. inl h) kept) in
            let later = then_ env (with_next_number env) (statements_after (with_next_number env) ss) up ra.0 in
            let rb = branches_fine (statements_after (with_next_number env) ss) sc at rest
            (ready_after env (statements_after (with_next_number env) ss) sc ready later) parts.1 in_rest trest
            (within free sc (In_stmts (plain.And a_ rest_)) (In_stmts rest_) (λ u h. inr h) kept) in (
              then_ env (statements_after (with_next_number env) ss)
                  (branches_after (statements_after (with_next_number env) ss) rest)
                  later rb.0,
              λ q. (ra.1 q, tt, rb.1 (after_statement p q a_ + 1)),
            )
