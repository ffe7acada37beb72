-- The calls of standard procedures are fine, where no rule of types is broken and each name is of a visible
-- declaration.
use Rattle.std.proofs.Common.{◌≡◌, inl, inr, refl, ap, sym, ◌∙◌, ℕ, ◌+◌, List, [], ◌∷◌, ◌++◌, Option, Some, None, Bool}
use Rattle.std.proofs.Common.{true, false, slice_get}
use Rattle.std.specs.Prelude.{nat_eq, ◌||◌}
use Rattle.sp_base.specs.declared.place.Place.{Place}
use Rattle.sp_base.specs.declared.rule.Rule.TheVariants as rule
use Rattle.sp_tree.specs.declared.checked.KindOf.{KindOf}
use Rattle.sp_tree.specs.declared.checked.KindOf.TheVariants as kind
use Rattle.sp_tree.specs.PhaseResults.{FirstRefusal, refusal_list}
use Rattle.sp_tree.specs.NameFirst.{both_lists}
use Rattle.sp_tree.specs.Plain.{Program, Stmt}
use Rattle.sp_tree.specs.Plain as plain
use Rattle.sp_tree.specs.PlainNamed as n
use Rattle.sp_code.specs.Scopes.{Ordinals, Channels, kind_of, Scope, sort, sort_by}
use Rattle.sp_code.specs.Places.{after_value, after_var}
use Rattle.sp_types.specs.Tables.{Env, char_of}
use Rattle.sp_types.specs.TypeRules.{channel}
use Rattle.sp_types.specs.Kinds.{expression_kind, selected}
use Rattle.sp_types.specs.TypeWalk.{expression_sites, variable_sites}
use Rattle.sp_types.specs.TypeWalk.{place}
use Rattle.sp_types.specs.CheckedTree.{checked_expression, checked_variable}
use Rattle.sp_tree.specs.PlainChecked as c
use Rattle.sp_tree.specs.CheckedOf as of_
use Rattle.sp_tree.specs.Bare.{bare_expression, bare_variable}
use Rattle.sp_front.specs.MatchingTables.{IsKind}
use Rattle.sp_code.specs.CodeOfTree.{ValueAt, PlaceAt, AnyInstr, AnyTable, AnyText}
use Rattle.sp_front.specs.ScopeFacts.{InExpression, InVariable, InArguments, InWidth}
use Rattle.sp_front.proofs.NoBreachInParts.{none_in_parts, none_with_site, takes_if_none, nat_eq_is}
use Rattle.sp_tree.specs.declared.meaning.StandardProcedure.{StandardProcedure}
use Rattle.sp_tree.specs.Uses.{In_stmt, In_stmts}
use Rattle.sp_code.specs.Places.{after_statement}
use Rattle.sp_types.specs.TypeWalk as w
use Rattle.sp_tree.specs.Bare.{bare_statement_form, bare_statements}
use Rattle.sp_code.specs.CodeOfTree.{AllAt}
use Rattle.sp_front.proofs.Expressions.{expression_fine, variable_fine, ValueIs}
use Rattle.sp_tree.specs.declared.meaning.StandardProcedure.TheVariants as procedure
use Rattle.sp_types.specs.TypeRules.{read_rule, is_readable, write_rule, is_writable, width_rule, channel_rule}
use Rattle.sp_types.specs.TypeRules.{message_rule}
use Rattle.sp_types.specs.CheckedTree.{write_text_form, checked_width, write_value_form, reads, writes, opens, sends}
use Rattle.sp_types.specs.CheckedTree.{receives}
use Rattle.sp_types.specs.CheckedTree.{singles, numbered_statements, expanded_form}
use Rattle.sp_tree.specs.Bare.{bare_width}
use Rattle.sp_code.specs.CodeOfTree.{ReadsAt, WidthAt, IsWritten}
use Rattle.sp_front.specs.ScopeFacts.{AreAimed, AimsOf}
use Rattle.sp_front.proofs.Expressions.{channel_is, integer_is}
use Rattle.sp_front.proofs.Statements.{MatchesWithIndices, StatementHasCode, KeepsRulesHere, within, free_is, Performs}

module _ (p : Program) (m : ℕ) (moves shares : Stmt → List ℕ) (callable : ℕ → Type 0) (free : Bool) where
  abbrev pub FormHasCode : List Scope → c.Form → Type 0
  FormHasCode sc f = KeepsRulesHere p m moves shares callable free sc (In_stmt (bare_statement_form f))
      → StatementHasCode p m moves shares callable free sc (bare_statement_form f)

  abbrev pub AllHaveCode : List Scope → List c.Form → Type 0
  AllHaveCode sc [] = Unit {0}
  AllHaveCode sc (f ∷ fs) = FormHasCode sc f × AllHaveCode sc fs

  all_join : (sc : List Scope) (fs gs : List c.Form) → AllHaveCode sc fs → AllHaveCode sc gs → AllHaveCode sc (fs ++ gs)
  all_join sc [] gs x y = y
  all_join sc (f ∷ fs) gs x y = (x.0, all_join sc fs gs x.1 y)

  numbered_fine : (sc : List Scope) (k : ℕ) (at : Place) (fs : List c.Form) → AllHaveCode sc fs
      → KeepsRulesHere p m moves shares callable free sc
      (In_stmts (bare_statements (of_.statements (numbered_statements k at fs)))) → (q : ℕ)
      → AllAt p moves shares AnyInstr AnyTable AnyText callable free sc q
      (bare_statements (of_.statements (numbered_statements k at fs)))
  numbered_fine sc k at [] h kept q = tt
  numbered_fine sc k at (f ∷ fs) h kept q =
      let s_ = bare_statement_form f in
      let r_ = bare_statements (of_.statements (numbered_statements (k + 1) at fs)) in (
        h.0 (within p m moves shares callable free sc (In_stmts (plain.And s_ r_)) (In_stmt s_) (λ u i. inl i) kept) q,
        numbered_fine sc (k + 1) at fs h.1 (within p m moves shares callable free sc (In_stmts (plain.And s_ r_))
            (In_stmts r_) (λ u i. inr i) kept) (after_statement p q s_),
      )

  expanded_fine : (sc : List Scope) (k : ℕ) (at : Place) (fs : List c.Form) → AllHaveCode sc fs
      → KeepsRulesHere p m moves shares callable free sc (In_stmt (bare_statement_form (expanded_form k at fs)))
      → StatementHasCode p m moves shares callable free sc (bare_statement_form (expanded_form k at fs))
  expanded_fine sc k at [] h kept q = tt
  expanded_fine sc k at (f ∷ []) h kept q = h.0 kept q
  expanded_fine sc k at (f ∷ g ∷ fs) h kept q = numbered_fine sc k at (f ∷ g ∷ fs) h kept q

  module _ (env : Env) (sc : List Scope) (ready : MatchesWithIndices p m env sc) where
    value : (e : n.Expression) (f : FirstRefusal) → both_lists (expression_sites [] both_lists refusal_list env e)
        (refusal_list f) ≡ []
        → InExpression p m sc e → ValueIs p m moves shares callable env ready.0 sc ready.1 (expression_kind env e)
        (bare_expression (checked_expression env e)) × (f ≡ None)
    value e f calm here = let two = none_with_site (expression_sites [] both_lists refusal_list env e) f calm in
        (expression_fine p m moves shares callable env ready.0 sc ready.1 e two.0 here, two.1)

    width_fine : (at : Place) (wd : n.Width) → w.width_sites [] both_lists refusal_list env at wd ≡ []
        → InWidth p m sc wd
        → (q : ℕ) → WidthAt p moves shares AnyInstr AnyTable AnyText callable sc q (bare_width (checked_width env wd))
    width_fine at n.NoWidth calm here q = tt
    width_fine at (n.WithWidth e) calm here q =
        let ((number, gives, _, own_kind, value_at), quiet) = value e (width_rule at (expression_kind env e)) calm here
        in
        let
        is = nat_eq_is 0 number
        (takes_if_none rule.Y8 at (nat_eq 0) (expression_kind env e) number gives quiet)
        in (
          value_at q,
          integer_is p m moves shares callable env ready.0 sc ready.1
              (kind_of (bare_expression (checked_expression env e))) (own_kind ∙ sym is),
        )

    -- what is written: an integer, a char or a boolean
    writes_kind : (k : ℕ) → is_writable k ≡ true → (t : KindOf) × (slice_get p.kinds k ≡ Some t) × IsWritten t
        × (sort p k ≡ Ordinals)
    writes_kind k e = go (nat_eq k 0) (nat_eq k 2) refl refl e
      where
        go : (a b : Bool) → nat_eq k 0 ≡ a → nat_eq k 2 ≡ b → (a || (b || nat_eq k 1)) ≡ true → (t : KindOf)
            × (slice_get p.kinds k ≡ Some t) × IsWritten t × (sort p k ≡ Ordinals)
        go true b ae be e = let x = ap (slice_get p.kinds) (nat_eq_is k 0 ae) ∙ ready.0.integer in
            (kind.Integer, x, tt, ap sort_by x)
        go false true ae be e = let x = ap (slice_get p.kinds) (nat_eq_is k 2 be) ∙ ready.0.char in
            (kind.Char, x, tt, ap sort_by x)
        go false false ae be e = let x = ap (slice_get p.kinds) (nat_eq_is k 1 e) ∙ ready.0.boolean in
            (kind.Boolean, x, tt, ap sort_by x)

    write_one : (e : n.Expression) (wd : n.Width) → w.width_sites [] both_lists refusal_list env (place e) wd ≡ []
        → both_lists (expression_sites [] both_lists refusal_list env e)
        (refusal_list (write_rule (place e) (expression_kind env e)))
        ≡ [] → InExpression p m sc e → InWidth p m sc wd
        → FormHasCode sc (c.WriteValue (checked_expression env e) (checked_width env wd))
    write_one e wd cw ce here in_w kept q =
        let ((number, gives, _, own_kind, value_at), quiet) = value e (write_rule (place e) (expression_kind env e)) ce
        here in
        let e_ = bare_expression (checked_expression env e) in
        let (written_kind, kind_at, is_written, sort_is) = writes_kind number
        (takes_if_none rule.Y8 (place e) is_writable (expression_kind env e) number gives quiet) in (
          written_kind,
          (value_at q, ap (sort p) own_kind ∙ sort_is),
          ap (slice_get p.kinds) own_kind ∙ kind_at,
          width_fine (place e) wd cw in_w (after_value q e_),
          tt,
          is_written,
        )

    text_one : (at : Place) (t : List ℕ) (wd : n.Width) → w.width_sites [] both_lists refusal_list env at wd ≡ []
        → InWidth p m sc wd → FormHasCode sc (write_text_form at t (char_of t) (checked_width env wd))
    text_one at [] wd cw in_w kept q = (0, tt, width_fine at wd cw in_w q, tt)
    text_one at (x ∷ []) wd cw in_w kept q = (
      kind.Char,
      (((tt, ap sort_by ready.0.char)), ap sort_by ready.0.char),
      ready.0.char,
      width_fine at wd cw in_w (q + 1),
      tt,
      tt,
    )
    text_one at (x ∷ y ∷ t) wd cw in_w kept q = (0, tt, width_fine at wd cw in_w q, tt)

    written_one : (e : n.Expression) (wd : n.Width) → w.width_sites [] both_lists refusal_list env (place e) wd ≡ []
        → w.written_sites [] both_lists refusal_list env e ≡ [] → InExpression p m sc e → InWidth p m sc wd
        → FormHasCode sc (write_value_form env e (checked_width env wd))
    written_one (n.ExpressionAt at (n.Quoted t)) wd cw ce here in_w = text_one at t wd cw in_w
    written_one (n.ExpressionAt at (n.Number k)) wd cw ce here in_w =
        write_one (n.ExpressionAt at (n.Number k)) wd cw ce here in_w
    written_one (n.ExpressionAt at (n.Constant k)) wd cw ce here in_w =
        write_one (n.ExpressionAt at (n.Constant k)) wd cw ce here in_w
    written_one (n.ExpressionAt at (n.Read v)) wd cw ce here in_w =
        write_one (n.ExpressionAt at (n.Read v)) wd cw ce here in_w
    written_one (n.ExpressionAt at (n.Apply f name args)) wd cw ce here in_w =
        write_one (n.ExpressionAt at (n.Apply f name args)) wd cw ce here in_w
    written_one (n.ExpressionAt at (n.Standard f args)) wd cw ce here in_w =
        write_one (n.ExpressionAt at (n.Standard f args)) wd cw ce here in_w
    written_one (n.ExpressionAt at (n.Unary op a)) wd cw ce here in_w =
        write_one (n.ExpressionAt at (n.Unary op a)) wd cw ce here in_w
    written_one (n.ExpressionAt at (n.Binary op a b)) wd cw ce here in_w =
        write_one (n.ExpressionAt at (n.Binary op a b)) wd cw ce here in_w

    writes_fine : (args : n.Arguments)
        → w.each_sites [] both_lists refusal_list env (w.write_sites [] both_lists refusal_list env) args
        ≡ [] → InArguments p m sc args → AllHaveCode sc (writes env args)
    writes_fine n.NoArgument calm here = tt
    writes_fine (n.AndArgument (n.Pass e wd) rest) calm here =
        let two = none_in_parts (both_lists (w.width_sites [] both_lists refusal_list env (place e) wd)
        (w.written_sites [] both_lists refusal_list env e))
        (w.each_sites [] both_lists refusal_list env (w.write_sites [] both_lists refusal_list env) rest) calm in
        let one = none_in_parts (w.width_sites [] both_lists refusal_list env (place e) wd)
        (w.written_sites [] both_lists refusal_list env e) two.0 in
        (written_one e wd one.0 one.1 here.0 here.1, writes_fine rest two.1 here.2)

    -- an argument that is a variable, with a rule of its type
    aimed_one : (at : Place) (x : ℕ) (name : Place) (ss : n.Selectors) (f : FirstRefusal)
        → both_lists (variable_sites [] both_lists refusal_list env (n.Entire x name ss)) (refusal_list f) ≡ []
        → InVariable p m sc (n.Entire x name ss)
        → ((k : ℕ) × (selected env (n.Entire x name ss) ≡ Some k) × IsKind p k
        × ((q : ℕ) → PlaceAt p moves shares AnyInstr AnyTable AnyText callable sc q
        (bare_variable (checked_variable env (n.Entire x name ss))) k)) × (f ≡ None)
    aimed_one at x name ss f calm here = let two =
        none_with_site (variable_sites [] both_lists refusal_list env (n.Entire x name ss)) f calm in
        (variable_fine p m moves shares callable env ready.0 sc ready.1 (n.Entire x name ss) two.0 here, two.1)

    reads_kind : (k : ℕ) → is_readable k ≡ true → (t : KindOf) × (slice_get p.kinds k ≡ Some t)
        × ((q : ℕ) → ReadsAt p moves shares AnyInstr AnyTable AnyText callable q t)
    reads_kind k e = go (nat_eq k 0) refl e
      where
        go : (a : Bool) → nat_eq k 0 ≡ a → (a || nat_eq k 2) ≡ true → (t : KindOf) × (slice_get p.kinds k ≡ Some t)
            × ((q : ℕ) → ReadsAt p moves shares AnyInstr AnyTable AnyText callable q t)
        go true ae e = (kind.Integer, ap (slice_get p.kinds) (nat_eq_is k 0 ae) ∙ ready.0.integer, λ q. tt)
        go false ae e = (kind.Char, ap (slice_get p.kinds) (nat_eq_is k 2 e) ∙ ready.0.char, λ q. tt)

    reads_fine : (args : n.Arguments)
        → w.each_sites [] both_lists refusal_list env (w.read_sites [] both_lists refusal_list env) args
        ≡ [] → AreAimed p m args → InArguments p m sc args → AllHaveCode sc (reads env args)
    reads_fine n.NoArgument calm targets here = tt
    reads_fine (n.AndArgument (n.Pass (n.ExpressionAt at (n.Read (n.Entire x name ss))) wd) rest) calm targets here =
        let two = none_in_parts
        (w.read_sites [] both_lists refusal_list env (n.Pass (n.ExpressionAt at (n.Read (n.Entire x name ss))) wd))
        (w.each_sites [] both_lists refusal_list env (w.read_sites [] both_lists refusal_list env) rest) calm in
        let ((number, gives, _, place_at), quiet) = aimed_one at x name ss
        (read_rule at (selected env (n.Entire x name ss))) two.0 here.0 in
        let t = reads_kind number (takes_if_none rule.Y8 at is_readable (selected env (n.Entire x name ss)) number gives
        quiet) in (
          (λ kept q. (
            number,
            t.0,
            place_at q,
            targets.0,
            t.1,
            t.2 (after_var q (bare_variable (checked_variable env (n.Entire x name ss)))),
          )),
          reads_fine rest two.1 targets.1 here.2,
        )
    reads_fine (n.AndArgument (n.Pass (n.ExpressionAt at (n.Number k)) wd) rest) calm targets here = absurd targets
    reads_fine (n.AndArgument (n.Pass (n.ExpressionAt at (n.Quoted t)) wd) rest) calm targets here = absurd targets
    reads_fine (n.AndArgument (n.Pass (n.ExpressionAt at (n.Constant k)) wd) rest) calm targets here = absurd targets
    reads_fine (n.AndArgument (n.Pass (n.ExpressionAt at
        (n.Apply f name args)) wd) rest) calm targets here = absurd targets
    reads_fine (n.AndArgument (n.Pass (n.ExpressionAt at
        (n.Standard f args)) wd) rest) calm targets here = absurd targets
    reads_fine (n.AndArgument (n.Pass (n.ExpressionAt at (n.Unary op a)) wd) rest) calm targets here = absurd targets
    reads_fine (n.AndArgument (n.Pass (n.ExpressionAt at (n.Binary op a b)) wd) rest) calm targets here = absurd targets

    opens_fine : (args : n.Arguments)
        → w.each_sites [] both_lists refusal_list env (w.channel_sites [] both_lists refusal_list env)
        args ≡ [] → AreAimed p m args → InArguments p m sc args → AllHaveCode sc (opens env args)
    opens_fine n.NoArgument calm targets here = tt
    opens_fine (n.AndArgument (n.Pass (n.ExpressionAt at (n.Read (n.Entire x name ss))) wd) rest) calm targets here =
        let two = none_in_parts (w.channel_sites [] both_lists refusal_list env
        (n.Pass (n.ExpressionAt at (n.Read (n.Entire x name ss))) wd))
        (w.each_sites [] both_lists refusal_list env (w.channel_sites [] both_lists refusal_list env) rest) calm in
        let ((number, gives, _, place_at), quiet) = aimed_one at x name ss
        (channel_rule env at (selected env (n.Entire x name ss))) two.0 here.0 in
        let is = channel_is p m moves shares callable env ready.0 sc ready.1 number
        (takes_if_none rule.Y8 at (channel env) (selected env (n.Entire x name ss)) number gives quiet) in
        let v_ = bare_variable (checked_variable env (n.Entire x name ss)) in (
          (λ kept q. (
            number,
            place_at q,
            targets.0,
            is,
            tt,
            free_is p m moves shares callable free sc (In_stmt (plain.Open v_)) kept (inr refl),
          )),
          opens_fine rest two.1 targets.1 here.2,
        )
    opens_fine (n.AndArgument (n.Pass (n.ExpressionAt at (n.Number k)) wd) rest) calm targets here = absurd targets
    opens_fine (n.AndArgument (n.Pass (n.ExpressionAt at (n.Quoted t)) wd) rest) calm targets here = absurd targets
    opens_fine (n.AndArgument (n.Pass (n.ExpressionAt at (n.Constant k)) wd) rest) calm targets here = absurd targets
    opens_fine (n.AndArgument (n.Pass (n.ExpressionAt at
        (n.Apply f name args)) wd) rest) calm targets here = absurd targets
    opens_fine (n.AndArgument (n.Pass (n.ExpressionAt at
        (n.Standard f args)) wd) rest) calm targets here = absurd targets
    opens_fine (n.AndArgument (n.Pass (n.ExpressionAt at (n.Unary op a)) wd) rest) calm targets here = absurd targets
    opens_fine (n.AndArgument (n.Pass (n.ExpressionAt at (n.Binary op a b)) wd) rest) calm targets here = absurd targets

    -- a channel, and what is sent or received
    abbrev ChannelIs : n.Expression → Type 0
    ChannelIs e = ((q : ℕ) → ValueAt p moves shares AnyInstr AnyTable AnyText callable sc q
        (bare_expression (checked_expression env e)))
        × (sort p (kind_of (bare_expression (checked_expression env e))) ≡ Channels)

    channel_one : (e : n.Expression) (wd : n.Width) → w.channel_sites [] both_lists refusal_list env (n.Pass e wd) ≡ []
        → InExpression p m sc e → ChannelIs e
    channel_one e wd calm here =
        let ((number, gives, _, own_kind, value_at), quiet) = value e
        (channel_rule env (place e) (expression_kind env e)) calm here in (
          value_at,
          ap (sort p) own_kind ∙ channel_is p m moves shares callable env ready.0 sc ready.1 number
              (takes_if_none rule.Y8 (place e) (channel env) (expression_kind env e) number gives quiet),
        )

    sends_fine : (ch : n.Expression) (o : Option ℕ) → ChannelIs ch → (args : n.Arguments)
        → w.each_sites [] both_lists refusal_list env (w.message_sites [] both_lists refusal_list env o) args ≡ []
        → InArguments p m sc args → AllHaveCode sc (sends env (checked_expression env ch) args)
    sends_fine ch o is n.NoArgument calm here = tt
    sends_fine ch o is (n.AndArgument (n.Pass e wd) rest) calm here =
        let two = none_in_parts (w.message_sites [] both_lists refusal_list env o (n.Pass e wd))
        (w.each_sites [] both_lists refusal_list env (w.message_sites [] both_lists refusal_list env o) rest) calm in
        let ((_, _, _, _, value_at), _) = value e (message_rule env (place e) o (expression_kind env e)) two.0 here.0 in
        let c_ = bare_expression (checked_expression env ch) in
        let e_ = bare_expression (checked_expression env e) in (
          (λ kept q. (
            is.0 q,
            is.1,
            value_at (after_value q c_),
            tt,
            free_is p m moves shares callable free sc (In_stmt (plain.Send c_ e_)) kept (inr (inr refl)),
          )),
          sends_fine ch o is rest two.1 here.2,
        )

    receives_fine : (ch : n.Expression) (o : Option ℕ) → ChannelIs ch → (args : n.Arguments)
        → w.each_sites [] both_lists refusal_list env (w.message_sites [] both_lists refusal_list env o) args ≡ []
        → AreAimed p m args
        → InArguments p m sc args → AllHaveCode sc (receives env (checked_expression env ch) args)
    receives_fine ch o is n.NoArgument calm targets here = tt
    receives_fine ch o is (n.AndArgument (n.Pass (n.ExpressionAt at (n.Read (n.Entire x name ss))) wd) rest) calm
        targets here =
        let two = none_in_parts (w.message_sites [] both_lists refusal_list env o
        (n.Pass (n.ExpressionAt at (n.Read (n.Entire x name ss))) wd))
        (w.each_sites [] both_lists refusal_list env (w.message_sites [] both_lists refusal_list env o) rest) calm in
        let ((number, _, _, place_at), _) = aimed_one at x name ss
        (message_rule env at o (selected env (n.Entire x name ss))) two.0 here.0 in
        let c_ = bare_expression (checked_expression env ch) in
        let v_ = bare_variable (checked_variable env (n.Entire x name ss)) in (
          (λ kept q. (
            number,
            is.0 q,
            is.1,
            place_at (after_value q c_),
            targets.0,
            tt,
            free_is p m moves shares callable free sc (In_stmt (plain.Receive c_ v_)) kept (inr (inr refl)),
          )),
          receives_fine ch o is rest two.1 targets.1 here.2,
        )
    receives_fine ch o is (n.AndArgument (n.Pass (n.ExpressionAt at
        (n.Number k)) wd) rest) calm targets here = absurd targets
    receives_fine ch o is (n.AndArgument (n.Pass (n.ExpressionAt at
        (n.Quoted t)) wd) rest) calm targets here = absurd targets
    receives_fine ch o is (n.AndArgument (n.Pass (n.ExpressionAt at (n.Constant k)) wd) rest) calm targets here =
        absurd targets
    receives_fine ch o is (n.AndArgument (n.Pass (n.ExpressionAt at (n.Apply f name args)) wd) rest) calm targets here =
        absurd targets
    receives_fine ch o is (n.AndArgument (n.Pass (n.ExpressionAt at (n.Standard f args)) wd) rest) calm targets here =
        absurd targets
    receives_fine ch o is (n.AndArgument (n.Pass (n.ExpressionAt at (n.Unary op a)) wd) rest) calm targets here =
        absurd targets
    receives_fine ch o is (n.AndArgument (n.Pass (n.ExpressionAt at (n.Binary op a b)) wd) rest) calm targets here =
        absurd targets

    singles_fine : (f : StandardProcedure) (args : n.Arguments) → w.perform_sites [] both_lists refusal_list env f
        args ≡ []
        → AimsOf p m f args → InArguments p m sc args → AllHaveCode sc (singles env f args)
    singles_fine procedure.Read args calm targets here = reads_fine args calm targets here
    singles_fine procedure.Readln args calm targets here =
        all_join sc (reads env args) (c.ReadLine ∷ []) (reads_fine args calm targets here) ((λ kept q. tt), tt)
    singles_fine procedure.Write args calm targets here = writes_fine args calm here
    singles_fine procedure.Writeln args calm targets here =
        all_join sc (writes env args) (c.WriteLine ∷ []) (writes_fine args calm here) ((λ kept q. tt), tt)
    singles_fine procedure.Open args calm targets here = opens_fine args calm targets here
    singles_fine procedure.Send n.NoArgument calm targets here = tt
    singles_fine procedure.Send (n.AndArgument (n.Pass e wd) rest) calm targets here =
        let two = none_in_parts (w.channel_sites [] both_lists refusal_list env (n.Pass e wd))
        (w.each_sites [] both_lists refusal_list env
        (w.message_sites [] both_lists refusal_list env (expression_kind env e)) rest)
        calm in
        sends_fine e (expression_kind env e) (channel_one e wd two.0 here.0) rest two.1 here.2
    singles_fine procedure.Receive n.NoArgument calm targets here = tt
    singles_fine procedure.Receive (n.AndArgument (n.Pass e wd) rest) calm targets here =
        let two = none_in_parts (w.channel_sites [] both_lists refusal_list env (n.Pass e wd))
        (w.each_sites [] both_lists refusal_list env
        (w.message_sites [] both_lists refusal_list env (expression_kind env e)) rest)
        calm in
        receives_fine e (expression_kind env e) (channel_one e wd two.0 here.0) rest two.1 targets here.2

pub performs : (p : Program) (m : ℕ) (moves shares : Stmt → List ℕ) (callable : ℕ → Type 0)
    → Performs p m moves shares callable
performs p m moves shares callable free env sc at f args ready calm here kept =
    expanded_fine p m moves shares callable free sc env.next at (singles env f args)
    (singles_fine p m moves shares callable free env sc ready f args calm here.1 here.2) kept
