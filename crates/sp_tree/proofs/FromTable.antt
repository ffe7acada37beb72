-- What the table derives is in the grammar.
use Rattle.std.proofs.Common.{◌≡◌, ℕ, suc, Bool, true, false, cond, List, [], ◌∷◌, ◌++◌, Option, Some, None, refl}
use Rattle.std.proofs.Common.{sym as back_of, subst, ap, ◌∙◌}
use Rattle.sp_base.proofs.Facts.{some_is_not_none}
use Rattle.sp_tree.specs.declared.token.Token.{Token}
use Rattle.sp_tree.specs.declared.token.Kind.{Kind}
use Rattle.sp_tree.specs.declared.token.Kind.TheVariants as kind
use Rattle.sp_tree.specs.Words as w
use Rattle.sp_tree.specs.PlainSyntax as tree
use Rattle.sp_tree.specs.Spelling.{name_of}
use Rattle.sp_tree.specs.Grammar as g
use Rattle.sp_tree.specs.Symbols as sym
use Rattle.sp_tree.specs.Symbols.{Symbol, Value, Values, split, part}
use Rattle.sp_tree.specs.Table as row
use Rattle.sp_tree.specs.Table.{ConstantRow, PartsRow, FormRow, SelectorRow, FactorRow, SimpleRow, Row, RowEntry}
use Rattle.sp_tree.specs.Table.{rows}
use Rattle.sp_tree.specs.Table.{look, kind_is, gap, build, constant_value, parts_value, form_value, selector_value}
use Rattle.sp_tree.specs.Table.{factor_value, simple_value}
use Rattle.sp_tree.specs.Derives.{PartMayBegin, Derives, takes, skips, DerivesAll}
use Rattle.sp_tree.specs.Derives as d
use Rattle.sp_tree.specs.Means.{Means, MeansAll, none, and}
use borrow.Author.Tests.{eqb-true}

-- kinds that pass the test are the same
pub kind_is-true : (a b : Kind) → kind_is a b ≡ true → a ≡ b
kind_is-true kind.Name kind.Name h = refl
kind_is-true kind.Number kind.Number h = refl
kind_is-true kind.Text kind.Text h = refl
kind_is-true (kind.Word a) (kind.Word b) h = ap kind.Word (eqb-true a b h)
kind_is-true (kind.Sign a) (kind.Sign b) h = ap kind.Sign (eqb-true a b h)
kind_is-true a b h = absurd cc

-- the row that is found has the token's kind
found_by : {R : Kind → List Symbol → Type 0} (f : RowEntry R) (es : List (RowEntry R)) (k : Kind) (e : RowEntry R)
    (b : Bool)
    → kind_is f.key k ≡ b → cond b (Some f) (look es k) ≡ Some e → (look es k ≡ Some e → k ≡ e.key) → k ≡ e.key
found_by f es k e true q h go = let same : f ≡ e = cc in back_of (kind_is-true f.key k q) ∙ ap (λ e. e.key) same
found_by f es k e false q h go = go h

pub found : {R : Kind → List Symbol → Type 0} (es : List (RowEntry R)) (k : Kind) (e : RowEntry R) → look es k ≡ Some e
    → k ≡ e.key
found [] k e h = absurd cc
found (f ∷ es) k e h = found_by f es k e (kind_is f.key k) refl h (λ q. found es k e q)

module _ (text : List ℕ) (Ok : ℕ → List Token → Type 0) where
  split_all : (l m : List Symbol) {ts r : List Token} {vs : Values (l ++ m)} → MeansAll text Ok (l ++ m) ts r vs
      → (u : List Token) × MeansAll text Ok l ts u (split l m vs).0 × MeansAll text Ok m u r (split l m vs).1
  split_all [] m h = (_, none, h)
  split_all (s ∷ l) m (and x h) = let i = split_all l m h in (i.0, and x i.1, i.2)

  of_constant : {k : Kind} {l : List Symbol} (c : ConstantRow k l) (t : Token) → t.kind ≡ k
      → {ts r : List Token} {vs : Values l} → MeansAll text Ok l ts r vs
      → g.IsConstant text (t ∷ ts) r (constant_value text c t vs)
  of_constant row.constant_number t p none = g.unsigned (g.number_value t p)
  of_constant row.constant_name t p none = g.unsigned (g.name_value t p)
  of_constant row.constant_text t p none = g.quoted t p
  of_constant row.constant_plus t p (and v none) = g.positive t p v
  of_constant row.constant_minus t p (and v none) = g.negative t p v

  of_parts : {d : ℕ} {k : Kind} {l : List Symbol} (c : PartsRow d k l) (t : Token) → t.kind ≡ k
      → {ts r : List Token} {vs : Values l} → MeansAll text Ok l ts r vs
      → g.IsParts text Ok d (t ∷ ts) r (parts_value text c t vs)
  of_parts row.parts_begin t p (and s (and ss (and e none))) = g.body (g.compound (g.it_is t p) (g.sequence s ss) e)
  of_parts row.parts_const t p (and n (and e (and c (and s (and b none))))) =
      g.constants (g.it_is t p) (g.constant_part n e c s) b
  of_parts row.parts_type t p (and n (and e (and c (and s (and b none))))) =
      g.types (g.it_is t p) (g.type_part n e c s) b
  of_parts row.parts_var t p (and n (and ns (and c (and k (and s (and b none)))))) =
      g.variables (g.it_is t p) (g.variable_part (g.group (g.names n ns) c k) s) b
  of_parts row.parts_procedure t p (and n (and fs (and s (and b (and e (and m none)))))) =
      g.procedure (g.it_is t p) n fs s b e m
  of_parts row.parts_function t p (and n (and fs (and c (and a (and s (and b (and e (and m none)))))))) =
      g.function (g.it_is t p) n fs c a s b e m

  of_form : {d : ℕ} {k : Kind} {l : List Symbol} (c : FormRow d k l) (t : Token) → t.kind ≡ k
      → {ts r : List Token} {vs : Values l} → MeansAll text Ok l ts r vs
      → g.IsForm text Ok d (t ∷ ts) r (form_value text c t vs)
  of_form row.form_name t p (and f none) = f (t ∷ _) (name_of text t) (g.name t p)
  of_form row.form_begin t p (and s (and ss (and e none))) =
      g.compound_form (g.compound (g.it_is t p) (g.sequence s ss) e)
  of_form row.form_if t p (and e (and h (and s (and o none)))) = g.choice (g.it_is t p) e h s o
  of_form row.form_while t p (and e (and h (and s none))) = g.while_loop (g.it_is t p) e h s
  of_form row.form_repeat t p (and s (and ss (and h (and e none)))) = g.repeat_loop (g.it_is t p) (g.sequence s ss) h e
  of_form row.form_for t p (and n (and b (and x (and v (and y (and h (and s none))))))) =
      g.for_loop (g.it_is t p) n b x v y h s
  of_form row.form_case t p (and e (and h (and c (and cs (and s (and m none)))))) =
      g.case_choice (g.it_is t p) e h (g.arm (g.labels c cs) s) m
  of_form row.form_parallel t p (and s (and ss (and bs none))) =
      g.parallel (g.it_is t p) (g.branches (g.sequence s ss) bs)
  of_form row.form_forall t p (and n (and b (and x (and h (and y (and i (and s none))))))) =
      g.forall (g.it_is t p) n b x h y i s
  of_form row.form_assume t p (and e none) = g.assume (g.it_is t p) e

  of_selector : {d : ℕ} {k : Kind} {l : List Symbol} (c : SelectorRow d k l) (t : Token) → t.kind ≡ k
      → {ts r : List Token} {vs : Values l} → MeansAll text Ok l ts r vs
      → g.IsSelectors text Ok d (t ∷ ts) r (selector_value text c t vs)
  of_selector row.selector_index t p (and e (and ss none)) = g.index (g.it_is t p) e ss
  of_selector row.selector_field t p (and n (and ss none)) = g.field (g.it_is t p) n ss

  of_factor : {d : ℕ} {k : Kind} {l : List Symbol} (c : FactorRow d k l) (t : Token) → t.kind ≡ k
      → {ts r : List Token} {vs : Values l} → MeansAll text Ok l ts r vs
      → g.IsFactor text Ok d (t ∷ ts) r (factor_value text c t vs)
  of_factor row.factor_number t p none = g.number t p
  of_factor row.factor_text t p none = g.text_factor t p
  of_factor row.factor_name t p (and f none) = f t _ (name_of text t) (g.name t p)
  of_factor row.factor_open t p (and e (and c none)) = g.in_parentheses t p e c
  of_factor row.factor_not t p (and x none) = g.negated t p x.0 x.1

  after_factor : (d : ℕ) (a : tree.Expression) {ts u r : List Token}
      {vs : Values (sym.MoreFactors d ∷ sym.MoreTerms d ∷ [])} → g.IsFactor text Ok d ts u a
      → MeansAll text Ok (sym.MoreFactors d ∷ sym.MoreTerms d ∷ []) u r vs
      → let (factors, (terms, _)) = vs in g.IsSimple text Ok d ts r (terms (factors a))
  after_factor d a f (and x (and y none)) = g.simple (g.term f (x a)) (y _)

  of_simple : {d : ℕ} {k : Kind} {l : List Symbol} (c : SimpleRow d k l) (t : Token) → t.kind ≡ k
      → {ts r : List Token} {vs : Values l} → MeansAll text Ok l ts r vs
      → g.IsSimple text Ok d (t ∷ ts) r (simple_value text c t vs)
  of_simple {d} (row.simple_factor {l = l} c) t p {vs = vs} h =
      let i = split_all l (sym.MoreFactors d ∷ sym.MoreTerms d ∷ []) h in
      after_factor d (factor_value text c t (split l (sym.MoreFactors d ∷ sym.MoreTerms d ∷ []) vs).0)
      (of_factor c t p i.1) i.2
  of_simple row.simple_plus t p (and a (and f none)) = g.after_plus t p a (f _)
  of_simple row.simple_minus t p (and a (and f none)) = g.after_minus t p a (f _)

  after_term_factor : (d : ℕ) (a : tree.Expression) {ts u r : List Token} {vs : Values (sym.MoreFactors d ∷ [])}
      → g.IsFactor text Ok d ts u a → MeansAll text Ok (sym.MoreFactors d ∷ []) u r vs
      → g.IsTerm text Ok d ts r (vs.0 a)
  after_term_factor d a f (and x none) = g.term f (x a)

  after_simple : (d : ℕ) (a : tree.Expression) {ts u r : List Token} {vs : Values (sym.ARelation (suc d) ∷ [])}
      → Ok d ts → g.IsSimple text Ok (suc d) ts u a → MeansAll text Ok (sym.ARelation (suc d) ∷ []) u r vs
      → g.IsExpression text Ok d ts r (vs.0 a)
  after_simple d a ok s (and x none) = g.expression ok s (x a)

  after_selectors : (d : ℕ) (ss : tree.Selectors) {us ts u r : List Token} {n : _}
      {vs : Values (sym.AToken w.Becomes ∷ sym.AnExpression d ∷ [])} → g.IsName text us ts n
      → g.IsSelectors text Ok d ts u ss → MeansAll text Ok (sym.AToken w.Becomes ∷ sym.AnExpression d ∷ []) u r vs
      → let (_, (e, _)) = vs in g.IsForm text Ok d us r (tree.Assign (tree.Entire n ss) e)
  after_selectors d ss n s (and b (and e none)) = g.assignment (g.variable n s) b e

  after_constant : (d : ℕ) (c : _) {us ts u r : List Token}
      {vs : Values (sym.MoreLabels ∷ sym.AStatement d ∷ sym.MoreArms d ∷ [])} → g.Is w.Semicolon us ts
      → g.IsConstant text ts u c → MeansAll text Ok (sym.MoreLabels ∷ sym.AStatement d ∷ sym.MoreArms d ∷ []) u r vs
      → let (cs, (s, (m, _))) = vs in g.IsMoreArms text Ok d us r (tree.Or (tree.On (c ∷ cs) s) m)
  after_constant d c i x (and cs (and s (and m none))) = g.arms_go_on i (g.arm (g.labels x cs) s) m

  -- a symbol that takes a token
  pub good : {s : Symbol} {k : Kind} {l : List Symbol} (c : Row s k l) (t : Token) → t.kind ≡ k
      → {ts r : List Token} {vs : Values l} → PartMayBegin Ok (part s) (t ∷ ts) → MeansAll text Ok l ts r vs
      → Means text Ok s (t ∷ ts) r (build text c t vs)
  good row.token t p o none = g.it_is t p
  good row.name t p o none = g.name t p
  good row.program t p o (and n (and h (and s (and b (and e none))))) = g.program (g.it_is t p) n h s b e
  good row.heading t p o (and n (and ns (and c none))) = g.heading (g.it_is t p) (g.names n ns) c
  good row.next_name t p o (and n (and ns none)) = g.names_go_on (g.it_is t p) (g.names n ns)
  good (row.constant c) t p o h = of_constant c t p h
  good row.value_number t p o none = g.number_value t p
  good row.value_name t p o none = g.name_value t p
  good row.alias t p o none = g.alias (g.name t p)
  good row.enumeration t p o (and n (and ns (and c none))) = g.enumeration (g.it_is t p) (g.names n ns) c
  good row.array t p o (and i (and low (and m (and high (and c (and f (and n none))))))) =
      g.array (g.it_is t p) i low m high c f n
  good row.fields t p o (and n (and ns (and c (and k (and gs none))))) =
      g.fields (g.it_is t p) (g.group (g.names n ns) c k) gs
  good row.channel t p o (and i (and n (and ns (and c none)))) = g.channel (g.it_is t p) i (g.names n ns) c
  good row.fields_end t p o none = g.fields_end (g.it_is t p)
  good row.fields_go_on t p o (and f none) = f (t ∷ _) (g.it_is t p)
  good row.no_field t p o none = λ us i. g.last_field i (g.it_is t p)
  good row.next_field t p o (and ns (and c (and k (and gs none)))) =
      λ us i. g.fields_go_on i (g.group (g.names (g.name t p) ns) c k) gs
  good row.by_value t p o (and ns (and c (and k none))) = g.by_value (g.group (g.names (g.name t p) ns) c k)
  good row.by_reference t p o (and n (and ns (and c (and k none)))) =
      g.by_reference (g.it_is t p) (g.group (g.names n ns) c k)
  good row.formals_end t p o none = g.formals_end (g.it_is t p)
  good row.next_formal t p o (and f (and fs none)) = g.formals_go_on (g.it_is t p) f fs
  good row.formals t p o (and f (and fs none)) = g.formals (g.it_is t p) f fs
  good (row.block c) t p o h = g.block o (of_parts c t p h)
  good (row.parts c) t p o h = of_parts c t p h
  good (row.after_constants c) t p o h = g.constants_end (of_parts c t p h)
  good row.next_constant t p o (and e (and c (and s (and b none)))) =
      g.constants_go_on (g.constant_part (g.name t p) e c s) b
  good (row.after_types c) t p o h = g.types_end (of_parts c t p h)
  good row.next_type t p o (and e (and c (and s (and b none)))) = g.types_go_on (g.type_part (g.name t p) e c s) b
  good (row.after_variables c) t p o h = g.variables_end (of_parts c t p h)
  good row.next_variable t p o (and ns (and c (and k (and s (and b none))))) =
      g.variables_go_on (g.variable_part (g.group (g.names (g.name t p) ns) c k) s) b
  good (row.statement c) t p o h = g.statement t o (of_form c t p h)
  good row.becomes t p o (and e none) = λ us n i. g.assignment (g.variable i g.selectors_end) (g.it_is t p) e
  good (row.target {d = d} {l = l} c) t p {vs = vs} o h =
      let i = split_all l (sym.AToken w.Becomes ∷ sym.AnExpression d ∷ []) h in
      λ us n j. after_selectors d (selector_value text c t
      (split l (sym.AToken w.Becomes ∷ sym.AnExpression d ∷ []) vs).0) j (of_selector c t p i.1) i.2
  good row.call t p o (and e (and m (and a none))) = λ us n i. g.call i (g.arguments (g.it_is t p) (g.argument e m) a)
  good row.other t p o (and s none) = g.other (g.it_is t p) s
  good row.next_statement t p o (and s (and ss none)) = g.statements_go_on (g.it_is t p) (g.sequence s ss)
  good row.branches_end t p o none = g.branches_end (g.it_is t p)
  good row.next_branch t p o (and s (and ss (and bs none))) =
      g.branches_go_on (g.it_is t p) (g.branches (g.sequence s ss) bs)
  good row.labels_end t p o none = g.labels_end (g.it_is t p)
  good row.next_label t p o (and c (and cs none)) = g.labels_go_on (g.it_is t p) (g.labels c cs)
  good row.arms_end t p o none = g.arms_end (g.it_is t p)
  good row.arms_go_on t p o (and f none) = f (t ∷ _) (g.it_is t p)
  good row.no_arm t p o none = λ us i. g.last_arm i (g.it_is t p)
  good (row.next_arm {d = d} {l = l} c) t p {vs = vs} o h =
      let i = split_all l (sym.MoreLabels ∷ sym.AStatement d ∷ sym.MoreArms d ∷ []) h in
      λ us j. after_constant d (constant_value text c t
      (split l (sym.MoreLabels ∷ sym.AStatement d ∷ sym.MoreArms d ∷ []) vs).0) j (of_constant c t p i.1) i.2
  good row.upward t p o none = g.upward (g.it_is t p)
  good row.downward t p o none = g.downward (g.it_is t p)
  good (row.expression {d = d} {l = l} c) t p {vs = vs} o h =
      let i = split_all l (sym.ARelation (suc d) ∷ []) h in
      after_simple d (simple_value text c t (split l (sym.ARelation (suc d) ∷ []) vs).0) o (of_simple c t p i.1) i.2
  good (row.relation c) t p o (and b none) = λ a. g.relation c (g.it_is t p) b
  good (row.simple c) t p o h = of_simple c t p h
  good (row.next_term c) t p o (and b (and f none)) = λ a. g.terms_go_on c (g.it_is t p) b (f _)
  good (row.term {d = d} {l = l} c) t p {vs = vs} o h =
      let i = split_all l (sym.MoreFactors d ∷ []) h in
      after_term_factor d (factor_value text c t (split l (sym.MoreFactors d ∷ []) vs).0) (of_factor c t p i.1) i.2
  good (row.next_factor c) t p o (and b (and f none)) = λ a. g.factors_go_on c (g.it_is t p) b (f _)
  good (row.factor c) t p o h = of_factor c t p h
  good (row.negated c) t p o h = (o, of_factor c t p h)
  good row.arguments t p o (and e (and m (and a none))) =
      λ u us n i. g.call_factor i (g.arguments (g.it_is t p) (g.argument e m) a)
  good (row.reference c) t p o h = λ u us n i. g.variable_factor (g.variable i (of_selector c t p h))
  good (row.selector c) t p o h = of_selector c t p h
  good row.indices_end t p o (and ss none) = g.indices_end (g.it_is t p) ss
  good row.next_index t p o (and e (and ss none)) = g.indices_go_on (g.it_is t p) e ss
  good row.arguments_end t p o none = g.arguments_end (g.it_is t p)
  good row.next_argument t p o (and e (and m (and a none))) = g.arguments_go_on (g.it_is t p) (g.argument e m) a
  good row.width t p o (and e none) = g.width (g.it_is t p) e

  -- a symbol that stands for nothing
  abbrev pub AtGap : {V : Type 0} → (V → Type 0) → Option V → Type 0
  AtGap Q None = Unit {0}
  AtGap Q (Some v) = Q v

  pub passed : (s : Symbol) (t : Token) (r : List Token) → look (rows s) t.kind ≡ None
      → AtGap (Means text Ok s (t ∷ r) (t ∷ r)) (gap s t)
  passed sym.AHeading t r h = g.no_heading
  passed sym.MoreNames t r h = g.names_end
  passed sym.Formals t r h = g.no_formals
  passed (sym.AStatement d) t r h = g.empty t
  passed (sym.AfterName d) t r h = λ us n i. g.plain_call i
  passed (sym.AnElse d) t r h = g.no_else (λ p. some_is_not_none (look (rows (sym.AnElse d)) t.kind)
      (ap (look (rows (sym.AnElse d))) p) h)
  passed (sym.MoreStatements d) t r h = g.statements_end
  passed (sym.ARelation d) t r h = λ a. g.no_relation
  passed (sym.MoreTerms d) t r h = λ a. g.terms_end
  passed (sym.MoreFactors d) t r h = λ a. g.factors_end
  passed (sym.AReference d) t r h = λ u us n i. g.variable_factor (g.variable i g.selectors_end)
  passed (sym.Selectors d) t r h = g.selectors_end
  passed (sym.AWidth d) t r h = g.no_width
  passed s t r h = tt

  mutual
    pub from : {s : Symbol} {ts r : List Token} {v : Value s} → Derives text Ok s ts r v → Means text Ok s ts r v
    from {s} (takes t e q o x) = good e.row t (found (rows s) t.kind e q) o (from_all x)
    from {s} (skips {r = r} t q h) = subst (AtGap (Means text Ok s (t ∷ r) (t ∷ r))) h (passed s t r q)

    pub from_all : {l : List Symbol} {ts r : List Token} {vs : Values l} → DerivesAll text Ok l ts r vs
        → MeansAll text Ok l ts r vs
    from_all d.none = none
    from_all (d.and x xs) = and (from x) (from_all xs)
