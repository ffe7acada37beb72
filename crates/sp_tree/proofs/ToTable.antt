-- What is in the grammar is derived by the table, where what is behind it does not go on with it.
use Rattle.std.proofs.Common.{◌≡◌, ◌≢◌, ℕ, suc, Bool, true, false, cond, ◌==◌, List, [], ◌∷◌, ◌++◌, Some, None, refl}
use Rattle.std.proofs.Common.{sym as back_of, subst, ap, ◌∙◌}
use borrow.Author.Tests.{eqb-true}
use Rattle.sp_tree.specs.declared.token.Token.{Token}
use Rattle.sp_tree.specs.declared.token.Kind.{Kind}
use Rattle.sp_tree.specs.declared.token.Kind.TheVariants as kind
use Rattle.sp_tree.specs.declared.syntax.Name.{Name}
use Rattle.sp_tree.specs.declared.syntax.SynConst.{SynConst}
use Rattle.sp_tree.specs.declared.syntax.SynValue.{SynValue}
use Rattle.sp_tree.specs.declared.syntax.SynKind.{SynKind}
use Rattle.sp_tree.specs.declared.syntax.SynFormal.{SynFormal}
use Rattle.sp_tree.specs.declared.syntax.SynGroup.{SynGroup}
use Rattle.sp_tree.specs.Words as w
use Rattle.sp_tree.specs.PlainSyntax as tree
use Rattle.sp_tree.specs.Grammar as g
use Rattle.sp_tree.specs.Symbols as sym
use Rattle.sp_tree.specs.Symbols.{Symbol, Value, Values, split, part}
use Rattle.sp_tree.specs.Table as row
use Rattle.sp_tree.specs.Table.{ConstantRow, PartsRow, SelectorRow, FactorRow, SimpleRow, Row, row_entry, rows, look}
use Rattle.sp_tree.specs.Table.{gap, build, constant_value, parts_value, selector_value, factor_value, simple_value}
use Rattle.sp_tree.specs.Derives.{PartMayBegin, Derives, takes, skips, DerivesAll, none, and}
use Rattle.sp_tree.proofs.Behind.{EndsExpression, EndsFactor, EndsSimple, EndsStatement, EndsTerm, TakesNone}
use Rattle.sp_tree.proofs.Behind.{ended_bar, ended_else, ended_end, ended_semicolon, ended_until, ends}
use Rattle.sp_tree.proofs.Behind.{ends_by_close, ends_by_closeindex, ends_by_colon, ends_by_comma, ends_by_do}
use Rattle.sp_tree.proofs.Behind.{ends_by_downto, ends_by_of, ends_by_then, ends_by_to, factor_ends_by_multiplying}
use Rattle.sp_tree.proofs.Behind.{simple_ends_by_relational, term_ends_by_adding}
use Rattle.sp_tree.proofs.Looks.{look_adding, look_after_constants, look_after_types, look_after_variables, look_arm}
use Rattle.sp_tree.proofs.Looks.{look_block, look_constant, look_expression, look_factor, look_multiplying}
use Rattle.sp_tree.proofs.Looks.{look_negated, look_parts, look_relation, look_simple, look_target, look_term}

word_looks : (d n : ℕ) → kind.Word n ≢ w.Else → (b : Bool) → (9 == n) ≡ b
    → look (rows (sym.AnElse d)) (kind.Word n) ≡ None
word_looks d n h true q = absurd (h (ap kind.Word (back_of (eqb-true 9 n q))))
word_looks d n h false q = ap (λ b. cond b (Some (row_entry _ _ row.other)) None) q

-- values one after another
pub join : (l m : List Symbol) → Values l → Values m → Values (l ++ m)
join [] m vs us = us
join (s ∷ l) m vs us = (vs.0, join l m vs.1 us)

split_join : (l m : List Symbol) (vs : Values l) (us : Values m) → split l m (join l m vs us) ≡ (vs, us)
unfolding join
split_join [] m vs us = refl
split_join (s ∷ l) m vs us = ap (λ p. ((vs.0, p.0), p.1)) (split_join l m vs.1 us)

module _ (text : List ℕ) (Ok : ℕ → List Token → Type 0) where
  abbrev pub D : (s : Symbol) → List Token → List Token → Value s → Type 0
  D = Derives text Ok

  abbrev pub DerivesList : (l : List Symbol) → List Token → List Token → Values l → Type 0
  DerivesList = DerivesAll text Ok

  pub join_all : (l m : List Symbol) {ts u r : List Token} {vs : Values l} {us : Values m} → DerivesList l ts u vs
      → DerivesList m u r us → DerivesList (l ++ m) ts r (join l m vs us)
  unfolding join
  join_all [] m none b = b
  join_all (s ∷ l) m (and x a) b = and x (join_all l m a b)

  -- a symbol takes this token by this row
  pub take : {s : Symbol} {k : Kind} {l : List Symbol} (c : Row s k l) → look (rows s) k ≡ Some (row_entry k l c)
      → (t : Token) → t.kind ≡ k → {ts r : List Token} {vs : Values l} → PartMayBegin Ok (part s) (t ∷ ts)
      → DerivesList l ts r vs
      → D s (t ∷ ts) r (build text c t vs)
  take {s} {k} {l} c h t p o x = takes t (row_entry k l c) (ap (look (rows s)) p ∙ h) o x

  pub skip : {s : Symbol} {r : List Token} {v : Value s} → TakesNone s r → ((t : Token) → gap s t ≡ Some v) → D s r r v
  skip {r = []} h f = absurd h
  skip {r = t ∷ r} h f = skips t h (f t)

  pub token : {k : Kind} → look (rows (sym.AToken k)) k ≡ Some (row_entry k [] row.token) → {ts r : List Token}
      → g.Is k ts r → D (sym.AToken k) ts r tt
  token h (g.it_is t p) = take row.token h t p tt none

  pub name : {ts r : List Token} {n : Name} → g.IsName text ts r n → D sym.AName ts r n
  name (g.name t p) = take row.name refl t p tt none

  -- after a name
  pub more_names : {ts r : List Token} {ns : List Name} → g.IsMoreNames text ts r ns → TakesNone sym.MoreNames r
      → D sym.MoreNames ts r ns
  more_names g.names_end h = skip h (λ t. refl)
  more_names (g.names_go_on (g.it_is t p) (g.names n ns)) h =
      take row.next_name refl t p tt (and (name n) (and (more_names ns h) none))

  pub value : {ts r : List Token} {v : SynValue} → g.IsValue text ts r v → D sym.AValue ts r v
  value (g.number_value t p) = take row.value_number refl t p tt none
  value (g.name_value t p) = take row.value_name refl t p tt none

  -- the row of a part and what it leaves
  pub data Constant : List Token → List Token → SynConst → Type 0 where
    begins : {k : Kind} {l : List Symbol} {ts r : List Token} {vs : Values l} (c : ConstantRow k l) (t : Token)
        → t.kind ≡ k → DerivesList l ts r vs → Constant (t ∷ ts) r (constant_value text c t vs)

  pub constant_row : {ts r : List Token} {c : SynConst} → g.IsConstant text ts r c → Constant ts r c
  constant_row (g.unsigned (g.number_value t p)) = begins row.constant_number t p none
  constant_row (g.unsigned (g.name_value t p)) = begins row.constant_name t p none
  constant_row (g.positive t p v) = begins row.constant_plus t p (and (value v) none)
  constant_row (g.negative t p v) = begins row.constant_minus t p (and (value v) none)
  constant_row (g.quoted t p) = begins row.constant_text t p none

  pub as_constant : {ts r : List Token} {c : SynConst} → Constant ts r c → D sym.AConstant ts r c
  as_constant (begins c t p x) = take (row.constant c) (look_constant 0 c) t p tt x

  pub constant : {ts r : List Token} {c : SynConst} → g.IsConstant text ts r c → D sym.AConstant ts r c
  constant c = as_constant (constant_row c)

  pub colon_ends : {ts r : List Token} → g.Is w.Colon ts r → TakesNone sym.MoreNames ts
  colon_ends i = ends sym.MoreNames w.Colon refl i

  pub close_ends : {ts r : List Token} → g.Is w.Close ts r → TakesNone sym.MoreNames ts
  close_ends i = ends sym.MoreNames w.Close refl i

  pub more_fields : {ts r : List Token} {gs : List SynGroup} → g.IsMoreFields text ts r gs → D sym.MoreFields ts r gs
  more_fields (g.fields_end (g.it_is t p)) = take row.fields_end refl t p tt none
  more_fields (g.last_field (g.it_is t p) (g.it_is e q)) =
      take row.fields_go_on refl t p tt (and (take row.no_field refl e q tt none) none)
  more_fields (g.fields_go_on (g.it_is t p) (g.group (g.names (g.name n q) ns) c k) gs) =
      take row.fields_go_on refl t p tt (and
      (take row.next_field refl n q tt (and (more_names ns (colon_ends c))
      (and (token refl c) (and (name k) (and (more_fields gs) none))))) none)

  pub type_of : {ts r : List Token} {k : SynKind} → g.IsType text ts r k → D sym.AType ts r k
  type_of (g.alias (g.name t p)) = take row.alias refl t p tt none
  type_of (g.enumeration (g.it_is t p) (g.names n ns) c) =
      take row.enumeration refl t p tt (and (name n) (and (more_names ns (close_ends c)) (and (token refl c) none)))
  type_of (g.array (g.it_is t p) i low m high c f n) =
      take row.array refl t p tt (and (token refl i)
      (and (constant low) (and (token refl m)
      (and (constant high) (and (token refl c) (and (token refl f) (and (name n) none)))))))
  type_of (g.fields (g.it_is t p) (g.group (g.names n ns) c k) gs) =
      take row.fields refl t p tt (and (name n)
      (and (more_names ns (colon_ends c)) (and (token refl c) (and (name k) (and (more_fields gs) none)))))
  type_of (g.channel (g.it_is t p) o (g.names n ns) c) =
      take row.channel refl t p tt (and (token refl o)
      (and (name n) (and (more_names ns (close_ends c)) (and (token refl c) none))))

  pub formal : {ts r : List Token} {f : SynFormal} → g.IsFormal text ts r f → D sym.AFormal ts r f
  formal (g.by_value (g.group (g.names (g.name t p) ns) c k)) =
      take row.by_value refl t p tt (and (more_names ns (colon_ends c)) (and (token refl c) (and (name k) none)))
  formal (g.by_reference (g.it_is t p) (g.group (g.names n ns) c k)) =
      take row.by_reference refl t p tt (and (name n)
      (and (more_names ns (colon_ends c)) (and (token refl c) (and (name k) none))))

  pub more_formals : {ts r : List Token} {fs : List SynFormal} → g.IsMoreFormals text ts r fs
      → D sym.MoreFormals ts r fs
  more_formals (g.formals_end (g.it_is t p)) = take row.formals_end refl t p tt none
  more_formals (g.formals_go_on (g.it_is t p) f fs) =
      take row.next_formal refl t p tt (and (formal f) (and (more_formals fs) none))

  pub formals : {ts r : List Token} {fs : List SynFormal} → g.IsFormals text ts r fs → TakesNone sym.Formals r
      → D sym.Formals ts r fs
  formals g.no_formals h = skip h (λ t. refl)
  formals (g.formals (g.it_is t p) f fs) h = take row.formals refl t p tt (and (formal f) (and (more_formals fs) none))

  pub heading : {ts r : List Token} {ns : List Name} → g.IsHeading text ts r ns → TakesNone sym.AHeading r
      → D sym.AHeading ts r ns
  heading g.no_heading h = skip h (λ t. refl)
  heading (g.heading (g.it_is t p) (g.names n ns) c) h =
      take row.heading refl t p tt (and (name n) (and (more_names ns (close_ends c)) (and (token refl c) none)))

  pub record RelationFrom (d : ℕ) (a : tree.Expression) (ts r : List Token) (x : tree.Expression) : Type 0 where
    f : tree.Expression → tree.Expression
    is : D (sym.ARelation d) ts r f
    gives : f a ≡ x

  pub record TermsFrom (d : ℕ) (a : tree.Expression) (ts r : List Token) (x : tree.Expression) : Type 0 where
    f : tree.Expression → tree.Expression
    is : D (sym.MoreTerms d) ts r f
    gives : f a ≡ x

  pub record FactorsFrom (d : ℕ) (a : tree.Expression) (ts r : List Token) (x : tree.Expression) : Type 0 where
    f : tree.Expression → tree.Expression
    is : D (sym.MoreFactors d) ts r f
    gives : f a ≡ x

  pub data Factor (d : ℕ) : List Token → List Token → tree.Expression → Type 0 where
    factor_begins : {k : Kind} {l : List Symbol} {ts r : List Token} {vs : Values l} (c : FactorRow d k l) (t : Token)
        → t.kind ≡ k → DerivesList l ts r vs → Factor d (t ∷ ts) r (factor_value text c t vs)

  pub data Simple (d : ℕ) : List Token → List Token → tree.Expression → Type 0 where
    simple_begins : {k : Kind} {l : List Symbol} {ts r : List Token} {vs : Values l} (c : SimpleRow d k l) (t : Token)
        → t.kind ≡ k → DerivesList l ts r vs → Simple d (t ∷ ts) r (simple_value text c t vs)

  pub as_factor : {d : ℕ} {ts r : List Token} {x : tree.Expression} → Factor d ts r x → D (sym.AFactor d) ts r x
  as_factor {d} (factor_begins c t p x) = take (row.factor c) (look_factor d c) t p tt x

  pub as_negated : {d : ℕ} {ts r : List Token} {x : tree.Expression} → Ok d ts → Factor (suc d) ts r x
      → D (sym.ANegated d) ts r x
  as_negated {d} ok (factor_begins c t p x) = take (row.negated c) (look_negated d c) t p ok x

  -- a factor and the further ones
  pub as_term : {d : ℕ} {ts u r : List Token} {a x : tree.Expression} → Factor d ts u a → FactorsFrom d a u r x
      → D (sym.ATerm d) ts r x
  as_term {d} {r = r} (factor_begins {l = l} {ts = ts} {vs = vs} c t p x) m =
      let f = m.f in
      subst (D (sym.ATerm d) (t ∷ ts) r) (ap (λ (own, (factors, _)). factors (factor_value text c t own))
      (split_join l (sym.MoreFactors d ∷ []) vs (f, tt)) ∙ m.gives)
      (take (row.term c) (look_term d c) t p tt (join_all l (sym.MoreFactors d ∷ []) x (and m.is none)))

  -- and further terms
  pub as_terms : {d : ℕ} {ts u v r : List Token} {a b x : tree.Expression} → Factor d ts u a → FactorsFrom d a u v b
      → TermsFrom d b v r x → Simple d ts r x
  as_terms {d} {r = r} (factor_begins {l = l} {ts = ts} {vs = vs} c t p x) m n =
      subst (Simple d (t ∷ ts) r) (ap (λ (own, (factors, (terms, _))). terms (factors (factor_value text c t own)))
      (split_join l (sym.MoreFactors d ∷ sym.MoreTerms d ∷ []) vs (m.f, (n.f, tt))) ∙ ap n.f m.gives ∙ n.gives)
      (simple_begins (row.simple_factor c) t p
      (join_all l (sym.MoreFactors d ∷ sym.MoreTerms d ∷ []) x (and m.is (and n.is none))))

  pub as_simple : {d : ℕ} {ts r : List Token} {x : tree.Expression} → Simple d ts r x → D (sym.ASimple d) ts r x
  as_simple {d} (simple_begins c t p x) = take (row.simple c) (look_simple d c) t p tt x

  pub as_expression : {d : ℕ} {ts u r : List Token} {a x : tree.Expression} → Ok d ts → Simple (suc d) ts u a
      → RelationFrom (suc d) a u r x → D (sym.AnExpression d) ts r x
  as_expression {d} {r = r} ok (simple_begins {l = l} {ts = ts} {vs = vs} c t p x) m =
      subst (D (sym.AnExpression d) (t ∷ ts) r)
      (ap (λ (own, (comparison, _)). comparison (simple_value text c t own))
      (split_join l (sym.ARelation (suc d) ∷ []) vs (m.f, tt)) ∙ m.gives)
      (take (row.expression c) (look_expression d c) t p ok (join_all l (sym.ARelation (suc d) ∷ []) x (and m.is none)))

  -- what stands before a tail
  pub simple_ends_by : {d : ℕ} {a x : tree.Expression} {ts r : List Token} → g.IsRelation text Ok d a ts r x
      → EndsExpression r
      → EndsSimple ts
  simple_ends_by g.no_relation q = q.simple
  simple_ends_by (g.relation c i s) q = simple_ends_by_relational c i

  pub term_ends_by : {d : ℕ} {a x : tree.Expression} {ts r : List Token} → g.IsMoreTerms text Ok d a ts r x
      → EndsSimple r → EndsTerm ts
  term_ends_by g.terms_end q = q.term
  term_ends_by (g.terms_go_on c i s m) q = term_ends_by_adding c i

  pub factor_ends_by : {d : ℕ} {a x : tree.Expression} {ts r : List Token} → g.IsMoreFactors text Ok d a ts r x
      → EndsTerm r → EndsFactor ts
  factor_ends_by g.factors_end q = q.factor
  factor_ends_by (g.factors_go_on c i s m) q = factor_ends_by_multiplying c i

  pub ends_by_width : {d : ℕ} {m : tree.Width} {ts r : List Token} → g.IsWidth text Ok d ts r m → EndsExpression r
      → EndsExpression ts
  ends_by_width g.no_width q = q
  ends_by_width (g.width i x) q = ends_by_colon i

  pub ends_by_indices : {d : ℕ} {ss : tree.Selectors} {ts r : List Token} → g.IsMoreIndices text Ok d ts r ss
      → EndsExpression ts
  ends_by_indices (g.indices_end i ss) = ends_by_closeindex i
  ends_by_indices (g.indices_go_on i x ss) = ends_by_comma i

  pub ends_by_arguments : {d : ℕ} {rest : tree.Arguments} {ts r : List Token} → g.IsMoreArguments text Ok d ts r rest
      → EndsExpression ts
  ends_by_arguments (g.arguments_end i) = ends_by_close i
  ends_by_arguments (g.arguments_go_on i a rest) = ends_by_comma i

  pub arguments_width : (d : ℕ) {e : ℕ} {rest : tree.Arguments} {ts r : List Token}
      → g.IsMoreArguments text Ok e ts r rest → TakesNone (sym.AWidth d) ts
  arguments_width d (g.arguments_end i) = ends (sym.AWidth d) w.Close refl i
  arguments_width d (g.arguments_go_on i a rest) = ends (sym.AWidth d) w.Comma refl i

  mutual
    pub expression : {d : ℕ} {ts r : List Token} {x : tree.Expression} → g.IsExpression text Ok d ts r x
        → EndsExpression r
        → D (sym.AnExpression d) ts r x
    expression (g.expression ok s m) q = as_expression ok (simple s (simple_ends_by m q)) (relates m q)

    pub relates : {d : ℕ} {a x : tree.Expression} {ts r : List Token} → g.IsRelation text Ok d a ts r x
        → EndsExpression r
        → RelationFrom d a ts r x
    relates {d} g.no_relation q = record { f = λ a. a; is = skip (q.relation d) (λ t. refl); gives = refl }
    relates {d} {a} (g.relation {b = b} {o = o} c (g.it_is t p) s) q =
        record {
          f = λ a. g.binary_at_left o a b;
          is =
              take (row.relation c) (look_relation d c) t p tt (and (as_simple (simple s q.simple)) none);
          gives = refl;
        }

    pub simple : {d : ℕ} {ts r : List Token} {x : tree.Expression} → g.IsSimple text Ok d ts r x → EndsSimple r
        → Simple d ts r x
    simple (g.simple (g.term f m) n) q = as_terms (factor f (factor_ends_by m (term_ends_by n q)))
        (multiplies m (term_ends_by n q)) (adds n q)
    simple {d} {r = r} (g.after_plus {ts = ts} t p a n) q = let m = adds n q in
        subst (Simple d (t ∷ ts) r) m.gives (simple_begins row.simple_plus t p
        (and (term a (term_ends_by n q)) (and m.is none)))
    simple {d} {r = r} (g.after_minus {ts = ts} t p a n) q = let m = adds n q in
        subst (Simple d (t ∷ ts) r) m.gives (simple_begins row.simple_minus t p
        (and (term a (term_ends_by n q)) (and m.is none)))

    pub adds : {d : ℕ} {a x : tree.Expression} {ts r : List Token} → g.IsMoreTerms text Ok d a ts r x → EndsSimple r
        → TermsFrom d a ts r x
    adds {d} g.terms_end q = record { f = λ a. a; is = skip (q.terms d) (λ t. refl); gives = refl }
    adds {d} (g.terms_go_on {b = b} {o = o} c (g.it_is t p) s n) q = let m = adds n q in let h = m.f in
        record {
          f = λ a. h (g.binary_at_left o a b);
          is = take (row.next_term c) (look_adding d c) t p tt (and (term s (term_ends_by n q)) (and m.is none));
          gives = m.gives;
        }

    pub term : {d : ℕ} {ts r : List Token} {x : tree.Expression} → g.IsTerm text Ok d ts r x → EndsTerm r
        → D (sym.ATerm d) ts r x
    term (g.term f m) q = as_term (factor f (factor_ends_by m q)) (multiplies m q)

    pub multiplies : {d : ℕ} {a x : tree.Expression} {ts r : List Token} → g.IsMoreFactors text Ok d a ts r x
        → EndsTerm r → FactorsFrom d a ts r x
    multiplies {d} g.factors_end q = record { f = λ a. a; is = skip (q.factors d) (λ t. refl); gives = refl }
    multiplies {d} (g.factors_go_on {b = b} {o = o} c (g.it_is t p) s n) q = let m = multiplies n q in let h = m.f in
        record {
          f = λ a. h (g.binary_at_left o a b);
          is = take (row.next_factor c) (look_multiplying d c) t p tt
              (and (as_factor (factor s (factor_ends_by n q))) (and m.is none));
          gives = m.gives;
        }

    pub factor : {d : ℕ} {ts r : List Token} {x : tree.Expression} → g.IsFactor text Ok d ts r x → EndsFactor r
        → Factor d ts r x
    factor (g.number t p) q = factor_begins row.factor_number t p none
    factor (g.text_factor t p) q = factor_begins row.factor_text t p none
    factor {d} (g.variable_factor (g.variable (g.name t p) g.selectors_end)) q =
        factor_begins row.factor_name t p (and (skip (q.reference d) (λ t. refl)) none)
    factor {d} (g.variable_factor (g.variable (g.name t p) (g.index (g.it_is o s) x ss))) q =
        factor_begins row.factor_name t p (and
        (take (row.reference row.selector_index) refl o s tt
        (and (expression x (ends_by_indices ss)) (and (indices ss q.selectors) none))) none)
    factor {d} (g.variable_factor (g.variable (g.name t p) (g.field (g.it_is o s) n ss))) q =
        factor_begins row.factor_name t p (and
        (take (row.reference row.selector_field) refl o s tt (and (name n) (and (selectors ss q.selectors) none))) none)
    factor {d} (g.call_factor (g.name t p) (g.arguments (g.it_is o s) (g.argument x m) rest)) q =
        factor_begins row.factor_name t p (and
        (take row.arguments refl o s tt (and (expression x (ends_by_width m (ends_by_arguments rest)))
        (and (width m (ends_by_arguments rest) (arguments_width d rest)) (and (arguments rest) none)))) none)
    factor (g.in_parentheses t p x c) q = factor_begins row.factor_open t p
        (and (expression x (ends_by_close c)) (and (token refl c) none))
    factor (g.negated t p ok x) q = factor_begins row.factor_not t p (and (as_negated ok (factor x q)) none)

    pub selectors : {d : ℕ} {ts r : List Token} {ss : tree.Selectors} → g.IsSelectors text Ok d ts r ss
        → ((d : ℕ) → TakesNone (sym.Selectors d) r) → D (sym.Selectors d) ts r ss
    selectors {d} g.selectors_end q = skip (q d) (λ t. refl)
    selectors (g.index (g.it_is o s) x ss) q =
        take (row.selector row.selector_index) refl o s tt
        (and (expression x (ends_by_indices ss)) (and (indices ss q) none))
    selectors (g.field (g.it_is o s) n ss) q =
        take (row.selector row.selector_field) refl o s tt (and (name n) (and (selectors ss q) none))

    pub indices : {d : ℕ} {ts r : List Token} {ss : tree.Selectors} → g.IsMoreIndices text Ok d ts r ss
        → ((d : ℕ) → TakesNone (sym.Selectors d) r) → D (sym.MoreIndices d) ts r ss
    indices (g.indices_end (g.it_is t p) ss) q = take row.indices_end refl t p tt (and (selectors ss q) none)
    indices (g.indices_go_on (g.it_is t p) x ss) q =
        take row.next_index refl t p tt (and (expression x (ends_by_indices ss)) (and (indices ss q) none))

    pub arguments : {d : ℕ} {ts r : List Token} {rest : tree.Arguments} → g.IsMoreArguments text Ok d ts r rest
        → D (sym.MoreArguments d) ts r rest
    arguments (g.arguments_end (g.it_is t p)) = take row.arguments_end refl t p tt none
    arguments {d} (g.arguments_go_on (g.it_is t p) (g.argument x m) rest) =
        take row.next_argument refl t p tt (and (expression x (ends_by_width m (ends_by_arguments rest)))
        (and (width m (ends_by_arguments rest) (arguments_width d rest)) (and (arguments rest) none)))

    pub width : {d : ℕ} {ts r : List Token} {m : tree.Width} → g.IsWidth text Ok d ts r m → EndsExpression r
        → TakesNone (sym.AWidth d) r → D (sym.AWidth d) ts r m
    width g.no_width q h = skip h (λ t. refl)
    width (g.width (g.it_is t p) x) q h = take row.width refl t p tt (and (expression x q) none)

  -- statements
  pub labels_to : {ts r : List Token} {cs : List SynConst} → g.IsMoreLabels text Ok ts r cs → D sym.MoreLabels ts r cs
  labels_to (g.labels_end (g.it_is t p)) = take row.labels_end refl t p tt none
  labels_to (g.labels_go_on (g.it_is t p) (g.labels c cs)) =
      take row.next_label refl t p tt (and (constant c) (and (labels_to cs) none))

  pub direction : {ts r : List Token} {b : _} → g.IsDirection text Ok ts r b → D sym.ADirection ts r b
  direction (g.upward (g.it_is t p)) = take row.upward refl t p tt none
  direction (g.downward (g.it_is t p)) = take row.downward refl t p tt none

  pub ends_by_direction : {ts r : List Token} {b : _} → g.IsDirection text Ok ts r b → EndsExpression ts
  ends_by_direction (g.upward i) = ends_by_to i
  ends_by_direction (g.downward i) = ends_by_downto i

  pub else_ended : {d : ℕ} {ts r : List Token} {o : tree.ElsePart} → g.IsElse text Ok d ts r o → EndsStatement r
      → EndsStatement ts
  else_ended (g.no_else h) q = q
  else_ended (g.other i s) q = ended_else i

  pub statements_ended : {d : ℕ} {ts r : List Token} {ss : tree.Statements} → g.IsMoreStatements text Ok d ts r ss
      → EndsStatement r → EndsStatement ts
  statements_ended g.statements_end q = q
  statements_ended (g.statements_go_on i ss) q = ended_semicolon i

  pub arms_ended : {d : ℕ} {ts r : List Token} {rest : tree.Arms} → g.IsMoreArms text Ok d ts r rest → EndsStatement ts
  arms_ended (g.arms_end i) = ended_end i
  arms_ended (g.last_arm i e) = ended_semicolon i
  arms_ended (g.arms_go_on i a rest) = ended_semicolon i

  pub branches_ended : {d : ℕ} {ts r : List Token} {bs : tree.Branches} → g.IsMoreBranches text Ok d ts r bs
      → EndsStatement ts
  branches_ended (g.branches_end i) = ended_end i
  branches_ended (g.branches_go_on i bs) = ended_bar i

  pub branches_statements : (d : ℕ) {e : ℕ} {ts r : List Token} {bs : tree.Branches}
      → g.IsMoreBranches text Ok e ts r bs → TakesNone (sym.MoreStatements d) ts
  branches_statements d (g.branches_end i) = ends (sym.MoreStatements d) w.End refl i
  branches_statements d (g.branches_go_on i bs) = ends (sym.MoreStatements d) w.Bar refl i

  pub else_looks : (d : ℕ) (k : Kind) → k ≢ w.Else → look (rows (sym.AnElse d)) k ≡ None
  else_looks d (kind.Word n) h = word_looks d n h (9 == n) refl
  else_looks _ _ _ = refl

  pub else_ends : (d : ℕ) (r : List Token) → g.Lacks w.Else r → EndsStatement r → TakesNone (sym.AnElse d) r
  else_ends d [] h q = q.statement 0
  else_ends d (t ∷ r) h q = else_looks d t.kind h

  -- a target with selectors
  pub as_target : {d : ℕ} {ts u v r : List Token} {x : tree.Expression} {k : Kind} {l : List Symbol} {vs : Values l}
      (c : SelectorRow d k l) (t : Token) → t.kind ≡ k → DerivesList l ts u vs → g.Is w.Becomes u v
      → D (sym.AnExpression d) v r x → D (sym.AfterName d) (t ∷ ts) r
      (λ n. tree.Assign (tree.Entire n (selector_value text c t vs)) x)
  as_target {d} {ts} {r = r} {x = x} {l = l} {vs = vs} c t p a b e =
      subst (D (sym.AfterName d) (t ∷ ts) r)
      (ap (λ (own, (_, (e, _))). λ n. tree.Assign (tree.Entire n (selector_value text c t own)) e)
      (split_join l (sym.AToken w.Becomes ∷ sym.AnExpression d ∷ []) vs (tt, (x, tt))))
      (take (row.target c) (look_target d c) t p tt
      (join_all l (sym.AToken w.Becomes ∷ sym.AnExpression d ∷ []) a (and (token refl b) (and e none))))

  pub becomes_ends : {ts r : List Token} → g.Is w.Becomes ts r → (d : ℕ) → TakesNone (sym.Selectors d) ts
  becomes_ends i d = ends (sym.Selectors d) w.Becomes refl i

  pub as_arm : {d : ℕ} {ts u v x r : List Token} {c : SynConst} {cs : List SynConst} {s : tree.Statement}
      {m : tree.Arms} → Constant ts u c → D sym.MoreLabels u v cs → D (sym.AStatement d) v x s
      → D (sym.MoreArms d) x r m → D (sym.ArmOrEnd d) ts r (tree.Or (tree.On (c ∷ cs) s) m)
  as_arm {d} {r = r} {cs = cs} {s = s} {m = m} (begins {l = l} {ts = ts} {vs = vs} c t p a) x y z =
      subst (D (sym.ArmOrEnd d) (t ∷ ts) r) (ap
      (λ (own, (labels, (s, (arms, _)))). tree.Or (tree.On (constant_value text c t own ∷ labels) s) arms)
      (split_join l (sym.MoreLabels ∷ sym.AStatement d ∷ sym.MoreArms d ∷ []) vs (cs, (s, (m, tt)))))
      (take (row.next_arm c) (look_arm d c) t p tt
      (join_all l (sym.MoreLabels ∷ sym.AStatement d ∷ sym.MoreArms d ∷ []) a (and x (and y (and z none)))))

  mutual
    pub statement : {d : ℕ} {ts r : List Token} {s : tree.Statement} → g.IsStatement text Ok d ts r s → EndsStatement r
        → D (sym.AStatement d) ts r s
    statement {d} (g.empty t) q = skips t (q.statement d) refl
    statement {d} (g.statement {r = r} t ok (g.assignment (g.variable (g.name t' p) g.selectors_end) (g.it_is b s) e))
        q = take (row.statement row.form_name) refl t p ok
        (and (take row.becomes refl b s tt (and (expression e q.expression) none)) none)
    statement {d} (g.statement t ok (g.assignment (g.variable (g.name t' p) (g.index (g.it_is o s) x ss)) b e)) q =
        take (row.statement row.form_name) refl t p ok
        (and (as_target row.selector_index o s
        (and (expression x (ends_by_indices ss)) (and (indices ss (becomes_ends b)) none)) b
        (expression e q.expression))
        none)
    statement {d} (g.statement t ok (g.assignment (g.variable (g.name t' p) (g.field (g.it_is o s) n ss)) b e)) q =
        take (row.statement row.form_name) refl t p ok
        (and (as_target row.selector_field o s (and (name n) (and (selectors ss (becomes_ends b)) none)) b
        (expression e q.expression)) none)
    statement {d} (g.statement t ok (g.plain_call (g.name t' p))) q =
        take (row.statement row.form_name) refl t p ok (and (skip (q.name (suc d)) (λ t. refl)) none)
    statement {d} (g.statement t ok (g.call (g.name t' p) (g.arguments (g.it_is o s) (g.argument x m) rest))) q =
        take (row.statement row.form_name) refl t p ok
        (and (take row.call refl o s tt (and (expression x (ends_by_width m (ends_by_arguments rest)))
        (and (width m (ends_by_arguments rest) (arguments_width (suc d) rest)) (and (arguments rest) none)))) none)
    statement {d} (g.statement t ok (g.compound_form (g.compound (g.it_is t' p) (g.sequence s ss) e))) q =
        take (row.statement row.form_begin) refl t p ok
        (and (statement s (statements_ended ss (ended_end e)))
        (and (statements ss (ended_end e) (ends (sym.MoreStatements (suc d)) w.End refl e)) (and (token refl e) none)))
    statement {d} (g.statement t ok (g.choice (g.it_is t' p) e h s o)) q =
        take (row.statement row.form_if) refl t p ok
        (and (expression e (ends_by_then h)) (and (token refl h)
        (and (statement s (else_ended o q)) (and (else_to o q) none))))
    statement {d} (g.statement t ok (g.while_loop (g.it_is t' p) e h s)) q =
        take (row.statement row.form_while) refl t p ok
        (and (expression e (ends_by_do h)) (and (token refl h) (and (statement s q) none)))
    statement {d} (g.statement t ok (g.repeat_loop (g.it_is t' p) (g.sequence s ss) h e)) q =
        take (row.statement row.form_repeat) refl t p ok
        (and (statement s (statements_ended ss (ended_until h)))
        (and (statements ss (ended_until h) (ends (sym.MoreStatements (suc d)) w.Until refl h))
        (and (token refl h) (and (expression e q.expression) none))))
    statement {d} (g.statement t ok (g.for_loop (g.it_is t' p) n b x v y h s)) q =
        take (row.statement row.form_for) refl t p ok
        (and (name n) (and (token refl b) (and (expression x (ends_by_direction v))
        (and (direction v) (and (expression y (ends_by_do h)) (and (token refl h) (and (statement s q) none)))))))
    statement {d} (g.statement t ok (g.case_choice (g.it_is t' p) e h (g.arm (g.labels c cs) s) rest)) q =
        take (row.statement row.form_case) refl t p ok
        (and (expression e (ends_by_of h)) (and (token refl h)
        (and (constant c) (and (labels_to cs) (and (statement s (arms_ended rest)) (and (arms rest) none))))))
    statement {d} (g.statement t ok (g.parallel (g.it_is t' p) (g.branches (g.sequence s ss) bs))) q =
        take (row.statement row.form_parallel) refl t p ok
        (and (statement s (statements_ended ss (branches_ended bs)))
        (and (statements ss (branches_ended bs) (branches_statements (suc d) bs)) (and (branches bs) none)))
    statement {d} (g.statement t ok (g.forall (g.it_is t' p) n b x v y h s)) q =
        take (row.statement row.form_forall) refl t p ok
        (and (name n) (and (token refl b) (and (expression x (ends_by_to v))
        (and (token refl v) (and (expression y (ends_by_do h)) (and (token refl h) (and (statement s q) none)))))))
    statement {d} (g.statement t ok (g.assume (g.it_is t' p) e)) q =
        take (row.statement row.form_assume) refl t p ok (and (expression e q.expression) none)

    pub else_to : {d : ℕ} {ts r : List Token} {o : tree.ElsePart} → g.IsElse text Ok d ts r o → EndsStatement r
        → D (sym.AnElse d) ts r o
    else_to {d} (g.no_else h) q = skip (else_ends d _ h q) (λ t. refl)
    else_to (g.other (g.it_is t p) s) q = take row.other refl t p tt (and (statement s q) none)

    pub statements : {d : ℕ} {ts r : List Token} {ss : tree.Statements} → g.IsMoreStatements text Ok d ts r ss
        → EndsStatement r
        → TakesNone (sym.MoreStatements d) r → D (sym.MoreStatements d) ts r ss
    statements g.statements_end q h = skip h (λ t. refl)
    statements (g.statements_go_on (g.it_is t p) (g.sequence s ss)) q h =
        take row.next_statement refl t p tt (and (statement s (statements_ended ss q)) (and (statements ss q h) none))

    pub arms : {d : ℕ} {ts r : List Token} {rest : tree.Arms} → g.IsMoreArms text Ok d ts r rest
        → D (sym.MoreArms d) ts r rest
    arms (g.arms_end (g.it_is t p)) = take row.arms_end refl t p tt none
    arms (g.last_arm (g.it_is t p) (g.it_is e s)) =
        take row.arms_go_on refl t p tt (and (take row.no_arm refl e s tt none) none)
    arms (g.arms_go_on (g.it_is t p) (g.arm (g.labels c cs) s) rest) =
        take row.arms_go_on refl t p tt (and
        (as_arm (constant_row c) (labels_to cs) (statement s (arms_ended rest)) (arms rest)) none)

    pub branches : {d : ℕ} {ts r : List Token} {bs : tree.Branches} → g.IsMoreBranches text Ok d ts r bs
        → D (sym.MoreBranches d) ts r bs
    branches (g.branches_end (g.it_is t p)) = take row.branches_end refl t p tt none
    branches {d} (g.branches_go_on (g.it_is t p) (g.branches (g.sequence s ss) bs)) =
        take row.next_branch refl t p tt (and (statement s (statements_ended ss (branches_ended bs)))
        (and (statements ss (branches_ended bs) (branches_statements d bs)) (and (branches bs) none)))

  -- blocks
  pub data DeclaresParts (d : ℕ) : List Token → List Token → tree.Block → Type 0 where
    parts_begin : {k : Kind} {l : List Symbol} {ts r : List Token} {vs : Values l} (c : PartsRow d k l) (t : Token)
        → t.kind ≡ k → DerivesList l ts r vs → DeclaresParts d (t ∷ ts) r (parts_value text c t vs)

  pub as_block : {d : ℕ} {ts r : List Token} {b : tree.Block} → Ok d ts → DeclaresParts (suc d) ts r b
      → D (sym.ABlock d) ts r b
  as_block {d} ok (parts_begin c t p x) = take (row.block c) (look_block d c) t p ok x

  pub as_parts : {d : ℕ} {ts r : List Token} {b : tree.Block} → DeclaresParts d ts r b → D (sym.Parts d) ts r b
  as_parts {d} (parts_begin c t p x) = take (row.parts c) (look_parts d c) t p tt x

  pub as_after_constants : {d : ℕ} {ts r : List Token} {b : tree.Block} → DeclaresParts d ts r b
      → D (sym.MoreConstants d) ts r b
  as_after_constants {d} (parts_begin c t p x) = take (row.after_constants c) (look_after_constants d c) t p tt x

  pub as_after_types : {d : ℕ} {ts r : List Token} {b : tree.Block} → DeclaresParts d ts r b
      → D (sym.MoreTypes d) ts r b
  as_after_types {d} (parts_begin c t p x) = take (row.after_types c) (look_after_types d c) t p tt x

  pub as_after_variables : {d : ℕ} {ts r : List Token} {b : tree.Block} → DeclaresParts d ts r b
      → D (sym.MoreVariables d) ts r b
  as_after_variables {d} (parts_begin c t p x) = take (row.after_variables c) (look_after_variables d c) t p tt x

  mutual
    pub block : {d : ℕ} {ts r : List Token} {b : tree.Block} → g.IsBlock text Ok d ts r b → D (sym.ABlock d) ts r b
    block (g.block ok b) = as_block ok (parts b)

    pub parts : {d : ℕ} {ts r : List Token} {b : tree.Block} → g.IsParts text Ok d ts r b → DeclaresParts d ts r b
    parts {d} (g.body (g.compound (g.it_is t p) (g.sequence s ss) e)) =
        parts_begin row.parts_begin t p (and (statement s (statements_ended ss (ended_end e)))
        (and (statements ss (ended_end e) (ends (sym.MoreStatements d) w.End refl e)) (and (token refl e) none)))
    parts (g.constants (g.it_is t p) (g.constant_part n e c s) b) =
        parts_begin row.parts_const t p (and (name n)
        (and (token refl e) (and (constant c) (and (token refl s) (and (more_constants b) none)))))
    parts (g.types (g.it_is t p) (g.type_part n e c s) b) =
        parts_begin row.parts_type t p (and (name n)
        (and (token refl e) (and (type_of c) (and (token refl s) (and (more_types b) none)))))
    parts (g.variables (g.it_is t p) (g.variable_part (g.group (g.names n ns) c k) s) b) =
        parts_begin row.parts_var t p (and (name n)
        (and (more_names ns (colon_ends c)) (and (token refl c)
        (and (name k) (and (token refl s) (and (more_variables b) none))))))
    parts (g.procedure (g.it_is t p) n fs s b e m) =
        parts_begin row.parts_procedure t p (and (name n)
        (and (formals fs (ends sym.Formals w.Semicolon refl s))
        (and (token refl s) (and (block b) (and (token refl e) (and (as_parts (parts m)) none))))))
    parts (g.function (g.it_is t p) n fs c a s b e m) =
        parts_begin row.parts_function t p (and (name n)
        (and (formals fs (ends sym.Formals w.Colon refl c))
        (and (token refl c) (and (name a) (and (token refl s)
        (and (block b) (and (token refl e) (and (as_parts (parts m)) none))))))))

    pub more_constants : {d : ℕ} {ts r : List Token} {b : tree.Block} → g.IsMoreConstants text Ok d ts r b
        → D (sym.MoreConstants d) ts r b
    more_constants (g.constants_end b) = as_after_constants (parts b)
    more_constants (g.constants_go_on (g.constant_part (g.name t p) e c s) b) =
        take row.next_constant refl t p tt (and (token refl e)
        (and (constant c) (and (token refl s) (and (more_constants b) none))))

    pub more_types : {d : ℕ} {ts r : List Token} {b : tree.Block} → g.IsMoreTypes text Ok d ts r b
        → D (sym.MoreTypes d) ts r b
    more_types (g.types_end b) = as_after_types (parts b)
    more_types (g.types_go_on (g.type_part (g.name t p) e c s) b) =
        take row.next_type refl t p tt (and (token refl e)
        (and (type_of c) (and (token refl s) (and (more_types b) none))))

    pub more_variables : {d : ℕ} {ts r : List Token} {b : tree.Block} → g.IsMoreVariables text Ok d ts r b
        → D (sym.MoreVariables d) ts r b
    more_variables (g.variables_end b) = as_after_variables (parts b)
    more_variables (g.variables_go_on (g.variable_part (g.group (g.names (g.name t p) ns) c k) s) b) =
        take row.next_variable refl t p tt (and (more_names ns (colon_ends c))
        (and (token refl c) (and (name k) (and (token refl s) (and (more_variables b) none)))))

  -- a program
  pub program : {ts r : List Token} {p : tree.Program} → g.IsProgram text Ok ts r p → D sym.AProgram ts r p
  program (g.program (g.it_is t p) n h s b e) =
      take row.program refl t p tt (and (name n)
      (and (heading h (ends sym.AHeading w.Semicolon refl s))
      (and (token refl s) (and (block b) (and (token refl e) none)))))
