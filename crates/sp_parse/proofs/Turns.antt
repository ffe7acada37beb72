-- Symbols that have the rows of others: an expression is a simple one and a relation, a term is factors, and so on.
use Rattle.std.proofs.Common.{◌≡◌, ℕ, suc, ◌<◌, Bool, true, false, cond, List, [], ◌∷◌, ◌++◌, map, Option, Some}
use Rattle.std.proofs.Common.{None, length, refl, sym as back_of, ap, ◌∙◌, subst}
use Rattle.sp_tree.specs.declared.token.Token.{Token}
use Rattle.sp_tree.specs.declared.token.Kind.{Kind}
use Rattle.sp_tree.specs.declared.token.Kind.TheVariants as kind
use Rattle.sp_tree.specs.declared.operators.UnaryOp.{UnaryOp}
use Rattle.sp_tree.specs.declared.operators.UnaryOp.TheVariants as unary
use Rattle.sp_tree.specs.declared.operators.BinaryOp.{BinaryOp}
use Rattle.sp_tree.specs.declared.syntax.SynConst.{SynConst}
use Rattle.sp_tree.specs.Words as w
use Rattle.sp_tree.specs.PlainSyntax as tree
use Rattle.sp_tree.specs.Grammar as g
use Rattle.sp_tree.specs.Spelling.{name_of}
use Rattle.sp_tree.specs.Breaches.{nesting}
use Rattle.sp_tree.specs.Symbols as sym
use Rattle.sp_tree.specs.Symbols.{Symbol, Value, Values, split, part}
use Rattle.sp_tree.specs.Table as row
use Rattle.sp_tree.specs.Table.{FactorRow, SimpleRow, SelectorRow, ConstantRow, PartsRow, Row, RowEntry, row_entry}
use Rattle.sp_tree.specs.Table.{rows, look, kind_is, build, gap, factor_rows, simple_rows, selector_rows}
use Rattle.sp_tree.specs.Table.{constant_rows, parts_rows, factor_value, simple_value, selector_value}
use Rattle.sp_tree.specs.Table.{constant_value}
use Rattle.sp_tree.specs.SymbolMachine.{allows}
use Rattle.sp_tree.specs.Derives.{PartMayBegin as MayBegin, Derives, takes, skips, DerivesAll, none, and}
use Rattle.sp_tree.proofs.FromTable.{kind_is-true}
use Rattle.sp_tree.proofs.Looks.{look_relation, look_adding, look_multiplying}
use Rattle.sp_parse.specs.declared.source.Source.{Source}
use Rattle.sp_parse.specs.declared.source.Tokens.{Tokens}
use Rattle.sp_parse.specs.Reads.{IsNestable, breaks, Pending, Looks, Skips, Differs}
use Rattle.sp_parse.specs.Operators.{IsSign, IsRelation, IsAddition, IsMultiplication, is_some}
use Rattle.sp_parse.specs.ExpressionProductions.{term}
use Rattle.sp_parse.proofs.Steps.{step_takes, step_fails, step_ends, below}
use Rattle.sp_parse.proofs.Rows.{look_map, after_two, split_join, copy_leads, copy_derives, copied_leads}
use Rattle.sp_parse.proofs.Rows.{copied_derives, bare_leads, bare_derives, loose_leads, loose_derives, lifted, some_of}
use Rattle.sp_parse.proofs.Rows.{none_of}
use Rattle.sp_parse.proofs.Pending.{begin, read, go_on, look_at, take_row, turn, turn_at, took, some_kind, head}
use Rattle.sp_parse.proofs.Pending.{takes_by}

-- what holds of the token that was looked at holds of the first one
pub first_same : {source : Source} {old new : Tokens} {t s : Token} {u : List Token} (P : Token → Type 0) → P t
    → Looks source old new t → new.failed ≡ None → new.rest.now ≡ s ∷ u → P s
first_same {t = t} {s = s} P h a fine e =
    let (_, _, (v, begins)) = a.same fine in
    let same : t ≡ s = cc (begins, e) in
    subst P same h

-- neither of two kinds comes first
pub neither : {source : Source} {old mid new : Tokens} {j k : Kind} (a : Differs source j old mid)
    → (b : Differs source k mid new) → new.failed ≡ None → kind_is j b.token.kind ≡ false
neither {j = j} a b fine =
    let (mid_fine, same, (u, begins)) = b.looks.same fine in
    let (_, _, (v, starts)) = a.looks.same mid_fine in
    let one : a.token ≡ b.token = cc (same, begins, starts) in
    subst (λ t. kind_is j t.kind ≡ false) one (a.differs mid_fine)

-- tests that fail
pub none_if : {A : Type 0} {x : Bool} (a : A) {o : Option A} → x ≡ false → o ≡ None → cond x (Some a) o ≡ None
none_if a {o} p q = ap (λ x. cond x (Some a) o) p ∙ q

-- a name is one token
name_entry : (k : Kind) (e : RowEntry (Row sym.AName)) → look (rows sym.AName) k ≡ Some e → (k ≡ kind.Name)
    × (row_entry kind.Name [] row.name ≡ e)
name_entry kind.Name e h = (refl, (let same : row_entry kind.Name [] row.name ≡ e = cc in same))
name_entry k e h = absurd cc

nothing : {text : List ℕ} {ts r : List Token} {vs : Values []} → DerivesAll text IsNestable [] ts r vs → ts ≡ r
nothing none = refl

name_row : {text : List ℕ} (t : Token) (ts u : List Token) (e : RowEntry (Row sym.AName))
    → row_entry kind.Name [] row.name ≡ e
    → (vs : Values e.left) → DerivesAll text IsNestable e.left ts u vs → (build text e.row t vs ≡ name_of text t)
    × (ts ≡ u)
name_row {text} t ts u e p = subst (λ (e : RowEntry (Row sym.AName)). (vs : Values e.left)
    → DerivesAll text IsNestable e.left ts u vs → (build text e.row t vs ≡ name_of text t) × (ts ≡ u)) p
    (λ vs d. (refl, nothing d))

name_token : {text : List ℕ} {ts u : List Token} {v : Value sym.AName} → Derives text IsNestable sym.AName ts u v
    → (t : Token)
    × (ts ≡ t ∷ u) × (t.kind ≡ kind.Name) × (v ≡ name_of text t)
name_token (takes {ts = ts} {r = u} t e h o d) =
    let i = name_entry t.kind e h in
    let j = name_row t ts u e i.1 _ d in
    (t, ap (λ l. t ∷ l) j.1, i.0, j.0)
name_token (skips t h g) = absurd cc

-- an operator, and an operand behind it
module _ {V : Type 0} {source : Source} {l : List Symbol} {of : Values l → V} where
  pub relation_on : (d : ℕ) {m : List Symbol} {gives : Values (sym.ARelation d ∷ m) → V} {old mid seen new : Tokens}
      {t : Token} {o : BinaryOp} → Pending source l of (sym.ARelation d ∷ m) gives old mid → Looks source mid seen t
      → IsRelation t (Some o) → Skips source seen new
      → Pending source l of (sym.ASimple d ∷ m) (λ vs. gives ((λ a. g.binary_at_left o a vs.0), vs.1)) old new
  relation_on d {m = m} {t = t} a b (k, is, same) c = take_row m (row.relation is) (look_relation d is) refl tt same
      (look_at a b)
      (took (some_kind t (sym.ARelation d) (row.relation is) (look_relation d is) refl same) b c)

  pub term_on : (d : ℕ) {m : List Symbol} {gives : Values (sym.MoreTerms d ∷ m) → V} {old mid seen new : Tokens}
      {t : Token} {o : BinaryOp} → Pending source l of (sym.MoreTerms d ∷ m) gives old mid → Looks source mid seen t
      → IsAddition t (Some o) → Skips source seen new → Pending source l of (sym.ATerm d ∷ sym.MoreTerms d ∷ m)
      (λ vs. gives ((λ a. vs.1.0 (g.binary_at_left o a vs.0)), vs.1.1)) old new
  term_on d {m = m} {t = t} a b (k, is, same) c = take_row m (row.next_term is) (look_adding d is) refl tt same
      (look_at a b)
      (took (some_kind t (sym.MoreTerms d) (row.next_term is) (look_adding d is) refl same) b c)

  pub factor_on : (d : ℕ) {m : List Symbol} {gives : Values (sym.MoreFactors d ∷ m) → V} {old mid seen new : Tokens}
      {t : Token} {o : BinaryOp} → Pending source l of (sym.MoreFactors d ∷ m) gives old mid → Looks source mid seen t
      → IsMultiplication t (Some o) → Skips source seen new
      → Pending source l of (sym.AFactor d ∷ sym.MoreFactors d ∷ m)
      (λ vs. gives ((λ a. vs.1.0 (g.binary_at_left o a vs.0)), vs.1.1)) old new
  factor_on d {m = m} {t = t} a b (k, is, same) c = take_row m (row.next_factor is) (look_multiplying d is) refl tt same
      (look_at a b) (took (some_kind t (sym.MoreFactors d) (row.next_factor is) (look_multiplying d is) refl same) b c)

-- an operator is passed
pub adds_less : {source : Source} {old mid new : Tokens} {t : Token} {o : BinaryOp} (d : ℕ) → Looks source old mid t
    → IsAddition t (Some o) → Skips source mid new → length new.rest.now < length mid.rest.now
adds_less {t = t} d a (k, is, same) b = (took (some_kind t (sym.MoreTerms d) (row.next_term is) (look_adding d is) refl
    same) a b).less

pub multiplies_less : {source : Source} {old mid new : Tokens} {t : Token} {o : BinaryOp} (d : ℕ)
    → Looks source old mid t → IsMultiplication t (Some o) → Skips source mid new
    → length new.rest.now < length mid.rest.now
multiplies_less {t = t} d a (k, is, same) b = (took (some_kind t (sym.MoreFactors d) (row.next_factor is)
    (look_multiplying d is) refl same) a b).less

module _ (source : Source) where
  abbrev text : List ℕ
  text = source.text.now

  -- an expression is a simple one and a relation
  expression_leads : (d : ℕ) (ts : List Token) → d < nesting → (q : List Symbol)
      → breaks source ts (sym.AnExpression d ∷ q) ≡ breaks source ts (sym.ASimple (suc d) ∷ sym.ARelation (suc d) ∷ q)
  expression_leads d [] h q = step_ends source (sym.AnExpression d) q
      ∙ back_of (step_ends source (sym.ASimple (suc d)) (sym.ARelation (suc d) ∷ q))
  expression_leads d (t ∷ ts) h q =
      copy_leads source (SimpleRow (suc d)) (sym.AnExpression d) (sym.ASimple (suc d)) (sym.ARelation (suc d) ∷ [])
      (λ e. row.expression e.row) (λ e. row.simple e.row) t ts (look (simple_rows (suc d)) t.kind)
      (look_map (λ e. row_entry e.key (e.left ++ sym.ARelation (suc d) ∷ []) (row.expression e.row)) (λ e. refl)
      (simple_rows (suc d)) t.kind)
      (look_map (λ e. row_entry e.key e.left (row.simple e.row)) (λ e. refl) (simple_rows (suc d)) t.kind)
      refl refl (below d nesting h) refl q

  expression_derives : (d : ℕ) {ts u r : List Token} {a : tree.Expression} {f : tree.Expression → tree.Expression}
      → d < nesting → Derives source.text.now IsNestable (sym.ASimple (suc d)) ts u a
      → Derives source.text.now IsNestable (sym.ARelation (suc d)) u r f
      → Derives source.text.now IsNestable (sym.AnExpression d) ts r (f a)
  expression_derives d {ts = t ∷ ts} {u} {r} {f = f} h x y =
      copy_derives source (SimpleRow (suc d)) (sym.AnExpression d) (sym.ASimple (suc d)) (sym.ARelation (suc d) ∷ [])
      (λ e. row.expression e.row) (λ e. row.simple e.row)
      (λ a ws. ws.0 a)
      (λ e t us ws. ap (λ (own, (comparison, _)). comparison (simple_value source.text.now e.row t own))
      (split_join e.left (sym.ARelation (suc d) ∷ []) us ws))
      t ts u r (f, tt) (look (simple_rows (suc d)) t.kind)
      (look_map (λ e. row_entry e.key (e.left ++ sym.ARelation (suc d) ∷ []) (row.expression e.row)) (λ e. refl)
      (simple_rows (suc d)) t.kind)
      (look_map (λ e. row_entry e.key e.left (row.simple e.row)) (λ e. refl) (simple_rows (suc d)) t.kind)
      refl h x (and y none)
  expression_derives d {ts = []} h x y = elim x [ ]

  -- a term is a factor and further ones
  term_leads : (d : ℕ) (ts : List Token) (q : List Symbol)
      → breaks source ts (sym.ATerm d ∷ q) ≡ breaks source ts (sym.AFactor d ∷ sym.MoreFactors d ∷ q)
  term_leads d [] q = step_ends source (sym.ATerm d) q
      ∙ back_of (step_ends source (sym.AFactor d) (sym.MoreFactors d ∷ q))
  term_leads d (t ∷ ts) q =
      copy_leads source (FactorRow d) (sym.ATerm d) (sym.AFactor d) (sym.MoreFactors d ∷ []) (λ e. row.term e.row)
      (λ e. row.factor e.row) t ts (look (factor_rows d) t.kind)
      (look_map (λ e. row_entry e.key (e.left ++ sym.MoreFactors d ∷ []) (row.term e.row)) (λ e. refl) (factor_rows d)
      t.kind)
      (look_map (λ e. row_entry e.key e.left (row.factor e.row)) (λ e. refl) (factor_rows d) t.kind)
      refl refl refl refl q

  term_derives : (d : ℕ) {ts u r : List Token} {a : tree.Expression} {f : tree.Expression → tree.Expression}
      → Derives source.text.now IsNestable (sym.AFactor d) ts u a
      → Derives source.text.now IsNestable (sym.MoreFactors d) u r f
      → Derives source.text.now IsNestable (sym.ATerm d) ts r (f a)
  term_derives d {ts = t ∷ ts} {u} {r} {f = f} x y =
      copy_derives source (FactorRow d) (sym.ATerm d) (sym.AFactor d) (sym.MoreFactors d ∷ []) (λ e. row.term e.row)
      (λ e. row.factor e.row)
      (λ a ws. ws.0 a)
      (λ e t us ws. ap (λ (own, (factors, _)). factors (factor_value source.text.now e.row t own))
      (split_join e.left (sym.MoreFactors d ∷ []) us ws))
      t ts u r (f, tt) (look (factor_rows d) t.kind)
      (look_map (λ e. row_entry e.key (e.left ++ sym.MoreFactors d ∷ []) (row.term e.row)) (λ e. refl) (factor_rows d)
      t.kind)
      (look_map (λ e. row_entry e.key e.left (row.factor e.row)) (λ e. refl) (factor_rows d) t.kind)
      refl tt x (and y none)
  term_derives d {ts = []} x y = elim x [ ]

  -- a simple expression without a sign is a term and further ones
  module _ (d : ℕ) (t : Token) (ts : List Token) (p : kind_is w.Plus t.kind ≡ false)
      (m : kind_is w.Minus t.kind ≡ false) where
    abbrev as_simple : RowEntry (FactorRow d) → RowEntry (Row (sym.ASimple d))
    as_simple e = row_entry e.key (e.left ++ sym.MoreFactors d ∷ sym.MoreTerms d ∷ [])
        (row.simple (row.simple_factor e.row))

    look_unsigned : look (rows (sym.ASimple d)) t.kind ≡ look (map as_simple (factor_rows d)) t.kind
    look_unsigned = after_two _ _ (look (map as_simple (factor_rows d)) t.kind) p m

    unsigned_leads : (q : List Symbol) → breaks source (t ∷ ts) (sym.ASimple d ∷ q)
        ≡ breaks source (t ∷ ts) (sym.AFactor d ∷ sym.MoreFactors d ∷ sym.MoreTerms d ∷ q)
    unsigned_leads q =
        copy_leads source (FactorRow d) (sym.ASimple d) (sym.AFactor d) (sym.MoreFactors d ∷ sym.MoreTerms d ∷ [])
        (λ e. row.simple (row.simple_factor e.row)) (λ e. row.factor e.row) t ts (look (factor_rows d) t.kind)
        (look_unsigned ∙ look_map as_simple (λ e. refl) (factor_rows d) t.kind)
        (look_map (λ e. row_entry e.key e.left (row.factor e.row)) (λ e. refl) (factor_rows d) t.kind)
        refl refl refl refl q

    unsigned_derives : {u v r : List Token} {a : tree.Expression} {f h : tree.Expression → tree.Expression}
        → Derives source.text.now IsNestable (sym.AFactor d) (t ∷ ts) u a
        → Derives source.text.now IsNestable (sym.MoreFactors d) u v f
        → Derives source.text.now IsNestable (sym.MoreTerms d) v r h
        → Derives source.text.now IsNestable (sym.ASimple d) (t ∷ ts) r (h (f a))
    unsigned_derives {u} {v} {r} {f = f} {h = h} x y z =
        copy_derives source (FactorRow d) (sym.ASimple d) (sym.AFactor d) (sym.MoreFactors d ∷ sym.MoreTerms d ∷ [])
        (λ e. row.simple (row.simple_factor e.row)) (λ e. row.factor e.row)
        (λ a (factors, (terms, _)). terms (factors a))
        (λ e t us ws. ap
        (λ (own, (factors, (terms, _))). terms (factors (factor_value source.text.now e.row t own)))
        (split_join e.left (sym.MoreFactors d ∷ sym.MoreTerms d ∷ []) us ws))
        t ts u r (f, (h, tt)) (look (factor_rows d) t.kind)
        (look_unsigned ∙ look_map as_simple (λ e. refl) (factor_rows d) t.kind)
        (look_map (λ e. row_entry e.key e.left (row.factor e.row)) (λ e. refl) (factor_rows d) t.kind)
        refl tt x (and y (and z none))

  -- behind `not`
  negated_leads : (d : ℕ) (ts : List Token) → d < nesting → (q : List Symbol)
      → breaks source ts (sym.ANegated d ∷ q) ≡ breaks source ts (sym.AFactor (suc d) ∷ q)
  negated_leads d [] h q = step_ends source (sym.ANegated d) q ∙ back_of (step_ends source (sym.AFactor (suc d)) q)
  negated_leads d (t ∷ ts) h q =
      bare_leads source (FactorRow (suc d)) (sym.ANegated d) (sym.AFactor (suc d)) (λ e. row.negated e.row)
      (λ e. row.factor e.row) t ts (look (factor_rows (suc d)) t.kind)
      (look_map (λ e. row_entry e.key e.left (row.negated e.row)) (λ e. refl) (factor_rows (suc d)) t.kind)
      (look_map (λ e. row_entry e.key e.left (row.factor e.row)) (λ e. refl) (factor_rows (suc d)) t.kind)
      refl refl (below d nesting h) refl q

  negated_derives : (d : ℕ) {ts r : List Token} {a : tree.Expression} → d < nesting
      → Derives text IsNestable (sym.AFactor (suc d)) ts r a → Derives text IsNestable (sym.ANegated d) ts r a
  negated_derives d {ts = t ∷ ts} {r} h x =
      bare_derives source (FactorRow (suc d)) (sym.ANegated d) (sym.AFactor (suc d)) (λ e. row.negated e.row)
      (λ e. row.factor e.row) (λ a. a) (λ e t us. refl) t ts r (look (factor_rows (suc d)) t.kind)
      (look_map (λ e. row_entry e.key e.left (row.negated e.row)) (λ e. refl) (factor_rows (suc d)) t.kind)
      (look_map (λ e. row_entry e.key e.left (row.factor e.row)) (λ e. refl) (factor_rows (suc d)) t.kind)
      refl h x
  negated_derives d {ts = []} h x = elim x [ ]

  -- selectors stand behind a name where no `(` does
  module _ (d : ℕ) (t : Token) (ts : List Token) (o : kind_is w.Open t.kind ≡ false) where
    look_reference : look (rows (sym.AReference d)) t.kind
        ≡ look (map (λ (e : RowEntry (SelectorRow d)). row_entry e.key e.left (row.reference e.row))
        (selector_rows d)) t.kind
    look_reference = ap (λ b. cond b (Some (row_entry _ _ row.arguments))
        (look (map (λ (e : RowEntry (SelectorRow d)). row_entry e.key e.left (row.reference e.row)) (selector_rows d))
        t.kind))
        o

    reference_leads_at : (q : List Symbol) → breaks source (t ∷ ts) (sym.AReference d ∷ q)
        ≡ breaks source (t ∷ ts) (sym.Selectors d ∷ q)
    reference_leads_at q =
        loose_leads source (SelectorRow d) (sym.AReference d) (sym.Selectors d) (λ e. row.reference e.row)
        (λ e. row.selector e.row) t ts (look (selector_rows d) t.kind) _ _
        (look_reference ∙ look_map (λ e. row_entry e.key e.left (row.reference e.row)) (λ e. refl) (selector_rows d)
        t.kind)
        (look_map (λ e. row_entry e.key e.left (row.selector e.row)) (λ e. refl) (selector_rows d) t.kind)
        refl refl refl refl q

    reference_derives_at : {r : List Token} {ss : tree.Selectors}
        → Derives text IsNestable (sym.Selectors d) (t ∷ ts) r ss
        → Derives text IsNestable (sym.AReference d) (t ∷ ts) r (λ n. tree.Read (tree.Entire n ss))
    reference_derives_at {r} x =
        loose_derives source (SelectorRow d) (sym.AReference d) (sym.Selectors d) (λ e. row.reference e.row)
        (λ e. row.selector e.row) (λ ss. λ n. tree.Read (tree.Entire n ss)) (λ e t us. refl) t ts r
        (look (selector_rows d) t.kind)
        (look_reference ∙ look_map (λ e. row_entry e.key e.left (row.reference e.row)) (λ e. refl) (selector_rows d)
        t.kind)
        (look_map (λ e. row_entry e.key e.left (row.selector e.row)) (λ e. refl) (selector_rows d) t.kind)
        (λ v h. let same : tree.Whole ≡ v = cc in ap (λ ss. Some (λ n. tree.Read (tree.Entire n ss))) same) tt x

  -- an assignment to a part of a variable
  module _ (d : ℕ) (t : Token) (ts : List Token) (o : kind_is w.Open t.kind ≡ false)
      (c : kind_is w.Becomes t.kind ≡ false) (e : RowEntry (SelectorRow d))
      (f : look (selector_rows d) t.kind ≡ Some e) where
    abbrev as_target : RowEntry (SelectorRow d) → RowEntry (Row (sym.AfterName d))
    as_target e = row_entry e.key (e.left ++ sym.AToken w.Becomes ∷ sym.AnExpression d ∷ []) (row.target e.row)

    abbrev as_selector : RowEntry (SelectorRow d) → RowEntry (Row (sym.Selectors d))
    as_selector e = row_entry e.key e.left (row.selector e.row)

    look_target : look (rows (sym.AfterName d)) t.kind ≡ Some (as_target e)
    look_target =
        let skip : look (rows (sym.AfterName d)) t.kind ≡ look (map as_target (selector_rows d)) t.kind =
        after_two _ _ (look (map as_target (selector_rows d)) t.kind) c o in
        let same : look (map as_target (selector_rows d)) t.kind ≡ lifted as_target (look (selector_rows d) t.kind) =
        look_map as_target (λ e. refl) (selector_rows d) t.kind in
        skip ∙ same ∙ ap (lifted as_target) f

    look_selector : look (rows (sym.Selectors d)) t.kind ≡ Some (as_selector e)
    look_selector =
        let same : look (rows (sym.Selectors d)) t.kind ≡ lifted as_selector (look (selector_rows d) t.kind) =
        look_map as_selector (λ e. refl) (selector_rows d) t.kind in
        same ∙ ap (lifted as_selector) f

    target_leads : (q : List Symbol) → breaks source (t ∷ ts) (sym.AfterName d ∷ q)
        ≡ breaks source (t ∷ ts) (sym.Selectors d ∷ sym.AToken w.Becomes ∷ sym.AnExpression d ∷ q)
    target_leads q = copied_leads source (SelectorRow d) (sym.AfterName d) (sym.Selectors d)
        (sym.AToken w.Becomes ∷ sym.AnExpression d ∷ []) (λ e. row.target e.row) (λ e. row.selector e.row) t ts e
        look_target look_selector refl refl q

    target_derives : {u v r : List Token} {ss : tree.Selectors} {x : tree.Expression}
        → Derives text IsNestable (sym.Selectors d) (t ∷ ts) u ss
        → Derives text IsNestable (sym.AToken w.Becomes) u v tt
        → Derives text IsNestable (sym.AnExpression d) v r x
        → Derives text IsNestable (sym.AfterName d) (t ∷ ts) r (λ n. tree.Assign (tree.Entire n ss) x)
    target_derives {u} {v} {r} {x = x} a b y =
        copied_derives source (SelectorRow d) (sym.AfterName d) (sym.Selectors d)
        (sym.AToken w.Becomes ∷ sym.AnExpression d ∷ []) (λ e. row.target e.row) (λ e. row.selector e.row)
        (λ selectors (_, (value, _)). λ n. tree.Assign (tree.Entire n selectors) value)
        (λ e t us ws. ap
        (λ (own, (_, (value, _))). λ n. tree.Assign (tree.Entire n (selector_value text e.row t own)) value)
        (split_join e.left (sym.AToken w.Becomes ∷ sym.AnExpression d ∷ []) us ws))
        t ts u r (tt, (x, tt)) e look_target look_selector tt a (and b (and y none))

  pub no_target : (d : ℕ) (t : Token) → kind_is w.Open t.kind ≡ false → kind_is w.Becomes t.kind ≡ false
      → is_some (look (selector_rows d) t.kind) ≡ false → look (rows (sym.AfterName d)) t.kind ≡ None
  no_target d t o c s =
      let f : RowEntry (SelectorRow d) → RowEntry (Row (sym.AfterName d)) =
      λ e. row_entry e.key (e.left ++ sym.AToken w.Becomes ∷ sym.AnExpression d ∷ []) (row.target e.row) in
      let skip : look (rows (sym.AfterName d)) t.kind ≡ look (map f (selector_rows d)) t.kind =
      after_two _ _ (look (map f (selector_rows d)) t.kind) c o in
      let same : look (map f (selector_rows d)) t.kind ≡ lifted f (look (selector_rows d) t.kind) =
      look_map f (λ e. refl) (selector_rows d) t.kind in
      skip ∙ same ∙ ap (lifted f) (none_of (look (selector_rows d) t.kind) s)

  -- an arm behind a semicolon
  module _ (d : ℕ) (t : Token) (ts : List Token) (n : kind_is w.End t.kind ≡ false) where
    abbrev as_arm : RowEntry ConstantRow → RowEntry (Row (sym.ArmOrEnd d))
    as_arm e = row_entry e.key (e.left ++ sym.MoreLabels ∷ sym.AStatement d ∷ sym.MoreArms d ∷ []) (row.next_arm e.row)

    look_arm : look (rows (sym.ArmOrEnd d)) t.kind ≡ look (map as_arm constant_rows) t.kind
    look_arm = ap (λ b. cond b (Some (row_entry _ _ row.no_arm)) (look (map as_arm constant_rows) t.kind)) n

    arm_leads_at : (q : List Symbol) → breaks source (t ∷ ts) (sym.ArmOrEnd d ∷ q)
        ≡ breaks source (t ∷ ts) (sym.AConstant ∷ sym.MoreLabels ∷ sym.AStatement d ∷ sym.MoreArms d ∷ q)
    arm_leads_at q =
        copy_leads source ConstantRow (sym.ArmOrEnd d) sym.AConstant
        (sym.MoreLabels ∷ sym.AStatement d ∷ sym.MoreArms d ∷ []) (λ e. row.next_arm e.row)
        (λ e. row.constant e.row) t ts (look constant_rows t.kind)
        (look_arm ∙ look_map as_arm (λ e. refl) constant_rows t.kind)
        (look_map (λ e. row_entry e.key e.left (row.constant e.row)) (λ e. refl) constant_rows t.kind)
        refl refl refl refl q

    arm_derives_at : {u v x r : List Token} {c : SynConst} {cs : List SynConst} {s : tree.Statement} {m : tree.Arms}
        → Derives text IsNestable sym.AConstant (t ∷ ts) u c → Derives text IsNestable sym.MoreLabels u v cs
        → Derives text IsNestable (sym.AStatement d) v x s → Derives text IsNestable (sym.MoreArms d) x r m
        → Derives text IsNestable (sym.ArmOrEnd d) (t ∷ ts) r (tree.Or (tree.On (c ∷ cs) s) m)
    arm_derives_at {u} {v} {x} {r} {cs = cs} {s = s} {m = m} a b y z =
        copy_derives source ConstantRow (sym.ArmOrEnd d) sym.AConstant
        (sym.MoreLabels ∷ sym.AStatement d ∷ sym.MoreArms d ∷ []) (λ e. row.next_arm e.row)
        (λ e. row.constant e.row)
        (λ label (labels, (body, (more, _))). tree.Or (tree.On (label ∷ labels) body) more)
        (λ e t us ws. ap
        (λ (own, (labels, (body, (more, _)))).
        tree.Or (tree.On (constant_value text e.row t own ∷ labels) body) more)
        (split_join e.left (sym.MoreLabels ∷ sym.AStatement d ∷ sym.MoreArms d ∷ []) us ws))
        t ts u r (cs, (s, (m, tt))) (look constant_rows t.kind)
        (look_arm ∙ look_map as_arm (λ e. refl) constant_rows t.kind)
        (look_map (λ e. row_entry e.key e.left (row.constant e.row)) (λ e. refl) constant_rows t.kind)
        refl tt a (and b (and y (and z none)))

  -- a block has the rows of its declarations
  block_leads : (d : ℕ) (ts : List Token) → d < nesting → (q : List Symbol)
      → breaks source ts (sym.ABlock d ∷ q) ≡ breaks source ts (sym.Parts (suc d) ∷ q)
  block_leads d [] h q = step_ends source (sym.ABlock d) q ∙ back_of (step_ends source (sym.Parts (suc d)) q)
  block_leads d (t ∷ ts) h q =
      bare_leads source (PartsRow (suc d)) (sym.ABlock d) (sym.Parts (suc d)) (λ e. row.block e.row) (λ e. row.parts
      e.row) t ts
      (look (parts_rows (suc d)) t.kind)
      (look_map (λ e. row_entry e.key e.left (row.block e.row)) (λ e. refl) (parts_rows (suc d)) t.kind)
      (look_map (λ e. row_entry e.key e.left (row.parts e.row)) (λ e. refl) (parts_rows (suc d)) t.kind)
      refl refl (below d nesting h) refl q

  block_derives : (d : ℕ) {ts r : List Token} {b : tree.Block} → d < nesting
      → Derives source.text.now IsNestable (sym.Parts (suc d)) ts r b → Derives source.text.now IsNestable (sym.ABlock
      d) ts r b
  block_derives d {ts = t ∷ ts} {r} h x =
      bare_derives source (PartsRow (suc d)) (sym.ABlock d) (sym.Parts (suc d)) (λ e. row.block e.row) (λ e. row.parts
      e.row)
      (λ b. b) (λ e t us. refl) t ts r (look (parts_rows (suc d)) t.kind)
      (look_map (λ e. row_entry e.key e.left (row.block e.row)) (λ e. refl) (parts_rows (suc d)) t.kind)
      (look_map (λ e. row_entry e.key e.left (row.parts e.row)) (λ e. refl) (parts_rows (suc d)) t.kind)
      refl h x
  block_derives d {ts = []} h x = elim x [ ]

-- a symbol that takes a name, and none of the tokens that are left
named_leads : (source : Source) (s : Symbol) (l : List Symbol) (row : Row s kind.Name l)
    → look (rows s) kind.Name ≡ Some (row_entry kind.Name l row) → part s ≡ None
    → (t : Token) (ts : List Token) (b : Bool)
    → kind_is kind.Name t.kind ≡ b → (kind_is kind.Name t.kind ≡ false → look (rows s) t.kind ≡ None) → gap s t ≡ None
    → (q : List Symbol) → breaks source (t ∷ ts) (s ∷ q) ≡ breaks source (t ∷ ts) (sym.AName ∷ l ++ q)
named_leads source s l r found whole t ts true h other g q =
    let p : t.kind ≡ kind.Name = back_of (kind_is-true kind.Name t.kind h) in
    step_takes source s t ts (row_entry kind.Name l r) (ap (look (rows s)) p ∙ found)
    (ap (allows (Some nesting)) whole) q
    ∙ back_of (step_takes source sym.AName t ts (row_entry kind.Name [] row.name) (ap (look (rows sym.AName)) p) refl
    (l ++ q))
named_leads source s l r found whole t ts false h other g q = step_fails source s t ts (other h) g q
    ∙ back_of (step_fails source sym.AName t ts (none_if (row_entry kind.Name [] row.name) h refl) refl (l ++ q))

named_derives : (source : Source) {s : Symbol} {p : List Symbol} (row : Row s kind.Name p)
    → look (rows s) kind.Name ≡ Some (row_entry kind.Name p row) → part s ≡ None
    → (value : Values (sym.AName ∷ p) → Value s)
    → ((t : Token) (vs : Values p) → value (name_of source.text.now t, vs) ≡ build source.text.now row t vs)
    → {ts r : List Token} {vs : Values (sym.AName ∷ p)}
    → DerivesAll source.text.now IsNestable (sym.AName ∷ p) ts r vs
    → Derives source.text.now IsNestable s ts r (value vs)
named_derives source {s = s} row found whole value e {ts = ts} {r = r} (and {u = u} {vs = us} x xs) =
    let (t, begins, is_name, same_name) = name_token x in
    subst (Derives source.text.now IsNestable s ts r)
    (back_of (ap (λ n. value (n, us)) same_name ∙ e t us))
    (takes_by row found (subst (λ p. MayBegin IsNestable p (t ∷ u)) (back_of whole) tt) is_name begins xs)

is_name : {A : Type 0} (t : Token) → t.kind ≡ kind.Name → kind_is kind.Name t.kind ≡ false → A
is_name t same n = absurd (let x : true ≡ false = back_of (ap (kind_is kind.Name) same) ∙ n in cc)

expression_all : (source : Source) (d : ℕ) → d < nesting → {ts r : List Token}
    {vs : Values (sym.ASimple (suc d) ∷ sym.ARelation (suc d) ∷ [])}
    → DerivesAll source.text.now IsNestable (sym.ASimple (suc d) ∷ sym.ARelation (suc d) ∷ []) ts r vs
    → Derives source.text.now IsNestable (sym.AnExpression d) ts r (vs.1.0 vs.0)
expression_all source d b (and x (and y none)) = expression_derives source d b x y

term_all : (source : Source) (d : ℕ) {ts r : List Token} {vs : Values (sym.AFactor d ∷ sym.MoreFactors d ∷ [])}
    → DerivesAll source.text.now IsNestable (sym.AFactor d ∷ sym.MoreFactors d ∷ []) ts r vs
    → Derives source.text.now IsNestable (sym.ATerm d) ts r (vs.1.0 vs.0)
term_all source d (and x (and y none)) = term_derives source d x y

unsigned_all : (source : Source) (d : ℕ) (t : Token) (ts : List Token) (p : kind_is w.Plus t.kind ≡ false)
    (n : kind_is w.Minus t.kind ≡ false) {r : List Token}
    {vs : Values (sym.AFactor d ∷ sym.MoreFactors d ∷ sym.MoreTerms d ∷ [])}
    → DerivesAll source.text.now IsNestable (sym.AFactor d ∷ sym.MoreFactors d ∷ sym.MoreTerms d ∷ []) (t ∷ ts) r vs
    → Derives source.text.now IsNestable (sym.ASimple d) (t ∷ ts) r (vs.1.1.0 (vs.1.0 vs.0))
unsigned_all source d t ts p n (and x (and y (and z none))) = unsigned_derives source d t ts p n x y z

target_all : (source : Source) (d : ℕ) (t : Token) (ts : List Token) (o : kind_is w.Open t.kind ≡ false)
    (c : kind_is w.Becomes t.kind ≡ false) (e : RowEntry (SelectorRow d)) (f : look (selector_rows d) t.kind ≡ Some e)
    {r : List Token} {vs : Values (sym.Selectors d ∷ sym.AToken w.Becomes ∷ sym.AnExpression d ∷ [])}
    → DerivesAll source.text.now IsNestable (sym.Selectors d ∷ sym.AToken w.Becomes ∷ sym.AnExpression d ∷ [])
    (t ∷ ts) r vs
    → Derives source.text.now IsNestable (sym.AfterName d) (t ∷ ts) r
    (λ n. tree.Assign (tree.Entire n vs.0) vs.1.1.0)
target_all source d t ts o c e f (and a (and b (and y none))) = target_derives source d t ts o c e f a b y

arm_all : (source : Source) (d : ℕ) (t : Token) (ts : List Token) (n : kind_is w.End t.kind ≡ false) {r : List Token}
    {vs : Values (sym.AConstant ∷ sym.MoreLabels ∷ sym.AStatement d ∷ sym.MoreArms d ∷ [])}
    → DerivesAll source.text.now IsNestable
    (sym.AConstant ∷ sym.MoreLabels ∷ sym.AStatement d ∷ sym.MoreArms d ∷ []) (t ∷ ts) r vs
    → Derives source.text.now IsNestable (sym.ArmOrEnd d) (t ∷ ts) r
    (tree.Or (tree.On (vs.0 ∷ vs.1.0) vs.1.1.0) vs.1.1.1.0)
arm_all source d t ts n (and a (and b (and y (and z none)))) = arm_derives_at source d t ts n a b y z

module _ {V : Type 0} {source : Source} {l : List Symbol} {of : Values l → V} where
  -- a symbol that takes a name goes on as that name
  pub name_turn : {s : Symbol} {p : List Symbol} (row : Row s kind.Name p)
      → look (rows s) kind.Name ≡ Some (row_entry kind.Name p row) → part s ≡ None
      → (value : Values (sym.AName ∷ p) → Value s)
      → ((t : Token) (vs : Values p) → value (name_of source.text.now t, vs) ≡ build source.text.now row t vs)
      → (m : List Symbol) {gives : Values (s ∷ m) → V} {old mid new : Tokens} {t : Token}
      → Pending source l of (s ∷ m) gives old mid → Looks source mid new t
      → (new.failed ≡ None → kind_is kind.Name t.kind ≡ false → look (rows s) t.kind ≡ None) → gap s t ≡ None
      → Pending source l of ((sym.AName ∷ p) ++ m)
      (λ vs. gives (value (split (sym.AName ∷ p) m vs).0, (split (sym.AName ∷ p) m vs).1)) old new
  name_turn {s = s} {p = p} row found whole value e m {t = t} a b other g = turn_at (sym.AName ∷ p) m value a b
      (λ fine u q. named_leads source s p row found whole t u (kind_is kind.Name t.kind) refl (other fine) g q)
      (λ fine u r vs d. named_derives source row found whole value e d)

  pub name_turn_at : {s : Symbol} {p : List Symbol} (row : Row s kind.Name p)
      → look (rows s) kind.Name ≡ Some (row_entry kind.Name p row) → part s ≡ None
      → (value : Values (sym.AName ∷ p) → Value s)
      → ((t : Token) (vs : Values p) → value (name_of source.text.now t, vs) ≡ build source.text.now row t vs)
      → (m : List Symbol) {gives : Values (s ∷ m) → V} {old mid new : Tokens} {t : Token}
      → Pending source l of (s ∷ m) gives old mid → Looks source mid new t → t.kind ≡ kind.Name → gap s t ≡ None
      → Pending source l of ((sym.AName ∷ p) ++ m)
      (λ vs. gives (value (split (sym.AName ∷ p) m vs).0, (split (sym.AName ∷ p) m vs).1)) old new
  name_turn_at row found whole value e m {t = t} a b same g =
      name_turn row found whole value e m a b (λ _ n. is_name t same n) g

  -- an expression

  pub expression_turn : (d inner : ℕ) {m : List Symbol} {gives : Values (sym.AnExpression d ∷ m) → V}
      {old new : Tokens} → inner ≡ suc d → d < nesting → Pending source l of (sym.AnExpression d ∷ m) gives old new
      → Pending source l of (sym.ASimple inner ∷ sym.ARelation inner ∷ m) (λ vs. gives (vs.1.0 vs.0, vs.1.1)) old new
  expression_turn d inner {m} {gives} {old} {new} p b a =
      subst (λ n. Pending source l of (sym.ASimple n ∷ sym.ARelation n ∷ m) (λ vs. gives (vs.1.0 vs.0, vs.1.1)) old new)
      (back_of p)
      (turn (sym.ASimple (suc d) ∷ sym.ARelation (suc d) ∷ []) m (λ vs. vs.1.0 vs.0) a
      (λ _ q. expression_leads source d new.rest.now b q) (λ _ r vs x. expression_all source d b x))

  -- a term

  pub read_term : (d : ℕ) {m : List Symbol} {gives : Values (sym.ATerm d ∷ m) → V} {v : tree.Expression}
      {old mid new : Tokens} → Pending source l of (sym.ATerm d ∷ m) gives old mid
      → Pending source (term d).symbols (term d).makes [] (λ _. v) mid new
      → Pending source l of m (λ ws. gives (v, ws)) old new
  read_term d {mid = mid} a h = read a (go_on (turn (sym.AFactor d ∷ sym.MoreFactors d ∷ []) [] (λ vs. vs.1.0 vs.0)
      (begin a.ready) (λ _ q. term_leads source d mid.rest.now q) (λ _ r vs x. term_all source d x)) h (λ us. refl))

  -- a simple expression

  pub unsigned : (d : ℕ) {m : List Symbol} {gives : Values (sym.ASimple d ∷ m) → V} {old mid new : Tokens} {t : Token}
      → Pending source l of (sym.ASimple d ∷ m) gives old mid → Looks source mid new t → IsSign t None
      → Pending source l of (sym.AFactor d ∷ sym.MoreFactors d ∷ sym.MoreTerms d ∷ m)
      (λ vs. gives (vs.1.1.0 (vs.1.0 vs.0), vs.1.1.1)) old new
  unsigned d {m = m} {t = t} a b s = turn_at (sym.AFactor d ∷ sym.MoreFactors d ∷ sym.MoreTerms d ∷ []) m
      (λ vs. vs.1.1.0 (vs.1.0 vs.0)) a b (λ _ u q. unsigned_leads source d t u s.0 s.1 q)
      (λ _ u r vs x. unsigned_all source d t u s.0 s.1 x)

  pub signed : (d : ℕ) (o : UnaryOp) {m : List Symbol} {gives : Values (sym.ASimple d ∷ m) → V}
      {old mid seen new : Tokens} {t : Token} → Pending source l of (sym.ASimple d ∷ m) gives old mid
      → Looks source mid seen t → IsSign t (Some o) → Skips source seen new
      → Pending source l of (sym.ATerm d ∷ sym.MoreTerms d ∷ m)
      (λ vs. gives (vs.1.0 (tree.ExpressionAt t.at (tree.Unary o vs.0)), vs.1.1)) old new
  signed d unary.Plus {m = m} {t = t} a b s c = take_row m (row.simple row.simple_plus) refl refl tt s (look_at a b)
      (took (some_kind t (sym.ASimple d) (row.simple row.simple_plus) refl refl s) b c)
  signed d unary.Minus {m = m} {t = t} a b s c = take_row m (row.simple row.simple_minus) refl refl tt s (look_at a b)
      (took (some_kind t (sym.ASimple d) (row.simple row.simple_minus) refl refl s) b c)
  signed d o a b s c = absurd s

  -- behind `not`
  pub negated_turn : (d inner : ℕ) {m : List Symbol} {gives : Values (sym.ANegated d ∷ m) → V} {old new : Tokens}
      → inner ≡ suc d → d < nesting → Pending source l of (sym.ANegated d ∷ m) gives old new
      → Pending source l of (sym.AFactor inner ∷ m) gives old new
  negated_turn d inner {m} {gives} {old} {new} p b a =
      subst (λ n. Pending source l of (sym.AFactor n ∷ m) gives old new) (back_of p)
      (turn (sym.AFactor (suc d) ∷ []) m (λ vs. vs.0) a (λ _ q. negated_leads source d new.rest.now b q)
      (λ _ r vs x. negated_derives source d b (head x)))

  -- a variable
  pub variable_turn : (d : ℕ) {m : List Symbol} {gives : Values (sym.AReference d ∷ m) → V} {old mid new : Tokens}
      → Pending source l of (sym.AReference d ∷ m) gives old mid → Differs source w.Open mid new
      → Pending source l of (sym.Selectors d ∷ m) (λ vs. gives ((λ n. tree.Read (tree.Entire n vs.0)), vs.1)) old new
  variable_turn d {m = m} a h = turn_at (sym.Selectors d ∷ []) m (λ vs. λ n. tree.Read (tree.Entire n vs.0)) a h.looks
      (λ fine u q. reference_leads_at source d h.token u (h.differs fine) q)
      (λ fine u r vs x. reference_derives_at source d h.token u (h.differs fine) (head x))

  -- an assignment to a part of a variable

  pub target_turn : (d : ℕ) {m : List Symbol} {gives : Values (sym.AfterName d ∷ m) → V} {old mid new : Tokens}
      {t : Token} → Pending source l of (sym.AfterName d ∷ m) gives old mid → Looks source mid new t
      → kind_is w.Open t.kind ≡ false → kind_is w.Becomes t.kind ≡ false
      → is_some (look (selector_rows d) t.kind) ≡ true
      → Pending source l of (sym.Selectors d ∷ sym.AToken w.Becomes ∷ sym.AnExpression d ∷ m)
      (λ vs. gives ((λ n. tree.Assign (tree.Entire n vs.0) vs.1.1.0), vs.1.1.1)) old new
  target_turn d {m = m} {t = t} a b o c s =
      let (e, f) = some_of (look (selector_rows d) t.kind) s in
      turn_at (sym.Selectors d ∷ sym.AToken w.Becomes ∷ sym.AnExpression d ∷ []) m
      (λ vs. λ n. tree.Assign (tree.Entire n vs.0) vs.1.1.0) a b
      (λ _ u q. target_leads source d t u o c e f q)
      (λ _ u r vs x. target_all source d t u o c e f x)

  -- an arm behind a semicolon

  pub arm_turn : (d : ℕ) {m : List Symbol} {gives : Values (sym.ArmOrEnd d ∷ m) → V} {old mid new : Tokens}
      → Pending source l of (sym.ArmOrEnd d ∷ m) gives old mid → Differs source w.End mid new
      → Pending source l of (sym.AConstant ∷ sym.MoreLabels ∷ sym.AStatement d ∷ sym.MoreArms d ∷ m)
      (λ vs. gives (tree.Or (tree.On (vs.0 ∷ vs.1.0) vs.1.1.0) vs.1.1.1.0, vs.1.1.1.1)) old new
  arm_turn d {m = m} a h = turn_at (sym.AConstant ∷ sym.MoreLabels ∷ sym.AStatement d ∷ sym.MoreArms d ∷ []) m
      (λ vs. tree.Or (tree.On (vs.0 ∷ vs.1.0) vs.1.1.0) vs.1.1.1.0) a h.looks
      (λ fine u q. arm_leads_at source d h.token u (h.differs fine) q)
      (λ fine u r vs x. arm_all source d h.token u (h.differs fine) x)

  -- a block
  pub block_turn : (d inner : ℕ) {m : List Symbol} {gives : Values (sym.ABlock d ∷ m) → V} {old new : Tokens}
      → inner ≡ suc d → d < nesting → Pending source l of (sym.ABlock d ∷ m) gives old new
      → Pending source l of (sym.Parts inner ∷ m) gives old new
  block_turn d inner {m} {gives} {old} {new} p b a =
      subst (λ n. Pending source l of (sym.Parts n ∷ m) gives old new) (back_of p)
      (turn (sym.Parts (suc d) ∷ []) m (λ vs. vs.0) a (λ _ q. block_leads source d new.rest.now b q)
      (λ _ r vs x. block_derives source d b (head x)))

  -- the declarations behind those of one kind
  pub parts_turn : (d : ℕ) {s : Symbol} (lift : (e : RowEntry (PartsRow d)) → Row s e.key e.left)
      (value : tree.Block → Value s)
      → ((e : RowEntry (PartsRow d)) (t : Token) (us : Values e.left)
      → build source.text.now (lift e) t us ≡ value (build source.text.now (row.parts e.row) t us))
      → (m : List Symbol) {gives : Values (s ∷ m) → V} {old mid new : Tokens} {t : Token}
      → Pending source l of (s ∷ m) gives old mid → Looks source mid new t
      → look (rows s) t.kind ≡ look (map (λ (e : RowEntry (PartsRow d)). row_entry e.key e.left (lift e))
      (parts_rows d)) t.kind
      → gap s t ≡ None → part s ≡ None
      → Pending source l of (sym.Parts d ∷ m) (λ vs. gives (value vs.0, vs.1)) old new
  parts_turn d {s} lift value builds m {t = t} a b same g whole =
      let found : look (rows s) t.kind ≡ lifted (λ (e : RowEntry (PartsRow d)). row_entry e.key e.left (lift e))
      (look (parts_rows d) t.kind) = same ∙ look_map (λ e. row_entry e.key e.left (lift e)) (λ e. refl) (parts_rows d)
      t.kind in
      let parts : look (rows (sym.Parts d)) t.kind
      ≡ lifted (λ (e : RowEntry (PartsRow d)). row_entry e.key e.left (row.parts e.row)) (look (parts_rows d) t.kind) =
      look_map (λ e. row_entry e.key e.left (row.parts e.row)) (λ e. refl) (parts_rows d) t.kind in
      turn_at (sym.Parts d ∷ []) m (λ vs. value vs.0) a b
      (λ _ u q. bare_leads source (PartsRow d) s (sym.Parts d) lift (λ e. row.parts e.row) t u
      (look (parts_rows d) t.kind) found parts g refl (ap (allows (Some nesting)) whole) refl q)
      (λ _ u r vs x. bare_derives source (PartsRow d) s (sym.Parts d) lift (λ e. row.parts e.row) value builds t u r
      (look (parts_rows d) t.kind) found parts refl
      (subst (λ p. MayBegin IsNestable p (t ∷ u)) (back_of whole) tt) (head x))
