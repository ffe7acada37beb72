-- How the rows of the table are used: a symbol that takes a token, and symbols that have the rows of others.
use Rattle.std.proofs.Common.{◌≡◌, ℕ, suc, Bool, true, false, cond, List, [], ◌∷◌, ◌++◌, map, Option, Some, None}
use Rattle.std.proofs.Common.{refl, sym as back_of, ap, ◌∙◌, subst, append_assoc}
use Rattle.sp_base.specs.declared.rule.Rule.TheVariants as rule
use Rattle.sp_tree.specs.declared.token.Token.{Token}
use Rattle.sp_tree.specs.declared.token.Kind.{Kind}
use Rattle.sp_tree.specs.declared.token.Kind.TheVariants as kind
use Rattle.sp_tree.specs.declared.operators.BinaryOp.{BinaryOp}
use Rattle.sp_tree.specs.Words as w
use Rattle.sp_tree.specs.Breaches.{nesting}
use Rattle.sp_tree.specs.Symbols.{Symbol, Value, Values, split, part, AnExpression, ARelation, ANegated, MoreFactors}
use Rattle.sp_tree.specs.Symbols.{MoreTerms, AValue, AConstant, ABlock}
use Rattle.sp_tree.specs.Table.{RowEntry, Row, row_entry, rows, look, gap, build, kind_is, FactorRow, SimpleRow}
use Rattle.sp_tree.specs.Table.{factor_rows, simple_rows, parts_rows, PartsRow, simple_factor, expression, negated}
use Rattle.sp_tree.specs.Table.{block}
use Rattle.sp_tree.specs.SymbolMachine.{allows}
use Rattle.sp_tree.specs.Derives.{PartMayBegin as MayBegin, Derives, takes, skips, DerivesAll, none, and}
use Rattle.sp_tree.proofs.FromTable.{kind_is-true}
use Rattle.sp_parse.specs.declared.source.Source.{Source}
use Rattle.sp_parse.specs.Reads.{IsNestable, breaks}
use Rattle.sp_parse.specs.Operators.{IsOperator, is_some, BeginsFactor, BeginsSimple, BeginsBlock}
use Rattle.sp_parse.proofs.Steps.{step_takes, step_fails, step_deep, step_skips}

-- the kind that a test found
pub kind_at : {b : Bool} (t : Token) (k : Kind) → b ≡ kind_is k t.kind → b ≡ true → t.kind ≡ k
kind_at t k e h = back_of (kind_is-true k t.kind (back_of e ∙ h))

pub other_at : {b : Bool} (t : Token) (k : Kind) → b ≡ kind_is k t.kind → b ≡ false → kind_is k t.kind ≡ false
other_at t k e h = back_of e ∙ h

-- a token is an operator
pub operator_is : (Is : Kind → BinaryOp → Type 0) (tail : ℕ → Symbol) (t : Token) (o : BinaryOp) {b : Bool} (k : Kind)
    → Is k o → b ≡ kind_is k t.kind → b ≡ true → IsOperator Is tail t (Some o)
operator_is Is tail t o k c e h = (k, c, kind_at t k e h)

-- the rows of one list, as rows of another
abbrev pub lifted : {R S : Kind → List Symbol → Type 0} → (RowEntry R → RowEntry S) → Option (RowEntry R)
    → Option (RowEntry S)
lifted f None = None
lifted f (Some e) = Some (f e)

look_by : {R S : Kind → List Symbol → Type 0} (f : RowEntry R → RowEntry S) (e : RowEntry R) (k : Kind) (b : Bool)
    (rest : Option (RowEntry S)) (more : Option (RowEntry R)) → rest ≡ lifted f more
    → cond b (Some (f e)) rest ≡ lifted f (cond b (Some e) more)
look_by f e k true rest more h = refl
look_by f e k false rest more h = h

pub look_map : {R S : Kind → List Symbol → Type 0} (f : RowEntry R → RowEntry S)
    → ((e : RowEntry R) → (f e).key ≡ e.key)
    → (es : List (RowEntry R)) (k : Kind) → look (map f es) k ≡ lifted f (look es k)
look_map f same [] k = refl
look_map f same (e ∷ es) k = ap (λ j. cond (kind_is j k) (Some (f e)) (look (map f es) k)) (same e)
    ∙ look_by f e k (kind_is e.key k) (look (map f es) k) (look es k) (look_map f same es k)

pub some_lifted : {R S : Kind → List Symbol → Type 0} (f : RowEntry R → RowEntry S) (o : Option (RowEntry R))
    → is_some (lifted f o) ≡ is_some o
some_lifted f None = refl
some_lifted f (Some e) = refl

pub after_two : {A : Type 0} {x y : Bool} (a b o : Option A) → x ≡ false → y ≡ false → cond x a (cond y b o) ≡ o
after_two {y = y} a b o p m = ap (λ x. cond x a (cond y b o)) p ∙ ap (λ y. cond y b o) m

abbrev as_simple : (d : ℕ) → RowEntry (FactorRow d) → RowEntry (SimpleRow d)
as_simple d e = row_entry e.key (e.left ++ MoreFactors d ∷ MoreTerms d ∷ []) (simple_factor e.row)

pub begins_simple_is : (t : Token) (b : Bool) → kind_is w.Plus t.kind ≡ false → kind_is w.Minus t.kind ≡ false
    → BeginsFactor t b → (d : ℕ) → is_some (look (simple_rows d) t.kind) ≡ b
begins_simple_is t b p m h d =
    let skip : look (simple_rows d) t.kind ≡ look (map (as_simple d) (factor_rows d)) t.kind =
    after_two _ _ (look (map (as_simple d) (factor_rows d)) t.kind) p m in
    let same : look (map (as_simple d) (factor_rows d)) t.kind ≡ lifted (as_simple d) (look (factor_rows d) t.kind) =
    look_map (as_simple d) (λ e. refl) (factor_rows d) t.kind in
    ap is_some skip ∙ ap is_some same ∙ some_lifted (as_simple d) (look (factor_rows d) t.kind) ∙ h d

-- values one after another
abbrev pub join : (l m : List Symbol) → Values l → Values m → Values (l ++ m)
join [] m vs us = us
join (s ∷ l) m vs us = (vs.0, join l m vs.1 us)

pub split_join : (l m : List Symbol) (vs : Values l) (us : Values m) → split l m (join l m vs us) ≡ (vs, us)
split_join [] m vs us = refl
split_join (s ∷ l) m vs us = ap (λ p. ((vs.0, p.0), p.1)) (split_join l m vs.1 us)

pub join_all : {text : List ℕ} (l m : List Symbol) {ts u r : List Token} {vs : Values l} {us : Values m}
    → DerivesAll text IsNestable l ts u vs → DerivesAll text IsNestable m u r us
    → DerivesAll text IsNestable (l ++ m) ts r (join l m vs us)
join_all [] m none b = b
join_all (s ∷ l) m (and x a) b = and x (join_all l m a b)

pub clash : {A : Type 0} {x : A} (X : Type 0) (o : Option A) → o ≡ Some x → o ≡ None → X
clash X o p q = absurd cc

-- A symbol with the rows of another one, and further symbols behind it.
module _ (source : Source) (R : Kind → List Symbol → Type 0) (s a : Symbol) (m : List Symbol)
    (lift_s : (e : RowEntry R) → Row s e.key (e.left ++ m)) (lift_a : (e : RowEntry R) → Row a e.key e.left) where
  abbrev entry_s : RowEntry R → RowEntry (Row s)
  entry_s e = row_entry e.key (e.left ++ m) (lift_s e)

  abbrev entry_a : RowEntry R → RowEntry (Row a)
  entry_a e = row_entry e.key e.left (lift_a e)

  pub copy_leads : (t : Token) (ts : List Token) (o : Option (RowEntry R)) → look (rows s) t.kind ≡ lifted entry_s o
      → look (rows a) t.kind ≡ lifted entry_a o → gap s t ≡ None → gap a t ≡ None
      → allows (Some nesting) (part s) ≡ true → allows (Some nesting) (part a) ≡ true → (q : List Symbol)
      → breaks source (t ∷ ts) (s ∷ q) ≡ breaks source (t ∷ ts) (a ∷ m ++ q)
  copy_leads t ts None x y g h b c q = step_fails source s t ts x g q ∙ back_of (step_fails source a t ts y h (m ++ q))
  copy_leads t ts (Some e) x y g h b c q = step_takes source s t ts (entry_s e) x b q
      ∙ ap (breaks source ts) (append_assoc e.left m q) ∙ back_of (step_takes source a t ts (entry_a e) y c (m ++ q))

  -- where the other one takes its token
  pub copied_leads : (t : Token) (ts : List Token) (e : RowEntry R) → look (rows s) t.kind ≡ Some (entry_s e)
      → look (rows a) t.kind ≡ Some (entry_a e) → allows (Some nesting) (part s) ≡ true
      → allows (Some nesting) (part a) ≡ true → (q : List Symbol)
      → breaks source (t ∷ ts) (s ∷ q) ≡ breaks source (t ∷ ts) (a ∷ m ++ q)
  copied_leads t ts e x y b c q = step_takes source s t ts (entry_s e) x b q
      ∙ ap (breaks source ts) (append_assoc e.left m q) ∙ back_of (step_takes source a t ts (entry_a e) y c (m ++ q))

  module _ (combine : Value a → Values m → Value s)
      (builds : (e : RowEntry R) (t : Token) (us : Values e.left) (ws : Values m)
      → build source.text.now (lift_s e) t (join e.left m us ws)
      ≡ combine (build source.text.now (lift_a e) t us) ws) where
    abbrev text : List ℕ
    text = source.text.now

    by_entry : (t : Token) (ts u r : List Token) (ws : Values m) (e' : RowEntry R)
        → look (rows s) t.kind ≡ Some (entry_s e') → MayBegin IsNestable (part s) (t ∷ ts)
        → DerivesAll text IsNestable m u r ws
        → (e : RowEntry (Row a)) → entry_a e' ≡ e → (vs : Values e.left) → DerivesAll text IsNestable e.left ts u vs
        → Derives text IsNestable s (t ∷ ts) r (combine (build text e.row t vs) ws)
    by_entry t ts u r ws e' x b y e q = subst
        (λ e. (vs : Values e.left) → DerivesAll text IsNestable e.left ts u vs
        → Derives text IsNestable s (t ∷ ts) r (combine (build text e.row t vs) ws)) q
        (λ vs d. subst (Derives text IsNestable s (t ∷ ts) r) (builds e' t vs ws)
        (takes t (entry_s e') x b (join_all e'.left m d y)))

    pub copy_derives : (t : Token) (ts u r : List Token) (ws : Values m) (o : Option (RowEntry R))
        → look (rows s) t.kind ≡ lifted entry_s o → look (rows a) t.kind ≡ lifted entry_a o → gap a t ≡ None
        → MayBegin IsNestable (part s) (t ∷ ts) → {v : Value a} → Derives text IsNestable a (t ∷ ts) u v
        → DerivesAll text IsNestable m u r ws → Derives text IsNestable s (t ∷ ts) r (combine v ws)
    copy_derives t ts u r ws None x y g b (takes t' e z p d) k = clash _ (look (rows a) t.kind) z y
    copy_derives t ts u r ws (Some e') x y g b (takes t' e z p d) k =
        by_entry t ts u r ws e' x b k e (let same : entry_a e' ≡ e = cc in same) _ d
    copy_derives t ts u r ws o x y g b (skips t' z h) k = clash _ (gap a t) h g

    pub copied_derives : (t : Token) (ts u r : List Token) (ws : Values m) (e' : RowEntry R)
        → look (rows s) t.kind ≡ Some (entry_s e') → look (rows a) t.kind ≡ Some (entry_a e')
        → MayBegin IsNestable (part s) (t ∷ ts) → {v : Value a} → Derives text IsNestable a (t ∷ ts) u v
        → DerivesAll text IsNestable m u r ws → Derives text IsNestable s (t ∷ ts) r (combine v ws)
    copied_derives t ts u r ws e' x y b (takes t' e z p d) k =
        by_entry t ts u r ws e' x b k e (let same : entry_a e' ≡ e = cc in same) _ d
    copied_derives t ts u r ws e' x y b (skips t' z h) k = clash _ (look (rows a) t.kind) y z

-- whether there is one
pub some_of : {A : Type 0} (o : Option A) → is_some o ≡ true → (x : A) × (o ≡ Some x)
some_of None h = absurd cc
some_of (Some x) h = (x, refl)

pub none_of : {A : Type 0} (o : Option A) → is_some o ≡ false → o ≡ None
none_of None h = refl
none_of (Some x) h = absurd cc

pub expression_rows : (t : Token) (b : Bool) → BeginsSimple t b → (d : ℕ)
    → is_some (look (rows (AnExpression d)) t.kind) ≡ b
expression_rows t b h d =
    let f : RowEntry (SimpleRow (suc d)) → RowEntry (Row (AnExpression d)) =
    λ e. row_entry e.key (e.left ++ ARelation (suc d) ∷ []) (expression e.row) in
    ap is_some (look_map f (λ e. refl) (simple_rows (suc d)) t.kind) ∙ some_lifted f (look (simple_rows (suc d)) t.kind)
    ∙ h (suc d)

pub negated_rows : (t : Token) (b : Bool) → BeginsFactor t b → (d : ℕ) → is_some (look (rows (ANegated d)) t.kind) ≡ b
negated_rows t b h d =
    let f : RowEntry (FactorRow (suc d)) → RowEntry (Row (ANegated d)) = λ e. row_entry e.key e.left (negated e.row) in
    ap is_some (look_map f (λ e. refl) (factor_rows (suc d)) t.kind) ∙ some_lifted f (look (factor_rows (suc d)) t.kind)
    ∙ h (suc d)

-- A symbol with the rows of another one.
module _ (source : Source) (R : Kind → List Symbol → Type 0) (s a : Symbol)
    (lift_s : (e : RowEntry R) → Row s e.key e.left) (lift_a : (e : RowEntry R) → Row a e.key e.left) where
  abbrev bare_s : RowEntry R → RowEntry (Row s)
  bare_s e = row_entry e.key e.left (lift_s e)

  abbrev bare_a : RowEntry R → RowEntry (Row a)
  bare_a e = row_entry e.key e.left (lift_a e)

  pub bare_leads : (t : Token) (ts : List Token) (o : Option (RowEntry R)) → look (rows s) t.kind ≡ lifted bare_s o
      → look (rows a) t.kind ≡ lifted bare_a o → gap s t ≡ None → gap a t ≡ None → allows (Some nesting) (part s) ≡ true
      → allows (Some nesting) (part a) ≡ true → (q : List Symbol)
      → breaks source (t ∷ ts) (s ∷ q) ≡ breaks source (t ∷ ts) (a ∷ q)
  bare_leads t ts None x y g h b c q = step_fails source s t ts x g q ∙ back_of (step_fails source a t ts y h q)
  bare_leads t ts (Some e) x y g h b c q = step_takes source s t ts (bare_s e) x b q
      ∙ back_of (step_takes source a t ts (bare_a e) y c q)

  module _ (turn : Value a → Value s) (builds : (e : RowEntry R) (t : Token) (us : Values e.left)
      → build source.text.now (lift_s e) t us ≡ turn (build source.text.now (lift_a e) t us)) where
    bare_entry : (t : Token) (ts r : List Token) (e' : RowEntry R) → look (rows s) t.kind ≡ Some (bare_s e')
        → MayBegin IsNestable (part s) (t ∷ ts) → (e : RowEntry (Row a)) → bare_a e' ≡ e → (vs : Values e.left)
        → DerivesAll source.text.now IsNestable e.left ts r vs
        → Derives source.text.now IsNestable s (t ∷ ts) r (turn (build source.text.now e.row t vs))
    bare_entry t ts r e' x b e q =
        subst (λ e. (vs : Values e.left) → DerivesAll source.text.now IsNestable e.left ts r vs
        → Derives source.text.now IsNestable s (t ∷ ts) r (turn (build source.text.now e.row t vs))) q
        (λ vs d. subst (Derives source.text.now IsNestable s (t ∷ ts) r) (builds e' t vs) (takes t (bare_s e') x b d))

    pub bare_derives : (t : Token) (ts r : List Token) (o : Option (RowEntry R))
        → look (rows s) t.kind ≡ lifted bare_s o
        → look (rows a) t.kind ≡ lifted bare_a o → gap a t ≡ None → MayBegin IsNestable (part s) (t ∷ ts)
        → {v : Value a}
        → Derives source.text.now IsNestable a (t ∷ ts) r v → Derives source.text.now IsNestable s (t ∷ ts) r (turn v)
    bare_derives t ts r None x y g b (takes t' e z p d) = clash _ (look (rows a) t.kind) z y
    bare_derives t ts r (Some e') x y g b (takes t' e z p d) =
        bare_entry t ts r e' x b e (let same : bare_a e' ≡ e = cc in same) _ d
    bare_derives t ts r o x y g b (skips t' z h) = clash _ (gap a t) h g

-- A symbol with the rows of another one, where both may stand for nothing.
module _ (source : Source) (R : Kind → List Symbol → Type 0) (s a : Symbol)
    (lift_s : (e : RowEntry R) → Row s e.key e.left) (lift_a : (e : RowEntry R) → Row a e.key e.left) where
  abbrev loose_s : RowEntry R → RowEntry (Row s)
  loose_s e = row_entry e.key e.left (lift_s e)

  abbrev loose_a : RowEntry R → RowEntry (Row a)
  loose_a e = row_entry e.key e.left (lift_a e)

  pub loose_leads : (t : Token) (ts : List Token) (o : Option (RowEntry R)) (vs : Value s) (va : Value a)
      → look (rows s) t.kind ≡ lifted loose_s o → look (rows a) t.kind ≡ lifted loose_a o → gap s t ≡ Some vs
      → gap a t ≡ Some va → allows (Some nesting) (part s) ≡ true → allows (Some nesting) (part a) ≡ true
      → (q : List Symbol) → breaks source (t ∷ ts) (s ∷ q) ≡ breaks source (t ∷ ts) (a ∷ q)
  loose_leads t ts None vs va x y g h b c q = step_skips source s t ts vs x g q
      ∙ back_of (step_skips source a t ts va y h q)
  loose_leads t ts (Some e) vs va x y g h b c q = step_takes source s t ts (loose_s e) x b q
      ∙ back_of (step_takes source a t ts (loose_a e) y c q)

  module _ (turn : Value a → Value s) (builds : (e : RowEntry R) (t : Token) (us : Values e.left)
      → build source.text.now (lift_s e) t us ≡ turn (build source.text.now (lift_a e) t us)) where
    loose_entry : (t : Token) (ts r : List Token) (e' : RowEntry R) → look (rows s) t.kind ≡ Some (loose_s e')
        → MayBegin IsNestable (part s) (t ∷ ts) → (e : RowEntry (Row a)) → loose_a e' ≡ e → (vs : Values e.left)
        → DerivesAll source.text.now IsNestable e.left ts r vs
        → Derives source.text.now IsNestable s (t ∷ ts) r (turn (build source.text.now e.row t vs))
    loose_entry t ts r e' x b e q =
        subst (λ e. (vs : Values e.left) → DerivesAll source.text.now IsNestable e.left ts r vs
        → Derives source.text.now IsNestable s (t ∷ ts) r (turn (build source.text.now e.row t vs))) q
        (λ vs d. subst (Derives source.text.now IsNestable s (t ∷ ts) r) (builds e' t vs) (takes t (loose_s e') x b d))

    pub loose_derives : (t : Token) (ts r : List Token) (o : Option (RowEntry R))
        → look (rows s) t.kind ≡ lifted loose_s o
        → look (rows a) t.kind ≡ lifted loose_a o → ((v : Value a) → gap a t ≡ Some v → gap s t ≡ Some (turn v))
        → MayBegin IsNestable (part s) (t ∷ ts) → {v : Value a} → Derives source.text.now IsNestable a (t ∷ ts) r v
        → Derives source.text.now IsNestable s (t ∷ ts) r (turn v)
    loose_derives t ts r None x y g b (takes t' e z p d) = clash _ (look (rows a) t.kind) z y
    loose_derives t ts r (Some e') x y g b (takes t' e z p d) =
        loose_entry t ts r e' x b e (let same : loose_a e' ≡ e = cc in same) _ d
    loose_derives t ts r None x y g b (skips t' z h) = skips t x (g _ h)
    loose_derives t ts r (Some e') x y g b (skips t' z h) = clash _ (look (rows a) t.kind) y z

-- no row fits
abbrev pub NoneIs : {R : Kind → List Symbol → Type 0} → List (RowEntry R) → Kind → Type 0
NoneIs [] k = Unit {0}
NoneIs (e ∷ es) k = (kind_is e.key k ≡ false) × NoneIs es k

pub none_at : {R : Kind → List Symbol → Type 0} (es : List (RowEntry R)) (k : Kind) → NoneIs es k → look es k ≡ None
none_at [] k h = refl
none_at (e ∷ es) k h = ap (λ b. cond b (Some e) (look es k)) h.0 ∙ none_at es k h.1

-- tokens with which no constant begins
pub no_value : (k : Kind) → (k ≡ kind.Name → ⊥) → (k ≡ kind.Number → ⊥) → look (rows AValue) k ≡ None
no_value kind.Name h g = absurd (h refl)
no_value kind.Number h g = absurd (g refl)
no_value k h g = refl

pub no_constant : (k : Kind) → (k ≡ kind.Name → ⊥) → (k ≡ kind.Number → ⊥) → (k ≡ kind.Text → ⊥)
    → kind_is w.Plus k ≡ false → kind_is w.Minus k ≡ false → look (rows AConstant) k ≡ None
no_constant kind.Name h g f p m = absurd (h refl)
no_constant kind.Number h g f p m = absurd (g refl)
no_constant kind.Text h g f p m = absurd (f refl)
no_constant (kind.Word a) h g f p m = refl
no_constant (kind.Sign a) h g f p m = after_two _ _ None p m

-- why no part may stand here
pub deep_at : (source : Source) (s : Symbol) (t : Token) (u : List Token) (b : Bool)
    → is_some (look (rows s) t.kind) ≡ b → allows (Some nesting) (part s) ≡ false → gap s t ≡ None → (q : List Symbol)
    → breaks source (t ∷ u) (s ∷ q) ≡ Some (record { rule = cond b rule.L2 rule.G1; at = t.at })
deep_at source s t u true h a g q = let (e, found) = some_of (look (rows s) t.kind) h in
    step_deep source s t u e found a q
deep_at source s t u false h a g q = step_fails source s t u (none_of (look (rows s) t.kind) h) g q

pub block_rows : (t : Token) (b : Bool) → BeginsBlock t b → (d : ℕ) → is_some (look (rows (ABlock d)) t.kind) ≡ b
block_rows t b h d =
    let f : RowEntry (PartsRow (suc d)) → RowEntry (Row (ABlock d)) = λ e. row_entry e.key e.left (block e.row) in
    ap is_some (look_map f (λ e. refl) (parts_rows (suc d)) t.kind) ∙ some_lifted f (look (parts_rows (suc d)) t.kind)
    ∙ h (suc d)
