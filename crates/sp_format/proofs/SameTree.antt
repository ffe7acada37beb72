-- The canonical text of a program spells the same tree but for places.
use Rattle.std.proofs.Common.{◌≡◌, ℕ, suc, ◌-◌, List, [], ◌∷◌, ◌++◌, length, length-append, append_assoc, take, drop}
use Rattle.std.proofs.Common.{true, false, Option, Some, None, refl, sym as back_of, ap, ap₂, ◌∙◌, subst, arith}
use Rattle.std.proofs.Math.Seq.{drop-append_seam}
use Rattle.sp_base.specs.declared.place.Place.{Place}
use Rattle.sp_tree.specs.declared.token.Token.{Token}
use Rattle.sp_tree.specs.declared.token.Kind.{Kind}
use Rattle.sp_tree.specs.declared.token.Kind.TheVariants as kind
use Rattle.sp_tree.specs.declared.operators.UnaryOp.TheVariants as unary
use Rattle.sp_tree.specs.declared.syntax.Name.{Name}
use Rattle.sp_tree.specs.declared.syntax.SynKind.TheVariants as kinds
use Rattle.sp_tree.specs.declared.syntax.SynValue.TheVariants as value
use Rattle.sp_tree.specs.Words as w
use Rattle.sp_tree.specs.Grammar.{with_place, with_part_first}
use Rattle.sp_tree.specs.Spelling.{spelling, name_of, number_of, quoted_of, digits_value, within_quotes}
use Rattle.sp_tree.specs.PlainSyntax as tree
use Rattle.sp_tree.specs.PlainSyntax.{Program}
use Rattle.sp_tree.specs.Viable.{Any, Spells}
use Rattle.sp_tree.specs.Scans as s
use Rattle.sp_tree.specs.Scans.{Scans, IsTokens, offset, token_from}
use Rattle.sp_tree.specs.Breaches.{IsTree}
use Rattle.sp_tree.specs.Symbols as sym
use Rattle.sp_tree.specs.Symbols.{Symbol, Value, Values, part, split}
use Rattle.sp_tree.specs.Table as row
use Rattle.sp_tree.specs.Table.{ConstantRow, PartsRow, FormRow, SelectorRow, FactorRow, SimpleRow, Row, rows}
use Rattle.sp_tree.specs.Table.{look, gap, build, constant_value, parts_value, form_value, selector_value}
use Rattle.sp_tree.specs.Table.{factor_value, simple_value}
use Rattle.sp_tree.specs.Derives.{PartMayBegin, Derives, takes, skips, DerivesAll, none, and}
use Rattle.sp_tree.proofs.FromTable.{found, from}
use Rattle.sp_tree.proofs.ToTable as to
use Rattle.sp_tree.proofs.OneList.{Tail, here, there, lexeme_tail, one_list}
use Rattle.sp_parse.proofs.TokenBounds.{Tail as Front, more, comment_tail}
use Rattle.sp_format.specs.Items as i
use Rattle.sp_format.specs.Items.{Item, HasItems, item, canonical_spelling, front}
use Rattle.sp_format.specs.Formats.{IsCanonical}
use Rattle.sp_format.specs.SameTrees.{at_places, SpellsAlike}
use Rattle.sp_format.proofs.Follows.{canonical_items}
use Rattle.sp_format.proofs.Accepts.{accepted}

-- ---- what tokens say of two texts

module _ (text other : List ℕ) where
  -- two tokens of one kind say the same
  abbrev SaySame : Kind → Token → Token → Type 0
  SaySame kind.Name t u = name_of text t ≡ name_of other u
  SaySame kind.Number t u = number_of text t ≡ number_of other u
  SaySame kind.Text t u = quoted_of text t ≡ quoted_of other u
  SaySame k t u = Unit {0}

  record Like (t u : Token) : Type 0 where
    kind : t.kind ≡ u.kind
    at : t.at ≡ u.at
    says : SaySame t.kind t u

  abbrev AllLike : List Token → List Token → Type 0
  AllLike [] [] = Unit {0}
  AllLike [] (u ∷ us) = ⊥
  AllLike (t ∷ ts) [] = ⊥
  AllLike (t ∷ ts) (u ∷ us) = Like t u × AllLike ts us

  -- ---- a row gives the same of both

  module _ (t u : Token) (at : t.at ≡ u.at) where
    constant_like : {k : Kind} {l : List Symbol} (c : ConstantRow k l) → SaySame k t u → (vs : Values l)
        → constant_value text c t vs ≡ constant_value other c u vs
    constant_like row.constant_number h vs =
        ap₂ (λ (p : Place) n. record { at = p; negative = None; value = value.Number n }) at h
    constant_like row.constant_name h vs = ap₂
        (λ (p : Place) (n : Name). record { at = p; negative = None; value = value.Named n }) at h
    constant_like row.constant_text h vs = ap₂
        (λ (p : Place) (n : List ℕ). record { at = p; negative = None; value = value.Quoted n }) at h
    constant_like row.constant_plus h vs = ap (λ (p : Place). record { at = p; negative = Some false; value = vs.0 }) at
    constant_like row.constant_minus h vs = ap (λ (p : Place). record { at = p; negative = Some true; value = vs.0 }) at

    parts_like : {d : ℕ} {k : Kind} {l : List Symbol} (c : PartsRow d k l) (vs : Values l)
        → parts_value text c t vs ≡ parts_value other c u vs
    parts_like row.parts_begin (s, (ss, e)) =
        ap (λ (p : Place). record { parts = tree.NoPart; body = tree.Does p (tree.Sequence (tree.AndThen s ss)) }) at
    parts_like _ _ = refl

    form_like : {d : ℕ} {k : Kind} {l : List Symbol} (c : FormRow d k l) → SaySame k t u → (vs : Values l)
        → form_value text c t vs ≡ form_value other c u vs
    form_like row.form_name h (f, v) = ap f h
    form_like _ _ _ = refl

    selector_like : {d : ℕ} {k : Kind} {l : List Symbol} (c : SelectorRow d k l) (vs : Values l)
        → selector_value text c t vs ≡ selector_value other c u vs
    selector_like row.selector_index (e, (ss, v)) = refl
    selector_like row.selector_field (n, (ss, v)) = refl

    factor_like : {d : ℕ} {k : Kind} {l : List Symbol} (c : FactorRow d k l) → SaySame k t u → (vs : Values l)
        → factor_value text c t vs ≡ factor_value other c u vs
    factor_like row.factor_number h vs = ap₂ (λ (p : Place) n. tree.ExpressionAt p (tree.Number n)) at h
    factor_like row.factor_text h vs = ap₂ (λ (p : Place) (n : List ℕ). tree.ExpressionAt p (tree.Quoted n)) at h
    factor_like row.factor_name h (f, v) = ap₂ (λ (p : Place) (n : Name). tree.ExpressionAt p (f n)) at h
    factor_like row.factor_open h (e, v) = ap (λ (p : Place). with_place p e) at
    factor_like row.factor_not h (e, v) = ap (λ (p : Place). tree.ExpressionAt p (tree.Unary unary.Not e)) at

    simple_like : {d : ℕ} {k : Kind} {l : List Symbol} (c : SimpleRow d k l) → SaySame k t u → (vs : Values l)
        → simple_value text c t vs ≡ simple_value other c u vs
    simple_like (row.simple_factor {d = d} {l = l} c) h vs =
        let (own, (factors, (terms, _))) = split l (sym.MoreFactors d ∷ sym.MoreTerms d ∷ []) vs in
        ap (λ x. terms (factors x)) (factor_like c h own)
    simple_like row.simple_plus h (a, (f, v)) = ap (λ (p : Place). f (tree.ExpressionAt p (tree.Unary unary.Plus a))) at
    simple_like row.simple_minus h (a, (f, v)) =
        ap (λ (p : Place). f (tree.ExpressionAt p (tree.Unary unary.Minus a))) at

    build_like : {q : Symbol} {k : Kind} {l : List Symbol} (c : Row q k l) → SaySame k t u → (vs : Values l)
        → build text c t vs ≡ build other c u vs
    build_like row.token h vs = refl
    build_like row.name h vs = h
    build_like row.program h (n, (x, (s, (b, v)))) = refl
    build_like row.heading h (n, (ns, v)) = refl
    build_like row.next_name h (n, (ns, v)) = refl
    build_like (row.constant c) h vs = constant_like c h vs
    build_like row.value_number h vs = ap (λ n. value.Number n) h
    build_like row.value_name h vs = ap (λ (n : Name). value.Named n) h
    build_like row.alias h vs = ap (λ (n : Name). kinds.Alias n) h
    build_like row.enumeration h (n, (ns, v)) = refl
    build_like row.array h (o, (low, (p, (high, (c, (x, (n, v))))))) = refl
    build_like row.fields h (n, (ns, (c, (k, (gs, v))))) = refl
    build_like row.channel h (o, (n, (ns, v))) = refl
    build_like row.fields_end h vs = refl
    build_like row.fields_go_on h (gs, v) = refl
    build_like row.no_field h vs = refl
    build_like row.next_field h (ns, (c, (k, (gs, v)))) = ap (λ (n : Name). record { names = n ∷ ns; kind = k } ∷ gs) h
    build_like row.by_value h (ns, (c, (k, v))) =
        ap (λ (n : Name). record { by_reference = false; names = n ∷ ns; kind = k }) h
    build_like row.by_reference h (n, (ns, (c, (k, v)))) = refl
    build_like row.formals_end h vs = refl
    build_like row.next_formal h (f, (fs, v)) = refl
    build_like row.formals h (f, (fs, v)) = refl
    build_like (row.block c) h vs = parts_like c vs
    build_like (row.parts c) h vs = parts_like c vs
    build_like (row.after_constants c) h vs = parts_like c vs
    build_like row.next_constant h (e, (c, (s, (b, v)))) = ap (λ (n : Name). with_part_first (tree.Const n c) b) h
    build_like (row.after_types c) h vs = parts_like c vs
    build_like row.next_type h (e, (c, (s, (b, v)))) = ap (λ (n : Name). with_part_first (tree.Kind n c) b) h
    build_like (row.after_variables c) h vs = parts_like c vs
    build_like row.next_variable h (ns, (c, (k, (s, (b, v))))) =
        ap (λ (n : Name). with_part_first (tree.Var (n ∷ ns) k) b) h
    build_like (row.statement c) h vs = ap₂ (λ (p : Place) f. tree.Does p f) at (form_like c h vs)
    build_like row.becomes h (e, v) = refl
    build_like (row.target {d = d} {l = l} c) h vs =
        let (own, (_, (e, _))) = split l (sym.AToken w.Becomes ∷ sym.AnExpression d ∷ []) vs in
        ap (λ x. λ n. tree.Assign (tree.Entire n x) e) (selector_like c own)
    build_like row.call h (e, (m, (rest, v))) = refl
    build_like row.other h (s, v) = refl
    build_like row.next_statement h (s, (ss, v)) = refl
    build_like row.branches_end h vs = refl
    build_like row.next_branch h (s, (ss, (bs, v))) = refl
    build_like row.labels_end h vs = refl
    build_like row.next_label h (c, (cs, v)) = refl
    build_like row.arms_end h vs = refl
    build_like row.arms_go_on h (rest, v) = refl
    build_like row.no_arm h vs = refl
    build_like (row.next_arm {d = d} {l = l} c) h vs =
        let (own, (cs, (s, (arms, _)))) = split l (sym.MoreLabels ∷ sym.AStatement d ∷ sym.MoreArms d ∷ []) vs in
        ap (λ x. tree.Or (tree.On (x ∷ cs) s) arms) (constant_like c h own)
    build_like row.upward h vs = refl
    build_like row.downward h vs = refl
    build_like (row.expression {d = d} {l = l} c) h vs =
        let (own, (comparison, _)) = split l (sym.ARelation (suc d) ∷ []) vs in
        ap comparison (simple_like c h own)
    build_like (row.relation o) h (b, v) = refl
    build_like (row.simple c) h vs = simple_like c h vs
    build_like (row.next_term o) h (b, (f, v)) = refl
    build_like (row.term {d = d} {l = l} c) h vs =
        let (own, (factors, _)) = split l (sym.MoreFactors d ∷ []) vs in
        ap factors (factor_like c h own)
    build_like (row.next_factor o) h (b, (f, v)) = refl
    build_like (row.factor c) h vs = factor_like c h vs
    build_like (row.negated c) h vs = factor_like c h vs
    build_like row.arguments h (e, (m, (rest, v))) = refl
    build_like (row.reference c) h vs = ap (λ x. λ n. tree.Read (tree.Entire n x)) (selector_like c vs)
    build_like (row.selector c) h vs = selector_like c vs
    build_like row.indices_end h (ss, v) = refl
    build_like row.next_index h (e, (ss, v)) = refl
    build_like row.arguments_end h vs = refl
    build_like row.next_argument h (e, (m, (rest, v))) = refl
    build_like row.width h (e, v) = refl

    gap_like : (q : Symbol) → gap q t ≡ gap q u
    gap_like (sym.AStatement d) = ap (λ (p : Place). Some (tree.Does p tree.Empty)) at
    gap_like q = refl

  -- ---- what the tokens of the one derive, those of the other derive

  record DerivesLike (q : Symbol) (v : Value q) (us r : List Token) : Type 0 where
    left : List Token
    like : AllLike r left
    derived : Derives other Any q us left v

  record DerivesAllLike (l : List Symbol) (vs : Values l) (us r : List Token) : Type 0 where
    left : List Token
    like : AllLike r left
    derived : DerivesAll other Any l us left vs

  may_begin : (o : Option ℕ) (us : List Token) → PartMayBegin Any o us
  may_begin None us = tt
  may_begin (Some d) us = tt

  mutual
    derives : {q : Symbol} {ts r : List Token} {v : Value q} → Derives text Any q ts r v → (us : List Token)
        → AllLike ts us → DerivesLike q v us r
    derives (takes t e l b x) [] a = absurd a
    derives {q} (takes t e {vs = vs} l b x) (u ∷ us) a =
        let y = derives_all x us a.1 in record {
          left = y.left;
          like = y.like;
          derived = subst (λ v. Derives other Any q (u ∷ us) y.left v)
              (back_of (build_like t u a.0.at e.row
              (subst (λ k. SaySame k t u) (found (rows q) t.kind e l) a.0.says) vs))
              (takes u e (ap (look (rows q)) (back_of a.0.kind) ∙ l) (may_begin (part q) (u ∷ us)) y.derived);
        }
    derives (skips t l g) [] a = absurd a
    derives {q} (skips t l g) (u ∷ us) a = record {
      left = u ∷ us;
      like = a;
      derived = skips u (ap (look (rows q)) (back_of a.0.kind) ∙ l) (back_of (gap_like t u a.0.at q) ∙ g);
    }

    derives_all : {l : List Symbol} {ts r : List Token} {vs : Values l} → DerivesAll text Any l ts r vs
        → (us : List Token) → AllLike ts us → DerivesAllLike l vs us r
    derives_all none us a = record { left = us; like = a; derived = none }
    derives_all (and x y) us a = let h = derives x us a in let k = derives_all y h.left h.like in
        record { left = k.left; like = k.like; derived = and h.derived k.derived }

  spells_like : (ts us : List Token) (p : Program) → AllLike ts us → Spells text ts p → Spells other us p
  spells_like ts us p a x =
      let h = derives (to.program text Any x) us a in
      from other Any (subst (λ r. Derives other Any sym.AProgram us r p) (nothing h.left h.like) h.derived)
    where
      nothing : (r : List Token) → AllLike [] r → r ≡ []
      nothing [] a = refl
      nothing (u ∷ us) a = absurd a

-- ---- what stands in front of the rest

tail_front : {r bs : List ℕ} → Tail r bs → Front bs r
tail_front here = ([], refl)
tail_front (there {b = b} x) = more b (tail_front x)

-- ---- the tokens of a text, by its items

-- what the tokens say, by the items
data Itemed (text : List ℕ) : List Item → List Token → Type 0 where
  no_more : Itemed text [] []
  over : {bs : List ℕ} {is : List Item} {ts : List Token} → Itemed text is ts → Itemed text (item None bs ∷ is) ts
  on : {k : Kind} {bs : List ℕ} {is : List Item} {ts : List Token} (t : Token) → t.kind ≡ k
      → canonical_spelling (Some k) (spelling text t) ≡ bs → Itemed text is ts
      → Itemed text (item (Some k) bs ∷ is) (t ∷ ts)

record Listed (text bs : List ℕ) (is : List Item) : Type 0 where
  tokens : List Token
  scans : Scans text bs [] tokens
  itemed : Itemed text is tokens

module _ (text : List ℕ) where
  spelling_of : (k : Kind) (bs u before skipped : List ℕ) → text ≡ before ++ bs → bs ≡ skipped ++ u
      → spelling text (token_from text k bs u) ≡ front bs u
  spelling_of k bs u before skipped e f =
      let m : offset text bs ≡ length before = omega (arith, ap length e, length-append before bs) in
      let n : offset text u - offset text bs ≡ length bs - length u =
      omega (arith, ap length e, length-append before bs, ap length f, length-append skipped u) in
      let d : drop (offset text bs) text ≡ bs = ap (λ n. drop n text) m ∙ ap (drop (length before)) e
      ∙ drop-append_seam before bs in
      ap (λ n. take n (drop (offset text bs) text)) n ∙ ap (take (length bs - length u)) d

  listed : {bs : List ℕ} {is : List Item} → (before : List ℕ) → text ≡ before ++ bs → HasItems bs is → Listed text bs is
  listed before e i.no_item = record { tokens = []; scans = s.nothing; itemed = no_more }
  listed {bs = b ∷ bs} before e (i.blank b' h x) =
      let y = listed (before ++ b ∷ []) (e ∙ back_of (append_assoc before (b ∷ []) bs)) x in
      record { tokens = y.tokens; scans = s.blank b h y.scans; itemed = y.itemed }
  listed {bs} before e (i.comment {u = u} c x) =
      let z = comment_tail c in
      let y = listed (before ++ z.0) (e ∙ ap (λ l. before ++ l) z.1 ∙ back_of (append_assoc before z.0 u)) x in
      record { tokens = y.tokens; scans = s.comment c y.scans; itemed = over y.itemed }
  listed {bs} before e (i.token {u = u} k o l x) =
      let z = tail_front (lexeme_tail l.spelled) in
      let y = listed (before ++ z.0) (e ∙ ap (λ l. before ++ l) z.1 ∙ back_of (append_assoc before z.0 u)) x in record {
        tokens = token_from text k bs u ∷ y.tokens;
        scans = s.token k o l y.scans;
        itemed = on (token_from text k bs u) refl
            (ap (canonical_spelling (Some k)) (spelling_of k bs u before z.0 e z.1))
            y.itemed;
      }

-- tokens of the same items say the same
said : (text other bs : List ℕ) (t u : Token) (k : Kind) → canonical_spelling (Some k) (spelling text t) ≡ bs
    → canonical_spelling (Some k) (spelling other u) ≡ bs → SaySame text other k t (record u { at = t.at })
said text other bs t u kind.Name e f = ap (λ (x : List ℕ). record { text = x; at = t.at }) (e ∙ back_of f)
said text other bs t u kind.Number e f = ap (digits_value 0) (e ∙ back_of f)
said text other bs t u kind.Text e f = ap (λ (x : List ℕ). within_quotes (drop 1 x)) (e ∙ back_of f)
said text other bs t u (kind.Word n) e f = tt
said text other bs t u (kind.Sign n) e f = tt

alike : (text other : List ℕ) {is : List Item} {ts us : List Token} → Itemed text is ts → Itemed other is us
    → AllLike text other ts (at_places us ts)
alike text other no_more no_more = tt
alike text other (over x) (over y) = alike text other x y
alike text other (on {k = k} {bs = bs} t p e x) (on u q f y) = (
  record {
    kind = p ∙ back_of q;
    at = refl;
    says =
        subst (λ k. SaySame text other k t (record u { at = t.at })) (back_of p) (said text other bs t u k e f);
  },
  alike text other x y,
)

as_many : (text other : List ℕ) {is : List Item} {ts us : List Token} → Itemed text is ts → Itemed other is us
    → length us ≡ length ts
as_many text other no_more no_more = refl
as_many text other (over x) (over y) = as_many text other x y
as_many text other (on t p e x) (on u q f y) = ap suc (as_many text other x y)

pub same_tree : (text out : List ℕ) (p : Program) → IsTree text p → IsCanonical text out → SpellsAlike text out p
same_tree text out p t c =
    let other = accepted (p, t) c in
    let a = listed text [] refl c.has in
    let b = listed out [] refl (subst (λ o. HasItems o c.items) (back_of c.text_is) (canonical_items (p, t) c.has)) in
    let is : t.tokens ≡ a.tokens = one_list text t.are_tokens.scans a.scans in
    let us : other.1.tokens ≡ b.tokens = one_list out other.1.are_tokens.scans b.scans in
    record {
      tokens = a.tokens;
      others = b.tokens;
      are_tokens = subst (IsTokens text) is t.are_tokens;
      are_others = subst (IsTokens out) us other.1.are_tokens;
      as_many = as_many text out a.itemed b.itemed;
      alike = spells_like text out a.tokens (at_places b.tokens a.tokens) p (alike text out a.itemed b.itemed)
          (subst (λ k. Spells text k p) is t.spells);
    }
