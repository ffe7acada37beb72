-- The items of bytes are one list, and the layout goes along them.
use Rattle.std.proofs.Common.{◌≡◌, ℕ, zero, suc, ◌+◌, ◌-◌, ◌<◌, ◌≤◌, true, false, List, [], ◌∷◌, ◌++◌}
use Rattle.std.proofs.Common.{length, length-append, append_assoc, Option, Some, None, refl}
use Rattle.std.proofs.Common.{sym as back_of, ap, ◌∙◌, subst, arith}
use Rattle.std.proofs.lemmas.List.{append-nil}
use Rattle.sp_base.specs.declared.halt.Refusal.{Refusal}
use Rattle.sp_base.specs.declared.rule.Rule.{Rule}
use Rattle.sp_base.specs.declared.rule.Rule.TheVariants as rule
use Rattle.sp_tree.specs.declared.token.Token.{Token}
use Rattle.sp_tree.specs.declared.token.Kind.{Kind}
use Rattle.sp_tree.specs.Characters.{is_blank}
use Rattle.sp_tree.specs.Places.{start, place_at}
use Rattle.sp_tree.specs.Lexemes.{Comment, Longest, Lexeme, opens_comment}
use Rattle.sp_tree.specs.Scans as s
use Rattle.sp_tree.specs.Scans.{Scans, BreaksHere, IsTokens, offset}
use Rattle.sp_tree.proofs.TokenOrder.{lexeme_length, comment_length}
use Rattle.sp_tree.proofs.OneList.{one_comment, one_kind, same_rest, blank_opens, opens, differ, not_blank}
use Rattle.sp_tree.proofs.TextParts.{scans_chain}
use Rattle.sp_scan.specs.Finds as f
use Rattle.sp_scan.specs.Finds.{IsGap, blank_gap, comment_gap}
use Rattle.sp_scan.proofs.TokenPrefixes.{to_lexis}
use Rattle.sp_scan.proofs.Along.{line_by}
use Rattle.sp_parse.proofs.TokenBounds.{short as is_short}
use Rattle.sp_format.specs.declared.context.Context.{Context}
use Rattle.sp_format.specs.Items.{Item, item, item_from, canonical_spelling, front, HasItems, no_item, blank, comment}
use Rattle.sp_format.specs.Items.{token}
use Rattle.sp_format.specs.Layout.{context_of, gap, items_layout, canonical_text, indentation, count, begins, ends}
use Rattle.sp_format.specs.Layout.{opens as opens'}
use Rattle.sp_format.specs.Layout.{closes}
use Rattle.sp_format.specs.Formats.{IsCanonical, IsLong}

-- ---- one list

both : (bs u v : List ℕ) (k j : Option Kind) {is js : List Item} → k ≡ j → u ≡ v → is ≡ js
    → item_from k bs u ∷ is ≡ item_from j bs v ∷ js
both bs u v k j p q e = λ i. item_from (p i) bs (q i) ∷ e i

same_kind : {k j : Kind} {bs u v : List ℕ} → u ≡ v → Longest k bs u → Longest j bs v → k ≡ j
same_kind {j = j} {bs = bs} e l m = one_kind l.spelled (subst (Lexeme j bs) (back_of e) m.spelled)

pub one_items : {bs : List ℕ} {is js : List Item} → HasItems bs is → HasItems bs js → is ≡ js
one_items no_item no_item = refl
one_items no_item (comment c x) = absurd (let l = comment_length c in omega arith)
one_items no_item (token k o l x) = absurd (let m = lexeme_length l.spelled in omega arith)
one_items (blank b h x) (blank b' h' x') = one_items x x'
one_items (blank b h x) (comment c x') = absurd (blank_opens b _ h (opens c))
one_items (blank b h x) (token k o l x') = absurd (not_blank l.spelled h)
one_items (comment c x) no_item = absurd (let l = comment_length c in omega arith)
one_items (comment c x) (blank b h x') = absurd (blank_opens b _ h (opens c))
one_items {bs} (comment {u = u} c x) (comment {u = v} {is = js} c' x') =
    both bs u v None None refl (one_comment c c') (one_items x (subst (λ w. HasItems w js) (one_comment c' c) x'))
one_items (comment c x) (token k o l x') = absurd (differ (opens c) o)
one_items (token k o l x) no_item = absurd (let m = lexeme_length l.spelled in omega arith)
one_items (token k o l x) (blank b h x') = absurd (not_blank l.spelled h)
one_items (token k o l x) (comment c x') = absurd (differ (opens c) o)
one_items {bs} (token {u = u} k o l x) (token {u = v} {is = js} j o' m x') =
    let same = same_rest [] l m in
    both bs u v (Some k) (Some j) (ap Some (same_kind same l m)) same
    (one_items x (subst (λ w. HasItems w js) (back_of same) x'))

-- ---- one step

after_blank : (b : ℕ) {bs : List ℕ} {is : List Item} → is_blank b ≡ true → HasItems (b ∷ bs) is → HasItems bs is
after_blank b h (blank b' h' x) = x
after_blank b h (comment c x) = absurd (blank_opens b _ h (opens c))
after_blank b h (token k o l x) = absurd (not_blank l.spelled h)

-- an item of this kind stands first, and the others are those of the rest
record ItemAhead (k : Option Kind) (bs u : List ℕ) (is : List Item) : Type 0 where
  others : List Item
  first : is ≡ item_from k bs u ∷ others
  has : HasItems u others

after_comment : {bs u : List ℕ} {is : List Item} → Comment bs u → HasItems bs is → ItemAhead None bs u is
after_comment c no_item = absurd (let l = comment_length c in omega arith)
after_comment c (blank b h x) = absurd (blank_opens b _ h (opens c))
after_comment {bs} {u} c (comment {u = v} {is = is} c' x) = record {
  others = is;
  first = ap (λ w. item_from None bs w ∷ is) (one_comment c' c);
  has = subst (λ w. HasItems w is) (one_comment c' c) x;
}
after_comment c (token k o l x) = absurd (differ (opens c) o)

after_token : {bs u : List ℕ} {is : List Item} (k : Kind) → opens_comment bs ≡ false → Longest k bs u → HasItems bs is
    → ItemAhead (Some k) bs u is
after_token k o l no_item = absurd (let m = lexeme_length l.spelled in omega arith)
after_token k o l (blank b h x) = absurd (not_blank l.spelled h)
after_token k o l (comment c x) = absurd (differ (opens c) o)
after_token {bs} {u} k o l (token {u = v} {is = is} j o' m x) =
    let same = same_rest [] m l in record {
      others = is;
      first = both bs v u (Some j) (Some k) (ap Some (same_kind same m l)) same refl;
      has = subst (λ w. HasItems w is) same x;
    }

-- the items of a text with tokens
pub items_of : {text bs r : List ℕ} {ts : List Token} → r ≡ [] → Scans text bs r ts → (is : List Item) × HasItems bs is
items_of e (s.nothing) = ([], subst (λ r. HasItems r []) (back_of e) no_item)
items_of e (s.blank b h x) = let y = items_of e x in (y.0, blank b h y.1)
items_of e (s.comment {bs = bs} {u = u} c x) = let y = items_of e x in (item_from None bs u ∷ y.0, comment c y.1)
items_of e (s.token {bs = bs} {u = u} k o l x) = let y = items_of e x in
    (item_from (Some k) bs u ∷ y.0, token k o l y.1)

-- ---- the layout so far

-- Behind some items of the text, which are laid out, come these bytes.
pub record LaidSoFar (text rest out : List ℕ) (context : Context) : Type 0 where
  pub tokens : List Token
  pub along : Scans text text rest tokens
  pub all : List Item
  pub has_all : HasItems text all
  pub before : List Item
  pub left : List Item
  pub has : HasItems rest left
  pub out_is : out ++ items_layout before left ≡ items_layout [] all
  pub context_is : context ≡ context_of before
  pub few_begun : context.begun + length rest ≤ 1048576
  pub few_ended : context.ended + length rest ≤ 1048576
  pub few_opened : context.opened + length rest ≤ 1048576
  pub few_closed : context.closed + length rest ≤ 1048576

pub lay_start : (text out : List ℕ) (context : Context) (ts : List Token) → IsTokens text ts → out ≡ []
    → context ≡ context_of [] → LaidSoFar text text out context
lay_start text out context ts h e f = let y = items_of refl h.scans in let l = is_short text ts h in record {
  tokens = [];
  along = s.nothing;
  all = y.0;
  has_all = y.1;
  before = [];
  left = y.0;
  has = y.1;
  out_is = ap (λ o. o ++ items_layout [] y.0) e;
  context_is = f;
  few_begun = omega (arith, ap (λ (c : Context). c.begun) f);
  few_ended = omega (arith, ap (λ (c : Context). c.ended) f);
  few_opened = omega (arith, ap (λ (c : Context). c.opened) f);
  few_closed = omega (arith, ap (λ (c : Context). c.closed) f);
}

-- no rule is broken at the rest
pub lay_kept : {text rest out : List ℕ} {context : Context} (ts : List Token) → IsTokens text ts
    → LaidSoFar text rest out context → (r : Rule) → BreaksHere r rest → ⊥
lay_kept {text} {rest} ts h x r b = h.kept r (place_at text (offset text rest))
    (to_lexis text r (place_at text (offset text rest))
    (record { rest = rest; tokens = x.tokens; along = x.along; here = b; place = refl }))

pub indent_more : (before after start' : List ℕ) (left : ℕ) → before ++ indentation left ≡ start' → 0 < left
    → after ≡ (before ++ 32 ∷ []) ++ 32 ∷ [] → after ++ indentation (left - 1) ≡ start'
indent_more before after start' zero e h q = absurd (omega arith)
indent_more before after start' (suc n) e h q =
    let same : suc n - 1 ≡ n = omega arith in
    ap (λ a. a ++ indentation (suc n - 1)) q
    ∙ ap (λ m. ((before ++ 32 ∷ []) ++ 32 ∷ []) ++ indentation m) same
    ∙ append_assoc (before ++ 32 ∷ []) (32 ∷ []) (indentation n)
    ∙ append_assoc before (32 ∷ []) (32 ∷ indentation n)
    ∙ e

at_first : {rest others : List ℕ} {is : List Item} (b : ℕ) → rest ≡ b ∷ others → HasItems rest is
    → HasItems (b ∷ others) is
at_first {is = is} b e x = subst (λ l. HasItems l is) e x

pub lay_blank : {text rest out : List ℕ} {context : Context} (others : List ℕ) (b : ℕ) → rest ≡ b ∷ others
    → is_blank b ≡ true → LaidSoFar text rest out context → LaidSoFar text others out context
lay_blank {text} {rest} others b e h x = record {
  tokens = x.tokens ++ [];
  along = scans_chain x.along (subst (λ l. Scans text l others []) (back_of e) (s.blank b h s.nothing));
  all = x.all;
  has_all = x.has_all;
  before = x.before;
  left = x.left;
  has = after_blank b h (at_first b e x.has);
  out_is = x.out_is;
  context_is = x.context_is;
  few_begun = omega (arith, x.few_begun, ap length e);
  few_ended = omega (arith, x.few_ended, ap length e);
  few_opened = omega (arith, x.few_opened, ap length e);
  few_closed = omega (arith, x.few_closed, ap length e);
}

-- what stands first, where it is no blank
record FirstItem (text rest after : List ℕ) (k : Option Kind) (left : List Item) : Type 0 where
  tokens : List Token
  along : Scans text rest after tokens
  next : ItemAhead k rest after left
  less : length after < length rest

gap_stands : {text rest after others : List ℕ} {left : List Item} (b : ℕ) → rest ≡ b ∷ others → is_blank b ≡ false
    → IsGap rest after → HasItems rest left → FirstItem text rest after None left
gap_stands b e n (blank_gap b' h) x = absurd (let same : b' ≡ b = cc in differ (ap is_blank (back_of same) ∙ h) n)
gap_stands b e n (comment_gap c) x = record {
  tokens = [];
  along = s.comment c s.nothing;
  next = after_comment c x;
  less = comment_length c;
}

stands : {text rest after others : List ℕ} {left : List Item} (b : ℕ) (k : Option Kind) → rest ≡ b ∷ others
    → is_blank b ≡ false → f.FrontItem rest k after → HasItems rest left → FirstItem text rest after k left
stands b None e n g x = gap_stands b e n g x
stands {text} {rest} {after} b (Some k) e n g x =
    record {
      tokens = s.token_from text k rest after ∷ [];
      along = s.token k g.0 g.1 s.nothing;
      next = after_token k g.0 g.1 x;
      less = lexeme_length g.1.spelled;
    }

module _ {text rest out others : List ℕ} {context : Context} (after : List ℕ) (b : ℕ) (k : Option Kind)
    (e : rest ≡ b ∷ others) (n : is_blank b ≡ false) (g : f.FrontItem rest k after)
    (x : LaidSoFar text rest out context) where
  here : FirstItem text rest after k x.left
  here = stands b k e n g x.has

  laid_by : {o : List ℕ} → o ≡ out ++ (gap context k ++ canonical_spelling k (front rest after))
      → o ++ items_layout (item_from k rest after ∷ x.before) here.next.others ≡ items_layout [] x.all
  laid_by {o} q =
      ap (λ o. o ++ items_layout (item_from k rest after ∷ x.before) here.next.others)
      (q ∙ ap (λ c. out ++ (gap c k ++ canonical_spelling k (front rest after))) x.context_is)
      ∙ append_assoc out (gap (context_of x.before) k ++ canonical_spelling k (front rest after))
      (items_layout (item_from k rest after ∷ x.before) here.next.others)
      ∙ ap (λ l. out ++ items_layout x.before l) (back_of here.next.first)
      ∙ x.out_is

  pub lay_item : (o : List ℕ) (c : Context) → o ≡ out ++ (gap context k ++ canonical_spelling k (front rest after))
      → ((before : List Item) (bytes : List ℕ) → context ≡ context_of before → c ≡ context_of (item k bytes ∷ before))
      → LaidSoFar text after o c
  lay_item o c q w =
      let z : c ≡ context_of (item_from k rest after ∷ x.before) =
      w x.before (canonical_spelling k (front rest after)) x.context_is in
      record {
        tokens = x.tokens ++ here.tokens;
        along = scans_chain x.along here.along;
        all = x.all;
        has_all = x.has_all;
        before = item_from k rest after ∷ x.before;
        left = here.next.others;
        has = here.next.has;
        out_is = laid_by q;
        context_is = z;
        few_begun = omega (
          arith,
          x.few_begun,
          here.less,
          ap (λ (c : Context). c.begun) z,
          ap (λ (c : Context). c.begun) x.context_is,
          line_by (count begins x.before) (begins k),
        );
        few_ended = omega (
          arith,
          x.few_ended,
          here.less,
          ap (λ (c : Context). c.ended) z,
          ap (λ (c : Context). c.ended) x.context_is,
          line_by (count ends x.before) (ends k),
        );
        few_opened = omega (
          arith,
          x.few_opened,
          here.less,
          ap (λ (c : Context). c.opened) z,
          ap (λ (c : Context). c.opened) x.context_is,
          line_by (count opens' x.before) (opens' k),
        );
        few_closed = omega (
          arith,
          x.few_closed,
          here.less,
          ap (λ (c : Context). c.closed) z,
          ap (λ (c : Context). c.closed) x.context_is,
          line_by (count closes x.before) (closes k),
        );
      }

  pub lay_less : length after < length rest
  lay_less = here.less

  pub lay_long : (o : List ℕ) (r : Refusal) → o ≡ out ++ (gap context k ++ canonical_spelling k (front rest after))
      → 1048576 ≤ length o → r ≡ record { rule = rule.L1; at = start } → IsLong text r
  lay_long o r q h w = record {
    items = x.all;
    has = x.has_all;
    long = omega (
      arith,
      length-append (items_layout [] x.all) (10 ∷ []),
      ap length (laid_by q),
      length-append o (items_layout (item_from k rest after ∷ x.before) here.next.others),
    );
    refusal_is = w;
  }

none_left : {rest : List ℕ} {is : List Item} → rest ≡ [] → HasItems rest is → is ≡ []
none_left e no_item = refl
none_left e (blank b h x) = absurd cc
none_left e (comment c x) = absurd (let l = comment_length c in omega (arith, ap length e))
none_left e (token k o l x) = absurd (let m = lexeme_length l.spelled in omega (arith, ap length e))

pub lay_done : {text rest out : List ℕ} {context : Context} (o : List ℕ) → rest ≡ [] → length out < 1048576
    → o ≡ out ++ 10 ∷ [] → LaidSoFar text rest out context → IsCanonical text o
lay_done {out = out} o e h q x = record {
  items = x.all;
  has = x.has_all;
  text_is = q ∙ ap (λ l. l ++ 10 ∷ []) (back_of (append-nil out)
      ∙ ap (λ l. out ++ items_layout x.before l) (back_of (none_left e x.has)) ∙ x.out_is);
  short = omega (arith, ap length q, length-append out (10 ∷ []));
}

-- ---- one canonical text

pub same_text : {text other a b : List ℕ} {is : List Item} → HasItems text is → HasItems other is → IsCanonical text a
    → IsCanonical other b → a ≡ b
same_text x y p q = p.text_is ∙ ap canonical_text (one_items p.has x ∙ one_items y q.has) ∙ back_of q.text_is

pub one_text : {text a b : List ℕ} → IsCanonical text a → IsCanonical text b → a ≡ b
one_text p q = same_text p.has p.has p q
