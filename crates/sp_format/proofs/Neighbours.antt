-- An item of the canonical text ends where it should: what is laid out behind it is no part of it.
use Rattle.std.proofs.Common.{◌≡◌, ◌≢◌, ℕ, zero, suc, ◌+◌, ◌-◌, ◌<◌, ◌≤◌, ◌⊎◌, inl, inr, length, length-take, Bool}
use Rattle.std.proofs.Common.{true, false, ◌&&◌, ◌==◌, cond, List, [], ◌∷◌, ◌++◌, append_assoc, map, Option, Some, None}
use Rattle.std.proofs.Common.{refl, sym as back_of, ap, ◌∙◌, subst, arith}
use Rattle.std.specs.Prelude.{slice_get}
use Rattle.std.proofs.lemmas.Bool.Decides.{nat_tests}
use Rattle.std.proofs.lemmas.Bool.{cases_lt}
use Rattle.std.proofs.lemmas.List.{length-map}
use Rattle.sp_base.specs.declared.rule.Rule.{Rule}
use Rattle.sp_base.specs.declared.rule.Rule.TheVariants as rule
use Rattle.sp_base.proofs.Facts.{first_true, second_true}
use Rattle.sp_tree.specs.declared.token.Token.{Token}
use Rattle.sp_tree.specs.declared.token.Kind.{Kind}
use Rattle.sp_tree.specs.declared.token.Kind.TheVariants as kind
use Rattle.sp_tree.specs.Characters.{is_letter, is_digit, is_name_byte, lower_case_letter}
use Rattle.sp_tree.specs.Spelling.{digits_value}
use Rattle.sp_tree.specs.Lexemes.{signs, refused_words, lower_case_prefix, Longest, Comment}
use Rattle.sp_tree.specs.Scans as s
use Rattle.sp_tree.specs.Scans.{Scans, BreaksHere}
use Rattle.sp_tree.proofs.TokenOrder.{HoldsOfEach, each_at}
use Rattle.sp_format.specs.declared.context.Context.{Context}
use Rattle.sp_format.specs.Items.{Item, item, item_from, canonical_spelling, front, HasItems, no_item, blank, comment}
use Rattle.sp_format.specs.Items.{token}
use Rattle.sp_format.specs.Layout.{context_of, gap, items_layout, indentation, breaks, touches, depth}
use Rattle.sp_format.proofs.Neat.{clash, apart_from}
use Rattle.sp_format.proofs.Again.{StopsRun, NotPartOfToken, ReadsToken, goes_on, map_twice, comment_again, token_again}
use Rattle.sp_format.proofs.Again.{lexeme_first, BeginsAsKind}

-- ---- an item as it is spelled

-- a number is an integer of the language; a name is short enough and no refused word
abbrev pub KeepsTokenRules : Kind → List ℕ → Type 0
KeepsTokenRules kind.Number c = digits_value 0 (map lower_case_letter c) ≤ 9223372036854775807
KeepsTokenRules kind.Name c = (length c ≤ 127) × ((n : ℕ) → slice_get refused_words n ≢ Some (map lower_case_letter c))
KeepsTokenRules k c = Unit {0}

abbrev pub IsSoundItem : Option Kind → List ℕ → Type 0
IsSoundItem None c = (r : List ℕ) → Comment (c ++ r) r
IsSoundItem (Some k) c = BeginsAsKind k c × ((r : List ℕ) → NotPartOfToken k c r → ReadsToken k c r)
    × (canonical_spelling (Some k) c ≡ c) × KeepsTokenRules k c

abbrev pub AreSoundItems : List Item → Type 0
AreSoundItems [] = Unit {0}
AreSoundItems (i ∷ is) = IsSoundItem i.kind i.bytes × AreSoundItems is

spelled_twice : (k : Kind) (c : List ℕ) → canonical_spelling (Some k) (canonical_spelling (Some k) c)
    ≡ canonical_spelling (Some k) c
spelled_twice kind.Name c = map_twice c
spelled_twice (kind.Word n) c = map_twice c
spelled_twice kind.Number c = refl
spelled_twice kind.Text c = refl
spelled_twice (kind.Sign n) c = refl

-- no rule is broken at a token that stands in a text that breaks none
keeps_of : {bs u : List ℕ} (k : Kind) → Longest k bs u → ((r : Rule) → BreaksHere r bs → ⊥)
    → KeepsTokenRules k (canonical_spelling (Some k) (front bs u))
keeps_of {bs} {u} kind.Number l f = split (cases_lt 9223372036854775807 (digits_value 0 (lower_case_prefix bs u)))
  where
    split : (9223372036854775807 < digits_value 0 (lower_case_prefix bs u))
        ⊎ (digits_value 0 (lower_case_prefix bs u) ≤ 9223372036854775807)
        → digits_value 0 (lower_case_prefix bs u) ≤ 9223372036854775807
    split (inl h) = absurd (f rule.S4 (record { rest = u; number = l; above = h }))
    split (inr h) = h
keeps_of {bs} {u} kind.Name l f = (
  omega (
    arith,
    length-map (front bs u) lower_case_letter,
    length-take (length bs - length u) bs,
    short (cases_lt 127 (length bs - length u)),
  ),
  λ n e. f rule.U1 (inl (record { rest = u; name = l; number = n; refused = e ∙ ap Some (map_twice (front bs u)) })),
)
  where
    short : (127 < length bs - length u) ⊎ (length bs - length u ≤ 127) → length bs - length u ≤ 127
    short (inl h) = absurd (f rule.S5 (record { rest = u; name = l; above = h }))
    short (inr h) = h
keeps_of kind.Text l f = tt
keeps_of (kind.Word n) l f = tt
keeps_of (kind.Sign n) l f = tt

-- ---- neighbours

abbrev pub Clear : Option Kind → Option Kind → Type 0
Clear None k = Unit {0}
Clear (Some j) None = Unit {0}
Clear (Some j) (Some k) = clash j k ≡ false

abbrev pub Apart : Option Kind → List Item → Type 0
Apart p [] = Unit {0}
Apart p (i ∷ is) = Clear p i.kind × Apart i.kind is

abbrev pub with_kind : Option Kind → List Kind → List Kind
with_kind None ks = ks
with_kind (Some k) ks = k ∷ ks

-- the kinds of the tokens among items
abbrev pub kinds_of : List Item → List Kind
kinds_of [] = []
kinds_of (i ∷ is) = with_kind i.kind (kinds_of is)

-- no rule is broken along these bytes
abbrev pub BreaksNoLexis : List ℕ → List ℕ → Type 0
BreaksNoLexis text bs = (rest : List ℕ) (ts : List Token) → Scans text bs rest ts → (r : Rule) → BreaksHere r rest → ⊥

-- the items of bytes with these tokens
pub record AllItems (bs : List ℕ) (ks : List Kind) : Type 0 where
  pub items : List Item
  pub has : HasItems bs items
  pub kinds : kinds_of items ≡ ks
  pub good : AreSoundItems items

pub all_items : {text bs r : List ℕ} {ts : List Token} → r ≡ [] → BreaksNoLexis text bs → Scans text bs r ts
    → AllItems bs (map (λ t. t.kind) ts)
all_items e f s.nothing = record {
  items = [];
  has = subst (λ r. HasItems r []) (back_of e) no_item;
  kinds = refl;
  good = tt;
}
all_items e f (s.blank b h x) = let y = all_items e (λ rest ts z. f rest ts (s.blank b h z)) x in
    record { items = y.items; has = blank b h y.has; kinds = y.kinds; good = y.good }
all_items e f (s.comment {bs = bs} {u = u} c x) = let y = all_items e (λ rest ts z. f rest ts (s.comment c z)) x in
    record {
      items = item_from None bs u ∷ y.items;
      has = comment c y.has;
      kinds = y.kinds;
      good = (comment_again c, y.good);
    }
all_items {text} e f (s.token {bs = bs} {u = u} k o l x) = let y =
    all_items e (λ rest ts z. f rest (s.token_from text k bs u ∷ ts) (s.token k o l z)) x in record {
      items = item_from (Some k) bs u ∷ y.items;
      has = token k o l y.has;
      kinds = ap (λ ks. k ∷ ks) y.kinds;
      good = (
        (lexeme_first l.spelled, token_again o l, spelled_twice k (front bs u), keeps_of k l (f bs [] s.nothing)),
        y.good,
      );
    }

-- what stands before is the last token, or a comment
pub data Last (j : Kind) : Option Kind → Type 0 where
  is_token : Last j (Some j)
  is_comment : Last j None

clear_none : (p : Option Kind) → Clear p None
clear_none None = tt
clear_none (Some j) = tt

clear_by : {j : Kind} {p : Option Kind} (k : Kind) → Last j p → clash j k ≡ false → Clear p (Some k)
clear_by k is_token h = h
clear_by k is_comment h = tt

to_apart_by : (j : Kind) {p : Option Kind} (k : Option Kind) (is : List Item) → Last j p
    → ((i : Kind) (q : Option Kind) → Last i q → apart_from i (kinds_of is) → Apart q is)
    → apart_from j (with_kind k (kinds_of is)) → Clear p k × Apart k is
to_apart_by j {p} None is l go h = (clear_none p, go j None is_comment h)
to_apart_by j (Some k) is l go h = (clear_by k l h.0, go k (Some k) is_token h.1)

pub to_apart : (j : Kind) (p : Option Kind) (is : List Item) → Last j p → apart_from j (kinds_of is) → Apart p is
to_apart j p [] l h = tt
to_apart j p (i ∷ is) l h = to_apart_by j i.kind is l (λ j q l h. to_apart j q is l h) h

-- ---- what follows an item

ten_quote : (n : ℕ) → n ≡ 10 → n ≢ 39
ten_quote n e f = omega arith

space_quote : (n : ℕ) → n ≡ 32 → n ≢ 39
space_quote n e f = omega arith

line_sign : (c : List ℕ) → goes_on c 10 ≡ false
line_sign [] = refl
line_sign (a ∷ []) = grind (arith, nat_tests)
line_sign (a ∷ b ∷ c) = refl

space_sign : (c : List ℕ) → goes_on c 32 ≡ false
space_sign [] = refl
space_sign (a ∷ []) = grind (arith, nat_tests)
space_sign (a ∷ b ∷ c) = refl

parts_line : (k : Kind) (c r : List ℕ) → NotPartOfToken k c (10 ∷ r)
parts_line kind.Name c r = refl
parts_line (kind.Word n) c r = refl
parts_line kind.Number c r = refl
parts_line kind.Text c r = ten_quote 10 refl
parts_line (kind.Sign n) c r = line_sign c

parts_space : (k : Kind) (c r : List ℕ) → NotPartOfToken k c (32 ∷ r)
parts_space kind.Name c r = refl
parts_space (kind.Word n) c r = refl
parts_space kind.Number c r = refl
parts_space kind.Text c r = space_quote 32 refl
parts_space (kind.Sign n) c r = space_sign c

-- a sign goes on with no name, number or text
abbrev pub SignHead : List ℕ → Type 0
SignHead [] = ⊥
SignHead (y ∷ s) = (is_name_byte y ≡ false) × (is_digit y ≡ false) × ((y == 39) ≡ false)

pub signs_head : HoldsOfEach SignHead signs
signs_head = (
  (refl, refl, refl),
  (
    (refl, refl, refl),
    (
      (refl, refl, refl),
      (
        (refl, refl, refl),
        (
          (refl, refl, refl),
          (
            (refl, refl, refl),
            (
              (refl, refl, refl),
              (
                (refl, refl, refl),
                (
                  (refl, refl, refl),
                  (
                    (refl, refl, refl),
                    (
                      (refl, refl, refl),
                      (
                        (refl, refl, refl),
                        (
                          (refl, refl, refl),
                          (
                            (refl, refl, refl),
                            (
                              (refl, refl, refl),
                              (
                                (refl, refl, refl),
                                (
                                  (refl, refl, refl),
                                  ((refl, refl, refl), ((refl, refl, refl), ((refl, refl, refl), tt))),
                                ),
                              ),
                            ),
                          ),
                        ),
                      ),
                    ),
                  ),
                ),
              ),
            ),
          ),
        ),
      ),
    ),
  ),
)

no_quote : (y : ℕ) → (y == 39) ≡ false → y ≢ 39
no_quote y h e = grind (arith, nat_tests)

before_sign : (j : Kind) (c d rest : List ℕ) → SignHead d
    → ((n : ℕ) → j ≡ kind.Sign n → StopsRun (goes_on c) (d ++ rest))
    → NotPartOfToken j c (d ++ rest)
before_sign j c [] rest h f = absurd h
before_sign kind.Name c (y ∷ d) rest h f = h.0
before_sign (kind.Word n) c (y ∷ d) rest h f = h.0
before_sign kind.Number c (y ∷ d) rest h f = h.1
before_sign kind.Text c (y ∷ d) rest h f = no_quote y h.2
before_sign (kind.Sign n) c (y ∷ d) rest h f = f n refl

-- a property of a sign's number and its bytes, of all signs
abbrev pub all_from : (ℕ → List ℕ → Bool) → ℕ → List (List ℕ) → Bool
all_from f i [] = true
all_from f i (x ∷ xs) = f i x && all_from f (suc i) xs

pub sign_at : (f : ℕ → List ℕ → Bool) (i : ℕ) (xs : List (List ℕ)) (n : ℕ) (x : List ℕ) → all_from f i xs ≡ true
    → slice_get xs n ≡ Some x → f (i + n) x ≡ true
sign_at f i [] n x h e = absurd cc
sign_at f i (y ∷ xs) zero x h e =
    let same : y ≡ x = cc in
    let z : i + 0 ≡ i = omega arith in
    subst (λ j. f j x ≡ true) (back_of z) (subst (λ y. f i y ≡ true) same
    (first_true (f i y) (all_from f (suc i) xs) h))
sign_at f i (y ∷ xs) (suc n) x h e =
    let z : suc i + n ≡ i + suc n = omega arith in
    subst (λ j. f j x ≡ true) z (sign_at f (suc i) xs n x (second_true (f i y) (all_from f (suc i) xs) h) e)

-- whether what goes on with a sign is the first byte of another
abbrev goes_with : List ℕ → List ℕ → Bool
goes_with c [] = false
goes_with c (y ∷ d) = goes_on c y

-- two signs that clash, or that a space parts, or that stay two
abbrev fine : ℕ → List ℕ → ℕ → List ℕ → Bool
fine m c n d = cond (clash (kind.Sign m) (kind.Sign n)) true
    (cond (touches (Some (kind.Sign m)) (Some (kind.Sign n))) (cond (goes_with c d) false true) true)

all_fine : all_from (λ m c. all_from (λ n d. fine m c n d) 0 signs) 0 signs ≡ true
all_fine = refl

fine_by : (a b e : Bool) → a ≡ false → b ≡ true → cond a true (cond b (cond e false true) true) ≡ true → e ≡ false
fine_by true b e p q h = absurd cc
fine_by false false e p q h = absurd cc
fine_by false true true p q h = absurd cc
fine_by false true false p q h = refl

signs_fine : (m n : ℕ) (c d : List ℕ) → slice_get signs m ≡ Some c → slice_get signs n ≡ Some d
    → clash (kind.Sign m) (kind.Sign n) ≡ false → touches (Some (kind.Sign m)) (Some (kind.Sign n)) ≡ true
    → goes_with c d ≡ false
signs_fine m n c d p q h t =
    fine_by (clash (kind.Sign m) (kind.Sign n)) (touches (Some (kind.Sign m)) (Some (kind.Sign n))) (goes_with c d) h t
    (subst (λ i. fine m c i d ≡ true) (let z : 0 + n ≡ n = omega arith in z)
    (sign_at (λ n d. fine m c n d) 0 signs n d
    (subst (λ i. all_from (λ n d. fine i c n d) 0 signs ≡ true) (let z : 0 + m ≡ m = omega arith in z)
    (sign_at (λ m c. all_from (λ n d. fine m c n d) 0 signs) 0 signs m c all_fine p)) q))

stops_with : (c d rest : List ℕ) → SignHead d → goes_with c d ≡ false → StopsRun (goes_on c) (d ++ rest)
stops_with c [] rest h e = absurd h
stops_with c (y ∷ d) rest h e = e

-- no sign goes on with a letter, a digit or a quote
letter_goes : (c : List ℕ) (y : ℕ) → is_letter y ≡ true → goes_on c y ≡ false
letter_goes [] y h = refl
letter_goes (a ∷ []) y h = grind (arith, nat_tests)
letter_goes (a ∷ b ∷ c) y h = refl

digit_goes : (c : List ℕ) (y : ℕ) → is_digit y ≡ true → goes_on c y ≡ false
digit_goes [] y h = refl
digit_goes (a ∷ []) y h = grind (arith, nat_tests)
digit_goes (a ∷ b ∷ c) y h = refl

quote_goes : (c : List ℕ) (y : ℕ) → (y == 39) ≡ true → goes_on c y ≡ false
quote_goes [] y h = refl
quote_goes (a ∷ []) y h = grind (arith, nat_tests)
quote_goes (a ∷ b ∷ c) y h = refl

-- behind a sign
sign_touch : (m : ℕ) (k : Kind) (c d rest : List ℕ) → slice_get signs m ≡ Some c → BeginsAsKind k d
    → clash (kind.Sign m) k ≡ false → touches (Some (kind.Sign m)) (Some k) ≡ true → StopsRun (goes_on c) (d ++ rest)
sign_touch m (kind.Sign n) c d rest p f h t =
    stops_with c d rest (each_at SignHead signs n d signs_head f) (signs_fine m n c d p f h t)
sign_touch m kind.Name c [] rest p f h t = absurd f
sign_touch m kind.Name c (y ∷ d) rest p f h t = letter_goes c y f
sign_touch m (kind.Word n) c [] rest p f h t = absurd f
sign_touch m (kind.Word n) c (y ∷ d) rest p f h t = letter_goes c y f
sign_touch m kind.Number c [] rest p f h t = absurd f
sign_touch m kind.Number c (y ∷ d) rest p f h t = digit_goes c y f
sign_touch m kind.Text c [] rest p f h t = absurd f
sign_touch m kind.Text c (y ∷ d) rest p f h t = quote_goes c y f

-- two tokens that touch
parts_touch : (j k : Kind) (c d rest : List ℕ) → BeginsAsKind j c → BeginsAsKind k d → clash j k ≡ false
    → touches (Some j) (Some k) ≡ true → NotPartOfToken j c (d ++ rest)
parts_touch (kind.Sign m) k c d rest e f h t = sign_touch m k c d rest e f h t
parts_touch kind.Name kind.Name c d rest e f h t = absurd cc
parts_touch kind.Name kind.Number c d rest e f h t = absurd cc
parts_touch kind.Name kind.Text c d rest e f h t = absurd cc
parts_touch kind.Name (kind.Word n) c d rest e f h t = absurd cc
parts_touch kind.Name (kind.Sign n) c d rest e f h t =
    before_sign kind.Name c d rest (each_at SignHead signs n d signs_head f) (λ n e. absurd cc)
parts_touch kind.Number kind.Name c d rest e f h t = absurd cc
parts_touch kind.Number kind.Number c d rest e f h t = absurd cc
parts_touch kind.Number kind.Text c d rest e f h t = absurd cc
parts_touch kind.Number (kind.Word n) c d rest e f h t = absurd cc
parts_touch kind.Number (kind.Sign n) c d rest e f h t =
    before_sign kind.Number c d rest (each_at SignHead signs n d signs_head f) (λ n e. absurd cc)
parts_touch kind.Text kind.Name c d rest e f h t = absurd cc
parts_touch kind.Text kind.Number c d rest e f h t = absurd cc
parts_touch kind.Text kind.Text c d rest e f h t = absurd cc
parts_touch kind.Text (kind.Word n) c d rest e f h t = absurd cc
parts_touch kind.Text (kind.Sign n) c d rest e f h t =
    before_sign kind.Text c d rest (each_at SignHead signs n d signs_head f) (λ n e. absurd cc)
parts_touch (kind.Word m) kind.Name c d rest e f h t = absurd cc
parts_touch (kind.Word m) kind.Number c d rest e f h t = absurd cc
parts_touch (kind.Word m) kind.Text c d rest e f h t = absurd cc
parts_touch (kind.Word m) (kind.Word n) c d rest e f h t = absurd cc
parts_touch (kind.Word m) (kind.Sign n) c d rest e f h t =
    before_sign (kind.Word m) c d rest (each_at SignHead signs n d signs_head f) (λ n e. absurd cc)

-- what is laid out behind a token, by the three ways in which the next item may stand
after_by : (j k : Kind) (c d g rest : List ℕ) (b t : Bool) → BeginsAsKind j c → BeginsAsKind k d → clash j k ≡ false
    → touches (Some j) (Some k) ≡ t
    → NotPartOfToken j c (((cond b (10 ∷ g) (cond t [] (32 ∷ [])) ++ d) ++ rest) ++ 10 ∷ [])
after_by j k c d g rest true t e f h q = parts_line j c (((g ++ d) ++ rest) ++ 10 ∷ [])
after_by j k c d g rest false true e f h q =
    subst (NotPartOfToken j c) (back_of (append_assoc d rest (10 ∷ []))) (parts_touch j k c d (rest ++ 10 ∷ []) e f h q)
after_by j k c d g rest false false e f h q = parts_space j c ((d ++ rest) ++ 10 ∷ [])

parts_after : (j : Kind) (c : List ℕ) (before : List Item) (k : Option Kind) (d rest : List ℕ) → BeginsAsKind j c
    → IsSoundItem k d
    → Clear (Some j) k → NotPartOfToken j c (((gap (context_of (item (Some j) c ∷ before)) k ++ d) ++ rest) ++ 10 ∷ [])
parts_after j c before None d rest e g h = parts_line j c
    (((indentation (depth (context_of (item (Some j) c ∷ before)) None) ++ d) ++ rest) ++ 10 ∷ [])
parts_after j c before (Some k) d rest e g h =
    let x : Context = context_of (item (Some j) c ∷ before) in
    after_by j k c d (indentation (depth x (Some k))) rest (breaks x (Some k)) (touches (Some j) (Some k)) e g.0 h refl

pub parts_next : (j : Kind) (c : List ℕ) (before is : List Item) → BeginsAsKind j c → AreSoundItems is
    → Apart (Some j) is → NotPartOfToken j c (items_layout (item (Some j) c ∷ before) is ++ 10 ∷ [])
parts_next j c before [] e g h = parts_line j c []
parts_next j c before (i ∷ is) e g h =
    parts_after j c before i.kind i.bytes (items_layout (i ∷ item (Some j) c ∷ before) is) e
    g.0 h.0
