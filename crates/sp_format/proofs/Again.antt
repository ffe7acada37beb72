-- An item as it is spelled in canonical text: where it stands again, and what follows does not go on with it, it is
-- read as the same item.
use Rattle.std.proofs.Common.{◌≡◌, ℕ, ◌-◌, ◌≤◌, Bool, true, false, ◌||◌, ◌&&◌, ◌==◌, List, [], ◌∷◌, ◌++◌, length}
use Rattle.std.proofs.Common.{length-append, map, take, Some, refl, sym as back_of, ap, ◌∙◌, subst, arith}
use Rattle.std.specs.Prelude.{slice_get}
use Rattle.std.proofs.lemmas.Bool.Decides.{nat_tests}
use Rattle.std.proofs.Math.Seq.{take-append_seam}
use Rattle.std.proofs.lemmas.Bool.{false_from_ne_true}
use Rattle.sp_tree.specs.declared.token.Kind.{Kind}
use Rattle.sp_tree.specs.declared.token.Kind.TheVariants as kind
use Rattle.sp_tree.specs.Characters.{is_letter, is_digit, is_name_byte, lower_case_letter}
use Rattle.sp_tree.specs.Lexemes.{signs, Lacks, Run, run_ends, run_goes_on, TextBody, text_ends, two_quotes, text_byte}
use Rattle.sp_tree.specs.Lexemes.{BraceBody, brace_ends, brace_byte, StarBody, star_ends, star_byte, Comment}
use Rattle.sp_tree.specs.Lexemes.{brace_comment, star_comment, opens_comment, lower_case_prefix, Lexeme, name, word}
use Rattle.sp_tree.specs.Lexemes.{number, text}
use Rattle.sp_tree.specs.Lexemes.{sign, Longest}
use Rattle.sp_tree.proofs.TokenOrder.{HoldsOfEach, each_at}
use Rattle.sp_tree.proofs.OneList.{sign_plain, no_letter, no_digit, no_quote, differ}
use Rattle.sp_scan.specs.Finds.{IsWordOf}
use Rattle.sp_scan.proofs.Tokens.{longest_name, longest_number, longest_text, longest_sign}
use Rattle.sp_format.specs.Items.{canonical_spelling, front}

-- the bytes in front of the rest, and that they are such bytes in front of another rest too
record Splits (R : List ℕ → Type 0) (bs u : List ℕ) : Type 0 where
  bytes : List ℕ
  whole : bs ≡ bytes ++ u
  again : R bytes

pub front_is : (bs c r : List ℕ) → bs ≡ c ++ r → front bs r ≡ c
front_is bs c r e =
    let n : length (c ++ r) - length r ≡ length c = omega (arith, length-append c r) in
    ap (λ l. front l r) e ∙ ap (λ n. take n (c ++ r)) n ∙ take-append_seam c r

-- ---- runs

runs : {p : ℕ → Bool} {bs u : List ℕ} → Run p bs u → Splits (λ c. (r : List ℕ) → Run p (c ++ r) r) bs u
runs run_ends = record { bytes = []; whole = refl; again = λ r. run_ends }
runs (run_goes_on b h x) = let y = runs x in
    record { bytes = b ∷ y.bytes; whole = ap (λ l. b ∷ l) y.whole; again = λ r. run_goes_on b h (y.again r) }

lower_name : (b : ℕ) → is_name_byte b ≡ true → is_name_byte (lower_case_letter b) ≡ true
lower_name b h = grind (arith, nat_tests)

lower_letter : (b : ℕ) → is_letter b ≡ true → is_letter (lower_case_letter b) ≡ true
lower_letter b h = grind (arith, nat_tests)

lower_twice : (b : ℕ) → lower_case_letter (lower_case_letter b) ≡ lower_case_letter b
lower_twice b = grind (arith, nat_tests)

pub map_twice : (c : List ℕ) → map lower_case_letter (map lower_case_letter c) ≡ map lower_case_letter c
map_twice [] = refl
map_twice (b ∷ c) = λ i. lower_twice b i ∷ map_twice c i

low_runs : {bs u : List ℕ} → Run is_name_byte bs u
    → Splits (λ c. (r : List ℕ) → Run is_name_byte (map lower_case_letter c ++ r) r) bs u
low_runs run_ends = record { bytes = []; whole = refl; again = λ r. run_ends }
low_runs (run_goes_on b h x) = let y = low_runs x in
    record {
      bytes = b ∷ y.bytes;
      whole = ap (λ l. b ∷ l) y.whole;
      again = λ r. run_goes_on (lower_case_letter b) (lower_name b h) (y.again r);
    }

-- the bytes do not begin with one that passes the test
abbrev pub StopsRun : (ℕ → Bool) → List ℕ → Type 0
StopsRun p [] = Unit {0}
StopsRun p (b ∷ bs) = p b ≡ false

stops_here : {p : ℕ → Bool} {r other : List ℕ} → StopsRun p r → Run p r other → length r ≤ length other
stops_here s run_ends = omega arith
stops_here s (run_goes_on b h x) = absurd (differ h s)

stops_behind : {p : ℕ → Bool} (c r : List ℕ) {other : List ℕ} → StopsRun p r → Run p (c ++ r) other
    → length r ≤ length other
stops_behind [] r s x = stops_here s x
stops_behind (b ∷ c) r s run_ends = omega (arith, length-append c r)
stops_behind (b ∷ c) r s (run_goes_on b' h x) = stops_behind c r s x

-- ---- texts and comments

texts : {bs u : List ℕ} → TextBody bs u → Splits (λ c. (r : List ℕ) → Lacks 39 r → TextBody (c ++ r) r) bs u
texts (text_ends q e l) = record { bytes = q ∷ []; whole = refl; again = λ r n. text_ends q e n }
texts (two_quotes q u e f x) = let y = texts x in
    record {
      bytes = q ∷ u ∷ y.bytes;
      whole = ap (λ l. q ∷ u ∷ l) y.whole;
      again = λ r n. two_quotes q u e f (y.again r n);
    }
texts (text_byte b h i j x) = let y = texts x in
    record { bytes = b ∷ y.bytes; whole = ap (λ l. b ∷ l) y.whole; again = λ r n. text_byte b h i j (y.again r n) }

braces : {bs u : List ℕ} → BraceBody bs u → Splits (λ c. (r : List ℕ) → BraceBody (c ++ r) r) bs u
braces (brace_ends c h) = record { bytes = c ∷ []; whole = refl; again = λ r. brace_ends c h }
braces (brace_byte b h x) = let y = braces x in
    record { bytes = b ∷ y.bytes; whole = ap (λ l. b ∷ l) y.whole; again = λ r. brace_byte b h (y.again r) }

-- the body of such a comment has a first byte
record StarSplits (bs u : List ℕ) : Type 0 where
  first : ℕ
  others : List ℕ
  whole : bs ≡ first ∷ (others ++ u)
  again : (r : List ℕ) → StarBody (first ∷ (others ++ r)) r

stars : {bs u : List ℕ} → StarBody bs u → StarSplits bs u
stars (star_ends a b h i) = record { first = a; others = b ∷ []; whole = refl; again = λ r. star_ends a b h i }
stars (star_byte b n x) = let y = stars x in record {
  first = b;
  others = y.first ∷ y.others;
  whole = ap (λ l. b ∷ l) y.whole;
  again = λ r. star_byte b (λ h. subst (Lacks 41) y.whole (n h)) (y.again r);
}

comments : {bs u : List ℕ} → Comment bs u → Splits (λ c. (r : List ℕ) → Comment (c ++ r) r) bs u
comments (brace_comment b h x) = let y = braces x in
    record { bytes = b ∷ y.bytes; whole = ap (λ l. b ∷ l) y.whole; again = λ r. brace_comment b h (y.again r) }
comments (star_comment a b h i x) = let y = stars x in
    record {
      bytes = a ∷ b ∷ y.first ∷ y.others;
      whole = ap (λ l. a ∷ b ∷ l) y.whole;
      again = λ r. star_comment a b h i (y.again r);
    }

pub comment_again : {bs u : List ℕ} → Comment bs u → (r : List ℕ) → Comment (front bs u ++ r) r
comment_again {bs} {u} c r = let y = comments c in
    subst (λ l. Comment (l ++ r) r) (back_of (front_is bs y.bytes u y.whole)) (y.again r)

-- ---- what a token goes on with

-- bytes with which a sign of one byte is another sign, or opens a comment
abbrev pub goes_on : List ℕ → ℕ → Bool
goes_on (a ∷ []) y = (a == 60 && (y == 62 || y == 61))
    || ((a == 62 && y == 61) || ((a == 58 && y == 61) || ((a == 46 && y == 46) || (a == 40 && y == 42))))
goes_on c y = false

-- what follows is no part of a token of this kind that is spelled so
abbrev pub NotPartOfToken : Kind → List ℕ → List ℕ → Type 0
NotPartOfToken kind.Name c r = StopsRun is_name_byte r
NotPartOfToken (kind.Word n) c r = StopsRun is_name_byte r
NotPartOfToken kind.Number c r = StopsRun is_digit r
NotPartOfToken kind.Text c r = Lacks 39 r
NotPartOfToken (kind.Sign n) c r = StopsRun (goes_on c) r

-- there it is read as the same token
abbrev pub ReadsToken : Kind → List ℕ → List ℕ → Type 0
ReadsToken k c r = (opens_comment (c ++ r) ≡ false) × Longest k (c ++ r) r

letter_opens : (b : ℕ) (bs : List ℕ) → is_letter b ≡ true → opens_comment (b ∷ bs) ≡ false
letter_opens b [] h = grind (arith, nat_tests)
letter_opens b (c ∷ bs) h = grind (arith, nat_tests)

digit_opens : (b : ℕ) (bs : List ℕ) → is_digit b ≡ true → opens_comment (b ∷ bs) ≡ false
digit_opens b [] h = grind (arith, nat_tests)
digit_opens b (c ∷ bs) h = grind (arith, nat_tests)

quote_opens : (b : ℕ) (bs : List ℕ) → b ≡ 39 → opens_comment (b ∷ bs) ≡ false
quote_opens b [] h = grind (arith, nat_tests)
quote_opens b (c ∷ bs) h = grind (arith, nat_tests)

-- names and words
word_again : (k : Kind) (b : ℕ) (bs u : List ℕ) → is_letter b ≡ true → Run is_name_byte bs u
    → IsWordOf (lower_case_prefix (b ∷ bs) u) k → (r : List ℕ) → StopsRun is_name_byte r
    → ReadsToken k (map lower_case_letter (front (b ∷ bs) u)) r
word_again k b bs u h x w r s =
    let y = low_runs x in
    let e : front (b ∷ bs) u ≡ b ∷ y.bytes = front_is (b ∷ bs) (b ∷ y.bytes) u (ap (λ l. b ∷ l) y.whole) in
    let c : List ℕ = map lower_case_letter y.bytes in
    let f : lower_case_prefix (lower_case_letter b ∷ (c ++ r)) r ≡ lower_case_prefix (b ∷ bs) u =
    ap (map lower_case_letter) (front_is (lower_case_letter b ∷ (c ++ r)) (lower_case_letter b ∷ c) r refl)
    ∙ map_twice (b ∷ y.bytes)
    ∙ ap (map lower_case_letter) (back_of e) in
    let l : Longest k (lower_case_letter b ∷ (c ++ r)) r =
    longest_name (lower_case_letter b ∷ (c ++ r)) (c ++ r) r (lower_case_letter b) k refl (lower_letter b h)
    (record { run = y.again r; longest = λ other z. stops_behind c r s z })
    (subst (λ v. IsWordOf v k) (back_of f) w) in
    subst (λ v. ReadsToken k (map lower_case_letter v) r) (back_of e)
    (letter_opens (lower_case_letter b) (c ++ r) (lower_letter b h), l)

number_again : (b : ℕ) (bs u : List ℕ) → is_digit b ≡ true → Run is_digit bs u → (r : List ℕ) → StopsRun is_digit r
    → ReadsToken kind.Number (front (b ∷ bs) u) r
number_again b bs u h x r s =
    let y = runs x in
    let e : front (b ∷ bs) u ≡ b ∷ y.bytes = front_is (b ∷ bs) (b ∷ y.bytes) u (ap (λ l. b ∷ l) y.whole) in
    let l : Longest kind.Number (b ∷ (y.bytes ++ r)) r =
    longest_number (b ∷ (y.bytes ++ r)) (y.bytes ++ r) r b refl h
    (record { run = y.again r; longest = λ other z. stops_behind y.bytes r s z }) in
    subst (λ v. ReadsToken kind.Number v r) (back_of e) (digit_opens b (y.bytes ++ r) h, l)

text_again : (q : ℕ) (bs u : List ℕ) → q ≡ 39 → TextBody bs u → (r : List ℕ) → Lacks 39 r
    → ReadsToken kind.Text (front (q ∷ bs) u) r
text_again q bs u h x r s =
    let y = texts x in
    let e : front (q ∷ bs) u ≡ q ∷ y.bytes = front_is (q ∷ bs) (q ∷ y.bytes) u (ap (λ l. q ∷ l) y.whole) in
    let l : Longest kind.Text (q ∷ (y.bytes ++ r)) r =
    longest_text (q ∷ (y.bytes ++ r)) (y.bytes ++ r) r q refl h (y.again r s) in
    subst (λ v. ReadsToken kind.Text v r) (back_of e) (quote_opens q (y.bytes ++ r) h, l)

-- ---- signs

-- a sign has one byte, or two of which the first goes on with the second
abbrev pub SignForm : List ℕ → Type 0
SignForm [] = ⊥
SignForm (x ∷ []) = Unit {0}
SignForm (x ∷ y ∷ []) = goes_on (x ∷ []) y ≡ true
SignForm (x ∷ y ∷ z ∷ s) = ⊥

pub signs_form : HoldsOfEach SignForm signs
signs_form = (
  tt,
  (
    tt,
    (
      tt,
      (
        tt,
        (
          refl,
          (
            tt,
            (refl, (tt, (refl, (tt, (tt, (tt, (tt, (refl, (tt, (tt, (tt, (tt, (refl, (tt, tt)))))))))))))),
          ),
        ),
      ),
    ),
  ),
)

sign_bound : (s t r r' : List ℕ) → SignForm s → SignForm t → StopsRun (goes_on s) r → s ++ r ≡ t ++ r'
    → length r ≤ length r'
sign_bound [] t r r' f g h e = absurd f
sign_bound (x ∷ y ∷ z ∷ s) t r r' f g h e = absurd f
sign_bound (x ∷ []) [] r r' f g h e = absurd g
sign_bound (x ∷ []) (x' ∷ []) r r' f g h e = omega (arith, ap length e)
sign_bound (x ∷ []) (x' ∷ y' ∷ z ∷ t) r r' f g h e = absurd g
sign_bound (x ∷ []) (x' ∷ y' ∷ []) r r' f g h e =
    let same : x ≡ x' = cc in
    let rest : r ≡ y' ∷ r' = cc in
    let n : goes_on (x ∷ []) y' ≡ false = subst (StopsRun (goes_on (x ∷ []))) rest h in
    absurd (differ g (subst (λ x. goes_on (x ∷ []) y' ≡ false) same n))
sign_bound (x ∷ y ∷ []) [] r r' f g h e = absurd g
sign_bound (x ∷ y ∷ []) (x' ∷ []) r r' f g h e = omega (arith, ap length e)
sign_bound (x ∷ y ∷ []) (x' ∷ y' ∷ []) r r' f g h e = omega (arith, ap length e)
sign_bound (x ∷ y ∷ []) (x' ∷ y' ∷ z ∷ t) r r' f g h e = absurd g

no_brace : (b : ℕ) (u : List ℕ) → opens_comment (b ∷ u) ≡ false → (b == 123) ≡ false
no_brace b [] h = h
no_brace b (c ∷ u) h = grind (arith, nat_tests)

no_star : (b y : ℕ) → (b == 123) ≡ false → goes_on (b ∷ []) y ≡ false → (b == 123 || (b == 40 && y == 42)) ≡ false
no_star b y h g = grind (arith, nat_tests)

sign_opens : (b : ℕ) (s r u : List ℕ) → SignForm (b ∷ s) → opens_comment (b ∷ (s ++ u)) ≡ false
    → StopsRun (goes_on (b ∷ s)) r → opens_comment (b ∷ (s ++ r)) ≡ false
sign_opens b [] [] u f h g = no_brace b u h
sign_opens b [] (y ∷ r) u f h g = no_star b y (no_brace b u h) g
sign_opens b (y ∷ []) r u f h g = h
sign_opens b (y ∷ z ∷ s) r u f h g = absurd f

sign_again_by : (n b : ℕ) (s u : List ℕ) → slice_get signs n ≡ Some (b ∷ s) → SignForm (b ∷ s)
    → opens_comment (b ∷ (s ++ u)) ≡ false → (r : List ℕ) → StopsRun (goes_on (b ∷ s)) r
    → ReadsToken (kind.Sign n) (b ∷ s) r
sign_again_by n b s u h f o r g =
    let p = sign_plain b (s ++ r) (b ∷ s) r n h refl in (
      sign_opens b s r u f o g,
      longest_sign (b ∷ (s ++ r)) (s ++ r) r b n refl (false_from_ne_true (is_letter b) (no_letter b p))
          (false_from_ne_true (is_digit b) (no_digit b p)) (no_quote b p)
          (record { text = b ∷ s; sign_is = h; all = refl })
          (λ m r' l x. sign_bound (b ∷ s) x.text r r' f (each_at SignForm signs m x.text signs_form x.sign_is) g x.all),
    )

sign_again : (n : ℕ) (s bs u : List ℕ) → slice_get signs n ≡ Some s → SignForm s → bs ≡ s ++ u
    → opens_comment bs ≡ false → (r : List ℕ) → StopsRun (goes_on (front bs u)) r
    → ReadsToken (kind.Sign n) (front bs u) r
sign_again n [] bs u h f e o r g = absurd f
sign_again n (b ∷ s) bs u h f e o r g =
    let same : front bs u ≡ b ∷ s = front_is bs (b ∷ s) u e in
    subst (λ v. ReadsToken (kind.Sign n) v r) (back_of same)
    (sign_again_by n b s u h f (subst (λ l. opens_comment l ≡ false) e o) r
    (subst (λ v. StopsRun (goes_on v) r) same g))

lexeme_again : {k : Kind} {bs u : List ℕ} → opens_comment bs ≡ false → Lexeme k bs u → (r : List ℕ)
    → NotPartOfToken k (canonical_spelling (Some k) (front bs u)) r
    → ReadsToken k (canonical_spelling (Some k) (front bs u)) r
lexeme_again {u = u} o (name {bs = bs} b h x n) r s = word_again kind.Name b bs u h x n r s
lexeme_again {u = u} o (word {bs = bs} n b h x e) r s = word_again (kind.Word n) b bs u h x e r s
lexeme_again {u = u} o (number {bs = bs} b h x) r s = number_again b bs u h x r s
lexeme_again {u = u} o (text {bs = bs} q h x) r s = text_again q bs u h x r s
lexeme_again {u = u} o (sign {bs = bs} n t h e) r s =
    sign_again n t bs u h (each_at SignForm signs n t signs_form h) e o r s

pub token_again : {k : Kind} {bs u : List ℕ} → opens_comment bs ≡ false → Longest k bs u → (r : List ℕ)
    → NotPartOfToken k (canonical_spelling (Some k) (front bs u)) r
    → ReadsToken k (canonical_spelling (Some k) (front bs u)) r
token_again o l r s = lexeme_again o l.spelled r s

-- ---- how a token begins

abbrev pub Head : (ℕ → Bool) → List ℕ → Type 0
Head p [] = ⊥
Head p (b ∷ bs) = p b ≡ true

abbrev pub BeginsAsKind : Kind → List ℕ → Type 0
BeginsAsKind kind.Name c = Head is_letter c
BeginsAsKind (kind.Word n) c = Head is_letter c
BeginsAsKind kind.Number c = Head is_digit c
BeginsAsKind kind.Text c = Head (λ b. b == 39) c
BeginsAsKind (kind.Sign n) c = slice_get signs n ≡ Some c

low_head : (b : ℕ) (bs u : List ℕ) → is_letter b ≡ true → Run is_name_byte bs u
    → Head is_letter (map lower_case_letter (front (b ∷ bs) u))
low_head b bs u h x = let y = low_runs x in subst (λ v. Head is_letter (map lower_case_letter v))
    (back_of (front_is (b ∷ bs) (b ∷ y.bytes) u (ap (λ l. b ∷ l) y.whole))) (lower_letter b h)

is_quote : (q : ℕ) → q ≡ 39 → (q == 39) ≡ true
is_quote q h = grind (arith, nat_tests)

pub lexeme_first : {k : Kind} {bs u : List ℕ} → Lexeme k bs u
    → BeginsAsKind k (canonical_spelling (Some k) (front bs u))
lexeme_first {u = u} (name {bs = bs} b h x n) = low_head b bs u h x
lexeme_first {u = u} (word {bs = bs} n b h x e) = low_head b bs u h x
lexeme_first {u = u} (number {bs = bs} b h x) = let y = runs x in
    subst (Head is_digit) (back_of (front_is (b ∷ bs) (b ∷ y.bytes) u (ap (λ l. b ∷ l) y.whole))) h
lexeme_first {u = u} (text {bs = bs} q h x) = let y = texts x in
    subst (Head (λ b. b == 39)) (back_of (front_is (q ∷ bs) (q ∷ y.bytes) u (ap (λ l. q ∷ l) y.whole))) (is_quote q h)
lexeme_first {u = u} (sign {bs = bs} n t h e) = h ∙ ap Some (back_of (front_is bs t u e))
