-- The longest token at a place.
use Rattle.std.proofs.Common.{◌≡◌, ◌≢◌, ℕ, ◌+◌, ◌<◌, ◌≤◌, true, false, List, ◌∷◌, ◌++◌, length}
use Rattle.std.proofs.Common.{length-append, Option, Some, None, ◌⊎◌, inl, inr, refl, sym, ap, ◌∙◌, subst}
use Rattle.std.proofs.Common.{arith}
use Rattle.std.specs.Prelude.{slice_get}
use Rattle.std.specs.Bool.{IsTrue}
use Rattle.std.proofs.lemmas.Option.{slice_get_within}
use Rattle.std.proofs.lemmas.Bool.{cases_lt}
use Rattle.sp_tree.specs.declared.token.Kind.{Kind}
use Rattle.sp_tree.specs.declared.token.Kind.TheVariants as kind
use Rattle.sp_tree.specs.Characters.{is_letter, is_digit, is_name_byte}
use Rattle.sp_tree.specs.Lexemes.{signs, Run, TextBody, text_ends, two_quotes, text_byte}
use Rattle.sp_tree.specs.Lexemes.{BraceBody, StarBody, Comment, brace_comment, star_comment, lower_case_prefix, Lexeme}
use Rattle.sp_tree.specs.Lexemes.{name}
use Rattle.sp_tree.specs.Lexemes.{word, number, text, sign, Longest}
use Rattle.sp_tree.specs.Scans.{NoToken}
use Rattle.sp_tree.proofs.OneList.{sign_plain, no_letter, no_digit, no_quote, letter_digit, letter_quote}
use Rattle.sp_tree.proofs.OneList.{digit_quote}
use Rattle.sp_scan.specs.Finds.{EndsRun, IsWordOf, HasSign, FindsSign, EndsBody}
use Rattle.std.specs.Borrow.{Bor}
use Rattle.sp_base.proofs.Facts.{below_or_last}

-- words
pub word_more : (ws : List (List ℕ)) (k : ℕ) (w found : List ℕ) → ((m : ℕ) → m < k → slice_get ws m ≢ Some w)
    → slice_get ws k ≡ Some found → (w ≡ found → ⊥) → (m : ℕ) → m < k + 1 → slice_get ws m ≢ Some w
word_more ws k w found s e n m h g = by (cases_lt m k)
  where
    by : (m < k) ⊎ (k ≤ m) → ⊥
    by (inl l) = s m l g
    by (inr l) = let same : m ≡ k = omega arith in
        n (let x : Some w ≡ Some found = sym g ∙ ap (slice_get ws) same ∙ e in cc)

pub word_none : (ws : List (List ℕ)) (k : ℕ) (w : List ℕ) → length ws ≤ k → ((m : ℕ) → m < k → slice_get ws m ≢ Some w)
    → (m : ℕ) → slice_get ws m ≢ Some w
word_none ws k w h s m g = s m (omega (arith, slice_get_within ws m w g, h)) g

name_longest : (b : ℕ) (rest after r : List ℕ) (k : Kind) → is_letter b ≡ true → EndsRun is_name_byte rest after
    → Lexeme k (b ∷ rest) r → length after ≤ length r
name_longest b rest after r k h f (name c e x n) = f.longest r x
name_longest b rest after r k h f (word n c e x w) = f.longest r x
name_longest b rest after r k h f (number c e x) = absurd (letter_digit b h e)
name_longest b rest after r k h f (text q e x) = absurd (letter_quote b h e)
name_longest b rest after r k h f (sign n s e g) = absurd (no_letter b (sign_plain b rest s r n e g) h)

spelled_name : (b : ℕ) (rest after : List ℕ) (k : Kind) → is_letter b ≡ true → Run is_name_byte rest after
    → IsWordOf (lower_case_prefix (b ∷ rest) after) k → Lexeme k (b ∷ rest) after
spelled_name b rest after kind.Name h x w = name b h x w
spelled_name b rest after (kind.Word n) h x w = word n b h x w
spelled_name b rest after kind.Number h x w = absurd w
spelled_name b rest after kind.Text h x w = absurd w
spelled_name b rest after (kind.Sign n) h x w = absurd w

pub longest_name : (bytes rest after : List ℕ) (b : ℕ) (k : Kind) → bytes ≡ b ∷ rest → is_letter b ≡ true
    → EndsRun is_name_byte rest after → IsWordOf (lower_case_prefix bytes after) k → Longest k bytes after
longest_name bytes rest after b k e h f w = record {
  spelled = subst (λ l. Lexeme k l after) (sym e)
      (spelled_name b rest after k h f.run (subst (λ l. IsWordOf (lower_case_prefix l after) k) e w));
  longest = λ j r x. name_longest b rest after r j h f (subst (λ l. Lexeme j l r) e x);
}

number_longest : (b : ℕ) (rest after r : List ℕ) (k : Kind) → is_digit b ≡ true → EndsRun is_digit rest after
    → Lexeme k (b ∷ rest) r → length after ≤ length r
number_longest b rest after r k h f (number c e x) = f.longest r x
number_longest b rest after r k h f (name c e x n) = absurd (letter_digit b e h)
number_longest b rest after r k h f (word n c e x w) = absurd (letter_digit b e h)
number_longest b rest after r k h f (text q e x) = absurd (digit_quote b h e)
number_longest b rest after r k h f (sign n s e g) = absurd (no_digit b (sign_plain b rest s r n e g) h)

pub longest_number : (bytes rest after : List ℕ) (b : ℕ) → bytes ≡ b ∷ rest → is_digit b ≡ true
    → EndsRun is_digit rest after → Longest kind.Number bytes after
longest_number bytes rest after b e h f = record {
  spelled = subst (λ l. Lexeme kind.Number l after) (sym e) (number b h f.run);
  longest = λ j r x. number_longest b rest after r j h f (subst (λ l. Lexeme j l r) e x);
}

-- a text has one end
pub one_end : {bs r r' : List ℕ} → TextBody bs r → TextBody bs r' → r ≡ r'
one_end (text_ends q e n) (text_ends q' f m) = refl
one_end (text_ends q e n) (two_quotes q' u f g x) = absurd (n g)
one_end (text_ends q e n) (text_byte b p m l x) = absurd (p e)
one_end (two_quotes q u e f x) (text_ends q' g n) = absurd (n f)
one_end (two_quotes q u e f x) (two_quotes q' u' g h y) = one_end x y
one_end (two_quotes q u e f x) (text_byte b p m l y) = absurd (p e)
one_end (text_byte b p m l x) (text_ends q e n) = absurd (p e)
one_end (text_byte b p m l x) (two_quotes q u e f y) = absurd (p e)
one_end (text_byte b p m l x) (text_byte b' p' m' l' y) = one_end x y

text_longest : (b : ℕ) (rest after r : List ℕ) (k : Kind) → b ≡ 39 → TextBody rest after → Lexeme k (b ∷ rest) r
    → length after ≤ length r
text_longest b rest after r k h f (text q e x) = let s = ap length (one_end f x) in omega arith
text_longest b rest after r k h f (name c e x n) = absurd (letter_quote b e h)
text_longest b rest after r k h f (word n c e x w) = absurd (letter_quote b e h)
text_longest b rest after r k h f (number c e x) = absurd (digit_quote b e h)
text_longest b rest after r k h f (sign n s e g) = absurd (no_quote b (sign_plain b rest s r n e g) h)

pub longest_text : (bytes rest after : List ℕ) (b : ℕ) → bytes ≡ b ∷ rest → b ≡ 39 → TextBody rest after
    → Longest kind.Text bytes after
longest_text bytes rest after b e h f = record {
  spelled = subst (λ l. Lexeme kind.Text l after) (sym e) (text b h f);
  longest = λ j r x. text_longest b rest after r j h f (subst (λ l. Lexeme j l r) e x);
}

pub no_text_at : (b : ℕ) (rest r : List ℕ) (k : Kind) → b ≡ 39 → ((r : List ℕ) → TextBody rest r → ⊥)
    → Lexeme k (b ∷ rest) r → ⊥
no_text_at b rest r k h f (text q e x) = f r x
no_text_at b rest r k h f (name c e x n) = letter_quote b e h
no_text_at b rest r k h f (word n c e x w) = letter_quote b e h
no_text_at b rest r k h f (number c e x) = digit_quote b e h
no_text_at b rest r k h f (sign n s e g) = no_quote b (sign_plain b rest s r n e g) h

-- signs
below_twenty : (n : ℕ) (s : List ℕ) → slice_get signs n ≡ Some s → n < 20
below_twenty n s h = slice_get_within signs n s h

sign_longest : (b : ℕ) (rest after r : List ℕ) (k : Kind) → is_letter b ≡ false → is_digit b ≡ false → b ≢ 39
    → ((n : ℕ) (r : List ℕ) → n < 20 → HasSign (b ∷ rest) n r → length after ≤ length r) → Lexeme k (b ∷ rest) r
    → length after ≤ length r
sign_longest b rest after r k l d q f (sign n s e g) = f n r (below_twenty n s e)
    (record { text = s; sign_is = e; all = g })
sign_longest b rest after r k l d q f (name c e x n) = absurd cc
sign_longest b rest after r k l d q f (word n c e x w) = absurd cc
sign_longest b rest after r k l d q f (number c e x) = absurd cc
sign_longest b rest after r k l d q f (text c e x) = absurd (q e)

pub longest_sign : (bytes rest after : List ℕ) (b n : ℕ) → bytes ≡ b ∷ rest → is_letter b ≡ false → is_digit b ≡ false
    → b ≢ 39 → HasSign bytes n after → ((m : ℕ) (r : List ℕ) → m < 20 → HasSign bytes m r → length after ≤ length r)
    → Longest (kind.Sign n) bytes after
longest_sign bytes rest after b n e l d q h f = record {
  spelled = sign n h.text h.sign_is h.all;
  longest = λ j r x. sign_longest b rest after r j l d q (λ m r k g. f m r k (subst (λ l. HasSign l m r) (sym e) g))
      (subst (λ l. Lexeme j l r) e x);
}

no_sign_at : (b : ℕ) (rest r : List ℕ) (k : Kind) → is_letter b ≡ false → is_digit b ≡ false → b ≢ 39
    → ((n : ℕ) (r : List ℕ) → n < 20 → HasSign (b ∷ rest) n r → ⊥) → Lexeme k (b ∷ rest) r → ⊥
no_sign_at b rest r k l d q f (sign n s e g) = f n r (below_twenty n s e) (record { text = s; sign_is = e; all = g })
no_sign_at b rest r k l d q f (name c e x n) = cc
no_sign_at b rest r k l d q f (word n c e x w) = cc
no_sign_at b rest r k l d q f (number c e x) = cc
no_sign_at b rest r k l d q f (text c e x) = q e

pub none_sign : (bytes rest : List ℕ) (b : ℕ) → bytes ≡ b ∷ rest → is_letter b ≡ false → is_digit b ≡ false → b ≢ 39
    → ((n : ℕ) (r : List ℕ) → n < 20 → HasSign bytes n r → ⊥) → NoToken bytes
none_sign bytes rest b e l d q f k r x = no_sign_at b rest r k l d q
    (λ n r h g. f n r h (subst (λ l. HasSign l n r) (sym e) g)) (subst (λ l. Lexeme k l r) e x)

no_brace_at : {r : List ℕ} (rest : List ℕ) (b : ℕ) → b ≡ 123 → ((r : List ℕ) → BraceBody rest r → ⊥)
    → Comment (b ∷ rest) r → ⊥
no_brace_at rest b h f (brace_comment c e x) = f _ x
no_brace_at rest b h f (star_comment a c e g x) = omega arith

no_star_at : {r : List ℕ} (behind : List ℕ) (a b : ℕ) → a ≡ 40 → ((r : List ℕ) → StarBody behind r → ⊥)
    → Comment (a ∷ b ∷ behind) r → ⊥
no_star_at behind a b h f (brace_comment c e x) = omega arith
no_star_at behind a b h f (star_comment c e g i x) = f _ x

-- the longer of two signs
sign_text : (bytes : List ℕ) (n : ℕ) (s r r' : List ℕ) → slice_get signs n ≡ Some s → bytes ≡ s ++ r
    → HasSign bytes n r' → length r ≡ length r'
sign_text bytes n s r r' h e g =
    let same : s ≡ g.text = (let x : Some s ≡ Some g.text = sym h ∙ g.sign_is in cc) in
    let l : length (s ++ r) ≡ length (s ++ r') = ap length (sym e ∙ g.all ∙ ap (λ t. t ++ r') (sym same)) in
    omega (arith, length-append s r, length-append s r')

no_such : (bytes : List ℕ) (n : ℕ) (s r : List ℕ) → slice_get signs n ≡ Some s → ((r : List ℕ) → bytes ≢ s ++ r)
    → HasSign bytes n r → ⊥
no_such bytes n s r h f g = let same : s ≡ g.text = (let x : Some s ≡ Some g.text = sym h ∙ g.sign_is in cc) in
    f r (g.all ∙ ap (λ t. t ++ r) (sym same))

module _ (bytes : List ℕ) (n : ℕ) (s : List ℕ) (h : slice_get signs n ≡ Some s) where
  old : (f : (r : List ℕ) → bytes ≢ s ++ r) (m : ℕ) (r : List ℕ) → (m < n) ⊎ (m ≡ n) → HasSign bytes m r
      → HasSign bytes m r × (m < n)
  old f m r (inl l) g = (g, l)
  old f m r (inr e) g = absurd (no_such bytes n s r h f (subst (λ m. HasSign bytes m r) e g))

  pub better_none : (o : Option (ℕ × Bor (List ℕ))) → FindsSign n bytes o → ((r : List ℕ) → bytes ≢ s ++ r)
      → FindsSign (n + 1) bytes o
  better_none None x f = λ m r l g. let i = old f m r (below_or_last m n l) g in x m r i.1 g
  better_none (Some y) x f = (x.0, λ m r l g. let i = old f m r (below_or_last m n l) g in x.1 m r i.1 g)

  new : (rest : List ℕ) (m : ℕ) (r : List ℕ) → bytes ≡ s ++ rest
      → ((m : ℕ) (r : List ℕ) → m < n → HasSign bytes m r → length rest ≤ length r) → (m < n) ⊎ (m ≡ n)
      → HasSign bytes m r → length rest ≤ length r
  new rest m r e f (inl l) g = f m r l g
  new rest m r e f (inr q) g = let i = sign_text bytes n s rest r h e (subst (λ m. HasSign bytes m r) q g) in
      omega arith

  pub better_new : (rest : Bor (List ℕ)) → bytes ≡ s ++ rest.now
      → ((m : ℕ) (r : List ℕ) → m < n → HasSign bytes m r → ⊥) → FindsSign (n + 1) bytes (Some (n, rest))
  better_new rest e f = (
    record { text = s; sign_is = h; all = e },
    λ m r l g. new rest.now m r e (λ m r l g. absurd (f m r l g)) (below_or_last m n l) g,
  )

  pub better_more : (rest : Bor (List ℕ)) (other : Bor (List ℕ)) → bytes ≡ s ++ rest.now
      → length rest.now < length other.now → ((m : ℕ) (r : List ℕ) → m < n → HasSign bytes m r
      → length other.now ≤ length r) → FindsSign (n + 1) bytes (Some (n, rest))
  better_more rest other e l f = (
    record { text = s; sign_is = h; all = e },
    λ m r k g. new rest.now m r e (λ m r k g. let i = f m r k g in omega arith) (below_or_last m n k) g,
  )

  keep : (rest other : List ℕ) (m : ℕ) (r : List ℕ) → bytes ≡ s ++ rest → length other ≤ length rest
      → ((m : ℕ) (r : List ℕ) → m < n → HasSign bytes m r → length other ≤ length r) → (m < n) ⊎ (m ≡ n)
      → HasSign bytes m r → length other ≤ length r
  keep rest other m r e l f (inl k) g = f m r k g
  keep rest other m r e l f (inr q) g = let i = sign_text bytes n s rest r h e (subst (λ m. HasSign bytes m r) q g) in
      omega arith

  pub better_keep : (rest : Bor (List ℕ)) (best : ℕ × Bor (List ℕ)) → bytes ≡ s ++ rest.now
      → length best.1.now ≤ length rest.now → FindsSign n bytes (Some best) → FindsSign (n + 1) bytes (Some best)
  better_keep rest best e l x = (x.0, λ m r k g. keep rest.now best.1.now m r e l x.1 (below_or_last m n k) g)

-- comments
pub closes_brace : (bytes rest : List ℕ) (b : ℕ) (o : Option (Bor (List ℕ))) → bytes ≡ b ∷ rest → b ≡ 123
    → EndsBody BraceBody rest o → EndsBody Comment bytes o
closes_brace bytes rest b None e h f = λ r x. no_brace_at rest b h f (subst (λ l. Comment l r) e x)
closes_brace bytes rest b (Some r) e h f = subst (λ l. Comment l r.now) (sym e) (brace_comment b h f)

pub closes_star : (bytes rest behind : List ℕ) (a : ℕ) (o : Option (Bor (List ℕ))) → bytes ≡ a ∷ rest → a ≡ 40
    → rest ≡ 42 ∷ behind → EndsBody StarBody behind o → EndsBody Comment bytes o
closes_star bytes rest behind a None e h g f =
    λ r x. no_star_at behind a 42 h f (subst (λ l. Comment l r) (e ∙ ap (λ l. a ∷ l) g) x)
closes_star bytes rest behind a (Some r) e h g f =
    let b : ℕ = 42 in
    let i : b ≡ 42 = refl in
    subst (λ l. Comment l r.now) (sym (e ∙ ap (λ l. a ∷ l) g)) (star_comment a b h i f)

pub no_truth : IsTrue false → ⊥
no_truth h = cc

pub within : (v : ℕ) → (9223372036854775807 < v → IsTrue false) → v ≤ 9223372036854775807
within v h = split (cases_lt 9223372036854775807 v)
  where
    split : (9223372036854775807 < v) ⊎ (v ≤ 9223372036854775807) → v ≤ 9223372036854775807
    split (inl l) = absurd (no_truth (h l))
    split (inr l) = l
