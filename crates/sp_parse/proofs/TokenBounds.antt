-- The tokens of a text that breaks no rule of characters lie in it, and their numbers are integers.
use Rattle.std.proofs.Common.{◌≡◌, ℕ, ◌-◌, ◌<◌, ◌≤◌, Bool, List, [], ◌∷◌, ◌++◌, length, take, drop}
use Rattle.std.proofs.Common.{refl, sym as back_of, ap, ◌∙◌, subst, arith, length-append, append_assoc}
use Rattle.std.proofs.lemmas.Bool.Decides.{nat_tests}
use Rattle.std.proofs.Math.Seq.{drop-append_seam}
use Rattle.sp_base.specs.declared.place.Place.{Place}
use Rattle.sp_base.specs.declared.rule.Rule.{Rule}
use Rattle.sp_base.specs.declared.rule.Rule.TheVariants as rule
use Rattle.sp_tree.specs.declared.token.Token.{Token}
use Rattle.sp_tree.specs.declared.token.Kind.{Kind}
use Rattle.sp_tree.specs.declared.token.Kind.TheVariants as kind
use Rattle.sp_tree.specs.Places.{place_at}
use Rattle.sp_tree.specs.Spelling.{spelling, number_of, digits_value}
use Rattle.sp_tree.specs.Lexemes.{Run, run_ends, run_goes_on, TextBody, text_ends, two_quotes, text_byte, BraceBody}
use Rattle.sp_tree.specs.Lexemes.{brace_ends, brace_byte, StarBody, star_ends, star_byte, Comment, brace_comment}
use Rattle.sp_tree.specs.Lexemes.{star_comment, Lexeme, Longest, lower_case_prefix}
use Rattle.sp_tree.specs.Lexemes as l
use Rattle.sp_tree.specs.Scans.{Scans, nothing, blank, comment, token, offset, token_from, BreaksLexis, IsTokens}
use Rattle.sp_tree.proofs.TokenOrder.{lexeme_length}
use Rattle.sp_tree.proofs.TextParts.{scans_chain, lower_number}
use Rattle.sp_parse.specs.Reads.{TokensFit}

-- the second list is the end of the first
abbrev pub Tail : List ℕ → List ℕ → Type 0
Tail bs r = (front : List ℕ) × (bs ≡ front ++ r)

pub more : (b : ℕ) {bs r : List ℕ} → Tail bs r → Tail (b ∷ bs) r
more b h = (b ∷ h.0, ap (λ l. b ∷ l) h.1)

behind : {bs u r : List ℕ} → Tail bs u → Tail u r → Tail bs r
behind {r = r} a b = (a.0 ++ b.0, a.1 ∙ ap (λ l. a.0 ++ l) b.1 ∙ back_of (append_assoc a.0 b.0 r))

run_tail : {p : ℕ → Bool} {bs r : List ℕ} → Run p bs r → Tail bs r
run_tail run_ends = ([], refl)
run_tail (run_goes_on b h x) = more b (run_tail x)

text_tail : {bs r : List ℕ} → TextBody bs r → Tail bs r
text_tail (text_ends q h i) = more q ([], refl)
text_tail (two_quotes q u h i x) = more q (more u (text_tail x))
text_tail (text_byte b h i j x) = more b (text_tail x)

pub brace_tail : {bs r : List ℕ} → BraceBody bs r → Tail bs r
brace_tail (brace_ends c h) = more c ([], refl)
brace_tail (brace_byte b h x) = more b (brace_tail x)

pub star_tail : {bs r : List ℕ} → StarBody bs r → Tail bs r
star_tail (star_ends a b h i) = more a (more b ([], refl))
star_tail (star_byte b h x) = more b (star_tail x)

pub comment_tail : {bs r : List ℕ} → Comment bs r → Tail bs r
comment_tail (brace_comment b h x) = more b (brace_tail x)
comment_tail (star_comment a b h i x) = more a (more b (star_tail x))

lexeme_tail : {k : Kind} {bs r : List ℕ} → Lexeme k bs r → Tail bs r
lexeme_tail (l.name b h x n) = more b (run_tail x)
lexeme_tail (l.word n b h x e) = more b (run_tail x)
lexeme_tail (l.number b h x) = more b (run_tail x)
lexeme_tail (l.text q h x) = more q (text_tail x)
lexeme_tail (l.sign n s h e) = (s, e)

tail_length : {bs r : List ℕ} → Tail bs r → length r ≤ length bs
tail_length {bs} {r} h = omega (arith, ap length h.1, length-append h.0 r)

dropped : (text bs : List ℕ) → Tail text bs → drop (offset text bs) text ≡ bs
dropped text bs h =
    let n : offset text bs ≡ length h.0 = omega (arith, ap length h.1, length-append h.0 bs) in
    ap (λ n. drop n text) n ∙ ap (drop (length h.0)) h.1 ∙ drop-append_seam h.0 bs

module _ (text : List ℕ) (kept : (r : Rule) (at : Place) → BreaksLexis text r at → ⊥) where
  spelled : (k : Kind) (bs u : List ℕ) → Tail text bs → Tail bs u
      → spelling text (token_from text k bs u) ≡ take (length bs - length u) bs
  spelled k bs u a b =
      let n : offset text u - offset text bs ≡ length bs - length u = omega (arith, tail_length a, tail_length b) in
      ap (λ n. take n (drop (offset text bs) text)) n ∙ ap (take (length bs - length u)) (dropped text bs a)

  small : (bs u : List ℕ) (before : List Token) → Scans text text bs before → Longest kind.Number bs u
      → digits_value 0 (lower_case_prefix bs u) ≤ 9223372036854775807
  small bs u before along g = by_size (λ h. kept rule.S4 (place_at text (offset text bs))
      (record {
        rest = bs;
        tokens = before;
        along = along;
        here = record { rest = u; number = g; above = h };
        place = refl;
      }))
    where
      by_size : (9223372036854775807 < digits_value 0 (lower_case_prefix bs u) → ⊥)
          → digits_value 0 (lower_case_prefix bs u) ≤ 9223372036854775807
      by_size h = grind (arith, nat_tests)

  number_fits : (k : Kind) (bs u : List ℕ) (before : List Token) → Tail text bs → Scans text text bs before
      → Longest k bs u → k ≡ kind.Number → number_of text (token_from text k bs u) ≤ 9223372036854775807
  number_fits k bs u before a along g p =
      let n : Longest kind.Number bs u = subst (λ k. Longest k bs u) p g in
      let e : number_of text (token_from text k bs u) ≡ digits_value 0 (lower_case_prefix bs u) =
      ap (digits_value 0) (spelled k bs u a (lexeme_tail g.spelled) ∙ back_of (lower_number n.spelled)) in
      omega (arith, e, small bs u before along n)

  fit : {bs r : List ℕ} {ts : List Token} (before : List Token) → Tail text bs → Scans text text bs before
      → Scans text bs r ts → TokensFit text ts
  fit before a along nothing = tt
  fit {bs = b ∷ bs} before a along (blank b' h x) =
      fit (before ++ []) (behind a (b ∷ [], refl)) (scans_chain along (blank b h nothing)) x
  fit {bs} before a along (comment {u = u} c x) =
      fit (before ++ []) (behind a (comment_tail c)) (scans_chain along (comment c nothing)) x
  fit {bs} before a along (token {u = u} k o g x) = (
    record {
      order = omega (arith, lexeme_length g.spelled);
      within = omega arith;
      number = λ p. number_fits k bs u before a along g p;
    },
    fit (before ++ token_from text k bs u ∷ []) (behind a (lexeme_tail g.spelled))
        (scans_chain along (token k o g nothing)) x,
  )

pub all_fit : (text : List ℕ) (ts : List Token) → IsTokens text ts → TokensFit text ts
all_fit text ts h = fit text h.kept [] ([], refl) nothing h.scans

-- a text has at most so many bytes
pub short : (text : List ℕ) (ts : List Token) → IsTokens text ts → length text ≤ 1048576
short text ts h = by_size (λ g. h.kept rule.L1 _ (record { above = g; place = refl }))
  where
    by_size : (1048576 < length text → ⊥) → length text ≤ 1048576
    by_size h = grind (arith, nat_tests)
