-- A text has at most one list of tokens.
use Rattle.std.proofs.Common.{◌≡◌, ℕ, zero, suc, ◌≤◌, Bool, true, false, ◌||◌, ◌&&◌, ◌==◌, cond, not, List, [], ◌∷◌}
use Rattle.std.proofs.Common.{◌++◌, length, length-append, Some, refl, sym as back_of, ap, ◌∙◌, subst, arith, inl, inr}
use Rattle.std.specs.Prelude.{slice_get, T}
use Rattle.std.proofs.lemmas.Bool.Decides.{nat_tests}
use Rattle.sp_tree.specs.declared.token.Token.{Token}
use Rattle.sp_tree.specs.declared.token.Kind.{Kind}
use Rattle.sp_tree.specs.declared.token.Kind.TheVariants as kind
use Rattle.sp_tree.specs.Characters.{is_blank, is_letter, is_digit}
use Rattle.sp_tree.specs.Lexemes.{words, signs, Run, run_ends, run_goes_on, TextBody, text_ends, two_quotes, text_byte}
use Rattle.sp_tree.specs.Lexemes.{BraceBody, brace_ends, brace_byte, StarBody, star_ends, star_byte, Comment}
use Rattle.sp_tree.specs.Lexemes.{brace_comment, star_comment, opens_comment, Lexeme, name, word, number, text, sign}
use Rattle.sp_tree.specs.Lexemes.{Longest}
use Rattle.sp_base.specs.declared.halt.Refusal.{Refusal}
use Rattle.sp_base.proofs.Facts.{equals_itself}
use Rattle.sp_tree.specs.PlainSyntax.{Program}
use Rattle.sp_tree.specs.First.{IsFirst}
use Rattle.sp_tree.specs.Viable.{Spells}
use Rattle.sp_tree.specs.Breaches.{BreaksGrammar, IsFirstBroken, IsTree}
use Rattle.sp_tree.proofs.RefusalOrder.{one_first}
use Rattle.sp_tree.proofs.OneTree.{one_program}
use Rattle.sp_tree.specs.Scans.{BreaksLexis, Scans, nothing, blank, comment, token, token_from}
use Rattle.sp_tree.proofs.TokenOrder.{HoldsOfEach, each_at, lexeme_length, comment_length}

-- what is left of a list
pub data Tail : List ℕ → List ℕ → Type 0 where
  here : {r : List ℕ} → Tail r r
  there : {r bs : List ℕ} {b : ℕ} → Tail r bs → Tail r (b ∷ bs)

pub tail_length : {r bs : List ℕ} → Tail r bs → length r ≤ length bs
tail_length here = omega arith
tail_length (there x) = omega (arith, tail_length x)

pub tail_same : {r r' bs : List ℕ} → Tail r bs → Tail r' bs → length r ≡ length r' → r ≡ r'
tail_same here here e = refl
tail_same here (there x) e = absurd (let l = tail_length x in omega arith)
tail_same (there x) here e = absurd (let l = tail_length x in omega arith)
tail_same (there x) (there y) e = tail_same x y e

run_tail : {p : ℕ → Bool} {bs r : List ℕ} → Run p bs r → Tail r bs
run_tail run_ends = here
run_tail (run_goes_on b h x) = there (run_tail x)

text_tail : {bs r : List ℕ} → TextBody bs r → Tail r bs
text_tail (text_ends q h l) = there here
text_tail (two_quotes q u h i x) = there (there (text_tail x))
text_tail (text_byte b h i j x) = there (text_tail x)

append_tail : (s r : List ℕ) → Tail r (s ++ r)
append_tail [] r = here
append_tail (b ∷ s) r = there (append_tail s r)

pub lexeme_tail : {k : Kind} {bs r : List ℕ} → Lexeme k bs r → Tail r bs
lexeme_tail (name b h x n) = there (run_tail x)
lexeme_tail (word n b h x e) = there (run_tail x)
lexeme_tail (number b h x) = there (run_tail x)
lexeme_tail (text q h x) = there (text_tail x)
lexeme_tail {r = r} (sign n s h e) = subst (Tail r) (back_of e) (append_tail s r)

-- a sign begins with no letter, digit, quote or blank
abbrev is_plain : ℕ → Bool
is_plain c = not (is_letter c || (is_digit c || (c == 39 || is_blank c)))

abbrev PlainFirst : List ℕ → Type 0
PlainFirst [] = ⊥
PlainFirst (c ∷ s) = is_plain c ≡ true

signs_plain : HoldsOfEach PlainFirst signs
signs_plain = (
  refl,
  (
    refl,
    (
      refl,
      (
        refl,
        (
          refl,
          (
            refl,
            (
              refl,
              (
                refl,
                (
                  refl,
                  (
                    refl,
                    (
                      refl,
                      (refl, (refl, (refl, (refl, (refl, (refl, (refl, (refl, (refl, tt))))))))),
                    ),
                  ),
                ),
              ),
            ),
          ),
        ),
      ),
    ),
  ),
)

plain_by : (b : ℕ) (bs s u : List ℕ) → PlainFirst s → b ∷ bs ≡ s ++ u → is_plain b ≡ true
plain_by b bs [] u h e = absurd h
plain_by b bs (c ∷ s) u h e = subst (λ c. is_plain c ≡ true) (let same : c ≡ b = cc in same) h

pub sign_plain : (b : ℕ) (bs s u : List ℕ) (n : ℕ) → slice_get signs n ≡ Some s → b ∷ bs ≡ s ++ u → is_plain b ≡ true
sign_plain b bs s u n h e = plain_by b bs s u (each_at PlainFirst signs n s signs_plain h) e

pub no_letter : (b : ℕ) → is_plain b ≡ true → is_letter b ≡ true → ⊥
no_letter b p h = grind (arith, nat_tests)

pub no_digit : (b : ℕ) → is_plain b ≡ true → is_digit b ≡ true → ⊥
no_digit b p h = grind (arith, nat_tests)

pub no_quote : (b : ℕ) → is_plain b ≡ true → b ≡ 39 → ⊥
no_quote b p h = grind (arith, nat_tests)

pub no_blank : (b : ℕ) → is_plain b ≡ true → is_blank b ≡ true → ⊥
no_blank b p h = grind (arith, nat_tests)

pub letter_digit : (b : ℕ) → is_letter b ≡ true → is_digit b ≡ true → ⊥
letter_digit b p h = grind (arith, nat_tests)

pub letter_quote : (b : ℕ) → is_letter b ≡ true → b ≡ 39 → ⊥
letter_quote b p h = grind (arith, nat_tests)

pub digit_quote : (b : ℕ) → is_digit b ≡ true → b ≡ 39 → ⊥
digit_quote b p h = grind (arith, nat_tests)

pub letter_blank : (b : ℕ) → is_letter b ≡ true → is_blank b ≡ true → ⊥
letter_blank b p h = grind (arith, nat_tests)

pub digit_blank : (b : ℕ) → is_digit b ≡ true → is_blank b ≡ true → ⊥
digit_blank b p h = grind (arith, nat_tests)

pub quote_blank : (b : ℕ) → b ≡ 39 → is_blank b ≡ true → ⊥
quote_blank b p h = grind (arith, nat_tests)

-- words, and signs, are all different
abbrev same_bytes : List ℕ → List ℕ → Bool
same_bytes [] [] = true
same_bytes (b ∷ bs) (c ∷ cs) = (b == c) && same_bytes bs cs
same_bytes bs cs = false

same_self : (bs : List ℕ) → same_bytes bs bs ≡ true
same_self [] = refl
same_self (b ∷ bs) = λ i. equals_itself b i && same_self bs i

abbrev absent : List ℕ → List (List ℕ) → Bool
absent w [] = true
absent w (x ∷ xs) = cond (same_bytes w x) false (absent w xs)

abbrev Distinct : List (List ℕ) → Type 0
Distinct [] = Unit {0}
Distinct (x ∷ xs) = (absent x xs ≡ true) × Distinct xs

absent_first : (w x : List ℕ) (xs : List (List ℕ)) → x ≡ w → absent w (x ∷ xs) ≡ true → ⊥
absent_first w x xs e h =
    let same : same_bytes w x ≡ true = ap (same_bytes w) e ∙ same_self w in
    absurd (subst T (back_of h ∙ ap (λ b. cond b false (absent w xs)) same) tt)

absent_rest : (b : Bool) (c : Bool) → cond b false c ≡ true → c ≡ true
absent_rest true c h = absurd (subst T (back_of h) tt)
absent_rest false c h = h

never_there : (w : List ℕ) (xs : List (List ℕ)) (n : ℕ) → absent w xs ≡ true → slice_get xs n ≡ Some w → ⊥
never_there w [] n h e = absurd cc
never_there w (x ∷ xs) zero h e = absent_first w x xs (let same : x ≡ w = cc in same) h
never_there w (x ∷ xs) (suc n) h e = never_there w xs n (absent_rest (same_bytes w x) (absent w xs) h) e

one_position : (xs : List (List ℕ)) (n m : ℕ) (w : List ℕ) → Distinct xs → slice_get xs n ≡ Some w
    → slice_get xs m ≡ Some w → n ≡ m
one_position [] n m w d e f = absurd cc
one_position (x ∷ xs) zero zero w d e f = refl
one_position (x ∷ xs) zero (suc m) w d e f = absurd (never_there x xs m d.0 (f ∙ back_of e))
one_position (x ∷ xs) (suc n) zero w d e f = absurd (never_there x xs n d.0 (e ∙ back_of f))
one_position (x ∷ xs) (suc n) (suc m) w d e f = ap suc (one_position xs n m w d.1 e f)

words_distinct : Distinct words
words_distinct = (
  refl,
  (
    refl,
    (
      refl,
      (
        refl,
        (
          refl,
          (
            refl,
            (
              refl,
              (
                refl,
                (
                  refl,
                  (
                    refl,
                    (
                      refl,
                      (
                        refl,
                        (
                          refl,
                          (
                            refl,
                            (
                              refl,
                              (
                                refl,
                                (
                                  refl,
                                  (
                                    refl,
                                    (
                                      refl,
                                      (
                                        refl,
                                        (
                                          refl,
                                          (
                                            refl,
                                            (refl, (refl, (refl, (refl, (refl, (refl, (refl, (refl, tt)))))))),
                                          ),
                                        ),
                                      ),
                                    ),
                                  ),
                                ),
                              ),
                            ),
                          ),
                        ),
                      ),
                    ),
                  ),
                ),
              ),
            ),
          ),
        ),
      ),
    ),
  ),
)

signs_distinct : Distinct signs
signs_distinct = (
  refl,
  (
    refl,
    (
      refl,
      (
        refl,
        (
          refl,
          (
            refl,
            (
              refl,
              (
                refl,
                (
                  refl,
                  (
                    refl,
                    (refl, (refl, (refl, (refl, (refl, (refl, (refl, (refl, (refl, (refl, tt)))))))))),
                  ),
                ),
              ),
            ),
          ),
        ),
      ),
    ),
  ),
)

same_front : (s s' r r' : List ℕ) → length s ≡ length s' → s ++ r ≡ s' ++ r' → s ≡ s'
same_front [] [] r r' l e = refl
same_front [] (c ∷ s') r r' l e = absurd (omega arith)
same_front (b ∷ s) [] r r' l e = absurd (omega arith)
same_front (b ∷ s) (c ∷ s') r r' l e =
    let first : b ≡ c = cc in
    let others = same_front s s' r r' (omega arith) (cc) in λ i. first i ∷ others i

one_sign : (n m : ℕ) (s s' r : List ℕ) → slice_get signs n ≡ Some s → slice_get signs m ≡ Some s' → s ++ r ≡ s' ++ r
    → n ≡ m
one_sign n m s s' r h h' e =
    let l : length s ≡ length s' = let k = ap length e in omega (arith, length-append s r, length-append s' r) in
    one_position signs n m s signs_distinct h (h' ∙ ap Some (back_of (same_front s s' r r l e)))

pub one_kind : {k j : Kind} {bs r : List ℕ} → Lexeme k bs r → Lexeme j bs r → k ≡ j
one_kind (name b h x n) (name b' h' x' n') = refl
one_kind (name b h x n) (word m b' h' x' e) = absurd (n m e)
one_kind (name b h x n) (number b' h' x') = absurd (letter_digit b h h')
one_kind (name b h x n) (text q h' x') = absurd (letter_quote b h h')
one_kind (name b h x n) (sign m s h' e) = absurd (no_letter b (sign_plain b _ s _ m h' e) h)
one_kind (word m b h x e) (name b' h' x' n') = absurd (n' m e)
one_kind (word m b h x e) (word m' b' h' x' e') = ap kind.Word (one_position words m m' _ words_distinct e e')
one_kind (word m b h x e) (number b' h' x') = absurd (letter_digit b h h')
one_kind (word m b h x e) (text q h' x') = absurd (letter_quote b h h')
one_kind (word m b h x e) (sign m' s h' e') = absurd (no_letter b (sign_plain b _ s _ m' h' e') h)
one_kind (number b h x) (name b' h' x' n') = absurd (letter_digit b h' h)
one_kind (number b h x) (word m b' h' x' e) = absurd (letter_digit b h' h)
one_kind (number b h x) (number b' h' x') = refl
one_kind (number b h x) (text q h' x') = absurd (digit_quote b h h')
one_kind (number b h x) (sign m s h' e) = absurd (no_digit b (sign_plain b _ s _ m h' e) h)
one_kind (text q h x) (name b' h' x' n') = absurd (letter_quote q h' h)
one_kind (text q h x) (word m b' h' x' e) = absurd (letter_quote q h' h)
one_kind (text q h x) (number b' h' x') = absurd (digit_quote q h' h)
one_kind (text q h x) (text q' h' x') = refl
one_kind (text q h x) (sign m s h' e) = absurd (no_quote q (sign_plain q _ s _ m h' e) h)
one_kind (sign n s h e) (name b' h' x' n') = absurd (no_letter b' (sign_plain b' _ s _ n h e) h')
one_kind (sign n s h e) (word m b' h' x' e') = absurd (no_letter b' (sign_plain b' _ s _ n h e) h')
one_kind (sign n s h e) (number b' h' x') = absurd (no_digit b' (sign_plain b' _ s _ n h e) h')
one_kind (sign n s h e) (text q' h' x') = absurd (no_quote q' (sign_plain q' _ s _ n h e) h')
one_kind (sign n s h e) (sign m s' h' e') = ap kind.Sign (one_sign n m s s' _ h h' (back_of e ∙ e'))

pub not_blank : {k : Kind} {b : ℕ} {bs r : List ℕ} → Lexeme k (b ∷ bs) r → is_blank b ≡ true → ⊥
not_blank (name b h x n) p = letter_blank b h p
not_blank (word m b h x e) p = letter_blank b h p
not_blank (number b h x) p = digit_blank b h p
not_blank (text q h x) p = quote_blank q h p
not_blank {b = b} {bs = bs} {r = r} (sign n s h e) p = no_blank b (sign_plain b bs s r n h e) p

-- comments
one_brace : {bs r r' : List ℕ} → BraceBody bs r → BraceBody bs r' → r ≡ r'
one_brace (brace_ends c h) (brace_ends c' h') = refl
one_brace (brace_ends c h) (brace_byte b n x) = absurd (n h)
one_brace (brace_byte b n x) (brace_ends c h) = absurd (n h)
one_brace (brace_byte b n x) (brace_byte b' n' x') = one_brace x x'

one_star : {bs r r' : List ℕ} → StarBody bs r → StarBody bs r' → r ≡ r'
one_star (star_ends a b h i) (star_ends a' b' h' i') = refl
one_star (star_ends a b h i) (star_byte b' n x) = absurd (n h i)
one_star (star_byte b n x) (star_ends a' b' h i) = absurd (n h i)
one_star (star_byte b n x) (star_byte b' n' x') = one_star x x'

pub one_comment : {bs r r' : List ℕ} → Comment bs r → Comment bs r' → r ≡ r'
one_comment (brace_comment b h x) (brace_comment b' h' x') = one_brace x x'
one_comment (brace_comment b h x) (star_comment a c h' i x') = absurd (omega arith)
one_comment (star_comment a b h i x) (brace_comment c h' x') = absurd (omega arith)
one_comment (star_comment a b h i x) (star_comment a' b' h' i' x') = one_star x x'

pub opens_brace : (b : ℕ) (bs : List ℕ) → b ≡ 123 → opens_comment (b ∷ bs) ≡ true
opens_brace b [] h = grind (arith, nat_tests)
opens_brace b (c ∷ bs) h = grind (arith, nat_tests)

pub opens_star : (a b : ℕ) (bs : List ℕ) → a ≡ 40 → b ≡ 42 → opens_comment (a ∷ b ∷ bs) ≡ true
opens_star a b bs h i = grind (arith, nat_tests)

pub opens : {bs r : List ℕ} → Comment bs r → opens_comment bs ≡ true
opens (brace_comment {bs = bs} b h x) = opens_brace b bs h
opens (star_comment {bs = bs} a b h i x) = opens_star a b bs h i

pub blank_opens : (b : ℕ) (bs : List ℕ) → is_blank b ≡ true → opens_comment (b ∷ bs) ≡ true → ⊥
blank_opens b [] h p = grind (arith, nat_tests)
blank_opens b (c ∷ bs) h p = grind (arith, nat_tests)

pub differ : {b : Bool} → b ≡ true → b ≡ false → ⊥
differ p q = absurd (subst T (back_of p ∙ q) tt)

module _ (bytes : List ℕ) where
  pub same_rest : {k j : Kind} {bs u v : List ℕ} → Longest k bs u → Longest j bs v → u ≡ v
  same_rest {k} {j} {u = u} {v = v} l m = tail_same (lexeme_tail l.spelled) (lexeme_tail m.spelled)
      (let x = l.longest j v m.spelled in let y = m.longest k u l.spelled in omega arith)

  token_both : (bs : List ℕ) (k j : Kind) (u v : List ℕ) {ts us : List Token} → k ≡ j → u ≡ v → ts ≡ us
      → token_from bytes k bs u ∷ ts ≡ token_from bytes j bs v ∷ us
  token_both bs k j u v p q e = λ i. token_from bytes (p i) bs (q i) ∷ e i

  pub one_list : {bs : List ℕ} {ts us : List Token} → Scans bytes bs [] ts → Scans bytes bs [] us → ts ≡ us
  one_list nothing nothing = refl
  one_list nothing (comment c x) = absurd (let l = comment_length c in omega arith)
  one_list nothing (token k o l x) = absurd (let m = lexeme_length l.spelled in omega arith)
  one_list (blank b h x) (blank b' h' x') = one_list x x'
  one_list (blank b h x) (comment c x') = absurd (blank_opens b _ h (opens c))
  one_list (blank b h x) (token k o l x') = absurd (not_blank l.spelled h)
  one_list (comment c x) nothing = absurd (let l = comment_length c in omega arith)
  one_list (comment c x) (blank b h x') = absurd (blank_opens b _ h (opens c))
  one_list {us = us} (comment c x) (comment c' x') = one_list x (subst (λ u. Scans bytes u [] us) (one_comment c' c) x')
  one_list (comment c x) (token k o l x') = absurd (differ (opens c) o)
  one_list (token k o l x) nothing = absurd (let m = lexeme_length l.spelled in omega arith)
  one_list (token k o l x) (blank b h x') = absurd (not_blank l.spelled h)
  one_list (token k o l x) (comment c x') = absurd (differ (opens c) o)
  one_list {bs} (token {u = u} k o l x) (token {u = v} {ts = us} j o' m x') =
      let same = same_rest l m in
      token_both bs k j u v (one_kind l.spelled (subst (Lexeme j bs) (back_of same) m.spelled)) same
      (one_list x (subst (λ u. Scans bytes u [] us) (back_of same) x'))

-- the first broken rule of a text is one
pub one_verdict : (bytes : List ℕ) (a b : Refusal) → IsFirstBroken bytes a → IsFirstBroken bytes b → a ≡ b
one_verdict bytes a b (inl x) (inl y) = one_first (BreaksLexis bytes) a b x y
one_verdict bytes a b (inl x) (inr (ts, k, y)) = absurd (k.kept a.rule a.at x.breaks)
one_verdict bytes a b (inr (ts, k, x)) (inl y) = absurd (k.kept b.rule b.at y.breaks)
one_verdict bytes a b (inr (ts, k, x)) (inr (us, l, y)) =
    one_first (BreaksGrammar bytes ts) a b x
    (subst (λ us. IsFirst (BreaksGrammar bytes us) b) (back_of (one_list bytes k.scans l.scans)) y)

-- a text has one tree, or a first broken rule, and not both
pub one_meaning : (bytes : List ℕ) (p q : Program) → IsTree bytes p → IsTree bytes q → p ≡ q
one_meaning bytes p q x y = one_program bytes x.tokens p q x.spells
    (subst (λ us. Spells bytes us q) (back_of (one_list bytes x.are_tokens.scans y.are_tokens.scans)) y.spells)

pub not_both : (bytes : List ℕ) (p : Program) (r : Refusal) → IsTree bytes p → IsFirstBroken bytes r → ⊥
not_both bytes p r x (inl y) = x.are_tokens.kept r.rule r.at y.breaks
not_both bytes p r x (inr (ts, k, y)) = x.kept r.rule r.at
    (subst (λ us. BreaksGrammar bytes us r.rule r.at) (one_list bytes k.scans x.are_tokens.scans) y.breaks)
