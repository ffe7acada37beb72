-- The first rule of characters that is broken at a place.
use Rattle.std.proofs.Common.{◌≡◌, ◌≢◌, ℕ, ◌-◌, ◌<◌, ◌≤◌, Bool, true, false, ◌||◌, ◌==◌, List, [], ◌∷◌, ◌++◌, length}
use Rattle.std.proofs.Common.{Some, ◌⊎◌, inl, inr, refl, sym, ap, ◌∙◌, subst, arith}
use Rattle.std.specs.Prelude.{slice_get}
use Rattle.std.proofs.lemmas.Bool.Decides.{nat_tests}
use Rattle.sp_base.specs.declared.rule.Rule.{Rule}
use Rattle.sp_base.specs.declared.rule.Rule.TheVariants as rule
use Rattle.sp_tree.specs.declared.token.Kind.{Kind}
use Rattle.sp_tree.specs.declared.token.Kind.TheVariants as kind
use Rattle.sp_tree.specs.Characters.{is_blank, is_letter, is_digit}
use Rattle.sp_tree.specs.Spelling.{digits_value}
use Rattle.sp_tree.specs.First.{row}
use Rattle.sp_tree.specs.Lexemes.{signs, refused_words, Comment, brace_comment, star_comment, opens_comment}
use Rattle.sp_tree.specs.Lexemes.{lower_case_prefix}
use Rattle.sp_tree.specs.Lexemes.{Lexeme, name, word, number, text, sign, Longest}
use Rattle.sp_tree.specs.Scans.{NoToken, goes_on_real, OpenComment, OpenText, open_text, LargeNumber, LongName}
use Rattle.sp_tree.specs.Scans.{RefusedWord, Byte, first, second, RealNumber, StrayByte, stray, BreaksHere}
use Rattle.sp_tree.proofs.TokenOrder.{HoldsOfEach, each_at}
use Rattle.sp_tree.proofs.OneList.{not_blank, one_kind, same_rest, blank_opens, opens, differ}
use Rattle.sp_scan.specs.Finds.{FirstHere, IsGap, blank_gap, comment_gap}
use Rattle.sp_scan.proofs.Tokens.{no_text_at}

-- the bytes that break U1 or U2 by themselves begin no token
abbrev is_odd : ℕ → Bool
is_odd c = c == 94 || (c == 64 || c == 47)

abbrev Even : List ℕ → Type 0
Even [] = ⊥
Even (c ∷ s) = is_odd c ≡ false

signs_even : HoldsOfEach Even signs
signs_even = (
  refl,
  (
    refl,
    (
      refl,
      (
        refl,
        (
          refl,
          (
            refl,
            (
              refl,
              (
                refl,
                (
                  refl,
                  (
                    refl,
                    (
                      refl,
                      (refl, (refl, (refl, (refl, (refl, (refl, (refl, (refl, (refl, tt))))))))),
                    ),
                  ),
                ),
              ),
            ),
          ),
        ),
      ),
    ),
  ),
)

even_by : (b : ℕ) (bs s u : List ℕ) → Even s → b ∷ bs ≡ s ++ u → is_odd b ≡ false
even_by b bs [] u h e = absurd h
even_by b bs (c ∷ s) u h e = subst (λ c. is_odd c ≡ false) (let same : c ≡ b = cc in same) h

letter_odd : (b : ℕ) → is_letter b ≡ true → is_odd b ≡ true → ⊥
letter_odd b h o = grind (arith, nat_tests)

digit_odd : (b : ℕ) → is_digit b ≡ true → is_odd b ≡ true → ⊥
digit_odd b h o = grind (arith, nat_tests)

quote_odd : (b : ℕ) → b ≡ 39 → is_odd b ≡ true → ⊥
quote_odd b h o = grind (arith, nat_tests)

blank_odd : (b : ℕ) → is_blank b ≡ true → is_odd b ≡ true → ⊥
blank_odd b h o = grind (arith, nat_tests)

blank_quote : (b : ℕ) → is_blank b ≡ true → b ≡ 39 → ⊥
blank_quote b h o = grind (arith, nat_tests)

lexeme_odd : {k : Kind} {r : List ℕ} (b : ℕ) (bs : List ℕ) → Lexeme k (b ∷ bs) r → is_odd b ≡ true → ⊥
lexeme_odd b bs (name c h x n) o = letter_odd b h o
lexeme_odd b bs (word n c h x w) o = letter_odd b h o
lexeme_odd b bs (number c h x) o = digit_odd b h o
lexeme_odd b bs (text c h x) o = quote_odd b h o
lexeme_odd {r = r} b bs (sign n s h e) o = differ o (even_by b bs s r (each_at Even signs n s signs_even h) e)

odd_is : (b c : ℕ) → b ≡ c → is_odd c ≡ true → is_odd b ≡ true
odd_is b c e h = ap is_odd e ∙ h

-- whether a rule of this row may be broken here
record Free (k : ℕ) (bs : List ℕ) : Type 0 where
  s1 : (k ≤ 1) ⊎ (StrayByte bs → ⊥)
  s2 : (k ≤ 2) ⊎ (OpenComment bs → ⊥)
  s3 : (k ≤ 3) ⊎ (OpenText bs → ⊥)
  s4 : (k ≤ 4) ⊎ (LargeNumber bs → ⊥)
  s5 : (k ≤ 5) ⊎ (LongName bs → ⊥)
  u1 : (k ≤ 6) ⊎ (RefusedWord bs ⊎ Byte 94 64 bs → ⊥)
  u2 : (k ≤ 7) ⊎ (RealNumber bs ⊎ Byte 47 47 bs → ⊥)

at_least : {A : Type 0} {k n : ℕ} → (k ≤ n) ⊎ (A → ⊥) → A → k ≤ n
at_least (inl l) x = l
at_least (inr f) x = absurd (f x)

rows_free : (k : ℕ) (bs : List ℕ) → Free k bs → (s : Rule) → BreaksHere s bs → k ≤ row s
rows_free k bs f rule.S1 b = at_least f.s1 b
rows_free k bs f rule.S2 b = at_least f.s2 b
rows_free k bs f rule.S3 b = at_least f.s3 b
rows_free k bs f rule.S4 b = at_least f.s4 b
rows_free k bs f rule.S5 b = at_least f.s5 b
rows_free k bs f rule.U1 b = at_least f.u1 b
rows_free k bs f rule.U2 b = at_least f.u2 b
rows_free k bs f s b = absurd b

none_by : (bs : List ℕ) → Free 8 bs → (s : Rule) → BreaksHere s bs → ⊥
none_by bs f rule.S1 b = let h = at_least f.s1 b in omega arith
none_by bs f rule.S2 b = let h = at_least f.s2 b in omega arith
none_by bs f rule.S3 b = let h = at_least f.s3 b in omega arith
none_by bs f rule.S4 b = let h = at_least f.s4 b in omega arith
none_by bs f rule.S5 b = let h = at_least f.s5 b in omega arith
none_by bs f rule.U1 b = let h = at_least f.u1 b in omega arith
none_by bs f rule.U2 b = let h = at_least f.u2 b in omega arith
none_by bs f s b = b

-- where a token stands
no_stray : {k : Kind} {bs r : List ℕ} → Lexeme k bs r → StrayByte bs → ⊥
no_stray l (stray b e o q c d s n) = n _ _ l

no_open_comment : {bs : List ℕ} → opens_comment bs ≡ false → OpenComment bs → ⊥
no_open_comment e o = differ o.opens e

no_open_text : {k : Kind} {bs r : List ℕ} → Lexeme k bs r → OpenText bs → ⊥
no_open_text {k} {r = r} l (open_text {bs = bs} q e f) = no_text_at q bs r k e f l

no_number : {k : Kind} {bs r : List ℕ} → Longest k bs r → k ≢ kind.Number → {rest : List ℕ}
    → Longest kind.Number bs rest → ⊥
no_number {bs = bs} l n m = n (one_kind l.spelled
    (subst (λ u. Lexeme kind.Number bs u) (sym (same_rest bs l m)) m.spelled))

no_name : {k : Kind} {bs r : List ℕ} → Longest k bs r → k ≢ kind.Name → {rest : List ℕ} → Longest kind.Name bs rest → ⊥
no_name {bs = bs} l n m = n (one_kind l.spelled (subst (λ u. Lexeme kind.Name bs u) (sym (same_rest bs l m)) m.spelled))

no_byte : {k : Kind} {bs r : List ℕ} (b c : ℕ) → is_odd b ≡ true → is_odd c ≡ true → Lexeme k bs r → Byte b c bs → ⊥
no_byte b c h g l (first {bs = bs} x e) = lexeme_odd x bs l (odd_is x b e h)
no_byte b c h g l (second {bs = bs} x e) = lexeme_odd x bs l (odd_is x c e g)

module _ {bs r : List ℕ} (closed : opens_comment bs ≡ false) where
  pub other_token : (k : Kind) → Longest k bs r → k ≢ kind.Number → k ≢ kind.Name → (s : Rule) → BreaksHere s bs → ⊥
  other_token k l n m = none_by bs (record {
    s1 = inr (no_stray l.spelled);
    s2 = inr (no_open_comment closed);
    s3 = inr (no_open_text l.spelled);
    s4 = inr (λ b. no_number l n b.number);
    s5 = inr (λ b. no_name l m b.name);
    u1 = inr (u1_by k l m);
    u2 = inr (u2_by k l n);
  })
    where
      u1_by : (k : Kind) → Longest k bs r → k ≢ kind.Name → RefusedWord bs ⊎ Byte 94 64 bs → ⊥
      u1_by k l m (inl b) = no_name l m b.name
      u1_by k l m (inr b) = no_byte 94 64 refl refl l.spelled b

      u2_by : (k : Kind) → Longest k bs r → k ≢ kind.Number → RealNumber bs ⊎ Byte 47 47 bs → ⊥
      u2_by k l n (inl b) = no_number l n b.number
      u2_by k l n (inr b) = no_byte 47 47 refl refl l.spelled b

  -- numbers
  module _ (l : Longest kind.Number bs r) where
    same_number : {rest : List ℕ} → Longest kind.Number bs rest → r ≡ rest
    same_number m = same_rest bs l m

    name_clash : {rest : List ℕ} → Longest kind.Name bs rest → ⊥
    name_clash m = no_name l (λ e. cc) m

    number_u1 : RefusedWord bs ⊎ Byte 94 64 bs → ⊥
    number_u1 (inl b) = name_clash b.name
    number_u1 (inr b) = no_byte 94 64 refl refl l.spelled b

    large_by : (digits_value 0 (lower_case_prefix bs r) ≤ 9223372036854775807) → LargeNumber bs → ⊥
    large_by h b = let e : digits_value 0 (lower_case_prefix bs r) ≡ digits_value 0 (lower_case_prefix bs b.rest) =
        ap (λ u. digits_value 0 (lower_case_prefix bs u)) (same_number b.number) in let g = b.above in omega arith

    real_by : goes_on_real r ≡ false → RealNumber bs ⊎ Byte 47 47 bs → ⊥
    real_by h (inl b) = differ (ap goes_on_real (same_number b.number) ∙ b.real) h
    real_by h (inr b) = no_byte 47 47 refl refl l.spelled b

    pub large_number : 9223372036854775807 < digits_value 0 (lower_case_prefix bs r) → FirstHere rule.S4 bs
    large_number h = record {
      broken = record { rest = r; number = l; above = h };
      first = rows_free 4 bs (record {
        s1 = inr (no_stray l.spelled);
        s2 = inr (no_open_comment closed);
        s3 = inr (no_open_text l.spelled);
        s4 = inl (omega arith);
        s5 = inl (omega arith);
        u1 = inl (omega arith);
        u2 = inl (omega arith);
      });
    }

    pub real_number : digits_value 0 (lower_case_prefix bs r) ≤ 9223372036854775807 → goes_on_real r ≡ true
        → FirstHere rule.U2 bs
    real_number h g = record {
      broken = inl (record { rest = r; number = l; real = g });
      first = rows_free 7 bs (record {
        s1 = inr (no_stray l.spelled);
        s2 = inr (no_open_comment closed);
        s3 = inr (no_open_text l.spelled);
        s4 = inr (large_by h);
        s5 = inr (λ b. name_clash b.name);
        u1 = inr number_u1;
        u2 = inl (omega arith);
      });
    }

    pub fine_number : digits_value 0 (lower_case_prefix bs r) ≤ 9223372036854775807 → goes_on_real r ≡ false
        → (s : Rule)
        → BreaksHere s bs → ⊥
    fine_number h g = none_by bs (record {
      s1 = inr (no_stray l.spelled);
      s2 = inr (no_open_comment closed);
      s3 = inr (no_open_text l.spelled);
      s4 = inr (large_by h);
      s5 = inr (λ b. name_clash b.name);
      u1 = inr number_u1;
      u2 = inr (real_by g);
    })

  -- names
  module _ (l : Longest kind.Name bs r) where
    same_name : {rest : List ℕ} → Longest kind.Name bs rest → r ≡ rest
    same_name m = same_rest bs l m

    number_clash : {rest : List ℕ} → Longest kind.Number bs rest → ⊥
    number_clash m = no_number l (λ e. cc) m

    name_u2 : RealNumber bs ⊎ Byte 47 47 bs → ⊥
    name_u2 (inl b) = number_clash b.number
    name_u2 (inr b) = no_byte 47 47 refl refl l.spelled b

    long_by : length bs - length r ≤ 127 → LongName bs → ⊥
    long_by h b = let e : length bs - length r ≡ length bs - length b.rest =
        ap (λ u. length bs - length u) (same_name b.name) in let g = b.above in omega arith

    refused_by : ((n : ℕ) → slice_get refused_words n ≢ Some (lower_case_prefix bs r)) → RefusedWord bs
        ⊎ Byte 94 64 bs → ⊥
    refused_by h (inl b) = h b.number (b.refused ∙ ap (λ u. Some (lower_case_prefix bs u)) (sym (same_name b.name)))
    refused_by h (inr b) = no_byte 94 64 refl refl l.spelled b

    pub long_name : 127 < length bs - length r → FirstHere rule.S5 bs
    long_name h = record {
      broken = record { rest = r; name = l; above = h };
      first = rows_free 5 bs (record {
        s1 = inr (no_stray l.spelled);
        s2 = inr (no_open_comment closed);
        s3 = inr (no_open_text l.spelled);
        s4 = inr (λ b. number_clash b.number);
        s5 = inl (omega arith);
        u1 = inl (omega arith);
        u2 = inl (omega arith);
      });
    }

    pub refused_word : length bs - length r ≤ 127 → (n : ℕ) → slice_get refused_words n ≡ Some (lower_case_prefix bs r)
        → FirstHere rule.U1 bs
    refused_word h n e = record {
      broken = inl (record { rest = r; name = l; number = n; refused = e });
      first = rows_free 6 bs (record {
        s1 = inr (no_stray l.spelled);
        s2 = inr (no_open_comment closed);
        s3 = inr (no_open_text l.spelled);
        s4 = inr (λ b. number_clash b.number);
        s5 = inr (long_by h);
        u1 = inl (omega arith);
        u2 = inl (omega arith);
      });
    }

    pub fine_name : length bs - length r ≤ 127 → ((n : ℕ) → slice_get refused_words n ≢ Some (lower_case_prefix bs r))
        → (s : Rule) → BreaksHere s bs → ⊥
    fine_name h f = none_by bs (record {
      s1 = inr (no_stray l.spelled);
      s2 = inr (no_open_comment closed);
      s3 = inr (no_open_text l.spelled);
      s4 = inr (λ b. number_clash b.number);
      s5 = inr (long_by h);
      u1 = inr (refused_by f);
      u2 = inr name_u2;
    })

letter_opens : (b : ℕ) → (b ≡ 123) ⊎ (b ≡ 40) → is_letter b ≡ true → ⊥
letter_opens b (inl e) h = grind (arith, nat_tests)
letter_opens b (inr e) h = grind (arith, nat_tests)

digit_opens : (b : ℕ) → (b ≡ 123) ⊎ (b ≡ 40) → is_digit b ≡ true → ⊥
digit_opens b (inl e) h = grind (arith, nat_tests)
digit_opens b (inr e) h = grind (arith, nat_tests)

odd_none : (b : ℕ) → is_odd b ≡ true → b ≢ 94 → b ≢ 64 → b ≢ 47 → ⊥
odd_none b h p q r = grind (arith, nat_tests)

-- blanks and comments
blank_number : {k : Kind} {b : ℕ} {bs r : List ℕ} → is_blank b ≡ true → Longest k (b ∷ bs) r → ⊥
blank_number h l = not_blank l.spelled h

pub fine_blank : (b : ℕ) (bs : List ℕ) → is_blank b ≡ true → (s : Rule) → BreaksHere s (b ∷ bs) → ⊥
fine_blank b bs h = none_by (b ∷ bs) (record {
  s1 = inr s1_by;
  s2 = inr (λ o. blank_opens b bs h o.opens);
  s3 = inr s3_by;
  s4 = inr (λ o. blank_number h o.number);
  s5 = inr (λ o. blank_number h o.name);
  u1 = inr u1_by;
  u2 = inr u2_by;
})
  where
    s1_by : StrayByte (b ∷ bs) → ⊥
    s1_by (stray c e o q d f g n) = differ h e

    s3_by : OpenText (b ∷ bs) → ⊥
    s3_by (open_text q e f) = blank_quote b h e

    u1_by : RefusedWord (b ∷ bs) ⊎ Byte 94 64 (b ∷ bs) → ⊥
    u1_by (inl o) = blank_number h o.name
    u1_by (inr (first x e)) = blank_odd b h (odd_is b 94 e refl)
    u1_by (inr (second x e)) = blank_odd b h (odd_is b 64 e refl)

    u2_by : RealNumber (b ∷ bs) ⊎ Byte 47 47 (b ∷ bs) → ⊥
    u2_by (inl o) = blank_number h o.number
    u2_by (inr (first x e)) = blank_odd b h (odd_is b 47 e refl)
    u2_by (inr (second x e)) = blank_odd b h (odd_is b 47 e refl)

no_lexeme_at : {k : Kind} {r : List ℕ} (b : ℕ) (bs : List ℕ) → (b ≡ 123) ⊎ (b ≡ 40) → Lexeme k (b ∷ bs) r
    → k ≢ kind.Text → (k ≡ kind.Number) ⊎ (k ≡ kind.Name) → ⊥
no_lexeme_at b bs h (name c e x n) t o = letter_opens b h e
no_lexeme_at b bs h (word n c e x w) t (inl o) = cc
no_lexeme_at b bs h (word n c e x w) t (inr o) = cc
no_lexeme_at b bs h (number c e x) t o = digit_opens b h e
no_lexeme_at b bs h (text c e x) t o = t refl
no_lexeme_at b bs h (sign n s e g) t (inl o) = cc
no_lexeme_at b bs h (sign n s e g) t (inr o) = cc

-- a comment
module _ {bs r : List ℕ} (c : Comment bs r) where
  comment_number : {u : List ℕ} → Longest kind.Number bs u → ⊥
  comment_number l = number_by c l.spelled
    where
      number_by : {bs r u : List ℕ} → Comment bs r → Lexeme kind.Number bs u → ⊥
      number_by (brace_comment b h x) l = no_lexeme_at b _ (inl h) l (λ e. cc) (inl refl)
      number_by (star_comment a b h i x) l = no_lexeme_at a _ (inr h) l (λ e. cc) (inl refl)

  comment_name : {u : List ℕ} → Longest kind.Name bs u → ⊥
  comment_name l = name_by c l.spelled
    where
      name_by : {bs r u : List ℕ} → Comment bs r → Lexeme kind.Name bs u → ⊥
      name_by (brace_comment b h x) l = no_lexeme_at b _ (inl h) l (λ e. cc) (inr refl)
      name_by (star_comment a b h i x) l = no_lexeme_at a _ (inr h) l (λ e. cc) (inr refl)

  comment_stray : StrayByte bs → ⊥
  comment_stray s = stray_by c s
    where
      stray_by : {bs r : List ℕ} → Comment bs r → StrayByte bs → ⊥
      stray_by c (stray b e o q d f g n) = differ (opens c) o

  comment_text : OpenText bs → ⊥
  comment_text o = text_by c o
    where
      text_by : {bs r : List ℕ} → Comment bs r → OpenText bs → ⊥
      text_by (brace_comment b h x) (open_text q e f) = omega arith
      text_by (star_comment a b h i x) (open_text q e f) = omega arith

  comment_byte : (m n : ℕ) → m ≢ 123 → m ≢ 40 → n ≢ 123 → n ≢ 40 → Byte m n bs → ⊥
  comment_byte m n p q s t o = byte_by c o
    where
      byte_by : {bs r : List ℕ} → Comment bs r → Byte m n bs → ⊥
      byte_by (brace_comment b h x) (first y e) = p (sym e ∙ h)
      byte_by (brace_comment b h x) (second y e) = s (sym e ∙ h)
      byte_by (star_comment a b h i x) (first y e) = q (sym e ∙ h)
      byte_by (star_comment a b h i x) (second y e) = t (sym e ∙ h)

  comment_u1 : RefusedWord bs ⊎ Byte 94 64 bs → ⊥
  comment_u1 (inl o) = comment_name o.name
  comment_u1 (inr o) = comment_byte 94 64 (λ e. omega arith) (λ e. omega arith) (λ e. omega arith) (λ e. omega arith) o

  comment_u2 : RealNumber bs ⊎ Byte 47 47 bs → ⊥
  comment_u2 (inl o) = comment_number o.number
  comment_u2 (inr o) = comment_byte 47 47 (λ e. omega arith) (λ e. omega arith) (λ e. omega arith) (λ e. omega arith) o

  pub fine_comment : (s : Rule) → BreaksHere s bs → ⊥
  fine_comment = none_by bs (record {
    s1 = inr comment_stray;
    s2 = inr (λ o. o.open_end r c);
    s3 = inr comment_text;
    s4 = inr (λ o. comment_number o.number);
    s5 = inr (λ o. comment_name o.name);
    u1 = inr comment_u1;
    u2 = inr comment_u2;
  })

-- where no token begins
module _ (b : ℕ) (bs : List ℕ) (blank : is_blank b ≡ false) (closed : opens_comment (b ∷ bs) ≡ false)
    (none : NoToken (b ∷ bs)) where
  no_stray_odd : (n : ℕ) → b ≡ n → (n ≡ 39) ⊎ (is_odd n ≡ true) → StrayByte (b ∷ bs) → ⊥
  no_stray_odd n e (inl g) (stray c h o q d f k m) = q (e ∙ g)
  no_stray_odd n e (inr g) (stray c h o q d f k m) = odd_none b (odd_is b n e g) d f k

  no_quote_odd : (n : ℕ) → b ≡ n → is_odd n ≡ true → OpenText (b ∷ bs) → ⊥
  no_quote_odd n e g (open_text q h f) = quote_odd b h (odd_is b n e g)

  pub stray_quote : b ≡ 39 → FirstHere rule.S3 (b ∷ bs)
  stray_quote e = record {
    broken = open_text b e (λ r x. none kind.Text r (text b e x));
    first = rows_free 3 (b ∷ bs) (record {
      s1 = inr (no_stray_odd 39 e (inl refl));
      s2 = inr (no_open_comment closed);
      s3 = inl (omega arith);
      s4 = inl (omega arith);
      s5 = inl (omega arith);
      u1 = inl (omega arith);
      u2 = inl (omega arith);
    });
  }

  odd_first : (n : ℕ) → b ≡ n → is_odd n ≡ true → Byte 94 64 (b ∷ bs) → FirstHere rule.U1 (b ∷ bs)
  odd_first n e g x = record {
    broken = inr x;
    first = rows_free 6 (b ∷ bs) (record {
      s1 = inr (no_stray_odd n e (inr g));
      s2 = inr (no_open_comment closed);
      s3 = inr (no_quote_odd n e g);
      s4 = inr (λ o. none _ _ o.number.spelled);
      s5 = inr (λ o. none _ _ o.name.spelled);
      u1 = inl (omega arith);
      u2 = inl (omega arith);
    });
  }

  pub stray_caret : b ≡ 94 → FirstHere rule.U1 (b ∷ bs)
  stray_caret e = odd_first 94 e refl (first b e)

  pub stray_at : b ≡ 64 → FirstHere rule.U1 (b ∷ bs)
  stray_at e = odd_first 64 e refl (second b e)

  slash_u1 : b ≡ 47 → RefusedWord (b ∷ bs) ⊎ Byte 94 64 (b ∷ bs) → ⊥
  slash_u1 e (inl o) = none _ _ o.name.spelled
  slash_u1 e (inr (first x h)) = omega arith
  slash_u1 e (inr (second x h)) = omega arith

  pub stray_slash : b ≡ 47 → FirstHere rule.U2 (b ∷ bs)
  stray_slash e = record {
    broken = inr (first b e);
    first = rows_free 7 (b ∷ bs) (record {
      s1 = inr (no_stray_odd 47 e (inr refl));
      s2 = inr (no_open_comment closed);
      s3 = inr (no_quote_odd 47 e refl);
      s4 = inr (λ o. none _ _ o.number.spelled);
      s5 = inr (λ o. none _ _ o.name.spelled);
      u1 = inr (slash_u1 e);
      u2 = inl (omega arith);
    });
  }

  pub stray_other : b ≢ 39 → b ≢ 94 → b ≢ 64 → b ≢ 47 → FirstHere rule.S1 (b ∷ bs)
  stray_other q d f g = record {
    broken = stray b blank closed q d f g none;
    first = rows_free 1 (b ∷ bs) (record {
      s1 = inl (omega arith);
      s2 = inl (omega arith);
      s3 = inl (omega arith);
      s4 = inl (omega arith);
      s5 = inl (omega arith);
      u1 = inl (omega arith);
      u2 = inl (omega arith);
    });
  }

-- the same of bytes that are cut
pub at_cut : (r : Rule) (bytes rest : List ℕ) (b : ℕ) → bytes ≡ b ∷ rest → opens_comment bytes ≡ false → NoToken bytes
    → (opens_comment (b ∷ rest) ≡ false → NoToken (b ∷ rest) → FirstHere r (b ∷ rest)) → FirstHere r bytes
at_cut r bytes rest b e o n f = subst (FirstHere r) (sym e)
    (f (subst (λ l. opens_comment l ≡ false) e o) (subst NoToken e n))

pub blank_item : (bytes rest : List ℕ) (b : ℕ) → bytes ≡ b ∷ rest → is_blank b ≡ true → IsGap bytes rest
    × ((s : Rule) → BreaksHere s bytes → ⊥)
blank_item bytes rest b e h = subst (λ l. IsGap l rest × ((s : Rule) → BreaksHere s l → ⊥)) (sym e)
    (blank_gap b h, fine_blank b rest h)

pub comment_item : (bytes rest : List ℕ) → Comment bytes rest → IsGap bytes rest × ((s : Rule) → BreaksHere s bytes → ⊥)
comment_item bytes rest c = (comment_gap c, fine_comment c)
