-- Runs of bytes, comments and texts, by loops that go along them.
use Rattle.std.proofs.Common.{◌≡◌, ◌≢◌, ℕ, ◌+◌, ◌-◌, ◌*◌, ◌==◌, cond, ◌<◌, ◌≤◌, Bool, true, false, List, [], ◌∷◌, ◌++◌}
use Rattle.std.proofs.Common.{length, map, ◌⊎◌, inl, inr, refl, sym, ap, ◌∙◌, subst, arith}
use Rattle.sp_base.specs.declared.place.Place.{Place}
use Rattle.sp_tree.specs.Spelling.{digits_value}
use Rattle.sp_tree.specs.Places.{next_place, place_behind}
use Rattle.sp_tree.specs.Characters.{lower_case_letter}
use Rattle.sp_tree.specs.Lexemes.{Run, run_ends, run_goes_on, Lacks, TextBody, text_ends, two_quotes, text_byte}
use Rattle.sp_tree.specs.Lexemes.{BraceBody, brace_ends, brace_byte, StarBody, star_ends, star_byte}
use Rattle.sp_scan.specs.Finds.{EndsRun}

-- what completes the rest completes the whole, and the other way round
pub record SameAs (Body : List ℕ → List ℕ → Type 0) (bytes rest : List ℕ) : Type 0 where
  pub from : (r : List ℕ) → Body rest r → Body bytes r
  pub to : (r : List ℕ) → Body bytes r → Body rest r

pub same_as : (Body : List ℕ → List ℕ → Type 0) (bytes : List ℕ) → SameAs Body bytes bytes
same_as Body bytes = record { from = λ r h. h; to = λ r h. h }

-- comments in braces
un_brace : {b : ℕ} {bs r : List ℕ} → BraceBody (b ∷ bs) r → b ≢ 125 → BraceBody bs r
un_brace (brace_ends c e) h = absurd (h e)
un_brace (brace_byte b n x) h = x

pub brace_more : (bytes rest after : List ℕ) (b : ℕ) → SameAs BraceBody bytes rest → rest ≡ b ∷ after → b ≢ 125
    → SameAs BraceBody bytes after
brace_more bytes rest after b s e n = record {
  from = λ r h. s.from r (subst (λ l. BraceBody l r) (sym e) (brace_byte b n h));
  to = λ r h. un_brace (subst (λ l. BraceBody l r) e (s.to r h)) n;
}

no_brace : {r : List ℕ} → BraceBody [] r → ⊥
no_brace h = elim h [ ]

pub brace_none : (bytes rest : List ℕ) → SameAs BraceBody bytes rest → rest ≡ [] → (r : List ℕ) → BraceBody bytes r → ⊥
brace_none bytes rest s e r h = no_brace (subst (λ l. BraceBody l r) e (s.to r h))

pub brace_found : (bytes rest after : List ℕ) (b : ℕ) → SameAs BraceBody bytes rest → rest ≡ b ∷ after → b ≡ 125
    → BraceBody bytes after
brace_found bytes rest after b s e n = s.from after (subst (λ l. BraceBody l after) (sym e) (brace_ends b n))

-- comments in parentheses and stars
un_star : {b : ℕ} {bs r : List ℕ} → StarBody (b ∷ bs) r → (b ≡ 42 → Lacks 41 bs) → StarBody bs r
un_star (star_ends a b h i) n = absurd (n h i)
un_star (star_byte b m x) n = x

pub star_more : (bytes rest after : List ℕ) (b : ℕ) → SameAs StarBody bytes rest → rest ≡ b ∷ after
    → (b ≡ 42 → Lacks 41 after) → SameAs StarBody bytes after
star_more bytes rest after b s e n = record {
  from = λ r h. s.from r (subst (λ l. StarBody l r) (sym e) (star_byte b n h));
  to = λ r h. un_star (subst (λ l. StarBody l r) e (s.to r h)) n;
}

no_star : {r : List ℕ} → StarBody [] r → ⊥
no_star h = elim h [ ]

pub star_none : (bytes rest : List ℕ) → SameAs StarBody bytes rest → rest ≡ [] → (r : List ℕ) → StarBody bytes r → ⊥
star_none bytes rest s e r h = no_star (subst (λ l. StarBody l r) e (s.to r h))

pub star_found : (bytes rest after behind : List ℕ) (b : ℕ) → SameAs StarBody bytes rest → rest ≡ b ∷ after → b ≡ 42
    → after ≡ 41 ∷ behind → StarBody bytes behind
star_found bytes rest after behind b s e n f =
    let c : ℕ = 41 in
    let m : c ≡ 41 = refl in
    let g : rest ≡ b ∷ c ∷ behind = e ∙ ap (λ l. b ∷ l) f in
    s.from behind (subst (λ l. StarBody l behind) (sym g) (star_ends b c n m))

-- texts
un_text : {b : ℕ} {bs r : List ℕ} → TextBody (b ∷ bs) r → b ≢ 39 → TextBody bs r
un_text (text_ends q e n) h = absurd (h e)
un_text (two_quotes q u e f x) h = absurd (h e)
un_text (text_byte b p n m x) h = x

un_quotes : {b c : ℕ} {bs r : List ℕ} → TextBody (b ∷ c ∷ bs) r → b ≡ 39 → c ≡ 39 → TextBody bs r
un_quotes (text_ends q e n) h i = absurd (n i)
un_quotes (two_quotes q u e f x) h i = x
un_quotes (text_byte b p n m x) h i = absurd (p h)

no_line : {b : ℕ} {bs r : List ℕ} → TextBody (b ∷ bs) r → (b ≡ 10) ⊎ (b ≡ 13) → ⊥
no_line (text_ends q e n) (inl h) = absurd (omega arith)
no_line (text_ends q e n) (inr h) = absurd (omega arith)
no_line (two_quotes q u e f x) (inl h) = absurd (omega arith)
no_line (two_quotes q u e f x) (inr h) = absurd (omega arith)
no_line (text_byte b p n m x) (inl h) = n h
no_line (text_byte b p n m x) (inr h) = m h

no_text : {r : List ℕ} → TextBody [] r → ⊥
no_text h = elim h [ ]

pub text_more : (bytes rest after : List ℕ) (b : ℕ) → SameAs TextBody bytes rest → rest ≡ b ∷ after → b ≢ 39 → b ≢ 10
    → b ≢ 13 → SameAs TextBody bytes after
text_more bytes rest after b s e n p q = record {
  from = λ r h. s.from r (subst (λ l. TextBody l r) (sym e) (text_byte b n p q h));
  to = λ r h. un_text (subst (λ l. TextBody l r) e (s.to r h)) n;
}

pub text_quotes : (bytes rest after behind : List ℕ) (b : ℕ) → SameAs TextBody bytes rest → rest ≡ b ∷ after → b ≡ 39
    → after ≡ 39 ∷ behind → SameAs TextBody bytes behind
text_quotes bytes rest after behind b s e n f =
    let c : ℕ = 39 in
    let m : c ≡ 39 = refl in
    let g : rest ≡ b ∷ c ∷ behind = e ∙ ap (λ l. b ∷ l) f in record {
      from = λ r h. s.from r (subst (λ l. TextBody l r) (sym g) (two_quotes b c n m h));
      to = λ r h. un_quotes (subst (λ l. TextBody l r) g (s.to r h)) n m;
    }

pub text_found : (bytes rest after : List ℕ) (b : ℕ) → SameAs TextBody bytes rest → rest ≡ b ∷ after → b ≡ 39
    → Lacks 39 after → TextBody bytes after
text_found bytes rest after b s e n m = s.from after (subst (λ l. TextBody l after) (sym e) (text_ends b n m))

pub text_none : (bytes rest : List ℕ) → SameAs TextBody bytes rest → rest ≡ [] → (r : List ℕ) → TextBody bytes r → ⊥
text_none bytes rest s e r h = no_text (subst (λ l. TextBody l r) e (s.to r h))

pub text_cut : (bytes rest after : List ℕ) (b : ℕ) → SameAs TextBody bytes rest → rest ≡ b ∷ after → (b ≡ 10) ⊎ (b ≡ 13)
    → (r : List ℕ) → TextBody bytes r → ⊥
text_cut bytes rest after b s e n r h = no_line (subst (λ l. TextBody l r) e (s.to r h)) n

-- runs
pub record RunSoFar (p : ℕ → Bool) (bytes rest : List ℕ) : Type 0 where
  pub run : (r : List ℕ) → Run p rest r → Run p bytes r
  pub longest : (r : List ℕ) → Run p bytes r → (length rest ≤ length r) ⊎ Run p rest r

pub run_start : (p : ℕ → Bool) (bytes : List ℕ) → RunSoFar p bytes bytes
run_start p bytes = record { run = λ r h. h; longest = λ r h. inr h }

un_run : {p : ℕ → Bool} {b : ℕ} {bs r : List ℕ} → Run p (b ∷ bs) r → (length (b ∷ bs) ≤ length r) ⊎ Run p bs r
un_run run_ends = inl (omega arith)
un_run (run_goes_on b e x) = inr x

run_step_by : {p : ℕ → Bool} {rest after r : List ℕ} {b : ℕ} → rest ≡ b ∷ after → (length (b ∷ after) ≤ length r)
    ⊎ Run p after r → (length after ≤ length r) ⊎ Run p after r
run_step_by e (inl h) = inl (omega arith)
run_step_by e (inr h) = inr h

run_step : {p : ℕ → Bool} {rest after r : List ℕ} {b : ℕ} → rest ≡ b ∷ after → (length rest ≤ length r) ⊎ Run p rest r
    → (length after ≤ length r) ⊎ Run p after r
run_step e (inl h) = inl (omega (arith, ap length e))
run_step {p} {rest} {after} {r} {b} e (inr h) = run_step_by e (un_run (subst (λ l. Run p l r) e h))

pub run_more : (p : ℕ → Bool) (bytes rest after : List ℕ) (b : ℕ) → RunSoFar p bytes rest → rest ≡ b ∷ after
    → p b ≡ true → RunSoFar p bytes after
run_more p bytes rest after b s e h = record {
  run = λ r x. s.run r (subst (λ l. Run p l r) (sym e) (run_goes_on b h x));
  longest = λ r x. run_step e (s.longest r x);
}

ends_here : {p : ℕ → Bool} {rest r : List ℕ} → ((b : ℕ) (after : List ℕ) → rest ≡ b ∷ after → p b ≡ false)
    → Run p rest r → length rest ≤ length r
ends_here f run_ends = omega arith
ends_here f (run_goes_on b e x) = absurd (let g = f b _ refl in cc)

either : {p : ℕ → Bool} {rest r : List ℕ} → ((b : ℕ) (after : List ℕ) → rest ≡ b ∷ after → p b ≡ false)
    → (length rest ≤ length r) ⊎ Run p rest r → length rest ≤ length r
either f (inl h) = h
either f (inr h) = ends_here f h

pub run_done : (p : ℕ → Bool) (bytes rest : List ℕ) → RunSoFar p bytes rest
    → ((b : ℕ) (after : List ℕ) → rest ≡ b ∷ after → p b ≡ false) → EndsRun p bytes rest
run_done p bytes rest s f = record { run = s.run rest run_ends; longest = λ r x. either f (s.longest r x) }

pub no_first : (p : ℕ → Bool) (rest : List ℕ) → rest ≡ [] → (b : ℕ) (after : List ℕ) → rest ≡ b ∷ after → p b ≡ false
no_first p rest e b after f = absurd cc

pub other_first : (p : ℕ → Bool) (rest : List ℕ) (a : ℕ) (behind : List ℕ) → rest ≡ a ∷ behind → p a ≡ false
    → (b : ℕ) (after : List ℕ) → rest ≡ b ∷ after → p b ≡ false
other_first p rest a behind e h b after f = let same : b ≡ a = cc in ap p same ∙ h

-- words letter by letter
pub record SpelledSoFar (bytes word left right : List ℕ) : Type 0 where
  pub from : map lower_case_letter left ≡ right → map lower_case_letter bytes ≡ word
  pub to : map lower_case_letter bytes ≡ word → map lower_case_letter left ≡ right

pub spelled_more : (bytes word left right behind after : List ℕ) (a b : ℕ) → SpelledSoFar bytes word left right
    → left ≡ a ∷ behind → right ≡ b ∷ after → lower_case_letter a ≡ b → SpelledSoFar bytes word behind after
spelled_more bytes word left right behind after a b s e f h = record {
  from = λ g. s.from (ap (map lower_case_letter) e ∙ (λ i. h i ∷ g i) ∙ sym f);
  to = λ g. let x : map lower_case_letter (a ∷ behind) ≡ b ∷ after = sym (ap (map lower_case_letter) e) ∙ s.to g
      ∙ f in cc;
}

pub spelled_short : (bytes word left right behind : List ℕ) (a : ℕ) → SpelledSoFar bytes word left right
    → left ≡ a ∷ behind → right ≡ [] → map lower_case_letter bytes ≡ word → ⊥
spelled_short bytes word left right behind a s e f g = let x : map lower_case_letter (a ∷ behind) ≡ [] =
    sym (ap (map lower_case_letter) e)
    ∙ s.to g ∙ f in cc

pub spelled_other : (bytes word left right behind after : List ℕ) (a b : ℕ) → SpelledSoFar bytes word left right
    → left ≡ a ∷ behind → right ≡ b ∷ after → lower_case_letter a ≢ b → map lower_case_letter bytes ≡ word → ⊥
spelled_other bytes word left right behind after a b s e f h g = let x : map lower_case_letter (a ∷ behind) ≡ b
    ∷ after =
    sym (ap (map lower_case_letter) e) ∙ s.to g ∙ f in h (cc)

pub spelled_end : (bytes word left right : List ℕ) → SpelledSoFar bytes word left right → left ≡ [] → right ≡ []
    → map lower_case_letter bytes ≡ word
spelled_end bytes word left right s e f = s.from (ap (map lower_case_letter) e ∙ sym f)

pub spelled_long : (bytes word left right : List ℕ) → SpelledSoFar bytes word left right → left ≡ []
    → map lower_case_letter bytes ≡ word → right ≡ []
spelled_long bytes word left right s e g = sym (sym (ap (map lower_case_letter) e) ∙ s.to g)

-- what stands first, byte by byte
pub record StripsSoFar (bytes front rest left : List ℕ) : Type 0 where
  pub from : (r : List ℕ) → rest ≡ left ++ r → bytes ≡ front ++ r
  pub to : (r : List ℕ) → bytes ≡ front ++ r → rest ≡ left ++ r

pub strips_start : (bytes front : List ℕ) → StripsSoFar bytes front bytes front
strips_start bytes front = record { from = λ r h. h; to = λ r h. h }

pub strips_more : (bytes front rest left behind after : List ℕ) (a : ℕ) → StripsSoFar bytes front rest left
    → left ≡ a ∷ after → rest ≡ a ∷ behind → StripsSoFar bytes front behind after
strips_more bytes front rest left behind after a s e f = record {
  from = λ r g. s.from r (f ∙ ap (λ l. a ∷ l) g ∙ sym (ap (λ l. l ++ r) e));
  to = λ r g. let x : a ∷ behind ≡ a ∷ (after ++ r) = sym f ∙ s.to r g ∙ ap (λ l. l ++ r) e in cc;
}

lacks_head : (c : ℕ) (bs cs : List ℕ) → Lacks c bs → bs ≡ c ∷ cs → ⊥
lacks_head c [] cs h e = cc
lacks_head c (b ∷ bs) cs h e = h (cc)

pub strips_none : (bytes front rest left after : List ℕ) (a : ℕ) → StripsSoFar bytes front rest left → left ≡ a ∷ after
    → Lacks a rest → (r : List ℕ) → bytes ≢ front ++ r
strips_none bytes front rest left after a s e n r g = lacks_head a rest (after ++ r) n (s.to r g ∙ ap (λ l. l ++ r) e)

pub strips_done : (bytes front rest left : List ℕ) → StripsSoFar bytes front rest left → left ≡ []
    → bytes ≡ front ++ rest
strips_done bytes front rest left s e = s.from rest (sym (ap (λ l. l ++ rest) e))

-- the value of digits, digit by digit
pub record ValueSoFar (digits rest : List ℕ) (value : ℕ) : Type 0 where
  pub value_is : digits_value 0 digits ≡ digits_value value rest
  pub low : value ≤ 9223372036854775807

pub value_more : (digits rest after : List ℕ) (digit value next : ℕ) → ValueSoFar digits rest value
    → rest ≡ digit ∷ after → next ≡ 10 * value + (digit - 48) → next ≤ 9223372036854775807
    → ValueSoFar digits after next
value_more digits rest after digit value next s e f l = record {
  value_is = s.value_is ∙ ap (digits_value value) e ∙ ap (λ n. digits_value n after) (sym f);
  low = l;
}

pub value_grows : (n : ℕ) (bs : List ℕ) → n ≤ digits_value n bs
value_grows n [] = omega arith
value_grows n (b ∷ bs) = omega (arith, value_grows (10 * n + (b - 48)) bs)

pub value_above : (digits rest after : List ℕ) (digit value next : ℕ) → ValueSoFar digits rest value
    → rest ≡ digit ∷ after → next ≡ 10 * value + (digit - 48) → 9223372036854775807 < next
    → 9223372036854775807 < digits_value 0 digits
value_above digits rest after digit value next s e f l =
    let same = s.value_is ∙ ap (digits_value value) e in omega (arith, value_grows (10 * value + (digit - 48)) after)

pub value_within : (digits rest : List ℕ) (value : ℕ) → ValueSoFar digits rest value → rest ≡ []
    → digits_value 0 digits ≤ 9223372036854775807
value_within digits rest value s e = let same : digits_value 0 digits ≡ value = s.value_is
    ∙ ap (digits_value value) e in
    omega (arith, s.low)

-- places, byte by byte
pub record PlaceSoFar (first : Place) (bytes rest : List ℕ) (at : Place) : Type 0 where
  pub place_is : place_behind first bytes ≡ place_behind at rest
  pub line : at.line + length rest < 4294967296
  pub column : at.column + length rest < 4294967296

pub line_by : (l : ℕ) (c : Bool) → cond c (l + 1) l ≤ l + 1
line_by l true = omega arith
line_by l false = omega arith

pub column_by : (l : ℕ) (c : Bool) → cond c 1 (l + 1) ≤ l + 1
column_by l true = omega arith
column_by l false = omega arith

pub place_more : (first : Place) (bytes rest after : List ℕ) (at : Place) (byte : ℕ) → PlaceSoFar first bytes rest at
    → rest ≡ byte ∷ after → PlaceSoFar first bytes after (next_place at byte)
place_more first bytes rest after at byte s e = record {
  place_is = s.place_is ∙ ap (place_behind at) e;
  line = omega (arith, line_by at.line (byte == 10), s.line, ap length e);
  column = omega (arith, column_by at.column (byte == 10), s.column, ap length e);
}

pub place_done : (first : Place) (bytes rest : List ℕ) (at : Place) → PlaceSoFar first bytes rest at → rest ≡ []
    → at ≡ place_behind first bytes
place_done first bytes rest at s e = sym (s.place_is ∙ ap (place_behind at) e)
