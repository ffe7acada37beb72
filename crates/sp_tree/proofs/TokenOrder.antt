-- The tokens of a text stand in it one behind the other.
use Rattle.std.proofs.Common.{◌≡◌, ℕ, zero, suc, ◌<◌, ◌≤◌, Bool, List, [], ◌∷◌, length, length-append, Some, refl, ap}
use Rattle.std.proofs.Common.{subst, arith}
use Rattle.std.specs.Prelude.{slice_get}
use Rattle.sp_tree.specs.declared.token.Token.{Token}
use Rattle.sp_tree.specs.declared.token.Kind.{Kind}
use Rattle.sp_tree.specs.Places.{place_at}
use Rattle.sp_tree.specs.Lexemes.{signs, Run, run_ends, run_goes_on, TextBody, text_ends, two_quotes, text_byte}
use Rattle.sp_tree.specs.Lexemes.{BraceBody, brace_ends, brace_byte, StarBody, star_ends, star_byte, Comment}
use Rattle.sp_tree.specs.Lexemes.{brace_comment, star_comment, Lexeme, name, word, number, text, sign}
use Rattle.sp_tree.specs.Scans.{offset, Scans, nothing, blank, comment, token}

pub run_length : {p : ℕ → Bool} {bs r : List ℕ} → Run p bs r → length r ≤ length bs
run_length run_ends = omega arith
run_length (run_goes_on b h x) = omega (arith, run_length x)

text_length : {bs r : List ℕ} → TextBody bs r → length r < length bs
text_length (text_ends q h l) = omega arith
text_length (two_quotes q u h i x) = omega (arith, text_length x)
text_length (text_byte b h i j x) = omega (arith, text_length x)

brace_length : {bs r : List ℕ} → BraceBody bs r → length r < length bs
brace_length (brace_ends c h) = omega arith
brace_length (brace_byte b h x) = omega (arith, brace_length x)

star_length : {bs r : List ℕ} → StarBody bs r → length r < length bs
star_length (star_ends a b h i) = omega arith
star_length (star_byte b h x) = omega (arith, star_length x)

pub comment_length : {bs r : List ℕ} → Comment bs r → length r < length bs
comment_length (brace_comment b h x) = omega (arith, brace_length x)
comment_length (star_comment a b h i x) = omega (arith, star_length x)

-- what holds of each of a list
abbrev pub HoldsOfEach : {A : Type 0} → (A → Type 0) → List A → Type 0
HoldsOfEach P [] = Unit {0}
HoldsOfEach P (x ∷ xs) = P x × HoldsOfEach P xs

pub each_at : {A : Type 0} (P : A → Type 0) (xs : List A) (n : ℕ) (x : A) → HoldsOfEach P xs
    → slice_get xs n ≡ Some x → P x
each_at P [] n x h e = absurd cc
each_at P (y ∷ xs) zero x h e = subst P (let same : y ≡ x = cc in same) h.0
each_at P (y ∷ xs) (suc n) x h e = each_at P xs n x h.1 e

-- no sign is empty
abbrev IsSome : List ℕ → Type 0
IsSome [] = ⊥
IsSome (b ∷ bs) = Unit {0}

some_length : (s : List ℕ) → IsSome s → 0 < length s
some_length [] h = absurd h
some_length (b ∷ bs) h = omega arith

signs_some : HoldsOfEach IsSome signs
signs_some = (
  tt,
  (
    tt,
    (
      tt,
      (
        tt,
        (
          tt,
          (
            tt,
            (
              tt,
              (tt, (tt, (tt, (tt, (tt, (tt, (tt, (tt, (tt, (tt, (tt, (tt, (tt, tt))))))))))))),
            ),
          ),
        ),
      ),
    ),
  ),
)

pub lexeme_length : {k : Kind} {bs r : List ℕ} → Lexeme k bs r → length r < length bs
lexeme_length (name b h x n) = omega (arith, run_length x)
lexeme_length (word n b h x e) = omega (arith, run_length x)
lexeme_length (number b h x) = omega (arith, run_length x)
lexeme_length (text q h x) = omega (arith, text_length x)
lexeme_length {r = r} (sign n s h e) = let l = ap length e in
    omega (arith, length-append s r, some_length s (each_at IsSome signs n s signs_some h))

-- each token begins at n or behind it, and where it says
abbrev pub Rising : List ℕ → ℕ → List Token → Type 0
Rising bytes n [] = Unit {0}
Rising bytes n (t ∷ ts) = (n ≤ t.from) × (t.from < length bytes) × (t.at ≡ place_at bytes t.from)
    × Rising bytes (suc t.from) ts

lower : (bytes : List ℕ) (m n : ℕ) (ts : List Token) → m ≤ n → Rising bytes n ts → Rising bytes m ts
lower bytes m n [] h r = tt
lower bytes m n (t ∷ ts) h (not_before, within, at_place, further) = (
  omega (arith, not_before),
  within,
  at_place,
  further,
)

pub rising : (bytes : List ℕ) {bs r : List ℕ} {ts : List Token} → Scans bytes bs r ts → length bs ≤ length bytes
    → Rising bytes (offset bytes bs) ts
rising bytes nothing h = tt
rising bytes {bs = b ∷ bs} {ts = ts} (blank b' e x) h =
    lower bytes (offset bytes (b ∷ bs)) (offset bytes bs) ts (omega arith) (rising bytes x (omega arith))
rising bytes {bs = bs} {ts = ts} (comment {u = u} c x) h =
    lower bytes (offset bytes bs) (offset bytes u) ts (omega (arith, comment_length c))
    (rising bytes x (omega (arith, comment_length c)))
rising bytes {bs = bs} (token {u = u} {ts = ts} k o l x) h = (
  omega arith,
  omega (arith, lexeme_length l.spelled),
  refl,
  lower bytes (suc (offset bytes bs)) (offset bytes u) ts (omega (arith, lexeme_length l.spelled, h))
      (rising bytes x (omega (arith, lexeme_length l.spelled))),
)
