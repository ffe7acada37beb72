-- Tokens of a text, part behind part, and digits, which have no case.
use Rattle.std.proofs.Common.{◌≡◌, List, ℕ, ◌++◌, arith, true, ap, length, suc, take, ◌-◌, ◌∷◌, ◌≤◌, map, sym, ◌∙◌}
use Rattle.std.proofs.Common.{[]}
use Rattle.std.proofs.lemmas.Bool.Decides.{nat_tests}
use Rattle.sp_tree.specs.Scans.{Scans, blank, comment, nothing, token}
use Rattle.sp_tree.specs.declared.token.Token.{Token}
use Rattle.sp_tree.specs.Characters.{is_digit, lower_case_letter}
use Rattle.sp_tree.specs.Lexemes.{Run, run_ends, run_goes_on, Lexeme, lower_case_prefix, number}
use Rattle.sp_tree.proofs.TokenOrder.{run_length}
use Rattle.sp_tree.specs.declared.token.Kind.TheVariants as kind

-- the tokens of a part behind those of another
pub scans_chain : {text bs m r : List ℕ} {ts us : List Token} → Scans text bs m ts → Scans text m r us
    → Scans text bs r (ts ++ us)
scans_chain nothing y = y
scans_chain (blank b h x) y = blank b h (scans_chain x y)
scans_chain (comment c x) y = comment c (scans_chain x y)
scans_chain (token k o l x) y = token k o l (scans_chain x y)

-- digits are their own lower case
pub lower_digit : (b : ℕ) → is_digit b ≡ true → lower_case_letter b ≡ b
lower_digit b h = grind (arith, nat_tests)

-- what is taken of a longer text
pub taken_more : (b : ℕ) (bs r : List ℕ) → length r ≤ length bs
    → take (length (b ∷ bs) - length r) (b ∷ bs) ≡ b ∷ take (length bs - length r) bs
taken_more b bs r l = let e : length (b ∷ bs) - length r ≡ suc (length bs - length r) = omega arith in
    ap (λ n. take n (b ∷ bs)) e

-- nothing is taken of the same text
pub taken_none : (r : List ℕ) → take (length r - length r) r ≡ []
taken_none r = let e : length r - length r ≡ 0 = omega arith in ap (λ n. take n r) e

-- digits have no case
pub lower_run : {bs r : List ℕ} → Run is_digit bs r
    → map lower_case_letter (take (length bs - length r) bs) ≡ take (length bs - length r) bs
lower_run {r = r} run_ends = ap (map lower_case_letter) (taken_none r) ∙ sym (taken_none r)
lower_run {r = r} (run_goes_on {bs = bs} b h x) =
    ap (map lower_case_letter) (taken_more b bs r (run_length x)) ∙ (λ i. lower_digit b h i ∷ lower_run x i)
    ∙ sym (taken_more b bs r (run_length x))

-- a number has no case
pub lower_number : {bs r : List ℕ} → Lexeme kind.Number bs r → lower_case_prefix bs r ≡ take (length bs - length r) bs
lower_number {r = r} (number {bs = bs} b h x) =
    ap (map lower_case_letter) (taken_more b bs r (run_length x)) ∙ (λ i. lower_digit b h i ∷ lower_run x i)
    ∙ sym (taken_more b bs r (run_length x))
