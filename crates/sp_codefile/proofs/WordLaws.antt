-- Laws of cutting a line into words.
use Rattle.std.proofs.Common.{◌≡◌, ◌≢◌, ℕ, suc, ◌^◌, ◌<◌, ◌≤◌, ◌==◌, ◌&&◌, nat_le, Bool, true, false, cond, ℤ}
use Rattle.std.proofs.Common.{pos, negsuc, List, [], ◌∷◌, ◌++◌, length, refl, sym, ap, ◌∙◌, subst, arith, decimal}
use Rattle.std.proofs.Common.{codes, All}
use Rattle.std.specs.Fmt.{signed_decimal}
use Rattle.std.specs.Int.Signed.{mag}
use Rattle.std.specs.List.{flat_map}
use Rattle.std.proofs.lemmas.Bool.Decides.{nat_tests}
use Rattle.std.proofs.lemmas.Fmt.{decimal_nonempty}
use Rattle.std.proofs.lemmas.List.Elements.{All-head, All-tail}
use Rattle.std.proofs.lemmas.Bool.{eqb-true, ne_eqb, true≢false}
use Rattle.std.proofs.lemmas.List.{nil_from_length}
use Rattle.sp_base.proofs.Facts.{and_with_false}
use Rattle.sp_journal.proofs.Facts.{here}
use Rattle.sp_journal.proofs.SplitLaws.{AllInRange}
use Rattle.sp_journal.proofs.TextLaws.{digits_within}
use Rattle.sp_code.specs.Listing.{number_text}
use Rattle.sp_codefile.specs.CodeText.{IsNumber, IsInteger}
use Rattle.sp_codefile.specs.Cuts.{blank_cut, word_of, begins, class_cut}

-- no byte is a blank
abbrev pub NoBlank : List ℕ → Type 0
NoBlank [] = Unit {0}
NoBlank (x ∷ xs) = (x == 32 ≡ false) × NoBlank xs

-- nothing, or a blank first
abbrev pub AtBlank : List ℕ → Type 0
AtBlank [] = Unit {0}
AtBlank (x ∷ xs) = x ≡ 32

pub blank_at : (w rest : List ℕ) → NoBlank w → AtBlank rest → blank_cut (w ++ rest) ≡ (w, rest)
blank_at [] [] n a = refl
blank_at [] (x ∷ xs) n a = rw (here x 32 a) refl
blank_at (x ∷ w) rest n a = rw n.0 (ap (λ (p : List ℕ × List ℕ). (x ∷ p.0, p.1)) (blank_at w rest n.1 a))

-- no byte is from low to high
abbrev pub Outside : ℕ → ℕ → List ℕ → Type 0
Outside low high [] = Unit {0}
Outside low high (x ∷ xs) = (nat_le low x && nat_le x high ≡ false) × Outside low high xs

-- nothing, or a blank with a byte from low to high behind it
abbrev pub AtClass : ℕ → ℕ → List ℕ → Type 0
AtClass low high [] = Unit {0}
AtClass low high (x ∷ xs) = (x ≡ 32) × (begins low high xs ≡ true)

not_begun : (low high : ℕ) (w rest : List ℕ) → nat_le low 32 && nat_le 32 high ≡ false → Outside low high w
    → AtClass low high rest → begins low high (w ++ rest) ≡ false
not_begun low high [] [] z o a = refl
not_begun low high [] (y ∷ ys) z o a = ap (λ (k : ℕ). nat_le low k && nat_le k high) a.0 ∙ z
not_begun low high (y ∷ w) rest z o a = o.0

pub class_at : (low high : ℕ) (w rest : List ℕ) → nat_le low 32 && nat_le 32 high ≡ false → Outside low high w
    → AtClass low high rest → class_cut low high (w ++ rest) ≡ (w, rest)
class_at low high [] [] z o a = refl
class_at low high [] (x ∷ xs) z o a = rw (here x 32 a.0) (rw a.1 refl)
class_at low high (x ∷ w) rest z o a =
    rw (not_begun low high w rest z o.1 a) (rw (and_with_false (x == 32)) (ap (λ (p : List ℕ
    × List ℕ). (x ∷ p.0, p.1)) (class_at low high w rest z o.1 a)))

pub outside_append : (low high : ℕ) (xs ys : List ℕ) → Outside low high xs → Outside low high ys
    → Outside low high (xs ++ ys)
outside_append low high [] ys a b = b
outside_append low high (x ∷ xs) ys a b = (a.0, outside_append low high xs ys a.1 b)

no_blank : (xs : List ℕ) → AllInRange 48 57 xs → NoBlank xs
no_blank [] w = tt
no_blank (x ∷ xs) w = (ne_eqb x 32 (λ e. let a = w.0 in omega arith), no_blank xs w.2)

no_letter : (xs : List ℕ) → AllInRange 48 57 xs → Outside 97 122 xs
no_letter [] w = tt
no_letter (x ∷ xs) w = (small x w.1, no_letter xs w.2)
  where
    small : (x : ℕ) → x ≤ 57 → nat_le 97 x && nat_le x 122 ≡ false
    small x l = grind (arith, nat_tests)

pub digits_no_blank : (n : ℕ) → n < 2 ^ 64 → NoBlank (decimal n)
digits_no_blank n l = no_blank (decimal n) (digits_within n l)

pub digits_no_letter : (n : ℕ) → n < 2 ^ 64 → Outside 97 122 (decimal n)
digits_no_letter n l = no_letter (decimal n) (digits_within n l)

pub numbers_no_letter : (ns : List ℕ) → All IsNumber ns → Outside 97 122 (flat_map number_text ns)
numbers_no_letter [] a = tt
numbers_no_letter (n ∷ ns) a = (
  refl,
  outside_append 97 122 (decimal n) (flat_map number_text ns)
      (digits_no_letter n (omega (arith, All-head IsNumber n ns a))) (numbers_no_letter ns (All-tail IsNumber n ns a)),
)

pub signed_no_blank : (z : ℤ) → mag z < 2 ^ 63 → NoBlank (signed_decimal z)
signed_no_blank (pos n) l = digits_no_blank n (omega arith)
signed_no_blank (negsuc n) l = (refl, digits_no_blank (suc n) (omega arith))

begins_digit : (ds rest : List ℕ) → 0 < length ds → AllInRange 48 57 ds → begins 45 57 (ds ++ rest) ≡ true
begins_digit [] rest s w = absurd (omega arith)
begins_digit (d ∷ ds) rest s w = digit d w.0 w.1
  where
    digit : (d : ℕ) → 48 ≤ d → d ≤ 57 → nat_le 45 d && nat_le d 57 ≡ true
    digit d l h = grind (arith, nat_tests)

-- a number begins with a digit or a sign
pub begins_signed : (z : ℤ) (rest : List ℕ) → mag z < 2 ^ 63 → begins 45 57 (signed_decimal z ++ rest) ≡ true
begins_signed (pos n) rest l = begins_digit (decimal n) rest (decimal_nonempty n (omega arith))
    (digits_within n (omega arith))
begins_signed (negsuc n) rest l = refl

-- a number of 64 bits with its sign
pub integer_small : (z : ℤ) → IsInteger z → mag z < 2 ^ 63
integer_small (pos n) f = omega (arith, f.sfits)
integer_small (negsuc n) f = omega (arith, f.sfits)

-- the numbers of a text begin with a blank
pub at_blank : (ns : List ℕ) (rest : List ℕ) → AtBlank rest → AtBlank (flat_map number_text ns ++ rest)
at_blank [] rest a = a
at_blank (n ∷ ns) rest a = refl

blank_numbers : (ns : List ℕ) → AtBlank (flat_map number_text ns)
blank_numbers [] = tt
blank_numbers (n ∷ ns) = refl

-- the first of some numbers, and the text of the others
pub number_cut : (n : ℕ) (ns : List ℕ) → IsNumber n
    → word_of (flat_map number_text (n ∷ ns)) ≡ (decimal n, flat_map number_text ns)
number_cut n ns l = blank_at (decimal n) (flat_map number_text ns) (digits_no_blank n (omega arith)) (blank_numbers ns)

blank_shorter : (xs : List ℕ) → length (blank_cut xs).1 ≤ length xs
blank_shorter [] = omega arith
blank_shorter (x ∷ xs) = by (x == 32) (blank_shorter xs)
  where
    by : (b : Bool) → length (blank_cut xs).1 ≤ length xs
        → length (cond {A = List ℕ × List ℕ} b ([], x ∷ xs) (x ∷ (blank_cut xs).0, (blank_cut xs).1)).1 ≤ length
        (x ∷ xs)
    by true h = omega arith
    by false h = omega arith

-- what stands behind a word is shorter
pub word_shorter : (t : List ℕ) → 0 < length t → length (word_of t).1 < length t
word_shorter [] l = absurd (omega arith)
word_shorter (x ∷ xs) l = let h = blank_shorter xs in omega arith

-- a pair that was found by parts
pub follow : (f : List ℕ → List ℕ × List ℕ) (t x w r a b : List ℕ) → t ≡ x → f x ≡ (w, r) → a ≡ (f t).0 → b ≡ (f t).1
    → (a ≡ w) × (b ≡ r)
follow f t x w r a b e g h k = (
  h ∙ ap (λ (p : List ℕ × List ℕ). p.0) (ap f e ∙ g),
  k
      ∙ ap (λ (p : List ℕ × List ℕ). p.1) (ap f e ∙ g),
)

pub not_empty : (xs : List ℕ) (b : Bool) → b ≡ (length xs == 0) → b ≡ false → xs ≢ []
not_empty xs b e f z = true≢false (sym (ap (λ (ys : List ℕ). length ys == 0) z) ∙ sym e ∙ f)

pub empty : (xs : List ℕ) (b : Bool) → b ≡ (length xs == 0) → b ≡ true → xs ≡ []
empty xs b e f = nil_from_length xs (eqb-true (length xs) 0 (sym e ∙ f))

pub some_length : (xs : List ℕ) → xs ≢ [] → 0 < length xs
some_length [] n = absurd (n refl)
some_length (x ∷ xs) n = omega arith

-- a sign alone is no number
pub no_sign : (n : ℕ) → IsNumber n → codes "-" ≡ decimal n → ⊥
no_sign n l e =
    let w : AllInRange 48 57 (codes "-") = subst (AllInRange 48 57) (sym e) (digits_within n (omega arith)) in
    let a = w.0 in
    omega arith
