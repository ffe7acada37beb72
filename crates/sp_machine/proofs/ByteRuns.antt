-- Bytes read one after another: how far blanks, digits and a line go, and the number that digits spell.
use Rattle.std.proofs.Common.{◌≡◌, ℕ, zero, suc, ◌+◌, ◌-◌, ◌*◌, ◌==◌, ◌<◌, ◌≤◌, true, false, List, [], ◌∷◌, drop}
use Rattle.std.proofs.Common.{length, get_or, refl, arith}
use Rattle.sp_tree.specs.Characters.{is_blank, is_digit}
use Rattle.sp_tree.specs.Items.{blanks, digits, number_from, line_length}

pub blanks_on : (bs : List ℕ) (i : ℕ) → i < length bs → is_blank (get_or bs i 0) ≡ true
    → blanks (drop i bs) ≡ suc (blanks (drop (suc i) bs))
blanks_on [] i h e = absurd (omega arith)
blanks_on (b ∷ bs) zero h e = rw e refl
blanks_on (b ∷ bs) (suc i) h e = blanks_on bs i (omega arith) e

pub blanks_stop : (bs : List ℕ) (i : ℕ) → i < length bs → is_blank (get_or bs i 0) ≡ false → blanks (drop i bs) ≡ 0
blanks_stop [] i h e = absurd (omega arith)
blanks_stop (b ∷ bs) zero h e = rw e refl
blanks_stop (b ∷ bs) (suc i) h e = blanks_stop bs i (omega arith) e

pub blanks_end : (bs : List ℕ) (i : ℕ) → length bs ≤ i → blanks (drop i bs) ≡ 0
blanks_end [] zero h = refl
blanks_end [] (suc i) h = refl
blanks_end (b ∷ bs) zero h = absurd (omega arith)
blanks_end (b ∷ bs) (suc i) h = blanks_end bs i (omega arith)

pub digits_on : (bs : List ℕ) (i : ℕ) → i < length bs → is_digit (get_or bs i 0) ≡ true
    → digits (drop i bs) ≡ suc (digits (drop (suc i) bs))
digits_on [] i h e = absurd (omega arith)
digits_on (b ∷ bs) zero h e = rw e refl
digits_on (b ∷ bs) (suc i) h e = digits_on bs i (omega arith) e

pub digits_stop : (bs : List ℕ) (i : ℕ) → i < length bs → is_digit (get_or bs i 0) ≡ false → digits (drop i bs) ≡ 0
digits_stop [] i h e = absurd (omega arith)
digits_stop (b ∷ bs) zero h e = rw e refl
digits_stop (b ∷ bs) (suc i) h e = digits_stop bs i (omega arith) e

pub digits_end : (bs : List ℕ) (i : ℕ) → length bs ≤ i → digits (drop i bs) ≡ 0
digits_end [] zero h = refl
digits_end [] (suc i) h = refl
digits_end (b ∷ bs) zero h = absurd (omega arith)
digits_end (b ∷ bs) (suc i) h = digits_end bs i (omega arith)

pub line_on : (bs : List ℕ) (i : ℕ) → i < length bs → (get_or bs i 0 == 10) ≡ false
    → line_length (drop i bs) ≡ suc (line_length (drop (suc i) bs))
line_on [] i h e = absurd (omega arith)
line_on (b ∷ bs) zero h e = rw e refl
line_on (b ∷ bs) (suc i) h e = line_on bs i (omega arith) e

pub line_stop : (bs : List ℕ) (i : ℕ) → i < length bs → (get_or bs i 0 == 10) ≡ true → line_length (drop i bs) ≡ 1
line_stop [] i h e = absurd (omega arith)
line_stop (b ∷ bs) zero h e = rw e refl
line_stop (b ∷ bs) (suc i) h e = line_stop bs i (omega arith) e

pub line_end : (bs : List ℕ) (i : ℕ) → length bs ≤ i → line_length (drop i bs) ≡ 0
line_end [] zero h = refl
line_end [] (suc i) h = refl
line_end (b ∷ bs) zero h = absurd (omega arith)
line_end (b ∷ bs) (suc i) h = line_end bs i (omega arith)

pub number_on : (n : ℕ) (bs : List ℕ) (i : ℕ) → i < length bs
    → number_from n (drop i bs) ≡ number_from (n * 10 + (get_or bs i 0 - 48)) (drop (suc i) bs)
number_on n [] i h = absurd (omega arith)
number_on n (b ∷ bs) zero h = refl
number_on n (b ∷ bs) (suc i) h = number_on n bs i (omega arith)

pub number_end : (n : ℕ) (bs : List ℕ) (i : ℕ) → length bs ≤ i → number_from n (drop i bs) ≡ n
number_end n [] zero h = refl
number_end n [] (suc i) h = refl
number_end n (b ∷ bs) zero h = absurd (omega arith)
number_end n (b ∷ bs) (suc i) h = number_end n bs i (omega arith)

pub number_grows : (n : ℕ) (ds : List ℕ) → n ≤ number_from n ds
number_grows n [] = omega arith
number_grows n (d ∷ ds) = let h = number_grows (n * 10 + (d - 48)) ds in omega (arith, h)
