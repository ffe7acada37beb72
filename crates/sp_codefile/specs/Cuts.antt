-- None of this belongs to what the program promises: it is for contracts between crates.
-- Cutting a line into words, for the parts of the reader. No public contract cites these; they are recursive, so that
-- proofs go by the bytes of a line.
use Rattle.std.specs.Prelude.{ℕ, ◌==◌, ◌&&◌, nat_le, Bool, false, cond, List, [], ◌∷◌}

-- the text up to the first blank, and from this blank on
abbrev pub blank_cut : List ℕ → List ℕ × List ℕ
blank_cut [] = ([], [])
blank_cut (x ∷ xs) = cond (x == 32) ([], x ∷ xs) (x ∷ (blank_cut xs).0, (blank_cut xs).1)

-- the word behind the first byte, and what stands behind it
abbrev pub word_of : List ℕ → List ℕ × List ℕ
word_of [] = ([], [])
word_of (x ∷ xs) = blank_cut xs

-- the first byte is from low to high
abbrev pub begins : ℕ → ℕ → List ℕ → Bool
begins low high [] = false
begins low high (x ∷ xs) = nat_le low x && nat_le x high

-- the text up to the first blank with a byte from low to high behind it, and from this blank on
abbrev pub class_cut : ℕ → ℕ → List ℕ → List ℕ × List ℕ
class_cut low high [] = ([], [])
class_cut low high (x ∷ xs) = cond (x == 32
    && begins low high xs) ([], x ∷ xs) (x ∷ (class_cut low high xs).0, (class_cut low high xs).1)
