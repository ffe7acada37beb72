-- A piece of one cell, read and written.
use Rattle.std.proofs.Common.{◌≡◌, ◌≢◌, ℕ, zero, suc, ◌+◌, ◌<◌, ◌≤◌, List, [], ◌∷◌, length, get_or, refl, arith}
use Rattle.std.specs.Prelude.{slice_index_or, slice_set}
use Rattle.sp_cell.specs.declared.cell.Cell.{Cell}
use Rattle.sp_cell.specs.Lists.{splice}
use Rattle.sp_cell.specs.Map.{Own}

pub read_single : (c d : Cell) (k : ℕ) → k < 1 → c ≡ slice_index_or (c ∷ []) k d
read_single c d zero h = refl
read_single c d (suc k) h = absurd (omega (arith, h))

pub write_single : (c x : Cell) (k : ℕ) → k < 1 → Own (x ∷ []) ≡ Own (slice_set (c ∷ []) k x)
write_single c x zero h = refl
write_single c x (suc k) h = absurd (omega (arith, h))

pub over_single : (c d : Cell) (k : ℕ) (xs : List Cell) → k + length xs ≤ 1 → length xs ≡ 1
    → Own (get_or xs 0 d ∷ []) ≡ Own (splice (c ∷ []) k xs)
over_single c d k [] h l = absurd (omega (arith, l))
over_single c d zero (x ∷ []) h l = refl
over_single c d (suc k) (x ∷ []) h l = absurd (omega (arith, h))
over_single c d k (x ∷ y ∷ xs) h l = absurd (omega (arith, l))

pub over_none : (c : Cell) (k : ℕ) (xs : List Cell) → k + length xs ≤ 1 → length xs ≢ 1
    → Own (c ∷ []) ≡ Own (splice (c ∷ []) k xs)
over_none c zero [] h l = refl
over_none c (suc zero) [] h l = refl
over_none c (suc (suc k)) [] h l = absurd (omega (arith, h))
over_none c k (x ∷ []) h l = absurd (l refl)
over_none c k (x ∷ y ∷ xs) h l = absurd (omega (arith, h))
