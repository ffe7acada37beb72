-- All of this belongs to what the program promises (docs/promise.txt).
-- The places of a text's bytes, by line and column. The definitions of tokens and of refusals cite it, and the scanner
-- and the parser promise it.
use Rattle.std.specs.Prelude.{ℕ, ◌+◌, ◌==◌, cond, List, [], ◌∷◌, take}
use Rattle.sp_base.specs.declared.place.Place.{Place}

abbrev pub start : Place
start = record { line = 1; column = 1 }

-- behind a byte: the next column, or the next line
abbrev pub next_place : Place → ℕ → Place
next_place p b = record { line = cond (b == 10) (p.line + 1) p.line; column = cond (b == 10) 1 (p.column + 1) }

abbrev pub place_behind : Place → List ℕ → Place
place_behind p [] = p
place_behind p (b ∷ bs) = place_behind (next_place p b) bs

-- the place of the byte number n, counted from 0
abbrev pub place_at : List ℕ → ℕ → Place
place_at text n = place_behind start (take n text)
