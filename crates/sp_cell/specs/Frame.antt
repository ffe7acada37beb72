-- Some of this belongs to what the program promises (docs/promise.txt).
-- The frames of a store: their numbers, and what it means to push and to pop one. The contracts of `Store` and of the
-- machine's calls promise it. A number is taken above all known ones, so that no spot is used twice.
use Rattle.std.specs.Prelude.{◌≡◌, ◌≢◌, ℕ, ◌+◌, ◌-◌, ◌≤◌, ◌<◌, ◌==◌, not, List, [], ◌∷◌, ◌++◌, length, max, slice_index}
use Rattle.std.specs.Prelude.{take, replicate, pos, Some}
use Rattle.std.specs.FinMap as map
use Rattle.sp_cell.specs.declared.cell.Cell.TheVariants.{Ordinal, Undefined}
use Rattle.sp_cell.specs.declared.spot.Spot.{Spot}
use Rattle.sp_cell.specs.Map.{Map, Own, Output, Away, Plain}

-- the least number above all
abbrev pub least_above : List ℕ → ℕ
least_above [] = 0
least_above (n ∷ ns) = max (n + 1) (least_above ns)

-- the frames of spots
abbrev pub frames : List Spot → List ℕ
frames [] = []
frames (s ∷ ss) = s.frame ∷ frames ss

-- the number of a new frame: the least above every frame that the map knows and every own frame
abbrev pub next_frame : Plain → ℕ
next_frame p = max (least_above (frames (map.keys p.map))) (least_above p.own)

-- each frame number that there is is below 2 ^ 64 - 1, so there is a number for a new frame
abbrev pub HasNextFrame : Plain → Type 0
HasNextFrame p = next_frame p ≤ 18446744073709551615

-- m with an undefined piece for each size, from a variable of a frame on
abbrev pub with_pieces : Map → ℕ → ℕ → List ℕ → Map
with_pieces m n v [] = m
with_pieces m n v (c ∷ cs) = with_pieces (map.insert m (record { frame = n; variable = v })
    (Own (replicate c Undefined))) n (v + 1) cs

-- frame 0 of a run: the input's position, the empty output, and an undefined piece for each size
abbrev pub root_map : List ℕ → Map
root_map sizes = with_pieces (map.insert (map.insert map.empty (record { frame = 0; variable = 0 })
    (Own (Ordinal (pos 0) ∷ []))) (record { frame = 0; variable = 1 }) (Output [])) 0 2 sizes

-- the store with a new frame, of an undefined piece for each size
abbrev pub with_new_frame : Plain → List ℕ → Plain
with_new_frame p sizes =
    record { map = with_pieces p.map (next_frame p) 0 sizes; own = p.own ++ next_frame p ∷ []; moved = p.moved }

-- the last of the own frames
abbrev pub last_own_frame : List ℕ → ℕ
last_own_frame ns = slice_index ns (length ns - 1)

-- m without the spots of a frame
abbrev pub without_spots_of : Map → ℕ → Map
without_spots_of m n = map.retain_keys m (λ s. not (s.frame == n))

-- nothing of the frame is away
abbrev pub NoneAway : Map → ℕ → Type 0
NoneAway m n = (q : Spot) → q.frame ≡ n → map.get m q ≢ Some Away

-- the store without its newest own frame
abbrev pub without_newest_frame : Plain → Plain
without_newest_frame p = record {
  map = without_spots_of p.map (last_own_frame p.own);
  own =
      take (length p.own - 1) p.own;
  moved = p.moved;
}

-- each own frame is newer than those before it
abbrev pub IsRising : List ℕ → Type 0
IsRising ns = (i j : ℕ) → i < j → j < length ns → slice_index ns i < slice_index ns j
