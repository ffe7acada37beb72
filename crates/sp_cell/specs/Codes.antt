-- None of this belongs to what the program promises: it is for contracts between crates.
-- How the values of a store are stored: a code for a spot, a cell, a content, the map and the whole plain store. The
-- `Model` of `Store` rests on it, as a type whose value is no field of its own has to.
use Rattle.std.specs.Prelude.{◌≡◌, ◌⊎◌, ℕ, List, refl}
use Rattle.std.proofs.Common.{inl, inr}
use Rattle.std.specs.Coded.{Coded, code_by, coded×, coded⊎, coded_ℕ, coded_list}
use Rattle.std.specs.FinMap as map
use Rattle.sp_cell.specs.declared.cell.Cell.{Cell}
use Rattle.sp_cell.specs.declared.spot.Spot.{Spot}
use Rattle.sp_cell.specs.contracts.cell.Cell as cells
use Rattle.sp_cell.specs.Map.{Content, Own, Shared, Output, Away, Map, Plain}

abbrev pub spot_code : Coded Spot
spot_code = code_by (ℕ × ℕ) (coded× coded_ℕ coded_ℕ) (λ s. (s.frame, s.variable))
    (λ p. record { frame = p.0; variable = p.1 }) (λ _. refl)

abbrev pub cell_code : Coded Cell
cell_code = cells.the_row.coded

-- a content as a sum of stored types
abbrev pub Stored : Type 0
Stored = (List Cell ⊎ List Cell) ⊎ (List ℕ ⊎ ℕ)

abbrev pub to_stored : Content → Stored
to_stored (Own cs) = inl (inl cs)
to_stored (Shared cs) = inl (inr cs)
to_stored (Output bs) = inr (inl bs)
to_stored Away = inr (inr 0)

abbrev pub from_stored : Stored → Content
from_stored (inl (inl cs)) = Own cs
from_stored (inl (inr cs)) = Shared cs
from_stored (inr (inl bs)) = Output bs
from_stored (inr (inr n)) = Away

-- nothing is lost
abbrev pub from_to_stored : (h : Content) → from_stored (to_stored h) ≡ h
from_to_stored (Own cs) = refl
from_to_stored _ = refl

abbrev pub content_code : Coded Content
content_code = code_by Stored (coded⊎ (coded⊎ (coded_list cell_code) (coded_list cell_code))
    (coded⊎ (coded_list coded_ℕ) coded_ℕ)) to_stored from_stored from_to_stored

abbrev pub map_code : Coded Map
map_code = map.code spot_code content_code

abbrev pub plain_code : Coded Plain
plain_code = code_by (Map × (List ℕ × List Spot)) (coded× map_code (coded× (coded_list coded_ℕ) (coded_list spot_code)))
    (λ p. (p.map, (p.own, p.moved))) (λ (map, (own, moved)). record { map = map; own = own; moved = moved }) (λ _. refl)
