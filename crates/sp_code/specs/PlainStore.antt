-- All of this belongs to what the program promises (docs/promise.txt).
-- The stores of a run, as plain maps: the store with which the machine's memory is used in all contracts, by the
-- definitions of sp_cell.
use Rattle.std.specs.Prelude.{ℕ, ◌==◌, List, [], Option, Some, None, Bool, true, false, ◌&&◌, not}
use Rattle.std.specs.List.{list_all}
use Rattle.std.specs.FinMap as map
use Rattle.sp_cell.specs.declared.cell.Cell.{Cell}
use Rattle.sp_cell.specs.declared.spot.Spot.{Spot}
use Rattle.sp_cell.specs.Map.{Content, Own, Shared, Away, Map, Plain, with_map, with_own_piece}
use Rattle.sp_cell.specs.Map.{with_more_output, output_of}
use Rattle.sp_cell.specs.Map.{output_spot}
use Rattle.sp_cell.specs.Frame.{next_frame, last_own_frame, with_new_frame, without_newest_frame, root_map}
use Rattle.sp_cell.specs.Fork.{child_of, map_after_fork, map_after_join}
use Rattle.sp_code.specs.Memory.{Stores, is_there}

-- the cells of a piece that is held, own or shared
abbrev pub piece_of : Option Content → Option (List Cell)
piece_of (Some (Own cs)) = Some cs
piece_of (Some (Shared cs)) = Some cs
piece_of _ = None

-- the spot is known and away
abbrev pub is_away : Option Content → Bool
is_away (Some Away) = true
is_away _ = false

-- nothing of a frame is away
abbrev pub none_away : Map → ℕ → Bool
none_away m n = list_all (λ (q : Spot). not ((q.frame == n) && is_away (map.get m q))) (map.keys m)

abbrev pub is_newest : List ℕ → ℕ → Bool
is_newest ns n = is_there ns && (last_own_frame ns == n)

-- plain maps as the machine's stores
abbrev pub plain : Stores Plain
plain = record {
  piece = λ p s. piece_of (map.get p.map s);
  owned = λ p s cs. with_map p (with_own_piece p.map s cs);
  output = λ p. output_of (map.get p.map output_spot);
  appended = λ p bs. with_map p (with_more_output p.map bs);
  next_frame = next_frame;
  pushed = with_new_frame;
  may_pop = λ p n. is_newest p.own n && none_away p.map n;
  popped = without_newest_frame;
  root = λ sizes. record { map = root_map sizes; own = []; moved = [] };
  child = λ p h. child_of p.map h;
  handed = λ p hs. with_map p (map_after_fork p.map hs);
  joined = λ p c. with_map p (map_after_join p.map c);
}
