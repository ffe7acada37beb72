-- What the tests of a plain store say.
use Rattle.std.proofs.Common.{◌≡◌, ℕ, ◌+◌, ◌≤◌, List, [], ◌∷◌, length, Option, Some, None, Bool, true, false, refl, sym}
use Rattle.std.proofs.Common.{ap, ◌∙◌}
use Rattle.std.specs.Prelude.{◌≢◌, ◌&&◌, ◌==◌, ◌||◌, not}
use Rattle.std.proofs.lemmas.Bool.{leb-true, eqb-true, and_parts}
use Rattle.std.specs.List.{list_all, list_any}
use Rattle.std.specs.Ordering.{eq_by_cmp}
use Rattle.std.specs.FinMap as map
use Rattle.sp_base.specs.Order.{tie_of}
use Rattle.sp_cell.specs.declared.spot.Spot.{Spot}
use Rattle.sp_cell.specs.declared.spot.Address.{Address}
use Rattle.sp_cell.specs.Map.{Content, Own, Shared, Output, Away, Map, Plain, IsPiece, IsOutput, HasCells, cells_of}
use Rattle.sp_cell.specs.Map.{output_of, output_spot, spot_cmp, IsHeld}
use Rattle.sp_cell.specs.Frame.{last_own_frame, NoneAway}
use Rattle.sp_cell.proofs.FrameLaws.{is_same}
use Rattle.sp_cell.proofs.Laws.{known_of_away}
use Rattle.sp_cell.proofs.Order.{spot_same}
use Rattle.sp_cell.specs.declared.cell.Cell.{Cell}
use Rattle.sp_code.specs.Memory.{has_cells, cells_in, is_held, is_there}
use Rattle.sp_code.specs.PlainStore.{piece_of, is_away, none_away, is_newest, plain}

-- cells that the test finds are there
pub piece_holds : (o : Option Content) (offset k : ℕ) → has_cells (piece_of o) offset k ≡ true → IsPiece o
    × (offset + k ≤ length (cells_of o))
piece_holds None offset k e = absurd cc
piece_holds (Some (Own cs)) offset k e = (tt, leb-true (offset + k) (length cs) e)
piece_holds (Some (Shared cs)) offset k e = (tt, leb-true (offset + k) (length cs) e)
piece_holds (Some (Output bs)) offset k e = absurd cc
piece_holds (Some Away) offset k e = absurd cc

pub has_held : (m : Map) (a : Address) (k : ℕ) → has_cells (piece_of (map.get m a.spot)) a.offset k ≡ true
    → HasCells m a k
has_held m a k e = piece_holds (map.get m a.spot) a.offset k e

-- the cells that are looked at are those of the piece
pub cells_same : (o : Option Content) → cells_in (piece_of o) ≡ cells_of o
cells_same None = refl
cells_same (Some (Own cs)) = refl
cells_same (Some (Shared cs)) = refl
cells_same (Some (Output bs)) = refl
cells_same (Some Away) = refl

output_there : (o : Option Content) → is_held (output_of o) ≡ true → IsOutput o
output_there None e = absurd cc
output_there (Some (Own cs)) e = absurd cc
output_there (Some (Shared cs)) e = absurd cc
output_there (Some (Output bs)) e = tt
output_there (Some Away) e = absurd cc

pub output_held : (m : Map) → is_held (output_of (map.get m output_spot)) ≡ true → IsOutput (map.get m output_spot)
output_held m e = output_there (map.get m output_spot) e

-- a key that stands in the list passes the test that all pass
passes : (test : Spot → Bool) (q : Spot) (ks : List Spot) → list_any (eq_by_cmp spot_cmp q) ks ≡ true
    → list_all test ks ≡ true → test q ≡ true
passes test q [] h a = absurd cc
passes test q (k ∷ ks) h a = go (eq_by_cmp spot_cmp q k) refl h
    (λ r. passes test q ks r (and_parts (test k) (list_all test ks) a).1)
  where
    go : (b : Bool) → eq_by_cmp spot_cmp q k ≡ b → (b || list_any (eq_by_cmp spot_cmp q) ks) ≡ true
        → (list_any (eq_by_cmp spot_cmp q) ks ≡ true → test q ≡ true) → test q ≡ true
    go true e h rest = ap test (spot_same q k (tie_of (spot_cmp q k) e)) ∙ (and_parts (test k) (list_all test ks) a).0
    go false e h rest = rest h

not_both : (a b : Bool) → a ≡ true → b ≡ true → not (a && b) ≡ true → ⊥
not_both true true p q e = cc
not_both true false p q e = cc
not_both false b p q e = cc

pub none_is_away : (m : Map) (n : ℕ) → none_away m n ≡ true → NoneAway m n
none_is_away m n e q f h =
    let there : list_any (eq_by_cmp spot_cmp q) (map.keys m) ≡ true = sym (map.contains_key-keys m q)
    ∙ known_of_away (map.get m q) h in
    not_both (q.frame == n) (is_away (map.get m q)) (is_same q.frame n f) (ap is_away h)
    (passes (λ (s : Spot). not ((s.frame == n) && is_away (map.get m s))) q (map.keys m) there e)

no_frame : (ns : List ℕ) → is_there ns ≡ true → ns ≢ []
no_frame [] e w = cc
no_frame (n ∷ ns) e w = cc

-- where the test allows it, the newest own frame has this number, and nothing of it is away
pub may_go : (p : Plain) (n : ℕ) → plain.may_pop p n ≡ true → (p.own ≢ []) × (last_own_frame p.own ≡ n)
    × NoneAway p.map n
may_go p n e =
    let w = and_parts (is_newest p.own n) (none_away p.map n) e in
    let k = and_parts (is_there p.own) (last_own_frame p.own == n) w.0 in
    (no_frame p.own k.0, eqb-true (last_own_frame p.own) n k.1, none_is_away p.map n w.1)

-- the cells of a piece
pub piece_cells : (o : Option Content) (cs : List Cell) → piece_of o ≡ Some cs → cells_of o ≡ cs
piece_cells None cs e = absurd (cc e)
piece_cells (Some (Own ds)) cs e = cc e
piece_cells (Some (Shared ds)) cs e = cc e
piece_cells (Some (Output bs)) cs e = absurd (cc e)
piece_cells (Some Away) cs e = absurd (cc e)

-- what has cells is a piece, and is held
pub piece_of_cells : (o : Option Content) (cs : List Cell) → piece_of o ≡ Some cs → IsPiece o
piece_of_cells None cs e = absurd (cc e)
piece_of_cells (Some (Own ds)) cs e = tt
piece_of_cells (Some (Shared ds)) cs e = tt
piece_of_cells (Some (Output bs)) cs e = absurd (cc e)
piece_of_cells (Some Away) cs e = absurd (cc e)

pub held_of_cells : (o : Option Content) (cs : List Cell) → piece_of o ≡ Some cs → IsHeld o
held_of_cells None cs e = absurd (cc e)
held_of_cells (Some (Own ds)) cs e = tt
held_of_cells (Some (Shared ds)) cs e = tt
held_of_cells (Some (Output bs)) cs e = absurd (cc e)
held_of_cells (Some Away) cs e = absurd (cc e)
