-- The place in the input, and pieces that stay as long as they were.
use Rattle.std.proofs.Common.{◌≡◌, ◌≢◌, ℕ, ◌+◌, ◌≤◌, List, [], ◌∷◌, length, Option, Some, None, refl, sym, ap, ◌∙◌}
use Rattle.std.proofs.Common.{subst, arith}
use Rattle.std.proofs.Common.{inl, inr, rules}
use Rattle.std.specs.Prelude.{ℤ, nat_abs, slice_index_or, slice_set, ◌⊎◌}
use Rattle.std.specs.FinMap as map
use Rattle.sp_cell.specs.declared.cell.Cell.{Cell}
use Rattle.sp_cell.specs.declared.cell.Cell.TheVariants as cell
use Rattle.sp_cell.specs.declared.spot.Spot.{Spot}
use Rattle.sp_cell.specs.declared.spot.Address.{Address}
use Rattle.sp_cell.specs.Map.{Content, Own, Shared, Output, Away, Map, Plain, IsPiece, HasCells, cells_of, cells_at}
use Rattle.sp_cell.proofs.Laws.{get_other, get_here, same_or}
use Rattle.sp_code.specs.Memory.{position_in, left_after, put_cell}
use Rattle.sp_code.specs.PlainStore.{piece_of, plain}
use Rattle.sp_code.proofs.StoreLaws.{cells_same}

pub left_held : (input : List ℕ) (o : Option (List Cell)) → left_after input (position_in o) ≢ None
    → position_in o ≢ None
left_held input o h e = h (ap (left_after input) e)

holds : (cs : List Cell) → position_in (Some cs) ≢ None → 1 ≤ length cs
holds [] h = absurd (h refl)
holds (c ∷ cs) h = omega arith

pub position_held : (o : Option Content) → position_in (piece_of o) ≢ None → IsPiece o × (0 + 1 ≤ length (cells_of o))
position_held None h = absurd (h refl)
position_held (Some (Own cs)) h = (tt, holds cs h)
position_held (Some (Shared cs)) h = (tt, holds cs h)
position_held (Some (Output bs)) h = absurd (h refl)
position_held (Some Away) h = absurd (h refl)

first_is : (cs : List Cell) (n : ℤ) → position_in (Some cs) ≢ None → slice_index_or cs 0 cell.Undefined ≡ cell.Ordinal n
    → position_in (Some cs) ≡ Some (nat_abs n)
first_is [] n h e = absurd (h refl)
first_is (c ∷ cs) n h e = ap (λ (x : Cell). position_in (Some (x ∷ cs))) e

pub position_is : (o : Option Content) (n : ℤ) → position_in (piece_of o) ≢ None
    → slice_index_or (cells_of o) 0 cell.Undefined ≡ cell.Ordinal n → position_in (piece_of o) ≡ Some (nat_abs n)
position_is None n h e = absurd (h refl)
position_is (Some (Own cs)) n h e = first_is cs n h e
position_is (Some (Shared cs)) n h e = first_is cs n h e
position_is (Some (Output bs)) n h e = absurd (h refl)
position_is (Some Away) n h e = absurd (h refl)

first_not_undefined : (cs : List Cell) → position_in (Some cs) ≢ None
    → slice_index_or cs 0 cell.Undefined ≢ cell.Undefined
first_not_undefined [] h e = h refl
first_not_undefined (c ∷ cs) h e = h (ap (λ (x : Cell). position_in (Some (x ∷ cs))) e)

pub position_not_undefined : (o : Option Content) → position_in (piece_of o) ≢ None
    → slice_index_or (cells_of o) 0 cell.Undefined ≢ cell.Undefined
position_not_undefined None h e = h refl
position_not_undefined (Some (Own cs)) h e = first_not_undefined cs h e
position_not_undefined (Some (Shared cs)) h e = first_not_undefined cs h e
position_not_undefined (Some (Output bs)) h e = h refl
position_not_undefined (Some Away) h e = h refl

first_not_channel : (cs : List Cell) (c : ℕ) → position_in (Some cs) ≢ None
    → slice_index_or cs 0 cell.Undefined ≢ cell.Channel c
first_not_channel [] c h e = h refl
first_not_channel (x ∷ cs) c h e = h (ap (λ (y : Cell). position_in (Some (y ∷ cs))) e)

pub position_not_channel : (o : Option Content) (c : ℕ) → position_in (piece_of o) ≢ None
    → slice_index_or (cells_of o) 0 cell.Undefined ≢ cell.Channel c
position_not_channel None c h e = h refl
position_not_channel (Some (Own cs)) c h e = first_not_channel cs c h e
position_not_channel (Some (Shared cs)) c h e = first_not_channel cs c h e
position_not_channel (Some (Output bs)) c h e = h refl
position_not_channel (Some Away) c h e = h refl

length_set : {A : Type 0} → (xs : List A) (i : ℕ) (x : A) → length (slice_set xs i x) ≡ length xs
length_set xs i x = search rules

-- what has cells still has them after one cell was written elsewhere or there
pub still_has : (m : Map) (p : Spot) (i : ℕ) (c : Cell) (a : Address) (k : ℕ) → HasCells m a k
    → HasCells (map.insert m p (Own (slice_set (cells_at m p) i c))) a k
still_has m p i c a k h = go (same_or a.spot p)
  where
    n : Map
    n = map.insert m p (Own (slice_set (cells_at m p) i c))

    go : (a.spot ≡ p) ⊎ (a.spot ≢ p) → HasCells n a k
    go (inl e) =
        let here : map.get n a.spot ≡ Some (Own (slice_set (cells_at m p) i c)) = ap (map.get n) e
        ∙ get_here m p (Own (slice_set (cells_at m p) i c)) in (
          subst IsPiece (sym here) tt,
          rw (ap (λ (o : Option Content). length (cells_of o)) here ∙ length_set (cells_at m p) i c
              ∙ ap (λ (s : Spot). length (cells_at m s)) (sym e)) h.1,
        )
    go (inr w) =
        let there : map.get n a.spot ≡ map.get m a.spot = get_other m p (Own (slice_set (cells_at m p) i c)) a.spot w in
        (subst IsPiece (sym there) h.0, rw (ap (λ (o : Option Content). length (cells_of o)) there) h.1)

pub put_has : (s : Plain) (p : Address) (c : Cell) (a : Address) (k : ℕ) → HasCells s.map a k
    → HasCells (put_cell plain p c s).map a k
put_has s p c a k h =
    subst (λ (cs : List Cell). HasCells (map.insert s.map p.spot (Own (slice_set cs p.offset c))) a k)
    (sym (cells_same (map.get s.map p.spot))) (still_has s.map p.spot p.offset c a k h)
