-- Channels in cells, lists and maps: what is made of cells that have a property has it.
use Rattle.std.proofs.Common.{◌≡◌, ◌≢◌, ◌⊎◌, inl, inr, ℕ, zero, suc, ◌+◌, ◌==◌, ℤ, List, [], ◌∷◌, ◌++◌, length, Option}
use Rattle.std.proofs.Common.{Some, None, false, sym, subst}
use Rattle.std.specs.Prelude.{slice_set, slice_index_or, take, drop, replicate, pos}
use Rattle.std.specs.FinMap as map
use Rattle.sp_cell.specs.declared.cell.Cell.{Cell}
use Rattle.sp_cell.specs.declared.cell.Cell.TheVariants as cell
use Rattle.sp_cell.specs.declared.spot.Spot.{Spot}
use Rattle.sp_cell.specs.declared.spot.Handing.{Handing}
use Rattle.sp_cell.specs.Lists.{splice, part}
use Rattle.sp_cell.specs.Map.{Content, Own, Output, Away, Map, spot_cmp}
use Rattle.sp_cell.specs.Frame.{with_pieces, without_spots_of, root_map}
use Rattle.sp_cell.proofs.FrameLaws.{without_here, without_other}
use Rattle.sp_cell.specs.Fork.{insert_if_found, with_contents, with_shared, with_away, with_index, index_frame}
use Rattle.sp_cell.specs.Fork.{child_map, moved_of, shared_of, map_after_fork}
use Rattle.sp_cell.proofs.Laws.{get_other, get_here, same_or}
use Rattle.sp_code.specs.Memory.{cells_in}
use Rattle.sp_code.specs.PlainStore.{piece_of}
use Rattle.sp_code.proofs.StoreLaws.{cells_same}
use Rattle.sp_code.specs.Channels.{CellHas, CellsHave}
use Rattle.sp_code.proofs.Queues.{number_or}

module _ (C : ℕ → Type 0) where
  -- ---- lists

  pub have_append : (xs ys : List Cell) → CellsHave C xs → CellsHave C ys → CellsHave C (xs ++ ys)
  have_append [] ys h k = k
  have_append (x ∷ xs) ys h k = (h.0, have_append xs ys h.1 k)

  pub have_take : (n : ℕ) (xs : List Cell) → CellsHave C xs → CellsHave C (take n xs)
  have_take zero xs h = tt
  have_take (suc n) [] h = tt
  have_take (suc n) (x ∷ xs) h = (h.0, have_take n xs h.1)

  pub have_drop : (n : ℕ) (xs : List Cell) → CellsHave C xs → CellsHave C (drop n xs)
  have_drop zero xs h = h
  have_drop (suc n) [] h = tt
  have_drop (suc n) (x ∷ xs) h = have_drop n xs h.1

  pub have_set : (xs : List Cell) (n : ℕ) (c : Cell) → CellsHave C xs → CellHas C c → CellsHave C (slice_set xs n c)
  have_set [] n c h k = tt
  have_set (x ∷ xs) zero c h k = (k, h.1)
  have_set (x ∷ xs) (suc n) c h k = (h.0, have_set xs n c h.1 k)

  pub have_at : (xs : List Cell) (n : ℕ) (d : Cell) → CellsHave C xs → CellHas C d → CellHas C (slice_index_or xs n d)
  have_at [] n d h k = k
  have_at (x ∷ xs) zero d h k = h.0
  have_at (x ∷ xs) (suc n) d h k = have_at xs n d h.1 k

  have_undefined : (n : ℕ) → CellsHave C (replicate n cell.Undefined)
  have_undefined zero = tt
  have_undefined (suc n) = (tt, have_undefined n)

  pub have_part : (xs : List Cell) (at n : ℕ) → CellsHave C xs → CellsHave C (part xs at n)
  have_part xs at n h = have_take n (drop at xs) (have_drop at xs h)

  pub have_over : (xs : List Cell) (at : ℕ) (ys : List Cell) → CellsHave C xs → CellsHave C ys
      → CellsHave C (splice xs at ys)
  have_over xs at ys h k = have_append (take at xs) (ys ++ drop (at + length ys) xs) (have_take at xs h)
      (have_append ys (drop (at + length ys) xs) k (have_drop (at + length ys) xs h))

  -- ---- maps

  abbrev pub ContentHas : Option Content → Type 0
  ContentHas o = CellsHave C (cells_in (piece_of o))

  abbrev pub MapHas : Map → Type 0
  MapHas m = (p : Spot) → ContentHas (map.get m p)

  pub insert_has : (m : Map) (s : Spot) (h : Content) → MapHas m → ContentHas (Some h) → MapHas (map.insert m s h)
  insert_has m s h a b p = go (same_or p s)
    where
      go : (p ≡ s) ⊎ (p ≢ s) → ContentHas (map.get (map.insert m s h) p)
      go (inl e) = subst (λ x. ContentHas (map.get (map.insert m s h) x)) (sym e)
          (subst ContentHas (sym (get_here m s h)) b)
      go (inr n) = subst ContentHas (sym (get_other m s h p n)) (a p)

  empty_has : MapHas map.empty
  empty_has p = subst ContentHas (sym (map.get-empty spot_cmp p)) tt

  hold_has : (c : Map) (s : Spot) (o : Option Content) → MapHas c → ContentHas o → MapHas (insert_if_found c s o)
  hold_has c s None a b = a
  hold_has c s (Some h) a b = insert_has c s h a b

  pub taken_has : (m : Map) (ss : List Spot) (c : Map) → MapHas m → MapHas c → MapHas (with_contents m ss c)
  taken_has m [] c a b = b
  taken_has m (s ∷ ss) c a b = taken_has m ss (insert_if_found c s (map.get m s)) a (hold_has c s (map.get m s) b (a s))

  lent_has : (m : Map) (ss : List Spot) (c : Map) → MapHas m → MapHas c → MapHas (with_shared m ss c)
  lent_has m [] c a b = b
  lent_has m (s ∷ ss) c a b = lent_has m ss _ a
      (insert_has c s _ b (subst (CellsHave C) (cells_same (map.get m s)) (a s)))

  away_has : (m : Map) (ss : List Spot) → MapHas m → MapHas (with_away m ss)
  away_has m [] a = a
  away_has m (s ∷ ss) a = away_has (map.insert m s Away) ss (insert_has m s Away a tt)

  index_has : (c : Map) (n : ℕ) (o : Option (ℕ × ℤ)) → MapHas c → MapHas (with_index c n o)
  index_has c n None a = a
  index_has c n (Some i) a = insert_has c (record { frame = n; variable = i.0 }) (Own (cell.Ordinal i.1 ∷ [])) a
      (tt, tt)

  pub child_has : (m : Map) (h : Handing) → MapHas m → MapHas (child_map m h)
  child_has m h a = taken_has m h.moved _ a (index_has (with_shared m h.shared map.empty) (index_frame h) h.index
      (lent_has m h.shared map.empty a empty_has))

  pub handed_has : (m : Map) (hs : List Handing) → MapHas m → MapHas (map_after_fork m hs)
  handed_has m hs a = lent_has m (shared_of hs) _ a (away_has m (moved_of hs) a)

  pub pieces_has : (m : Map) (n v : ℕ) (cs : List ℕ) → MapHas m → MapHas (with_pieces m n v cs)
  pieces_has m n v [] a = a
  pieces_has m n v (c ∷ cs) a = pieces_has (map.insert m (record { frame = n; variable = v })
      (Own (replicate c cell.Undefined))) n (v + 1) cs
      (insert_has m (record { frame = n; variable = v }) (Own (replicate c cell.Undefined)) a (have_undefined c))

  pub root_has : (sizes : List ℕ) → MapHas (root_map sizes)
  root_has sizes = pieces_has _ 0 2 sizes (insert_has _ (record { frame = 0; variable = 1 }) (Output [])
      (insert_has map.empty (record { frame = 0; variable = 0 }) (Own (cell.Ordinal (pos 0) ∷ [])) empty_has (tt, tt))
      tt)

  pub without_has : (m : Map) (n : ℕ) → MapHas m → MapHas (without_spots_of m n)
  without_has m n a p = go (number_or p.frame n)
    where
      go : (p.frame ≡ n) ⊎ ((p.frame ≢ n) × (p.frame == n ≡ false)) → ContentHas (map.get (without_spots_of m n) p)
      go (inl e) = subst ContentHas (sym (without_here m n p e)) tt
      go (inr d) = subst ContentHas (sym (without_other m n p d.0)) (a p)
