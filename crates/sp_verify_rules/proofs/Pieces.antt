-- A new frame with its arguments: each variable of it has a piece of its cells, and no other spot changes.
use Rattle.std.proofs.Common.{◌≡◌, ◌≢◌, ⊎_elim, ℕ, suc, ◌+◌, ◌≤◌, ◌==◌, List, [], ◌∷◌, length, drop, Option, Some}
use Rattle.std.proofs.Common.{true, sym, ap, ◌∙◌, arith}
use Rattle.std.specs.Prelude.{slice_set}
use Rattle.std.proofs.lemmas.Bool.{eqb-true, and_parts}
use Rattle.std.proofs.lemmas.List.{length-drop, length-append, length-set}
use Rattle.std.specs.FinMap as map
use Rattle.std.proofs.lemmas.Option.{same_Some}
use Rattle.sp_cell.specs.declared.cell.Cell.{Cell}
use Rattle.sp_cell.specs.declared.cell.Cell.TheVariants as cell
use Rattle.sp_cell.specs.declared.spot.Spot.{Spot}
use Rattle.sp_cell.proofs.Laws.{get_other, get_here, same_or}
use Rattle.sp_cell.specs.Lists.{splice}
use Rattle.sp_cell.specs.Map.{Content, Own, Plain, with_own_piece}
use Rattle.sp_code.specs.declared.code.Formal.{Formal}
use Rattle.sp_code.specs.declared.code.Formal.TheVariants as formal
use Rattle.sp_code.specs.Machine.{Entry, Number, Chan, Pointer, Cells, Link, Reply, fit_formals}
use Rattle.sp_code.specs.Memory.{cell_at, cells_in, with_arguments, put_cell, put_cells, cells_at}
use Rattle.sp_code.specs.PlainStore.{plain, piece_of}
use Rattle.sp_code.proofs.Pieces.{spot_at as at_frame}

-- there is a piece of so many cells
pub record HasLength (o : Option Content) (n : ℕ) : Type 0 where
  pub cells : List Cell
  pub piece : piece_of o ≡ Some cells
  pub long : length cells ≡ n

-- each argument has room in the variable to which it goes
abbrev pub HaveRoom : ℕ → List Formal → (ℕ → Option ℕ) → Type 0
HaveRoom k [] size = Unit {0}
HaveRoom k (formal.Value n ∷ fs) size = (size k ≡ Some n) × HaveRoom (suc k) fs size
HaveRoom k (formal.Reference n ∷ fs) size = HaveRoom (suc k) fs size

overwritten_length : (xs ys : List Cell) → length ys ≤ length xs → length (splice xs 0 ys) ≡ length xs
overwritten_length xs ys l = length-append ys (drop (0 + length ys) xs) ∙ go (length ys) l
  where
    go : (k : ℕ) → k ≤ length xs → k + length (drop (0 + k) xs) ≡ length xs
    go k l = omega (arith, l, length-drop (0 + k) xs)

-- one argument is written, or none
module _ (N : ℕ) where
  abbrev sized : (ℕ → Option ℕ) → Plain → Type 0
  sized size p = (k n : ℕ) → size k ≡ Some n → HasLength (map.get p.map (at_frame N k)) n

  cells_found : (o : Option Content) (cs : List Cell) → piece_of o ≡ Some cs → cells_in (piece_of o) ≡ cs
  cells_found o cs e = ap cells_in e

  -- a piece of frame N becomes one of the same length
  write_sized : (size : ℕ → Option ℕ) (p : Plain) (k : ℕ) (cs : List Cell) → sized size p
      → ((n : ℕ) → size k ≡ Some n → length cs ≡ n) → sized size (plain.owned p (at_frame N k) cs)
  write_sized size p k cs h long j n e = ⊎_elim
      (λ (i : at_frame N j ≡ at_frame N k). (let same : j ≡ k = ap (λ (q : Spot). q.variable) i in
      record {
        cells = cs;
        piece = ap (λ q. piece_of (map.get (with_own_piece p.map (at_frame N k) cs) q)) i
            ∙ ap piece_of (get_here p.map (at_frame N k) (Own cs));
        long = long n (ap size (sym same) ∙ e);
      }))
      (λ (d : at_frame N j ≢ at_frame N k).
      (let w = h j n e in record {
        cells = w.cells;
        piece = ap piece_of
            (get_other p.map (at_frame N k) (Own cs) (at_frame N j) d) ∙ w.piece;
        long = w.long;
      }))
      (same_or (at_frame N j) (at_frame N k))

  cell_long : (size : ℕ → Option ℕ) (p : Plain) (k : ℕ) (c : Cell) → sized size p → (n : ℕ) → size k ≡ Some n
      → length (slice_set (cells_at plain p (at_frame N k)) 0 c) ≡ n
  cell_long size p k c h n e = let w = h k n e in length-set (cells_at plain p (at_frame N k)) 0 c
      ∙ ap length (cells_found (map.get p.map (at_frame N k)) w.cells w.piece) ∙ w.long

  cells_long : (size : ℕ → Option ℕ) (p : Plain) (k m : ℕ) (ds : List Cell) → sized size p → size k ≡ Some m
      → length ds ≡ m → (n : ℕ) → size k ≡ Some n → length (splice (cells_at plain p (at_frame N k)) 0 ds) ≡ n
  cells_long size p k m ds h at long n e =
      let w = h k n e in
      let is = cells_found (map.get p.map (at_frame N k)) w.cells w.piece in
      let same : m ≡ n = same_Some _ _ (sym at ∙ e) in
      let now : length (cells_at plain p (at_frame N k)) ≡ n = ap length is ∙ w.long in
      overwritten_length (cells_at plain p (at_frame N k)) ds (omega (arith, long, same, now)) ∙ now

  pub filled_sized : (size : ℕ → Option ℕ) (k : ℕ) (fs : List Formal) (es : List Entry) (p : Plain)
      → fit_formals fs es ≡ true → HaveRoom k fs size → sized size p → sized size (with_arguments plain N k es p)
  filled_sized size k [] [] p f r h = h
  filled_sized size k [] (e ∷ es) p f r h = absurd (cc f)
  filled_sized size k (g ∷ fs) [] p f r h = absurd (cc f)
  filled_sized size k (formal.Value n ∷ fs) (Number v ∷ es) p f r h =
      filled_sized size (suc k) fs es (put_cell plain (cell_at N k) (cell.Ordinal v) p)
      (and_parts (n == 1) (fit_formals fs es) f).1 r.1
      (write_sized size p k (slice_set (cells_at plain p (at_frame N k)) 0 (cell.Ordinal v)) h
      (cell_long size p k (cell.Ordinal v) h))
  filled_sized size k (formal.Value n ∷ fs) (Chan c ∷ es) p f r h =
      filled_sized size (suc k) fs es (put_cell plain (cell_at N k) (cell.Channel c) p)
      (and_parts (n == 1) (fit_formals fs es) f).1 r.1
      (write_sized size p k (slice_set (cells_at plain p (at_frame N k)) 0 (cell.Channel c)) h
      (cell_long size p k (cell.Channel c) h))
  filled_sized size k (formal.Value n ∷ fs) (Pointer a ∷ es) p f r h = absurd (cc f)
  filled_sized size k (formal.Value n ∷ fs) (Cells cs ∷ es) p f r h =
      let w = and_parts (length cs == n) (fit_formals fs es) f in
      filled_sized size (suc k) fs es (put_cells plain (cell_at N k) cs p) w.1 r.1
      (write_sized size p k (splice (cells_at plain p (at_frame N k)) 0 cs) h
      (cells_long size p k n cs h r.0 (eqb-true (length cs) n w.0)))
  filled_sized size k (formal.Value n ∷ fs) (Link x ∷ es) p f r h = absurd (cc f)
  filled_sized size k (formal.Value n ∷ fs) (Reply x ∷ es) p f r h = absurd (cc f)
  filled_sized size k (formal.Reference n ∷ fs) (Number v ∷ es) p f r h = absurd (cc f)
  filled_sized size k (formal.Reference n ∷ fs) (Chan c ∷ es) p f r h = absurd (cc f)
  filled_sized size k (formal.Reference n ∷ fs) (Pointer a ∷ es) p f r h = filled_sized size (suc k) fs es p f r h
  filled_sized size k (formal.Reference n ∷ fs) (Cells cs ∷ es) p f r h = absurd (cc f)
  filled_sized size k (formal.Reference n ∷ fs) (Link x ∷ es) p f r h = absurd (cc f)
  filled_sized size k (formal.Reference n ∷ fs) (Reply x ∷ es) p f r h = absurd (cc f)

  -- whatever holds of a store, and of each in which a piece of frame N is written, holds of the filled one
  pub filled_keeps : (P : Plain → Type 0)
      → ((p : Plain) (k : ℕ) (cs : List Cell) → P p → P (plain.owned p (at_frame N k) cs))
      → (k : ℕ) (es : List Entry) (p : Plain) → P p → P (with_arguments plain N k es p)
  filled_keeps P step k [] p h = h
  filled_keeps P step k (Number v ∷ es) p h = filled_keeps P step (suc k) es
      (put_cell plain (cell_at N k) (cell.Ordinal v) p)
      (step p k (slice_set (cells_at plain p (at_frame N k)) 0 (cell.Ordinal v)) h)
  filled_keeps P step k (Chan c ∷ es) p h = filled_keeps P step (suc k) es
      (put_cell plain (cell_at N k) (cell.Channel c) p)
      (step p k (slice_set (cells_at plain p (at_frame N k)) 0 (cell.Channel c)) h)
  filled_keeps P step k (Pointer a ∷ es) p h = filled_keeps P step (suc k) es p h
  filled_keeps P step k (Cells cs ∷ es) p h = filled_keeps P step (suc k) es (put_cells plain (cell_at N k) cs p)
      (step p k (splice (cells_at plain p (at_frame N k)) 0 cs) h)
  filled_keeps P step k (Link x ∷ es) p h = filled_keeps P step (suc k) es p h
  filled_keeps P step k (Reply x ∷ es) p h = filled_keeps P step (suc k) es p h
