-- A channel or a message that comes to a process of verified code has room in a variable that the process holds, and
-- leaves it all that it held.
use Rattle.std.proofs.Common.{◌≡◌, ◌≢◌, ℕ, zero, suc, ◌+◌, ◌-◌, ◌≤◌, List, ◌∷◌, ◌++◌, length, take, drop, Option, Some}
use Rattle.std.proofs.Common.{None, refl, sym, ap, ◌∙◌, subst, arith}
use Rattle.std.specs.Prelude.{slice_set}
use Rattle.std.proofs.lemmas.List.{length-append, length-drop, length-take-le, length-set}
use Rattle.std.specs.FinMap as map
use Rattle.std.proofs.lemmas.Option.{same_Some}
use Rattle.sp_cell.specs.declared.cell.Cell.{Cell}
use Rattle.sp_cell.specs.declared.spot.Address.{Address}
use Rattle.sp_cell.proofs.Laws.{known_of_held, piece_of_own}
use Rattle.sp_cell.specs.Lists.{splice}
use Rattle.sp_cell.specs.Map.{Map, Content, Own, Shared, Output, Away, Plain, IsOwn, cells_of, output_spot}
use Rattle.sp_code.specs.Machine.{Config, At}
use Rattle.sp_code.specs.Memory.{CodeRun, Home, Frame, Memory, cells_in, cells_at, put_cell, put_cells}
use Rattle.sp_code.specs.PlainStore.{plain, piece_of}
use Rattle.sp_code.specs.Sound.{CanPut}
use Rattle.sp_code.specs.System.{spot_of, on_store}
use Rattle.sp_code.proofs.StoreLaws.{held_of_cells}
use Rattle.sp_verify_rules.specs.Extents.{extent}
use Rattle.sp_verify_rules.specs.HeldEffects.{Allowed, input_spot}
use Rattle.sp_verify_rules.specs.ProcessLife.{Base, HasConsole, HasActivations, Aims}
use Rattle.sp_verify_rules.proofs.Holdings.{head, holding_set}
use Rattle.sp_verify_rules.proofs.StoreLaws.{keeps_put}

pub overwritten_length : (xs ys : List Cell) (o : ℕ) → o + length ys ≤ length xs
    → length (splice xs o ys) ≡ length xs
overwritten_length xs ys o l =
    length-append (take o xs) (ys ++ drop (o + length ys) xs)
    ∙ ap (λ k. length (take o xs) + k) (length-append ys (drop (o + length ys) xs))
    ∙ sum (length ys) (length (take o xs)) (length (drop (o + length ys) xs)) l (length-take-le o xs (omega (arith, l)))
    (length-drop (o + length ys) xs)
  where
    sum : (k t d : ℕ) → o + k ≤ length xs → t ≡ o → d ≡ length xs - (o + k) → t + (k + d) ≡ length xs
    sum k t d l e f = omega (arith, l, e, f)

module _ (g : CodeRun) {Area : Type 0} (H : Area → List Home) (E : Area → ℕ → Type 0) (T : List Area
    → Config (Memory Plain) → Type 0) (b : Base g H E T) (a : Area) (us : List Area) where
  -- the piece that an address aims at
  pub record Target (fs : List Frame) (m : Map) (p : Address) (n : ℕ) : Type 0 where
    pub cells : List Cell
    pub piece : piece_of (map.get m p.spot) ≡ Some cells
    pub fits : p.offset + n ≤ length cells
    pub clear : HasConsole g H E T b.area → (p.spot ≢ input_spot) × (p.spot ≢ output_spot)

  pub target : (pc : ℕ) (st : List Rattle.sp_code.specs.Machine.Entry) (n : Memory Plain) (p : Address) (k : ℕ)
      → HasActivations g H E T b (a ∷ us) (At pc st n) → Aims g H E T a n.frames p k → Target n.frames n.store.map p k
  target pc st n p k l aims = go aims.variable aims.real aims.effect aims.stands aims.whole
    where
      al : Allowed g.code.layouts (HasConsole g H E T b.area) (E a) l.holding.bound n.frames n.store.map
      al = (head g.code.layouts H E (HasConsole g H E T b.area) l.holding.bound a us n.frames n.store.map
          l.holding.allowed).1

      go : (x : ℕ) → 2 ≤ x → E a x → spot_of g.code.layouts n.frames x ≡ Some p.spot
          → extent g.code.layouts n.frames x ≡ Some aims.size → Target n.frames n.store.map p k
      go zero r e at ext = absurd (omega (arith, r))
      go (suc zero) r e at ext = absurd (omega (arith, r))
      go (suc (suc x)) r e at ext =
          let (there, stands, _, (cs, piece_is, extent_is, _)) = al.held (suc (suc x)) e in
          let same : there ≡ p.spot = same_Some _ _ (sym stands ∙ at) in
          let long : aims.size ≡ length cs = same_Some _ _ (sym ext ∙ extent_is) in
          record {
            cells = cs;
            piece = ap (λ q. piece_of (map.get n.store.map q)) (sym same) ∙ piece_is;
            fits = omega (arith, aims.fits, long);
            clear = λ c. al.clear c (suc (suc x)) p.spot r e at;
          }

  -- with cells of the same number there
  module _ (pc : ℕ) (st : List Rattle.sp_code.specs.Machine.Entry) (n : Memory Plain) (p : Address) (k : ℕ)
      (l : HasActivations g H E T b (a ∷ us) (At pc st n)) (aims : Aims g H E T a n.frames p k) where
    pub t : Target n.frames n.store.map p k
    t = target pc st n p k l aims

    cells_is : cells_at plain n.store p.spot ≡ t.cells
    cells_is = ap cells_in t.piece

    pub lives_with : (cs : List Cell) → length cs ≡ length t.cells
        → HasActivations g H E T b (a ∷ us) (At pc st (record n { store = plain.owned n.store p.spot cs }))
    lives_with cs long = record {
      holding = holding_set g.code.layouts H E (HasConsole g H E T b.area)
          (a ∷ us) n.frames n.depth n.store l.holding p.spot (Own cs)
          (known_of_held (map.get n.store.map p.spot) (held_of_cells (map.get n.store.map p.spot) t.cells t.piece)) tt
          (keeps_put (HasConsole g H E T b.area) l.holding.bound n.store.map p.spot (Own cs) t.clear
          (λ ds e. (cs, refl, long ∙ ap length (same_Some _ _ (sym t.piece ∙ e)))));
      last = l.last;
      moved = l.moved;
    }

    -- a channel
    pub lives_opened : (c : Cell) → HasActivations g H E T b (a ∷ us) (on_store (put_cell plain p c) (At pc st n))
    lives_opened c = lives_with (slice_set (cells_at plain n.store p.spot) p.offset c)
        (length-set (cells_at plain n.store p.spot) p.offset c ∙ ap length cells_is)

    -- a message that has room
    pub lives_received : (cs : List Cell) → length cs ≤ k
        → HasActivations g H E T b (a ∷ us) (on_store (put_cells plain p cs) (At pc st n))
    lives_received cs r = lives_with (splice (cells_at plain n.store p.spot) p.offset cs)
        (overwritten_length (cells_at plain n.store p.spot) cs p.offset room ∙ ap length cells_is)
      where
        room : p.offset + length cs ≤ length (cells_at plain n.store p.spot)
        room = subst (λ (ds : List Cell). p.offset + length cs ≤ length ds) (sym cells_is) (omega (arith, t.fits, r))

    -- where its piece is the process's own it can be put
    pub can_put : (cs : List Cell) → length cs ≤ k → IsOwn (map.get n.store.map p.spot) → CanPut n.store p cs
    can_put cs r own = record {
      own = own;
      in_range =
          (piece_of_own (map.get n.store.map p.spot) own, room (map.get n.store.map p.spot) t.piece);
    }
      where
        cells_there : (o : Option Content) → piece_of o ≡ Some t.cells → cells_of o ≡ t.cells
        cells_there None e = absurd (cc e)
        cells_there (Some (Own ds)) e = same_Some _ _ e
        cells_there (Some (Shared ds)) e = same_Some _ _ e
        cells_there (Some (Output bs)) e = absurd (cc e)
        cells_there (Some Away) e = absurd (cc e)

        room : (o : Option Content) → piece_of o ≡ Some t.cells → p.offset + length cs ≤ length (cells_of o)
        room o e = subst (λ (ds : List Cell). p.offset + length cs ≤ length ds) (sym (cells_there o e))
            (omega (arith, t.fits, r))
