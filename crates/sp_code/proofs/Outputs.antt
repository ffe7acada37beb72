-- What each instruction keeps of the output: who holds it goes on holding it, and nobody else comes to it.
use Rattle.std.proofs.Common.{◌≡◌, ◌≢◌, ◌⊎◌, inl, inr, ℕ, zero, suc, ◌+◌, ◌-◌, ◌<◌, ◌==◌, List, [], ◌∷◌, ◌++◌, length}
use Rattle.std.proofs.Common.{Option, Some, None, Bool, true, false, if◌then◌else◌, refl, sym, ap, ◌∙◌, subst, arith}
use Rattle.std.specs.Prelude.{nat_lt, sum, take, slice_index, replicate, IsSome}
use Rattle.std.specs.FinMap as map
use Rattle.sp_base.specs.declared.fault.Fault.TheVariants as fault
use Rattle.sp_cell.specs.declared.cell.Cell.{Cell}
use Rattle.sp_cell.specs.declared.cell.Cell.TheVariants as cell
use Rattle.sp_cell.specs.declared.spot.Address.{Address}
use Rattle.sp_cell.specs.declared.spot.Spot.{Spot}
use Rattle.sp_cell.specs.Map.{Map, Content, Own, Shared, Output, Away, Plain, IsOutput, IsOwn, bytes_of, output_spot}
use Rattle.sp_cell.specs.Map.{with_map}
use Rattle.sp_cell.specs.Frame.{with_pieces, without_spots_of, next_frame, last_own_frame, with_new_frame}
use Rattle.sp_cell.specs.Frame.{without_newest_frame}
use Rattle.sp_cell.proofs.FrameLaws.{known_below, without_here, without_other}
use Rattle.sp_cell.proofs.Laws.{get_other, get_here, same_or, known_of_away}
use Rattle.sp_code.specs.declared.code.Layout.{Layout}
use Rattle.sp_code.specs.Machine.{Entry, Number, Chan, Pointer, Cells, Link, Reply, Done, Failed}
use Rattle.sp_code.specs.Memory.{CodeRun, Frame, Memory, memory, put_cell, put_cells, cells_at, cell_at, position_at}
use Rattle.sp_code.specs.Memory.{with_arguments, memory_after_call, bytes_in, has_cells}
use Rattle.sp_code.specs.PlainStore.{plain, piece_of}
use Rattle.sp_code.proofs.StoreLaws.{output_held, may_go}
use Rattle.sp_code.specs.Agreement.{EachNumber}
use Rattle.sp_code.specs.Channels.{CellHas, CellsHave}
use Rattle.sp_code.specs.OutputHolder.{Share, HoldsIt, LendsIt, LacksIt, StoreIs, Owned}
use Rattle.sp_code.proofs.Queues.{each_append, number_or}
use Rattle.sp_code.proofs.OperationLaws.{HasKeeping}
use Rattle.sp_code.proofs.Memories.{is_done, not_done}

-- ---- lists

each_take : (P : ℕ → Type 0) (n : ℕ) (xs : List ℕ) → EachNumber P xs → EachNumber P (take n xs)
each_take P zero xs e = tt
each_take P (suc n) [] e = tt
each_take P (suc n) (x ∷ xs) e = (e.0, each_take P n xs e.1)

each_index : (P : ℕ → Type 0) (xs : List ℕ) (i : ℕ) → i < length xs → EachNumber P xs → P (slice_index xs i)
each_index P [] i l e = absurd (omega (arith, l))
each_index P (x ∷ xs) zero l e = e.0
each_index P (x ∷ xs) (suc i) l e = each_index P xs i (omega (arith, l)) e.1

each_newest : (P : ℕ → Type 0) (xs : List ℕ) → xs ≢ [] → EachNumber P xs → P (last_own_frame xs)
each_newest P [] n e = absurd (n refl)
each_newest P (x ∷ xs) n e = each_index P (x ∷ xs) (length (x ∷ xs) - 1) (omega arith) e

-- ---- the spot of the output

spot_frame : (q s : Spot) → q.frame ≢ s.frame → q ≢ s
spot_frame q s n e = n (ap (λ (t : Spot). t.frame) e)

-- a spot at which a process may write
abbrev pub IsApart : Share → Spot → Type 0
IsApart HoldsIt s = output_spot ≢ s
IsApart LendsIt s = output_spot ≢ s
IsApart LacksIt s = Unit {0}

apart_is : (h : Share) (s : Spot) → output_spot ≢ s → IsApart h s
apart_is HoldsIt s n = n
apart_is LendsIt s n = n
apart_is LacksIt s n = tt

pub not_output : (m : Map) (s : Spot) (h : Content) → (IsOutput (map.get m output_spot) → ⊥) → (IsOutput (Some h) → ⊥)
    → IsOutput (map.get (map.insert m s h) output_spot) → ⊥
not_output m s h a b o = go (same_or output_spot s)
  where
    go : (output_spot ≡ s) ⊎ (output_spot ≢ s) → ⊥
    go (inl e) = b (subst IsOutput (get_here m s h) (subst (λ x. IsOutput (map.get (map.insert m s h) x)) e o))
    go (inr n) = a (subst IsOutput (get_other m s h output_spot n) o)

-- an own piece is written there
pub own_is : (h : Share) (p : Plain) (s : Spot) (cs : List Cell) → IsApart h s → StoreIs h p
    → StoreIs h (with_map p (map.insert p.map s (Own cs)))
own_is HoldsIt p s cs a k = (subst IsOutput (sym (get_other p.map s (Own cs) output_spot a)) k.0, k.1)
own_is LendsIt p s cs a k = (get_other p.map s (Own cs) output_spot a ∙ k.0, k.1)
own_is LacksIt p s cs a k = not_output p.map s (Own cs) k (λ o. o)

no_piece : (o : Option Content) (offset k : ℕ) → has_cells (piece_of o) offset k ≡ true → (IsOutput o → ⊥)
    × (o ≢ Some Away)
no_piece None offset k e = absurd cc
no_piece (Some (Own cs)) offset k e = ((λ o. o), λ w. absurd (cc w))
no_piece (Some (Shared cs)) offset k e = ((λ o. o), λ w. absurd (cc w))
no_piece (Some (Output bs)) offset k e = absurd cc
no_piece (Some Away) offset k e = absurd cc

-- where cells are, the output is not
piece_apart : (h : Share) (p : Plain) (a : Address) (k : ℕ) → StoreIs h p
    → has_cells (piece_of (map.get p.map a.spot)) a.offset k ≡ true → IsApart h a.spot
piece_apart HoldsIt p a k s e = λ is. (no_piece (map.get p.map a.spot) a.offset k e).0
    (subst (λ x. IsOutput (map.get p.map x)) is s.0)
piece_apart LendsIt p a k s e = λ is. (no_piece (map.get p.map a.spot) a.offset k e).1
    (subst (λ x. map.get p.map x ≡ Some Away) is s.0)
piece_apart LacksIt p a k s e = tt

own_apart : (o : Option Content) → IsOwn o → (IsOutput o → ⊥) × (o ≢ Some Away)
own_apart None e = absurd e
own_apart (Some (Own cs)) e = ((λ o. o), λ w. absurd (cc w))
own_apart (Some (Shared cs)) e = absurd e
own_apart (Some (Output bs)) e = absurd e
own_apart (Some Away) e = absurd e

-- nor is it where a piece is own
pub target_apart : (h : Share) (p : Plain) (s : Spot) → StoreIs h p → IsOwn (map.get p.map s) → IsApart h s
target_apart HoldsIt p s k e = λ is. (own_apart (map.get p.map s) e).0 (subst (λ x. IsOutput (map.get p.map x)) is k.0)
target_apart LendsIt p s k e = λ is. (own_apart (map.get p.map s) e).1 (subst (λ x. map.get p.map x ≡ Some Away) is k.0)
target_apart LacksIt p s k e = tt

-- ---- frames

pieces_apart : (m : Map) (n v : ℕ) (cs : List ℕ) (q : Spot) → q.frame ≢ n
    → map.get (with_pieces m n v cs) q ≡ map.get m q
pieces_apart m n v [] q d = refl
pieces_apart m n v (c ∷ cs) q d =
    pieces_apart (map.insert m (record { frame = n; variable = v }) (Own (replicate c cell.Undefined))) n (v + 1) cs q d
    ∙ get_other m (record { frame = n; variable = v }) (Own (replicate c cell.Undefined)) q
    (spot_frame q (record { frame = n; variable = v }) d)

pieces_lack : (m : Map) (n v : ℕ) (cs : List ℕ) → (IsOutput (map.get m output_spot) → ⊥)
    → IsOutput (map.get (with_pieces m n v cs) output_spot) → ⊥
pieces_lack m n v [] a = a
pieces_lack m n v (c ∷ cs) a =
    pieces_lack (map.insert m (record { frame = n; variable = v }) (Own (replicate c cell.Undefined))) n (v + 1) cs
    (not_output m (record { frame = n; variable = v }) (Own (replicate c cell.Undefined)) a (λ o. o))

pub output_known : (o : Option Content) → IsOutput o → IsSome o
output_known (Some h) e = refl
output_known None e = absurd e

next_other : (p : Plain) → IsSome (map.get p.map output_spot) → next_frame p ≢ 0
next_other p k e = let w = known_below p.map output_spot k in omega (arith, w, e)

-- the number of a new frame is not the program's
pub next_apart : (h : Share) (p : Plain) (v : ℕ) → StoreIs h p
    → IsApart h (record { frame = next_frame p; variable = v })
next_apart HoldsIt p v k = λ e. next_other p (output_known (map.get p.map output_spot) k.0)
    (sym (ap (λ (t : Spot). t.frame) e))
next_apart LendsIt p v k = λ e. next_other p (known_of_away (map.get p.map output_spot) k.0)
    (sym (ap (λ (t : Spot). t.frame) e))
next_apart LacksIt p v k = tt

pushed_is : (h : Share) (p : Plain) (sizes : List ℕ) → StoreIs h p → StoreIs h (with_new_frame p sizes)
pushed_is HoldsIt p sizes k =
    let n = next_other p (output_known (map.get p.map output_spot) k.0) in (
      subst IsOutput (sym (pieces_apart p.map (next_frame p) 0 sizes output_spot (λ e. n (sym e)))) k.0,
      each_append (λ x. x ≢ 0) p.own (next_frame p ∷ []) k.1 (n, tt),
    )
pushed_is LendsIt p sizes k =
    let n = next_other p (known_of_away (map.get p.map output_spot) k.0) in (
      pieces_apart p.map (next_frame p) 0 sizes output_spot (λ e. n (sym e)) ∙ k.0,
      each_append (λ x. x ≢ 0) p.own (next_frame p ∷ []) k.1 (n, tt),
    )
pushed_is LacksIt p sizes k = pieces_lack p.map (next_frame p) 0 sizes k

popped_is : (h : Share) (p : Plain) → p.own ≢ [] → StoreIs h p → StoreIs h (without_newest_frame p)
popped_is HoldsIt p n k =
    let w = each_newest (λ x. x ≢ 0) p.own n k.1 in (
      subst IsOutput (sym (without_other p.map (last_own_frame p.own) output_spot (λ e. w (sym e)))) k.0,
      each_take (λ x. x ≢ 0) (length p.own - 1) p.own k.1,
    )
popped_is LendsIt p n k =
    let w = each_newest (λ x. x ≢ 0) p.own n k.1 in (
      without_other p.map (last_own_frame p.own) output_spot (λ e. w (sym e)) ∙ k.0,
      each_take (λ x. x ≢ 0) (length p.own - 1) p.own k.1,
    )
popped_is LacksIt p n k = go (number_or 0 (last_own_frame p.own))
  where
    go : (0 ≡ last_own_frame p.own) ⊎ ((0 ≢ last_own_frame p.own) × (0 == last_own_frame p.own ≡ false))
        → IsOutput (map.get (without_spots_of p.map (last_own_frame p.own)) output_spot) → ⊥
    go (inl e) o = subst IsOutput (without_here p.map (last_own_frame p.own) output_spot e) o
    go (inr d) o = k (subst IsOutput (without_other p.map (last_own_frame p.own) output_spot d.0) o)

printed_is : (h : Share) (p : Plain) (bs : List ℕ) → IsOutput (map.get p.map output_spot) → StoreIs h p
    → StoreIs h (with_map p (map.insert p.map output_spot (Output bs)))
printed_is HoldsIt p bs o k = (subst IsOutput (sym (get_here p.map output_spot (Output bs))) tt, k.1)
printed_is LendsIt p bs o k = absurd (subst IsOutput k.0 o)
printed_is LacksIt p bs o k = absurd (k o)

-- ---- the memory

-- a share of the output, and what was moved to the process
abbrev pub Shares : Share → List Spot → Memory Plain → Type 0
Shares h moved n = StoreIs h n.store × (n.store.moved ≡ moved)

abbrev pub AnyChannel : ℕ → Type 0
AnyChannel c = Unit {0}

pub any_cell : (c : Cell) → CellHas AnyChannel c
any_cell cell.Undefined = tt
any_cell (cell.Ordinal v) = tt
any_cell (cell.Channel c) = tt

pub any_cells : (cs : List Cell) → CellsHave AnyChannel cs
any_cells [] = tt
any_cells (c ∷ cs) = (any_cell c, any_cells cs)

module _ (g : CodeRun) (h : Share) (moved : List Spot) where
  abbrev It : Plain → Type 0
  It p = StoreIs h p × (p.moved ≡ moved)

  put_is : (a : Address) (c : Cell) (p : Plain) → IsApart h a.spot → It p → It (put_cell plain a c p)
  put_is a c p n k = (own_is h p a.spot _ n k.0, k.1)

  puts_is : (a : Address) (cs : List Cell) (p : Plain) → IsApart h a.spot → It p → It (put_cells plain a cs p)
  puts_is a cs p n k = (own_is h p a.spot _ n k.0, k.1)

  filled_is : (n k : ℕ) (es : List Entry) (p : Plain) → ((v : ℕ) → IsApart h (record { frame = n; variable = v }))
      → It p → It (with_arguments plain n k es p)
  filled_is n k [] p a i = i
  filled_is n k (Number v ∷ es) p a i = filled_is n (suc k) es _ a (put_is (cell_at n k) (cell.Ordinal v) p (a k) i)
  filled_is n k (Chan c ∷ es) p a i = filled_is n (suc k) es _ a (put_is (cell_at n k) (cell.Channel c) p (a k) i)
  filled_is n k (Pointer x ∷ es) p a i = filled_is n (suc k) es p a i
  filled_is n k (Cells cs ∷ es) p a i = filled_is n (suc k) es _ a (puts_is (cell_at n k) cs p (a k) i)
  filled_is n k (Link r ∷ es) p a i = filled_is n (suc k) es p a i
  filled_is n k (Reply r ∷ es) p a i = filled_is n (suc k) es p a i

  opened_is : (l : Layout) (up : ℕ) (es : List Entry) (n : Memory Plain) → Shares h moved n
      → Shares h moved (memory_after_call plain g l up es n)
  opened_is l up es n k = filled_is (next_frame n.store) 0 es (with_new_frame n.store l.sizes)
      (λ v. next_apart h n.store v k.0)
      (pushed_is h n.store l.sizes k.0, k.1)

  opens_is : (l : Layout) (up : ℕ) (es : List Entry) (n m : Memory Plain) → Shares h moved n
      → (memory plain g).open_frame l up es n ≡ Done m → Shares h moved m
  opens_is l up es n m k d = go (nat_lt n.ticks g.limits.ticks) (nat_lt n.depth g.limits.depth)
      (nat_lt g.limits.cells (n.cells + sum l.sizes)) d
    where
      go : (a b c : Bool) →
          (if a then (if b then (if c then Failed fault.F12 else Done (memory_after_call plain g l up es n)) else
          Failed fault.F11) else Failed fault.F10) ≡ Done m → Shares h moved m
      go true true true d = absurd (not_done fault.F12 m d)
      go true true false d = subst (Shares h moved) (is_done _ m d) (opened_is l up es n k)
      go true false c d = absurd (not_done fault.F11 m d)
      go false b c d = absurd (not_done fault.F10 m d)

  closes_is : (fs : List Frame) (n : Memory Plain) → n.frames ≡ fs → (memory plain g).may_close n ≡ true
      → Shares h moved n → Shares h moved ((memory plain g).close_frame n)
  closes_is [] n e w k = rw e k
  closes_is (f ∷ fs) n e w k = let gone = may_go n.store f.number
      (subst (λ (x : List Frame). Rattle.sp_code.specs.Memory.can_pop plain g x n.store ≡ true) e w) in
      rw e (popped_is h n.store gone.0 k.0, k.1)

  position_apart : IsApart h position_at.spot
  position_apart = apart_is h position_at.spot
      (λ e. let w : 1 ≡ 0 = ap (λ (t : Spot). t.variable) e in omega (arith, w))

  advances_is : (k : ℕ) (n : Memory Plain) → Shares h moved n → Shares h moved ((memory plain g).advance k n)
  advances_is k n i = put_is position_at _ n.store position_apart i

  pub sharing : HasKeeping (memory plain g) AnyChannel (Shares h moved) Owned
  sharing = record {
    read = λ a n k. any_cell ((memory plain g).read a n);
    cells = λ a j n k. any_cells ((memory plain g).cells a j n);
    put = λ a c n k w x. put_is a c n.store (piece_apart h n.store a 1 k.0 w) k;
    read_item = λ a v j bs n k w x. put_is a (cell.Ordinal v) ((memory plain g).advance j n).store
        (piece_apart h n.store a 1 k.0 w) (advances_is j n k);
    advance = λ j bs n k x. advances_is j n k;
    copy = λ to from j n k w. puts_is to _ n.store (piece_apart h n.store to j k.0 w) k;
    make_own = λ a m n k w. (
      own_is h n.store a.spot (cells_at plain n.store a.spot) (piece_apart h n.store a m k.0 w) k.0,
      k.1,
    );
    target = λ a m n k w. subst IsOwn (sym (get_here n.store.map a.spot (Own (cells_at plain n.store a.spot)))) tt;
    print = λ t n m k w d. prints t n m k (output_held n.store.map w)
        (nat_lt g.limits.output (length (bytes_in (plain.output n.store)) + length t)) d;
    tick = λ n m k d. ticks_by_one n m k (nat_lt n.ticks g.limits.ticks) d;
    open_frame = λ l up es n m k e d. opens_is l up es n m k d;
    close_frame = λ n k w. closes_is n.frames n refl w k;
  }
    where
      prints : (t : List ℕ) (n m : Memory Plain) → Shares h moved n → IsOutput (map.get n.store.map output_spot)
          → (b : Bool) → (if b then Failed fault.F16 else Done (record n { store = plain.appended n.store t })) ≡ Done m
          → Shares h moved m
      prints t n m k o true d = absurd (not_done fault.F16 m d)
      prints t n m k o false d = subst (Shares h moved) (is_done _ m d)
          (printed_is h n.store (bytes_of (map.get n.store.map output_spot) ++ t) o k.0, k.1)

      ticks_by_one : (n m : Memory Plain) → Shares h moved n → (b : Bool)
          → (if b then Done (record n { ticks = n.ticks + 1 }) else Failed fault.F10) ≡ Done m → Shares h moved m
      ticks_by_one n m k true d = subst (Shares h moved) (is_done _ m d) k
      ticks_by_one n m k false d = absurd (not_done fault.F10 m d)
