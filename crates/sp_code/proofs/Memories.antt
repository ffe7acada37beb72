-- The memory of a process keeps its number, and cells that speak of channels with a property.
use Rattle.std.proofs.Common.{◌≡◌, ℕ, suc, ◌+◌, List, [], ◌∷◌, ◌++◌, length, Bool, true, false, if◌then◌else◌, refl}
use Rattle.std.proofs.Common.{subst}
use Rattle.std.specs.Prelude.{nat_lt, sum}
use Rattle.std.specs.FinMap as map
use Rattle.sp_base.specs.declared.fault.Fault.{Fault}
use Rattle.sp_base.specs.declared.fault.Fault.TheVariants as fault
use Rattle.sp_cell.specs.declared.cell.Cell.{Cell}
use Rattle.sp_cell.specs.declared.cell.Cell.TheVariants as cell
use Rattle.sp_cell.specs.declared.spot.Address.{Address}
use Rattle.sp_cell.specs.Lists.{part}
use Rattle.sp_cell.specs.Map.{Own, Output, Plain, bytes_of, output_spot}
use Rattle.sp_cell.specs.Frame.{next_frame, last_own_frame}
use Rattle.sp_code.specs.declared.code.Layout.{Layout}
use Rattle.sp_code.specs.Machine.{Entry, Number, Chan, Pointer, Cells, Link, Reply, MemoryResult, Done, Failed}
use Rattle.sp_code.specs.Memory.{CodeRun, Frame, Memory, memory, put_cell, put_cells, cells_at, cell_at, position_at}
use Rattle.sp_code.specs.Memory.{with_arguments, memory_after_call, bytes_in}
use Rattle.sp_code.specs.PlainStore.{plain}
use Rattle.sp_code.specs.Channels.{CellHas, CellsHave, EntriesHave, StoreHas}
use Rattle.sp_code.specs.NamesChannels.{MemoryHas}
use Rattle.sp_code.proofs.Cells.{have_set, have_at, have_part, have_over, insert_has, pieces_has, without_has}
use Rattle.sp_code.proofs.OperationLaws.{HasKeeping, Anywhere}

pub is_done : {M : Type 0} (n m : M) → ◌≡◌ {A = MemoryResult M} (Done n) (Done m) → n ≡ m
is_done n m e = cc

pub not_done : {M : Type 0} (f : Fault) (m : M) → ◌≡◌ {A = MemoryResult M} (Failed f) (Done m) → ⊥
not_done f m e = cc

module _ (g : CodeRun) (C : ℕ → Type 0) (q : ℕ) where
  pub put_has : (a : Address) (c : Cell) (s : Plain) → StoreHas C plain s → CellHas C c
      → StoreHas C plain (put_cell plain a c s)
  put_has a c s h k = insert_has C s.map a.spot _ h (have_set C (cells_at plain s a.spot) a.offset c (h a.spot) k)

  pub puts_has : (a : Address) (cs : List Cell) (s : Plain) → StoreHas C plain s → CellsHave C cs
      → StoreHas C plain (put_cells plain a cs s)
  puts_has a cs s h k = insert_has C s.map a.spot _ h (have_over C (cells_at plain s a.spot) a.offset cs (h a.spot) k)

  filled_has : (n k : ℕ) (es : List Entry) (s : Plain) → StoreHas C plain s → EntriesHave C es
      → StoreHas C plain (with_arguments plain n k es s)
  filled_has n k [] s h e = h
  filled_has n k (Number v ∷ es) s h e = filled_has n (suc k) es _ (put_has (cell_at n k) (cell.Ordinal v) s h tt) e.1
  filled_has n k (Chan c ∷ es) s h e = filled_has n (suc k) es _ (put_has (cell_at n k) (cell.Channel c) s h e.0) e.1
  filled_has n k (Pointer a ∷ es) s h e = filled_has n (suc k) es s h e.1
  filled_has n k (Cells cs ∷ es) s h e = filled_has n (suc k) es _ (puts_has (cell_at n k) cs s h e.0) e.1
  filled_has n k (Link r ∷ es) s h e = filled_has n (suc k) es s h e.1
  filled_has n k (Reply r ∷ es) s h e = filled_has n (suc k) es s h e.1

  opened_has : (l : Layout) (up : ℕ) (es : List Entry) (n : Memory Plain) → MemoryHas C q n → EntriesHave C es
      → MemoryHas C q (memory_after_call plain g l up es n)
  opened_has l up es n h e = (
    h.0,
    filled_has (next_frame n.store) 0 es _
        (pieces_has C n.store.map (next_frame n.store) 0 l.sizes h.1) e,
  )

  opens_has : (l : Layout) (up : ℕ) (es : List Entry) (n m : Memory Plain) → MemoryHas C q n → EntriesHave C es
      → (memory plain g).open_frame l up es n ≡ Done m → MemoryHas C q m
  opens_has l up es n m h e d = go (nat_lt n.ticks g.limits.ticks) (nat_lt n.depth g.limits.depth)
      (nat_lt g.limits.cells (n.cells + sum l.sizes)) d
    where
      go : (a b c : Bool) →
          (if a then (if b then (if c then Failed fault.F12 else Done (memory_after_call plain g l up es n)) else
          Failed fault.F11) else Failed fault.F10) ≡ Done m → MemoryHas C q m
      go true true true d = absurd (not_done fault.F12 m d)
      go true true false d = subst (MemoryHas C q) (is_done _ m d) (opened_has l up es n h e)
      go true false c d = absurd (not_done fault.F11 m d)
      go false b c d = absurd (not_done fault.F10 m d)

  closes_has : (fs : List Frame) (n : Memory Plain) → n.frames ≡ fs → MemoryHas C q n
      → MemoryHas C q ((memory plain g).close_frame n)
  closes_has [] n e h = rw e h
  closes_has (f ∷ fs) n e h = rw e (h.0, without_has C n.store.map (last_own_frame n.store.own) h.1)

  -- bytes read are no channel
  advances_has : (k : ℕ) (n : Memory Plain) → MemoryHas C q n → MemoryHas C q ((memory plain g).advance k n)
  advances_has k n h = (h.0, put_has position_at _ n.store h.1 tt)

  pub keeping : HasKeeping (memory plain g) C (MemoryHas C q) Anywhere
  keeping = record {
    read = λ a n h. have_at C (cells_at plain n.store a.spot) a.offset cell.Undefined (h.1 a.spot) tt;
    cells = λ a k n h. have_part C (cells_at plain n.store a.spot) a.offset k (h.1 a.spot);
    put = λ a c n h w k. (h.0, put_has a c n.store h.1 k);
    read_item = λ a v k bs n h w x. (
      h.0,
      put_has a (cell.Ordinal v) ((memory plain g).advance k n).store
          (advances_has k n h).1 tt,
    );
    advance = λ k bs n h x. advances_has k n h;
    copy = λ to from k n h w. (
      h.0,
      puts_has to (part (cells_at plain n.store from.spot) from.offset k) n.store h.1
          (have_part C (cells_at plain n.store from.spot) from.offset k (h.1 from.spot)),
    );
    make_own = λ a k n h w.
        (h.0, insert_has C n.store.map a.spot (Own (cells_at plain n.store a.spot)) h.1 (h.1 a.spot));
    target = λ a k n h w. tt;
    print = λ t n m h w d. prints t n m h (nat_lt g.limits.output (length (bytes_in (plain.output n.store)) + length t))
        d;
    tick = λ n m h d. ticks_by_one n m h (nat_lt n.ticks g.limits.ticks) d;
    open_frame = λ l up es n m h e d. opens_has l up es n m h e d;
    close_frame = λ n h w. closes_has n.frames n refl h;
  }
    where
      prints : (t : List ℕ) (n m : Memory Plain) → MemoryHas C q n → (b : Bool)
          → (if b then Failed fault.F16 else Done (record n { store = plain.appended n.store t })) ≡ Done m
          → MemoryHas C q m
      prints t n m h true d = absurd (not_done fault.F16 m d)
      prints t n m h false d = subst (MemoryHas C q) (is_done _ m d)
          (h.0, insert_has C n.store.map output_spot (Output (bytes_of (map.get n.store.map output_spot) ++ t)) h.1 tt)

      ticks_by_one : (n m : Memory Plain) → MemoryHas C q n → (b : Bool)
          → (if b then Done (record n { ticks = n.ticks + 1 }) else Failed fault.F10) ≡ Done m → MemoryHas C q m
      ticks_by_one n m h true d = subst (MemoryHas C q) (is_done _ m d) h
      ticks_by_one n m h false d = absurd (not_done fault.F10 m d)
