-- Small facts of numbers, spans and cells that the proof of a turn uses.
use Rattle.std.proofs.Common.{◌≡◌, ℕ, ◌+◌, ◌≤◌, ℤ, List, length, Option, Some, None}
use Rattle.std.proofs.Common.{Bool, true, false, if◌then◌else◌, ◌&&◌, refl, sym, ap, ◌∙◌, arith}
use Rattle.std.specs.Prelude.{nat_lt, nat_abs, int_le, ◌-ℤ◌, pos, IsSome, drop}
use Rattle.std.proofs.lemmas.Bool.{le-leb, and_parts}
use Rattle.std.proofs.lemmas.List.{length-drop, length-take-le}
use Rattle.std.proofs.lemmas.Option.{same_Some}
use Rattle.sp_base.specs.declared.fault.Fault.TheVariants as fault
use Rattle.sp_base.proofs.Facts.{not_true_and_false, from_low, to_high}
use Rattle.sp_cell.specs.declared.cell.Cell.{Cell}
use Rattle.sp_cell.specs.declared.spot.Address.{Address}
use Rattle.sp_cell.specs.Lists.{part}
use Rattle.sp_code.specs.declared.code.Layout.{Layout}
use Rattle.sp_code.specs.Machine.{Entry, MemoryResult, Done, Failed}
use Rattle.sp_code.specs.Memory.{CodeRun, Stores, Memory, memory, has_cells, with_store, bytes_in, memory_after_call}
use Rattle.sp_verify_rules.specs.Shapes.{span}
use Rattle.sp_verify_rules.specs.Extents.{HasWhole}
use Rattle.sp_verify_rules.specs.InstructionFacts.{Points}
use Rattle.sp_verify_rules.specs.NameRules.{is_some}

-- what a test found
pub found : {T : Type 0} (o : Option T) → is_some o ≡ true → (x : T) × (o ≡ Some x)
found None e = absurd cc
found (Some x) e = (x, refl)

pub found_some : {T : Type 0} (o : Option T) → IsSome o → (x : T) × (o ≡ Some x)
found_some None e = absurd (cc e)
found_some (Some x) e = (x, refl)

-- the place of an index is in its span
pub in_span : (low high v : ℤ) → (int_le low v && int_le v high) ≡ true → nat_abs (v -ℤ low) + 1 ≤ span low high
in_span low high v e = let b = and_parts (int_le low v) (int_le v high) e in within (int_le low high) refl b.0 b.1
  where
    across : int_le low v ≡ true → int_le v high ≡ true → int_le low high ≡ true
    across x y = Prim.grind (arith, x, y)

    short : (a c : ℤ) → int_le (pos 0) a ≡ true → int_le a c ≡ true → nat_abs a ≤ nat_abs c
    short a c x y = Prim.grind (arith, x, y)

    within : (b : Bool) → int_le low high ≡ b → int_le low v ≡ true → int_le v high ≡ true
        → nat_abs (v -ℤ low) + 1 ≤ (if b then nat_abs (high -ℤ low) + 1 else 0)
    within true h x y = let s = short (v -ℤ low) (high -ℤ low) (from_low low v x) (to_high low v high y) in omega
        (arith, s)
    within false h x y = absurd (not_true_and_false (int_le low high) (across x y) h)

-- so many cells of a piece are so many
pub part_length : (cs : List Cell) (at k : ℕ) → at + k ≤ length cs → length (part cs at k) ≡ k
part_length cs at k h = length-take-le k (drop at cs) (let e = length-drop at cs in omega (arith, e, h))

has_some : (o : Option (List Cell)) (cs : List Cell) (at k : ℕ) → o ≡ Some cs → at + k ≤ length cs
    → has_cells o at k ≡ true
has_some o cs at k e h = rw e (le-leb (at + k) (length cs) h)

module _ {S : Type 0} (stores : Stores S) (ls : List Layout) (n : Memory S) (x left : ℕ) (q : Address)
    (pt : Points ls n.frames x left q) (w : HasWhole stores ls n x) where
  pub here : stores.piece n.store q.spot ≡ Some w.cells
  here = let e : q.spot ≡ w.spot = same_Some q.spot w.spot (sym pt.stands ∙ w.stands) in rw e w.piece

  pub size_here : pt.size ≡ length w.cells
  size_here = same_Some pt.size (length w.cells) (sym pt.whole ∙ w.whole)

  -- what is held whole has the cells left of an address in it
  pub reaches : (k : ℕ) → k ≤ left → q.offset + k ≤ length w.cells
  reaches k h = let f = pt.fits in let s = size_here in omega (arith, f, s, h)

  pub has_left : (k : ℕ) → k ≤ left → has_cells (stores.piece n.store q.spot) q.offset k ≡ true
  has_left k h = has_some (stores.piece n.store q.spot) w.cells q.offset k here (reaches k h)

module _ {S : Type 0} (stores : Stores S) (g : CodeRun) where
  same_done : (n m : Memory S) → ◌≡◌ {A = MemoryResult (Memory S)} (Done n) (Done m) → n ≡ m
  same_done n m e = cc

  pub tick_is : (n m : Memory S) → (memory stores g).tick n ≡ Done m → m ≡ record n { ticks = n.ticks + 1 }
  tick_is n m = go (nat_lt n.ticks g.limits.ticks)
    where
      go : (t : Bool) → (if t then Done (record n { ticks = n.ticks + 1 }) else Failed fault.F10) ≡ Done m
          → m ≡ record n { ticks = n.ticks + 1 }
      go true h = sym (same_done (record n { ticks = n.ticks + 1 }) m h)
      go false h = absurd cc

  pub print_is : (t : List ℕ) (n m : Memory S) → (memory stores g).print t n ≡ Done m
      → m ≡ with_store stores n (stores.appended n.store t)
  print_is t n m = go (nat_lt g.limits.output (length (bytes_in (stores.output n.store)) + length t))
    where
      go : (b : Bool) → (if b then Failed fault.F16 else Done
          (with_store stores n (stores.appended n.store t))) ≡ Done m
          → m ≡ with_store stores n (stores.appended n.store t)
      go true h = absurd cc
      go false h = sym (same_done (with_store stores n (stores.appended n.store t)) m h)

  pub beat_frames : (n m : Memory S) → (memory stores g).tick n ≡ Done m → m.frames ≡ n.frames
  beat_frames n m = go (nat_lt n.ticks g.limits.ticks)
    where
      go : (t : Bool) → (if t then Done (record n { ticks = n.ticks + 1 }) else Failed fault.F10) ≡ Done m
          → m.frames ≡ n.frames
      go true h = ap (λ (x : Memory S). x.frames) (sym (same_done (record n { ticks = n.ticks + 1 }) m h))
      go false h = absurd cc

  pub print_frames : (t : List ℕ) (n m : Memory S) → (memory stores g).print t n ≡ Done m → m.frames ≡ n.frames
  print_frames t n m = go (nat_lt g.limits.output (length (bytes_in (stores.output n.store)) + length t))
    where
      go : (b : Bool) → (if b then Failed fault.F16 else Done
          (with_store stores n (stores.appended n.store t))) ≡ Done m → m.frames ≡ n.frames
      go true h = absurd cc
      go false h = ap (λ (x : Memory S). x.frames)
          (sym (same_done (with_store stores n (stores.appended n.store t)) m h))

  pub opened_is : (l : Layout) (up : ℕ) (es : List Entry) (n m : Memory S)
      → (memory stores g).open_frame l up es n ≡ Done m → m ≡ memory_after_call stores g l up es n
  opened_is l up es n m = go (nat_lt n.ticks g.limits.ticks) (nat_lt n.depth g.limits.depth)
      (nat_lt g.limits.cells (n.cells + Rattle.std.specs.Prelude.sum l.sizes))
    where
      go : (t d c : Bool) → (if t then
          (if d then (if c then Failed fault.F12 else Done
          (memory_after_call stores g l up es n)) else Failed fault.F11) else Failed fault.F10) ≡ Done m
          → m ≡ memory_after_call stores g l up es n
      go true true false h = sym (same_done (memory_after_call stores g l up es n) m h)
      go true true true h = absurd cc
      go true false c h = absurd cc
      go false d c h = absurd cc

  pub opened_deep : (l : Layout) (up : ℕ) (es : List Entry) (n m : Memory S)
      → (memory stores g).open_frame l up es n ≡ Done m → nat_lt n.depth g.limits.depth ≡ true
  opened_deep l up es n m = go (nat_lt n.ticks g.limits.ticks) (nat_lt n.depth g.limits.depth)
      (nat_lt g.limits.cells (n.cells + Rattle.std.specs.Prelude.sum l.sizes))
    where
      go : (t d c : Bool) → (if t then
          (if d then (if c then Failed fault.F12 else Done
          (memory_after_call stores g l up es n)) else Failed fault.F11) else Failed fault.F10) ≡ Done m → d ≡ true
      go true true c h = refl
      go true false c h = absurd cc
      go false d c h = absurd cc
