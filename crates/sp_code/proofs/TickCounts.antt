-- The memory of a process has as many ticks left as its limit and its count say.
use Rattle.std.proofs.Common.{◌≡◌, ℕ, ◌+◌, ◌≤◌, List, [], ◌∷◌, Bool, true, false, if◌then◌else◌, refl, sym, ap, arith}
use Rattle.std.specs.Prelude.{nat_lt, length, sum}
use Rattle.std.proofs.lemmas.Bool.{ltb-true}
use Rattle.sp_base.specs.declared.fault.Fault.TheVariants as fault
use Rattle.sp_code.specs.declared.code.Layout.{Layout}
use Rattle.sp_code.specs.Machine.{Entry, MemoryResult, Done, Failed}
use Rattle.sp_code.specs.Memory.{CodeRun, Stores, Frame, Memory, memory, memory_after_call, without_frame, with_store}
use Rattle.sp_code.specs.Memory.{bytes_in}
use Rattle.sp_code.specs.Budgets.{HasBudget, ticks_left}

module _ {S : Type 0} (stores : Stores S) (g : CodeRun) where
  same_done : (n m : Memory S) → ◌≡◌ {A = MemoryResult (Memory S)} (Done n) (Done m) → n ≡ m
  same_done n m e = cc

  -- a memory that has made one more tick
  spent : (n m : Memory S) → nat_lt n.ticks g.limits.ticks ≡ true → m.ticks ≡ n.ticks + 1
      → ticks_left g m + 1 ≤ ticks_left g n
  spent n m e k = let lt = ltb-true n.ticks g.limits.ticks e in omega (arith, lt, k)

  tick_spends : (n m : Memory S) → (memory stores g).tick n ≡ Done m → ticks_left g m + 1 ≤ ticks_left g n
  tick_spends n m = go (nat_lt n.ticks g.limits.ticks) refl
    where
      go : (t : Bool) → nat_lt n.ticks g.limits.ticks ≡ t
          → (if t then Done (record n { ticks = n.ticks + 1 }) else Failed fault.F10) ≡ Done m
          → ticks_left g m + 1 ≤ ticks_left g n
      go true e h = spent n m e (ap (λ (x : Memory S). x.ticks)
          (sym (same_done (record n { ticks = n.ticks + 1 }) m h)))
      go false e h = absurd cc

  open_spends : (l : Layout) (up : ℕ) (es : List Entry) (n m : Memory S)
      → (memory stores g).open_frame l up es n ≡ Done m → ticks_left g m + 1 ≤ ticks_left g n
  open_spends l up es n m = go (nat_lt n.ticks g.limits.ticks) (nat_lt n.depth g.limits.depth)
      (nat_lt g.limits.cells (n.cells + sum l.sizes)) refl
    where
      go : (t d c : Bool) → nat_lt n.ticks g.limits.ticks ≡ t
          → (if t then (if d then (if c then Failed fault.F12 else Done (memory_after_call stores g l up es n)) else
          Failed fault.F11) else Failed fault.F10) ≡ Done m → ticks_left g m + 1 ≤ ticks_left g n
      go true true false e h = spent n m e (ap (λ (x : Memory S). x.ticks)
          (sym (same_done (memory_after_call stores g l up es n) m h)))
      go true true true e h = absurd cc
      go true false c e h = absurd cc
      go false d c e h = absurd cc

  print_keeps : (t : List ℕ) (n m : Memory S) → (memory stores g).print t n ≡ Done m → ticks_left g m ≤ ticks_left g n
  print_keeps t n m = go (nat_lt g.limits.output (length (bytes_in (stores.output n.store)) + length t))
    where
      go : (b : Bool) → (if b then Failed fault.F16 else Done (with_store stores n (stores.appended n.store t)))
          ≡ Done m → ticks_left g m ≤ ticks_left g n
      go true h = absurd cc
      go false h = let k : n.ticks ≡ m.ticks =
          ap (λ (x : Memory S). x.ticks) (same_done (with_store stores n (stores.appended n.store t)) m h) in
          omega (arith, k)

  close_keeps : (fs : List Frame) (n : Memory S) → ticks_left g (without_frame stores g fs n) ≤ ticks_left g n
  close_keeps [] n = omega arith
  close_keeps (f ∷ fs) n = omega arith

  pub spends : HasBudget (memory stores g) (ticks_left g)
  spends = record {
    tick = tick_spends;
    open_frame = open_spends;
    put = λ a c n. omega arith;
    copy = λ to from k n. omega arith;
    advance = λ k n. omega arith;
    print = print_keeps;
    close_frame = λ n. close_keeps n.frames n;
  }
