use Rattle.std.proofs.Common.{rules, ◌≡◌, ◌+◌, ◌-◌, ◌≤◌, ◌++◌, ℕ, List, length, length-append, slice_get, slice_set}
use Rattle.std.proofs.Common.{refl, sym, ap, subst, ◌∙◌, arith}
use Rattle.sp_code.specs.declared.code.Parts.{Parts}
use Rattle.sp_code.specs.PlainStore.{plain}
use Rattle.sp_code.specs.System.{process_at_entry, table_or}
use Rattle.sp_machine.specs.declared.state.State.{State as Proc}
use Rattle.sp_machine.specs.Children.{AreNewborn, plan_by}
use Rattle.sp_kernel.specs.declared.slot.Slot.{Slot}
use Rattle.sp_kernel.specs.declared.slot.Slot.TheVariants as slot
use Rattle.sp_kernel.specs.declared.slot.State.TheVariants as st
use Rattle.sp_kernel.specs.declared.kernel.Kernel.{Kernel}
use Rattle.sp_kernel.specs.Procs.{config_of}
use Rattle.sp_kernel.specs.ListEnds.{repeat}
use Rattle.sp_kernel.specs.Seats.{Seated}
use Rattle.sp_kernel.specs.Forks.{with_room_for, kernel_after_fork}
use Rattle.sp_kernel.proofs.ForkEvents.{length_repeat}
use Rattle.sp_kernel.proofs.kernel.Kernel.fork_now.Goals as goal

fits_in : (x y : Kernel) (p n first children : ℕ) → y ≡ with_room_for p n x → first ≡ length x.slots → children ≡ n
    → first + children ≤ length y.slots
fits_in x y p n first children a f e =
    let all : length y.slots ≡ length x.slots + n = ap (λ (k : Kernel). length k.slots) a
    ∙ length-append x.slots (repeat n slot.Ended) ∙ ap (λ i. length x.slots + i) (length_repeat n slot.Ended) in
    omega (arith, all, f, e)

pub seat-requires-clause-room : goal.seat-requires-clause-room
seat-requires-clause-room c =
    let a : c.admit.new.self ≡ with_room_for c.number-number.result c.args.count c.args.self.now = search rules in
    fits_in c.args.self.now c.admit.new.self c.number-number.result c.args.count c.len-first.result
    (length c.in-Ok.children) a c.len-first.ensures c.in-Ok.ensures.children.0

-- what was done, in order: room, the children's seats, and the parent's place
placed : (x a b y : Kernel) (p q n : ℕ) (slots : List Slot) (r : Proc) → a ≡ with_room_for p n x
    → b ≡ record a { slots = slice_set slots p (slot.Here r (st.Joining n)); out = a.out - 1 } → p ≡ r.number
    → y ≡ record b { entries = b.entries + 1 } → y ≡ kernel_after_fork r n slots x
placed x a b y p q n slots r admits places number is =
    is
    ∙ (λ i. record (places i) { entries = (places i).entries + 1 })
    ∙ (λ i. record (admits i) {
      slots = slice_set slots p (slot.Here r (st.Joining n));
      out = (admits i).out - 1;
      entries = (admits i).entries + 1;
    })
    ∙ (λ i. record (with_room_for (number i) n x)
    { slots = slice_set slots (number i) (slot.Here r (st.Joining n)); out = x.out - 1; entries = x.entries + 1 })

pub returns-in-Ok-clause-ok : goal.returns-in-Ok-clause-ok
returns-in-Ok-clause-ok c =
    let x : Kernel = c.args.self.now in
    let p : Proc = c.args.proc in
    let n : ℕ = c.args.count in
    let a : c.admit.new.self ≡ with_room_for c.number-number.result n x = search rules in
    let code : c.deref.result.now ≡ x.code.value = c.deref.ensures ∙ ap (λ (k : Kernel). k.code.value) a in
    let number : c.enter.new.self.number ≡ p.number = ap (λ (q : Proc). q.number) c.enter.ensures.state
    ∙ ap (λ (q : Proc). q.number) c.in-Ok.ensures.parent in
    record {
      parent = c.enter.new.self;
      hands = (
        c.enter.ensures.config ∙ ap (λ (q : Proc). process_at_entry (config_of q)) c.in-Ok.ensures.parent
            ∙ (λ i. process_at_entry (config_of (record p { store = plain.handed p.store (plan_by (code i) p n) }))),
        number,
        ap (λ (q : Proc). q.input.value) c.enter.ensures.state
            ∙ ap (λ (q : Proc). q.input.value) c.in-Ok.ensures.parent,
      );
      children = c.in-Ok.children;
      born = subst (λ (i : ℕ). AreNewborn x.code.value p (table_or (slice_get x.code.value.forks p.table)) i n
          c.in-Ok.children) c.len-first.ensures
          (subst (λ (k : Parts). AreNewborn k p (table_or (slice_get k.forks p.table)) c.len-first.result n
          c.in-Ok.children) code c.in-Ok.ensures.children);
      slots = c.seat.new.slots;
      seated = subst (λ (i : ℕ). Seated (x.slots ++ repeat n slot.Ended) i c.in-Ok.children c.seat.new.slots)
          c.len-first.ensures
          (subst (λ (l : List Slot). Seated l c.len-first.result c.in-Ok.children c.seat.new.slots)
          (ap (λ (k : Kernel). k.slots) a) c.seat.ensures);
      kernel_is = placed x c.admit.new.self c.place.new.self _ c.number-number.result p.number n c.seat.new.slots
          c.enter.new.self a c.place.ensures (c.number-number.ensures ∙ sym number) refl;
    }
