-- What sending and receiving share: an offer that waits, and one that meets another.
use Rattle.std.proofs.Common.{◌≡◌, ◌≢◌, ◌⊎◌, ℕ, ◌<◌, ◌==◌, inl, inr, false, length, Option, Some, None, slice_get}
use Rattle.std.proofs.Common.{slice_set, refl, sym, ap, ◌∙◌, subst, List}
use Rattle.std.proofs.lemmas.List.{length-set}
use Rattle.std.proofs.lemmas.Option.{slice_get_within, same_Some}
use Rattle.sp_base.proofs.Facts.{get_beside_set, get_where_set}
use Rattle.sp_journal.specs.Maps.{at_key}
use Rattle.sp_channel.specs.declared.channels.Pending.{Pending}
use Rattle.sp_code.specs.Control.{Out}
use Rattle.sp_machine.specs.declared.state.State.{State as Proc}
use Rattle.sp_kernel.specs.declared.kernel.Kernel.{Kernel}
use Rattle.sp_kernel.specs.declared.slot.Slot.{Slot}
use Rattle.sp_kernel.specs.declared.slot.Slot.TheVariants as slot
use Rattle.sp_kernel.specs.declared.slot.State.TheVariants as st
use Rattle.sp_kernel.specs.Kernels.{control_of, code_run_of, WaitsAs, IsOwn, NumberIn, IsKernel}
use Rattle.sp_code.proofs.Queues.{number_or}
use Rattle.sp_kernel.proofs.Tables.{table_set}
use Rattle.sp_kernel.proofs.KernelEvents.{there, no_waiter}

pub waiter_there : (x : Kernel) (k : IsKernel x) (c : ℕ) (q : Pending) → slice_get x.channels c ≡ Some (Some q)
    → q.process < length x.slots
waiter_there x k c q e = go (slice_get x.slots q.process) refl (k.offers c q e)
  where
    go : (o : Option Slot) → slice_get x.slots q.process ≡ o → WaitsAs o c q → q.process < length x.slots
    go None s f = absurd f
    go (Some t) s f = slice_get_within x.slots q.process t s

-- one slot waits on one channel
one_channel : (s : Option Slot) (c d : ℕ) (a b : Pending) → WaitsAs s c a → WaitsAs s d b → c ≡ d
one_channel None c d a b e f = absurd e
one_channel (Some (slot.Here q st.Ready)) c d a b e f = absurd e
one_channel (Some (slot.Out v q)) c d a b e f = absurd e
one_channel (Some (slot.Here q (st.Sending n i bs))) c d a b e f = sym e.0 ∙ f.0
one_channel (Some (slot.Here q (st.Receiving n i))) c d a b e f = sym e.0 ∙ f.0
one_channel (Some (slot.Here q (st.Joining n))) c d a b e f = absurd e
one_channel (Some (slot.Here q st.Laid)) c d a b e f = absurd e
one_channel (Some slot.Ended) c d a b e f = absurd e
one_channel (Some (slot.Here q st.Over)) c d a b e f = absurd e
one_channel (Some (slot.Gone q)) c d a b e f = absurd e

module _ (x : Kernel) (k : IsKernel x) (p w : ℕ) (here : (control_of x).doing p ≡ Out w) (c : ℕ) where
  -- p waits with its offer on a channel where nothing was pending: each offer still has one who waits
  pub offers_with : (offer : Pending) (s : Slot) → offer.process ≡ p → WaitsAs (Some s) c offer
      → slice_get x.channels c ≡ Some None → (d : ℕ) (o : Pending)
      → slice_get (slice_set x.channels c (Some offer)) d ≡ Some (Some o)
      → WaitsAs (slice_get (slice_set x.slots p s) o.process) d o
  offers_with offer s own waits free d o e = go (number_or c d)
    where
      go : (c ≡ d) ⊎ ((c ≢ d) × (c == d ≡ false)) → WaitsAs (slice_get (slice_set x.slots p s) o.process) d o
      go (inl f) =
          let at : slice_get (slice_set x.channels c (Some offer)) d ≡ Some (Some offer) =
          subst (λ n. slice_get (slice_set x.channels c (Some offer)) n ≡ Some (Some offer)) f
          (get_where_set x.channels c (Some offer) (slice_get_within x.channels c None free)) in
          let same : offer ≡ o = same_Some _ _ (same_Some _ _ (sym at ∙ e)) in
          subst (λ (q : Pending). WaitsAs (slice_get (slice_set x.slots p s) q.process) d q) same
          (subst (λ n. WaitsAs (slice_get (slice_set x.slots p s) n) d offer) (sym own)
          (subst (λ y. WaitsAs y d offer) (sym (get_where_set x.slots p s (there x k p w here)))
          (subst (λ n. WaitsAs (Some s) n offer) f waits)))
      go (inr f) =
          let old : slice_get x.channels d ≡ Some (Some o) = sym (get_beside_set x.channels c d _ f.0) ∙ e in
          subst (λ y. WaitsAs y d o) (sym (get_beside_set x.slots p o.process _
          (λ q. no_waiter x k p w here d o old (sym q)))) (k.offers d o old)

  -- p meets who waits on the channel: both are ready
  module _ (q : Pending) (pending : slice_get x.channels c ≡ Some (Some q)) (t r : Proc) where
    abbrev z : ℕ
    z = q.process

    abbrev with_other : List Slot
    with_other = slice_set x.slots z (slot.Here t st.Ready)

    abbrev with_both : List Slot
    with_both = slice_set with_other p (slot.Here r st.Ready)

    p_there : p < length with_other
    p_there = subst (λ n. p < n) (sym (length-set x.slots z (slot.Here t st.Ready))) (there x k p w here)

    pub both_set : {X : Type 0} (f : Option Slot → X)
        → ◌≡◌ {A = ℕ → X} (λ y. f (slice_get with_both y)) (at_key ◌==◌ p (f (Some (slot.Here r st.Ready)))
        (at_key ◌==◌ z (f (Some (slot.Here t st.Ready))) (λ y. f (slice_get x.slots y))))
    both_set f = table_set f with_other p (slot.Here r st.Ready) p_there
        ∙ ap (λ n. at_key ◌==◌ p (f (Some (slot.Here r st.Ready))) n)
        (table_set f x.slots z (slot.Here t st.Ready) (waiter_there x k c q pending))

    pub met_offers : (d : ℕ) (o : Pending) → slice_get (slice_set x.channels c None) d ≡ Some (Some o)
        → WaitsAs (slice_get with_both o.process) d o
    met_offers d o e = go (number_or c d)
      where
        go : (c ≡ d) ⊎ ((c ≢ d) × (c == d ≡ false)) → WaitsAs (slice_get with_both o.process) d o
        go (inl f) =
            let at : slice_get (slice_set x.channels c None) d ≡ Some None =
            subst (λ n. slice_get (slice_set x.channels c None) n ≡ Some None) f
            (get_where_set x.channels c None (slice_get_within x.channels c _ pending)) in
            absurd (cc (at, e))
        go (inr f) =
            let old : slice_get x.channels d ≡ Some (Some o) = sym (get_beside_set x.channels c d None f.0) ∙ e in
            let not_z : z ≢ o.process = λ y. f.0
            (one_channel (slice_get x.slots z) c d q o (k.offers c q pending)
            (subst (λ n. WaitsAs (slice_get x.slots n) d o) (sym y) (k.offers d o old))) in
            subst (λ s. WaitsAs s d o) (sym (get_beside_set with_other p o.process (slot.Here r st.Ready)
            (λ y. no_waiter x k p w here d o old (sym y))
            ∙ get_beside_set x.slots z o.process (slot.Here t st.Ready) not_z)) (k.offers d o old)

    pub met_numbers : IsOwn (code_run_of x).input t z → IsOwn (code_run_of x).input r p → (y : ℕ)
        → NumberIn (code_run_of x).input (slice_get with_both y) y
    met_numbers theirs its y = go (number_or p y) (number_or z y)
      where
        go : (p ≡ y) ⊎ ((p ≢ y) × (p == y ≡ false)) → (z ≡ y) ⊎ ((z ≢ y) × (z == y ≡ false))
            → NumberIn (code_run_of x).input (slice_get with_both y) y
        go (inl is) o = subst (λ i. NumberIn (code_run_of x).input (slice_get with_both i) i) is
            (subst (λ s. NumberIn (code_run_of x).input s p)
            (sym (get_where_set with_other p (slot.Here r st.Ready) p_there)) its)
        go (inr n) (inl is) = subst (λ s. NumberIn (code_run_of x).input s y)
            (sym (get_beside_set with_other p y (slot.Here r st.Ready) n.0))
            (subst (λ i. NumberIn (code_run_of x).input (slice_get with_other i) i) is
            (subst (λ s. NumberIn (code_run_of x).input s z)
            (sym (get_where_set x.slots z (slot.Here t st.Ready) (waiter_there x k c q pending))) theirs))
        go (inr n) (inr o) = subst (λ s. NumberIn (code_run_of x).input s y)
            (sym (get_beside_set with_other p y (slot.Here r st.Ready) n.0
            ∙ get_beside_set x.slots z y (slot.Here t st.Ready) o.0)) (k.numbers y)
