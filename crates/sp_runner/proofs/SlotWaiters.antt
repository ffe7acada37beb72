-- Who waits in the slots of the kernel is who waits in the system.
use Rattle.std.proofs.Common.{◌≡◌, ℕ, zero, suc, ◌+◌, List, [], ◌∷◌, ◌++◌, length, Some, slice_get, refl, sym, ap, ◌∙◌}
use Rattle.std.proofs.Common.{arith}
use Rattle.sp_cell.specs.Map.{Plain}
use Rattle.sp_journal.specs.declared.outcome.Waiter.{Waiter}
use Rattle.sp_journal.specs.Births.{Births}
use Rattle.sp_journal.specs.Queue.{numbers}
use Rattle.sp_code.specs.System.{Condition}
use Rattle.sp_kernel.specs.declared.slot.Slot.{Slot}
use Rattle.sp_kernel.specs.declared.slot.Slot.TheVariants as slot
use Rattle.sp_kernel.specs.declared.slot.State.TheVariants as st
use Rattle.sp_kernel.specs.Kernels.{condition_in}
use Rattle.sp_kernel.specs.Closes.{with_waiter, waiters_from}
use Rattle.sp_runner.specs.Ends.{offer_in, waiter_list, waiters_among}

one_waits : (b : Births) (q : ℕ) (s : Slot) (ws : List Waiter)
    → with_waiter b q s ws ≡ waiter_list b q (offer_in (condition_in (Some s))) ++ ws
one_waits b q (slot.Here p (st.Sending c k cs)) ws = refl
one_waits b q (slot.Here p (st.Receiving c k)) ws = refl
one_waits b q (slot.Here p st.Ready) ws = refl
one_waits b q (slot.Here p (st.Joining n)) ws = refl
one_waits b q (slot.Here p st.Laid) ws = refl
one_waits b q (slot.Here p st.Over) ws = refl
one_waits b q (slot.Out w p) ws = refl
one_waits b q slot.Ended ws = refl
one_waits b q (slot.Gone p) ws = refl

-- the slots are those of process q and of the following ones
pub all_wait : (b : Births) (condition : ℕ → Condition Plain) (q : ℕ) (slots : List Slot)
    → ((k : ℕ) → condition (q + k) ≡ condition_in (slice_get slots k))
    → waiters_from b q slots ≡ waiters_among b condition (numbers q (length slots))
all_wait b condition q [] same = refl
all_wait b condition q (s ∷ ss) same =
    one_waits b q s (waiters_from b (suc q) ss)
    ∙ ap (λ c. waiter_list b q (offer_in c) ++ waiters_from b (suc q) ss) (sym (ap condition here ∙ same zero))
    ∙ ap (λ ws. waiter_list b q (offer_in (condition q))
    ++ ws) (all_wait b condition (suc q) ss (λ k. ap condition (next k) ∙ same (suc k)))
  where
    here : q ≡ q + zero
    here = omega arith

    next : (k : ℕ) → suc q + k ≡ q + suc k
    next k = omega arith
