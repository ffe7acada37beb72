-- Waiters in order of names, read off slot by slot.
use Rattle.std.proofs.Common.{◌≡◌, ℕ, zero, suc, ◌+◌, Bool, List, [], ◌∷◌, ◌++◌, append_assoc, take, Some, slice_get}
use Rattle.std.proofs.Common.{refl, sym, ap, ◌∙◌, arith}
use denote.Ref.{Bor}
use denote.Param.Members.{Mut}
use Rattle.std.specs.Cmp.{IsTotalOrder, IsStrictWeakOrder}
use Rattle.std.specs.Fn.{Called, ComparesAs}
use Rattle.std.specs.List.Sorted.{IsSortedBy, IsSortedByKey}
use Rattle.std.specs.Ordering.{is_lt}
use Rattle.std.specs.declared.cmp.Ordering.{Ordering}
use Rattle.std.proofs.lemmas.Fn.{always_returns_same}
use Rattle.std.proofs.lemmas.List.Sorted.{ranks_by}
use Rattle.std.proofs.lemmas.Option.{same_Some}
use Rattle.sp_journal.specs.Births.{Births}
use Rattle.sp_journal.specs.declared.outcome.Waiter.{Waiter}
use Rattle.sp_kernel.specs.declared.slot.Slot.{Slot}
use Rattle.sp_kernel.specs.declared.slot.Slot.TheVariants as slot
use Rattle.sp_kernel.specs.declared.slot.State.TheVariants as st
use Rattle.sp_kernel.specs.Closes.{with_waiter, waiters_from}

pub sorted_by : {X K : Type 0} {R : K → K → Ordering} (o : IsTotalOrder R) (key : X → K) {F : Type 0}
    {g : Mut F (Bor X × (Bor X × Unit {0})) Ordering} {f : F} (xs : List X)
    → ((lt : X → X → Bool) → IsStrictWeakOrder lt → ComparesAs g lt f → IsSortedBy lt xs)
    → ((a : Bor X × (Bor X × Unit {0})) (r : Ordering) (f' : F) → Called g f a r f'
    → let (first, (second, _)) = a in (r ≡ R (key first.now) (key second.now)) × (f' ≡ f)) → IsSortedByKey key R xs
sorted_by {R = R} o key {g = g} {f = f} xs up h =
    up (λ x y. is_lt (R (key x) (key y))) (ranks_by o key)
    (always_returns_same g (λ (first, (second, _)) r. is_lt r ≡ is_lt (R (key first.now) (key second.now))) f
    (λ a r f' k. (ap is_lt (h a r f' k).0, (h a r f' k).1)))

-- ---- those that wait, slot by slot

with_more : (b : Births) (q : ℕ) (s : Slot) (ws : List Waiter) → with_waiter b q s ws ≡ with_waiter b q s [] ++ ws
with_more b q (slot.Here p (st.Sending c k cs)) ws = refl
with_more b q (slot.Here p (st.Receiving c k)) ws = refl
with_more b q (slot.Here p st.Ready) ws = refl
with_more b q (slot.Here p (st.Joining n)) ws = refl
with_more b q (slot.Here p st.Laid) ws = refl
with_more b q (slot.Here p st.Over) ws = refl
with_more b q (slot.Out w p) ws = refl
with_more b q slot.Ended ws = refl
with_more b q (slot.Gone p) ws = refl

-- one slot more
pub waiters_more : (b : Births) (n : ℕ) (xs : List Slot) (q : ℕ) (x : Slot) → slice_get xs q ≡ Some x
    → waiters_from b n (take (q + 1) xs) ≡ waiters_from b n (take q xs) ++ with_waiter b (n + q) x []
waiters_more b n [] q x e = absurd (cc e)
waiters_more b n (y ∷ ys) zero x e =
    let same : y ≡ x = same_Some _ _ e in
    let one : take (zero + 1) (y ∷ ys) ≡ y ∷ [] = refl in
    let at : n + zero ≡ n = omega arith in
    ap (waiters_from b n) one ∙ ap (λ (s : Slot). with_waiter b n s []) same
    ∙ ap (λ (i : ℕ). with_waiter b i x []) (sym at)
waiters_more b n (y ∷ ys) (suc q) x e =
    let more : take (suc q + 1) (y ∷ ys) ≡ y ∷ take (q + 1) ys = let f : suc q + 1 ≡ suc (q + 1) = omega arith in
    ap (λ i. take i (y ∷ ys)) f in
    let at : suc n + q ≡ n + suc q = omega arith in
    ap (waiters_from b n) more ∙ ap (with_waiter b n y)
    (waiters_more b (suc n) ys q x e ∙ ap (λ i. waiters_from b (suc n) (take q ys) ++ with_waiter b i x []) at)
    ∙ with_more b n y (waiters_from b (suc n) (take q ys) ++ with_waiter b (n + suc q) x [])
    ∙ sym (append_assoc (with_waiter b n y []) (waiters_from b (suc n) (take q ys)) (with_waiter b (n + suc q) x []))
    ∙ ap (λ l. l ++ with_waiter b (n + suc q) x []) (sym (with_more b n y (waiters_from b (suc n) (take q ys))))
