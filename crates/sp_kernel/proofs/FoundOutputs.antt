-- The output that is found in the slots is that of a process which is neither out nor gone.
use Rattle.std.proofs.Common.{◌≡◌, ℕ, zero, suc, List, [], ◌∷◌, Option, Some, None, slice_get, refl, sym, ap, ◌∙◌}
use Rattle.std.specs.Prelude.{MatchOption}
use Rattle.std.proofs.lemmas.Option.{none-some, same_Some}
use Rattle.sp_cell.specs.Map.{Plain}
use Rattle.sp_code.specs.PlainStore.{plain}
use Rattle.sp_code.specs.Control.{Out, Gone}
use Rattle.sp_code.specs.System.{store_in}
use Rattle.sp_kernel.specs.declared.slot.Slot.{Slot}
use Rattle.sp_kernel.specs.declared.slot.Slot.TheVariants as slot
use Rattle.sp_kernel.specs.declared.slot.State.{State}
use Rattle.sp_kernel.specs.declared.slot.State.TheVariants as st
use Rattle.sp_machine.specs.declared.state.State.{State as Proc}
use Rattle.sp_kernel.specs.declared.kernel.Kernel.{Kernel}
use Rattle.sp_kernel.specs.Kernels.{doing_in, condition_in}
use Rattle.sp_kernel.specs.Outputs.{output_of_process, output_in_slot, or_rest, first_output}
use Rattle.sp_kernel.specs.Closes.{HeldHere}

store_here : (p : Proc) (s : State) → store_in (condition_in (Some (slot.Here p s))) ≡ Some p.store
store_here p st.Ready = refl
store_here _ _ = refl

not_out : (p : Proc) (s : State) (w : ℕ) → doing_in (Some (slot.Here p s)) ≡ Out w → ⊥
not_out p st.Ready w e = absurd (cc e)
not_out _ _ _ e = absurd (cc e)

not_gone : (p : Proc) (s : State) → doing_in (Some (slot.Here p s)) ≡ Gone → ⊥
not_gone p st.Ready e = absurd (cc e)
not_gone _ _ e = absurd (cc e)

-- an output of one of these, which is here
pub record HoldsOutput (slots : List Slot) (bs : List ℕ) : Type 0 where
  pub process : ℕ
  pub proc : Proc
  pub state : State
  pub slot_is : slice_get slots process ≡ Some (slot.Here proc state)
  pub output : output_of_process proc ≡ Some bs

later : (s : Slot) (ss : List Slot) (bs : List ℕ) → HoldsOutput ss bs → HoldsOutput (s ∷ ss) bs
later s ss bs w = record {
  process = suc w.process;
  proc = w.proc;
  state = w.state;
  slot_is = w.slot_is;
  output = w.output;
}

pub written_is : (slots : List Slot) (bs : List ℕ) → first_output slots ≡ Some bs → HoldsOutput slots bs
written_is [] bs e = absurd (cc e)
written_is (slot.Here p s ∷ ss) bs e = go (output_of_process p) refl e (λ f. written_is ss bs f)
  where
    go : (o : Option (List ℕ)) → output_of_process p ≡ o → or_rest o (first_output ss) ≡ Some bs
        → (first_output ss ≡ Some bs → HoldsOutput ss bs) → HoldsOutput (slot.Here p s ∷ ss) bs
    go (Some cs) is f h = record { process = zero; proc = p; state = s; slot_is = refl; output = is ∙ f }
    go None is f h = later (slot.Here p s) ss bs (h f)
written_is (slot.Out w p ∷ ss) bs e = later (slot.Out w p) ss bs (written_is ss bs e)
written_is (slot.Ended ∷ ss) bs e = later slot.Ended ss bs (written_is ss bs e)
written_is (slot.Gone p ∷ ss) bs e = later (slot.Gone p) ss bs (written_is ss bs e)

pub writes_store : (slots : List Slot) (bs : List ℕ) (w : HoldsOutput slots bs)
    → (store_in (condition_in (slice_get slots w.process)) ≡ Some w.proc.store) × (plain.output w.proc.store ≡ Some bs)
writes_store slots bs w = (ap (λ o. store_in (condition_in o)) w.slot_is ∙ store_here w.proc w.state, w.output)

pub or_rest_none : (o r : Option (List ℕ)) → or_rest o r ≡ None → (o ≡ None) × (r ≡ None)
or_rest_none None r e = (refl, e)
or_rest_none (Some bs) r e = absurd (cc e)

-- who is here does not hold it, where none is found
pub none_writes : (slots : List Slot) → first_output slots ≡ None → (q : ℕ) (m : Plain) (bs : List ℕ)
    → ((w : ℕ) → doing_in (slice_get slots q) ≡ Out w → ⊥) → (doing_in (slice_get slots q) ≡ Gone → ⊥)
    → store_in (condition_in (slice_get slots q)) ≡ Some m → plain.output m ≡ Some bs → ⊥
none_writes [] e q m bs o g h x = absurd (cc h)
none_writes (s ∷ ss) e (suc q) m bs o g h x =
    none_writes ss (or_rest_none (output_in_slot s) (first_output ss) e).1 q m bs o g h x
none_writes (slot.Here p s ∷ ss) e zero m bs o g h x =
    let same : p.store ≡ m = same_Some _ _ (sym (store_here p s) ∙ h) in
    let y : output_of_process p ≡ Some bs = ap (λ (n : Plain). plain.output n) same ∙ x in
    let n : output_of_process p ≡ None = (or_rest_none (output_of_process p) (first_output ss) e).0 in
    none-some bs (sym n ∙ y)
none_writes (slot.Out v p ∷ ss) e zero m bs o g h x = o v refl
none_writes (slot.Ended ∷ ss) e zero m bs o g h x = absurd (cc h)
none_writes (slot.Gone p ∷ ss) e zero m bs o g h x = g refl

-- ---- at the call

pub held : (y : Kernel) (bs : List ℕ) → first_output y.slots ≡ Some bs → HeldHere y bs
held y bs e =
    let w = written_is y.slots bs e in
    let s = writes_store y.slots bs w in (
      w.process,
      w.proc.store,
      (
        (λ v f. not_out w.proc w.state v (ap doing_in (sym w.slot_is) ∙ f)),
        (λ f. not_gone w.proc w.state (ap doing_in (sym w.slot_is) ∙ f)),
      ),
      s.0,
      s.1,
    )

pub not_held : (y : Kernel) → first_output y.slots ≡ None → (bs : List ℕ) → HeldHere y bs → ⊥
not_held y e bs (process, store, (is_out, is_gone), there, written) =
    none_writes y.slots e process store bs is_out is_gone there written

pub matched : {R : Type 0} (f : R → List ℕ) (o : Option R) (N : Type 0) (P : List ℕ → Type 0) (w : Option (List ℕ))
    → MatchOption o (w ≡ None) (λ r. w ≡ Some (f r)) → (w ≡ None → N) → ((bs : List ℕ) → w ≡ Some bs → P bs)
    → MatchOption o N (λ r. P (f r))
matched f None N P w h a b = a h
matched f (Some r) N P w h a b = b (f r) h
