-- What stands once all workers have left: one seat that has left tells that the run is over.
use Rattle.std.proofs.Common.{◌≡◌, ◌⊎◌, inl, inr, ◌+◌, ℕ, length, slice_get, ◌<◌, ◌≤◌, false, List}
use Rattle.std.proofs.Common.{[], ◌∷◌, ◌++◌, Option, Some, None, refl, sym, ap, ◌∙◌, subst, arith}
use Rattle.sp_journal.specs.declared.entry.Note.{Note}
use Rattle.sp_journal.specs.declared.entry.Event.{Event}
use Rattle.sp_code.specs.Memory.{CodeRun, Stores}
use Rattle.sp_code.specs.PlainStore.{plain}
use Rattle.sp_code.specs.Control.{Control, control_at_start, control, after_note, after_notes, after_give, takes}
use Rattle.sp_code.specs.Control.{entries_of}
use Rattle.sp_code.specs.System.{System, opening_system}
use Rattle.sp_code.specs.Agreement.{IsOrderly, AgreesWithSystem, Reaches, HasOuts, IsOver}
use Rattle.sp_code.proofs.ControlAgreement.{agrees_start, orderly_start}
use Rattle.sp_code.proofs.Legal.{keeps, reaches_keeps, reaches_front, noted_more}
use Rattle.sp_code.proofs.Outs.{outs_start, outs_by, outs_all, over_by}
use Rattle.sp_machine.specs.declared.state.State.{State as Proc}
use Rattle.sp_room.specs.History.{LeadsTo, StartsWith}
use Rattle.sp_room.specs.RoomRule.{Called, Declined}
use Rattle.sp_room.specs.declared.view.View.{View}
use Rattle.sp_kernel.specs.declared.kernel.Kernel.{Kernel}
use Rattle.sp_kernel.specs.declared.ask.Ask.{Ask}
use Rattle.sp_kernel.specs.declared.ask.Ask.TheVariants as ask
use Rattle.sp_kernel.specs.declared.ask.Got.{Got}
use Rattle.sp_kernel.specs.declared.ask.Got.TheVariants as got
use Rattle.sp_kernel.specs.Kernels.{control_of, system_of, code_run_of}
use Rattle.sp_kernel.specs.Asks.{IsOpening, KernelSteps, GotMatchesNote, is_abandon, refusal}
use Rattle.sp_kernel.specs.Closes.{RanTo}
use Rattle.sp_kernel.specs.KernelLaws.{from_start, control_is, after_log}
use Rattle.sp_kernel.proofs.NoteSteps.{back_abandons, taken_abandons}
use Rattle.sp_runner.specs.Works.{LeftAfter}

-- ---- a worker that leaves

module _ (x : Kernel) (fine : IsOpening x) (v w : View Kernel Note) (a : Ask) where
  -- who is told that it is finished sees the run over
  pub finished : Called KernelSteps x v a got.Finished w
      ⊎ ((is_abandon a ≡ false) × Declined KernelSteps refusal x v a got.Finished w) → LeftAfter w.seen
  finished (inl c) = inl (subst IsOver (control_is x fine w.seen c.left c.legal_after) (go c.note a c.answer))
    where
      told : (o : Option ℕ) → GotMatchesNote c.left got.Finished o → IsOver (control_of c.left)
      told None t = t
      told (Some q) t = absurd t

      go : (o : Option Note) (b : Ask) → KernelSteps c.met v.number b c.left got.Finished o → IsOver (control_of c.left)
      go None (ask.Turn None) s = subst (λ (y : Kernel). IsOver (control_of y)) (sym s.0) s.1
      go None (ask.Turn (Some h)) s = absurd (cc (s.1))
      go None (ask.Abandon q) s = absurd s.1
      go (Some n) b s = told n.got s.answer
  finished (inr d) = go a d.1.answer
    where
      go : (b : Ask) → refusal b got.Finished → LeftAfter w.seen
      go (ask.Turn h) e = absurd (cc e)
      go (ask.Abandon q) e = absurd e

abandons_more : (n : Note) (k : Control) → n.event ≡ None → n.got ≡ None → (after_note n k).abandons ≡ k.abandons + 1
abandons_more n k e g = subst (λ (z : Option Event
    × Option ℕ). (takes n.worker z.1 (after_give n.given z.0 z.1 k)).abandons ≡ k.abandons + 1)
    (λ i. (sym e i, sym g i))
    (by n.given)
  where
    by : (p : Option ℕ) → (takes n.worker None (after_give p None None k)).abandons ≡ k.abandons + 1
    by None = refl
    by (Some p) = refl

-- who gives up sees that it did
pub gave_up : (x : Kernel) (fine : IsOpening x) (v w : View Kernel Note) (p : Option Proc) (r : Got)
    → Called KernelSteps x v (ask.Abandon p) r w
    ⊎ ((is_abandon (ask.Abandon p) ≡ false) × Declined KernelSteps refusal x v (ask.Abandon p) r w) → LeftAfter w.seen
gave_up x fine v w p r (inl c) = inr
    (subst (λ (k : Control). 0 < k.abandons) (control_is x fine w.seen c.left c.legal_after) (go c.note c.answer))
  where
    go : (o : Option Note) → KernelSteps c.met v.number (ask.Abandon p) c.left r o → 0 < (control_of c.left).abandons
    go None s = absurd s.1
    go (Some n) s = let e : (control_of c.left).abandons ≡ (control_of c.met).abandons + 1 = ap
        (λ (k : Control). k.abandons) s.control
        ∙ abandons_more n (control_of c.met) s.gives_up.0 s.gives_up.1 in omega (arith, e)
gave_up x fine v w p r (inr d) = absurd (cc (d.0))

-- ---- what all notes leave

abandons_grow : (n : Note) (k : Control) → k.abandons ≤ (after_note n k).abandons
abandons_grow n k = let e : (after_note n k).abandons ≡
    (after_give n.given n.event n.got k).abandons = taken_abandons n.worker n.got _ in
    let f = by n.given n.event n.got in
    omega (arith, e, f)
  where
    by : (p : Option ℕ) (e : Option Event) (q : Option ℕ) → k.abandons ≤ (after_give p e q k).abandons
    by (Some p) (Some e) q = let b : _ ≡ k.abandons = back_abandons p e k in omega (arith, b)
    by None (Some e) q = omega arith
    by None None None = omega arith
    by (Some p) None None = omega arith
    by None None (Some q) = omega arith
    by (Some p) None (Some q) = omega arith

abandons_all : (ns : List Note) (k : Control) → k.abandons ≤ (after_notes ns k).abandons
abandons_all [] k = omega arith
abandons_all (n ∷ ns) k = let a = abandons_grow n k in let b = abandons_all ns (after_note n k) in omega (arith, a, b)

over_stays : {S : Type 0} (stores : Stores S) (g : CodeRun) (k : Control) (s t : System S) (ns : List Note)
    → IsOrderly k → AgreesWithSystem k s → HasOuts k → IsOver k → Reaches stores g k s ns t → IsOver (after_notes ns k)
over_stays stores g k s t [] h a o v r = v
over_stays stores g k s t (n ∷ ns) h a o v r =
    let m = keeps stores g k s r.0 n h a r.1 in
    let b = over_by stores g n.worker n.given n.event n.got k s r.0 o v r.1.gives r.1.gets in
    over_stays stores g (after_note n k) r.0 t ns m.0 m.1
    (outs_by stores g n.worker n.given n.event n.got k s r.0 h o r.1.gives r.1.gets) b.1 r.2

-- once one seat has left, and no worker gave up, the run is over
pub ran_to : (x : Kernel) (fine : IsOpening x) (log : List Note) (y : Kernel) → LeadsTo KernelSteps x log y
    → (seen : List Note)
    → StartsWith log seen → LeftAfter seen → y.abandons ≡ 0 → RanTo x log y
ran_to x fine log y told seen starts left kept = record {
  legal = told;
  over = go left;
  journal = (after_log x fine log y told).journal ∙ ap (λ l. l ++ entries_of log) fine.journal;
}
  where
    same : control_of y ≡ after_notes starts.0 (control seen)
    same = control_is x fine log y told ∙ (ap control starts.1 ∙ noted_more control_at_start seen starts.0)

    go : LeftAfter seen → IsOver (control_of y)
    go (inl v) =
        let g = code_run_of x in let at = opening_system plain g in
        let f = reaches_front plain g control_at_start at (system_of y) seen starts.0
        (subst (λ (l : List Note). Reaches plain g control_at_start at l (system_of y)) starts.1
        (from_start x fine log y told)) in
        let h = reaches_keeps plain g control_at_start at f.0 seen orderly_start (agrees_start plain g) f.1 in
        let o = outs_all plain g control_at_start at f.0 seen orderly_start (agrees_start plain g) outs_start f.1 in
        subst IsOver (sym same) (over_stays plain g (control seen) f.0 (system_of y) starts.0 h.0 h.1 o v f.2)
    go (inr some) = absurd (let e : y.abandons ≡ (after_notes starts.0 (control seen)).abandons = ap
        (λ (k : Control). k.abandons) same in let m = abandons_all starts.0 (control seen) in omega
        (arith, e, m, some, kept))

pub first_of : {X : Type 0} (l : List X) → 0 < length l → (t : X) × (slice_get l 0 ≡ Some t)
first_of [] h = absurd (omega (arith, h))
first_of (x ∷ xs) h = (x, refl)
