-- What stands once a run is over: no process is out, and where no worker gave up none is gone.
use Rattle.std.proofs.Common.{◌≡◌, ◌≢◌, ◌⊎◌, ◌-◌, ℕ, ◌<◌, ◌==◌, if◌then◌else◌, cond, Bool, true, false, inl}
use Rattle.std.proofs.Common.{inr, List, [], ◌∷◌, Option, Some, None, refl, sym, ◌∙◌, subst, arith}
use Rattle.sp_journal.specs.declared.entry.Way.{Way}
use Rattle.sp_journal.specs.declared.entry.Way.TheVariants as way
use Rattle.sp_journal.specs.declared.entry.Event.{Event}
use Rattle.sp_journal.specs.declared.entry.Event.TheVariants as event
use Rattle.sp_journal.specs.declared.entry.Birth.{Birth}
use Rattle.sp_journal.specs.declared.entry.Note.{Note}
use Rattle.sp_journal.specs.Maps.{at_key}
use Rattle.sp_journal.specs.Births.{is_next}
use Rattle.sp_code.specs.PlainStore.{plain}
use Rattle.sp_code.specs.Control.{Control, Doing, Unborn, Ready, Out, Sending, Receiving, Joining, Laid, Ended, Gone}
use Rattle.sp_code.specs.Control.{control_at_start, after_note, after_notes, after_give, takes, comes_back, does}
use Rattle.sp_code.specs.Control.{queues, offers}
use Rattle.sp_code.specs.Control.{one_fewer, reports}
use Rattle.sp_code.specs.System.{opening_system}
use Rattle.sp_kernel.specs.declared.kernel.Kernel.{Kernel}
use Rattle.sp_kernel.specs.Kernels.{control_of, system_of, code_run_of}
use Rattle.sp_kernel.specs.Asks.{IsOpening}
use Rattle.sp_kernel.specs.Closes.{RanTo}
use Rattle.sp_code.proofs.ControlAgreement.{agrees_start, orderly_start}
use Rattle.sp_code.proofs.Queues.{number_or, at_same, at_other, among_none}
use Rattle.sp_code.specs.Agreement.{HasOuts}
use Rattle.sp_code.proofs.Outs.{outs_start, outs_all}
use Rattle.sp_kernel.specs.KernelLaws.{from_start, control_is}
use Rattle.sp_kernel.proofs.NoteSteps.{back_abandons}

-- ---- where no event puts a process, one was before the event

-- no event puts a process where these are
pub record IsByNoEvent (P : Doing → Type 0) : Type 0 where
  pub ready : P Ready → ⊥
  pub sending : (c : ℕ) → P (Sending c) → ⊥
  pub receiving : (c : ℕ) → P (Receiving c) → ⊥
  pub joining : (n : ℕ) → P (Joining n) → ⊥
  pub laid : P Laid → ⊥
  pub ended : P Ended → ⊥

module _ (P : Doing → Type 0) where
  at_kept : (f : ℕ → Doing) (z q : ℕ) (d : Doing) → (P d → ⊥) → P (at_key ◌==◌ z d f q) → (at_key ◌==◌ z d f q ≡ f q)
      × (q ≢ z)
  at_kept f z q d n o = go (number_or z q)
    where
      go : (z ≡ q) ⊎ ((z ≢ q) × (z == q ≡ false)) → (at_key ◌==◌ z d f q ≡ f q) × (q ≢ z)
      go (inl is) = absurd (n (subst P (subst (λ y. at_key ◌==◌ z d f y ≡ d) is (at_same f z d)) o))
      go (inr m) = (at_other f z q d m.0, λ e. m.0 (sym e))

  module _ (none : IsByNoEvent P) where
    fewer_kept : (x : ℕ) (d : Doing) (m : Control) (q : ℕ) → P ((one_fewer x d m).doing q)
        → (one_fewer x d m).doing q ≡ m.doing q
    fewer_kept x (Joining n) m q o = go (n == 1) o
      where
        go : (b : Bool) → P ((if b then queues x m else does x (Joining (n - 1)) m).doing q)
            → (if b then queues x m else does x (Joining (n - 1)) m).doing q ≡ m.doing q
        go true o = (at_kept m.doing x q Ready none.ready o).0
        go false o = (at_kept m.doing x q (Joining (n - 1)) (none.joining (n - 1)) o).0
    fewer_kept _ _ _ _ _ = refl

    module _ (k : Control) (p : ℕ) where
      offers_kept : (w : Way) (d : Doing) (c : ℕ) (x : Option (Way × ℕ)) (q : ℕ) → (P d → ⊥)
          → P ((offers w d p c x k).doing q) → ((offers w d p c x k).doing q ≡ k.doing q) × (q ≢ p)
      offers_kept w d c None q n o = at_kept k.doing p q d n o
      offers_kept w d c (Some z) q n o =
          let a = at_kept (at_key ◌==◌ z.1 Ready k.doing) p q Ready none.ready o in
          let b = at_kept k.doing z.1 q Ready none.ready (subst P a.0 o) in
          (a.0 ∙ b.0, a.1)

      -- after an event of p it is another one, which was there before
      pub back_kept : (e : Event) (q : ℕ) → P ((comes_back p e k).doing q) → ((comes_back p e k).doing q ≡ k.doing q)
          × (q ≢ p)
      back_kept (event.Fork n) q o = go (is_next k.births n q) o
        where
          go : (b : Bool) → P (cond b Ready (cond (p == q) (Joining n) (k.doing q)))
              → (cond b Ready (cond (p == q) (Joining n) (k.doing q)) ≡ k.doing q) × (q ≢ p)
          go true o = absurd (none.ready o)
          go false o = at_kept k.doing p q (Joining n) (none.joining n) o
      back_kept event.Open q o = at_kept k.doing p q Ready none.ready o
      back_kept (event.Send c) q o = offers_kept way.Send (Sending c) c (k.pending c) q (none.sending c) o
      back_kept (event.Receive c) q o = offers_kept way.Receive (Receiving c) c (k.pending c) q (none.receiving c) o
      back_kept event.End q o = go (k.births.birth p) o
        where
          go : (x : Option Birth) → P ((reports x (does p Ended k)).doing q)
              → ((reports x (does p Ended k)).doing q ≡ k.doing q) × (q ≢ p)
          go None o = at_kept k.doing p q Ended none.ended o
          go (Some b) o =
              let a = fewer_kept b.parent ((does p Ended k).doing b.parent) (does p Ended k) q o in
              let c = at_kept k.doing p q Ended none.ended (subst P a o) in
              (a ∙ c.0, c.1)
      back_kept (event.Fault f) q o = at_kept k.doing p q Laid none.laid o
      back_kept event.Laid q o = at_kept k.doing p q Laid none.laid o
      back_kept event.Pause q o = at_kept k.doing p q Ready none.ready o

-- ---- a process is gone only where a worker gave up

abbrev IsGone : Doing → Type 0
IsGone d = d ≡ Gone

gone_by_none : IsByNoEvent IsGone
gone_by_none = record {
  ready = λ (e : Ready ≡ Gone). absurd (cc e);
  sending = λ (c : ℕ) (e : Sending c ≡ Gone). absurd (cc e);
  receiving = λ (c : ℕ) (e : Receiving c ≡ Gone). absurd (cc e);
  joining = λ (n : ℕ) (e : Joining n ≡ Gone). absurd (cc e);
  laid = λ (e : Laid ≡ Gone). absurd (cc e);
  ended = λ (e : Ended ≡ Gone). absurd (cc e);
}

abbrev NoneGone : Control → Type 0
NoneGone k = (q : ℕ) → k.doing q ≡ Gone → 0 < k.abandons

gone_takes : (w : ℕ) (got : Option ℕ) (k : Control) → NoneGone k → NoneGone (takes w got k)
gone_takes w None k h q o = h q o
gone_takes w (Some p) k h q o = h q (sym (at_kept IsGone k.doing p q (Out w) (λ (e : Out w ≡ Gone). absurd (cc e)) o).0
    ∙ o)

gone_given : (p : Option ℕ) (e : Option Event) (got : Option ℕ) (k : Control) → NoneGone k
    → NoneGone (after_give p e got k)
gone_given (Some p) (Some e) got k h q o = let a = h q (sym (back_kept IsGone gone_by_none k p e q o).0 ∙ o) in
    let b : (comes_back p e k).abandons ≡ k.abandons = back_abandons p e k in omega (arith, a, b)
gone_given None (Some e) got k h q o = h q o
gone_given None None None k h q o = omega arith
gone_given (Some p) None None k h q o = omega arith
gone_given None None (Some z) k h q o = h q o
gone_given (Some p) None (Some z) k h q o = h q o

gone_all : (ns : List Note) (k : Control) → NoneGone k → NoneGone (after_notes ns k)
gone_all [] k h = h
gone_all (n ∷ ns) k h = gone_all ns (after_note n k)
    (gone_takes n.worker n.got (after_give n.given n.event n.got k) (gone_given n.given n.event n.got k h))

gone_start : NoneGone control_at_start
gone_start q o = absurd (go (q == 0) o)
  where
    go : (b : Bool) → (if b then Ready else Unborn) ≡ Gone → ⊥
    go true e = absurd (cc e)
    go false e = absurd (cc e)

-- ---- where no worker gave up, every process is here

pub record AllHere (y : Kernel) : Type 0 where
  pub away : (q w : ℕ) → (control_of y).doing q ≡ Out w → ⊥
  pub gone : (q : ℕ) → (control_of y).doing q ≡ Gone → ⊥

pub all_here : (x : Kernel) (fine : IsOpening x) (log : List Note) (y : Kernel) → RanTo x log y → y.abandons ≡ 0
    → AllHere y
all_here x fine log y ran kept = record { away = away; gone = gone }
  where
    outs : HasOuts (control_of y)
    outs = subst HasOuts (sym (control_is x fine log y ran.legal))
        (outs_all plain (code_run_of x) control_at_start (opening_system plain (code_run_of x)) (system_of y) log
        orderly_start
        (agrees_start plain (code_run_of x)) outs_start (from_start x fine log y ran.legal))

    away : (q w : ℕ) → (control_of y).doing q ≡ Out w → ⊥
    away q w e = among_none q outs.outs (outs.count ∙ ran.over.1) (outs.all q (w, e))

    gone : (q : ℕ) → (control_of y).doing q ≡ Gone → ⊥
    gone q e = let a = subst NoneGone (sym (control_is x fine log y ran.legal))
        (gone_all log control_at_start gone_start) q e in absurd (omega (arith, a, kept))
