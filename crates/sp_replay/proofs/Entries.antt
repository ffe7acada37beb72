-- The system along one entry more, and where there is none.
use Rattle.std.proofs.Common.{◌≡◌, ◌≢◌, ℕ, zero, suc, ◌<◌, Bool, true, false, List, [], ◌∷◌, ◌++◌, length, take, get_or}
use Rattle.std.proofs.Common.{slice_get, MatchBool, Option, Some, None, refl, sym, ap, ◌∙◌, subst, arith}
use Rattle.sp_cell.specs.Map.{Plain}
use Rattle.sp_journal.specs.declared.entry.Entry.{Entry}
use Rattle.sp_journal.specs.declared.entry.Event.{Event}
use Rattle.sp_code.specs.Memory.{CodeRun, Stores}
use Rattle.sp_code.specs.PlainStore.{plain}
use Rattle.sp_code.specs.Control.{Doing, Ready, Out, Gone}
use Rattle.sp_code.specs.System.{System, EntryLeads, EntriesLead, IsSystem, opening_system}
use Rattle.sp_code.proofs.Systems.{event_same, leads_same}
use Rattle.sp_code.specs.Agreement.{Among, phase, phase_in, Running}
use Rattle.sp_machine.specs.declared.state.State.{State as Proc}
use Rattle.sp_kernel.specs.declared.kernel.Kernel.{Kernel}
use Rattle.sp_kernel.specs.Kernels.{control_of, system_of, code_run_of}
use Rattle.sp_replay.specs.FollowInvariant.{IsOutOfKernel, HasCome, AreOut, HoldsAllReady, EventMade, CannotCome}
use Rattle.sp_replay.specs.declared.follow.FollowedRun.{FollowedRun}
use Rattle.sp_replay.specs.Replays.{IsUnfitAt}
use Rattle.sp_replay.proofs.HistorySteps.{is_whole}

-- the last entry of several
leads_last : {S : Type 0} (stores : Stores S) (g : CodeRun) (s : System S) (es : List Entry) (e : Entry) (t : System S)
    → EntriesLead stores g s (es ++ e ∷ []) t → (u : System S) × EntriesLead stores g s es u
    × EntryLeads stores g u e.process e.event t
leads_last {S = S} stores g s [] e t h = (
  s,
  refl,
  subst (λ (z : System S). EntryLeads stores g s e.process e.event z) (sym h.2) h.1,
)
leads_last stores g s (x ∷ es) e t h = let r = leads_last stores g h.0 es e t h.2 in (r.0, (h.0, h.1, r.1), r.2)

pub one_more : (es : List Entry) (n : ℕ) (e : Entry) → slice_get es n ≡ Some e → take (suc n) es ≡ take n es ++ e ∷ []
one_more [] n e is = absurd (cc is)
one_more (x ∷ es) zero e is = let same : x ≡ e = cc is in ap (λ y. y ∷ []) same
one_more (x ∷ es) (suc n) e is = ap (λ l. x ∷ l) (one_more es n e is)

inside : (es : List Entry) (n : ℕ) (e : Entry) → slice_get es n ≡ Some e → n < length es
inside [] n e is = absurd (cc is)
inside (x ∷ es) zero e is = omega arith
inside (x ∷ es) (suc n) e is = let l = inside es n e is in omega (arith, l)

-- an entry that can't come where the others have led is the first that does not fit
pub unfit : (g : CodeRun) (es : List Entry) (n : ℕ) (e : Entry) (s : System Plain) → slice_get es n ≡ Some e
    → IsSystem plain g (take n es) s → ((t : System Plain) → EntryLeads plain g s e.process e.event t → ⊥)
    → IsUnfitAt g es n
unfit g es n e s at along cannot = record {
  inside = inside es n e at;
  fits = (s, along);
  unfit = λ t l.
      let r = leads_last plain g (opening_system plain g) (take n es) e t
      (subst (λ (fs : List Entry). IsSystem plain g fs t) (one_more es n e at) l) in
      cannot t (subst (λ (z : System Plain). EntryLeads plain g z e.process e.event t)
      (leads_same plain g (opening_system plain g) (take n es) r.0 s r.1 along) r.2);
}

-- who runs is ready or out
run_away : (d : Doing) → phase d ≡ Running → (d ≡ Ready → ⊥) → IsOutOfKernel d
run_away Ready e n = absurd (n refl)
run_away (Out w) e n = tt {0}
run_away Gone e n = tt {0}
run_away _ e _ = absurd (cc e)

-- who is not held does not run
pub not_running : (x : Kernel) (c : HasCome x) (who : ℕ → Option Proc) → AreOut x who → x.ready ≡ [] → (q : ℕ)
    → who q ≡ None → phase_in ((system_of x).condition q) ≡ Running → ⊥
not_running x c who o none q free runs = absurd (cc (sym free ∙ w.1))
  where
    not_ready : (control_of x).doing q ≡ Ready → ⊥
    not_ready is = let i : Among q [] = subst (Among q) none ((is_whole x c).orderly.queue.all q is) in i

    w : (p : Proc) × (who q ≡ Some p)
    w = o.all q (run_away ((control_of x).doing q) ((is_whole x c).agrees.each q ∙ runs) not_ready)

-- so no entry of it can come
pub not_held : (x : Kernel) (c : HasCome x) (who : ℕ → Option Proc) → AreOut x who → x.ready ≡ [] → (e : Entry)
    → who e.process ≡ None → CannotCome x e
not_held x c who o none e free t enters = not_running x c who o none e.process free (ap phase_in enters.1)

-- a turn makes no other event
other_event : (x y : Kernel) (e : Entry) (f : Event) → EventMade x e.process f y → f ≢ e.event → CannotCome x e
other_event x y e f made n t enters = n
    (event_same plain (code_run_of x) (system_of x) e.process f e.event (system_of y)
    t made.enters enters)

pub compared : (b : Bool) (f : Event) (x : Kernel) (g : FollowedRun) (d : Entry) (e : Event) → HoldsAllReady g
    → EventMade x d.process e g.kernel → f ≡ e → MatchBool b (f ≡ d.event) (f ≢ d.event)
    → MatchBool b (HoldsAllReady g × EventMade x d.process d.event g.kernel) (CannotCome x d)
compared true f x g d e s m is c = (s, subst (λ v. EventMade x d.process v g.kernel) (sym is ∙ c) m)
compared false f x g d e s m is c = other_event x g.kernel d e m (λ w. c (is ∙ w))

pub where_false : (b : Bool) (P Q : Type 0) → MatchBool b P Q → b ≡ false → Q
where_false true P Q m e = absurd (cc e)
where_false false P Q m e = m

pub at_or : (es : List Entry) (n : ℕ) (d : Entry) → n < length es → slice_get es n ≡ Some (get_or es n d)
at_or [] n d l = absurd (omega (arith, l))
at_or (x ∷ es) zero d l = refl
at_or (x ∷ es) (suc n) d l = at_or es n d (omega (arith, l))
