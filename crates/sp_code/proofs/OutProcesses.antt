-- A note of one worker leaves a process that is out with another as it is.
use Rattle.std.proofs.Common.{◌≡◌, ◌≢◌, ◌⊎◌, ℕ, ◌-◌, ◌<◌, ◌==◌, inl, inr, Bool, true, false, if◌then◌else◌, List, []}
use Rattle.std.proofs.Common.{Option, Some, None, refl, sym, ap, ◌∙◌, subst}
use Rattle.sp_base.specs.declared.fault.Fault.{Fault}
use Rattle.sp_cell.specs.declared.cell.Cell.{Cell}
use Rattle.sp_cell.specs.declared.spot.Address.{Address}
use Rattle.sp_journal.specs.declared.entry.Way.{Way}
use Rattle.sp_journal.specs.declared.entry.Way.TheVariants as way
use Rattle.sp_journal.specs.declared.entry.Event.{Event}
use Rattle.sp_journal.specs.declared.entry.Event.TheVariants as event
use Rattle.sp_journal.specs.declared.entry.Birth.{Birth}
use Rattle.sp_journal.specs.Maps.{at_key}
use Rattle.sp_code.specs.Machine.{Stop, Forks, Opens, Sends, Receives, Ends, Pauses, Config}
use Rattle.sp_code.specs.Turns.{Turn, Stopped, Faulted}
use Rattle.sp_code.specs.Memory.{CodeRun, Stores, Memory}
use Rattle.sp_code.specs.Control.{Control, Doing, Unborn, Ready, Out, Sending, Receiving, Joining, Laid, Ended, Gone}
use Rattle.sp_code.specs.Control.{does, queues, offers, one_fewer, reports, comes_back}
use Rattle.sp_code.specs.System.{System, Condition, Working, Waits, Joins, Laid as IsLaid, Gone as HasGone, Over}
use Rattle.sp_code.specs.System.{fault_of, process_at_entry, after_message, apply_send, apply_receive}
use Rattle.sp_code.specs.System.{parent_after_join, apply_end, apply_stop}
use Rattle.sp_code.specs.System.{apply_unless_fault, lays, system_after_turn, config_of}
use Rattle.sp_code.specs.Agreement.{IsOrderly}
use Rattle.sp_code.proofs.Queues.{number_or, at_same, at_other}
use Rattle.sp_code.proofs.Orders.{there_of, next_not, waits_not_out}

-- ---- the system

module _ {S : Type 0} (stores : Stores S) (g : CodeRun) where
  same_at : (z p : ℕ) (x : Condition S) (m : ℕ → Condition S) (c : Config (Memory S)) → (z ≡ p → x ≡ Working c)
      → m p ≡ Working c → at_key ◌==◌ z x m p ≡ Working c
  same_at z p x m c e h = go (number_or z p)
    where
      go : (z ≡ p) ⊎ ((z ≢ p) × (z == p ≡ false)) → at_key ◌==◌ z x m p ≡ Working c
      go (inl is) = subst (λ y. at_key ◌==◌ z x m y ≡ x) is (at_same m z x) ∙ e is
      go (inr o) = at_other m z p x o.0 ∙ h

  module _ (s : System S) (p q : ℕ) (c : Config (Memory S)) (runs : s.condition p ≡ Working c)
      (there : p < s.births.processes) (apart : q ≢ p) where
    received_same : (cs : List Cell) (z : ℕ) → z ≡ p → after_message stores g cs (s.condition z) ≡ Working c
    received_same cs z e = ap (after_message stores g cs) (ap s.condition e ∙ runs)

    sent_same : (stop : Stop) (ch : ℕ) (cs : List Cell) (d : Config (Memory S)) (o : Option ℕ)
        → (apply_send stores g q stop ch cs d o s).condition p ≡ Working c
    sent_same stop ch cs d None = same_at q p (Waits stop d) s.condition c (λ e. absurd (apart e)) runs
    sent_same stop ch cs d (Some z) = same_at q p (Working d)
        (at_key ◌==◌ z (after_message stores g cs (s.condition z)) s.condition) c (λ e. absurd (apart e))
        (same_at z p (after_message stores g cs (s.condition z)) s.condition c (received_same cs z) runs)

    taken_same : (stop : Stop) (ch : ℕ) (a : Address) (d : Config (Memory S)) (o : Option ℕ)
        → (apply_receive stores g q stop ch a d o s).condition p ≡ Working c
    taken_same stop ch a d None = same_at q p (Waits stop d) s.condition c (λ e. absurd (apart e)) runs
    taken_same stop ch a d (Some z) = same_at q p (Working _)
        (at_key ◌==◌ z (after_message stores g [] (s.condition z)) s.condition) c (λ e. absurd (apart e))
        (same_at z p (after_message stores g [] (s.condition z)) s.condition c (received_same [] z) runs)

    reported_same : (d : Config (Memory S)) (o : Option Birth) → (apply_end stores g q d o s).condition p ≡ Working c
    reported_same d None = same_at q p (Over d) s.condition c (λ e. absurd (apart e)) runs
    reported_same d (Some b) = same_at b.parent p _ (at_key ◌==◌ q HasGone s.condition) c
        (λ e. ap (parent_after_join stores g d) (ap s.condition e ∙ runs))
        (same_at q p HasGone s.condition c (λ e. absurd (apart e)) runs)

    happens_same : (stop : Stop) (d : Config (Memory S)) → (apply_stop stores g q stop d s).condition p ≡ Working c
    happens_same (Forks t v n) d = rw (next_not s.births n p there)
        (same_at q p (Joins n _) s.condition c (λ e. absurd (apart e)) runs)
    happens_same (Opens a) d = same_at q p (Working _) s.condition c (λ e. absurd (apart e)) runs
    happens_same (Sends ch k cs) d = sent_same (Sends ch k cs) ch cs d (s.pending ch)
    happens_same (Receives ch k a) d = taken_same (Receives ch k a) ch a d (s.pending ch)
    happens_same Ends d = reported_same d (s.births.birth q)
    happens_same Pauses d = same_at q p (Working d) s.condition c (λ e. absurd (apart e)) runs

    lays_same : (d : Config (Memory S)) → (lays stores g q d s).condition p ≡ Working c
    lays_same d = same_at q p (IsLaid d) s.condition c (λ e. absurd (apart e)) runs

    -- a process that runs is as it was after the turn of another
    pub after_same : (turn : Turn (Memory S)) → (system_after_turn stores g q turn s).condition p ≡ Working c
    after_same turn = go s.faulted
      where
        by_fault : (o : Option Fault) (t : Turn (Memory S)) → (apply_unless_fault stores g o q t s).condition p
            ≡ Working c
        by_fault (Some f) t = lays_same (config_of t)
        by_fault None (Faulted f d) = lays_same d
        by_fault None (Stopped stop d) = happens_same stop (process_at_entry d)

        go : (b : Bool) → (if b then lays stores g q (config_of turn) s else
            apply_unless_fault stores g (fault_of g.limits s turn) q turn s).condition p ≡ Working c
        go true = lays_same (config_of turn)
        go false = by_fault (fault_of g.limits s turn) turn

-- ---- the control

module _ (k : Control) (h : IsOrderly k) (p u q : ℕ) (out : k.doing p ≡ Out u) (apart : q ≢ p) where
  at_q : (d : Doing) → at_key ◌==◌ q d k.doing p ≡ Out u
  at_q d = at_other k.doing q p d apart ∙ out

  offers_out : (w : Way) (waits : Doing) (c : ℕ) (o : Option (Way × ℕ)) → k.pending c ≡ o
      → (offers w waits q c o k).doing p ≡ Out u
  offers_out w waits c None e = at_q waits
  offers_out w waits c (Some z) e = at_other (at_key ◌==◌ z.1 Ready k.doing) q p Ready apart
      ∙ at_other k.doing z.1 p Ready
      (λ is. waits_not_out z.0 c u (sym (h.pending c z.1 z.0 e) ∙ ap k.doing is ∙ out)) ∙ out

  fewer_out : (x : ℕ) (d : Doing) (m : Control) → m.doing p ≡ Out u → m.doing x ≡ d → (one_fewer x d m).doing p ≡ Out u
  fewer_out x (Joining n) m e f = go (n == 1)
    where
      other : x ≢ p
      other is = let t : m.doing p ≡ Joining n = ap m.doing (sym is) ∙ f in absurd (cc (e, t))

      go : (b : Bool) → (if b then queues x m else does x (Joining (n - 1)) m).doing p ≡ Out u
      go true = at_other m.doing x p Ready other ∙ e
      go false = at_other m.doing x p (Joining (n - 1)) other ∙ e
  fewer_out x Unborn m e f = e
  fewer_out x Ready m e f = e
  fewer_out x (Out w) m e f = e
  fewer_out x (Sending c) m e f = e
  fewer_out x (Receiving c) m e f = e
  fewer_out x Laid m e f = e
  fewer_out x Ended m e f = e
  fewer_out x Gone m e f = e

  -- a process that is out stays out when another comes back
  pub back_out : (e : Event) → (comes_back q e k).doing p ≡ Out u
  back_out (event.Fork n) = rw (next_not k.births n p (there_of h p (Out u) out (λ f. absurd (cc f))))
      (at_q (Joining n))
  back_out event.Open = at_q Ready
  back_out (event.Send c) = offers_out way.Send (Sending c) c (k.pending c) refl
  back_out (event.Receive c) = offers_out way.Receive (Receiving c) c (k.pending c) refl
  back_out event.End = go (k.births.birth q)
    where
      go : (o : Option Birth) → (reports o (does q Ended k)).doing p ≡ Out u
      go None = at_q Ended
      go (Some b) = fewer_out b.parent _ (does q Ended k) (at_q Ended) refl
  back_out (event.Fault f) = at_q Laid
  back_out event.Laid = at_q Laid
  back_out event.Pause = at_q Ready
