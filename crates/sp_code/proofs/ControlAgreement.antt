-- The control and the system go on alike: an event of the one is the event of the other.
use Rattle.std.proofs.Common.{◌≡◌, ◌≢◌, ℕ, ◌-◌, ◌≤◌, ◌==◌, ℤ, inl, Bool, true, false, cond, if◌then◌else◌, List, []}
use Rattle.std.proofs.Common.{Option, Some, None, refl, sym, ap, ◌∙◌, subst, arith}
use Rattle.std.proofs.lemmas.Bool.{eqb-true}
use Rattle.sp_base.specs.declared.fault.Fault.{Fault}
use Rattle.sp_cell.specs.declared.cell.Cell.{Cell}
use Rattle.sp_cell.specs.declared.spot.Address.{Address}
use Rattle.sp_journal.specs.declared.entry.Way.{Way}
use Rattle.sp_journal.specs.declared.entry.Way.TheVariants as way
use Rattle.sp_journal.specs.declared.entry.Event.{Event}
use Rattle.sp_journal.specs.declared.entry.Event.TheVariants as event
use Rattle.sp_journal.specs.declared.entry.Birth.{Birth}
use Rattle.sp_journal.specs.Maps.{at_key}
use Rattle.sp_journal.specs.Births.{Births, births_after_event, is_next}
use Rattle.sp_code.specs.Machine.{Stop, Forks, Opens, Sends, Receives, Ends, Pauses, Config, At}
use Rattle.sp_code.specs.Turns.{Turn, Stopped, Faulted}
use Rattle.sp_code.specs.Memory.{CodeRun, Stores, Memory, first_process}
use Rattle.sp_code.specs.Control.{Control, Doing, Unborn, Ready, Out, Sending, Receiving, Joining, Laid, Ended, Gone}
use Rattle.sp_code.specs.Control.{does, queues, offers, one_fewer, reports, comes_back, takes, queue_tail}
use Rattle.sp_code.specs.Control.{control_at_start}
use Rattle.sp_code.specs.System.{System, Condition, Absent, Working, Waits, Joins, Laid as IsLaid, Gone as HasGone}
use Rattle.sp_code.specs.System.{Over, event_at, event_or, event_of, fault_of, process_at_entry, after_message}
use Rattle.sp_code.specs.System.{apply_send, apply_receive}
use Rattle.sp_code.specs.System.{parent_after_join, apply_end, apply_stop, apply_unless_fault, lays, system_after_turn}
use Rattle.sp_code.specs.System.{store_of, config_of, with_entry_counted}
use Rattle.sp_code.specs.System.{opening_system}
use Rattle.sp_code.specs.Agreement.{Phase, Never, Running, ToSend, ToReceive, ToJoin, Down, Finished, Odd, phase}
use Rattle.sp_code.specs.Agreement.{phase_in, waiting_phase, IsQueue, IsOrderly, AgreesWithSystem, SamePending}
use Rattle.sp_code.specs.Agreement.{waits_by}
use Rattle.sp_code.specs.Agreement.{IsGot}
use Rattle.sp_code.proofs.Queues.{at_other, both_at}
use Rattle.sp_code.proofs.Orders.{queue_take}
use Rattle.sp_code.proofs.EventFrames.{fewer_faulted, fewer_pending}

-- ---- small steps

two_conds : {A B C : Type 0} (f : A → C) (g : B → C) (b t : Bool) (x x1 : A) (y y1 : B) → b ≡ t → f x ≡ g y
    → f x1 ≡ g y1 → f (cond b x x1) ≡ g (cond t y y1)
two_conds f g true true x x1 y y1 e h k = h
two_conds f g true false x x1 y y1 e h k = absurd (cc e)
two_conds f g false true x x1 y y1 e h k = absurd (cc e)
two_conds f g false false x x1 y y1 e h k = k

pub pending_at : (p : ℕ) (a : Option (Way × ℕ)) (b : Option ℕ) (m : ℕ → Option (Way × ℕ)) (n : ℕ → Option ℕ)
    → SamePending a b → ((q : ℕ) → SamePending (m q) (n q)) → (q : ℕ)
    → SamePending (at_key ◌==◌ p a m q) (at_key ◌==◌ p b n q)
pending_at p a b m n e h q = go (p == q)
  where
    go : (t : Bool) → SamePending (cond t a (m q)) (cond t b (n q))
    go true = e
    go false = h q

-- who waits for a message is in no other phase
abbrev IsToWait : Phase → Type 0
IsToWait (ToSend c) = Unit
IsToWait (ToReceive c) = Unit
IsToWait _ = ⊥

waits_runs : (w : Way) (c : ℕ) (x : Phase) → phase (waits_by w c) ≡ x → IsToWait x
waits_runs w c x e = subst IsToWait e (to_wait w)
  where
    to_wait : (w : Way) → IsToWait (phase (waits_by w c))
    to_wait way.Send = tt
    to_wait way.Receive = tt

module _ {S : Type 0} (stores : Stores S) (g : CodeRun) where
  received_runs : (w : Way) (c : ℕ) (cs : List Cell) (x : Condition S) → phase (waits_by w c) ≡ phase_in x
      → phase_in (after_message stores g cs x) ≡ Running
  received_runs w c cs Absent e = absurd (waits_runs w c Never e)
  received_runs w c cs (Working d) e = refl
  received_runs w c cs (Waits (Receives ch k a) d) e = refl
  received_runs w c cs (Waits (Sends ch k bs) d) e = refl
  received_runs w c cs (Waits (Forks t v n) d) e = refl
  received_runs w c cs (Waits (Opens a) d) e = refl
  received_runs w c cs (Waits Ends d) e = refl
  received_runs w c cs (Waits Pauses d) e = refl
  received_runs w c cs (Joins n d) e = absurd (waits_runs w c (ToJoin n) e)
  received_runs w c cs (IsLaid d) e = absurd (waits_runs w c Down e)
  received_runs w c cs HasGone e = absurd (waits_runs w c Finished e)
  received_runs w c cs (Over d) e = absurd (waits_runs w c Finished e)

-- ---- one child fewer

abbrev fewer : Phase → Phase
fewer Never = Never
fewer Running = Running
fewer (ToSend c) = ToSend c
fewer (ToReceive c) = ToReceive c
fewer (ToJoin n) = if n == 1 then Running else ToJoin (n - 1)
fewer Down = Down
fewer Finished = Finished
fewer Odd = Odd

pub at_phase : (p q : ℕ) (a : Doing) (m : ℕ → Doing)
    → phase (at_key ◌==◌ p a m q) ≡ cond (p == q) (phase a) (phase (m q))
at_phase p q a m = go (p == q)
  where
    go : (t : Bool) → phase (cond t a (m q)) ≡ cond t (phase a) (phase (m q))
    go true = refl
    go false = refl

pub as_it_was : (p q : ℕ) (m : ℕ → Doing) (d : Doing) → m p ≡ d → phase (m q) ≡ cond (p == q) (phase d) (phase (m q))
as_it_was p q m d e = go (p == q) refl
  where
    go : (t : Bool) → p == q ≡ t → phase (m q) ≡ cond t (phase d) (phase (m q))
    go true w = ap (λ x. phase (m x)) (sym (eqb-true p q w)) ∙ ap phase e
    go false w = refl

fewer_control : (k : Control) (p : ℕ) (d : Doing) → k.doing p ≡ d → (q : ℕ)
    → phase ((one_fewer p d k).doing q) ≡ cond (p == q) (fewer (phase d)) (phase (k.doing q))
fewer_control k p (Joining n) e q = go (n == 1)
  where
    go : (b : Bool) → phase ((if b then queues p k else does p (Joining (n - 1)) k).doing q)
        ≡ cond (p == q) (if b then Running else ToJoin (n - 1)) (phase (k.doing q))
    go true = at_phase p q Ready k.doing
    go false = at_phase p q (Joining (n - 1)) k.doing
fewer_control k p Unborn e q = as_it_was p q k.doing Unborn e
fewer_control k p Ready e q = as_it_was p q k.doing Ready e
fewer_control k p (Out w) e q = as_it_was p q k.doing (Out w) e
fewer_control k p (Sending c) e q = as_it_was p q k.doing (Sending c) e
fewer_control k p (Receiving c) e q = as_it_was p q k.doing (Receiving c) e
fewer_control k p Laid e q = as_it_was p q k.doing Laid e
fewer_control k p Ended e q = as_it_was p q k.doing Ended e
fewer_control k p Gone e q = as_it_was p q k.doing Gone e

fewer_waiting : (stop : Stop) → waiting_phase stop ≡ fewer (waiting_phase stop)
fewer_waiting (Sends c k cs) = refl
fewer_waiting _ = refl

module _ {S : Type 0} (stores : Stores S) (g : CodeRun) where
  fewer_system : (c : Config (Memory S)) (x : Condition S) → phase_in (parent_after_join stores g c x)
      ≡ fewer (phase_in x)
  fewer_system c Absent = refl
  fewer_system c (Working d) = refl
  fewer_system c (Waits stop d) = fewer_waiting stop
  fewer_system c (Joins n (At pc st m)) = go (n == 1)
    where
      go : (b : Bool) → phase_in (if b then Working
          (At pc st (record m { store = stores.joined m.store (store_of c) })) else
          Joins (n - 1) (At pc st (record m { store = stores.joined m.store (store_of c) })))
          ≡ (if b then Running else ToJoin (n - 1))
      go true = refl
      go false = refl
  fewer_system c (IsLaid d) = refl
  fewer_system c HasGone = refl
  fewer_system c (Over d) = refl

at_phase_in : {S : Type 0} (p q : ℕ) (a : Condition S) (m : ℕ → Condition S)
    → phase_in (at_key ◌==◌ p a m q) ≡ cond (p == q) (phase_in a) (phase_in (m q))
at_phase_in p q a m = go (p == q)
  where
    go : (t : Bool) → phase_in (cond t a (m q)) ≡ cond t (phase_in a) (phase_in (m q))
    go true = refl
    go false = refl

-- ---- events

module _ {S : Type 0} (stores : Stores S) (g : CodeRun) (k : Control) (s : System S) (h : IsOrderly k)
    (a : AgreesWithSystem k s)
    (p u : ℕ) (out : k.doing p ≡ Out u) where
  one_place : (d : Doing) (x : Condition S) → phase d ≡ phase_in x → (q : ℕ)
      → phase (at_key ◌==◌ p d k.doing q) ≡ phase_in (at_key ◌==◌ p x s.condition q)
  one_place d x e q = both_at phase phase_in p d x k.doing s.condition e a.each q

  next_births : (e : Event) → births_after_event k.births p e ≡ births_after_event s.births p e
  next_births e = ap (λ (b : Births). births_after_event b p e) a.births

  agrees_fork : (t : ℕ) (v : ℤ) (n : ℕ) (c : Config (Memory S))
      → AgreesWithSystem (comes_back p (event.Fork n) k)
      (record (apply_stop stores g p (Forks t v n) c s) { births = births_after_event s.births p (event.Fork n) })
  agrees_fork t v n c = record {
    each = λ q. two_conds phase phase_in (is_next k.births n q) (is_next s.births n q) _ _ _ _
        (ap (λ (b : Births). is_next b n q) a.births) refl (one_place (Joining n) (Joins n _) refl q);
    births = next_births (event.Fork n);
    faulted = a.faulted;
    pending = a.pending;
  }

  agrees_open : (t : Address) (c : Config (Memory S))
      → AgreesWithSystem (comes_back p event.Open k) (record (apply_stop stores g p (Opens t) c s)
      { births = births_after_event s.births p event.Open })
  agrees_open t c = record {
    each = one_place Ready (Working _) refl;
    births = next_births event.Open;
    faulted = a.faulted;
    pending = a.pending;
  }

  agrees_pause : (c : Config (Memory S)) → AgreesWithSystem (comes_back p event.Pause k)
      (record (apply_stop stores g p Pauses c s) { births = births_after_event s.births p event.Pause })
  agrees_pause c = record {
    each = one_place Ready (Working c) refl;
    births = a.births;
    faulted = a.faulted;
    pending = a.pending;
  }

  agrees_end : (c : Config (Memory S)) → AgreesWithSystem (comes_back p event.End k)
      (record (apply_stop stores g p Ends c s) { births = births_after_event s.births p event.End })
  agrees_end c = subst (λ (o : Option Birth). AgreesWithSystem
      (record (reports (k.births.birth p) (does p Ended k)) { out = k.out - 1; births = k.births })
      (record (apply_end stores g p c o s) { births = s.births })) (ap (λ (b : Births). b.birth p) a.births)
      (go (k.births.birth p) refl)
    where
      go : (o : Option Birth) → k.births.birth p ≡ o
          → AgreesWithSystem (record (reports o (does p Ended k)) { out = k.out - 1; births = k.births })
          (record (apply_end stores g p c o s) { births = s.births })
      go None e = record {
        each = one_place Ended (Over c) refl;
        births = a.births;
        faulted = a.faulted;
        pending = a.pending;
      }
      go (Some b) e =
          let m : Control = does p Ended k in
          let apart : p ≢ b.parent = λ is. omega (arith, h.parents p b e, is) in
          let was : m.doing b.parent ≡ k.doing b.parent = at_other k.doing p b.parent Ended apart in
          record {
            each = λ q. fewer_control m b.parent (m.doing b.parent) refl q
                ∙ two_conds (λ (x : Phase). x) (λ (x : Phase). x) (b.parent == q) (b.parent == q) _ _ _ _ refl
                (ap fewer (ap phase was ∙ a.each b.parent) ∙ sym (fewer_system stores g c (s.condition b.parent)))
                (one_place Ended HasGone refl q)
                ∙ sym (at_phase_in b.parent q (parent_after_join stores g c (s.condition b.parent))
                (at_key ◌==◌ p HasGone s.condition));
            births = a.births;
            faulted = fewer_faulted b.parent (m.doing b.parent) m ∙ a.faulted;
            pending = λ ch. subst (λ o. SamePending o (s.pending ch)) (fewer_pending b.parent (m.doing b.parent) m ch)
                (a.pending ch);
          }

  -- an offer: of this way, with this stop, on this channel
  agrees_sent : (stop : Stop) (ch : ℕ) (cs : List Cell) (c : Config (Memory S)) → waiting_phase stop ≡ ToSend ch
      → AgreesWithSystem (comes_back p (event.Send ch) k)
      (record (with_entry_counted stores g (apply_send stores g p stop ch cs c (s.pending ch) s)) { births = s.births })
  agrees_sent stop ch cs c w = go (k.pending ch) (s.pending ch) refl (a.pending ch)
    where
      go : (o : Option (Way × ℕ)) (x : Option ℕ) → k.pending ch ≡ o → SamePending o x
          → AgreesWithSystem (record (offers way.Send (Sending ch) p ch o k) { out = k.out - 1; births = k.births })
          (record (with_entry_counted stores g (apply_send stores g p stop ch cs c x s)) { births = s.births })
      go None None f e = record {
        each = one_place (Sending ch) (Waits stop c) (sym w);
        births = a.births;
        faulted = a.faulted;
        pending = pending_at ch (Some (way.Send, p)) (Some p) k.pending s.pending refl
            a.pending;
      }
      go None (Some z) f e = absurd e
      go (Some o) None f e = absurd e
      go (Some o) (Some z) f e =
          let wz : phase (waits_by o.0 ch) ≡ phase_in (s.condition z) = sym (ap phase (h.pending ch o.1 o.0 f))
          ∙ a.each o.1 ∙ ap (λ y. phase_in (s.condition y)) e in
          record {
            each = both_at phase phase_in p Ready (Working c) _ _ refl
                (subst (λ y. (q : ℕ) → phase (at_key ◌==◌ y Ready k.doing q)
                ≡ phase_in (at_key ◌==◌ z (after_message stores g cs (s.condition z)) s.condition q)) (sym e)
                (both_at phase phase_in z Ready (after_message stores g cs (s.condition z)) k.doing s.condition
                (sym (received_runs stores g o.0 ch cs (s.condition z) wz)) a.each));
            births = a.births;
            faulted = a.faulted;
            pending = pending_at ch None None k.pending s.pending (tt {0}) a.pending;
          }

  agrees_taken : (stop : Stop) (ch : ℕ) (t : Address) (c : Config (Memory S)) → waiting_phase stop ≡ ToReceive ch
      → AgreesWithSystem (comes_back p (event.Receive ch) k)
      (record (with_entry_counted stores g (apply_receive stores g p stop ch t c (s.pending ch) s)) {
        births =
            s.births;
      })
  agrees_taken stop ch t c w = go (k.pending ch) (s.pending ch) refl (a.pending ch)
    where
      go : (o : Option (Way × ℕ)) (x : Option ℕ) → k.pending ch ≡ o → SamePending o x
          → AgreesWithSystem (record (offers way.Receive (Receiving ch) p ch o k) {
            out = k.out - 1;
            births =
                k.births;
          })
          (record (with_entry_counted stores g (apply_receive stores g p stop ch t c x s)) { births = s.births })
      go None None f e = record {
        each = one_place (Receiving ch) (Waits stop c) (sym w);
        births = a.births;
        faulted = a.faulted;
        pending = pending_at ch (Some (way.Receive, p)) (Some p) k.pending s.pending refl
            a.pending;
      }
      go None (Some z) f e = absurd e
      go (Some o) None f e = absurd e
      go (Some o) (Some z) f e =
          let wz : phase (waits_by o.0 ch) ≡ phase_in (s.condition z) = sym (ap phase (h.pending ch o.1 o.0 f))
          ∙ a.each o.1 ∙ ap (λ y. phase_in (s.condition y)) e in
          record {
            each = both_at phase phase_in p Ready (Working _) _ _ refl
                (subst (λ y. (q : ℕ) → phase (at_key ◌==◌ y Ready k.doing q)
                ≡ phase_in (at_key ◌==◌ z (after_message stores g [] (s.condition z)) s.condition q)) (sym e)
                (both_at phase phase_in z Ready (after_message stores g [] (s.condition z)) k.doing s.condition
                (sym (received_runs stores g o.0 ch [] (s.condition z) wz)) a.each));
            births = a.births;
            faulted = a.faulted;
            pending = pending_at ch None None k.pending s.pending (tt {0}) a.pending;
          }

  agrees_happens : (stop : Stop) (c : Config (Memory S))
      → AgreesWithSystem (comes_back p (event_at stop) k)
      (record (apply_stop stores g p stop c s) { births = births_after_event s.births p (event_at stop) })
  agrees_happens (Forks t v n) c = agrees_fork t v n c
  agrees_happens (Opens t) c = agrees_open t c
  agrees_happens (Sends ch m cs) c = agrees_sent (Sends ch m cs) ch cs c refl
  agrees_happens (Receives ch m t) c = agrees_taken (Receives ch m t) ch t c refl
  agrees_happens Ends c = agrees_end c
  agrees_happens Pauses c = agrees_pause c

  agrees_fault : (f : Fault) (c : Config (Memory S))
      → AgreesWithSystem (comes_back p (event.Fault f) k)
      (record (lays stores g p c s) { faulted = true; births = s.births })
  agrees_fault f c = record {
    each = one_place Laid (IsLaid c) refl;
    births = a.births;
    faulted = refl;
    pending = a.pending;
  }

  agrees_laid : (c : Config (Memory S)) → AgreesWithSystem (comes_back p event.Laid k)
      (record (lays stores g p c s) { births = s.births })
  agrees_laid c = record {
    each = one_place Laid (IsLaid c) refl;
    births = a.births;
    faulted = a.faulted;
    pending = a.pending;
  }

  -- whatever its turn came to
  pub agrees_after : (turn : Turn (Memory S))
      → AgreesWithSystem (comes_back p (event_of g.limits s turn) k) (system_after_turn stores g p turn s)
  agrees_after turn = go s.faulted
    where
      by_fault : (o : Option Fault) (t : Turn (Memory S))
          → AgreesWithSystem (comes_back p (event_or o t) k)
          (record (apply_unless_fault stores g o p t s) { births = births_after_event s.births p (event_or o t) })
      by_fault (Some f) (Stopped stop c) = agrees_fault f c
      by_fault (Some f) (Faulted e c) = agrees_fault f c
      by_fault None (Faulted e c) = agrees_fault e c
      by_fault None (Stopped stop c) = agrees_happens stop (process_at_entry c)

      laid : (t : Turn (Memory S)) → AgreesWithSystem (comes_back p event.Laid k)
          (record (lays stores g p (config_of t) s) { births = s.births })
      laid t = agrees_laid (config_of t)

      go : (b : Bool) → AgreesWithSystem
          (comes_back p (if b then event.Laid else event_or (fault_of g.limits s turn) turn) k)
          (record (if b then lays stores g p (config_of turn) s else
          apply_unless_fault stores g (fault_of g.limits s turn) p turn s) {
            births = births_after_event s.births p (if b then event.Laid else event_or (fault_of g.limits s turn)
                turn);
          })
      go true = laid turn
      go false = by_fault (fault_of g.limits s turn) turn

-- ---- along a history

-- at the start both are alike
pub agrees_start : {S : Type 0} (stores : Stores S) (g : CodeRun)
    → AgreesWithSystem control_at_start (opening_system stores g)
agrees_start stores g = record { each = λ q. go (q == 0); births = refl; faulted = refl; pending = λ c. tt {0} }
  where
    go : (b : Bool) → phase (if b then Ready else Unborn)
        ≡ phase_in (if b then Working (first_process stores g) else Absent)
    go true = refl
    go false = refl

pub orderly_start : IsOrderly control_at_start
orderly_start = record {
  queue = record { queued = (refl, tt {0}); distinct = (tt {0}, tt {0}); all = λ q e. inl (zero_is q (q == 0) refl e) };
  unborn = λ q l. unborn q (q == 0) refl l;
  pending = λ c z w e. absurd (cc e);
  parents = λ q b e. absurd (cc e);
}
  where
    zero_is : (q : ℕ) (b : Bool) → q == 0 ≡ b → (if b then Ready else Unborn) ≡ Ready → q ≡ 0
    zero_is q true w e = eqb-true q 0 w
    zero_is q false w e = absurd (cc e)

    unborn : (q : ℕ) (b : Bool) → q == 0 ≡ b → 1 ≤ q → (if b then Ready else Unborn) ≡ Unborn
    unborn q true w l = absurd (omega (arith, eqb-true q 0 w, l))
    unborn q false w l = refl

-- taking one that is ready changes nothing that the system tells
pub agrees_takes : {S : Type 0} (k : Control) (s : System S) → AgreesWithSystem k s → (w : ℕ) (got : Option ℕ)
    → IsGot k got
    → AgreesWithSystem (takes w got k) s
agrees_takes k s a w None i = a
agrees_takes k s a w (Some q) i = record {
  each = λ r. at_phase q r (Out w) k.doing ∙ sym (as_it_was q r k.doing Ready i.1) ∙ a.each r;
  births = a.births;
  faulted = a.faulted;
  pending = a.pending;
}

pub orderly_takes : (k : Control) → IsOrderly k → (w : ℕ) (got : Option ℕ) → IsGot k got → IsOrderly (takes w got k)
orderly_takes k h w None i = h
orderly_takes k h w (Some q) ((rest, queue_is), is_ready) = record {
  queue = subst (λ r. IsQueue (at_key ◌==◌ q (Out w) k.doing) r) (sym (ap queue_tail queue_is))
      (queue_take k.doing q rest (Out w) (subst (λ r. IsQueue k.doing r) queue_is h.queue) (λ e. absurd (cc e)));
  unborn = λ r l. at_other k.doing q r (Out w) (λ e. absurd (late r e l)) ∙ h.unborn r l;
  pending =
      λ c z v e. at_other k.doing q z (Out w) (λ is. no_wait v c (sym is_ready ∙ ap k.doing is ∙ h.pending c z v e))
      ∙ h.pending c z v e;
  parents = h.parents;
}
  where
    late : (r : ℕ) → q ≡ r → k.births.processes ≤ r → ⊥
    late r e l =
        let u : k.doing r ≡ Unborn = h.unborn r l in let t : k.doing r ≡ Ready = ap k.doing (sym e) ∙ is_ready in
        absurd (cc (u, t))

    no_wait : (v : Way) (c : ℕ) → Ready ≡ waits_by v c → ⊥
    no_wait way.Send c e = absurd (cc e)
    no_wait way.Receive c e = absurd (cc e)
