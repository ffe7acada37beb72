-- Where the system of a program's code ends in a deadlock, its waiters in order of names are all that wait in it
-- (`stuck`). So the waiters of the machine are those of the meaning.
use Rattle.std.proofs.Common.{◌≡◌, ◌⊎◌, inl, inr, ℕ, zero, suc, ◌≤◌, List, ◌++◌, Some, refl, sym, ap, ◌∙◌, subst}
use Rattle.std.specs.Prelude.{map}
use Rattle.std.specs.List.Sorted.{IsPermutation}
use Rattle.std.proofs.lemmas.Option.{none-some, same_Some}
use Rattle.sp_journal.specs.declared.outcome.Waiter.{Waiter}
use Rattle.sp_journal.specs.Births.{Births}
use Rattle.sp_journal.specs.Queue.{numbers}
use Rattle.sp_journal.proofs.BirthLaws.{Lawful}
use Rattle.sp_cell.specs.Map.{Plain}
use Rattle.sp_meaning.specs.Ends.{Waiting, waiter_of}
use Rattle.sp_code.specs.Control.{Control, Doing, Unborn, Sending, Receiving, control_at_start}
use Rattle.sp_code.specs.Machine.{Stop, Forks, Opens, Sends, Receives, Ends, Pauses}
use Rattle.sp_code.specs.System.{System, Condition, Absent, Working, Waits, Joins, Laid, Gone, Over}
use Rattle.sp_code.specs.Agreement.{phase_in}
use Rattle.sp_link.specs.Endings.{waiting_at, WaitsAs, IsStuck, IsWaiting, with_waiting, waiting_from}
use Rattle.sp_link.proofs.SortedWaiters.{all_waiting}
use Rattle.sp_link.proofs.Histories.{Sends_at, Receives_at, Waits_with}
use Rattle.sp_runner.specs.Ends.{IsDeadlock, offer_in, waiter_list, waiters_among}

-- ---- the control that knows of those that wait alone

abbrev doing_at : Stop → Doing
doing_at (Sends c k cs) = Sending c
doing_at (Receives c k a) = Receiving c
doing_at _ = Unborn

abbrev doing_in : Condition Plain → Doing
doing_in (Waits stop c) = doing_at stop
doing_in _ = Unborn

to_send : (b : Births) (i c : ℕ) (X : Condition Plain) → doing_in X ≡ Sending c → Waits_with b i X (Sends_at b i c)
to_send b i c (Waits (Sends c1 k cs) d) e = let same : c1 ≡ c = cc e in
    (Sends c1 k cs, d, refl, ap (λ y. Some (Sends_at b i y)) same)
to_send b i c (Waits (Receives c1 k a) d) e = absurd (cc e)
to_send b i c (Waits (Forks t v n) d) e = absurd (cc e)
to_send b i c (Waits (Opens a) d) e = absurd (cc e)
to_send b i c (Waits Ends d) e = absurd (cc e)
to_send b i c (Waits Pauses d) e = absurd (cc e)
to_send b i c Absent e = absurd (cc e)
to_send b i c (Working d) e = absurd (cc e)
to_send b i c (Joins n d) e = absurd (cc e)
to_send b i c (Laid d) e = absurd (cc e)
to_send b i c Gone e = absurd (cc e)
to_send b i c (Over d) e = absurd (cc e)

to_receive : (b : Births) (i c : ℕ) (X : Condition Plain) → doing_in X ≡ Receiving c
    → Waits_with b i X (Receives_at b i c)
to_receive b i c (Waits (Receives c1 k a) d) e = let same : c1 ≡ c = cc e in
    (Receives c1 k a, d, refl, ap (λ y. Some (Receives_at b i y)) same)
to_receive b i c (Waits (Sends c1 k cs) d) e = absurd (cc e)
to_receive b i c (Waits (Forks t v n) d) e = absurd (cc e)
to_receive b i c (Waits (Opens a) d) e = absurd (cc e)
to_receive b i c (Waits Ends d) e = absurd (cc e)
to_receive b i c (Waits Pauses d) e = absurd (cc e)
to_receive b i c Absent e = absurd (cc e)
to_receive b i c (Working d) e = absurd (cc e)
to_receive b i c (Joins n d) e = absurd (cc e)
to_receive b i c (Laid d) e = absurd (cc e)
to_receive b i c Gone e = absurd (cc e)
to_receive b i c (Over d) e = absurd (cc e)

-- one process, in both lists
one_more : (b : Births) (q : ℕ) (X : Condition Plain) (ws : List Waiting) → waiter_list b q (offer_in X)
    ++ map waiter_of ws ≡ map waiter_of (with_waiting b q (doing_in X) ws)
one_more b q (Waits (Sends c k cs) d) ws = refl
one_more b q (Waits (Receives c k a) d) ws = refl
one_more b q (Waits (Forks t v n) d) ws = refl
one_more b q (Waits (Opens a) d) ws = refl
one_more b q (Waits Ends d) ws = refl
one_more b q (Waits Pauses d) ws = refl
one_more b q Absent ws = refl
one_more b q (Working d) ws = refl
one_more b q (Joins n d) ws = refl
one_more b q (Laid d) ws = refl
one_more b q Gone ws = refl
one_more b q (Over d) ws = refl

module _ (t : System Plain) (lawful : Lawful t.births) (unborn : (q : ℕ) → t.births.processes ≤ q
    → t.condition q ≡ Absent) where
  abbrev k : Control
  k = record control_at_start { doing = λ q. doing_in (t.condition q); births = t.births }

  same_list : (q n : ℕ) → waiters_among t.births t.condition (numbers q n) ≡ map waiter_of (waiting_from k q n)
  same_list q zero = refl
  same_list q (suc n) = ap (λ ws. waiter_list t.births q (offer_in (t.condition q)) ++ ws) (same_list (suc q) n)
      ∙ one_more t.births q (t.condition q) (waiting_from k (suc q) n)

  to_system : (w : Waiting) → IsWaiting k w → WaitsAs t w
  to_system w h = by h.2
    where
      by : ((k.doing h.0 ≡ Sending h.1) × (w ≡ Sends_at k.births h.0 h.1))
          ⊎ ((k.doing h.0 ≡ Receiving h.1) × (w ≡ Receives_at k.births h.0 h.1)) → WaitsAs t w
      by (inl (does, is)) =
          let (stop, store, waits, waiter_is) = to_send t.births h.0 h.1 (t.condition h.0) does in
          record {
            number = h.0;
            stop = stop;
            configuration = store;
            waits = waits;
            waiting_is = waiter_is ∙ ap (λ y. Some y) (sym is);
          }
      by (inr (does, is)) =
          let (stop, store, waits, waiter_is) = to_receive t.births h.0 h.1 (t.condition h.0) does in
          record {
            number = h.0;
            stop = stop;
            configuration = store;
            waits = waits;
            waiting_is = waiter_is ∙ ap (λ y. Some y) (sym is);
          }

  from_system : (w : Waiting) → WaitsAs t w → IsWaiting k w
  from_system w h = by h.stop h.waits h.waiting_is
    where
      by : (stop : Stop) → t.condition h.number ≡ Waits stop h.configuration
          → waiting_at t.births h.number stop ≡ Some w → IsWaiting k w
      by (Forks tb v n) e r = absurd (none-some _ r)
      by (Opens x) e r = absurd (none-some _ r)
      by (Sends c m cs) e r = (h.number, c, inl (ap doing_in e, sym (same_Some _ _ r)))
      by (Receives c m x) e r = (h.number, c, inr (ap doing_in e, sym (same_Some _ _ r)))
      by Ends e r = absurd (none-some _ r)
      by Pauses e r = absurd (none-some _ r)

  pub stuck : (ws : List Waiter) → IsDeadlock t ws → (vs : List Waiting) × IsStuck t vs × (ws ≡ map waiter_of vs)
  stuck ws d =
      let z = all_waiting k lawful (λ q h. ap doing_in (unborn q h)) ws
      (subst (λ (l : List Waiter). IsPermutation l ws) (same_list 0 t.births.processes) d.all) d.sorted in (
        z.0,
        record {
          no_fault = d.no_fault;
          idle = λ i c x. d.idle i (ap (λ y. phase_in y) x);
          goes_on = λ c x. d.goes_on (ap (λ y. phase_in y) x);
          sorted = z.1.sorted;
          only = λ w i. to_system w (z.1.only w i);
          whole = λ w h. z.1.whole w (from_system w h);
        },
        z.2,
      )
