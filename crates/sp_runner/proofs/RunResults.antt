-- A run that was closed is one of the definitions: from the kernel's end to that of the system (`closed_run`).
use Rattle.std.proofs.Common.{Result, Ok, Err, ◌≡◌, ◌≢◌, ℕ, zero, suc, ◌+◌, ◌<◌, ◌≤◌, ◌==◌, nat_lt, Bool, true, false}
use Rattle.std.proofs.Common.{if◌then◌else◌, List, [], ◌∷◌, None, refl, sym, ap, ◌∙◌, subst, arith}
use Rattle.std.specs.List.Sorted.{IsPermutation}
use Rattle.std.specs.Result.{IfOk}
use Rattle.sp_base.specs.declared.halt.Memory.{Memory as Error}
use Rattle.sp_base.proofs.Facts.{equals_itself}
use Rattle.sp_journal.specs.declared.entry.Entry.{Entry}
use Rattle.sp_journal.specs.declared.entry.Note.{Note}
use Rattle.sp_journal.specs.declared.outcome.End.{End}
use Rattle.sp_journal.specs.declared.outcome.End.TheVariants as end
use Rattle.sp_journal.specs.declared.outcome.Waiter.{Waiter}
use Rattle.sp_journal.specs.Births.{births, first_births}
use Rattle.sp_journal.specs.Queue.{numbers, InTurnFrom, first_queue}
use Rattle.sp_code.specs.PlainStore.{plain}
use Rattle.sp_code.specs.Control.{control_at_start, entries_of, standing, Running as Going, IsDone as Done}
use Rattle.sp_code.specs.Control.{IsDeadlock as Deadlock, IsFault as Fault, IsMemory as Memory, has_ended}
use Rattle.sp_code.specs.System.{IsSystem, opening_system}
use Rattle.sp_code.specs.Agreement.{phase_in, Running}
use Rattle.sp_code.specs.OutputHolder.{IsOutputOf}
use Rattle.sp_code.specs.WorkerHistory.{OneByOne}
use Rattle.sp_code.proofs.InTurn.{first_in_first_out}
use Rattle.sp_code.proofs.Legal.{reaches_legal}
use Rattle.sp_code.proofs.Phases.{ended_phase, live_phase}
use Rattle.sp_room.specs.History.{either_list}
use Rattle.sp_kernel.specs.declared.closed.Closed.{Closed}
use Rattle.sp_kernel.specs.declared.kernel.Kernel.{Kernel}
use Rattle.sp_kernel.specs.Kernels.{control_of, system_of, code_run_of, IsKernel}
use Rattle.sp_kernel.specs.Asks.{IsOpening}
use Rattle.sp_kernel.specs.Closes.{EndIs, AreWaiters}
use Rattle.sp_kernel.specs.KernelLaws.{after_log, from_start, along}
use Rattle.sp_runner.specs.Ends.{RootHasEnded, IsDeadlock, EndsAt, waiters_among}
use Rattle.sp_runner.specs.Runs.{IsRun, notes_of_worker}
use Rattle.sp_runner.specs.Works.{RanBy}
use Rattle.sp_runner.proofs.SlotWaiters.{all_wait}

-- ---- how the control stands is how the system ends

-- done, or in a deadlock: no fault stands; the root has ended, or it has not
by_done : (a f d r : Bool)
    → (if a then Memory else (if f then Fault else (if d then Done else (if r then Going else Deadlock)))) ≡ Done
    → (f ≡ false) × (d ≡ true)
by_done true f d r e = absurd (cc e)
by_done false true d r e = absurd (cc e)
by_done false false true r e = (refl, refl)
by_done false false false true e = absurd (cc e)
by_done false false false false e = absurd (cc e)

by_deadlock : (a f d r : Bool)
    → (if a then Memory else (if f then Fault else (if d then Done else (if r then Going else Deadlock)))) ≡ Deadlock
    → (f ≡ false) × (d ≡ false)
by_deadlock true f d r e = absurd (cc e)
by_deadlock false true d r e = absurd (cc e)
by_deadlock false false true r e = absurd (cc e)
by_deadlock false false false true e = absurd (cc e)
by_deadlock false false false false e = (refl, refl)

by_memory : (a f d r : Bool)
    → (if a then Memory else (if f then Fault else (if d then Done else (if r then Going else Deadlock)))) ≡ Memory
    → a ≡ true
by_memory true f d r e = refl
by_memory false true d r e = absurd (cc e)
by_memory false false true r e = absurd (cc e)
by_memory false false false true e = absurd (cc e)
by_memory false false false false e = absurd (cc e)

some_up : (n : ℕ) → nat_lt 0 n ≡ true → n ≢ 0
some_up n e z = grind (arith, e, z)

module _ (y : Kernel) (whole : IsKernel y) (up : y.abandons ≡ 0) (idle : standing (control_of y) ≡ Deadlock → (q : ℕ)
    → phase_in ((system_of y).condition q) ≢ Running) where
  is_done : standing (control_of y) ≡ Done → RootHasEnded (system_of y)
  is_done e =
      let b = by_done (nat_lt 0 y.abandons) y.faulted (has_ended ((control_of y).doing 0)) _ e in
      (sym (whole.agrees.each 0) ∙ ended_phase ((control_of y).doing 0) b.1, b.0)

  is_deadlock : (ws : List Waiter) → standing (control_of y) ≡ Deadlock → AreWaiters y ws → IsDeadlock (system_of y) ws
  is_deadlock ws e are =
      let b = by_deadlock (nat_lt 0 y.abandons) y.faulted (has_ended ((control_of y).doing 0)) _ e in
      record {
        idle = idle e;
        goes_on = λ f. live_phase ((control_of y).doing 0) b.1 (whole.agrees.each 0 ∙ f);
        no_fault = b.0;
        all = subst (λ (l : List Waiter). IsPermutation l ws)
            (all_wait (births y.journal.entries) (system_of y).condition 0 y.slots
            (λ k. let e : 0 + k ≡ k = omega arith in ap (system_of y).condition e)
            ∙ ap (λ n. waiters_among (births y.journal.entries) (system_of y).condition
            (numbers 0 n)) whole.processes) are.all;
        sorted = are.sorted;
      }

  pub ends_at : (e : End) → EndIs y e → EndsAt y.journal.entries (system_of y) e
  ends_at end.Done i = is_done i
  ends_at (end.Deadlock ws) i = is_deadlock ws i.0 i.1
  ends_at (end.Fault name f) (_, process, told, named) = (process, told, named)
  ends_at end.Memory i = absurd (some_up y.abandons
      (by_memory (nat_lt 0 y.abandons) y.faulted (has_ended ((control_of y).doing 0)) _ i) up)

-- ---- one worker alone

-- where no other worker has a note, all are of the first
all_first : (ns : List Note) → ((w : ℕ) → 1 ≤ w → notes_of_worker w ns ≡ []) → notes_of_worker 0 ns ≡ ns
all_first [] none = refl
all_first (n ∷ ns) none = go (λ rest. all_first ns rest) n.worker refl
  where
    head : (w : ℕ) → n.worker ≡ w → (b : Bool) → w == w ≡ b
        → either_list (n.worker == w) (n ∷ notes_of_worker w ns) (notes_of_worker w ns) ≡ [] → w == w ≡ true → ⊥
    head w e b f i t = let g : n.worker == w ≡ true = ap (λ v. v == w) e ∙ t in absurd (cc (g, i))

    others : (v : ℕ) → n.worker ≡ 0 → 1 ≤ v → notes_of_worker v ns ≡ []
    others v e l =
        let apart : n.worker == v ≡ false = grind (arith, e, l) in
        sym (ap (λ b. either_list b (n ∷ notes_of_worker v ns) (notes_of_worker v ns)) apart) ∙ none v l

    go : (((w : ℕ) → 1 ≤ w → notes_of_worker w ns ≡ []) → notes_of_worker 0 ns ≡ ns) → (w : ℕ) → n.worker ≡ w
        → notes_of_worker 0 (n ∷ ns) ≡ n ∷ ns
    go on zero e =
        let here : n.worker == 0 ≡ true = grind (arith, e) in
        ap (λ b. either_list b (n ∷ notes_of_worker 0 ns) (notes_of_worker 0 ns)) here
        ∙ ap (λ l. n ∷ l) (on (λ v l. others v e l))
    go on (suc w) e = absurd (head (suc w) e (suc w == suc w) refl (none (suc w) (omega arith)) (equals_itself (suc w)))

-- ---- the run

pub closed_run : (workers : ℕ) (x : Kernel) (fine : IsOpening x) (log : List Note) (y : Kernel) → 0 < workers
    → RanBy workers x log y → (c : Closed) → EndIs y c.end → c.journal.entries ≡ entries_of log
    → (y.abandons ≡ 0 → (q : ℕ) × IsOutputOf (system_of y) q c.output)
    → (standing (control_of y) ≡ Deadlock → (q : ℕ) → phase_in ((system_of y).condition q) ≢ Running)
    → IsRun (code_run_of x) workers c
closed_run workers x fine log y some by c ends journal output idle = record {
  notes = log;
  legal = reaches_legal plain (code_run_of x) control_at_start (opening_system plain (code_run_of x)) (system_of y) log
      (from_start x fine log y by.ran.legal);
  journal = journal;
  calls = by.calls;
  others = by.others;
  gives = record {
    system = system_of y;
    along = subst (λ (es : List Entry). IsSystem plain (code_run_of x) es (system_of y)) (sym journal)
        (along x fine log y by.ran.legal);
    end = subst (λ (es : List Entry). EndsAt es (system_of y) c.end) (by.ran.journal
        ∙ sym journal) (ends_at y (after_log x fine log y by.ran.legal).whole by.kept idle c.end ends);
    output = output by.kept;
  };
  in_turn = λ one. subst (λ (es : List Entry). InTurnFrom first_births first_queue es) (sym journal)
      (first_in_first_out plain (code_run_of x) (system_of y) log (from_start x fine log y by.ran.legal) (alone one));
}
  where
    alone : workers ≡ 1 → OneByOne None log
    alone one = subst (OneByOne None) (all_first log (λ w l. by.others w (omega (arith, l, one)))) (by.calls 0 some)

-- what holds of each run that was closed
pub if_closed : (P Q R S : Closed → Type 0) → ((c : Closed) → P c → Q c → R c → S c) → (r : Result Closed Error)
    → IfOk r P → IfOk r Q → IfOk r R → IfOk r S
if_closed P Q R S f (Ok c) p q r = f c p q r
if_closed P Q R S f (Err e) p q r = tt {0}
