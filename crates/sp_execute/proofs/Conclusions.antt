-- What the machine gives along a journal with the code of a program is what the program means along it (`concluded`).
use Rattle.std.proofs.Common.{◌≡◌, ◌⊎◌, inl, inr, ℕ, ◌≤◌, List, [], ◌∷◌, Some, refl, sym, ap, ◌∙◌, subst}
use Rattle.std.proofs.lemmas.Option.{same_Some}
use Rattle.sp_base.specs.declared.fault.Fault.{Fault}
use Rattle.sp_base.specs.declared.limits.TheConstants.{TURN_TICKS}
use Rattle.sp_tree.specs.Plain.{Stmt}
use Rattle.sp_journal.specs.declared.entry.Event.{Event}
use Rattle.sp_journal.specs.declared.entry.Event.TheVariants as event
use Rattle.sp_journal.specs.declared.entry.Entry.{Entry}
use Rattle.sp_journal.specs.declared.outcome.End.{End}
use Rattle.sp_journal.specs.declared.outcome.End.TheVariants as end
use Rattle.sp_journal.specs.Births.{Births, first_births, births_from, occurrences_from, NameableFrom}
use Rattle.sp_journal.specs.Names.{proc_name}
use Rattle.sp_journal.proofs.BirthLaws.{Lawful, lawful as lawful_births}
use Rattle.sp_cell.specs.Map.{Plain}
use Rattle.sp_meaning.specs.LocalWork.{RunInput}
use Rattle.sp_meaning.specs.Runs.{StateOf, output_of}
use Rattle.sp_meaning.specs.Along.{IsAlong}
use Rattle.sp_meaning.specs.Ends.{EndIs}
use Rattle.sp_meaning.specs.Ends as meant
use Rattle.sp_code.specs.PlainStore.{plain}
use Rattle.sp_code.specs.System.{System, Condition, Absent, Working, Waits, Joins, Laid, Gone, Over, IsSystem, store_in}
use Rattle.sp_code.specs.System.{opening_system}
use Rattle.sp_code.specs.Agreement.{Finished, phase_in}
use Rattle.sp_code.specs.OutputHolder.{IsOutputOf}
use Rattle.sp_code.proofs.Phases.{no_waiter_ended}
use Rattle.sp_code.proofs.Along.{births_along}
use Rattle.sp_kernel.specs.Faults.{fault_in, fault_by}
use Rattle.sp_kernel.specs.declared.closed.Closed.{Closed}
use Rattle.sp_link.specs.Endings.{HasFaultEntry}
use Rattle.sp_link.specs.Premises.{IsReady, run_by}
use Rattle.sp_link.proofs.Endings.{program_root, program_stuck, program_fault}
use Rattle.sp_link.proofs.Programs.{ground, program_means, program_output, program_done}
use Rattle.sp_link.proofs.Soundness.{names_on}
use Rattle.sp_link.proofs.Theorem.{linked_along}
use Rattle.sp_runner.specs.Ends.{EndsAt}
use Rattle.sp_execute.specs.Runs.{IsRunOfCode, IsAbout}
use Rattle.sp_execute.proofs.DeadlockWaiters.{stuck}

-- the first fault of a journal is an entry of it
has_fault : (es : List Entry) (p : ℕ) (f : Fault) → fault_in es ≡ Some (p, f) → HasFaultEntry es p f
has_fault [] p f e = absurd (cc e)
has_fault (x ∷ es) p f e = by (has_fault es p f) x.event refl e
  where
    by : (fault_in es ≡ Some (p, f) → HasFaultEntry es p f) → (y : Event) → x.event ≡ y
        → fault_by x.process y (fault_in es) ≡ Some (p, f) → (x ≡ record { process = p; event = event.Fault f })
        ⊎ HasFaultEntry es p f
    by on (event.Fault h) i e = inl (λ j. record {
      process = (same_Some _ _ e j).0;
      event = (i
          ∙ ap (λ (z : ℕ × Fault). event.Fault z.1) (same_Some _ _ e)) j;
    })
    by on (event.Fork n) i e = inr (on e)
    by on event.Open i e = inr (on e)
    by on (event.Send c) i e = inr (on e)
    by on (event.Receive c) i e = inr (on e)
    by on event.End i e = inr (on e)
    by on event.Laid i e = inr (on e)
    by on event.Pause i e = inr (on e)

module _ (g : RunInput) (moves shares : Stmt
    → List ℕ) (pause : ℕ) (ready : IsReady g moves shares) (es : List Entry) (t : System Plain)
    (h : IsSystem plain (run_by g moves shares pause) es t) where
  pub names : NameableFrom first_births es
  names = names_on g moves shares pause ready es t h

  births_here : t.births ≡ births_from first_births es
  births_here = births_along (run_by g moves shares pause) es (opening_system plain (run_by g moves shares pause)) t h

  lawful : Lawful t.births
  lawful = subst (λ (b : Births). Lawful b) (sym births_here) (lawful_births es names)

  unborn : (q : ℕ) → t.births.processes ≤ q → t.condition q ≡ Absent
  unborn q l = let z = linked_along
      (ground g moves shares pause ready es names) ready.main ready.first es names refl t h in z.linked.unborn q l

  pub means : (n : ℕ) × (s : StateOf g) × IsAlong g pause (occurrences_from first_births es) n s
  means = program_means g moves shares pause ready es names t h

  module _ (n : ℕ) (s : StateOf g) (k : IsAlong g pause (occurrences_from first_births es) n s) where
    pub same_output : (q : ℕ) (text : List ℕ) → IsOutputOf t q text → text ≡ output_of g s
    same_output q text o =
        let (mine, its_store, store_is, text_is) = program_output g moves shares pause ready es names t h n s k in
        let holder : mine ≡ q = o.only mine its_store (output_of g s) store_is text_is in
        let store : Some o.store ≡ Some its_store = sym o.store_is ∙ ap (λ y. store_in (t.condition y)) (sym holder)
        ∙ store_is in
        same_Some text (output_of g s) (sym o.output ∙ ap (λ y. plain.output y) (same_Some o.store its_store store)
        ∙ text_is)

    -- the first process has ended
    over : phase_in (t.condition 0) ≡ Finished → meant.IsDone g s
    over e = by (t.condition 0) refl e
      where
        by : (X : Condition Plain) → t.condition 0 ≡ X → phase_in X ≡ Finished → meant.IsDone g s
        by Absent x f = absurd (cc f)
        by (Working d) x f = absurd (cc f)
        by (Waits stop d) x f = absurd (no_waiter_ended stop f)
        by (Joins left d) x f = absurd (cc f)
        by (Laid d) x f = absurd (cc f)
        by Gone x f = absurd (program_root g moves shares pause ready es t h n s k x)
        by (Over d) x f = program_done g moves shares pause ready es names t h n s k d x

    pub same_end : (e : End) → EndsAt es t e → EndIs g s e
    same_end end.Done d = over d.0
    same_end (end.Deadlock ws) d = let z = stuck t lawful unborn ws d in
        (z.0, program_stuck g moves shares pause ready es t h n s k z.0 z.1, z.2)
    same_end (end.Fault name f) d = (
      (births_from first_births es).name d.0,
      program_fault g moves shares pause ready es t h n s k d.0 f
          (has_fault es d.0 f d.1),
      d.2 ∙ ap (λ (b : Births). proc_name (b.name d.0)) births_here,
    )
    same_end end.Memory d = absurd d

pub concluded : (g : RunInput) (moves shares : Stmt → List ℕ) (c : Closed) → IsRunOfCode g moves shares c → IsAbout g c
concluded g moves shares c r =
    let es = c.journal.entries in
    let t = r.gives.system in
    let h = r.gives.along in
    let z = means g moves shares TURN_TICKS r.ready es t h in
    record {
      names = names g moves shares TURN_TICKS r.ready es t h;
      steps = z.0;
      state = z.1;
      along = z.2;
      output = same_output g moves shares TURN_TICKS r.ready es t h z.0 z.1 z.2 r.gives.output.0 c.output
          r.gives.output.1;
      end = same_end g moves shares TURN_TICKS r.ready es t h z.0 z.1 z.2 c.end r.gives.end;
    }
