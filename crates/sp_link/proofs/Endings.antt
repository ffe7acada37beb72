-- How a run of a program's code ends is how the program does: the same ones wait where nobody can go on, and the fault
-- of the journal is the program's.
use Rattle.std.proofs.Common.{◌≡◌, ℕ, List, None, Bool, true, false, refl, sym, ◌∙◌, subst}
use Rattle.std.proofs.lemmas.Option.{none-some}
use Rattle.sp_base.specs.declared.fault.Fault.{Fault}
use Rattle.sp_tree.specs.Plain.{Stmt}
use Rattle.sp_journal.specs.declared.entry.Entry.{Entry}
use Rattle.sp_journal.specs.Births.{first_births, births_from, occurrences_from, NameableFrom}
use Rattle.sp_journal.proofs.BirthLaws.{lawful_start}
use Rattle.sp_cell.specs.Map.{Plain}
use Rattle.sp_meaning.specs.LocalWork.{RunInput}
use Rattle.sp_meaning.specs.Runs.{StateOf, start}
use Rattle.sp_meaning.specs.Along.{before_entries, IsAlong}
use Rattle.sp_meaning.specs.Ends.{Waiting, WaitsSo, IsDeadlock, HasFault}
use Rattle.sp_code.specs.TreeCode.{program_code}
use Rattle.sp_code.specs.Memory as memory
use Rattle.sp_code.specs.PlainStore.{plain}
use Rattle.sp_code.specs.System.{System, Gone, IsSystem, opening_system}
use Rattle.sp_codegen.specs.TurnAgrees.{code_run}
use Rattle.sp_link.specs.Endings.{HasFaultEntry, WaitsAs, IsStuck}
use Rattle.sp_link.specs.Premises.{IsReady}
use Rattle.sp_link.proofs.FaultEntries.{fault_told, fault_entry}
use Rattle.sp_link.proofs.Journal.{Goes_along}
use Rattle.sp_link.proofs.OneState.{one_state}
use Rattle.sp_link.proofs.Programs.{ground}
use Rattle.sp_link.proofs.Relation.{RunContext, Performs_all, Linked, at_open}
use Rattle.sp_link.proofs.Soundness.{names_on}
use Rattle.sp_link.proofs.Theorem.{linked_along}
use Rattle.sp_link.proofs.Waiters.{waits_means, waits_runs, stuck_means, stuck_runs}

module _ (g : RunInput) (moves shares : Stmt → List ℕ) (pause : ℕ) (ready : IsReady g moves shares) (es : List Entry)
    (t : System Plain) (h : IsSystem plain (code_run g (program_code g.program moves shares) pause) es t)
    (n : ℕ) (s : StateOf g) (k : IsAlong g pause (occurrences_from first_births es) n s) where
  abbrev run : memory.CodeRun
  run = code_run g (program_code g.program moves shares) pause

  named : NameableFrom first_births es
  named = names_on g moves shares pause ready es t h

  abbrev G : RunContext
  G = at_open (ground g moves shares pause ready es named) t.births.channels

  along : Goes_along (ground g moves shares pause ready es named) before_entries (start g) first_births es t
  along = linked_along (ground g moves shares pause ready es named) ready.main ready.first es named refl t h

  is_it : along.state ≡ s
  is_it = (one_state g pause (occurrences_from first_births es) along.steps n along.state s along.along k).1

  linked : Linked G along.lives along.course s t
  linked = subst (λ y. Linked G along.lives along.course y t) is_it along.linked

  pub program_waits_means : (w : Waiting) → WaitsAs t w → WaitsSo g s w
  program_waits_means w i = waits_means G along.lives along.course s t linked w i

  pub program_waits_runs : (w : Waiting) → WaitsSo g s w → WaitsAs t w
  program_waits_runs w i = waits_runs G along.lives along.course s t linked w i

  -- the first process stays
  pub program_root : t.condition 0 ≡ Gone → ⊥
  program_root e =
      let x : Performs_all G along.lives (G.births.name 0) along.course s (t.births.opens 0) Gone =
      subst (λ y. Performs_all G along.lives (G.births.name 0) along.course s (t.births.opens 0) y) e
      (linked.does 0 linked.began.root.2) in
      x.1 (sym (linked.began.names 0 linked.began.root.2) ∙ linked.began.root.1)

  -- ---- the fault

  pub program_no_fault : t.faulted ≡ false → s.fault ≡ None
  program_no_fault e = linked.no_fault e

  pub program_fault : (p : ℕ) (f : Fault) → HasFaultEntry es p f → HasFault g s ((births_from first_births es).name p) f
  program_fault p f i = fault_told g pause es first_births lawful_start named before_entries (start g) s n k p f i

  -- a fault that stands is that of an entry
  pub program_faulted : t.faulted ≡ true → (p : ℕ) × (f : Fault) × HasFaultEntry es p f
      × HasFault g s ((births_from first_births es).name p) f
  program_faulted e = let w = fault_entry run es (opening_system plain run) t refl h e in
      (w.0, w.1, w.2, program_fault w.0 w.1 w.2)

  -- one stands in the machine where it stands in the program
  fault_both : (b : Bool) → t.faulted ≡ b → s.fault ≡ None → b ≡ false
  fault_both false e q = refl
  fault_both true e q = let (_, _, _, faulted) = program_faulted e in absurd (none-some _ (sym q ∙ faulted))

  -- ---- nobody can go on

  pub program_stuck : (ws : List Waiting) → IsStuck t ws → IsDeadlock g s ws
  program_stuck ws i = stuck_means G along.lives along.course s t linked ws i

  pub program_deadlock : (ws : List Waiting) → IsDeadlock g s ws → IsStuck t ws
  program_deadlock ws i = stuck_runs G along.lives along.course s t linked ws (fault_both t.faulted refl i.no_fault) i
