-- The run of a program whose frame has more cells than the limit: F12 before its first instruction (`one_fault`).
use Rattle.std.proofs.Common.{Result, Ok, Err, ◌≡◌, ℕ, ◌==◌, ◌<◌, ◌≤◌, Bool, true, false, cond, if◌then◌else◌}
use Rattle.std.proofs.Common.{List, [], ◌∷◌, Some, None, refl, sym, ap, ◌∙◌, subst, arith}
use Rattle.std.specs.Result.{IfOk}
use Rattle.std.proofs.lemmas.Bool.{eqb-true}
use Rattle.std.proofs.lemmas.Option.{none-some}
use Rattle.sp_base.specs.declared.fault.Fault.TheVariants as fault
use Rattle.sp_base.specs.declared.halt.Memory.{Memory as Error}
use Rattle.sp_base.specs.declared.limits.Limits.{Limits}
use Rattle.sp_cell.specs.Map.{Plain, Output, output_spot, output_of}
use Rattle.sp_cell.proofs.Laws.{get_here}
use Rattle.sp_journal.specs.declared.entry.Entry.{Entry}
use Rattle.sp_journal.specs.declared.entry.Event.TheVariants as event
use Rattle.sp_journal.specs.declared.entry.Note.{Note}
use Rattle.sp_journal.specs.declared.outcome.End.{End}
use Rattle.sp_journal.specs.Births.{first_births}
use Rattle.sp_journal.specs.Queue.{InTurnFrom, first_queue}
use Rattle.sp_code.specs.declared.code.Parts.{Parts}
use Rattle.sp_code.specs.Machine as m
use Rattle.sp_code.specs.Memory.{CodeRun, Memory, memory, first_process, sizes_of}
use Rattle.sp_code.specs.PlainStore.{plain}
use Rattle.sp_code.specs.Sound.{run_of}
use Rattle.sp_code.specs.System.{System, Working, Absent, Laid, IsSystem, IsLegal, EntryLeads, opening_system, store_in}
use Rattle.sp_code.specs.System.{system_after_turn}
use Rattle.sp_code.specs.Turns.{Turn, Faulted, Runs, BeginsOrFaults}
use Rattle.sp_code.specs.OutputHolder.{IsOutputOf}
use Rattle.sp_room.specs.History.{either_list}
use Rattle.sp_code.specs.WorkerHistory.{OneByOne}
use Rattle.sp_code.proofs.Holders.{pieces_later}
use Rattle.sp_machine.specs.FirstFrames.{first_fits}
use Rattle.sp_kernel.specs.declared.closed.Closed.{Closed}
use Rattle.sp_kernel.specs.FirstFaults.{first_fault, first_fault_end}
use Rattle.sp_runner.specs.Ends.{EndsAt}
use Rattle.sp_runner.specs.Runs.{IsRun, notes_of_worker}

module _ (code : Parts) (input : List ℕ) (lim : Limits) where
  abbrev pub g : CodeRun
  g = run_of code input lim

  abbrev c0 : m.Config (Memory Plain)
  c0 = first_process plain g

  abbrev fault_turn : Turn (Memory Plain)
  fault_turn = Faulted fault.F12 c0

  -- the system after its only entry
  abbrev pub faulted_system : System Plain
  faulted_system = system_after_turn plain g 0 fault_turn (opening_system plain g)

  pub leads_there : first_fits code lim ≡ false
      → EntryLeads plain g (opening_system plain g) 0 (event.Fault fault.F12) faulted_system
  leads_there large = (
    c0,
    refl,
    fault_turn,
    subst (λ b. BeginsOrFaults b c0 fault_turn (Runs (memory plain g) code c0 fault_turn)) (sym large) refl,
    refl,
    refl,
  )

  -- ---- what was written

  written_nothing : plain.output (plain.root (sizes_of (m.layout_of code.layouts 0))) ≡ Some []
  written_nothing = ap output_of (pieces_later _ 0 2 (sizes_of (m.layout_of code.layouts 0)) output_spot (omega arith)
      ∙ get_here _ output_spot (Output []))

  pub faulted_output : IsOutputOf faulted_system 0 []
  faulted_output = record {
    store = plain.root (sizes_of (m.layout_of code.layouts 0));
    store_is = refl;
    output = written_nothing;
    only = only;
  }
    where
      only : (r : ℕ) (p : Plain) (cs : List ℕ) → store_in (faulted_system.condition r) ≡ Some p
          → plain.output p ≡ Some cs → r ≡ 0
      only r p cs e o = go (0 == r) refl (r == 0) refl e
        where
          go : (a : Bool) → 0 == r ≡ a → (b : Bool) → r == 0 ≡ b
              → store_in (cond a (Laid c0) (if b then Working c0 else Absent)) ≡ Some p → r ≡ 0
          go true i b j s = sym (eqb-true 0 r i)
          go false i true j s = eqb-true r 0 j
          go false i false j s = absurd (none-some p s)

  pub opening_output : IsOutputOf (opening_system plain g) 0 []
  opening_output = record {
    store = plain.root (sizes_of (m.layout_of code.layouts 0));
    store_is = refl;
    output = written_nothing;
    only = only;
  }
    where
      only : (r : ℕ) (p : Plain) (cs : List ℕ) → store_in ((opening_system plain g).condition r) ≡ Some p
          → plain.output p ≡ Some cs → r ≡ 0
      only r p cs e o = go (r == 0) refl e
        where
          go : (b : Bool) → r == 0 ≡ b → store_in (if b then Working c0 else Absent) ≡ Some p → r ≡ 0
          go true j s = eqb-true r 0 j
          go false j s = absurd (none-some p s)

  -- ---- the run

  abbrev first : Note
  first = record { worker = 0; given = None; event = None; got = Some 0 }

  abbrev second : Note
  second = record { worker = 0; given = Some 0; event = Some (event.Fault fault.F12); got = None }

  abbrev notes : List Note
  notes = first ∷ second ∷ []

  legal : first_fits code lim ≡ false → IsLegal plain g notes
  legal large = (opening_system plain g, refl, refl, (faulted_system, (refl, leads_there large), refl, tt))

  calls : (w : ℕ) → OneByOne None (notes_of_worker w notes)
  calls w = go (0 == w)
    where
      go : (b : Bool) → OneByOne None (either_list b (first ∷ either_list b (second ∷ []) [])
          (either_list b (second ∷ []) []))
      go true = (refl, (refl, tt))
      go false = tt

  others : (w : ℕ) → 1 ≤ w → notes_of_worker w notes ≡ []
  others w l =
      let apart : 0 == w ≡ false = grind (arith, l) in
      ap (λ b. either_list b (first ∷ either_list b (second ∷ []) []) (either_list b (second ∷ []) [])) apart

  large_run : (workers : ℕ) → 0 < workers → first_fits code lim ≡ false → (c : Closed) → c.end ≡ first_fault_end
      → c.journal.entries ≡ first_fault ∷ [] → c.output ≡ [] → IsRun g workers c
  large_run workers some large c end journal output = record {
    notes = notes;
    legal = legal large;
    journal = journal;
    calls = λ w l. calls w;
    others = λ w l. others w (omega (arith, some, l));
    gives = record {
      system = faulted_system;
      along = subst (λ (es : List Entry). IsSystem plain g es faulted_system) (sym journal)
          (faulted_system, leads_there large, refl);
      end = subst (λ (e : End). EndsAt c.journal.entries faulted_system e) (sym end)
          (subst (λ (es : List Entry). EndsAt es faulted_system first_fault_end) (sym journal) (0, refl, refl));
      output = (0, subst (IsOutputOf faulted_system 0) (sym output) faulted_output);
    };
    in_turn = λ one. subst (λ (es : List Entry). InTurnFrom first_births first_queue es) (sym journal) ([], refl, tt);
  }

-- what is promised of that run is what a run promises
pub one_fault : (code : Parts) (input : List ℕ) (lim : Limits) (workers : ℕ) (r : Result Closed Error) → 0 < workers
    → first_fits code lim ≡ false → IfOk r (λ (c : Closed). c.end ≡ first_fault_end)
    → IfOk r (λ (c : Closed). c.journal.entries ≡ first_fault ∷ []) → IfOk r (λ (c : Closed). c.output ≡ [])
    → IfOk r (λ c. IsRun (run_of code input lim) workers c)
one_fault code input lim workers (Ok c) some large end journal output =
    large_run code input lim workers some large c end journal output
one_fault code input lim workers (Err e) some large end journal output = tt
