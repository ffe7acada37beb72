-- The end of a run: what its journal names is there, and one process holds its output.
use Rattle.std.proofs.Common.{◌≡◌, ℕ, ◌<◌, ◌≤◌, List, [], ◌∷◌, ◌++◌, Option, Some, None, refl, sym, ap, ◌∙◌, subst}
use Rattle.std.proofs.Common.{arith}
use Rattle.std.proofs.lemmas.Option.{same_Some}
use Rattle.sp_base.specs.declared.fault.Fault.{Fault}
use Rattle.sp_journal.specs.declared.entry.Note.{Note}
use Rattle.sp_journal.specs.declared.entry.Entry.{Entry}
use Rattle.sp_journal.specs.declared.entry.Event.{Event}
use Rattle.sp_journal.specs.declared.entry.Event.TheVariants as event
use Rattle.sp_journal.specs.Births.{Births, first_births, births_from, births_after_event, births_after_entry}
use Rattle.sp_journal.specs.Births.{NameableFrom}
use Rattle.sp_journal.proofs.BirthLaws.{processes_grow}
use Rattle.sp_code.specs.Control.{entries_of}
use Rattle.sp_code.specs.System.{System}
use Rattle.sp_code.specs.OutputHolder.{IsOutputOf}
use Rattle.sp_code.proofs.KnownChannels.{system_spoken}
use Rattle.sp_code.proofs.NameableRuns.{system_nameable}
use Rattle.sp_code.proofs.Holders.{one_holder}
use Rattle.sp_room.specs.History.{LeadsTo}
use Rattle.sp_kernel.specs.declared.kernel.Kernel.{Kernel}
use Rattle.sp_kernel.specs.Kernels.{system_of, code_run_of}
use Rattle.sp_kernel.specs.Faults.{fault_in, fault_by}
use Rattle.sp_kernel.specs.Asks.{IsOpening, KernelSteps}
use Rattle.sp_kernel.specs.KernelLaws.{from_start, after_log, along}
use Rattle.sp_kernel.specs.Closes.{RanFrom, IsNameableKernel, or_empty}
use Rattle.sp_kernel.specs.Outputs.{first_output}
use Rattle.sp_kernel.proofs.FaultEntries.{fault_told}
use Rattle.sp_kernel.proofs.RunEnds.{AllHere, all_here}
use Rattle.sp_kernel.proofs.FoundOutputs.{written_is, writes_store, none_writes}

pub named : (x : Kernel) (fine : IsOpening x) (log : List Note) (y : Kernel) → LeadsTo KernelSteps x log y
    → IsNameableKernel y
named x fine log y told =
    let journal : y.journal.entries ≡ entries_of log = (after_log x fine log y told).journal
    ∙ ap (λ l. l ++ entries_of log) fine.journal in
    record {
      whole = (after_log x fine log y told).whole;
      nameable = subst (NameableFrom first_births) (sym journal)
          (system_nameable (code_run_of x) fine.limits (entries_of log) (system_of y) (along x fine log y told));
      fault_has_entry = fault_told x fine log y told journal;
      spoken = system_spoken (code_run_of x) (entries_of log) (system_of y) (along x fine log y told);
    }

-- ---- the process of a fault is there

more_processes : (s : Births) (p : ℕ) (e : Event) → s.processes ≤ (births_after_event s p e).processes
more_processes s p (event.Fork n) = omega arith
more_processes _ _ _ = omega arith

pub fault_there : (s : Births) (es : List Entry) (p : ℕ) (f : Fault) → NameableFrom s es → fault_in es ≡ Some (p, f)
    → p < (births_from s es).processes
fault_there s [] p f h e = absurd (cc e)
fault_there s (d ∷ es) p f ((below, _), further) e =
    go (λ g. fault_there (births_after_entry s d) es p f further g) d.event refl e
  where
    go : (fault_in es ≡ Some (p, f) → p < (births_from s (d ∷ es)).processes) → (v : Event) → d.event ≡ v
        → fault_by d.process v (fault_in es) ≡ Some (p, f) → p < (births_from s (d ∷ es)).processes
    go on (event.Fault g) i w =
        let same : d.process ≡ p = ap first (same_Some _ _ w) in
        let a = more_processes s d.process d.event in
        let b = processes_grow (births_after_entry s d) es in
        omega (arith, below, same, a, b)
      where
        first : ℕ × Fault → ℕ
        first z = z.0
    go on (event.Fork n) i w = on w
    go on event.Open i w = on w
    go on (event.Send c) i w = on w
    go on (event.Receive c) i w = on w
    go on event.End i w = on w
    go on event.Laid i w = on w
    go on event.Pause i w = on w

-- ---- the output

pub output_held : (log : List Note) (y : Kernel) → RanFrom log y → y.abandons ≡ 0 → (o : Option (List ℕ))
    → first_output y.slots ≡ o → (q : ℕ) × (bs : List ℕ) × IsOutputOf (system_of y) q bs × (o ≡ Some bs)
output_held log y (x, fine, ran) kept o is = go o is
  where
    here : AllHere y
    here = all_here x fine log y ran kept

    holder : (q : ℕ) × (bs : List ℕ) × IsOutputOf (system_of y) q bs
    holder = one_holder (code_run_of x) (system_of y) log
        (λ es t l. fine.sound.safe x.root.value.input.value x.limits fine.limits es t l)
        (from_start x fine log y ran.legal)

    go : (o : Option (List ℕ)) → first_output y.slots ≡ o → (q : ℕ) × (bs : List ℕ) × IsOutputOf (system_of y) q bs
        × (o ≡ Some bs)
    go None e = absurd (none_writes y.slots e holder.0 holder.2.store holder.1 (here.away holder.0) (here.gone holder.0)
        holder.2.store_is holder.2.output)
    go (Some bs) e =
        let w = written_is y.slots bs e in
        let s = writes_store y.slots bs w in
        let same : w.process ≡ holder.0 = holder.2.only w.process w.proc.store bs s.0 s.1 in (
          holder.0,
          bs,
          record {
            store = w.proc.store;
            store_is = subst (λ q. Rattle.sp_code.specs.System.store_in ((system_of y).condition q) ≡ Some
                w.proc.store) same
                s.0;
            output = s.1;
            only = holder.2.only;
          },
          refl,
        )

pub output_text : (log : List Note) (y : Kernel) → RanFrom log y → (text : List ℕ)
    → or_empty (first_output y.slots) ≡ text
    → y.abandons ≡ 0 → (q : ℕ) × IsOutputOf (system_of y) q text
output_text log y ran text e kept =
    let (process, _, holds, found) = output_held log y ran kept (first_output y.slots) refl in
    (process, subst (IsOutputOf (system_of y) process) (ap or_empty (sym found) ∙ e) holds)
