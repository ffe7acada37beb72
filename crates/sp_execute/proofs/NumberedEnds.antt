-- The run along a witness has one end: the fault F6 of the later offer's process.
use Rattle.std.proofs.Common.{◌≡◌, ℕ, Option, Some, None, refl, sym, ap, ◌∙◌, subst}
use Rattle.std.proofs.lemmas.Option.{none-some, same_Some}
use Rattle.sp_base.specs.declared.fault.Fault.{Fault}
use Rattle.sp_base.specs.declared.fault.Fault.TheVariants as fault
use Rattle.sp_journal.specs.declared.entry.Journal.{Journal}
use Rattle.sp_journal.specs.declared.entry.Way.{Way}
use Rattle.sp_journal.specs.declared.outcome.End.{End}
use Rattle.sp_journal.specs.declared.outcome.End.TheVariants as end
use Rattle.sp_journal.specs.Names.{Name, Channel, proc_name}
use Rattle.sp_journal.specs.Births.{occurrences}
use Rattle.sp_meaning.specs.LocalWork.{RunInput}
use Rattle.sp_meaning.specs.Runs.{StateOf}
use Rattle.sp_meaning.specs.Along.{IsAlong}
use Rattle.sp_meaning.specs.Ends.{IsDone, IsIdle, EndIs, EndsSo}
use Rattle.sp_link.proofs.OneState.{one_state}
use Rattle.sp_witness.specs.Witness.{who_at, witness}
use Rattle.sp_witness.specs.Contention.{IsContention}
use Rattle.sp_witness.specs.OccurrenceNumbers.{witness_journal}
use Rattle.sp_execute.specs.NumberedJournals.{IsWitness}

-- in contention a process is running, and a fault stands: so the end is that fault alone
module _ (g : RunInput) (u : StateOf g) (w : Way) (c : Channel) (first second : Name)
    (h : IsContention g u w c first second) (idle : IsDone g u → IsIdle g u) where
  abbrev the_fault : End
  the_fault = end.Fault (proc_name second) fault.F6

  same_fault : (q : Name) (f : Fault) → u.fault ≡ Some (q, f)
      → ◌≡◌ {A = Option (Name × Fault)} (Some (q, f)) (Some (second, fault.F6))
  same_fault q f e = sym e ∙ h.fault

  fault_is : (q : Name) (f : Fault) → ◌≡◌ {A = Option (Name × Fault)} (Some (q, f)) (Some (second, fault.F6))
      → (q ≡ second) × (f ≡ fault.F6)
  fault_is q f e =
      let p : ◌≡◌ {A = Name × Fault} (q, f) (second, fault.F6) = same_Some (q, f) (second, fault.F6) e in
      (ap (λ (z : Name × Fault). z.0) p, ap (λ (z : Name × Fault). z.1) p)

  one_end : (x : End) → EndIs g u x → x ≡ the_fault
  one_end end.Done e = absurd (none-some _ (sym (idle e second) ∙ h.runs))
  one_end (end.Deadlock ws) e = absurd (none-some _ (sym (e.1).no_fault ∙ h.fault))
  one_end (end.Fault p f) e =
      let s = fault_is e.0 f (same_fault e.0 f e.1) in
      λ i. end.Fault ((e.2 ∙ ap proc_name s.0) i) (s.1 i)
  one_end end.Memory e = absurd e

  pub ends_so : (x : Option End) → EndsSo g u x → x ≡ Some (end.Fault (proc_name second) fault.F6)
  ends_so None e = absurd (e (end.Fault (proc_name second) fault.F6) (second, h.fault, refl))
  ends_so (Some x) e = ap (λ z. Some z) (one_end x e)

-- the same of every state along the journal of the witness
pub witness_ends : (g : RunInput) (turn : ℕ) (j : Journal) (w : Way) (c : Channel) (earlier later : ℕ)
    → IsWitness g turn j w c earlier later
    → ((s : StateOf g) → (n : ℕ) → IsAlong g turn (witness (occurrences j) earlier later) n s → IsDone g s
    → IsIdle g s)
    → (n : ℕ) (u : StateOf g) → IsAlong g turn (occurrences (witness_journal j earlier later)) n u
    → (x : Option End) → EndsSo g u x → x ≡ Some (end.Fault (proc_name (who_at (occurrences j) later)) fault.F6)
witness_ends g turn j w c earlier later it idle n u along x ends =
    let shows = it.shows in
    let is : u ≡ shows.state = (one_state g turn (witness (occurrences j) earlier later) n shows.size u shows.state
    (subst (λ es. IsAlong g turn es n u) it.names along) shows.along).1 in
    ends_so g shows.state w c (who_at (occurrences j) earlier) (who_at (occurrences j) later) shows.contention
    (idle shows.state shows.size shows.along) x (subst (λ (z : StateOf g). EndsSo g z x) is ends)
