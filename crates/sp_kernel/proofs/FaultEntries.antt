-- A fault stands exactly where the journal has its entry.
use Rattle.std.proofs.Common.{◌≡◌, ◌||◌, ℕ, List, [], ◌∷◌, ◌++◌, Option, Some, None, refl, sym, ap, ◌∙◌}
use Rattle.sp_base.proofs.Facts.{is_or_false, or_with_true}
use Rattle.sp_journal.specs.declared.entry.Event.{Event}
use Rattle.sp_journal.specs.declared.entry.Event.TheVariants as event
use Rattle.sp_journal.specs.declared.entry.Note.{Note}
use Rattle.sp_code.specs.Control.{Control, Ended, after_note, after_notes, after_give, takes, comes_back, does}
use Rattle.sp_code.specs.Control.{entry_of}
use Rattle.sp_code.specs.Control.{entries_of}
use Rattle.sp_code.proofs.EventFrames.{offers_faulted, reports_faulted}
use Rattle.sp_room.specs.History.{LeadsTo}
use Rattle.sp_kernel.specs.declared.kernel.Kernel.{Kernel}
use Rattle.sp_kernel.specs.Asks.{IsOpening, KernelSteps}
use Rattle.sp_kernel.specs.Faults.{fault_in, is_there}
use Rattle.sp_kernel.specs.KernelLaws.{control_is}

taken_faulted : (w : ℕ) (o : Option ℕ) (k : Control) → (takes w o k).faulted ≡ k.faulted
taken_faulted w None k = refl
taken_faulted w (Some q) k = refl

-- what stands after a note, and the entries of those after it
module _ (k : Control) (o : _) where
  back_faulted : (p : ℕ) (e : Event) → (comes_back p e k).faulted || is_there o ≡ k.faulted
      || is_there (Rattle.sp_kernel.specs.Faults.fault_by p e o)
  back_faulted p (event.Fault f) = sym (or_with_true k.faulted)
  back_faulted p (event.Send c) = ap (λ b. b || is_there o) (offers_faulted _ _ p c (k.pending c) k)
  back_faulted p (event.Receive c) = ap (λ b. b || is_there o) (offers_faulted _ _ p c (k.pending c) k)
  back_faulted p event.End = ap (λ b. b || is_there o) (reports_faulted (k.births.birth p) (does p Ended k))
  back_faulted _ _ = refl

given_faulted : (p : Option ℕ) (e : Option Event) (got : Option ℕ) (k : Control) (ns : List Note)
    → (after_give p e got k).faulted || is_there (fault_in (entries_of ns)) ≡ k.faulted
    || is_there (fault_in (entry_of p e ++ entries_of ns))
given_faulted (Some p) (Some e) got k ns = back_faulted k (fault_in (entries_of ns)) p e
given_faulted None (Some e) got k ns = refl
given_faulted None None None k ns = refl
given_faulted (Some p) None None k ns = refl
given_faulted None None (Some z) k ns = refl
given_faulted (Some p) None (Some z) k ns = refl

faulted_all : (ns : List Note) (k : Control)
    → (after_notes ns k).faulted ≡ k.faulted || is_there (fault_in (entries_of ns))
faulted_all [] k = is_or_false k.faulted
faulted_all (n ∷ ns) k = faulted_all ns (after_note n k)
    ∙ ap (λ b. b || is_there (fault_in (entries_of ns)))
    (taken_faulted n.worker n.got (after_give n.given n.event n.got k))
    ∙ given_faulted n.given n.event n.got k ns

pub fault_told : (x : Kernel) (fine : IsOpening x) (log : List Note) (y : Kernel) → LeadsTo KernelSteps x log y
    → y.journal.entries ≡ entries_of log → y.faulted ≡ is_there (fault_in y.journal.entries)
fault_told x fine log y told journal = ap (λ (k : Control). k.faulted) (control_is x fine log y told)
    ∙ faulted_all log _ ∙ ap (λ l. is_there (fault_in l)) (sym journal)
