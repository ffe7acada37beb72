use Rattle.std.proofs.Common.{◌≡◌, ℕ, Some, None, sym, ap, subst, refl, ◌∙◌}
use Rattle.sp_base.proofs.Facts.{on_ok}
use Rattle.sp_machine.specs.declared.state.State.{State as Proc}
use Rattle.sp_machine.specs.declared.state.Stop.TheVariants as stop
use Rattle.sp_kernel.specs.declared.slot.Slot.TheVariants as slot
use Rattle.sp_kernel.specs.declared.slot.State.TheVariants as st
use Rattle.sp_journal.specs.declared.entry.Event.TheVariants as event
use Rattle.sp_journal.specs.Births.{births}
use Rattle.sp_kernel.specs.declared.handed.Handed.{Handed}
use Rattle.sp_kernel.specs.declared.kernel.Kernel.{Kernel}
use Rattle.sp_kernel.specs.Kernels.{parent_in, IsAfterGive, IsKernel, kernel_after_give}
use Rattle.sp_kernel.specs.Fits.{FitsHanded}
use Rattle.sp_kernel.proofs.KernelEvents.{there}
use Rattle.sp_kernel.proofs.EndEvents.{IsChild, is_child, child_joins, child_apart, child_there, gave_end, gave_root}
use Rattle.sp_kernel.proofs.EndEvents.{no_birth}
use Rattle.sp_kernel.proofs.kernel.Kernel.end_of.Goals as goal

abbrev at_end : Proc → Handed
at_end p = record { proc = p; stop = stop.End }

child : (x : Kernel) (k : IsKernel x) (w : ℕ) (p : Proc) → FitsHanded x w (at_end p) → (n z : ℕ) (o : _) → n ≡ p.number
    → o ≡ parent_in (Rattle.std.specs.Prelude.slice_get x.parents n) → o ≡ Some z → IsChild x p.number z
child x k w p fits n z o e f g = is_child x k w (at_end p) fits z
    (ap (λ i. parent_in (Rattle.std.specs.Prelude.slice_get x.parents i)) (sym e) ∙ sym f ∙ g)

pub end_child-requires-clause-there : goal.end_child-requires-clause-there
end_child-requires-clause-there c = (
  there c.args.self.now c.requires.whole c.args.proc.number c.args._worker c.requires.fits.out,
  child_there c.args.self.now c.requires.whole c.args._worker
      (at_end c.args.proc) refl c.requires.no_fault c.requires.fits
      c.in-Some.parent (child c.args.self.now c.requires.whole c.args._worker c.args.proc c.requires.fits
      c.number.result c.in-Some.parent c.parent.result c.number.ensures c.parent.ensures c.in-Some.is),
)

pub end_child-requires-clause-apart : goal.end_child-requires-clause-apart
end_child-requires-clause-apart c =
    child_apart c.args.self.now c.requires.whole c.args._worker (at_end c.args.proc) refl c.requires.no_fault
    c.requires.fits c.in-Some.parent (child c.args.self.now c.requires.whole c.args._worker c.args.proc
    c.requires.fits c.number.result c.in-Some.parent c.parent.result c.number.ensures c.parent.ensures c.in-Some.is)

pub end_child-requires-clause-joiner : goal.end_child-requires-clause-joiner
end_child-requires-clause-joiner c =
    child_joins c.args.self.now c.requires.whole c.args._worker (at_end c.args.proc) refl c.requires.no_fault
    c.requires.fits c.in-Some.parent (child c.args.self.now c.requires.whole c.args._worker c.args.proc
    c.requires.fits c.number.result c.in-Some.parent c.parent.result c.number.ensures c.parent.ensures c.in-Some.is)

pub returns-in-None-clause-ok : goal.returns-in-None-clause-ok
returns-in-None-clause-ok c = on_ok c.end_root.result c.end_root.ensures.ok (λ done.
    let x : Kernel = c.args.self.now in
    let (over, enters, kernel_is) = done in
    let (_, same_number, _, _) = enters in
    let none : (births x.journal.entries).birth c.args.proc.number ≡ None =
    no_birth _ (sym (c.requires.whole.parents.each c.args.proc.number)
    ∙ ap (λ i. parent_in (Rattle.std.specs.Prelude.slice_get x.parents i)) (sym c.number.ensures)
    ∙ sym c.parent.ensures ∙ c.in-None.is) in
    subst (IsAfterGive x c.args.proc.number (at_end c.args.proc)) (sym kernel_is)
    (subst (λ n. IsAfterGive x c.args.proc.number (at_end c.args.proc)
    (kernel_after_give n event.End (slot.Here over st.Over) x))
    same_number (gave_root x c.requires.whole c.args.proc.number c.args._worker c.requires.fits.out
    (at_end c.args.proc) refl c.requires.no_fault (refl, c.requires.fits.input) over enters none)))

pub returns-in-Some-clause-ok : goal.returns-in-Some-clause-ok
returns-in-Some-clause-ok c = on_ok c.end_child.result c.end_child.ensures.ok (λ done.
    let x : Kernel = c.args.self.now in
    subst (IsAfterGive x c.args.proc.number (at_end c.args.proc)) (sym done.2)
    (gave_end x c.requires.whole c.args._worker (at_end c.args.proc) refl c.requires.no_fault c.requires.fits
    c.in-Some.parent (child x c.requires.whole c.args._worker c.args.proc c.requires.fits c.number.result
    c.in-Some.parent c.parent.result c.number.ensures c.parent.ensures c.in-Some.is) done.0 done.1))
