use Rattle.std.proofs.Common.{sym, ap, subst, ◌∙◌, Option, Some, slice_set}
use Rattle.sp_kernel.specs.declared.slot.Slot.{Slot}
use Rattle.sp_kernel.specs.declared.slot.Slot.TheVariants as slot
use Rattle.sp_kernel.specs.declared.slot.State.TheVariants as st
use Rattle.sp_kernel.specs.Sends.{Receives}
use Rattle.sp_kernel.specs.Procs.{config_of}
use Rattle.sp_machine.specs.declared.state.State.{State as Proc}
use Rattle.sp_kernel.proofs.Tables.{set_twice}
use Rattle.sp_kernel.proofs.kernel.Kernel.deliver.Goals as goal

pub returns : goal.returns
returns c = (
  c.resume.new.self,
  subst (λ (o : Option Slot). Receives o c.args.cells c.resume.new.self)
      (sym c.replace.ensures.replaced) (subst (λ (s : Slot). Receives (Some s) c.args.cells c.resume.new.self)
      (sym (c.in-Here-default-Receiving.is ∙ ap (slot.Here c.in-Here-default-Receiving.receiver)
      c.in-Here-default-Receiving.field-1-is)) (
        ap config_of c.resume.ensures,
        ap (λ (p : Proc). p.number) c.resume.ensures,
        ap (λ (p : Proc). p.input.value) c.resume.ensures,
      )),
  λ i. record c.args.self.now {
    slots = (c.put.ensures
        ∙ ap (λ l. slice_set l c.args.other (slot.Here c.resume.new.self st.Ready)) c.replace.ensures.list
        ∙ set_twice c.args.self.now.slots c.args.other slot.Ended (slot.Here c.resume.new.self st.Ready)) i;
  },
)
