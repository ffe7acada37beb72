use Rattle.std.proofs.Common.{◌∙◌, sym, ap, subst, Option, Some, slice_set}
use Rattle.sp_machine.specs.declared.state.State.{State as Proc}
use Rattle.sp_kernel.specs.declared.slot.Slot.{Slot}
use Rattle.sp_kernel.specs.declared.slot.Slot.TheVariants as slot
use Rattle.sp_kernel.specs.Procs.{config_of}
use Rattle.sp_kernel.specs.Ends.{JoinedSlot}
use Rattle.sp_kernel.proofs.Tables.{set_twice}
use Rattle.sp_kernel.proofs.kernel.Kernel.rejoin.Goals as goal

pub returns : goal.returns
returns c = (
  slot.Here c.join.new.self c.one_fewer.result,
  subst (λ (o : Option Slot). JoinedSlot o c.args.child (slot.Here c.join.new.self c.one_fewer.result))
      (sym c.replace.ensures.replaced)
      (subst (λ (s : Slot). JoinedSlot (Some s) c.args.child (slot.Here c.join.new.self c.one_fewer.result))
      (sym (c.in-Here.is ∙ ap (slot.Here c.in-Here.process) c.in-Joining.is)) (
        c.join.new.self,
        ap (slot.Here c.join.new.self) c.one_fewer.ensures,
        (
          ap config_of c.join.ensures,
          ap (λ (p : Proc). p.number) c.join.ensures,
          ap (λ (p : Proc). p.input.value) c.join.ensures,
        ),
      )),
  λ i. record c.args.self.now {
    slots = (c.put.ensures
        ∙ ap (λ l. slice_set l c.args.parent (slot.Here c.join.new.self c.one_fewer.result)) c.replace.ensures.list
        ∙ set_twice c.args.self.now.slots c.args.parent slot.Ended (slot.Here c.join.new.self c.one_fewer.result)) i;
  },
)
