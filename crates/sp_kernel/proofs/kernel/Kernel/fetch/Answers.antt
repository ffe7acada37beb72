use Rattle.std.proofs.Common.{◌∙◌, sym, ap, subst, refl, Option, Some, slice_set}
use Rattle.sp_kernel.specs.declared.slot.Slot.{Slot}
use Rattle.sp_kernel.specs.declared.slot.Slot.TheVariants as slot
use Rattle.sp_kernel.specs.declared.slot.State.TheVariants as st
use Rattle.sp_kernel.specs.Receives.{IsSenderWith}
use Rattle.sp_kernel.proofs.Tables.{set_twice}
use Rattle.sp_kernel.proofs.kernel.Kernel.fetch.Goals as goal

pub returns-clause-given : goal.returns-clause-given
returns-clause-given c = (
  c.in-Here.sender,
  subst (λ (o : Option Slot). IsSenderWith o c.in-Here.sender c.in-Sending.cells) (sym c.replace.ensures.replaced)
      (subst (λ (s : Slot). IsSenderWith (Some s) c.in-Here.sender c.in-Sending.cells)
      (sym (c.in-Here.is ∙ ap (slot.Here c.in-Here.sender) c.in-Sending.is)) (refl, refl)),
  λ i. record c.args.self.now {
    slots = (c.put.ensures
        ∙ ap (λ l. slice_set l c.args.other (slot.Here c.in-Here.sender st.Ready)) c.replace.ensures.list
        ∙ set_twice c.args.self.now.slots c.args.other slot.Ended (slot.Here c.in-Here.sender st.Ready)) i;
  },
)
