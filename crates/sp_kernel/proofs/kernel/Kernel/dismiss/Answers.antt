use Rattle.std.proofs.Common.{◌≡◌, ◌-◌, length, take, Some, sym, ◌∙◌}
use Rattle.sp_kernel.specs.declared.slot.Slot.TheVariants as slot
use Rattle.sp_kernel.specs.ListEnds.{repeat, without_last}
use Rattle.sp_kernel.proofs.ListEnds.{numbers_gone, front_only, last_gone}
use Rattle.sp_kernel.proofs.kernel.Kernel.dismiss.Goals as goal

pub returns : goal.returns
returns c = λ x p l m is.
    let slots : c.truncate.new.self ≡ x.slots = c.truncate.ensures ∙ (λ i. take (sym l i) (is i).slots)
    ∙ front_only x.slots (repeat c.args.count slot.Ended) in
    let parents : c.truncate-2.new.self ≡ x.parents = c.truncate-2.ensures ∙ (λ i. take (sym m i) (is i).parents)
    ∙ front_only x.parents (repeat c.args.count (Some p)) in
    let ready : c.shorten.new.self ≡ x.ready = c.shorten.ensures
    ∙ (λ i. take (length (is i).ready - c.args.count) (is i).ready)
    ∙ numbers_gone x.ready (length x.slots) c.args.count in
    let entries : c.drop_last.new.entries ≡ x.journal.entries = c.drop_last.ensures
    ∙ (λ i. without_last (is i).journal.entries) ∙ last_gone x.journal.entries _ in
    λ i. record (is i) {
      slots = slots i;
      parents = parents i;
      ready = ready i;
      journal = record { entries = entries i };
    }
