use Rattle.std.proofs.Common.{rules, ◌≡◌, ◌-◌, ◌++◌, ℕ, List, length, take, Some, ap, ◌∙◌}
use Rattle.sp_journal.specs.Queue.{numbers}
use Rattle.sp_kernel.specs.declared.slot.Slot.TheVariants as slot
use Rattle.sp_kernel.specs.declared.kernel.Kernel.{Kernel}
use Rattle.sp_kernel.specs.ListEnds.{repeat}
use Rattle.sp_kernel.proofs.ListEnds.{numbers_gone, front_only}
use Rattle.sp_kernel.proofs.kernel.Kernel.admit.Goals as goal

-- a queue that was made longer and shorter again
shorter : (old r s : List ℕ) (first n : ℕ) → r ≡ old ++ numbers first n → s ≡ take (length r - n) r → s ≡ old
shorter old r s first n e f = f ∙ ap (λ l. take (length l - n) l) e ∙ numbers_gone old first n

-- a list that was cut where it ended before
cut : {X : Type 0} (old new s more : List X) (n : ℕ) → new ≡ old ++ more → n ≡ length old → s ≡ take n new → s ≡ old
cut old new s more n e f g = g ∙ (λ i. take (f i) (e i)) ∙ front_only old more

pub returns-then-is_err-clause-err : goal.returns-then-is_err-clause-err
returns-then-is_err-clause-err c =
    let x : Kernel = c.args.self.now in
    let slots : c.add_slots.new.slots ≡ x.slots = search rules in
    let ready : c.shorten.new.self ≡ x.ready =
    shorter x.ready c.extend.new.self c.shorten.new.self c.len-first.result c.args.count c.in-Ok.ensures.ok
    c.shorten.ensures in
    λ i. record x { slots = slots i; ready = ready i }

pub returns-then-is_err-2-clause-err : goal.returns-then-is_err-2-clause-err
returns-then-is_err-2-clause-err c =
    let x : Kernel = c.args.self.now in
    let more : c.add_slots.new.slots ≡ x.slots ++ repeat c.args.count slot.Ended = search rules in
    let parents : c.add_parents.new.parents ≡ x.parents = search rules in
    let slots : c.truncate.new.self ≡ x.slots =
    cut x.slots c.add_slots.new.slots c.truncate.new.self (repeat c.args.count slot.Ended) c.len-first.result more
    c.len-first.ensures c.truncate.ensures in
    let ready : c.shorten-then-is_err-2.new.self ≡ x.ready =
    shorter x.ready c.extend.new.self c.shorten-then-is_err-2.new.self c.len-first.result c.args.count
    c.in-Ok.ensures.ok c.shorten-then-is_err-2.ensures in
    λ i. record x { slots = slots i; parents = parents i; ready = ready i }

pub returns-then-is_err-3-clause-err : goal.returns-then-is_err-3-clause-err
returns-then-is_err-3-clause-err c =
    let x : Kernel = c.args.self.now in
    let n : c.note.new.self ≡ record x {
      slots = c.add_slots.new.slots;
      parents = c.add_parents.new.parents;
      ready = c.extend.new.self;
    } = search rules in
    let more : c.add_slots.new.slots ≡ x.slots ++ repeat c.args.count slot.Ended = search rules in
    let families : c.add_parents.new.parents ≡ x.parents ++ repeat c.args.count (Some c.args.process) = search rules in
    let slots : c.truncate-then-is_err-3.new.self ≡ x.slots =
    cut x.slots c.add_slots.new.slots c.truncate-then-is_err-3.new.self (repeat c.args.count slot.Ended)
    c.len-first.result more c.len-first.ensures
    (c.truncate-then-is_err-3.ensures ∙ ap (λ (k : Kernel). take c.len-first.result k.slots) n) in
    let parents : c.truncate-then-is_err-3-2.new.self ≡ x.parents =
    cut x.parents c.add_parents.new.parents c.truncate-then-is_err-3-2.new.self
    (repeat c.args.count (Some c.args.process)) c.len-families.result families c.len-families.ensures
    (c.truncate-then-is_err-3-2.ensures ∙ ap (λ (k : Kernel). take c.len-families.result k.parents) n) in
    let ready : c.shorten-then-is_err-3.new.self ≡ x.ready =
    shorter x.ready c.extend.new.self c.shorten-then-is_err-3.new.self c.len-first.result c.args.count
    c.in-Ok.ensures.ok (c.shorten-then-is_err-3.ensures
    ∙ ap (λ (k : Kernel). take (length k.ready - c.args.count) k.ready) n) in
    λ i. record (n i) { slots = slots i; parents = parents i; ready = ready i }
