use Rattle.std.proofs.Common.{◌≡◌, ◌∙◌, true, ap, subst}
use Rattle.sp_varsets.specs.Members.{has}
use Rattle.sp_varsets.specs.Records.{IsSetOfIndex, slot_at}
use Rattle.sp_varsets.proofs.StatementRecords.{keeps_is}
use Rattle.sp_varsets.proofs.walk.Walk.keep.Goals as goal

pub returns : goal.returns
returns c k3 =
    let k2 = c.record.ensures.kept k3 in
    let k1 = c.put-calls.ensures.kept k2 in
    let k = c.put-expressions.ensures.kept k1 in
    let targets = subst (λ s. IsSetOfIndex c.put-targets.new.self.pool c.put-targets.result (λ x. has s x ≡ true))
    c.take.ensures (c.put-targets.ensures.set k) in
    let expressions = subst (λ s. IsSetOfIndex c.put-expressions.new.self.pool c.put-expressions.result
    (λ x. has s x ≡ true)) c.take-2.ensures (c.put-expressions.ensures.set k1) in
    let calls = subst (λ s. IsSetOfIndex c.put-calls.new.self.pool c.put-calls.result (λ x. has s x ≡ true))
    c.take-3.ensures (c.put-calls.ensures.set k2) in
    keeps_is c.args.self.now c.record.new.self c.put-targets.new.self.pool c.put-expressions.new.self.pool
    c.put-calls.new.self.pool c.args.number c.put-targets.result c.put-expressions.result c.put-calls.result
    c.args.uses.now (c.put-targets.ensures.pool k) targets (c.put-expressions.ensures.pool k1) expressions
    (c.put-calls.ensures.pool k2) calls c.record.ensures.pool (c.record.ensures.there k3)
    (λ m away. c.record.ensures.others k3 m away ∙ (ap (λ z. slot_at z m) c.put-calls.ensures.slots
    ∙ (ap (λ z. slot_at z m) c.put-expressions.ensures.slots ∙ ap (λ z. slot_at z m) c.put-targets.ensures.slots)))
