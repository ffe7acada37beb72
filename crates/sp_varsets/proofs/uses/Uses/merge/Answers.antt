use Rattle.sp_varsets.proofs.AddedSets.{union_is, unions, went_well}
use Rattle.sp_varsets.proofs.uses.Uses.merge.Goals as goal

pub returns : goal.returns
returns c =
    let a = c.args.self.now in
    let b = c.args.other.now in
    unions a b c.join.new.self c.join-2.new.self c.join-3.new.self c.join-4.new.self c.is_err.result c.is_err-2.result
    c.is_err-3.result c.is_err-4.result
    (λ w. union_is a.targets b.targets c.join.new.self
    (went_well c.join.result c.is_err.result c.join.ensures c.is_err.ensures.value w))
    (λ w. union_is a.expressions b.expressions c.join-2.new.self
    (went_well c.join-2.result c.is_err-2.result c.join-2.ensures c.is_err-2.ensures.value w))
    (λ w. union_is a.calls b.calls c.join-3.new.self
    (went_well c.join-3.result c.is_err-3.result c.join-3.ensures c.is_err-3.ensures.value w))
    (λ w. union_is a.stops b.stops c.join-4.new.self
    (went_well c.join-4.result c.is_err-4.result c.join-4.ensures c.is_err-4.ensures.value w))
