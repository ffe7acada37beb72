use Rattle.std.proofs.Common.{sym, ◌∙◌}
use Rattle.sp_verify_areas.proofs.OwnerSteps.{an_owner, first_true, second_true, visited}
use Rattle.sp_verify_areas.proofs.owners.visit.Goals as goal

pub hand-first-requires-clause-some : goal.hand-first-requires-clause-some
hand-first-requires-clause-some c = an_owner c.args.code.now c.in-Some.o.now
    (sym c.is_same.ensures ∙ c.if-is_same.false)

pub hand-first-requires-clause-owner : goal.hand-first-requires-clause-owner
hand-first-requires-clause-owner c =
    first_true c.args.code.now c.args.owners.now c.args.p c.in-Some.o.now c.in-Some-instr.instr
    c.ways_on-ways.result.first c.ways_on-ways.result.second
    c.requires.just c.requires.there (sym c.in-Some.ensures) (sym c.in-Some-instr.ensures) c.ways_on-ways.ensures

pub hand-second-requires-clause-some : goal.hand-second-requires-clause-some
hand-second-requires-clause-some c = an_owner c.args.code.now c.in-Some.o.now
    (sym c.is_same.ensures ∙ c.if-is_same.false)

pub hand-second-requires-clause-owner : goal.hand-second-requires-clause-owner
hand-second-requires-clause-owner c =
    second_true c.args.code.now c.args.owners.now c.args.p c.in-Some.o.now c.in-Some-instr.instr
    c.ways_on-ways.result.first c.ways_on-ways.result.second
    c.requires.just c.requires.there (sym c.in-Some.ensures) (sym c.in-Some-instr.ensures) c.ways_on-ways.ensures

pub hand_table-third-requires-clause-some : goal.hand_table-third-requires-clause-some
hand_table-third-requires-clause-some c = an_owner c.args.code.now c.in-Some.o.now (sym c.is_same.ensures
    ∙ c.if-is_same.false)

pub hand_table-third-requires-clause-owner : goal.hand_table-third-requires-clause-owner
hand_table-third-requires-clause-owner c =
    (c.requires.there, c.requires.just.each c.args.p c.in-Some.o.now (sym c.in-Some.ensures))

pub returns : goal.returns
returns c =
    visited c.args.code.now c.args.owners.now c.hand-first.new.owners c.hand-second.new.owners
    c.hand_table-third.new.owners c.args.p c.in-Some.o.now c.in-Some-instr.instr
    c.ways_on-ways.result.first c.ways_on-ways.result.second c.hand-first.result c.hand-second.result
    c.hand_table-third.result
    (sym c.in-Some.ensures) (sym c.in-Some-instr.ensures) c.ways_on-ways.ensures c.hand-first.ensures
    c.hand-second.ensures c.hand_table-third.ensures
