use Rattle.std.proofs.Common.{rules, tests, sym, subst}
use Rattle.std.proofs.lemmas.List.Sorted.{IsPartitionPoint-from_clause, IsPartitionedBy-leb}
use Rattle.std.specs.List.Sorted.{IsNonDecreasingBy}
use Rattle.sp_journal.specs.declared.ledger.Family.{Family}
use Rattle.sp_journal.proofs.Families.{Point, begins, no_birth_from_point, birth_from_point, first_from_point}
use Rattle.sp_journal.proofs.ledger.Ledger.birth.Goals as goal

pub returns-then-after-eq0 : goal.returns-then-after-eq0
returns-then-after-eq0 c =
    let fs = c.items-families.result.now in
    let p : Point fs c.args.process c.partition_point-after.result =
    IsPartitionPoint-from_clause (begins c.args.process) fs c.partition_point-after.result
    c.partition_point-after.ensures.partitioned
    (IsPartitionedBy-leb (λ (f : Family). f.first) fs c.args.process
    (subst (IsNonDecreasingBy (λ (f : Family). f.first)) (sym c.items-families.ensures) c.requires.ledger.in_order))
    (λ a r f k. search (rules, tests)) in
    no_birth_from_point c.args.self.now c.requires.ledger c.args.process c.requires.there fs c.items-families.ensures
    c.partition_point-after.result p c.if-after-eq0.true

pub overflow_sub-result : goal.overflow_sub-result
overflow_sub-result c =
    let fs = c.items-families.result.now in
    let p : Point fs c.args.process c.partition_point-after.result =
    IsPartitionPoint-from_clause (begins c.args.process) fs c.partition_point-after.result
    c.partition_point-after.ensures.partitioned
    (IsPartitionedBy-leb (λ (f : Family). f.first) fs c.args.process
    (subst (IsNonDecreasingBy (λ (f : Family). f.first)) (sym c.items-families.ensures) c.requires.ledger.in_order))
    (λ a r f k. search (rules, tests)) in
    rw c.from.ensures (first_from_point c.args.process fs c.partition_point-after.result _ p c.if-after-eq0.false)

pub returns : goal.returns
returns c =
    let fs = c.items-families.result.now in
    let p : Point fs c.args.process c.partition_point-after.result =
    IsPartitionPoint-from_clause (begins c.args.process) fs c.partition_point-after.result
    c.partition_point-after.ensures.partitioned
    (IsPartitionedBy-leb (λ (f : Family). f.first) fs c.args.process
    (subst (IsNonDecreasingBy (λ (f : Family). f.first)) (sym c.items-families.ensures) c.requires.ledger.in_order))
    (λ a r f k. search (rules, tests)) in
    rw c.from.ensures (birth_from_point c.args.self.now c.requires.ledger c.args.process c.requires.there fs
    c.items-families.ensures c.partition_point-after.result _ p c.if-after-eq0.false
    c.partition_point-after.ensures.bound)
