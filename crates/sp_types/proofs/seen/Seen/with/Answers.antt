use Rattle.std.proofs.Common.{sym, subst, List}
use Rattle.sp_types.specs.declared.tables.Ordinal.{Ordinal}
use Rattle.sp_types.specs.Seen.{IsSet}
use Rattle.sp_types.proofs.ConstantSets.{grown}
use Rattle.sp_types.proofs.seen.Seen.with.Goals as goal

pub invariant_of-result : goal.invariant_of-result
invariant_of-result c = subst (λ (xs : List Ordinal). IsSet xs c.insert.new.self.keys) (sym c.in-Ok.ensures.items)
    (grown c.self.inside.list.items c.self.inside.set.keys c.insert.new.self.keys c.args.o c.key_of-key.result
    c.key_of-key.ensures c.self.invariant c.in-Ok-insert.ensures.updates.0)
