use Rattle.std.proofs.Common.{sym, subst, List}
use Rattle.sp_verify_effects.specs.declared.facts.Fact.{Fact}
use Rattle.sp_verify_effects.specs.Facts.{AreIndexed}
use Rattle.sp_verify_effects.proofs.FactSets.{indexed_more}
use Rattle.sp_verify_effects.proofs.facts.Facts.with_new.Goals as goal

pub invariant_of-result : goal.invariant_of-result
invariant_of-result c = subst (λ (xs : List Fact). AreIndexed xs c.put.new.self) (sym c.in-Ok.ensures.ok)
    (indexed_more c.self.inside.all c.self.inside.index c.put.new.self c.args.fact c.self.invariant c.in-Ok-put.ensures)
