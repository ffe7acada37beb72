use Rattle.std.proofs.Common.{ap, sym, ◌∙◌}
use Rattle.sp_verify_effects.specs.declared.edges.Edge.{Edge}
use Rattle.sp_verify_effects.specs.FactClosure.{fact_along}
use Rattle.sp_verify_effects.proofs.closure.fact_along.Goals as goal

pub returns-in-Started : goal.returns-in-Started
returns-in-Started c = c.along_start.ensures c.args.own
    ∙ ap (λ (e : Edge). fact_along e c.args.own c.args.effect) (sym c.in-Started.is)

pub returns-in-Passed : goal.returns-in-Passed
returns-in-Passed c = c.along_formal.ensures c.args.own
    ∙ ap (λ (e : Edge). fact_along e c.args.own c.args.effect) (sym c.in-Passed.is)
