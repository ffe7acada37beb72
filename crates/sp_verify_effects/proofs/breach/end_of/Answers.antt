use Rattle.std.proofs.Common.{sym, ◌∙◌}
use Rattle.std.proofs.lemmas.Option.{none-some}
use Rattle.sp_verify_effects.proofs.breach.end_of.Goals as goal

pub walk-requires-clause-done : goal.walk-requires-clause-done
walk-requires-clause-done c = c.in-Ok-told_of.ensures c.args.way.now.start (sym c.has.ensures ∙ c.if-not-has.false)

pub returns-then-not-has : goal.returns-then-not-has
returns-then-not-has c = λ f e. absurd (none-some f e)
