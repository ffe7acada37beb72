use Rattle.std.proofs.Common.{subst}
use Rattle.std.proofs.lemmas.Option.{none-some, same_Some}
use Rattle.sp_verify_effects.specs.FactClosure.{IsDone}
use Rattle.sp_verify_effects.proofs.breach.walk.Goals as goal

pub loop-number-preserved : goal.loop-number-preserved
loop-number-preserved c = c.step.ensures c.in-Some.next c.in-Some.is

pub returns-in-None : goal.returns-in-None
returns-in-None c = λ f e. absurd (none-some f e)

pub returns : goal.returns
returns c = λ f e. subst (IsDone c.args.g.now.code.now) (same_Some c.loop-number.fact f e) c.loop-number.invariant
