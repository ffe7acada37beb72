use Rattle.std.proofs.Common.{subst, sym}
use Rattle.sp_verify_rules.specs.Verdict.{BreaksV6}
use Rattle.sp_verify_effects.proofs.breach.least_breach.Goals as goal

pub loop-round-init : goal.loop-round-init
loop-round-init c = subst (BreaksV6 c.args.g.now.code.now) (sym c.halving_of-halving.ensures) c.requires.broken
