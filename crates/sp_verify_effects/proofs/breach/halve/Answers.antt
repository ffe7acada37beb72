use Rattle.std.proofs.Common.{subst, sym}
use Rattle.sp_verify_rules.specs.Verdict.{BreaksV6}
use Rattle.sp_verify_effects.proofs.breach.halve.Goals as goal

pub returns-in-None : goal.returns-in-None
returns-in-None c = subst (BreaksV6 c.args.g.now.code.now) (sym c.later.ensures) c.requires.broken

pub returns-in-Some : goal.returns-in-Some
returns-in-Some c = subst (BreaksV6 c.args.g.now.code.now) (sym c.earlier.ensures)
    (c.in-Ok.ensures c.in-Some.q c.in-Some.is)
