use Rattle.std.proofs.Common.{sym, ◌∙◌}
use Rattle.sp_verify_effects.proofs.Allowing.{within_sets}
use Rattle.sp_verify_effects.proofs.allowance.is_within.Goals as goal

pub returns-then-not-stops_within : goal.returns-then-not-stops_within
returns-then-not-stops_within c = λ t. absurd (cc t)

pub returns-then-lets_all : goal.returns-then-lets_all
returns-then-lets_all c = λ t. within_sets c.args.one.now c.args.other.now
    (sym c.stops_within.ensures ∙ c.if-not-stops_within.false)
    (c.lets_all.ensures c.if-lets_all.true)
    (c.lets_all-then-lets_all.ensures t)

pub returns-else-lets_all : goal.returns-else-lets_all
returns-else-lets_all c = λ t. absurd (cc t)
