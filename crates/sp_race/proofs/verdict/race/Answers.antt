use Rattle.std.proofs.Common.{◌<◌, sym, ap, ◌∙◌, subst}
use Rattle.sp_journal.specs.Names.{chan_name}
use Rattle.sp_journal.specs.Births.{births, channel}
use Rattle.sp_race.proofs.VerdictSteps.{channel_inside, not_unknown, race_judged}
use Rattle.sp_race.proofs.verdict.race.Goals as goal

pub first_unknown-requires-clause-here : goal.first_unknown-requires-clause-here
first_unknown-requires-clause-here c = c.requires.racing.0

pub channel-requires-clause-there : goal.channel-requires-clause-there
channel-requires-clause-there c = subst (λ es. c.args.racing_offer.channel < (births es).channels)
    (sym c.requires.its_journal)
    (channel_inside c.args.entries.now c.requires.tame c.args.at c.requires.in_order c.args.racing_offer
    c.requires.racing)

pub returns-in-None : goal.returns-in-None
returns-in-None c = absurd
    (not_unknown c.args.entries.now c.requires.tame c.args.at c.requires.in_order c.args.racing_offer
    c.requires.racing (rw c.in-None.is at c.in-Ok.ensures))

pub returns-in-Ok-channel : goal.returns-in-Ok-channel
returns-in-Ok-channel c = race_judged c.args.entries.now c.requires.tame c.args.at c.requires.in_order
    c.args.racing_offer c.requires.racing c.in-Some.earlier (rw c.in-Some.is at c.in-Ok.ensures)
    c.in-Ok-channel.value (c.in-Ok-channel.ensures
    ∙ ap (λ es. chan_name (channel (births es) c.args.racing_offer.channel)) c.requires.its_journal)
