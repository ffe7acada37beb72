use Rattle.sp_race.proofs.EntryFacts.{clocks_say}
use Rattle.sp_race.proofs.judge_laws.clocks_say_what_is_known.Goals as goal

pub returns : goal.returns
returns c = clocks_say
