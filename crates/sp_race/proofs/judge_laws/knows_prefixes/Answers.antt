use Rattle.sp_race.proofs.PrefixLaws.{prefixes, counted_alone}
use Rattle.sp_race.proofs.judge_laws.knows_prefixes.Goals as goal

pub returns-clause-prefixes : goal.returns-clause-prefixes
returns-clause-prefixes c = prefixes

pub returns-clause-counted : goal.returns-clause-counted
returns-clause-counted c = counted_alone
