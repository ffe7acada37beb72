use Rattle.sp_replay.proofs.HistorySteps.{none_of}
use Rattle.sp_replay.proofs.Entries.{at_or}
use Rattle.sp_replay.proofs.LastTurns.{lasts_more, lasts_told, told_at}
use Rattle.sp_replay.proofs.TellingLaws.{of_none, of_some}
use Rattle.sp_replay.proofs.trace.lasts.Goals as goal

pub returns-in_default : goal.returns-in_default
returns-in_default c = lasts_told c.args.entries.now c.args.told.now c.loop-index.index c.loop-index.out
    c.loop-index.invariant
    (of_none c.get.result _ _ c.get.ensures.lookup.3 (none_of c.get.result c.in_default.not-Some))

pub loop-index-preserved : goal.loop-index-preserved
loop-index-preserved c =
    let w = c.in-Some.told.now in
    let there = of_some c.get.result _ _ c.in-Some.told c.get.ensures.lookup.3 c.in-Some.is in
    lasts_more c.args.entries.now c.args.told.now c.loop-index.index _ w c.loop-index.out c.put_last.new.lasts
    (at_or c.args.entries.now c.loop-index.index _ c.loop-index-test.true)
    (told_at c.args.told.now c.loop-index.index w there.0 (there.1 w)) c.in_ok-put_last.ensures c.loop-index.invariant
