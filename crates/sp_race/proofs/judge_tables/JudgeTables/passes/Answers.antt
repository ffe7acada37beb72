use Rattle.std.proofs.Common.{length, ap}
use Rattle.std.proofs.lemmas.Result.{on_ok_weaker}
use Rattle.sp_race.proofs.Steps.{made_inside, passed}
use Rattle.sp_race.proofs.judge_tables.JudgeTables.passes.Goals as goal

pub pass-requires : goal.pass-requires
pass-requires c = made_inside c.args.entries.now c.requires.tame c.args.at
    (record { process = c.args.process; event = c.args.event }) c.requires.here c.args.until.now c.args.self.now
    c.requires.holds

pub returns : goal.returns
returns c =
    on_ok_weaker c.pass.result (λ places. passed c.args.entries.now c.requires.tame c.args.at
    (record { process = c.args.process; event = c.args.event }) c.requires.here c.args.until.now c.args.self.now
    c.requires.holds
    c.pass.new.self (ap length c.pass.ensures.clocks) places c.requires.plain c.pass.ensures.made c.pass.ensures.lines
    c.pass.ensures.clocks c.pass.ensures.next) c.pass.ensures.places
