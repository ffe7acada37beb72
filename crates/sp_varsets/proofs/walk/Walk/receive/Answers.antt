use Rattle.std.proofs.Common.{◌+◌}
use Rattle.sp_tree.specs.PlainChecked.{Receive}
use Rattle.sp_tree.specs.CheckedOf.{variable_of}
use Rattle.sp_tree.specs.Bare.{bare_expression}
use Rattle.sp_varsets.proofs.StatementRecords.{statement_walked, walked_none}
use Rattle.sp_varsets.proofs.walk.Walk.receive.Goals as goal

pub returns : goal.returns
returns c at channel start e f =
    let does = Receive channel (variable_of c.args.variable.now) in
    statement_walked (c.args.first + c.args.i) at does c.keep_behind.new.self.is_lost c.new-mine.ensures
    (walked_none (c.receive_through.ensures (bare_expression channel) start e f)) c.merge.ensures c.keep_behind.ensures
