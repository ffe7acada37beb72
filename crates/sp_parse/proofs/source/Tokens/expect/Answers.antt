use Rattle.std.proofs.Common.{rules}
use Rattle.sp_parse.proofs.Looking.{expects, expects_not}
use Rattle.sp_parse.proofs.source.Tokens.expect.Goals as goal

pub returns-then-eq : goal.returns-then-eq
returns-then-eq c = expects c.args.kind c.look-first.ensures (search rules) c.skip.ensures

pub returns-else-eq : goal.returns-else-eq
returns-else-eq c = expects_not c.args.kind c.look-first.ensures (search rules) c.misplaced.ensures c.fail.ensures
