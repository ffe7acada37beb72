use Rattle.std.proofs.Common.{rules}
use Rattle.sp_parse.proofs.Looking.{passes, passes_not, passes_none}
use Rattle.sp_parse.proofs.source.Tokens.pass.Goals as goal

pub returns-then-not-is_empty : goal.returns-then-not-is_empty
returns-then-not-is_empty c = passes c.look-first.ensures (search rules) (search rules) c.skip.ensures

pub returns-else-not-is_empty : goal.returns-else-not-is_empty
returns-else-not-is_empty c = passes_none c.args.kind c.look-first.ensures (search rules)

pub returns-else-eq : goal.returns-else-eq
returns-else-eq c = passes_not c.args.kind c.look-first.ensures (search rules)
