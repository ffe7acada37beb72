use Rattle.sp_parse.proofs.Looking.{looks_none, looks_first}
use Rattle.sp_parse.proofs.source.Tokens.look.Goals as goal

pub returns-in-empty : goal.returns-in-empty
returns-in-empty c = looks_none c.args.source.now c.args.self.now c.fail.new.self c.requires c.in-empty.len_below
    c.fail.ensures

pub returns-in-len1-up : goal.returns-in-len1-up
returns-in-len1-up c = looks_first c.args.source.now c.args.self.now _ c.requires c.in-len1-up.len_at_least
