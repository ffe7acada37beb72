use Rattle.sp_parse.proofs.TreeAnswers.{finished, not_finished}
use Rattle.sp_parse.proofs.parser.finish.Goals as goal

pub returns-in-len1-up : goal.returns-in-len1-up
returns-in-len1-up c = not_finished c.args.source.now c.args.tokens.now c.fail.new.self _ _ c.in-len1-up.len_at_least
    c.misplaced.ensures c.fail.ensures

pub returns-in-empty : goal.returns-in-empty
returns-in-empty c = finished c.args.source.now c.args.tokens.now c.in-empty.len_below
