use Rattle.std.proofs.Common.{[]}
use Rattle.sp_words.specs.Parsers.{app_with_file, shape_with}
use Rattle.sp_words.proofs.ParserLemmas.{shaped, top_of}
use Rattle.sp_words.proofs.parser.with_plain.Goals as goal

pub returns : goal.returns
returns c =
    shaped (shape_with c.args.name.now []) _ _ _ c.with_command.ensures c.plain_command.ensures.local
    (top_of (app_with_file c.args.name.now) _ c.plain_command.ensures.app)
