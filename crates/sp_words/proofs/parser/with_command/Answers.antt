use Rattle.sp_words.proofs.ParserLemmas.{adds_command}
use Rattle.sp_words.proofs.parser.with_command.Goals as goal

pub returns-in-Ok-line : goal.returns-in-Ok-line
returns-in-Ok-line c = adds_command c.in-Ok-line.line c.in-Ok.command c.args.line c.args.command c.subcommand.result
    c.in-Ok-line.is c.in-Ok.is c.subcommand.ensures
