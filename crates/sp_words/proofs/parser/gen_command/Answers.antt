use Rattle.std.proofs.Common.{codes}
use Rattle.clap.specs.Words.{with_rule}
use Rattle.clap.specs.declared.builder.value_parser.ValueParser.TheVariants.{Unsigned}
use Rattle.sp_words.specs.Parsers.{app_with_file, option_rule}
use Rattle.sp_words.proofs.ParserLemmas.{added, top_of}
use Rattle.sp_words.proofs.parser.gen_command.Goals as goal

pub returns-clause-shape : goal.returns-clause-shape
returns-clause-shape c =
    let file = app_with_file (codes "gen") in
    top_of (with_rule file (option_rule (codes "workers", Unsigned 1 64))) _
    (added (λ a. with_rule a (option_rule
    (codes "workers", Unsigned 1 64))) file _ _ c.with_number.ensures.rule c.plain_command.ensures.app)

pub returns-clause-local : goal.returns-clause-local
returns-clause-local c = c.with_number.ensures.local c.plain_command.ensures.local
