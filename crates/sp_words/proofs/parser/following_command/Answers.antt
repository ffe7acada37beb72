use Rattle.std.proofs.Common.{map}
use Rattle.std.specs.List.{fold}
use Rattle.clap.specs.Words.{with_rule}
use Rattle.sp_words.specs.Parsers.{app_with_file, journal_rule, limit_parsers, option_rule}
use Rattle.sp_words.proofs.ParserLemmas.{added, ruled, top_of}
use Rattle.sp_words.proofs.parser.following_command.Goals as goal

pub returns-clause-shape : goal.returns-clause-shape
returns-clause-shape c =
    let file = app_with_file c.args.name.now in
    let both = with_rule file journal_rule in
    let journal = ruled journal_rule file _ _ _
    (c.with_arg-command.ensures.rule c.word_arg.ensures.local) c.word_arg.ensures.rule c.plain_command.ensures.app
    in
    top_of (fold with_rule both (map option_rule limit_parsers)) _
    (added (λ a. fold with_rule a (map option_rule limit_parsers)) both _ _ c.with_limits.ensures.rules journal)

pub returns-clause-local : goal.returns-clause-local
returns-clause-local c = c.with_limits.ensures.local
    (c.with_arg-command.ensures.local c.word_arg.ensures.local c.plain_command.ensures.local)
