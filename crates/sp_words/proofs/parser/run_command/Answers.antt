use Rattle.std.proofs.Common.{codes, map}
use Rattle.std.specs.List.{fold}
use Rattle.clap.specs.Words.{with_rule}
use Rattle.clap.specs.declared.builder.value_parser.ValueParser.TheVariants.{Unsigned}
use Rattle.sp_words.specs.Parsers.{app_with_file, limit_parsers, option_rule}
use Rattle.sp_words.proofs.ParserLemmas.{added, shown, top_with}
use Rattle.sp_words.proofs.parser.run_command.Goals as goal

pub returns-clause-shape : goal.returns-clause-shape
returns-clause-shape c =
    let file = app_with_file (codes "run") in
    let workers = with_rule file (option_rule (codes "workers", Unsigned 1 64)) in
    let known = added (λ a. with_rule a
    (option_rule (codes "workers", Unsigned 1 64))) file _ _ c.with_number-command.ensures.rule
    c.plain_command.ensures.app in
    let limits = added (λ a. fold with_rule a
    (map option_rule limit_parsers)) workers _ _ c.with_limits.ensures.rules known in
    top_with (λ q. with_rule (fold with_rule workers (map option_rule limit_parsers)) (option_rule (codes "show", q))) _
    (shown (fold with_rule workers (map option_rule limit_parsers)) _ _ _
    (c.with_arg.ensures.rule c.show_arg.ensures.local) c.show_arg.ensures.rule limits)

pub returns-clause-local : goal.returns-clause-local
returns-clause-local c = c.with_arg.ensures.local c.show_arg.ensures.local
    (c.with_limits.ensures.local (c.with_number-command.ensures.local c.plain_command.ensures.local))
