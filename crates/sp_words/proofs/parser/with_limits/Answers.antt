use Rattle.std.proofs.Common.{codes, ℕ, map, take}
use Rattle.std.specs.List.{fold}
use Rattle.clap.specs.Words.{App, with_rule}
use Rattle.clap.specs.declared.builder.value_parser.ValueParser.TheVariants.{Unsigned}
use Rattle.sp_words.specs.Dashes.{Text}
use Rattle.sp_words.specs.Parsers.{limit_parsers, option_rule}
use Rattle.sp_words.proofs.ParserLemmas.{in_turn}
use Rattle.sp_words.proofs.parser.with_limits.Goals as goal

-- one option with a number
abbrev number : Text → ℕ → App → App
number name most a = with_rule a (option_rule (name, Unsigned 1 most))

-- the first of the options
abbrev first : ℕ → App → App
first n a = fold with_rule a (map option_rule (take n limit_parsers))

pub returns-clause-rules : goal.returns-clause-rules
returns-clause-rules c =
    in_turn (number (codes "output") 268435456) (first 6) _ _ _ c.with_number.ensures.rule
    (in_turn (number (codes "entries") 10000000) (first 5) _ _ _ c.with_number-command-6.ensures.rule
    (in_turn (number (codes "channels") 1000000) (first 4) _ _ _ c.with_number-command-5.ensures.rule
    (in_turn (number (codes "processes") 1000000) (first 3) _ _ _ c.with_number-command-4.ensures.rule
    (in_turn (number (codes "cells") 67108864) (first 2) _ _ _ c.with_number-command-3.ensures.rule
    (in_turn (number (codes "depth") 10000)
    (first 1) _ _ _ c.with_number-command-2.ensures.rule c.with_number-command.ensures.rule)))))

pub returns-clause-local : goal.returns-clause-local
returns-clause-local c = λ l. c.with_number.ensures.local
    (c.with_number-command-6.ensures.local
    (c.with_number-command-5.ensures.local
    (c.with_number-command-4.ensures.local
    (c.with_number-command-3.ensures.local
    (c.with_number-command-2.ensures.local (c.with_number-command.ensures.local l))))))
