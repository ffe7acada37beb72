use Rattle.std.proofs.Common.{◌≡◌, ◌∙◌, List, ap, map, sym}
use Rattle.std.specs.Prelude.{string_bytes}
use Rattle.std.proofs.lemmas.Result.{IfErr-weaker, IfOk-weaker}
use Rattle.clap.specs.Words.{app_of, found_of, subcommand_rows_of}
use Rattle.sp_words.specs.Words.{command_named}
use Rattle.sp_words.specs.declared.command.WordsError.TheVariants as WordsError
use Rattle.sp_words.proofs.Commands.{given_command, refused_command, words_read}
use Rattle.sp_words.proofs.reader.read_words.Goals as goal

pub returns-in-Some-subcommand-clause-ok : goal.returns-in-Some-subcommand-clause-ok
returns-in-Some-subcommand-clause-ok c =
    let line = words_read c.in_ok-parser.ensures.0 (string_bytes c.in-Some.first.now)
    (map string_bytes c.in-Some.rest.now) c.in-Some-command_named.command
    (map (λ s. s.now) c.option_names.result.now)
    c.in_ok-parser.ensures.2 (ap command_named (sym c.as_str.ensures.value)
    ∙ sym c.in-Some-command_named.ensures) c.option_names.ensures (sym c.keeps_dash_rule.ensures
    ∙ c.if-not-keeps_dash_rule.false) in
    let same = given_command (app_of c.in_ok-parser.parser) c.in_ok-parser.ensures.0 (string_bytes c.in-Some.first.now)
    (map string_bytes c.in-Some.rest.now) (map string_bytes c.args.words.now) c.in-Some-command_named.command
    (found_of c.in-Some-subcommand.given.now) (subcommand_rows_of c.in-Ok.matches) c.in_ok-parser.ensures.1
    (ap (λ (ws : List _). map string_bytes ws) c.in-Some.ensures.cases.0) line c.in-Ok.ensures.kinds
    (λ e. (c.in-Ok.ensures.matches e).1) c.in-Some-subcommand.ensures.rows in
    IfOk-weaker c.command_given.result _ _ (λ m h. sym same ∙ h) c.command_given.ensures.ok

pub returns-in-Some-subcommand-clause-refused : goal.returns-in-Some-subcommand-clause-refused
returns-in-Some-subcommand-clause-refused c =
    let line = words_read c.in_ok-parser.ensures.0 (string_bytes c.in-Some.first.now)
    (map string_bytes c.in-Some.rest.now) c.in-Some-command_named.command
    (map (λ s. s.now) c.option_names.result.now)
    c.in_ok-parser.ensures.2 (ap command_named (sym c.as_str.ensures.value)
    ∙ sym c.in-Some-command_named.ensures) c.option_names.ensures (sym c.keeps_dash_rule.ensures
    ∙ c.if-not-keeps_dash_rule.false) in
    let same = given_command (app_of c.in_ok-parser.parser) c.in_ok-parser.ensures.0 (string_bytes c.in-Some.first.now)
    (map string_bytes c.in-Some.rest.now) (map string_bytes c.args.words.now) c.in-Some-command_named.command
    (found_of c.in-Some-subcommand.given.now) (subcommand_rows_of c.in-Ok.matches) c.in_ok-parser.ensures.1
    (ap (λ (ws : List _). map string_bytes ws) c.in-Some.ensures.cases.0) line c.in-Ok.ensures.kinds
    (λ e. (c.in-Ok.ensures.matches e).1) c.in-Some-subcommand.ensures.rows in
    IfErr-weaker c.command_given.result _ _ (λ m h e. sym same ∙ h e) c.command_given.ensures.refused

memory_is_not : WordsError.Refused ≡ WordsError.Memory → ⊥
memory_is_not e = cc

pub returns-clause-refused : goal.returns-clause-refused
returns-clause-refused c r =
    let line = words_read c.in_ok-parser.ensures.0 (string_bytes c.in-Some.first.now)
    (map string_bytes c.in-Some.rest.now) c.in-Some-command_named.command
    (map (λ s. s.now) c.option_names.result.now)
    c.in_ok-parser.ensures.2 (ap command_named (sym c.as_str.ensures.value)
    ∙ sym c.in-Some-command_named.ensures) c.option_names.ensures (sym c.keeps_dash_rule.ensures
    ∙ c.if-not-keeps_dash_rule.false) in
    refused_command (app_of c.in_ok-parser.parser) c.in_ok-parser.ensures.0 (string_bytes c.in-Some.first.now)
    (map string_bytes c.in-Some.rest.now) (map string_bytes c.args.words.now) c.in-Some-command_named.command
    c.in-Err.error c.in_ok-parser.ensures.1
    (ap (λ (ws : List _). map string_bytes ws) c.in-Some.ensures.cases.0) line c.in-Err.ensures.kinds
    (λ m. memory_is_not (sym r ∙ c.failure.ensures m))
