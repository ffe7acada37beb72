use Rattle.std.proofs.Common.{◌∙◌, ap, rules, false}
use Rattle.clap.specs.ValueTests.{accepts}
use Rattle.clap.specs.declared.builder.value_parser.ValueParser.{ValueParser}
use Rattle.sp_words.proofs.ParserLemmas.{show_listed}
use Rattle.sp_words.proofs.parser.show_arg.Goals as goal

pub returns-clause-rule : goal.returns-clause-rule
returns-clause-rule c =
    let given = c.value_parser.ensures.given in (
      given.0,
      (search rules),
      λ text. ap (λ (q : ValueParser). accepts false q text) given.2
          ∙ show_listed c.as_slice.result.now text (search rules),
    )
