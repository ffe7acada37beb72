use Rattle.std.proofs.Common.{◌∙◌, ◌^◌, Option, ap}
use Rattle.sp_words.specs.Dashes.{Text}
use Rattle.sp_words.specs.Options.{number_or}
use Rattle.sp_words.proofs.Readings.{number_read}
use Rattle.sp_words.proofs.arguments.number.Goals as goal

pub returns-in-Some : goal.returns-in-Some
returns-in-Some c = c.unwrap_or.ensures
    ∙ number_read 64 c.in-Some.text.now c.parse.result c.args.default c.parse.ensures.value.0
    ∙ ap (λ (t : Option Text). number_or (2 ^ 64) c.args.default t) c.in-Some.ensures
