use Rattle.std.proofs.Common.{◌∙◌}
use Rattle.sp_words.proofs.Readings.{number_parsed}
use Rattle.sp_words.proofs.arguments.number_written.Goals as goal

pub returns : goal.returns
returns c = c.ok.ensures.value ∙ number_parsed 64 c.args.text.now c.parse.result c.parse.ensures.value.0
