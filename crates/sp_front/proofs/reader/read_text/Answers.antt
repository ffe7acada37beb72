use Rattle.std.proofs.Common.{subst}
use Rattle.std.proofs.lemmas.Result.{err_from_is_err_and}
use Rattle.sp_parse.specs.Parses.{Parsed}
use Rattle.sp_front.proofs.ParseAnswers.{no_tokens, by_tokens}
use Rattle.sp_front.proofs.reader.read_text.Goals as goal

pub returns-in_err-tokens : goal.returns-in_err-tokens
returns-in_err-tokens c =
    no_tokens c.args.text.now c.from_residual.result _
    (err_from_is_err_and c.from_residual.result c.from_residual.ensures.1) c.in_err-tokens.ensures

pub returns : goal.returns
returns c =
    by_tokens c.args.text.now c.in_ok-tokens.tokens c.in_ok-tokens.ensures c.parse.result
    (subst (λ ts. Parsed c.args.text.now ts c.parse.result) c.items.ensures c.parse.ensures)
