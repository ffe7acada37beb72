use Rattle.std.proofs.Common.{◌≡◌, ◌∙◌, sym, ap, subst, arith}
use Rattle.std.specs.Str.{IsAscii}
use Rattle.std.specs.Result.{result_ok}
use Rattle.std.proofs.lemmas.Fmt.{parse-decimal, IsAscii-decimal}
use Rattle.sp_journal.proofs.byte_parts.number.Goals as goal

pub returns : goal.returns
returns c = λ n l e.
    let same : c.text_of.result.now ≡ c.args.text.now =
    c.text_of.ensures (subst IsAscii (sym e) (IsAscii-decimal n (omega arith))) in
    c.ok.ensures.value ∙ ap result_ok (parse-decimal 32 n c.text_of.result.now c.parse.result l (omega arith) (same ∙ e)
    c.parse.ensures.value.0)
