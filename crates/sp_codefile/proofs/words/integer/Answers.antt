use Rattle.std.proofs.Common.{◌≡◌, pos, ◌∙◌, sym, ap, subst}
use Rattle.std.specs.Int.{w64}
use Rattle.std.specs.Str.{IsAscii}
use Rattle.std.specs.Result.{result_unwrap_or}
use Rattle.std.proofs.Math.Facts.{to_z-of_z}
use Rattle.std.proofs.lemmas.Fmt.{parse-signed_decimal, IsAscii-signed}
use Rattle.sp_codefile.proofs.WordLaws.{integer_small}
use Rattle.sp_codefile.proofs.words.integer.Goals as goal

pub returns : goal.returns
returns c = λ z f e.
    let small = integer_small z f in
    let same : c.text_of.result.now ≡ c.args.word.now = c.text_of.ensures
    (subst IsAscii (sym e) (IsAscii-signed z small)) in
    let read : c.unwrap_or.result ≡ z = c.unwrap_or.ensures
    ∙ ap (λ (r : _). result_unwrap_or r (pos 0))
    (parse-signed_decimal w64 z c.text_of.result.now c.parse.result f small (same ∙ e) c.parse.ensures.value.0) in
    rw read (to_z-of_z f)
