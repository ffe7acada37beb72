use Rattle.std.proofs.Common.{All, arith}
use Rattle.std.proofs.lemmas.Grind.{common_steps}
use Rattle.sp_codefile.specs.CodeText.{line, text_text, IsByte}
use Rattle.sp_codefile.proofs.TextLaws.{line_more, fits_more, so_put, text_whole}
use Rattle.sp_codefile.proofs.line_writer.put_texts.Goals as goal

pub loop-text-preserved : goal.loop-text-preserved
loop-text-preserved c = record {
  text = λ kept.
      let end = c.extend.ensures kept in
      let one = c.put_text.ensures.text end.0 in
      let all = c.loop-text.invariant.text one.0 in (
        all.0,
        line_more text_text c.args.texts.now c.loop-text.text-index c.text-item.result c.args.out.now.items.items _ _ _
            (omega arith) c.text-item.is all.1 one.1 end.1,
      );
  fits = fits_more (All IsByte) c.args.texts.now c.loop-text.text-index c.text-item.result
      (omega arith) c.text-item.is c.loop-text.invariant.fits c.put_text.ensures.fits;
}

pub returns-clause-text : goal.returns-clause-text
returns-clause-text c =
    so_put c.loop-text.invariant.text
    (text_whole (λ t. line (text_text t)) c.args.texts.now c.loop-text.text-index _ _ (omega arith))

pub returns-clause-fits : goal.returns-clause-fits
returns-clause-fits c = grind (arith, common_steps)
