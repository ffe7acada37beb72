use Rattle.std.proofs.Common.{arith}
use Rattle.std.proofs.lemmas.Grind.{common_steps}
use Rattle.sp_codefile.specs.CodeText.{layout_text, line, LayoutFits}
use Rattle.sp_codefile.proofs.TextLaws.{line_more, fits_more, so_put, text_whole}
use Rattle.sp_codefile.proofs.line_writer.put_layouts.Goals as goal

pub loop-layout-preserved : goal.loop-layout-preserved
loop-layout-preserved c = record {
  text = λ kept.
      let end = c.extend.ensures kept in
      let one = c.put_layout.ensures.text end.0 in
      let all = c.loop-layout.invariant.text one.0 in (
        all.0,
        line_more layout_text c.args.layouts.now c.loop-layout.layout-index c.layout-item.result
            c.args.out.now.items.items _ _ _ (omega arith) c.layout-item.is all.1 one.1 end.1,
      );
  fits = fits_more LayoutFits c.args.layouts.now c.loop-layout.layout-index c.layout-item.result
      (omega arith) c.layout-item.is c.loop-layout.invariant.fits c.put_layout.ensures.fits;
}

pub returns-clause-text : goal.returns-clause-text
returns-clause-text c =
    so_put c.loop-layout.invariant.text
    (text_whole (λ l. line (layout_text l)) c.args.layouts.now c.loop-layout.layout-index _ _ (omega arith))

pub returns-clause-fits : goal.returns-clause-fits
returns-clause-fits c = grind (arith, common_steps)
