use Rattle.std.proofs.Common.{arith}
use Rattle.std.proofs.lemmas.List.Elements.{All-more}
use Rattle.std.proofs.lemmas.Grind.{common_steps}
use Rattle.sp_codefile.specs.CodeText.{formal_text}
use Rattle.sp_codefile.specs.CodeText.{FormalFits}
use Rattle.sp_codefile.proofs.TextLaws.{text_more, both_put, so_put, text_whole}
use Rattle.sp_codefile.proofs.line_writer.put_formals.Goals as goal

pub loop-formal-preserved : goal.loop-formal-preserved
loop-formal-preserved c = record {
  text = both_put c.loop-formal.invariant.text c.put_formal.ensures.text (text_more formal_text c.args.formals.now
      c.loop-formal.formal-index _ c.args.out.now.items.items _ _ (omega arith));
  fits = All-more FormalFits c.args.formals.now c.loop-formal.formal-index _
      (omega arith) c.loop-formal.invariant.fits c.put_formal.ensures.fits;
}

pub returns-clause-text : goal.returns-clause-text
returns-clause-text c =
    so_put c.loop-formal.invariant.text
    (text_whole formal_text c.args.formals.now c.loop-formal.formal-index _ _ (omega arith))

pub returns-clause-fits : goal.returns-clause-fits
returns-clause-fits c = grind (arith, common_steps)
