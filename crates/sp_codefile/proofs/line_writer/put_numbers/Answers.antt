use Rattle.std.proofs.Common.{arith}
use Rattle.std.proofs.lemmas.List.Elements.{All-more}
use Rattle.sp_code.specs.Listing.{number_text}
use Rattle.std.proofs.lemmas.Grind.{common_steps}
use Rattle.sp_codefile.specs.CodeText.{IsNumber}
use Rattle.sp_codefile.proofs.TextLaws.{text_more, both_put, so_put, text_whole}
use Rattle.sp_codefile.proofs.line_writer.put_numbers.Goals as goal

pub loop-number-preserved : goal.loop-number-preserved
loop-number-preserved c = record {
  text = both_put c.loop-number.invariant.text c.put_number.ensures.text (text_more number_text c.args.numbers.now
      c.loop-number.number-index _ c.args.out.now.items.items _ _ (omega arith));
  fits = All-more IsNumber c.args.numbers.now c.loop-number.number-index _
      (omega arith) c.loop-number.invariant.fits c.put_number.ensures.fits;
}

pub returns-clause-text : goal.returns-clause-text
returns-clause-text c =
    so_put c.loop-number.invariant.text
    (text_whole number_text c.args.numbers.now c.loop-number.number-index _ _ (omega arith))

pub returns-clause-fits : goal.returns-clause-fits
returns-clause-fits c = grind (arith, common_steps)
