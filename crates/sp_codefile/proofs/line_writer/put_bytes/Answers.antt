use Rattle.std.proofs.Common.{arith}
use Rattle.std.proofs.lemmas.List.Elements.{All-more}
use Rattle.std.proofs.lemmas.Grind.{common_steps}
use Rattle.sp_codefile.specs.CodeText.{byte_text}
use Rattle.sp_codefile.specs.CodeText.{IsByte}
use Rattle.sp_codefile.proofs.TextLaws.{text_more, both_put, so_put, text_whole}
use Rattle.sp_codefile.proofs.line_writer.put_bytes.Goals as goal

pub loop-byte-preserved : goal.loop-byte-preserved
loop-byte-preserved c = record {
  text = both_put c.loop-byte.invariant.text c.put_byte.ensures.text (text_more byte_text c.args.bytes.now
      c.loop-byte.byte-index _ c.args.out.now.items.items _ _ (omega arith));
  fits = All-more IsByte c.args.bytes.now c.loop-byte.byte-index _
      (omega arith) c.loop-byte.invariant.fits c.put_byte.ensures.fits;
}

pub returns-clause-text : goal.returns-clause-text
returns-clause-text c =
    so_put c.loop-byte.invariant.text
    (text_whole byte_text c.args.bytes.now c.loop-byte.byte-index _ _ (omega arith))

pub returns-clause-fits : goal.returns-clause-fits
returns-clause-fits c = grind (arith, common_steps)
