use Rattle.std.proofs.Common.{List, ℕ, ◌++◌, arith, ap, ◌∙◌}
use Rattle.std.proofs.lemmas.List.Elements.{All-more}
use Rattle.sp_code.specs.Listing.{instr_line}
use Rattle.sp_code.proofs.LineNumbers.{numbered_next}
use Rattle.std.proofs.lemmas.Grind.{common_steps}
use Rattle.sp_codefile.specs.CodeText.{InstrFits}
use Rattle.sp_codefile.proofs.TextLaws.{numbered_line, instr_is_line, so_put, numbered_whole}
use Rattle.sp_codefile.proofs.line_writer.put_instrs.Goals as goal

pub loop-number-preserved : goal.loop-number-preserved
loop-number-preserved c = record {
  text = λ kept.
      let end = c.extend.ensures kept in
      let one = c.put_instr.ensures.text end.0 in
      let all = c.loop-number.invariant.text one.0 in (
        all.0,
        numbered_next instr_line c.args.instrs.now c.loop-number.number _ c.args.out.now.items.items _ _ (omega arith)
            all.1 (numbered_line c.loop-number.out.items.items _ _ _ one.1 end.1
            ∙ ap (λ (y : List ℕ). c.loop-number.out.items.items ++ y) (instr_is_line c.loop-number.number _)),
      );
  fits = All-more InstrFits c.args.instrs.now c.loop-number.number _
      (omega arith) c.loop-number.invariant.fits c.put_instr.ensures.fits;
}

pub returns-clause-text : goal.returns-clause-text
returns-clause-text c =
    so_put c.loop-number.invariant.text
    (numbered_whole instr_line c.args.instrs.now c.loop-number.number _ _ (omega arith))

pub returns-clause-fits : goal.returns-clause-fits
returns-clause-fits c = grind (arith, common_steps)
