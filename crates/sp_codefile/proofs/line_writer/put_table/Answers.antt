use Rattle.std.proofs.Common.{arith}
use Rattle.sp_code.proofs.LineNumbers.{numbered_step}
use Rattle.std.proofs.lemmas.Grind.{common_steps}
use Rattle.sp_codefile.specs.CodeText.{child_of, ChildFits}
use Rattle.sp_codefile.proofs.TextLaws.{numbered_line, fits_more, so_put, numbered_whole}
use Rattle.sp_codefile.proofs.line_writer.put_table.Goals as goal

pub loop-number-preserved : goal.loop-number-preserved
loop-number-preserved c =
    let n = c.loop-number.number in
    let x = c.index-children-number.result in record {
      text = λ kept.
          let end = c.extend.ensures kept in
          let one = c.put_child.ensures.text end.0 in
          let all = c.loop-number.invariant.text one.0 in (
            all.0,
            numbered_step (child_of c.args.table) c.args.children.now n x c.args.out.now.items.items _ _ (omega arith)
                c.index-children-number.is all.1 (numbered_line c.loop-number.out.items.items _ _ _ one.1 end.1),
          );
      fits = fits_more ChildFits c.args.children.now n x
          (omega arith) c.index-children-number.is c.loop-number.invariant.fits c.put_child.ensures.fits;
    }

pub returns-clause-text : goal.returns-clause-text
returns-clause-text c =
    so_put c.loop-number.invariant.text
    (numbered_whole (child_of c.args.table) c.args.children.now c.loop-number.number _ _ (omega arith))

pub returns-clause-fits : goal.returns-clause-fits
returns-clause-fits c = grind (arith, common_steps)
