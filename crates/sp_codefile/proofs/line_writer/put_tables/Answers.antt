use Rattle.std.proofs.Common.{List, ◌++◌, ◌<◌, ◌^◌, length, All, arith, ap, subst, ◌∙◌}
use Rattle.sp_code.specs.declared.code.ChildTable.{ChildTable}
use Rattle.sp_code.specs.Listing.{numbered_texts}
use Rattle.sp_code.proofs.LineNumbers.{numbered_step}
use Rattle.std.proofs.lemmas.Grind.{common_steps}
use Rattle.sp_codefile.specs.CodeText.{child_of, table_text, ChildFits, TableFits}
use Rattle.sp_codefile.proofs.TextLaws.{fits_more, both_put, so_put, numbered_whole}
use Rattle.sp_codefile.proofs.line_writer.put_tables.Goals as goal

pub loop-number-preserved : goal.loop-number-preserved
loop-number-preserved c =
    let n = c.loop-number.number in
    let x = c.index-forks-number.result in record {
      text = both_put c.loop-number.invariant.text c.put_table.ensures.text
          (λ e f. numbered_step table_text c.args.forks.now n x c.args.out.now.items.items _ _
          (omega arith) c.index-forks-number.is e (f ∙ ap
          (λ (xs : List ChildTable). c.loop-number.out.items.items ++ numbered_texts (child_of n) 0 xs)
          c.items.ensures));
      fits = fits_more TableFits c.args.forks.now n x (omega arith) c.index-forks-number.is c.loop-number.invariant.fits
          (record {
            count = subst (λ (xs : List ChildTable). length xs < 2 ^ 64) c.items.ensures c.put_table.ensures.count;
            children = subst (All ChildFits) c.items.ensures c.put_table.ensures.fits;
          });
    }

pub returns-clause-text : goal.returns-clause-text
returns-clause-text c =
    so_put c.loop-number.invariant.text
    (numbered_whole table_text c.args.forks.now c.loop-number.number _ _ (omega arith))

pub returns-clause-fits : goal.returns-clause-fits
returns-clause-fits c = grind (arith, common_steps)
