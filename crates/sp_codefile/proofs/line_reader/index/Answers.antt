use Rattle.sp_codefile.proofs.LayoutLaws.{index_back}
use Rattle.sp_codefile.proofs.WordLaws.{not_empty}
use Rattle.sp_codefile.proofs.line_reader.index.Goals as goal

pub returns : goal.returns
returns c = λ i f e.
    index_back i f c.args.text.now _ _ c.number.result
    (not_empty c.args.text.now c.is_empty.result c.is_empty.ensures c.if-is_empty.false) e c.next_word.ensures.rest
    c.next_word-2.ensures.before c.number.ensures
