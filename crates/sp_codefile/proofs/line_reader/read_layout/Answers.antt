use Rattle.sp_codefile.proofs.LayoutLaws.{layout_back, parent_read, answer_read}
use Rattle.sp_codefile.proofs.line_reader.read_layout.Goals as goal

pub returns : goal.returns
returns c = λ l f e.
    let w0 = c.next_word.ensures in
    let w1 = c.next_word-2.ensures in
    let w2 = c.next_word-3.ensures in
    let w3 = c.next_word-4.ensures in
    let w4 = c.next_word-5.ensures in
    let s = c.class_cut.ensures in
    let w6 = c.next_word-6.ensures in
    let v = c.class_cut-2.ensures in
    let w8 = c.next_word-7.ensures in
    let k = layout_back l f c.args.text.now _ _ _ _ _ _ _ _ _ _ _ _ _ _ _ e w0.before w0.rest w1.before w1.rest
    w2.before w2.rest w3.before w3.rest w4.rest s.before s.rest w6.rest v.before v.rest w8.rest in
    let block = c.number.ensures l.block f.block k.block in
    let entry = c.number-2.ensures l.entry f.entry k.entry in
    let around = parent_read l.parent f.parent _ c.parent.result k.parent c.parent.ensures.none c.parent.ensures.some in
    let answer = answer_read l.answer _ c.has_answer.result k.answer c.has_answer.ensures.yes c.has_answer.ensures.no in
    let sizes = c.in-Ok.ensures l.sizes f.sizes k.sizes in
    let variables = c.in-Ok-numbers.ensures l.variables f.variables k.variables in
    let formals = c.in-Ok-formals.ensures l.formals f.formals k.formals in
    λ j. record {
      block = block j;
      entry = entry j;
      parent = around j;
      answer = answer j;
      sizes = sizes j;
      variables = variables j;
      formals = formals j;
    }
