use Rattle.std.proofs.Common.{List, sym, subst}
use Rattle.sp_code.specs.declared.code.Formal.{Formal}
use Rattle.sp_codefile.specs.CodeText.{formal_text, FormalFits}
use Rattle.sp_codefile.proofs.LeftLaws.{LeavesRest, left_start, left_next, left_end}
use Rattle.sp_codefile.proofs.WordLaws.{not_empty, empty, some_length}
use Rattle.sp_codefile.proofs.LayoutLaws.{formal_read, no_formal, shorter_twice}
use Rattle.sp_codefile.proofs.line_reader.formals.Goals as goal

pub loop-rest-init : goal.loop-rest-init
loop-rest-init c = subst (λ (fs : List Formal). LeavesRest formal_text FormalFits c.args.text.now fs c.args.text.now)
    (sym c.new-formals.ensures) (left_start formal_text FormalFits c.args.text.now)

pub loop-rest-smaller : goal.loop-rest-smaller
loop-rest-smaller c =
    let rest = c.loop-rest.rest.now in
    shorter_twice rest _ _ (some_length rest
    (not_empty rest c.is_empty.result c.is_empty.ensures c.loop-rest-test.true)) c.next_word.ensures.rest
    c.next_word-in-loop-rest.ensures.rest

pub loop-rest-preserved : goal.loop-rest-preserved
loop-rest-preserved c =
    let rest = c.loop-rest.rest.now in
    let behind = c.next_word-in-loop-rest.result.1.now in
    subst (λ (fs : List Formal). LeavesRest formal_text FormalFits c.args.text.now fs behind)
    (sym c.in-Ok.ensures.ok)
    (left_next formal_text FormalFits c.args.text.now c.loop-rest.formals rest c.formal.result behind
    (not_empty rest c.is_empty.result c.is_empty.ensures c.loop-rest-test.true)
    (λ f fs g gs e. formal_read f fs g rest _ _ _ behind c.number.result c.formal.result e c.next_word.ensures.before
    c.next_word.ensures.rest c.next_word-in-loop-rest.ensures.before c.next_word-in-loop-rest.ensures.rest
    c.number.ensures c.formal.ensures.value c.formal.ensures.reference)
    c.loop-rest.invariant)

pub returns : goal.returns
returns c = λ fs a e.
    let rest = c.loop-rest.rest.now in
    left_end formal_text FormalFits c.args.text.now c.loop-rest.formals rest
    (empty rest c.is_empty.result c.is_empty.ensures c.loop-rest-test.false) no_formal c.loop-rest.invariant fs a e
