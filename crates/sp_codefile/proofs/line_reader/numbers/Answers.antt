use Rattle.std.proofs.Common.{◌≡◌, ◌<◌, List, ℕ, [], ◌++◌, sym, subst, length}
use Rattle.sp_code.specs.Listing.{number_text}
use Rattle.sp_codefile.specs.CodeText.{IsNumber}
use Rattle.sp_codefile.specs.Cuts.{word_of}
use Rattle.sp_codefile.proofs.LeftLaws.{LeavesRest, left_start, left_next, left_end}
use Rattle.sp_codefile.proofs.WordLaws.{number_cut, follow, not_empty, empty, some_length, word_shorter}
use Rattle.sp_codefile.proofs.line_reader.numbers.Goals as goal

no_number : (n : ℕ) (more : List ℕ) → number_text n ++ more ≡ [] → ⊥
no_number n more e = cc

pub loop-rest-init : goal.loop-rest-init
loop-rest-init c = subst (λ (ns : List ℕ). LeavesRest number_text IsNumber c.args.text.now ns c.args.text.now)
    (sym c.new-numbers.ensures) (left_start number_text IsNumber c.args.text.now)

pub loop-rest-smaller : goal.loop-rest-smaller
loop-rest-smaller c =
    let rest = c.loop-rest.rest.now in
    let some = some_length rest (not_empty rest c.is_empty.result c.is_empty.ensures c.loop-rest-test.true) in
    subst (λ (xs : List ℕ). length xs < length rest) (sym c.next_word.ensures.rest) (word_shorter rest some)

pub loop-rest-preserved : goal.loop-rest-preserved
loop-rest-preserved c =
    let rest = c.loop-rest.rest.now in
    let behind = c.next_word.result.1.now in
    subst (λ (ns : List ℕ). LeavesRest number_text IsNumber c.args.text.now ns behind) (sym c.in-Ok.ensures.ok)
    (left_next number_text IsNumber c.args.text.now c.loop-rest.numbers rest c.number.result behind
    (not_empty rest c.is_empty.result c.is_empty.ensures c.loop-rest-test.true)
    (λ n ns f fs e.
    let k = follow word_of rest _ _ _ _ _ e (number_cut n ns f) c.next_word.ensures.before c.next_word.ensures.rest in
    (c.number.ensures n f k.0, k.1))
    c.loop-rest.invariant)

pub returns : goal.returns
returns c = λ ns a e.
    let rest = c.loop-rest.rest.now in
    left_end number_text IsNumber c.args.text.now c.loop-rest.numbers rest
    (empty rest c.is_empty.result c.is_empty.ensures c.loop-rest-test.false) no_number c.loop-rest.invariant ns a e
