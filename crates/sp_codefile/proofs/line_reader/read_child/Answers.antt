use Rattle.std.proofs.Common.{◌≡◌, sym, ◌∙◌, arith, codes, rules, decimal}
use Rattle.std.proofs.lemmas.Fmt.{decimal_injective, decimal_digit}
use Rattle.sp_codefile.specs.declared.item.Item.TheVariants as item
use Rattle.sp_codefile.proofs.LayoutLaws.{child_back}
use Rattle.sp_codefile.proofs.line_reader.read_child.Goals as goal

zero_text : decimal 0 ≡ codes "0"
zero_text = decimal_digit 0 (omega arith)

pub returns-then-eq-clause-first : goal.returns-then-eq-clause-first
returns-then-eq-clause-first c = λ t c' s0 f e.
    let k = child_back t 0 c' s0 (omega arith) f c.args.text.now _ _ _ _ _ _ _ _ _ _ _ _ _ e c.next_word.ensures.rest
    c.next_word-2.ensures.rest c.next_word-3.ensures.before c.next_word-3.ensures.rest c.next_word-4.ensures.rest
    c.next_word-5.ensures.before c.next_word-5.ensures.rest c.next_word-6.ensures.rest c.class_cut.ensures.before
    c.class_cut.ensures.rest c.next_word-7.ensures.rest c.class_cut-2.ensures.before c.class_cut-2.ensures.rest in
    let entry = c.number.ensures c'.entry f.entry k.entry in
    let moved = c.in-Ok.ensures c'.moved f.moved k.moved in
    let shared = c.in-Ok-numbers.ensures c'.shared f.shared k.shared in
    let index = c.index.ensures c'.index f.index k.index in
    λ j. item.Table (record { entry = entry j; moved = moved j; shared = shared j; index = index j })

pub returns-then-eq-clause-further : goal.returns-then-eq-clause-further
returns-then-eq-clause-further c = λ t n c' s0 some few f e.
    let k = child_back t n c' s0 few f c.args.text.now _ _ _ _ _ _ _ _ _ _ _ _ _ e c.next_word.ensures.rest
    c.next_word-2.ensures.rest c.next_word-3.ensures.before c.next_word-3.ensures.rest c.next_word-4.ensures.rest
    c.next_word-5.ensures.before c.next_word-5.ensures.rest c.next_word-6.ensures.rest c.class_cut.ensures.before
    c.class_cut.ensures.rest c.next_word-7.ensures.rest c.class_cut-2.ensures.before c.class_cut-2.ensures.rest in
    let w : c.next_word-3.result.0.now ≡ codes "0" = search rules in
    let z = decimal_injective n 0 few (omega arith) (sym k.number ∙ w ∙ sym zero_text) in
    absurd (omega arith)

pub returns-else-eq-clause-first : goal.returns-else-eq-clause-first
returns-else-eq-clause-first c = λ t c' s0 f e.
    let k = child_back t 0 c' s0 (omega arith) f c.args.text.now _ _ _ _ _ _ _ _ _ _ _ _ _ e c.next_word.ensures.rest
    c.next_word-2.ensures.rest c.next_word-3.ensures.before c.next_word-3.ensures.rest c.next_word-4.ensures.rest
    c.next_word-5.ensures.before c.next_word-5.ensures.rest c.next_word-6.ensures.rest c.class_cut.ensures.before
    c.class_cut.ensures.rest c.next_word-7.ensures.rest c.class_cut-2.ensures.before c.class_cut-2.ensures.rest in
    let w : c.next_word-3.result.0.now ≡ codes "0" = k.number ∙ zero_text in
    let x : ⊥ = search rules in
    absurd x

pub returns-else-eq-clause-further : goal.returns-else-eq-clause-further
returns-else-eq-clause-further c = λ t n c' s0 some few f e.
    let k = child_back t n c' s0 few f c.args.text.now _ _ _ _ _ _ _ _ _ _ _ _ _ e c.next_word.ensures.rest
    c.next_word-2.ensures.rest c.next_word-3.ensures.before c.next_word-3.ensures.rest c.next_word-4.ensures.rest
    c.next_word-5.ensures.before c.next_word-5.ensures.rest c.next_word-6.ensures.rest c.class_cut.ensures.before
    c.class_cut.ensures.rest c.next_word-7.ensures.rest c.class_cut-2.ensures.before c.class_cut-2.ensures.rest in
    let entry = c.number.ensures c'.entry f.entry k.entry in
    let moved = c.in-Ok.ensures c'.moved f.moved k.moved in
    let shared = c.in-Ok-numbers.ensures c'.shared f.shared k.shared in
    let index = c.index.ensures c'.index f.index k.index in
    λ j. item.Child (record { entry = entry j; moved = moved j; shared = shared j; index = index j })
