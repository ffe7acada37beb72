use Rattle.std.proofs.Common.{◌∙◌}
use Rattle.sp_codefile.proofs.InstrLaws.{read_back, has_name}
use Rattle.sp_codefile.proofs.opcodes.read_instr.Goals as goal

pub returns-in-None : goal.returns-in-None
returns-in-None c = λ x f e. absurd (has_name x f c.args.text.now _ e c.class_cut.ensures.before c.in-None.ensures)

pub returns-in-Some : goal.returns-in-Some
returns-in-Some c = λ x f e.
    c.filled.ensures ∙ read_back x f c.args.text.now _ _ _ _ _ _ _ c.in-Some.instr c.read_operand.result
    c.read_operand-in-Some.result c.read_operand-in-Some-2.result e
    c.class_cut.ensures.before c.class_cut.ensures.rest c.next_word.ensures.before c.next_word.ensures.rest
    c.next_word-2.ensures.before c.next_word-2.ensures.rest c.next_word-3.ensures.before
    c.in-Some.ensures
    (record { number = c.read_operand.ensures.number; integer = c.read_operand.ensures.integer })
    (record { number = c.read_operand-in-Some.ensures.number; integer = c.read_operand-in-Some.ensures.integer })
    (record { number = c.read_operand-in-Some-2.ensures.number; integer = c.read_operand-in-Some-2.ensures.integer })
