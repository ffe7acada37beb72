use Rattle.std.proofs.Common.{sym, ap, ◌∙◌, subst}
use Rattle.sp_codefile.specs.CodeText.{code_text}
use Rattle.sp_generate.specs.GeneratorAnswers.{IsCodeOf}
use Rattle.sp_tree.specs.Bare.{without_places}
use Rattle.sp_tree.specs.PlainChecked as placed
use Rattle.superpascal.proofs.texts.one_code_text.Goals as goal

pub returns : goal.returns
returns c = λ text a b (p, (is_checked, _), _, code_a, is_code_a, is_text_a)
    (q, (also_checked, _), _, code_b, is_code_b, is_text_b).
    let trees = c.one_answer.ensures.tree text p q is_checked also_checked in
    let code = subst (λ (t : placed.Program). IsCodeOf (without_places t) code_a) trees is_code_a in
    is_text_a.text ∙ ap code_text (c.one_code.ensures (without_places q) code_a code_b code is_code_b)
    ∙ sym is_text_b.text
