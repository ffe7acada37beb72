use Rattle.std.proofs.Common.{◌∙◌, ap, map, sym}
use Rattle.sp_words.specs.Dashes.{form_of_option}
use Rattle.sp_words.proofs.DashLemmas.{text_form}
use Rattle.sp_words.proofs.form.form_of_text.Goals as goal

pub returns : goal.returns
returns c = text_form (map (λ s. s.now) c.args.options.now) c.args.text.now _ (sym c.is_empty.ensures
    ∙ c.if-is_empty.false)
    (c.form_of_option.ensures ∙ ap (form_of_option (map (λ s. s.now) c.args.options.now)) c.split_value.ensures)
