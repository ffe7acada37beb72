use Rattle.std.proofs.Common.{◌∙◌, ap, map, option_map, sym}
use Rattle.sp_words.proofs.DashLemmas.{contains-map, form_missing, form_named}
use Rattle.std.specs.Option.{option_map_or}
use Rattle.sp_words.specs.declared.form.Form.TheVariants.{Open, Whole}
use Rattle.sp_words.proofs.form.form_of_option.Goals as goal

pub returns-then-not-contains : goal.returns-then-not-contains
returns-then-not-contains c = form_missing (map (λ s. s.now) c.args.options.now)
    (c.args.name.now, option_map (λ s. s.now) c.args.value) (sym (contains-map c.args.options.now c.args.name.now)
    ∙ sym c.contains.ensures.value ∙ c.if-not-contains.true)

pub returns-in-Some : goal.returns-in-Some
returns-in-Some c = form_named (map (λ s. s.now) c.args.options.now)
    (c.args.name.now, option_map (λ s. s.now) c.args.value) _ (sym (contains-map c.args.options.now c.args.name.now)
    ∙ sym c.contains.ensures.value ∙ c.if-not-contains.false)
    (sym (ap (λ (o : _). option_map_or (λ v. Whole) (option_map (λ s. s.now) o) Open) c.in-Some.is))

pub returns-in-None : goal.returns-in-None
returns-in-None c = form_named (map (λ s. s.now) c.args.options.now)
    (c.args.name.now, option_map (λ s. s.now) c.args.value) _ (sym (contains-map c.args.options.now c.args.name.now)
    ∙ sym c.contains.ensures.value ∙ c.if-not-contains.false)
    (sym (ap (λ (o : _). option_map_or (λ v. Whole) (option_map (λ s. s.now) o) Open) c.in-None.is))
