use Rattle.std.proofs.Common.{◌≡◌, List, ℕ, refl, sym, subst}
use Rattle.std.specs.Prelude.{IfSome}
use Rattle.std.proofs.lemmas.Result.{err_from_is_err_and}
use Rattle.sp_words.specs.declared.command.Command.TheVariants.{Check}
use Rattle.superpascal.specs.Steps.{AnswersText}
use Rattle.superpascal.proofs.Parts.{at_exit, check_halted, text_kept_back, text_made}
use Rattle.superpascal.proofs.texts.check.Goals as goal

pub returns-in_err-text : goal.returns-in_err-text
returns-in_err-text g c =
    at_exit (AnswersText _ (Check c.args.file.now)) c.from_residual.result _
    (err_from_is_err_and c.from_residual.result c.from_residual.ensures.1)
    (text_kept_back _ (Check c.args.file.now) c.args.file.now (refl, λ k. k) _ c.in_err-text.ensures.loaded)

pub returns-in_err-accepts_apart : goal.returns-in_err-accepts_apart
returns-in_err-accepts_apart g c =
    let r = c.from_residual-in_err-accepts_apart.result in
    at_exit (AnswersText _ (Check c.args.file.now)) r _
    (err_from_is_err_and r c.from_residual-in_err-accepts_apart.ensures.1)
    (check_halted _ c.args.file.now c.as_slice.result.now
    (subst (λ (t : List ℕ). IfSome (g.L.Library.held c.args.library.now c.args.file.now) (λ all. t ≡ all))
    (sym c.as_slice.ensures.value) c.in_ok-text.ensures.loaded.0) _ c.in_err-accepts_apart.ensures)

pub returns : goal.returns
returns g c =
    text_made _ (Check c.args.file.now) c.args.file.now (refl, λ k. k) c.as_slice.result.now
    (subst (λ (t : List ℕ). IfSome (g.L.Library.held c.args.library.now c.args.file.now) (λ all. t ≡ all))
    (sym c.as_slice.ensures.value) c.in_ok-text.ensures.loaded.0)
    c.new.result.items c.in-Ok.value.items
    (c.in_ok-accepts_apart.ensures, c.new.ensures.items, c.in-Ok.ensures.items) c.accepted.result
    c.accepted.ensures
