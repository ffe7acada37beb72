use Rattle.std.proofs.Common.{List, refl, ◌∙◌, ap}
use Rattle.std.proofs.lemmas.Result.{err_from_is_err_and}
use Rattle.sp_lines.specs.declared.entry_place.Told.{Told}
use Rattle.sp_where.specs.Traces.{trace_text}
use Rattle.sp_words.specs.declared.requests.View.TheVariants as view
use Rattle.superpascal.specs.Steps.{AccountsFor}
use Rattle.superpascal.proofs.MarkFacts.{trace_is}
use Rattle.superpascal.proofs.Parts.{at_exit}
use Rattle.superpascal.proofs.replays.entries.Goals as goal

pub returns-in_err-traced : goal.returns-in_err-traced
returns-in_err-traced c = λ program tree has is.
    at_exit (AccountsFor view.Entries program c.args.input.value c.args.limits.now c.args.journal.now)
    c.from_residual.result _ (err_from_is_err_and c.from_residual.result c.from_residual.ensures.1)
    (c.in_err-traced.ensures program tree has)

pub returns : goal.returns
returns c = λ program tree has is.
    let t = c.in_ok-traced.ensures program tree has in (
      c.in_ok-traced.traced.replayed,
      t.0,
      refl,
      trace_is program c.args.input.value c.args.limits.now c.args.journal.now tree c.args.code.value has
          c.args.symbols.now is c.in_ok-traced.traced t.1 t.2 c.of.result
          (c.of.ensures ∙ (c.in-Ok.ensures
          ∙ ap (λ (told : List Told). trace_text c.args.symbols.now.checked.kinds c.args.symbols.now.constants
          c.args.symbols.now.marks c.args.journal.now.entries told) c.items.ensures)),
    )
