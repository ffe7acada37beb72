use Rattle.std.proofs.Common.{refl, sym, ◌∙◌, Ok, subst}
use Rattle.std.proofs.lemmas.Result.{err_from_is_err_and}
use Rattle.sp_code.specs.declared.code.Parts.{Parts}
use Rattle.sp_code.specs.Sound.{HasDistinctBlocks}
use Rattle.sp_words.specs.declared.requests.View.TheVariants as view
use Rattle.superpascal.specs.Steps.{AccountsFor, TracesTo}
use Rattle.superpascal.proofs.MarkFacts.{held_code, where_is}
use Rattle.superpascal.proofs.Parts.{at_exit}
use Rattle.superpascal.proofs.replays.state.Goals as goal

pub trace_code-requires-clause-code : goal.trace_code-requires-clause-code
trace_code-requires-clause-code c = let h = c.requires.code in
    (h.0, h.1, held_code _ _ c.in-Ok.ensures h.0 h.1 h.2)

pub returns-in_err-traced : goal.returns-in_err-traced
returns-in_err-traced c = λ program tree has is.
    at_exit (AccountsFor view.State program c.args.input.value c.args.limits.now c.args.journal.now)
    c.from_residual.result _ (err_from_is_err_and c.from_residual.result c.from_residual.ensures.1)
    (c.in_err-traced.ensures program tree (held_code _ _ c.in-Ok.ensures program tree has))

pub returns : goal.returns
returns c = λ program tree has is.
    let has_lent = held_code _ _ c.deref.ensures program tree has in
    let t = subst (λ (x : Parts). TracesTo program tree x c.args.input.value c.args.limits.now c.args.journal.now
    (Ok c.in_ok-traced.traced)) (c.in-Ok.ensures ∙ sym c.deref.ensures)
    (c.in_ok-traced.ensures program tree (held_code _ _ c.in-Ok.ensures program tree has)) in (
      c.in_ok-traced.traced.replayed,
      t.0,
      refl,
      where_is program c.args.input.value c.args.limits.now c.args.journal.now tree c.deref.result.now has_lent
          c.args.symbols.now is c.in_ok-traced.traced t.1 t.2 c.of.result (c.of.ensures
          ∙ c.in-Ok-where_text.ensures),
    )

pub where_text-requires-clause-stands : goal.where_text-requires-clause-stands
where_text-requires-clause-stands c = let h = c.requires.code in
    (c.in_ok-traced.ensures h.0 h.1 (held_code _ _ c.in-Ok.ensures h.0 h.1 h.2)).1.state

pub where_text-requires-clause-blocks : goal.where_text-requires-clause-blocks
where_text-requires-clause-blocks c = let h = c.requires.code in
    let (_, _, _, is_sound) = c.in_ok-traced.ensures h.0 h.1 (held_code _ _ c.in-Ok.ensures h.0 h.1 h.2) in
    subst (λ (x : Parts). HasDistinctBlocks x.layouts) (c.in-Ok.ensures ∙ sym c.deref.ensures) is_sound.blocks
