use Rattle.std.proofs.Common.{◌≡◌, true, sym, subst, ◌∙◌}
use Rattle.std.proofs.lemmas.Option.{none-some, same_Some}
use Rattle.sp_verify_effects.specs.AskedAreas.{has_block}
use Rattle.sp_verify_effects.proofs.asked_areas.asks_inside_at.Goals as goal

pub returns-in-None : goal.returns-in-None
returns-in-None c = λ t a n lies e. absurd (none-some n (sym c.in-None.is ∙ (c.inside_entry_at.ensures a lies ∙ e)))

pub returns-in-Some : goal.returns-in-Some
returns-in-Some c = λ t a n lies e.
    let same = same_Some c.in-Some.entry n (sym c.in-Some.is ∙ (c.inside_entry_at.ensures a lies ∙ e)) in
    subst (λ m. has_block c.args.asked.now m ≡ true) same (sym c.has_block.ensures ∙ t)
