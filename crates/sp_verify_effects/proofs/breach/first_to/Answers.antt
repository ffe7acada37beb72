use Rattle.std.proofs.Common.{◌≡◌, ap, sym, ◌∙◌, subst, List, length, Some}
use Rattle.sp_code.specs.declared.code.ForkTable.{ForkTable}
use Rattle.sp_code.specs.declared.code.Parts.{Parts}
use Rattle.sp_verify_rules.specs.Verdict.{BreaksV6}
use Rattle.sp_verify_areas.specs.LeastPlaces.{IsLeast, Upto}
use Rattle.sp_verify_effects.specs.declared.asked_areas.Asked.{Asked}
use Rattle.sp_verify_effects.specs.AskedAreas.{AsksTables}
use Rattle.sp_verify_effects.specs.ChildEffects.{TableFails}
use Rattle.sp_verify_effects.proofs.BreachLaws.{v6_first}
use Rattle.sp_verify_effects.proofs.breach.first_to.Goals as goal

pub returns : goal.returns
returns c =
    let g = c.args.g.now in
    let code = g.code.now in
    let known = c.requires.known in
    let e = c.in-Ok-effects_of.value in
    let found = c.in-Ok-effects_of.ensures in
    let first = c.in-Ok-first_in.value in
    let same : c.items.result.now ≡ code.forks = c.items.ensures
    ∙ ap (λ (z : Parts). z.forks) c.parts-parts.ensures.same in
    subst (IsLeast (BreaksV6 code)) (sym c.least.ensures)
    (v6_first code known.kept g.owners.now known.owners e found.found c.args.p
    (subst (λ (z : Asked). AsksTables (Some c.args.p) z code.forks) (sym found.asked) c.in-Ok.ensures.asks)
    c.requires.broken first
    (subst (λ (fs : List ForkTable). IsLeast (Upto (TableFails e fs) (length fs)) first) same
    c.in-Ok-first_in.ensures))
