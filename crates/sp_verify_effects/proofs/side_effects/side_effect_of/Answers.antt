use Rattle.std.proofs.Common.{◌≡◌, ap, sym, ◌∙◌, subst, ℕ, Some, true}
use Rattle.std.specs.Prelude.{slice_get}
use Rattle.std.proofs.lemmas.Option.{none-some}
use Rattle.sp_code.specs.declared.code.Parts.{Parts}
use Rattle.sp_verify_rules.specs.Verdict.{BreaksV8}
use Rattle.sp_verify_areas.specs.LeastPlaces.{IsLeast}
use Rattle.sp_verify_effects.proofs.SideEffectLaws.{fact_breaks}
use Rattle.sp_verify_effects.proofs.side_effects.side_effect_of.Goals as goal

pub returns-in-None : goal.returns-in-None
returns-in-None c = λ p e. absurd (none-some p e)

pub returns-then-layout-fact : goal.returns-then-layout-fact
returns-then-layout-fact c = λ p e.
    let g = c.args.g.now in
    let code = g.code.now in
    let known = c.requires.known in
    let l = c.in-Some.layout.now in
    let is : slice_get code.layouts c.args.place ≡ Some l = ap (λ (z : Parts). slice_get z.layouts c.args.place)
    (sym c.parts.ensures.same) ∙ sym c.in-Some.ensures in
    let ((begins, h), _) = subst (IsLeast (λ (q : ℕ). (l.entry ≡ q) × (c.is_side_effect.result ≡ true))) e
    c.place_if.ensures in
    subst (BreaksV8 code) begins
    (fact_breaks code known.kept g.owners.now known.owners c.args.own.now.keys c.requires.own c.args.place l is
    c.args.fact c.requires.done c.if-layout-fact.true (sym c.is_side_effect.ensures ∙ h))

pub returns-else-layout-fact : goal.returns-else-layout-fact
returns-else-layout-fact c = λ p e. absurd (none-some p e)
