use Rattle.std.proofs.Common.{◌≡◌, Bool, true, sym, ◌∙◌}
use Rattle.sp_verify_areas.proofs.OwnerSteps.{ok_map}
use Rattle.sp_verify_effects.specs.Allowances.{Fits}
use Rattle.sp_verify_effects.specs.AskedAreas.{AsksChild, allowance_at}
use Rattle.sp_verify_effects.proofs.AreaQueries.{child_asked}
use Rattle.sp_verify_effects.proofs.asked_areas.asks_child.Goals as goal

pub returns-then-has : goal.returns-then-has
returns-then-has c =
    let k = c.args.asked.now in
    let t = c.args.child.now in
    ok_map c.fits_some.result (λ (b : Bool). b ≡ true → Fits (allowance_at k t.entry) t)
    (λ (b : Bool). b ≡ true → AsksChild k t)
    (λ b h e. child_asked k t (sym c.has.ensures ∙ c.if-has.true) (h e)) c.fits_some.ensures

pub returns-else-has : goal.returns-else-has
returns-else-has c = λ t. absurd (cc t)
