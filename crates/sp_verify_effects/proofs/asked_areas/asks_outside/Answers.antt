use Rattle.std.proofs.Common.{◌≡◌, Bool, true, sym, ◌∙◌}
use Rattle.sp_verify_areas.proofs.OwnerSteps.{ok_map}
use Rattle.sp_verify_effects.specs.Allowances.{FitsBlock}
use Rattle.sp_verify_effects.specs.AskedAreas.{AsksOutside, allowance_at}
use Rattle.sp_verify_effects.proofs.AreaQueries.{block_asked}
use Rattle.sp_verify_effects.proofs.asked_areas.asks_outside.Goals as goal

pub returns-then-has : goal.returns-then-has
returns-then-has c =
    let k = c.args.asked.now in
    let l = c.args.l.now in
    ok_map c.fits_own.result (λ (b : Bool). b ≡ true → FitsBlock (allowance_at k l.entry) l)
    (λ (b : Bool). b ≡ true → AsksOutside k l)
    (λ b h e. block_asked k l (sym c.has.ensures ∙ c.if-has.true) (h e)) c.fits_own.ensures

pub returns-else-has : goal.returns-else-has
returns-else-has c = λ t. absurd (cc t)
