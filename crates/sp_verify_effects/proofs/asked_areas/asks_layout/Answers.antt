use Rattle.std.proofs.Common.{◌≡◌, Bool, true, sym, ◌∙◌}
use Rattle.sp_base.proofs.Facts.{not_true_and_false}
use Rattle.sp_verify_areas.proofs.OwnerSteps.{ok_map}
use Rattle.sp_verify_effects.specs.AskedAreas.{AsksLayout, AsksOutside, is_asked_block}
use Rattle.sp_verify_effects.proofs.asked_areas.asks_layout.Goals as goal

pub returns-then-is_asked_block : goal.returns-then-is_asked_block
returns-then-is_asked_block c =
    let k = c.args.asked.now in
    let l = c.args.l.now in
    ok_map c.asks_outside.result (λ (b : Bool). b ≡ true → AsksOutside k l)
    (λ (b : Bool). b ≡ true → AsksLayout k l) (λ b h e r. h e) c.asks_outside.ensures

pub returns-else-is_asked_block : goal.returns-else-is_asked_block
returns-else-is_asked_block c = λ t r. absurd (not_true_and_false
    (is_asked_block c.args.asked.now c.args.l.now) r (sym c.is_asked_block.ensures
    ∙ c.if-is_asked_block.false))
