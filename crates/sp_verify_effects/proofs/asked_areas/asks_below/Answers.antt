use Rattle.std.proofs.Common.{◌≡◌, Bool, true, sym, ◌∙◌}
use Rattle.sp_base.proofs.Facts.{not_true_and_false}
use Rattle.sp_verify_areas.proofs.OwnerSteps.{ok_map}
use Rattle.sp_verify_effects.specs.AskedAreas.{AsksBelow, AsksChild, is_below}
use Rattle.sp_verify_effects.proofs.asked_areas.asks_below.Goals as goal

pub returns-then-is_below : goal.returns-then-is_below
returns-then-is_below c =
    let k = c.args.asked.now in
    let t = c.args.child.now in
    ok_map c.asks_child.result (λ (b : Bool). b ≡ true → AsksChild k t)
    (λ (b : Bool). b ≡ true → AsksBelow c.args.bound k t) (λ b h e r. h e) c.asks_child.ensures

pub returns-else-is_below : goal.returns-else-is_below
returns-else-is_below c = λ t r. absurd (not_true_and_false
    (is_below c.args.bound c.args.child.now.entry) r (sym c.is_below.ensures ∙ c.if-is_below.false))
