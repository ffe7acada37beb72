use Rattle.std.proofs.Common.{ap, ◌∙◌}
use Rattle.sp_verify_effects.specs.Own.{variables_at}
use Rattle.sp_verify_effects.proofs.acts.touches.Goals as goal

pub returns-then-is_nowhere-2 : goal.returns-then-is_nowhere-2
returns-then-is_nowhere-2 c = λ e code a ss. (
  c.stored_place.ensures code a ss ∙ ap (λ z. variables_at code a z ss) (c.is_nowhere.ensures c.if-is_nowhere.true),
  c.loaded_place.ensures code a ss
      ∙ ap (λ z. variables_at code a z ss) (c.is_nowhere-then-is_nowhere.ensures c.if-is_nowhere-2.true),
)
