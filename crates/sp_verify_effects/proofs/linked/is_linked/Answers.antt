use Rattle.std.proofs.Common.{sym, ◌∙◌}
use Rattle.sp_verify_effects.proofs.linked.is_linked.Goals as goal

pub returns-then-is_due : goal.returns-then-is_due
returns-then-is_due c = λ e. sym c.contains.ensures ∙ e
