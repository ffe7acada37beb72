use Rattle.std.proofs.Common.{◌≡◌, ◌<◌, ℕ, Some}
use Rattle.std.specs.Prelude.{slice_get}
use Rattle.sp_verify_rules.specs.Areas.{Area, homes}
use Rattle.sp_verify_areas.specs.Only.{LiesOnlyIn}
use Rattle.sp_verify_areas.specs.Unknown.{OneUnknown}
use Rattle.sp_verify_areas.proofs.unknown.has_unknown.Given as goal

-- those so far are known
abbrev pub invariant-loop-x : goal.invariant-loop-x
invariant-loop-x l = (a : Area) → LiesOnlyIn l.code l.q a → (k y : ℕ) → k < l.x-index → slice_get l.xs k ≡ Some y
    → OneUnknown l.code.layouts y (homes l.code a) → ⊥
