use Rattle.std.proofs.Common.{◌⊎◌}
use Rattle.sp_verify_rules.specs.Areas.{Area, homes}
use Rattle.sp_verify_areas.specs.LeastPlaces.{IsLeast, Upto}
use Rattle.sp_verify_areas.specs.Only.{LiesOnlyIn}
use Rattle.sp_verify_areas.specs.Unknown.{ChildUnknown, UnknownBy}
use Rattle.sp_verify_areas.proofs.unknown.after_children.Given as goal

-- with those of the children so far
abbrev pub invariant-loop-child : goal.invariant-loop-child
invariant-loop-child l = (a : Area) → LiesOnlyIn l.code l.q a
    → IsLeast (λ p. Upto (UnknownBy l.code) l.q p
    ⊎ Upto (ChildUnknown l.code.layouts (homes l.code a) l.children) l.child-index p) l.first
