use Rattle.sp_verify_rules.specs.NameRules.{InLayout}
use Rattle.sp_verify_areas.specs.Twice.{IsSeen}
use Rattle.sp_verify_areas.proofs.declarations.note_layout.Given as goal

-- the variables so far are noted
abbrev pub invariant-loop-x : goal.invariant-loop-x
invariant-loop-x l = IsSeen l.code (InLayout l.place l.x-index) l.seen
