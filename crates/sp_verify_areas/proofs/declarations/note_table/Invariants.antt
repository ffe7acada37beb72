use Rattle.sp_verify_rules.specs.NameRules.{OfChild}
use Rattle.sp_verify_areas.specs.Twice.{IsSeen}
use Rattle.sp_verify_areas.proofs.declarations.note_table.Given as goal

-- the children so far are noted
abbrev pub invariant-loop-k : goal.invariant-loop-k
invariant-loop-k l = IsSeen l.code (OfChild l.table l.k) l.seen
