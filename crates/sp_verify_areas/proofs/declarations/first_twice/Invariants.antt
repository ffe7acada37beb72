use Rattle.sp_verify_rules.specs.NameRules.{InLayout, OfChild}
use Rattle.sp_verify_areas.specs.Twice.{IsSeen}
use Rattle.sp_verify_areas.proofs.declarations.first_twice.Given as goal

-- the layouts so far are noted
abbrev pub invariant-loop-place : goal.invariant-loop-place
invariant-loop-place l = IsSeen l.code (InLayout l.place 0) l.seen

-- and the tables so far
abbrev pub invariant-loop-table : goal.invariant-loop-table
invariant-loop-table l = IsSeen l.code (OfChild l.table 0) l.seen
