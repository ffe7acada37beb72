use Rattle.sp_verify_areas.specs.Namers.{AreNamers}
use Rattle.sp_verify_areas.proofs.table_names.first_unnamed.Given as goal

-- the instructions so far
abbrev pub invariant-loop-p : goal.invariant-loop-p
invariant-loop-p l = AreNamers l.code l.p l.namers
