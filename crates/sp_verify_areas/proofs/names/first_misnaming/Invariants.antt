use Rattle.std.proofs.Common.{◌≡◌, ℕ, ◌<◌, true}
use Rattle.sp_verify_rules.specs.Areas.{instr_at}
use Rattle.sp_verify_rules.specs.NameRules.{names_there}
use Rattle.sp_verify_areas.proofs.names.first_misnaming.Given as goal

-- what the instructions so far name is there
abbrev pub invariant-loop-p : goal.invariant-loop-p
invariant-loop-p l = (k : ℕ) → k < l.p → names_there l.code (instr_at l.code k) ≡ true
