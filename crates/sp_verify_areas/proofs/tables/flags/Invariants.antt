use Rattle.std.proofs.Common.{◌≡◌, ◌<◌, ◌||◌, ℕ, drop, length}
use Rattle.sp_verify_areas.specs.Alone.{flag_at, named_in}
use Rattle.sp_verify_areas.proofs.tables.flags.Given as goal

-- a table that has no flag yet is looked for among the instructions that are left
abbrev pub invariant-loop-instr : goal.invariant-loop-instr
invariant-loop-instr l = (length l.flags ≡ l.count)
    × ((t : ℕ) → t < l.count → flag_at l.flags t
    || named_in l.forall t (drop l.instr-index l.instrs) ≡ named_in l.forall t l.instrs)
