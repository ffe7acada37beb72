-- None of this belongs to what the program promises: it is for contracts between crates.
-- What the entries of a run have given to each process: no more than their number; and nobody is there without a
-- number. The proofs of the laws of histories keep it along a run.
use Rattle.std.specs.Prelude.{◌≡◌, ℕ, ◌≤◌}
use Rattle.sp_code.specs.System.{System, Absent}

pub record IsCounted {S : Type 0} (s : System S) : Type 0 where
  pub forks : (q : ℕ) → s.births.forks q ≤ s.entries
  pub opens : (q : ℕ) → s.births.opens q ≤ s.entries
  pub absent : (q : ℕ) → s.births.processes ≤ q → s.condition q ≡ Absent
