use Rattle.std.proofs.Common.{◌≡◌, ◌++◌, ℕ, List}
use Rattle.sp_varsets.specs.SetsText.{IsLineAt, Joined}
use Rattle.sp_base.specs.Adds.{Keeps}
use Rattle.sp_varsets.proofs.print.put_lines.Given as goal

abbrev pub invariant-each : goal.invariant-each
invariant-each l = Keeps l.fn.out l.out ((t : List ℕ) × Joined (IsLineAt l.variables l.sets l.lines) l.i t
    × (l.out.items.items ≡ l.fn.out.items.items ++ t))
