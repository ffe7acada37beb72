use Rattle.std.proofs.Common.{◌≡◌, ◌≤◌, length, reverse, take, drop}
use Rattle.sp_journal.specs.Births.{births}
use Rattle.sp_witness.specs.Flags.{marks}
use Rattle.sp_witness.specs.Passes.{lines_of, HasFlags}
use Rattle.sp_witness.proofs.marks.marks_of.Given as goal

abbrev pub invariant-loop-at : goal.invariant-loop-at
invariant-loop-at l = record {
  inside : l.at ≤ length l.front;
  first : l.first ≡ (births (take l.at l.front)).processes;
  flags : HasFlags l.earlier l.last l.front l.at l.needed;
  marks : reverse l.marked.items
      ≡ marks l.earlier l.last (births (take l.at l.front)) (lines_of (take l.at l.front)) l.at (drop l.at l.front);
}

abbrev pub decreases-loop-at : goal.decreases-loop-at
decreases-loop-at l = l.at
