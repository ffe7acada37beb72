use Rattle.std.proofs.Common.{◌≤◌, drop, true}
use Rattle.sp_report.specs.Timeline.{numbered_lines}
use Rattle.sp_base.specs.Adds.{Covers}
use Rattle.sp_report.proofs.timeline.put_numbered.Given as goal

-- what was put, and what the lines from here on come to
abbrev pub invariant-loop-byte : goal.invariant-loop-byte
invariant-loop-byte l = Covers l.initial.out l.out (numbered_lines l.begins l.next (drop l.byte-index l.lines))
    (numbered_lines true 0 l.fn.lines) × (l.next ≤ l.byte-index)
