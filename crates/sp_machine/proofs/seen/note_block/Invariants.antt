use Rattle.std.proofs.Common.{◌≡◌, ℕ, drop}
use Rattle.std.specs.Option.{option_or}
use Rattle.sp_code.specs.System.{place_of, first_number, spot_at}
use Rattle.sp_machine.specs.Frames.{frame_of}
use Rattle.sp_machine.specs.Seen.{under}
use Rattle.sp_machine.proofs.seen.note_block.Given as goal

-- a variable that is not in the table is looked for among those that are left
abbrev pub invariant-loop-variable : goal.invariant-loop-variable
invariant-loop-variable l = (x : ℕ) → option_or (under l.seen x) (spot_at (frame_of l.frame) l.layout
    (place_of x l.place (drop l.variable-index l.layout.variables)))
    ≡ option_or (under l.fn.seen x) (spot_at (frame_of l.frame) l.layout
    (place_of x (first_number l.layout) l.layout.variables))
