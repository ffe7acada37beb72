-- Some of this belongs to what the program promises (docs/promise.txt).
-- What is told of a journal that was followed with the code of a text's tree is of the text: the law
-- `journals_are_told_in_the_text` says it, and `trace` and `where` promise their places by it.
use Rattle.std.specs.Prelude.{◌≡◌, ◌≢◌, ℕ, List, Some, true, length, slice_get}
use Rattle.sp_base.specs.declared.fault.Fault.{Fault}
use Rattle.sp_base.specs.declared.fault.Fault.TheVariants as fault
use Rattle.sp_tree.specs.PlainChecked.{Program}
use Rattle.sp_cell.specs.Map.{Plain}
use Rattle.sp_journal.specs.declared.entry.Entry.{Entry}
use Rattle.sp_journal.specs.declared.entry.Event.TheVariants as event
use Rattle.sp_code.specs.Machine.{Config}
use Rattle.sp_code.specs.Memory.{CodeRun, Memory, memory}
use Rattle.sp_code.specs.PlainStore.{plain}
use Rattle.sp_code.specs.System.{Working}
use Rattle.sp_code.specs.Turns.{frames_fit}
use Rattle.sp_kernel.specs.Kernels.{system_of}
use Rattle.sp_lines.specs.AtTurn.{next_of}
use Rattle.sp_lines.specs.declared.mark.Mark.{Mark}
use Rattle.sp_lines.specs.declared.entry_place.Told.{Told}
use Rattle.sp_lines.specs.Kinds.{HasStatement}
use Rattle.sp_lines.specs.Marks.{marks}
use Rattle.sp_lines.specs.EntryPlaces.{lasts_after}
use Rattle.sp_lines.specs.WaitPlaces.{IsShown}
use Rattle.sp_replay.specs.declared.trace.Traced.{Traced}
use Rattle.sp_replay.specs.TraceAnswers.{never}
use Rattle.sp_lines.specs.JumpTargets.{landing}

-- the instruction with this number has a mark
abbrev pub HasMark : Program → ℕ → Type 0
HasMark p q = (m : Mark) × (slice_get (marks p) q ≡ Some m)

-- of the entries of a journal of a run of p's code this was told, and the run has come to this state
pub record IsToldInText (p : Program) (g : CodeRun) (es : List Entry) (r : Traced) : Type 0 where
  -- one thing is told of each entry
  pub each : length r.told ≡ length es
  -- an entry that forks, opens, sends or receives is told where a statement of the text begins that does so
  pub entries : (i : ℕ) (e : Entry) (w : Told) → slice_get es i ≡ Some e → slice_get r.told i ≡ Some w
      → HasStatement p e.event w.instruction
  -- a fault is told at an instruction with a mark, but that of variables that do not fit, before any instruction
  pub faults : (i : ℕ) (e : Entry) (w : Told) (f : Fault) → slice_get es i ≡ Some e → slice_get r.told i ≡ Some w
      → e.event ≡ event.Fault f → f ≢ fault.F12 → HasMark p w.instruction
  -- a process that waits, or joins, is shown where a statement of the text begins that does so
  pub waiting : (q : ℕ) → IsShown p ((system_of r.state.kernel).condition q) (lasts_after es r.told never q)
  -- a process that runs, and whose variables fit, is shown at an instruction with a mark
  pub running : (q : ℕ) (c : Config (Memory Plain)) → (system_of r.state.kernel).condition q ≡ Working c
      → frames_fit (memory plain g) g.code c ≡ true → HasMark p (landing g.code.instrs (next_of c))
