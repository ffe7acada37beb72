-- None of this belongs to what the program promises: it is for contracts between crates.
-- What is seen of a process that the kernel has, by its condition in the system. `where` shows it.
use Rattle.std.specs.Prelude.{◌≡◌, ℕ, List}
use Rattle.sp_cell.specs.declared.cell.Cell.{Cell}
use Rattle.sp_cell.specs.declared.spot.Address.{Address}
use Rattle.sp_cell.specs.Map.{Plain}
use Rattle.sp_code.specs.Machine.{Config, Sends, Receives}
use Rattle.sp_code.specs.Memory.{Memory}
use Rattle.sp_code.specs.System.{Condition, Absent, Working, Waits, Joins, Laid, Gone, Over}
use Rattle.sp_kernel.specs.declared.kernel.Seen.{Seen}
use Rattle.sp_kernel.specs.declared.kernel.Seen.TheVariants as seen

-- a process in this condition is c, and does this
abbrev pub IsSeen : Condition Plain → Config (Memory Plain) → Seen → Type 0
IsSeen x c seen.Running = x ≡ Working c
IsSeen x c (seen.Sending channel) = (k : ℕ) × (cs : List Cell) × (x ≡ Waits (Sends channel k cs) c)
IsSeen x c (seen.Receiving channel) = (k : ℕ) × (a : Address) × (x ≡ Waits (Receives channel k a) c)
IsSeen x c seen.Joining = (left : ℕ) × (x ≡ Joins left c)
IsSeen x c seen.Laid = x ≡ Laid c
IsSeen x c seen.Over = x ≡ Over c

-- it neither waits nor joins, was not laid, and is not the root after its end
abbrev pub IsUnseen : Condition Plain → Type 0
IsUnseen Absent = Unit {0}
IsUnseen (Working c) = Unit {0}
IsUnseen Gone = Unit {0}
IsUnseen _ = ⊥
