-- None of this belongs to what the program promises: it is for contracts between crates.
-- What holds of each process of a system: its number is the one at which it stands, and it speaks of channels that are
-- there. The laws of histories promise it, and the kernel's contract of a run's end rests on it.
use Rattle.std.specs.Prelude.{◌≡◌, ℕ, ◌<◌}
use Rattle.sp_cell.specs.Map.{Plain}
use Rattle.sp_code.specs.Memory.{Memory}
use Rattle.sp_code.specs.PlainStore.{plain}
use Rattle.sp_code.specs.System.{System, Condition, Absent, Working, Waits, Joins, Laid, Gone, Over}
use Rattle.sp_code.specs.Channels.{StopHas, StoreHas, ConfigHas}

-- a process of this number, and each channel in its store has the property
abbrev pub MemoryHas : (ℕ → Type 0) → ℕ → Memory Plain → Type 0
MemoryHas C q n = (n.process ≡ q) × StoreHas C plain n.store

-- so for what a process does, and for the offer with which it waits
abbrev pub ConditionHas : (ℕ → Type 0) → ℕ → Condition Plain → Type 0
ConditionHas C q Absent = Unit {0}
ConditionHas C q (Working c) = ConfigHas C (MemoryHas C q) c
ConditionHas C q (Waits stop c) = StopHas C stop × ConfigHas C (MemoryHas C q) c
ConditionHas C q (Joins left c) = ConfigHas C (MemoryHas C q) c
ConditionHas C q (Laid c) = ConfigHas C (MemoryHas C q) c
ConditionHas C q Gone = Unit {0}
ConditionHas C q (Over c) = ConfigHas C (MemoryHas C q) c

-- the channel of this number was opened
abbrev pub IsThere : System Plain → ℕ → Type 0
IsThere s c = c < s.births.channels

-- every channel of which a process of the system speaks is there
abbrev pub NamesChannels : System Plain → Type 0
NamesChannels s = (q : ℕ) → ConditionHas (IsThere s) q (s.condition q)
