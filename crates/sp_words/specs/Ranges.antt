-- Some of this belongs to what the program promises (docs/promise.txt).
-- The ranges of the options of the commands, and the workers and limits where no option is given. The law that every
-- accepted command is in range cites them, and so do the calls of `superpascal` that run a program, which require them.
use Rattle.std.specs.Prelude.{◌≤◌, ℕ}
use Rattle.sp_base.specs.declared.limits.Limits.{Limits}
use Rattle.sp_words.specs.declared.command.Command.{Command}
use Rattle.sp_words.specs.declared.command.Command.TheVariants as command

-- at least 1, and at most the greatest value of the option
abbrev pub IsUpTo : ℕ → ℕ → Type 0
IsUpTo greatest n = (1 ≤ n) × (n ≤ greatest)

-- the number of workers and each limit are values that their options may have
pub record IsInRange (count : ℕ) (lim : Limits) : Type 0 where
  pub workers : IsUpTo 64 count
  pub ticks : IsUpTo 1000000000 lim.ticks
  pub depth : IsUpTo 10000 lim.depth
  pub cells : IsUpTo 67108864 lim.cells
  pub processes : IsUpTo 1000000 lim.processes
  pub channels : IsUpTo 1000000 lim.channels
  pub entries : IsUpTo 10000000 lim.entries
  pub output : IsUpTo 268435456 lim.output

-- the options of a command are in their ranges, and so is the size of `gen`; a journal is followed by one worker
abbrev pub AreInRange : Command → Type 0
AreInRange (command.Run a) = IsInRange a.workers a.limits
AreInRange (command.Gen size workers) = IsUpTo 2000 size × IsUpTo 64 workers
AreInRange (command.Replay a) = IsInRange 1 a.limits
AreInRange (command.Exec a) = IsInRange a.workers a.limits
AreInRange _ = Unit {0}

-- the workers where no option is given
abbrev pub default_workers : ℕ
default_workers = 4

-- the limits of a run where no option is given
abbrev pub default_limits : Limits
default_limits = record {
  ticks = 10000000;
  depth = 1000;
  cells = 4194304;
  processes = 100000;
  channels = 100000;
  entries = 1000000;
  output = 16777216;
}
