-- Some of this belongs to what the program promises (docs/promise.txt).
-- Names of processes and channels in the form in which definitions use them, and what a journal says by names. The
-- meaning, the judge and the reports speak of runs so. The newest step stands first, since definitions go from a
-- process to its parent.
use Rattle.std.specs.Prelude.{ℕ, Bool, true, false, ◌&&◌, ◌==◌, List, [], ◌∷◌, ◌++◌}
use Rattle.sp_base.specs.declared.fault.Fault.{Fault}
use Rattle.sp_base.specs.declared.name.Pair.{Pair}
use Rattle.sp_base.specs.declared.name.ProcName.{ProcName}
use Rattle.sp_base.specs.declared.name.ChanName.{ChanName}
use Rattle.sp_journal.specs.declared.entry.Way.{Way}
use Rattle.sp_journal.specs.declared.entry.Way.TheVariants as way

-- a process by its steps from the root, the newest one first: child i of fork k of p is `(k, i) ∷ p`
abbrev pub Name : Type 0
Name = List (ℕ × ℕ)

-- a channel by its owner and how many channels the owner had opened before it
pub record Channel : Type 0 where
  pub owner : Name
  pub nth : ℕ

abbrev pub same_name : Name → Name → Bool
same_name [] [] = true
same_name (a ∷ p) (b ∷ q) = ((a.0 == b.0) && (a.1 == b.1)) && same_name p q
same_name _ _ = false

abbrev pub same_channel : Channel → Channel → Bool
same_channel a b = same_name a.owner b.owner && (a.nth == b.nth)

abbrev pub same_way : Way → Way → Bool
same_way way.Send way.Send = true
same_way way.Send way.Receive = false
same_way way.Receive way.Send = false
same_way way.Receive way.Receive = true

-- the same names as the program keeps and prints them, the oldest step first
abbrev pub pairs_of : Name → List Pair
pairs_of [] = []
pairs_of (a ∷ p) = pairs_of p ++ record { fork = a.0; child = a.1 } ∷ []

abbrev pub proc_name : Name → ProcName
proc_name p = record { pairs = pairs_of p }

abbrev pub chan_name : Channel → ChanName
chan_name c = record { owner = proc_name c.owner; nth = c.nth }

-- what a process does at an entry
pub data Happening : Type 0 where
  Opened : Happening
  Forked : (children : ℕ) → Happening
  Offered : (way : Way) (channel : Channel) → Happening
  Ended : Happening
  Faulted : (fault : Fault) → Happening
  Laid : Happening
  Paused : Happening

-- an entry by names
pub record Occurrence : Type 0 where
  pub who : Name
  pub what : Happening
