-- All of this belongs to what the program promises (docs/promise.txt).
-- The texts of the names of processes and channels: `0`, then `/f.k` for each step, and `#n` for a channel. The
-- printing of `ProcName` and `ChanName` promises them, and the texts of journals, reports and ends are made of them.
use Rattle.std.specs.Prelude.{ℕ, List, ◌++◌, codes, decimal}
use Rattle.std.specs.List.{flat_map}
use Rattle.sp_base.specs.declared.name.Pair.{Pair}
use Rattle.sp_base.specs.declared.name.ProcName.{ProcName}
use Rattle.sp_base.specs.declared.name.ChanName.{ChanName}

-- a pair is printed as `/f.k`
abbrev pub pair_text : Pair → List ℕ
pair_text p = codes "/" ++ decimal p.fork ++ codes "." ++ decimal p.child

-- all steps of a name, one after another
abbrev pub pairs_text : List Pair → List ℕ
pairs_text = flat_map pair_text

-- a process is printed as `0` and then its pairs
abbrev pub name_text : ProcName → List ℕ
name_text n = codes "0" ++ pairs_text n.pairs

-- a channel is printed as its owner, `#` and its number among the owner's channels
abbrev pub channel_text : ChanName → List ℕ
channel_text c = name_text c.owner ++ codes "#" ++ decimal c.nth
