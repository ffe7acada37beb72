-- None of this belongs to what the program promises: it is for contracts between crates.
-- What the slots end as, where a `&mut` to an entry is returned: a starred clause of `Slots` cites it, which speaks of
-- the moment at which the borrow ends.
use Rattle.std.specs.Borrow.{Lends, MutBor, Fml}
use Rattle.std.specs.FinMap as map
use Rattle.sp_cell.specs.declared.spot.Spot.{Spot}
use Rattle.sp_cell.specs.Map.{Map}
use Rattle.sp_store.specs.Layout.{content}
use Rattle.sp_store.specs.declared.entry.Entry.{Entry}
use Rattle.sp_store.specs.contracts.entry.Entry as entries
use Rattle.sp_store.specs.contracts.slots.Slots.{the_row}

-- once the borrow r ends, the map has at the spot what was left behind r
abbrev pub LendsEntry : MutBor Map → Spot → MutBor Entry → Fml
LendsEntry v s r = Lends the_row entries.the_row v r (λ w. map.insert v.now s (content w))
