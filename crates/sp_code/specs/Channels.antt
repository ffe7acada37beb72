-- None of this belongs to what the program promises: it is for contracts between crates.
-- The channels that a process can speak of: those in its operands, its stop and the cells of its store. The law that
-- all of them were opened is said by it; the property is left open, so that one walk serves all.
use Rattle.std.specs.Prelude.{ℕ, List, [], ◌∷◌}
use Rattle.sp_cell.specs.declared.cell.Cell.{Cell}
use Rattle.sp_cell.specs.declared.cell.Cell.TheVariants as cell
use Rattle.sp_cell.specs.declared.spot.Spot.{Spot}
use Rattle.sp_cell.specs.declared.spot.Address.{Address}
use Rattle.sp_code.specs.Machine.{Entry, Chan, Cells, Stop, Forks, Opens, Sends, Receives}
use Rattle.sp_code.specs.Machine.{Ends, Pauses, Config, At, StepResult, Goes, Stops, Fails, Stuck}
use Rattle.sp_code.specs.Turns.{Turn, Stopped, Faulted}
use Rattle.sp_code.specs.Memory.{Stores, cells_at}

-- the address that waits for a channel, with a cell behind it, or for a message is one of J
module _ {M : Type 0} (J : ℕ → Address → M → Type 0) where
  abbrev pub AimsAt : Stop → Config M → Type 0
  AimsAt (Opens a) (At pc st n) = J 1 a n
  AimsAt (Receives c k a) (At pc st n) = J 0 a n
  AimsAt (Forks t v k) (At pc st n) = Unit {0}
  AimsAt (Sends c k cs) (At pc st n) = Unit {0}
  AimsAt Ends (At pc st n) = Unit {0}
  AimsAt Pauses (At pc st n) = Unit {0}

module _ (C : ℕ → Type 0) where
  -- the channel in a cell, if there is one, has the property
  abbrev pub CellHas : Cell → Type 0
  CellHas cell.Undefined = Unit {0}
  CellHas (cell.Ordinal v) = Unit {0}
  CellHas (cell.Channel c) = C c

  -- so for each cell
  abbrev pub CellsHave : List Cell → Type 0
  CellsHave [] = Unit {0}
  CellsHave (c ∷ cs) = CellHas c × CellsHave cs

  -- so for an operand
  abbrev pub EntryHas : Entry → Type 0
  EntryHas (Chan c) = C c
  EntryHas (Cells cs) = CellsHave cs
  EntryHas _ = Unit {0}

  -- so for each operand
  abbrev pub EntriesHave : List Entry → Type 0
  EntriesHave [] = Unit {0}
  EntriesHave (e ∷ es) = EntryHas e × EntriesHave es

  -- what a process stops at speaks of such channels alone
  abbrev pub StopHas : Stop → Type 0
  StopHas (Sends c k cs) = C c × CellsHave cs
  StopHas (Receives c k a) = C c
  StopHas _ = Unit {0}

  -- each cell of each piece that a store holds
  abbrev pub StoreHas : {S : Type 0} → Stores S → S → Type 0
  StoreHas stores s = (p : Spot) → CellsHave (cells_at stores s p)

  module _ {M : Type 0} (I : M → Type 0) where
    -- a process with such channels, and with a memory of which I holds
    abbrev pub ConfigHas : Config M → Type 0
    ConfigHas (At pc st n) = EntriesHave st × I n

    -- so for a turn
    abbrev pub TurnHas : Turn M → Type 0
    TurnHas (Stopped stop c) = StopHas stop × ConfigHas c
    TurnHas (Faulted f c) = ConfigHas c

    -- so for what comes of an instruction and of a turn, where an address that waits for a channel or a message is one
    -- of J
    module _ (J : ℕ → Address → M → Type 0) where
      abbrev pub TurnDoes : Turn M → Type 0
      TurnDoes (Stopped stop c) = (StopHas stop × AimsAt J stop c) × ConfigHas c
      TurnDoes (Faulted f c) = ConfigHas c

      abbrev pub OneHas : StepResult M → Type 0
      OneHas (Goes c) = ConfigHas c
      OneHas (Stops stop c) = (StopHas stop × AimsAt J stop c) × ConfigHas c
      OneHas (Fails f) = Unit {0}
      OneHas Stuck = Unit {0}
