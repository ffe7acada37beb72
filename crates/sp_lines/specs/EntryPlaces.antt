-- All of this belongs to what the program promises (docs/promise.txt).
-- The system of all processes along a journal, with what is told of each entry: at which instruction its turn ended,
-- and the message that passes there.
use Rattle.std.specs.Option.{option_map}
use Rattle.std.specs.Prelude.{◌≡◌, ℕ, ◌==◌, List, [], ◌∷◌, Option, Some, None}
use Rattle.sp_cell.specs.declared.cell.Cell.{Cell}
use Rattle.sp_cell.specs.Map.{Plain}
use Rattle.sp_journal.specs.declared.entry.Event.{Event}
use Rattle.sp_journal.specs.declared.entry.Entry.{Entry}
use Rattle.sp_journal.specs.Maps.{at_key}
use Rattle.sp_code.specs.Machine.{Stop, Sends, Receives, Config}
use Rattle.sp_code.specs.Memory.{CodeRun, Memory, memory}
use Rattle.sp_code.specs.PlainStore.{plain}
use Rattle.sp_code.specs.System.{System, Working, event_of, system_after_turn, pending_stop, opening_system}
use Rattle.sp_code.specs.Turns.{Turn, Stopped, Faulted, IsTurn}
use Rattle.sp_lines.specs.declared.entry_place.Told.{Told}
use Rattle.sp_lines.specs.AtTurn.{at_turn}

-- the cells that an offer sends
abbrev pub sent_by : Option Stop → Option (List Cell)
sent_by (Some (Sends channel message cells)) = Some cells
sent_by _ = None

-- a message of this type, if one has these cells
abbrev pub of_type : (message : ℕ) → Option (List Cell) → Option (ℕ × List Cell)
of_type k cells = option_map (λ cells. (k, cells)) cells

-- the type and the cells of the message of a stop: what is sent, or what a waiting send has that a receive meets
abbrev pub passes_at : System Plain → Stop → Option (ℕ × List Cell)
passes_at s (Sends channel message cells) = Some (message, cells)
passes_at s (Receives channel message target) = of_type message (sent_by (pending_stop s (s.pending channel)))
passes_at _ _ = None

abbrev pub passes : System Plain → Turn (Memory Plain) → Option (ℕ × List Cell)
passes s (Stopped stop c) = passes_at s stop
passes s (Faulted fault c) = None

-- of a turn in a system
abbrev pub told_of : System Plain → Turn (Memory Plain) → Told
told_of s turn = record { instruction = at_turn turn; message = passes s turn }

module _ (g : CodeRun) where
  -- the turn of the entry's process, which runs, and then its event lead from s to t, and this is told of it
  abbrev pub EntryTells : System Plain → ℕ → Event → Told → System Plain → Type 0
  EntryTells s q e w t =
      (c : Config (Memory Plain)) × (s.condition q ≡ Working c) × (turn : Turn (Memory Plain))
      × IsTurn (memory plain g) g.code c turn × (event_of g.limits s turn ≡ e)
      × (t ≡ system_after_turn plain g q turn s) × (w ≡ told_of s turn)

  -- the entries, in order
  abbrev pub EntriesTell : System Plain → List Entry → List Told → System Plain → Type 0
  EntriesTell s [] [] t = t ≡ s
  EntriesTell s (e ∷ es) (w ∷ ws) t = (u : System Plain) × EntryTells s e.process e.event w u × EntriesTell u es ws t
  EntriesTell _ _ _ _ = ⊥

  -- this is told of a journal, and the system along it is this one
  abbrev pub DescribesEntries : List Entry → List Told → System Plain → Type 0
  DescribesEntries es ws t = EntriesTell (opening_system plain g) es ws t

-- for each process the instruction at which its last turn ended
abbrev pub lasts_after : List Entry → List Told → (ℕ → ℕ) → ℕ → ℕ
lasts_after (e ∷ es) (w ∷ ws) at = lasts_after es ws (at_key ◌==◌ e.process w.instruction at)
lasts_after _ _ at = at
