-- All of this belongs to what the program promises (docs/promise.txt).
-- The text of `trace`: each entry of a journal on a line of its own, with the place in the text of what made it, and
-- the value that passes there. Processes and channels have their names as in the journal.
use Rattle.std.specs.Option.{option_map_or}
use Rattle.std.specs.Prelude.{ℕ, ◌+◌, List, [], ◌∷◌, ◌++◌, Option, None, codes, decimal}
use Rattle.sp_base.specs.declared.place.Place.{Place}
use Rattle.sp_tree.specs.declared.checked.KindOf.{KindOf}
use Rattle.sp_journal.specs.declared.entry.Entry.{Entry}
use Rattle.sp_journal.specs.declared.entry.Event.{Event}
use Rattle.sp_journal.specs.declared.entry.Event.TheVariants as event
use Rattle.sp_journal.specs.Births.{Births, births_after_entry, first_births}
use Rattle.sp_journal.specs.Texts.{entry_text}
use Rattle.sp_cell.specs.declared.cell.Cell.{Cell}
use Rattle.sp_lines.specs.declared.mark.Mark.{Mark}
use Rattle.sp_lines.specs.declared.entry_place.Told.{Told}
use Rattle.sp_base.specs.Places.{place_text}
use Rattle.sp_where.specs.Places.{statement_at, part_at}
use Rattle.sp_where.specs.Values.{value_text}

-- the place that an event has whose turn ended at instruction q: for a fault that of the part which met it, else that
-- of the statement
abbrev pub place_of_event : List Mark → Event → ℕ → Place
place_of_event marks (event.Fault f) q = part_at marks q
place_of_event marks _ q = statement_at marks q

-- what passes at an event whose turn came to this message: it does at a send and at a receive alone
abbrev pub passed : Event → Option (ℕ × List Cell) → Option (ℕ × List Cell)
passed (event.Send c) m = m
passed (event.Receive c) m = m
passed _ _ = None

-- the message that passes, if one does, behind a space
abbrev pub message_text : List KindOf → List (List (List ℕ)) → Births → Option (ℕ × List Cell) → List ℕ
message_text kinds constants s m = option_map_or (λ m. codes " " ++ value_text kinds constants s m.0 m.1) m []

module _ (kinds : List KindOf) (constants : List (List (List ℕ))) (marks : List Mark) where
  -- the line of entry i, as `3 1:125 0/0.1 send 0#0 1`
  abbrev pub trace_line : ℕ → Births → Entry → Told → List ℕ
  trace_line i s e w = decimal i ++ codes " " ++ place_text (place_of_event marks e.event w.instruction) ++ codes " "
      ++ entry_text s e ++ message_text kinds constants s (passed e.event w.message) ++ codes "\n"

  -- the lines of the entries from number i on, with what was given before them
  abbrev pub trace_lines : ℕ → Births → List Entry → List Told → List ℕ
  trace_lines i s [] ws = []
  trace_lines i s (e ∷ es) [] = []
  trace_lines i s (e ∷ es) (w ∷ ws) = trace_line i s e w ++ trace_lines (i + 1) (births_after_entry s e) es ws

  -- the whole text
  abbrev pub trace_text : List Entry → List Told → List ℕ
  trace_text es ws = codes "trace\n" ++ trace_lines 0 first_births es ws
