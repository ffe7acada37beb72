-- None of this belongs to what the program promises: it is for contracts between crates.
-- The witness by tables: what the code does to number the picked entries anew. The law of this crate says that it gives
-- the numbers of the definition.
use Rattle.std.specs.Prelude.{◌≡◌, ℕ, ◌+◌, ◌-◌, Bool, true, false, cond, ◌==◌, if◌then◌else◌, List, [], ◌∷◌}
use Rattle.sp_journal.specs.declared.entry.Event.{Event}
use Rattle.sp_journal.specs.declared.entry.Event.TheVariants as event
use Rattle.sp_journal.specs.declared.entry.Entry.{Entry}
use Rattle.sp_journal.specs.Maps.{at_key}
use Rattle.sp_journal.specs.Births.{Births, births_after_entry, is_next}

-- the new numbers of processes and channels, and how many have been given
pub record Table : Type 0 where
  pub process : ℕ → ℕ
  pub channel : ℕ → ℕ
  pub processes : ℕ
  pub channels : ℕ

-- the root alone
abbrev pub first_table : Table
first_table = record { process = λ q. 0; channel = λ c. 0; processes = 1; channels = 0 }

-- an event by the new numbers
abbrev pub renumbered_event : Table → Event → Event
renumbered_event m (event.Fork n) = event.Fork n
renumbered_event m event.Open = event.Open
renumbered_event m (event.Send c) = event.Send (m.channel c)
renumbered_event m (event.Receive c) = event.Receive (m.channel c)
renumbered_event m event.End = event.End
renumbered_event m (event.Fault f) = event.Fault f
renumbered_event m event.Laid = event.Laid
renumbered_event m event.Pause = event.Pause

-- an entry by its new numbers
abbrev pub renumbered_entry : Table → Entry → Entry
renumbered_entry m e = record { process = m.process e.process; event = renumbered_event m e.event }

-- what a picked event gives to the children of a fork or to a channel; s is what the run had given before it
abbrev pub table_after : Births → Table → Event → Table
table_after s m (event.Fork n) = record m {
  process = λ q. cond (is_next s n q) (m.processes + (q - s.processes)) (m.process q);
  processes = m.processes + n;
}
table_after s m event.Open = record m {
  channel = at_key ◌==◌ s.channels m.channels m.channel;
  channels = m.channels + 1;
}
table_after s m (event.Send c) = m
table_after s m (event.Receive c) = m
table_after s m event.End = m
table_after s m (event.Fault f) = m
table_after s m event.Laid = m
table_after s m event.Pause = m

-- the marked entries
abbrev pub marked_entries : List Entry → List Bool → List Entry
marked_entries [] marks = []
marked_entries (e ∷ es) [] = []
marked_entries (e ∷ es) (b ∷ marks) = if b then e ∷ marked_entries es marks else marked_entries es marks

-- the marked entries by new numbers
abbrev pub renumbered_entries : Births → Table → List Entry → List Bool → List Entry
renumbered_entries s m [] marks = []
renumbered_entries s m (e ∷ es) [] = []
renumbered_entries s m (e ∷ es) (b ∷ marks) =
    if b then renumbered_entry m e ∷ renumbered_entries (births_after_entry s e) (table_after s m e.event) es marks
    else renumbered_entries (births_after_entry s e) m es marks

-- the table after them
abbrev pub table_of : Births → Table → List Entry → List Bool → Table
table_of s m [] marks = m
table_of s m (e ∷ es) [] = m
table_of s m (e ∷ es) (b ∷ marks) = table_of (births_after_entry s e) (if b then table_after s m e.event else m)
    es marks

-- of each marked entry all earlier ones of its process are marked; of the processes that dirty names one was not
abbrev pub IsOwnFront : (ℕ → Bool) → List Entry → List Bool → Type 0
IsOwnFront dirty [] marks = Unit {0}
IsOwnFront dirty (e ∷ es) [] = Unit {0}
IsOwnFront dirty (e ∷ es) (true ∷ marks) = (dirty e.process ≡ false) × IsOwnFront dirty es marks
IsOwnFront dirty (e ∷ es) (false ∷ marks) = IsOwnFront (at_key ◌==◌ e.process true dirty) es marks

-- an event that gives no numbers
abbrev pub IsPlain : Event → Type 0
IsPlain (event.Fork n) = ⊥
IsPlain event.Open = ⊥
IsPlain _ = Unit {0}
