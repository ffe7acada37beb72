-- All of this belongs to what the program promises (docs/promise.txt).
-- What a journal's entries give to processes and channels: numbers, births and names. The contracts of `Journal` and
-- `Ledger` cite it, and the kernel, the judge and the reports speak of processes by it. A fold over the entries, since
-- numbers are given in the order of entries.
use Rattle.std.specs.Prelude.{ℕ, ◌+◌, ◌-◌, ◌^◌, ◌<◌, ◌≤◌, Bool, cond, ◌&&◌, ◌==◌, nat_lt, nat_le, List, [], ◌∷◌, Option}
use Rattle.std.specs.Prelude.{Some, None}
use Rattle.sp_journal.specs.declared.entry.Way.TheVariants as way
use Rattle.sp_journal.specs.declared.entry.Event.{Event}
use Rattle.sp_journal.specs.declared.entry.Event.TheVariants as event
use Rattle.sp_journal.specs.declared.entry.Entry.{Entry}
use Rattle.sp_journal.specs.declared.entry.Journal.{Journal}
use Rattle.sp_journal.specs.declared.entry.Birth.{Birth}
use Rattle.sp_journal.specs.declared.entry.Opening.{Opening}
use Rattle.sp_journal.specs.Maps.{at_key}
use Rattle.sp_journal.specs.Names.{Name, Channel, Happening, Opened, Forked, Offered, Ended, Faulted, Laid, Paused}
use Rattle.sp_journal.specs.Names.{Occurrence}

-- what the entries so far have given
pub record Births : Type 0 where
  -- how many processes there are, the root among them, and how many channels: these are the next numbers
  pub processes : ℕ
  pub channels : ℕ
  -- how a process came to be, and its name
  pub birth : ℕ → Option Birth
  pub name : ℕ → Name
  -- how a channel came to be
  pub opening : ℕ → Opening
  -- how many forks and opens a process has made
  pub forks : ℕ → ℕ
  pub opens : ℕ → ℕ

-- before the first entry: the root alone
abbrev pub first_births : Births
first_births = record {
  processes = 1;
  channels = 0;
  birth = λ q. None;
  name = λ q. [];
  opening = λ c. record { owner = 0; nth = 0 };
  forks = λ q. 0;
  opens = λ q. 0;
}

-- one of the next n processes
abbrev pub is_next : Births → ℕ → ℕ → Bool
is_next s n q = nat_le s.processes q && nat_lt q (s.processes + n)

-- after this event of process p: the children of a fork have the next numbers of processes, the channel of an open has
-- the next number of a channel
abbrev pub births_after_event : Births → ℕ → Event → Births
births_after_event s p (event.Fork n) = record s {
  processes = s.processes + n;
  birth = λ q. cond (is_next s n q) (Some (record { parent = p; fork = s.forks p; child = q - s.processes }))
      (s.birth q);
  name = λ q. cond (is_next s n q) ((s.forks p, q - s.processes) ∷ s.name p) (s.name q);
  forks = at_key ◌==◌ p (s.forks p + 1) s.forks;
}
births_after_event s p event.Open = record s {
  channels = s.channels + 1;
  opening = at_key ◌==◌ s.channels (record { owner = p; nth = s.opens p }) s.opening;
  opens = at_key ◌==◌ p (s.opens p + 1) s.opens;
}
births_after_event s p _ = s

-- the same of an entry
abbrev pub births_after_entry : Births → Entry → Births
births_after_entry s e = births_after_event s e.process e.event

-- what further entries give
abbrev pub births_from : Births → List Entry → Births
births_from s [] = s
births_from s (e ∷ es) = births_from (births_after_entry s e) es

-- what all these entries have given
abbrev pub births : List Entry → Births
births es = births_from first_births es

-- the name of a channel
abbrev pub channel : Births → ℕ → Channel
channel s c = record { owner = s.name (s.opening c).owner; nth = (s.opening c).nth }

-- an event speaks of channels that are there, and gives numbers below 4,294,967,296 alone
abbrev pub GivesNumbers : Births → ℕ → Event → Type 0
GivesNumbers s p (event.Fork n) = (s.processes + n ≤ 2 ^ 32) × (s.forks p < 2 ^ 32)
GivesNumbers s p event.Open = (s.channels < 2 ^ 32) × (s.opens p < 2 ^ 32)
GivesNumbers s p (event.Send c) = c < s.channels
GivesNumbers s p (event.Receive c) = c < s.channels
GivesNumbers _ _ _ = Unit {0}

-- an entry can come next: its process is there, and so is what its event speaks of
abbrev pub CanFollow : Births → Entry → Type 0
CanFollow s e = (e.process < s.processes) × GivesNumbers s e.process e.event

-- each further entry can come next
abbrev pub NameableFrom : Births → List Entry → Type 0
NameableFrom s [] = Unit {0}
NameableFrom s (e ∷ es) = CanFollow s e × NameableFrom (births_after_entry s e) es

-- a journal is nameable where each entry can follow those before it
abbrev pub IsNameable : Journal → Type 0
IsNameable j = NameableFrom first_births j.entries

-- the same entries by names
abbrev pub happening : Births → Event → Happening
happening s (event.Fork n) = Forked n
happening s event.Open = Opened
happening s (event.Send c) = Offered way.Send (channel s c)
happening s (event.Receive c) = Offered way.Receive (channel s c)
happening s event.End = Ended
happening s (event.Fault f) = Faulted f
happening s event.Laid = Laid
happening s event.Pause = Paused

-- an entry by names, with what was given before it
abbrev pub occurrence : Births → Entry → Occurrence
occurrence s e = record { who = s.name e.process; what = happening s e.event }

abbrev pub occurrences_from : Births → List Entry → List Occurrence
occurrences_from s [] = []
occurrences_from s (e ∷ es) = occurrence s e ∷ occurrences_from (births_after_entry s e) es

-- a whole journal by names
abbrev pub occurrences : Journal → List Occurrence
occurrences j = occurrences_from first_births j.entries
