-- None of this belongs to what the program promises: it is for contracts between crates.
-- The pass backwards by the numbers of processes and channels: what the code keeps. The law of this crate says that it
-- picks the entries that the pass by names takes.
use Rattle.std.specs.Prelude.{ℕ, zero, suc, ◌+◌, Bool, false, ◌&&◌, ◌||◌, ◌==◌, if◌then◌else◌, List, [], ◌∷◌, Option}
use Rattle.std.specs.Prelude.{Some, None}
use Rattle.sp_journal.specs.declared.entry.Event.{Event}
use Rattle.sp_journal.specs.declared.entry.Event.TheVariants as event
use Rattle.sp_journal.specs.declared.entry.Entry.{Entry}
use Rattle.sp_journal.specs.declared.entry.Birth.{Birth}
use Rattle.sp_journal.specs.Maps.{at_key}
use Rattle.sp_journal.specs.Births.{Births, first_births, births_after_entry}

-- one of m processes from number first on is flagged
abbrev pub any_flag : (ℕ → Bool) → ℕ → ℕ → Bool
any_flag flags first zero = false
any_flag flags first (suc m) = flags (first + m) || any_flag flags first m

-- the parent is flagged
abbrev pub parent_flag : (ℕ → Bool) → Option Birth → Bool
parent_flag flags None = false
parent_flag flags (Some b) = flags b.parent

-- of two that meet both are flagged where either is
abbrev pub flags_to_meet : ℕ → Option ℕ → (ℕ → Bool) → ℕ → Bool
flags_to_meet p None flags = flags
flags_to_meet p (Some z) flags = at_key ◌==◌ p (flags p || flags z) (at_key ◌==◌ z (flags p || flags z) flags)

-- The flags before an event of p, of those after it; s is what was given before the event, and lines is who waits on
-- each channel
abbrev pub flags_before : Births → (ℕ → Option ℕ) → ℕ → Event → (ℕ → Bool) → ℕ → Bool
flags_before s lines p (event.Fork m) flags = at_key ◌==◌ p (flags p || any_flag flags s.processes m) flags
flags_before s lines p (event.Send c) flags = flags_to_meet p (lines c) flags
flags_before s lines p (event.Receive c) flags = flags_to_meet p (lines c) flags
flags_before s lines p event.End flags = at_key ◌==◌ p (flags p || parent_flag flags (s.birth p)) flags
flags_before _ _ _ _ flags = flags

-- who waits on each channel after p offers on c: p, where nobody waited there, else nobody
abbrev pub line_by : (ℕ → Option ℕ) → ℕ → ℕ → Option ℕ → ℕ → Option ℕ
line_by lines p c None = at_key ◌==◌ c (Some p) lines
line_by lines p c (Some z) = at_key ◌==◌ c None lines

-- who waits on each channel after this event of p
abbrev pub lines_after : (ℕ → Option ℕ) → ℕ → Event → ℕ → Option ℕ
lines_after lines p (event.Send c) = line_by lines p c (lines c)
lines_after lines p (event.Receive c) = line_by lines p c (lines c)
lines_after lines _ _ = lines

-- whom an event meets, where these wait
abbrev pub partner_of : (ℕ → Option ℕ) → Event → Option ℕ
partner_of lines (event.Send c) = lines c
partner_of lines (event.Receive c) = lines c
partner_of _ _ = None

-- of the earlier offer's index and the number of the later one's process
module _ (earlier last : ℕ) where
  -- The flags before these entries, which end before the later offer; s and lines are as above, and n is the index of
  -- the first of them
  abbrev pub flags : Births → (ℕ → Option ℕ) → ℕ → List Entry → ℕ → Bool
  flags s lines n [] q = q == last
  flags s lines n (e ∷ es) q =
      flags_before s lines e.process e.event (flags (births_after_entry s e) (lines_after lines e.process e.event)
      (suc n) es)
      q
      || ((n == earlier) && (q == e.process))

  -- the entries whose process is flagged before them
  abbrev pub picked_entries : Births → (ℕ → Option ℕ) → ℕ → List Entry → List Entry
  picked_entries s lines n [] = []
  picked_entries s lines n (e ∷ es) =
      if flags_before s lines e.process e.event
      (flags (births_after_entry s e) (lines_after lines e.process e.event) (suc n) es) e.process
      then e ∷ picked_entries (births_after_entry s e) (lines_after lines e.process e.event) (suc n) es
      else picked_entries (births_after_entry s e) (lines_after lines e.process e.event) (suc n) es

  -- whether each of these entries is picked: what the code keeps of the pass
  abbrev pub marks : Births → (ℕ → Option ℕ) → ℕ → List Entry → List Bool
  marks s lines n [] = []
  marks s lines n (e ∷ es) =
      flags_before s lines e.process e.event
      (flags (births_after_entry s e) (lines_after lines e.process e.event) (suc n) es) e.process
      ∷ marks (births_after_entry s e) (lines_after lines e.process e.event) (suc n) es

  -- of all entries before the later offer
  abbrev pub picked_first_part : List Entry → List Entry
  picked_first_part es = picked_entries first_births (λ c. None) 0 es
