-- None of this belongs to what the program promises: it is for contracts between crates.
-- What the tables of the passes over a run say, as the definitions see them. No public contract cites these; the parts
-- of the witness promise them to each other.
use Rattle.std.specs.Prelude.{◌≡◌, ℕ, ◌+◌, ◌^◌, ◌<◌, ◌≤◌, Bool, true, false, cond, ◌&&◌, ◌||◌, ◌==◌, nat_eq, List, []}
use Rattle.std.specs.Prelude.{◌∷◌, ◌++◌, take, drop, length, Option, Some, None, slice_get, unwrap_or}
use Rattle.std.specs.HashMap as hash
use Rattle.std.specs.HashSet as bag
use Rattle.std.specs.HashMap.{HashMap}
use Rattle.std.specs.HashSet.{HashSet}
use Rattle.sp_journal.specs.declared.entry.Entry.{Entry}
use Rattle.sp_journal.specs.declared.entry.Event.{Event}
use Rattle.sp_journal.specs.declared.entry.Event.TheVariants as event
use Rattle.sp_journal.specs.declared.entry.Birth.{Birth}
use Rattle.sp_journal.specs.Births.{births}
use Rattle.sp_witness.specs.declared.numbers.Numbers.{Numbers}
use Rattle.sp_witness.specs.Flags.{any_flag, parent_flag, flags, flags_before, lines_after, partner_of}
use Rattle.sp_witness.specs.TableNumbers.{Table}

-- who waits on each channel, of a map by channels
abbrev pub waiters : {S : Type 0} → HashMap ℕ ℕ S → ℕ → Option ℕ
waiters m c = hash.get nat_eq m c

-- who waits on each channel after these entries
abbrev pub lines_from : (ℕ → Option ℕ) → List Entry → ℕ → Option ℕ
lines_from lines [] = lines
lines_from lines (e ∷ es) = lines_from (lines_after lines e.process e.event) es

-- the same from the start of a run on
abbrev pub lines_of : List Entry → ℕ → Option ℕ
lines_of es = lines_from (λ c. None) es

-- these are, for the first n entries, whom the entries' offers meet
abbrev pub AreFirstPartners : ℕ → List Entry → List (Option ℕ) → Type 0
AreFirstPartners n es partners =
    (length partners ≡ n)
    × ((k : ℕ) (e : Entry) (o : Option ℕ) → slice_get es k ≡ Some e → slice_get partners k ≡ Some o
    → o ≡ partner_of (lines_of (take k es)) e.event)

-- for all entries
abbrev pub ArePartners : List Entry → List (Option ℕ) → Type 0
ArePartners es partners = AreFirstPartners (length es) es partners

-- the flags of processes, of a set of those that have one
abbrev pub flags_of_set : {S : Type 0} → HashSet ℕ S → ℕ → Bool
flags_of_set s q = bag.contains nat_eq s q

-- of a partner, if there is one
abbrev pub partner_flag : (ℕ → Bool) → Option ℕ → Bool
partner_flag flags None = false
partner_flag flags (Some z) = flags z

-- these flags, and that of p where b says so
abbrev pub with_flag : Bool → ℕ → (ℕ → Bool) → ℕ → Bool
with_flag b p f q = cond (b && (p == q)) true (f q)

-- the same of a partner, if there is one
abbrev pub with_partner : Bool → Option ℕ → (ℕ → Bool) → ℕ → Bool
with_partner b None f q = f q
with_partner b (Some z) f q = with_flag b z f q

-- The flag of process p before its event, of the flags after it: first is the number of its first child, if it forks,
-- then whom its offer meets, and how it came to be
abbrev pub own_flag : (ℕ → Bool) → ℕ → Event → ℕ → Option ℕ → Option Birth → Bool
own_flag flags p (event.Fork m) first partner birth = flags p || any_flag flags first m
own_flag flags p event.Open first partner birth = flags p
own_flag flags p (event.Send c) first partner birth = flags p || partner_flag flags partner
own_flag flags p (event.Receive c) first partner birth = flags p || partner_flag flags partner
own_flag flags p event.End first partner birth = flags p || parent_flag flags birth
own_flag flags p (event.Fault f) first partner birth = flags p
own_flag flags p event.Laid first partner birth = flags p
own_flag flags p event.Pause first partner birth = flags p

-- the set has the flags before the entry of this index
abbrev pub HasFlags : {S : Type 0} → ℕ → ℕ → List Entry → ℕ → HashSet ℕ S → Type 0
HasFlags earlier last es at s = (q : ℕ)
    → flags_of_set s q ≡ flags earlier last (births (take at es)) (lines_of (take at es)) at (drop at es) q

-- these are some first entries of those
abbrev pub IsFront : List Entry → List Entry → Type 0
IsFront front es = (rest : List Entry) × (es ≡ front ++ rest)

-- the new numbers as the definition sees them
abbrev pub table_in : Numbers → Table
table_in n = record {
  process = λ q. unwrap_or (hash.get nat_eq n.processes q) 0;
  channel = λ c. unwrap_or (hash.get nat_eq n.channels c) 0;
  processes = n.next_process;
  channels = n.next_channel;
}

-- numbers are left for what an event gives: of the run and of the witness
abbrev pub CanAdd : Event → ℕ → ℕ → ℕ → ℕ → Type 0
CanAdd (event.Fork n) process channel next_process next_channel = (process + n ≤ 2 ^ 32) × (next_process ≤ process)
CanAdd event.Open process channel next_process next_channel = (channel < 2 ^ 32) × (next_channel ≤ channel)
CanAdd _ _ _ _ _ = Unit {0}

-- whether the entry of this index is marked
abbrev pub IsMark : ℕ → ℕ → List Entry → ℕ → Bool → Type 0
IsMark earlier last es at mark =
    (e : Entry) → slice_get es at ≡ Some e
    → mark ≡ flags_before (births (take at es)) (lines_of (take at es)) e.process e.event
    (flags earlier last (births (take (at + 1) es)) (lines_of (take (at + 1) es)) (at + 1) (drop (at + 1) es))
    e.process
