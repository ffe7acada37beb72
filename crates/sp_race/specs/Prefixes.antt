-- None of this belongs to what the program promises: it is for contracts between crates.
-- What a process knows of another, as a prefix of that one's entries. The law of this crate promises it; so a past is
-- a count for each process, and the judge keeps counts in place of sets.
use Rattle.std.specs.Prelude.{◌≡◌, ℕ, suc, ◌≤◌, Bool, true, false, List, [], ◌∷◌, Some, slice_get}
use Rattle.sp_journal.specs.Names.{Name, Channel, Happening, Faulted, Laid, Paused}
use Rattle.sp_journal.specs.Names.{Occurrence}
use Rattle.sp_journal.specs.Past.{Knowledge, knowledge_of, knowledge_after, no_knowledge}

-- fork, open, send, receive and end are counted
abbrev pub is_counted : Happening → Bool
is_counted (Faulted f) = false
is_counted Laid = false
is_counted Paused = false
is_counted _ = true

-- the entry of index i is a counted one of process q
abbrev pub Counts : List Occurrence → Name → ℕ → Type 0
Counts es q i = (h : Happening) × (slice_get es i ≡ Some (record { who = q; what = h })) × (is_counted h ≡ true)

-- this process has no offer that waits
abbrev pub WaitsForNone : Knowledge → Name → Type 0
WaitsForNone j p = (c : Channel) (k : ℕ) → j.pending c ≡ Some (p, k) → ⊥

abbrev pub WaitersSilentFrom : Knowledge → ℕ → List Occurrence → Type 0
WaitersSilentFrom j n [] = Unit {0}
WaitersSilentFrom j n (e ∷ es) = WaitsForNone j e.who × WaitersSilentFrom (knowledge_after j n e.who e.what) (suc n) es

-- no process makes an entry while its own offer waits
abbrev pub WaitersAreSilent : List Occurrence → Type 0
WaitersAreSilent es = WaitersSilentFrom no_knowledge 0 es

-- who knows a counted entry of a process knows all earlier counted ones of that process
abbrev pub KnowsPrefixes : List Occurrence → Type 0
KnowsPrefixes es = (p q : Name) (i k : ℕ) → (knowledge_of es).past p i ≡ true → Counts es q i → Counts es q k → k ≤ i
    → (knowledge_of es).past p k ≡ true

-- only counted entries are known
abbrev pub KnowsCounted : List Occurrence → Type 0
KnowsCounted es = (p : Name) (i : ℕ) → (knowledge_of es).past p i ≡ true → (q : Name) × Counts es q i
