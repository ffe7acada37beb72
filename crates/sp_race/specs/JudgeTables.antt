-- None of this belongs to what the program promises: it is for contracts between crates.
-- What the judge's tables hold. No public contract cites these; the parts of the judge promise them to each other,
-- against the pasts of the journal so far.
use Rattle.std.specs.Prelude.{◌≡◌, true, ℕ, ◌<◌, ◌≤◌, List, [], map, take, length, Option, Some, None, slice_get}
use Rattle.sp_journal.specs.declared.entry.Entry.{Entry}
use Rattle.sp_journal.specs.declared.entry.Event.{Event}
use Rattle.sp_journal.specs.declared.entry.Event.TheVariants as event
use Rattle.sp_journal.specs.declared.entry.Way.{Way}
use Rattle.sp_journal.specs.declared.entry.Way.TheVariants as way
use Rattle.sp_journal.specs.Names.{Name, Channel, Offered, Occurrence}
use Rattle.sp_journal.specs.Births.{Births, first_births, births, channel, happening, occurrence, NameableFrom}
use Rattle.sp_race.specs.Prefixes.{WaitersAreSilent}
use Rattle.sp_journal.specs.Past.{knowledge_of}
use Rattle.sp_race.specs.OfferOrder.{KnowsOffers}
use Rattle.sp_race.specs.declared.judge_tables.Offer.{Offer}
use Rattle.sp_race.specs.declared.judge_tables.RacingOffer.{RacingOffer}
use Rattle.sp_race.specs.declared.judge_tables.ChannelOffers.{ChannelOffers}
use Rattle.sp_race.specs.declared.judge_tables.JudgeTables.{JudgeTables}
use Rattle.sp_race.specs.Clocks.{clock_at, IsAsked}
use Rattle.sp_race.specs.Counts.{count_of_entries, clocks_of}

-- these entries by the names that stand in the end
abbrev pub entries_by_names : Births → List Entry → List Occurrence
entries_by_names s es = map (occurrence s) es

-- the last offer of this way on a channel
abbrev pub last_of : Way → ChannelOffers → Option Offer
last_of way.Send l = l.sent
last_of way.Receive l = l.received

-- this is the offer that waits
abbrev pub IsWaitingOffer : Births → List Occurrence → Option Offer → Option (Name × ℕ) → Type 0
IsWaitingOffer s os None None = Unit {0}
IsWaitingOffer s os None (Some x) = ⊥
IsWaitingOffer s os (Some o) None = ⊥
IsWaitingOffer s os (Some o) (Some x) = (o.process < s.processes) × (s.name o.process ≡ x.0)
    × (o.place ≡ count_of_entries (take x.1 os) x.0)

abbrev pub OfferIn : List Occurrence → ℕ → Name → Way → Channel → Type 0
OfferIn os i z w d = slice_get os i ≡ Some (record { who = z; what = Offered w d })

-- this is the last offer of this way on this channel
abbrev pub IsLast : Births → List Occurrence → Way → Channel → Option Offer → Type 0
IsLast s os w d None = (i : ℕ) (z : Name) → OfferIn os i z w d → ⊥
IsLast s os w d (Some o) =
    (i : ℕ) × (o.process < s.processes) × OfferIn os i (s.name o.process) w d
    × (o.place ≡ count_of_entries (take i os) (s.name o.process))
    × ((k : ℕ) (y : Name) → OfferIn os k y w d → k ≤ i)

pub record IsChannelOffers (s : Births) (os : List Occurrence) (d : Channel) (l : ChannelOffers) : Type 0 where
  pub waiting : IsWaitingOffer s os l.waiting ((knowledge_of os).pending d)
  pub sent : IsLast s os way.Send d l.sent
  pub received : IsLast s os way.Receive d l.received

-- the entries of a journal that gives names, in which no process makes an entry while its own offer waits
pub record IsNameableAndSilent (es : List Entry) : Type 0 where
  pub nameable : NameableFrom first_births es
  pub silent : WaitersAreSilent (entries_by_names (births es) es)

-- a line with this last offer of a way, and this offer that waits
abbrev pub channel_offers_with : Way → Offer → Option Offer → ChannelOffers → ChannelOffers
channel_offers_with way.Send o w l = record { waiting = w; sent = Some o; received = l.received }
channel_offers_with way.Receive o w l = record { waiting = w; sent = l.sent; received = Some o }

-- The tables after these entries of a journal with these births. The clocks have the counts that are still asked for
pub record TablesHold (s : Births) (until : List ℕ) (es : List Entry) (b : JudgeTables) : Type 0 where
  pub all_clocks : length b.clocks.items ≡ s.processes
  pub all_made : length b.made.items ≡ s.processes
  pub all_lines : length b.lines.items ≡ s.channels
  pub all_places : length b.places.items ≡ length es
  pub clocks : (p q : ℕ) → p < s.processes → q < s.processes → IsAsked until (length es) q
      → clock_at b.clocks.items p q ≡ clocks_of (entries_by_names s es) (s.name p) (s.name q)
  pub made_is : (p : ℕ) → p < s.processes → slice_get b.made.items p
      ≡ Some (count_of_entries (entries_by_names s es) (s.name p))
  pub lines : (c : ℕ) → c < s.channels → (l : ChannelOffers) × (slice_get b.lines.items c ≡ Some l)
      × IsChannelOffers s (entries_by_names s es) (channel s c) l
  pub places : (i : ℕ) (e : Entry) → slice_get es i ≡ Some e
      → slice_get b.places.items i ≡ Some (count_of_entries (take i (entries_by_names s es)) (s.name e.process))
  pub next : b.next ≡ (births es).processes

-- an offer of this way on this channel, as an event
abbrev pub offer_event : Way → ℕ → Event
offer_event way.Send c = event.Send c
offer_event way.Receive c = event.Receive c

-- an event that nobody comes to know
abbrev pub IsPlain : Event → Type 0
IsPlain (event.Fault f) = Unit {0}
IsPlain event.Laid = Unit {0}
IsPlain event.Pause = Unit {0}
IsPlain _ = ⊥

-- the entry of index i makes this offer
abbrev pub IsOfferAt : List Entry → Way → ℕ → ℕ → Type 0
IsOfferAt es w c i = (e : Entry) × (slice_get es i ≡ Some e) × (e.event ≡ offer_event w c)

-- the last such entry before an index
abbrev pub IsLastOffer : List Entry → ℕ → Way → ℕ → ℕ → Type 0
IsLastOffer es occurrences_before w c i = (i < occurrences_before) × IsOfferAt es w c i
    × ((k : ℕ) → i < k → k < occurrences_before → IsOfferAt es w c k → ⊥)

-- the entry of index i makes this offer, and the process does not know of it after these entries
abbrev pub IsUnknown : Births → List Occurrence → List Entry → ℕ → Way → ℕ → ℕ → Type 0
IsUnknown s os es p w c i = (e : Entry) × (slice_get es i ≡ Some e) × (e.event ≡ offer_event w c)
    × ((knowledge_of os).past (s.name p) i ≡ true → ⊥)

-- the first such entry before this index
abbrev pub IsFirstUnknown : Births → List Occurrence → List Entry → ℕ → ℕ → Way → ℕ → ℕ → Type 0
IsFirstUnknown s os es at p w c i = (i < at) × IsUnknown s os es p w c i
    × ((k : ℕ) → k < i → IsUnknown s os es p w c k → ⊥)

-- whether the entry of this index is an offer whose process does not know of an earlier one of its way on its channel
abbrev pub IsRacing : List Entry → ℕ → Option RacingOffer → Type 0
IsRacing es at None = (e : Entry) → slice_get es at ≡ Some e
    → KnowsOffers (knowledge_of (entries_by_names (births es) (take at es))) (entries_by_names (births es) (take at es))
    ((births es).name e.process) (happening (births es) e.event)
IsRacing es at (Some r) =
    (slice_get es at ≡ Some (record { process = r.process; event = offer_event r.way r.channel }))
    × (KnowsOffers (knowledge_of (entries_by_names (births es) (take at es)))
    (entries_by_names (births es) (take at es))
    ((births es).name r.process) (Offered r.way (channel (births es) r.channel)) → ⊥)

-- the tables before the first entry
pub record IsBlank (b : JudgeTables) (processes channels : ℕ) : Type 0 where
  pub all_clocks : length b.clocks.items ≡ processes
  pub all_made : length b.made.items ≡ processes
  pub all_lines : length b.lines.items ≡ channels
  pub no_places : b.places.items ≡ []
  pub next : b.next ≡ 1
  pub clocks : (p q : ℕ) → clock_at b.clocks.items p q ≡ 0
  pub made_is : (p : ℕ) → p < processes → slice_get b.made.items p ≡ Some 0
  pub lines : (c : ℕ) → c < channels → slice_get b.lines.items c
      ≡ Some (record { waiting = None; sent = None; received = None })

-- the entries before an index, by names
abbrev pub occurrences_before : List Entry → ℕ → List Occurrence
occurrences_before es at = entries_by_names (births es) (take at es)

-- before this index process p knows of all offers of this way on this channel
abbrev pub KnowsAll : List Entry → ℕ → ℕ → Way → ℕ → Type 0
KnowsAll es at p w c = KnowsOffers (knowledge_of (occurrences_before es at)) (occurrences_before es at)
    ((births es).name p)
    (Offered w (channel (births es) c))

-- how many counted entries of q process p knows before this index
abbrev pub count_before : List Entry → ℕ → ℕ → ℕ → ℕ
count_before es at p q = clocks_of (occurrences_before es at) ((births es).name p) ((births es).name q)

-- the first offer of this kind before an index of which the racing offer's process does not know, or there is none
abbrev pub IsFirstUnknownOffer : List Entry → ℕ → RacingOffer → Option ℕ → Type 0
IsFirstUnknownOffer es at r None = (i : ℕ) → i < at → IsUnknown (births es) (occurrences_before es at) es r.process
    r.way r.channel i → ⊥
IsFirstUnknownOffer es at r (Some i) = IsFirstUnknown (births es) (occurrences_before es at) es at r.process r.way
    r.channel i
