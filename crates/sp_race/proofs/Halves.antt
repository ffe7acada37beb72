-- The search by halves for the first unknown offer: what each look-up says of the rest.
use Rattle.std.proofs.Common.{◌≡◌, ℕ, ◌<◌, ◌≤◌, ◌↔◌, true, List, take, length, get_or, Some, slice_get, refl, sym, ap}
use Rattle.std.proofs.Common.{◌∙◌, subst, arith}
use Rattle.std.proofs.lemmas.Option.{slice_get-get_or, get_or_from_slice_get}
use Rattle.sp_journal.specs.declared.entry.Entry.{Entry}
use Rattle.sp_journal.specs.declared.entry.Way.{Way}
use Rattle.sp_journal.specs.Names.{Occurrence}
use Rattle.sp_journal.specs.Births.{Births, births}
use Rattle.sp_journal.specs.Past.{knowledge_of}
use Rattle.sp_journal.proofs.BirthLaws.{Lawful, lawful}
use Rattle.sp_race.specs.OfferOrder.{AreKnown}
use Rattle.sp_race.specs.declared.clock.Clock.{Clock}
use Rattle.sp_race.specs.declared.judge_tables.JudgeTables.{JudgeTables}
use Rattle.sp_race.specs.Clocks.{count_of, number_at}
use Rattle.sp_race.specs.Counts.{count_of_entries, clocks_of}
use Rattle.sp_race.specs.JudgeTables.{entries_by_names, offer_event, IsNameableAndSilent, TablesHold, IsOfferAt}
use Rattle.sp_race.specs.JudgeTables.{IsLastOffer, IsUnknown}
use Rattle.sp_race.proofs.TableLaws.{clock_is}
use Rattle.sp_race.proofs.Fronts.{get_within, take_length}
use Rattle.sp_race.proofs.Fronts as front
use Rattle.sp_race.proofs.VerdictLaws as laws

-- the item of a slice at an index
pub offer_here : (es : List Entry) (w : Way) (c i : ℕ) (d : Entry) → i < length es
    → (get_or es i d).event ≡ offer_event w c → IsOfferAt es w c i
offer_here es w c i d l is = (get_or es i d, slice_get-get_or es i d l, is)

pub offer_there : (es : List Entry) (w : Way) (c i : ℕ) → IsOfferAt es w c i → (d : Entry)
    → (get_or es i d).event ≡ offer_event w c
offer_there es w c i o d = ap (λ (x : Entry). x.event) (get_or_from_slice_get es i o.0 d o.1) ∙ o.2

module _ (all : List Entry) (t : IsNameableAndSilent all) (at : ℕ) where
  abbrev s : Births
  s = births all

  law : Lawful s
  law = lawful all t.nameable

  -- the clock of a process says the count that is still asked for
  pub clock_says : (until : List ℕ) (b : JudgeTables) → TablesHold s until (take at all) b → at ≤ length all → (p q : ℕ)
      → p < s.processes → q < s.processes → at < number_at until q → (cl : Clock) → cl ≡ get_or b.clocks.items p cl
      → count_of cl q ≡ clocks_of (entries_by_names s (take at all)) (s.name p) (s.name q)
  clock_says until b h inside p q l k asked cl is =
      ap (λ x. count_of x q) is ∙ clock_is b.clocks.items p cl q (let a = h.all_clocks in omega arith)
      ∙ h.clocks p q l k (let n = take_length all at inside in omega arith)

  module _ (p : ℕ) (w : Way) (c : ℕ) (here : slice_get all at
      ≡ Some (record { process = p; event = offer_event w c })) where
    abbrev e : Entry
    e = record { process = p; event = offer_event w c }

    abbrev os : List Occurrence
    os = entries_by_names s (take at all)

    pub inside : at < length all
    inside = get_within all at e here

    pub there : p < s.processes
    there = front.there all t.nameable t.silent law at e here

    pub other_there : (i : ℕ) → IsOfferAt all w c i → (d : Entry) → (get_or all i d).process < s.processes
    other_there i o d = subst (λ (x : Entry). x.process < s.processes) (sym (get_or_from_slice_get all i o.0 d o.1))
        (front.there all t.nameable t.silent law i o.0 o.1)

    pub none_below : (middle : ℕ) → ((k : ℕ) → k < middle → IsOfferAt all w c k → ⊥) → (k : ℕ) → k < middle
        → IsUnknown s os all p w c k → ⊥
    none_below middle none k l u = none k l (u.0, u.1, u.2)

    pub all_below : AreKnown os → (middle i : ℕ) → middle ≤ at → IsLastOffer all middle w c i
        → (knowledge_of os).past (s.name p) i ≡ true → (k : ℕ) → k < middle → IsUnknown s os all p w c k → ⊥
    all_below = laws.all_below all t.nameable t.silent law at e here w c refl

    module _ (until : List ℕ) (b : JudgeTables) (h : TablesHold s until (take at all) b) where
      pub place_there : (i : ℕ) → i < at → i < length b.places.items
      place_there i l = let a = h.all_places in let n = front.at_length all t.nameable t.silent law at e here in
          omega arith

      -- what the count of an offer's process says of the offer
      pub counted : (i place : ℕ) (d : Entry) → i < at → IsOfferAt all w c i → place ≡ get_or b.places.items i place
          → (place < clocks_of os (s.name p) (s.name (get_or all i d).process))
          ↔ ((knowledge_of os).past (s.name p) i ≡ true)
      counted i place d l o is =
          subst (λ (x : Entry). (place < clocks_of os (s.name p) (s.name x.process))
          ↔ ((knowledge_of os).past (s.name p) i ≡ true)) (sym (get_or_from_slice_get all i o.0 d o.1))
          (laws.counted_offer all t.nameable t.silent law at e here w c refl i place o.0 l o.1 o.2 (is ∙ place_is))
        where
          place_is : get_or b.places.items i place ≡ count_of_entries (take i os) (s.name o.0.process)
          place_is = get_or_from_slice_get b.places.items i _ place
              (h.places i o.0 (laws.into_front all t.nameable t.silent law at e here i o.0 l o.1))
