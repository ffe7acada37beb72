-- From the tables before the first entry to the verdict.
use Rattle.std.proofs.Common.{◌≡◌, ℕ, zero, suc, ◌+◌, ◌<◌, ◌≤◌, List, [], ◌∷◌, take, length, Option, Some, None}
use Rattle.std.proofs.Common.{slice_get, refl, sym, ap, ◌∙◌, subst, arith}
use Rattle.std.proofs.lemmas.Option.{none-some}
use Rattle.sp_base.specs.declared.name.ChanName.{ChanName}
use Rattle.sp_journal.specs.declared.entry.Entry.{Entry}
use Rattle.sp_journal.specs.declared.entry.Journal.{Journal}
use Rattle.sp_journal.specs.declared.outcome.Verdict.TheVariants as verdict
use Rattle.sp_journal.specs.Names.{chan_name, Offered}
use Rattle.sp_journal.specs.Births.{Births, births, channel, happening, occurrence, occurrences, IsNameable}
use Rattle.sp_journal.specs.Past.{knowledge_of, AreOrdered}
use Rattle.sp_journal.proofs.BirthLaws.{Lawful, lawful}
use Rattle.sp_race.specs.Prefixes.{WaitersAreSilent}
use Rattle.sp_race.specs.OfferOrder.{KnowsOffers, AreKnown}
use Rattle.sp_race.proofs.Completion.{known_ordered, ordered_known}
use Rattle.sp_race.specs.declared.judge_tables.JudgeTables.{JudgeTables}
use Rattle.sp_race.specs.declared.judge_tables.RacingOffer.{RacingOffer}
use Rattle.sp_race.specs.JudgeTables.{entries_by_names, TablesHold, IsNameableAndSilent, IsBlank, IsRacing, IsUnknown}
use Rattle.sp_race.specs.JudgeTables.{IsFirstUnknown, offer_event}
use Rattle.sp_race.specs.Races.{IsJudged}
use Rattle.sp_race.proofs.Numbers.{all_named}
use Rattle.sp_race.proofs.Fronts.{named_get}
use Rattle.sp_race.proofs.Fronts as front
use Rattle.sp_race.proofs.VerdictLaws.{known_more, known_at, named_take, offer_happens, nothing_unknown, first_race}
use Rattle.sp_race.proofs.VerdictLaws.{channel_there}

pub nameable_and_silent_of : (j : Journal) → IsNameable j → WaitersAreSilent (occurrences j)
    → IsNameableAndSilent j.entries
nameable_and_silent_of j n q = record { nameable = n; silent = subst WaitersAreSilent (all_named j.entries n) q }

take_whole : {X : Type 0} (xs : List X) (n : ℕ) → length xs ≤ n → take n xs ≡ xs
take_whole [] zero l = refl
take_whole [] (suc n) l = refl
take_whole (x ∷ xs) zero l = absurd (omega arith)
take_whole (x ∷ xs) (suc n) l = ap (λ ys. x ∷ ys) (take_whole xs n (omega arith))

pub all_ordered : (j : Journal) → IsNameable j → (n : ℕ) → length j.entries ≤ n
    → AreKnown (entries_by_names (births j.entries) (take n j.entries)) → AreOrdered (occurrences j)
all_ordered j nameable n l known = known_ordered (occurrences j)
    (subst AreKnown (ap (entries_by_names (births j.entries)) (take_whole j.entries n l)
    ∙ sym (all_named j.entries nameable))
    known)

pub blank_holds : (all : List Entry) (b : JudgeTables) → IsBlank b (births all).processes (births all).channels
    → (until : List ℕ) → TablesHold (births all) until [] b
blank_holds all b k until = record {
  all_clocks = k.all_clocks;
  all_made = k.all_made;
  all_lines = k.all_lines;
  all_places = ap length k.no_places;
  clocks = λ p q l h asked. k.clocks p q;
  made_is = k.made_is;
  lines = λ c l. (
    record { waiting = None; sent = None; received = None },
    k.lines c l,
    record { waiting = tt; sent = λ i z o. absurd (none-some _ o); received = λ i z o. absurd (none-some _ o) },
  );
  places = λ i e h. absurd (none-some _ h);
  next = k.next;
}

module _ (all : List Entry) (t : IsNameableAndSilent all) (at : ℕ) where
  abbrev s : Births
  s = births all

  law : Lawful s
  law = lawful all t.nameable

  pub known_next : (e : Entry) → slice_get all at ≡ Some e → AreKnown (entries_by_names s (take at all))
      → KnowsOffers (knowledge_of (entries_by_names s (take at all))) (entries_by_names s (take at all))
      (s.name e.process) (happening s e.event)
      → AreKnown (entries_by_names s (take (at + 1) all))
  known_next e inside known k = subst AreKnown (sym (front.grown all t.nameable t.silent law at e inside))
      (known_more (entries_by_names s (take at all)) (occurrence s e) known k)

  module _ (known : AreKnown (entries_by_names s (take at all))) (r : RacingOffer)
      (racing : IsRacing all at (Some r)) where
    abbrev e : Entry
    e = record { process = r.process; event = offer_event r.way r.channel }

    pub channel_inside : r.channel < s.channels
    channel_inside = channel_there all t.nameable t.silent law at e r.way r.channel racing.0 refl

    pub not_unknown : ((i : ℕ) → i < at → IsUnknown s (entries_by_names s (take at all)) all r.process r.way r.channel i
        → ⊥) → ⊥
    not_unknown none = racing.1 (nothing_unknown all t.nameable t.silent law at e racing.0 r.way r.channel refl none)

    pub race_judged : (i : ℕ) → IsFirstUnknown s (entries_by_names s (take at all)) all at r.process r.way r.channel i
        → (name : ChanName) → name ≡ chan_name (channel s r.channel)
        → IsJudged (entries_by_names s all) (verdict.Race r.way name i at)
    race_judged i f name is = (
      λ o. racing.1 (in_order o),
      (channel s r.channel, is, first_race all t.nameable t.silent law at e racing.0 r.way r.channel refl i f known),
    )
      where
        in_order : AreOrdered (entries_by_names s all) → KnowsOffers (knowledge_of (entries_by_names s (take at all)))
            (entries_by_names s (take at all))
            (s.name r.process) (Offered r.way (channel s r.channel))
        in_order o =
            let k = known_at (entries_by_names s all) at (occurrence s e) (named_get s all at e racing.0)
            (ordered_known (entries_by_names s all) o) in
            subst (KnowsOffers (knowledge_of (entries_by_names s (take at all))) (entries_by_names s (take at all))
            (s.name r.process))
            (offer_happens s r.way r.channel)
            (subst (λ xs. KnowsOffers (knowledge_of xs) xs (s.name r.process)
            (happening s (offer_event r.way r.channel)))
            (sym (named_take s all at)) k)

-- where nothing races
pub none_racing : (es : List Entry) (at : ℕ) (r : Option RacingOffer) → IsRacing es at r
    → ((x : RacingOffer) → r ≡ Some x → ⊥)
    → IsRacing es at None
none_racing es at None f off = f
none_racing es at (Some x) f off = absurd (off x refl)
