-- The two entries of a race are there, and the earlier one is an offer.
use Rattle.std.proofs.Common.{◌≡◌, ◌<◌, ℕ, zero, suc, List, [], ◌∷◌, length, Some, slice_get, refl, sym, ap, subst}
use Rattle.std.specs.Option.{IfSome}
use Rattle.std.proofs.lemmas.Option.{slice_get_within, none-some, same_Some}
use Rattle.sp_journal.specs.declared.entry.Entry.{Entry}
use Rattle.sp_journal.specs.declared.entry.Event.{Event}
use Rattle.sp_journal.specs.declared.entry.Event.TheVariants as event
use Rattle.sp_journal.specs.declared.entry.Journal.{Journal}
use Rattle.sp_journal.specs.declared.entry.Way.{Way}
use Rattle.sp_journal.specs.Names.{Channel, Happening, Offered, Occurrence}
use Rattle.sp_journal.specs.Births.{Births, first_births, births_after_entry, happening, occurrences, occurrences_from}
use Rattle.sp_race.specs.Races.{Race}
use Rattle.sp_witness.specs.TableNumbers.{IsPlain}

-- the entry of an occurrence
record OccurrenceEntry (es : List Entry) (i : ℕ) (what : Happening) : Type 0 where
  entry : Entry
  births : Births
  got : slice_get es i ≡ Some entry
  says : happening births entry.event ≡ what

entry_at : (s : Births) (es : List Entry) (i : ℕ) (o : Occurrence) → slice_get (occurrences_from s es) i ≡ Some o
    → OccurrenceEntry es i o.what
entry_at s [] i o h = absurd (none-some _ h)
entry_at s (e ∷ es) zero o h =
    record { entry = e; births = s; got = refl; says = ap (λ (z : Occurrence). z.what) (same_Some _ _ h) }
entry_at s (e ∷ es) (suc i) o h =
    let r = entry_at (births_after_entry s e) es i o h in
    record { entry = r.entry; births = r.births; got = r.got; says = r.says }

plain_offer : (s : Births) (v : Event) (w : Way) (c : Channel) → happening s v ≡ Offered w c → IsPlain v
plain_offer s (event.Fork n) w c e = cc e
plain_offer s event.Open w c e = cc e
plain_offer _ _ _ _ _ = tt

pub offers_there : (j : Journal) (w : Way) (c : Channel) (earlier later : ℕ) → Race (occurrences j) w c earlier later
    → (earlier < later) × (later < length j.entries)
    × IfSome (slice_get j.entries earlier) (λ e. IsPlain e.event)
offers_there j w c earlier later race =
    let a = entry_at first_births j.entries earlier (record { who = race.first; what = Offered w c })
    race.offered_first in
    let b =
    entry_at first_births j.entries later (record { who = race.second; what = Offered w c }) race.offered_second in (
      race.before,
      slice_get_within j.entries later b.entry b.got,
      subst (λ o. IfSome o (λ (e : Entry). IsPlain e.event)) (sym a.got)
          (plain_offer a.births a.entry.event w c a.says),
    )
