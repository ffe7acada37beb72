-- The numbers of a nameable journal are found again by its names.
use Rattle.std.proofs.Common.{◌≡◌, ◌≢◌, ℕ, zero, suc, ◌<◌, ◌≤◌, Bool, true, false, cond, ◌==◌, List, [], ◌∷◌, length}
use Rattle.std.proofs.Common.{take, Some, slice_get, map, eqb-true, eq-eqb, refl, sym, ap, ◌∙◌, arith}
use Rattle.std.proofs.lemmas.Bool.{true≢false}
use Rattle.std.proofs.lemmas.Option.{slice_get_within}
use Rattle.sp_base.proofs.Facts.{length_of_map}
use Rattle.sp_journal.specs.declared.entry.Event.{Event}
use Rattle.sp_journal.specs.declared.entry.Event.TheVariants as event
use Rattle.sp_journal.specs.declared.entry.Entry.{Entry}
use Rattle.sp_journal.specs.Names.{same_name, same_channel}
use Rattle.sp_journal.specs.Births.{Births, first_births, births_after_entry, births, channel, CanFollow, GivesNumbers}
use Rattle.sp_journal.specs.Births.{NameableFrom, happening, occurrence, occurrences_from}
use Rattle.sp_journal.proofs.BirthLaws.{Lawful, lawful_start, lawful_after}
use Rattle.sp_meaning.specs.Along.{IsClean}
use Rattle.sp_race.specs.Prefixes.{WaitersAreSilent}
use Rattle.sp_race.proofs.Numbers.{same_process, same_chan, all_named}
use Rattle.sp_witness.specs.Witness.{first_part}
use Rattle.sp_witness.specs.OccurrenceNumbers.{process_number, channel_number, event_of, numbered_entry}
use Rattle.sp_witness.specs.OccurrenceNumbers.{entries_by_numbers_from}
use Rattle.sp_witness.specs.OccurrenceNumbers.{entries_by_numbers}
use Rattle.sp_witness.specs.Flags.{picked_first_part}
use Rattle.sp_witness.proofs.PassLaw.{whole_pass}
use Rattle.sp_witness.proofs.PickedEntries.{picks_taken}

module _ (s : Births) (law : Lawful s) where
  process_found : (n q : ℕ) → q < n → n ≤ s.processes → process_number s.name n (s.name q) ≡ q
  process_found zero q lt le = absurd (omega (arith, lt))
  process_found (suc n) q lt le = by (n == q) refl (λ d. process_found n q (omega (arith, lt, d)) (omega (arith, le)))
    where
      is : n == q ≡ same_name (s.name n) (s.name q)
      is = same_process s law n q (omega (arith, le)) (omega (arith, lt, le))

      by : (b : Bool) → n == q ≡ b → (n ≢ q → process_number s.name n (s.name q) ≡ q)
          → cond (same_name (s.name n) (s.name q)) n (process_number s.name n (s.name q)) ≡ q
      by true e rest = ap (λ b. cond b n (process_number s.name n (s.name q))) (sym is ∙ e) ∙ eqb-true n q e
      by false e rest =
          let d : n ≢ q = λ f. true≢false (sym (eq-eqb n q f) ∙ e) in
          ap (λ b. cond b n (process_number s.name n (s.name q))) (sym is ∙ e) ∙ rest d

  channel_found : (n c : ℕ) → c < n → n ≤ s.channels → channel_number s n (channel s c) ≡ c
  channel_found zero c lt le = absurd (omega (arith, lt))
  channel_found (suc n) c lt le = by (n == c) refl (λ d. channel_found n c (omega (arith, lt, d)) (omega (arith, le)))
    where
      is : n == c ≡ same_channel (channel s n) (channel s c)
      is = same_chan s law n c (omega (arith, le)) (omega (arith, lt, le))

      by : (b : Bool) → n == c ≡ b → (n ≢ c → channel_number s n (channel s c) ≡ c)
          → cond (same_channel (channel s n) (channel s c)) n (channel_number s n (channel s c)) ≡ c
      by true e rest = ap (λ b. cond b n (channel_number s n (channel s c))) (sym is ∙ e) ∙ eqb-true n c e
      by false e rest =
          let d : n ≢ c = λ f. true≢false (sym (eq-eqb n c f) ∙ e) in
          ap (λ b. cond b n (channel_number s n (channel s c))) (sym is ∙ e) ∙ rest d

  entry_found : (e : Entry) → CanFollow s e → numbered_entry s (occurrence s e) ≡ e
  entry_found e f =
      let p = process_found s.processes e.process f.0 (omega arith) in
      let v = by e.event f.1 in
      λ i. record { process = p i; event = v i }
    where
      by : (v : Event) → GivesNumbers s e.process v → event_of s (happening s v) ≡ v
      by (event.Fork n) given = refl
      by event.Open given = refl
      by (event.Send c) given = ap (λ x. event.Send x) (channel_found s.channels c given (omega arith))
      by (event.Receive c) given = ap (λ x. event.Receive x) (channel_found s.channels c given (omega arith))
      by event.End given = refl
      by (event.Fault x) given = refl
      by event.Laid given = refl
      by event.Pause given = refl

found_from : (s : Births) (es : List Entry) → Lawful s → NameableFrom s es
    → entries_by_numbers_from s (occurrences_from s es) ≡ es
found_from s [] law f = refl
found_from s (e ∷ es) law f =
    let one = entry_found s law e f.0 in
    let rest = found_from (births_after_entry s e) es (lawful_after s e law f.0) f.1 in
    (λ i. one i ∷ entries_by_numbers_from (births_after_entry s (one i)) (occurrences_from (births_after_entry s e) es))
    ∙ ap (λ z. e ∷ z) rest

pub found : (es : List Entry) → NameableFrom first_births es
    → entries_by_numbers (occurrences_from first_births es) ≡ es
found es f = found_from first_births es lawful_start f

-- the picks by numbers are the first part by names
pub picked_part : (es : List Entry) → NameableFrom first_births es → WaitersAreSilent (occurrences_from first_births es)
    → IsClean (occurrences_from first_births es) → (earlier later : ℕ) → earlier < later → (two : Entry)
    → slice_get es later ≡ Some two
    → map (occurrence (births es)) (picked_first_part earlier two.process (take later es))
    ≡ first_part (occurrences_from first_births es) earlier later
picked_part es f silent clean earlier later lt two got =
    let size : length (occurrences_from first_births es) ≡ length es = ap length (all_named es f)
    ∙ length_of_map (occurrence (births es)) es in
    let l = slice_get_within es later two got in
    picks_taken es f earlier later two got
    ∙ whole_pass (occurrences_from first_births es) earlier later silent clean lt (omega (arith, size, l))
