-- Each least race of a run is shown by its witness.
use Rattle.std.proofs.Common.{◌≡◌, ℕ, zero, suc, ◌<◌, ◌≤◌, le_refl, List, [], ◌∷◌, ◌++◌, length, take, take_at, Some}
use Rattle.std.proofs.Common.{slice_get, refl, sym, ap, ◌∙◌, subst, arith}
use Rattle.std.proofs.lemmas.Option.{none-some, same_Some}
use Rattle.sp_journal.specs.declared.entry.Way.{Way}
use Rattle.sp_journal.specs.Names.{Channel, Offered, Occurrence}
use Rattle.sp_journal.specs.Past.{Knowledge, knowledge_of}
use Rattle.sp_meaning.specs.LocalWork.{RunInput}
use Rattle.sp_meaning.specs.Runs.{StateOf, IsDisjointRun}
use Rattle.sp_meaning.specs.Along.{IsAlong, IsClean}
use Rattle.sp_race.specs.Prefixes.{WaitersAreSilent}
use Rattle.sp_race.specs.Races.{KnowsCompletion, IsLeastRace}
use Rattle.sp_witness.specs.Contention.{Shows}
use Rattle.sp_witness.proofs.Order.{known_front}
use Rattle.sp_witness.proofs.RaceWitness.{shown}

-- a list cut at an index
pub record Cut (es : List Occurrence) (i : ℕ) (e : Occurrence) : Type 0 where
  pub before : List Occurrence
  pub after : List Occurrence
  pub whole : es ≡ before ++ e ∷ after
  pub size : length before ≡ i

pub cut_at : (es : List Occurrence) (i : ℕ) (e : Occurrence) → slice_get es i ≡ Some e → Cut es i e
cut_at [] i e h = absurd (none-some _ h)
cut_at (x ∷ es) zero e h = record { before = []; after = es; whole = ap (λ z. z ∷ es) (same_Some _ _ h); size = refl }
cut_at (x ∷ es) (suc i) e h = let r = cut_at es i e h in
    record { before = x ∷ r.before; after = r.after; whole = ap (λ z. x ∷ z) r.whole; size = ap suc r.size }

get_low : (xs ys : List Occurrence) (i : ℕ) (e : Occurrence) → i < length xs → slice_get (xs ++ ys) i ≡ Some e
    → slice_get xs i ≡ Some e
get_low [] ys i e lt h = absurd (omega (arith, lt))
get_low (x ∷ xs) ys zero e lt h = h
get_low (x ∷ xs) ys (suc i) e lt h = get_low xs ys i e (omega (arith, lt)) h

pub real : (g : RunInput) → IsDisjointRun g → (turn : ℕ) (es : List Occurrence) (n : ℕ) (t : StateOf g)
    → IsAlong g turn es n t → IsClean es → WaitersAreSilent es → (w : Way) (c : Channel) (earlier later : ℕ)
    → IsLeastRace es w c earlier later → Shows g turn es w c earlier later
real g disjoint turn es n t along clean silent w c earlier later least =
    let race = least.0 in
    let one : Occurrence = record { who = race.first; what = Offered w c } in
    let two : Occurrence = record { who = race.second; what = Offered w c } in
    let b = cut_at es later two race.offered_second in
    let size = b.size in
    let lt = race.before in
    let a = cut_at b.before earlier one
    (get_low b.before (two ∷ b.after) earlier one (omega (arith, size, lt))
    (ap (λ xs. slice_get xs earlier) (sym b.whole) ∙ race.offered_first)) in
    let whole : es ≡ (a.before ++ one ∷ a.after) ++ two ∷ b.after = b.whole ∙ ap (λ z. z ++ two ∷ b.after) a.whole in
    let size_second : length (a.before ++ one ∷ a.after) ≡ later = ap length (sym a.whole) ∙ b.size in
    shown g disjoint turn es n t along clean silent w c earlier later a.before a.after b.after race.first race.second
    whole a.size size_second
    (known_front es w c earlier later least (a.before ++ one ∷ a.after) (two ∷ b.after) whole
    (subst (λ z. z ≤ later) (sym size_second) (le_refl later)))
    (λ k. race.unknown (subst (λ (x : Knowledge). KnowsCompletion x race.second earlier)
    (sym (ap knowledge_of (ap (take later) whole
    ∙ take_at (a.before ++ one ∷ a.after) (two ∷ b.after) later size_second))) k))
