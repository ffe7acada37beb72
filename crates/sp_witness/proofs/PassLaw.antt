-- The pass backwards over a whole journal takes the first part of the witness.
use Rattle.std.proofs.Common.{◌≡◌, ℕ, zero, suc, ◌<◌, ◌≤◌, true, List, [], ◌∷◌, length, take, drop, take_at, Some}
use Rattle.std.proofs.Common.{slice_get, refl, sym, ap, ◌∙◌, subst, arith}
use Rattle.std.proofs.lemmas.List.{take-append-drop}
use Rattle.sp_journal.specs.Names.{Occurrence}
use Rattle.sp_journal.specs.Past.{no_knowledge}
use Rattle.sp_meaning.specs.Along.{IsClean}
use Rattle.sp_race.specs.Prefixes.{WaitersSilentFrom, WaitersAreSilent}
use Rattle.sp_race.proofs.Fronts.{silent_front}
use Rattle.sp_witness.specs.Witness.{who_at, past_before, members, first_part}
use Rattle.sp_witness.specs.NeededEntries.{needed_entries, backward_pass}
use Rattle.sp_witness.proofs.PastFacts.{nothing_stands, stands_from}
use Rattle.sp_witness.proofs.WitnessRuns.{clean_front}
use Rattle.sp_witness.proofs.Real.{cut_at}
use Rattle.sp_witness.proofs.Pass.{taken_is}

take_short : (i : ℕ) (es : List Occurrence) → length (take i es) ≤ i
take_short zero es = omega arith
take_short (suc i) [] = omega arith
take_short (suc i) (e ∷ es) = let h = take_short i es in omega (arith, h)

has_entry : (es : List Occurrence) (i : ℕ) → i < length es → (e : Occurrence) × (slice_get es i ≡ Some e)
has_entry [] i lt = absurd (omega (arith, lt))
has_entry (e ∷ es) zero lt = (e, refl)
has_entry (e ∷ es) (suc i) lt = has_entry es i (omega (arith, lt))

pub below_at : (es : List Occurrence) → WaitersAreSilent es → (i k : ℕ) → past_before es i k ≡ true → k < i
below_at es silent i k h =
    let q = silent_front no_knowledge 0 (take i es) (drop i es)
    (subst (WaitersSilentFrom no_knowledge 0) (sym (take-append-drop i es)) silent) in
    let s = stands_from no_knowledge [] 0 (take i es) refl nothing_stands q.0 in
    let l = s.paired.below (who_at es i) k h in
    let m = take_short i es in
    omega (arith, l, m)

pub whole_pass : (es : List Occurrence) (earlier later : ℕ) → WaitersAreSilent es → IsClean es → earlier < later
    → later < length es → backward_pass es earlier later ≡ first_part es earlier later
whole_pass es earlier later silent clean in_order inside =
    let two = has_entry es later inside in
    let b = cut_at es later two.0 two.1 in
    let front : take later es ≡ b.before = ap (take later) b.whole ∙ take_at b.before (two.0 ∷ b.after) later b.size in
    let size = b.size in
    ap (needed_entries es earlier later no_knowledge 0) front
    ∙ taken_is es earlier later in_order (below_at es silent earlier) two.0 b.after [] b.before no_knowledge 0
    (record { whole = b.whole; knowledge_is = refl; size = refl }) nothing_stands
    (subst (WaitersSilentFrom no_knowledge 0) b.whole silent)
    (clean_front b.before (two.0 ∷ b.after) (subst IsClean b.whole clean)) (omega (arith, size))
    ∙ sym (ap (members es earlier later 0) front)
