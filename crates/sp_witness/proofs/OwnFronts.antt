-- The marks of the pass take each process's entries from its first one on without a gap; so the tables number the
-- witness.
use Rattle.std.proofs.Common.{◌≡◌, ◌≢◌, ℕ, suc, ◌<◌, Bool, true, false, cond, ◌==◌, List, [], ◌∷◌, ◌++◌, length, map}
use Rattle.std.proofs.Common.{take, take_at, Option, Some, None, slice_get, eqb-true, refl, sym, ap, ◌∙◌, subst, arith}
use Rattle.std.proofs.lemmas.Bool.{false_from_ne_true, false≢true}
use Rattle.sp_base.specs.declared.fault.Fault.TheVariants as fault
use Rattle.sp_base.proofs.Facts.{get_of_map}
use Rattle.sp_journal.specs.declared.entry.Event.TheVariants as event
use Rattle.sp_journal.specs.declared.entry.Entry.{Entry}
use Rattle.sp_journal.specs.declared.entry.Journal.{Journal}
use Rattle.sp_journal.specs.Maps.{at_key}
use Rattle.sp_journal.specs.Names.{Name, Occurrence}
use Rattle.sp_journal.specs.Births.{Births, first_births, births_after_entry, births, IsNameable, occurrence}
use Rattle.sp_journal.specs.Births.{occurrences}
use Rattle.sp_journal.specs.Past.{Knowledge, knowledge_after, no_knowledge}
use Rattle.sp_meaning.specs.Along.{IsClean}
use Rattle.sp_race.specs.Prefixes.{WaitersSilentFrom, WaitersAreSilent}
use Rattle.sp_race.proofs.PrefixLaws.{nothing_kept}
use Rattle.sp_race.proofs.Numbers.{all_named}
use Rattle.sp_race.proofs.Fronts.{silent_front}
use Rattle.sp_witness.specs.Witness.{witness, is_member, is_among}
use Rattle.sp_witness.specs.OccurrenceNumbers.{witness_journal}
use Rattle.sp_witness.specs.NeededEntries.{needed_marks}
use Rattle.sp_witness.specs.Flags.{flags_before, flags, lines_after, picked_entries, marks}
use Rattle.sp_witness.specs.TableNumbers.{IsPlain, first_table, renumbered_entry, marked_entries, renumbered_entries}
use Rattle.sp_witness.specs.TableNumbers.{table_of}
use Rattle.sp_witness.specs.TableNumbers.{IsOwnFront}
use Rattle.sp_witness.proofs.IndependentSteps.{Head, MarkedFree, Cuts}
use Rattle.sp_witness.proofs.Pasts.{heads_from, MarksAre, cuts_from}
use Rattle.sp_witness.proofs.Parts.{mark_in}
use Rattle.sp_witness.proofs.Parts as parts
use Rattle.sp_witness.proofs.PastFacts.{nothing_stands}
use Rattle.sp_witness.proofs.WitnessRuns.{clean_front}
use Rattle.sp_witness.proofs.Real.{cut_at}
use Rattle.sp_witness.proofs.Pass.{member_marks}
use Rattle.sp_witness.proofs.Pass as pass
use Rattle.sp_witness.proofs.PassLaw.{below_at}
use Rattle.sp_witness.proofs.PickedEntries.{marks_taken, take_map}
use Rattle.sp_witness.proofs.NumberLookups.{picked_part}
use Rattle.sp_witness.proofs.TableNumbers.{AreMarks}
use Rattle.sp_witness.proofs.Tables.{tables_number}

-- the marks are one for each entry, and select what is picked
module _ (earlier last : ℕ) where
  each_marked : (s : Births) (lines : ℕ → Option ℕ) (n : ℕ) (es : List Entry)
      → AreMarks es (marks earlier last s lines n es)
  each_marked s lines n [] = tt
  each_marked s lines n (e ∷ es) = each_marked (births_after_entry s e) (lines_after lines e.process e.event) (suc n) es

  selects : (s : Births) (lines : ℕ → Option ℕ) (n : ℕ) (es : List Entry)
      → marked_entries es (marks earlier last s lines n es) ≡ picked_entries earlier last s lines n es
  selects s lines n [] = refl
  selects s lines n (e ∷ es) =
      let r = selects (births_after_entry s e) (lines_after lines e.process e.event) (suc n) es in
      ap (λ z. cond (flags_before s lines e.process e.event
      (flags earlier last (births_after_entry s e) (lines_after lines e.process e.event) (suc n) es) e.process)
      (e ∷ z) z)
      r

-- no marked entry of this process
abbrev NoneOf : (ℕ → Bool) → Name → List Head → Type 0
NoneOf mark p [] = Unit {0}
NoneOf mark p (b ∷ bs) = (mark b.position ≡ true → p ≢ b.who) × NoneOf mark p bs

none_of : (mark : ℕ → Bool) (a : Head) (bs : List Head) → MarkedFree mark a bs → NoneOf mark a.who bs
none_of mark a [] m = tt
none_of mark a (b ∷ bs) m = (λ h. (m.0 h).0, none_of mark a bs m.1)

module _ (t : Births) (os : List Occurrence) (earlier later : ℕ) (mark : ℕ → Bool) where
  own_fronts : (es : List Entry) (j : Knowledge) (n : ℕ) (dirty : ℕ → Bool)
      → MarksAre os earlier later mark n (map (occurrence t) es) → Cuts mark (heads_from j n (map (occurrence t) es))
      → ((q : ℕ) → dirty q ≡ true → NoneOf mark (t.name q) (heads_from j n (map (occurrence t) es)))
      → IsOwnFront dirty es (member_marks os earlier later n (map (occurrence t) es))
  own_fronts [] j n dirty m cuts none = tt
  own_fronts (e ∷ es) j n dirty m cuts none =
      by (is_member os earlier later n (occurrence t e)
      (is_among os earlier later (t.name e.process) (suc n) (map (occurrence t) es))) refl
      (λ d k. own_fronts es (knowledge_after j n (t.name e.process) (occurrence t e).what) (suc n) d m.1 cuts.1 k)
    where
      by : (b : Bool) → is_member os earlier later n (occurrence t e)
          (is_among os earlier later (t.name e.process) (suc n) (map (occurrence t) es)) ≡ b
          → ((d : ℕ → Bool) → ((q : ℕ) → d q ≡ true
          → NoneOf mark (t.name q)
          (heads_from (knowledge_after j n (t.name e.process) (occurrence t e).what) (suc n) (map (occurrence t) es)))
          → IsOwnFront d es (member_marks os earlier later (suc n) (map (occurrence t) es)))
          → IsOwnFront dirty (e ∷ es) (b ∷ member_marks os earlier later (suc n) (map (occurrence t) es))
      by true is go = (
        false_from_ne_true (dirty e.process) (λ h. (none e.process h).0 (m.0 ∙ is) refl),
        go dirty (λ q h. (none q h).1),
      )
      by false is go = go (at_key ◌==◌ e.process true dirty) (λ q h. at (e.process == q) q refl h)
        where
          at : (x : Bool) (q : ℕ) → e.process == q ≡ x → cond x true (dirty q) ≡ true
              → NoneOf mark (t.name q)
              (heads_from (knowledge_after j n (t.name e.process) (occurrence t e).what) (suc n)
              (map (occurrence t) es))
          at true q s h = subst
              (λ z. NoneOf mark (t.name z)
              (heads_from (knowledge_after j n (t.name e.process) (occurrence t e).what) (suc n)
              (map (occurrence t) es)))
              (eqb-true e.process q s)
              (none_of mark (record {
                who = t.name e.process;
                what = (occurrence t e).what;
                position = n;
                knows =
                    j.past (t.name e.process);
              })
              (heads_from (knowledge_after j n (t.name e.process) (occurrence t e).what) (suc n)
              (map (occurrence t) es))
              (cuts.0 (m.0 ∙ is)))
          at false q s h = (none q h).1

pub numbers_by_tables : (j : Journal) → IsNameable j → WaitersAreSilent (occurrences j) → IsClean (occurrences j)
    → (earlier later : ℕ) → earlier < later → (one two : Entry) → slice_get j.entries earlier ≡ Some one
    → slice_get j.entries later ≡ Some two → IsPlain one.event
    → IsNameable (witness_journal j earlier later)
    → occurrences (witness_journal j earlier later) ≡ witness (occurrences j) earlier later
    → (witness_journal j earlier later).entries
    ≡ renumbered_entries first_births first_table (take later j.entries)
    (marks earlier two.process first_births (λ c. None) 0 (take later j.entries))
    ++ map (renumbered_entry (table_of first_births first_table (take later j.entries)
    (marks earlier two.process first_births (λ c. None) 0 (take later j.entries))))
    (one ∷ record { process = two.process; event = event.Fault fault.F6 } ∷ [])
numbers_by_tables j named silent clean earlier later lt one two got_one got_two plain named' names =
    let es = j.entries in
    let t = births es in
    let os = occurrences j in
    let front = take later es in
    let all : os ≡ map (occurrence t) es = all_named es named in
    let got : slice_get os later ≡ Some (occurrence t two) = ap (λ xs. slice_get xs later) all
    ∙ get_of_map (occurrence t) es later two got_two in
    let b = cut_at os later (occurrence t two) got in
    let size = b.size in
    let front_is : b.before ≡ map (occurrence t) front =
    sym (ap (take later) b.whole ∙ take_at b.before (occurrence t two ∷ b.after) later b.size) ∙ ap (take later) all
    ∙ take_map (occurrence t) later es in
    let whole : os ≡ map (occurrence t) front ++ occurrence t two ∷ b.after = b.whole
    ∙ ap (λ z. z ++ occurrence t two ∷ b.after) front_is in
    let size_is : length (map (occurrence t) front) ≡ later = ap length (sym front_is) ∙ b.size in
    let q = subst (WaitersSilentFrom no_knowledge 0) whole silent in
    let ok = clean_front (map (occurrence t) front) (occurrence t two ∷ b.after) (subst IsClean whole clean) in
    let mark = mark_in os earlier later 0 (map (occurrence t) front) in
    let say = parts.marks_are os earlier later (map (occurrence t) front) in
    let cuts = cuts_from os earlier later mark [] (map (occurrence t) front) (occurrence t two ∷ b.after) no_knowledge
    0 (record { whole = whole; knowledge_is = refl; size = refl }) nothing_kept
    (silent_front no_knowledge 0 (map (occurrence t) front) (occurrence t two ∷ b.after) q).0 ok say in
    let same : marks earlier two.process first_births (λ c. None) 0 front
    ≡ member_marks os earlier later 0 (map (occurrence t) front) =
    marks_taken es named earlier later two got_two
    ∙ ap (needed_marks os earlier later no_knowledge 0) (ap (take later) all ∙ take_map (occurrence t) later es)
    ∙ pass.marks_are os earlier later lt (below_at os silent earlier) (occurrence t two) b.after []
    (map (occurrence t) front) no_knowledge 0
    (record { whole = whole; knowledge_is = refl; size = refl }) nothing_stands q
    ok (omega (arith, size_is)) in
    let own = subst (IsOwnFront (λ x. false) front) (sym same)
    (own_fronts t os earlier later mark front no_knowledge 0 (λ x. false) say cuts
    (λ x h. absurd (false≢true h))) in
    tables_number j named earlier later lt one two got_one got_two plain
    (marks earlier two.process first_births (λ c. None) 0 front)
    (each_marked earlier two.process first_births (λ c. None) 0 front) own
    (ap (map (occurrence t)) (selects earlier two.process first_births (λ c. None) 0 front)
    ∙ picked_part es named silent clean earlier later lt two got_two) named' names
