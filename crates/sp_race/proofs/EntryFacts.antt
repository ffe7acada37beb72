-- What stands after every entry: what is known, and the clocks that say it.
use Rattle.std.proofs.Common.{◌≡◌, ℕ, suc, nat_lt, List, [], ◌∷◌, ◌++◌, length, length-append, append_assoc, append-nil}
use Rattle.std.proofs.Common.{sym, subst, arith}
use Rattle.sp_journal.specs.Names.{Name, Happening, Occurrence}
use Rattle.sp_journal.specs.Past.{Knowledge, knowledge_after, knowledge_from, knowledge_of, no_knowledge}
use Rattle.sp_race.specs.Prefixes.{WaitersSilentFrom, WaitersAreSilent, WaitsForNone}
use Rattle.sp_race.proofs.PrefixLaws.{PrefixesAreKnown, one_entry, nothing_kept}
use Rattle.sp_race.proofs.Completion.{Paired, judged_paired, nothing_paired, Rounded, judged_rounded, nothing_rounded}
use Rattle.sp_race.specs.Counts.{PlaceOf, clocks_after_entry, clocks_from, clocks_of}
use Rattle.sp_race.proofs.Tallies.{CountsTellKnown, one_more, nothing_said}

pub record EntryFacts (j : Knowledge) (es : List Occurrence) (count : Name → Name → ℕ) : Type 0 where
  pub kept : PrefixesAreKnown j es
  pub paired : Paired j (length es)
  pub rounded : Rounded j es (length es)
  pub says : (q : Name) → CountsTellKnown es (j.past q) (count q)

pub size_more : (es : List Occurrence) (e : Occurrence) → suc (length es) ≡ length (es ++ e ∷ [])
size_more es e = let a = length-append es (e ∷ []) in omega arith

pub standing_more : (j : Knowledge) (es : List Occurrence) (count : Name → Name → ℕ) → EntryFacts j es count
    → (p : Name) (h : Happening) → WaitsForNone j p
    → EntryFacts (knowledge_after j (length es) p h) (es ++ record { who = p; what = h } ∷ [])
    (clocks_after_entry count j es p h)
standing_more j es count s p h w = record {
  kept = one_entry j es p h s.kept w;
  paired = subst (Paired (knowledge_after j (length es) p h)) (size_more es _)
      (judged_paired j (length es) s.paired p h);
  rounded = subst (Rounded (knowledge_after j (length es) p h) (es ++ record { who = p; what = h } ∷ []))
      (size_more es _)
      (judged_rounded j es (length es) s.paired s.rounded p h);
  says = one_more j es count s.kept s.paired.below s.says p h w;
}

pub nothing_standing : EntryFacts no_knowledge [] (λ p q. 0)
nothing_standing = record {
  kept = nothing_kept;
  paired = nothing_paired;
  rounded = nothing_rounded;
  says = nothing_said;
}

pub standing_from : (j : Knowledge) (done : List Occurrence) (count : Name → Name → ℕ) (es : List Occurrence)
    → EntryFacts j done count → WaitersSilentFrom j (length done) es
    → EntryFacts (knowledge_from j (length done) es) (done ++ es) (clocks_from count j done es)
standing_from j done count [] s q = subst (λ xs. EntryFacts j xs count) (sym (append-nil done)) s
standing_from j done count (e ∷ es) s q =
    let j' : Knowledge = knowledge_after j (length done) e.who e.what in
    let c' : Name → Name → ℕ = clocks_after_entry count j done e.who e.what in
    let one : EntryFacts j' (done ++ e ∷ []) c' = standing_more j done count s e.who e.what q.0 in
    let l : suc (length done) ≡ length (done ++ e ∷ []) = size_more done e in
    let r : EntryFacts (knowledge_from j' (length (done ++ e ∷ [])) es) ((done ++ e ∷ []) ++ es)
    (clocks_from c' j' (done ++ e ∷ []) es) =
    standing_from j' (done ++ e ∷ []) c' es one (subst (λ x. WaitersSilentFrom j' x es) l q.1) in
    subst (λ x. EntryFacts (knowledge_from j' x es) (done ++ e ∷ es) (clocks_from c' j' (done ++ e ∷ []) es)) (sym l)
    (subst (λ xs. EntryFacts (knowledge_from j' (length (done ++ e ∷ [])) es) xs
    (clocks_from c' j' (done ++ e ∷ []) es))
    (append_assoc done (e ∷ []) es) r)

pub clocks_say : (es : List Occurrence) → WaitersAreSilent es → (p q : Name) (i k : ℕ) → PlaceOf es q i k
    → (knowledge_of es).past p i ≡ nat_lt k (clocks_of es p q)
clocks_say es silent p q i k o = ((standing_from no_knowledge [] (λ a b. 0) es nothing_standing silent).says p).says q i
    k o
