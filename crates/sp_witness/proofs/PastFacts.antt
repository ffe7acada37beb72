-- What stands after the entries of a journal in which nobody makes an entry while its own offer waits.
use Rattle.std.proofs.Common.{◌≡◌, ℕ, suc, ◌+◌, List, [], ◌∷◌, ◌++◌, length, append_assoc, append-nil, sym, subst}
use Rattle.std.proofs.Common.{arith}
use Rattle.sp_journal.specs.Names.{Occurrence}
use Rattle.sp_journal.specs.Past.{Knowledge, knowledge_after, knowledge_from, no_knowledge}
use Rattle.sp_race.specs.Prefixes.{WaitsForNone, WaitersSilentFrom}
use Rattle.sp_race.proofs.PrefixLaws.{PrefixesAreKnown, one_entry, nothing_kept}
use Rattle.sp_race.proofs.NoteLaws.{grown_size}
use Rattle.sp_race.proofs.Completion.{Paired, judged_paired, nothing_paired, Rounded, judged_rounded, nothing_rounded}

-- what stands after these entries
pub record KnowledgeFacts (j : Knowledge) (done : List Occurrence) (n : ℕ) : Type 0 where
  pub kept : PrefixesAreKnown j done
  pub paired : Paired j n
  pub rounded : Rounded j done n

pub nothing_stands : KnowledgeFacts no_knowledge [] 0
nothing_stands = record { kept = nothing_kept; paired = nothing_paired; rounded = nothing_rounded }

pub stands_next : (j : Knowledge) (done : List Occurrence) (n : ℕ) (e : Occurrence) → length done ≡ n
    → KnowledgeFacts j done n
    → WaitsForNone j e.who → KnowledgeFacts (knowledge_after j n e.who e.what) (done ++ e ∷ []) (suc n)
stands_next j done n e size s q = record {
  kept = subst (λ z. PrefixesAreKnown (knowledge_after j z e.who e.what) (done ++ e ∷ [])) size
      (one_entry j done e.who e.what s.kept q);
  paired = judged_paired j n s.paired e.who e.what;
  rounded = judged_rounded j done n s.paired s.rounded e.who e.what;
}

pub stands_from : (j : Knowledge) (done : List Occurrence) (n : ℕ) (es : List Occurrence) → length done ≡ n
    → KnowledgeFacts j done n → WaitersSilentFrom j n es → KnowledgeFacts (knowledge_from j n es) (done ++ es)
    (n + length es)
stands_from j done n [] size s q = let e : n ≡ n + 0 = omega arith in
    subst (λ z. KnowledgeFacts j (done ++ []) z) e (subst (λ z. KnowledgeFacts j z n) (sym (append-nil done)) s)
stands_from j done n (e ∷ es) size s q =
    let j' = knowledge_after j n e.who e.what in
    let sum : suc n + length es ≡ n + suc (length es) = omega arith in
    subst (λ z. KnowledgeFacts (knowledge_from j' (suc n) es) (done ++ e ∷ es) z) sum
    (subst (λ z. KnowledgeFacts (knowledge_from j' (suc n) es) z (suc n + length es)) (append_assoc done (e ∷ []) es)
    (stands_from j' (done ++ e ∷ []) (suc n) es (grown_size done n e size) (stands_next j done n e size s q.0) q.1))
