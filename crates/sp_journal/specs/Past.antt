-- Some of this belongs to what the program promises (docs/promise.txt).
-- What each process knows of a journal, and which journals are ordered. They speak of entries by names alone. The
-- contracts of the judge and of `sp_race` cite them: a verdict rests on what a process could know when it offered.
use Rattle.std.specs.Prelude.{◌≡◌, ℕ, suc, zero, ◌+◌, Bool, true, false, cond, ◌||◌, ◌==◌, List, [], ◌∷◌, ◌++◌, length}
use Rattle.std.specs.Prelude.{Option, Some, None, slice_get}
use Rattle.sp_journal.specs.declared.entry.Journal.{Journal}
use Rattle.sp_journal.specs.Maps.{at_key}
use Rattle.sp_journal.specs.Names.{Name, Channel, same_name, same_channel, Happening, Opened, Forked, Offered, Ended}
use Rattle.sp_journal.specs.Names.{Occurrence}
use Rattle.sp_journal.specs.Births.{occurrences}

-- the set of indices that each process knows (its past), the pending offer of each channel with its index, how many
-- forks each process made, and the index at which the offer of an index was completed: the later of the two offers
pub record Knowledge : Type 0 where
  pub past : Name → ℕ → Bool
  pub pending : Channel → Option (Name × ℕ)
  pub forks : Name → ℕ
  pub completed : ℕ → Option ℕ

-- p knows these besides
abbrev pub learn : Name → (ℕ → Bool) → (Name → ℕ → Bool) → Name → ℕ → Bool
learn p known past q i = cond (same_name p q) (past q i || known i) (past q i)

-- n children of this fork, from number i on, start with what is known
abbrev pub teach : Name → ℕ → (ℕ → Bool) → ℕ → ℕ → (Name → ℕ → Bool) → Name → ℕ → Bool
teach p fork known i zero past = past
teach p fork known i (suc n) past = teach p fork known (suc i) n (learn ((fork, i) ∷ p) known past)

-- the parent gets what a child that ends knows. It does nothing before its last child has ended, so when it goes on it
-- has its own past and those of all its children
abbrev pub report : Name → (ℕ → Bool) → (Name → ℕ → Bool) → Name → ℕ → Bool
report [] known past = past
report (a ∷ p) known past = learn p known past

-- what p knows, and index n
abbrev pub known_with : Knowledge → Name → ℕ → ℕ → Bool
known_with j p n i = j.past p i || n == i

-- an offer that waits adds nothing; one that meets gives both sides what both know and the indices of both offers
abbrev pub knowledge_after_offer : Knowledge → Name → ℕ → Channel → Option (Name × ℕ) → Knowledge
knowledge_after_offer j p n c None = record j { pending = at_key same_channel c (Some (p, n)) j.pending }
knowledge_after_offer j p n c (Some o) =
    record j {
      past = learn o.0 (λ i. known_with j p n i || known_with j o.0 o.1 i)
          (learn p (λ i. known_with j p n i || known_with j o.0 o.1 i) j.past);
      pending = at_key same_channel c None j.pending;
      completed = λ i. cond (n == i) (Some n) (cond (o.1 == i) (Some n) (j.completed i));
    }

-- the entry of index n: open and fork add their own index, an end adds it to the child's past, a pause, a fault and a
-- laid process add nothing
abbrev pub knowledge_after : Knowledge → ℕ → Name → Happening → Knowledge
knowledge_after j n p Opened = record j { past = learn p (λ i. n == i) j.past }
knowledge_after j n p (Forked k) = record j {
  past = teach p (j.forks p) (known_with j p n) 0 k (learn p (λ i. n == i) j.past);
  forks = at_key same_name p (j.forks p + 1) j.forks;
}
knowledge_after j n p (Offered w c) = knowledge_after_offer j p n c (j.pending c)
knowledge_after j n p Ended = record j { past = report p (known_with j p n) (learn p (λ i. n == i) j.past) }
knowledge_after j n p _ = j

abbrev pub no_knowledge : Knowledge
no_knowledge = record { past = λ p i. false; pending = λ c. None; forks = λ p. 0; completed = λ i. None }

-- after these entries, of which the first one has index n
abbrev pub knowledge_from : Knowledge → ℕ → List Occurrence → Knowledge
knowledge_from j n [] = j
knowledge_from j n (e ∷ es) = knowledge_from (knowledge_after j n e.who e.what) (suc n) es

abbrev pub knowledge_of : List Occurrence → Knowledge
knowledge_of es = knowledge_from no_knowledge 0 es

-- at an offer: each earlier offer of this way on this channel was completed, and who offers knows the index of its
-- completion
abbrev pub KnowsCompletions : Knowledge → List Occurrence → Name → Happening → Type 0
KnowsCompletions j done p (Offered w c) = (i : ℕ) (z : Name)
    → slice_get done i ≡ Some (record { who = z; what = Offered w c }) → (m : ℕ) × (j.completed i ≡ Some m)
    × (j.past p m ≡ true)
KnowsCompletions _ _ _ _ = Unit {0}

abbrev pub CompletedFrom : Knowledge → List Occurrence → List Occurrence → Type 0
CompletedFrom j done [] = Unit {0}
CompletedFrom j done (e ∷ es) = KnowsCompletions j done e.who e.what
    × CompletedFrom (knowledge_after j (length done) e.who e.what) (done ++ e ∷ []) es

-- for any two sends on one channel, and any two receives on one channel: the earlier one was completed, and the later
-- one's process knew the index of that completion just before it offered
abbrev pub AreOrdered : List Occurrence → Type 0
AreOrdered es = CompletedFrom no_knowledge [] es

abbrev pub IsOrdered : Journal → Type 0
IsOrdered j = AreOrdered (occurrences j)
