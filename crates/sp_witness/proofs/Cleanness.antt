-- The witness of a run without a fault is clean but for its last entry.
use Rattle.std.proofs.Common.{ℕ, zero, suc, true, false, cond, List, [], ◌∷◌, ◌++◌, take, slice_get}
use Rattle.sp_journal.specs.Names.{Occurrence}
use Rattle.sp_meaning.specs.Along.{IsClean}
use Rattle.sp_witness.specs.Witness.{entry_list, is_member, is_among, members, first_part}

take_clean : (n : ℕ) (es : List Occurrence) → IsClean es → IsClean (take n es)
take_clean zero es c = tt
take_clean (suc n) [] c = tt
take_clean (suc n) (e ∷ es) c = (c.0, take_clean n es c.1)

alone_clean : (es : List Occurrence) (i : ℕ) → IsClean es → IsClean (entry_list (slice_get es i))
alone_clean [] i c = tt
alone_clean (e ∷ es) zero c = (c.0, tt)
alone_clean (e ∷ es) (suc i) c = alone_clean es i c.1

both_clean : (xs ys : List Occurrence) → IsClean xs → IsClean ys → IsClean (xs ++ ys)
both_clean [] ys c d = d
both_clean (x ∷ xs) ys c d = (c.0, both_clean xs ys c.1 d)

module _ (es : List Occurrence) (earlier later : ℕ) where
  members_clean : (k : ℕ) (xs : List Occurrence) → IsClean xs → IsClean (members es earlier later k xs)
  members_clean k [] c = tt
  members_clean k (x ∷ xs) c =
      elim (is_member es earlier later k x (is_among es earlier later x.who (suc k) xs)) as (λ b. IsClean
      (cond b (x ∷ members es earlier later (suc k) xs) (members es earlier later (suc k) xs))) [
        | true ↦ (c.0, members_clean (suc k) xs c.1)
        | false ↦ members_clean (suc k) xs c.1
      ]

pub front_clean : (es : List Occurrence) (earlier later : ℕ) → IsClean es
    → IsClean (first_part es earlier later ++ entry_list (slice_get es earlier))
front_clean es earlier later clean =
    both_clean (first_part es earlier later) (entry_list (slice_get es earlier))
    (members_clean es earlier later 0 (take later es) (take_clean later es clean)) (alone_clean es earlier clean)
