-- Where the meaning is defined along a journal, it is defined along each first part of it (`first_part`). So a journal
-- is unfit at one entry alone, which is the law `one_unfit_entry`.
use Rattle.std.proofs.Common.{◌≡◌, ◌⊎◌, inl, inr, ℕ, zero, suc, ◌+◌, ◌<◌, ◌≤◌, Bool, List, [], ◌∷◌, ◌++◌, take, refl}
use Rattle.std.proofs.Common.{ap, subst, arith}
use Rattle.std.proofs.lemmas.Bool.{cases_order}
use Rattle.sp_base.specs.declared.limits.TheConstants.{TURN_TICKS}
use Rattle.sp_journal.specs.declared.entry.Entry.{Entry}
use Rattle.sp_journal.specs.Births.{Births, first_births, births_after_entry, occurrences_from}
use Rattle.sp_journal.specs.Names.{Happening, Laid, Paused, Occurrence}
use Rattle.sp_meaning.specs.Model.{Name}
use Rattle.sp_meaning.specs.LocalWork.{RunInput}
use Rattle.sp_meaning.specs.Runs.{StateOf, start}
use Rattle.sp_meaning.specs.Along.{JournalState, before_entries, Along, EntryStep}
use Rattle.sp_execute.specs.Follows.{IsMeant, IsUnfitAt}

module _ (g : RunInput) (turn : ℕ) where
  -- the meaning is defined along these occurrences from here on
  abbrev Defined : List Occurrence → JournalState → StateOf g → Type 0
  Defined os c s = (n : ℕ) × (t : StateOf g) × Along g turn c s os n t

  module _ (os ps : List Occurrence) (shorter : (c : JournalState) (s : StateOf g) (n : ℕ) (t : StateOf g)
      → Along g turn c s os n t → Defined ps c s) where
    entered : (c : JournalState) (m : StateOf g) (paused : Bool) (q : Name) (what : Happening) (n : ℕ) (t : StateOf g)
        → EntryStep g (λ c1 u r. Along g turn c1 u os r t) c m paused q what n
        → (k : ℕ) × (z : StateOf g) × EntryStep g (λ c1 u r. Along g turn c1 u ps r z) c m paused q what k
    entered c m paused q Laid n t h = let r = shorter _ _ n t h.1 in (r.0, r.1, (h.0, r.2))
    entered c m paused q Paused n t h = let r = shorter _ _ n t h.2 in (r.0, r.1, (h.0, h.1, r.2))
    entered _ _ _ _ _ _ t (no_fault, k) = let (steps, end, along) = shorter _ k.next k.rest t k.ahead in (
      suc steps,
      end,
      (
        no_fault,
        record {
          unpaused = k.unpaused;
          next = k.next;
          rest = steps;
          size = refl;
          makes = k.makes;
          ahead = along;
        },
      ),
    )

  first_part : (b : Births) (xs ys : List Entry) (c : JournalState) (s : StateOf g) (n : ℕ) (t : StateOf g)
      → Along g turn c s (occurrences_from b (xs ++ ys)) n t → Defined (occurrences_from b xs) c s
  first_part b [] ys c s n t h = (0, s, (refl, refl))
  first_part b (x ∷ xs) ys c s n t a =
      let (steps, end, enters) = entered (occurrences_from (births_after_entry b x) (xs
      ++ ys)) (occurrences_from (births_after_entry b x) xs)
      (first_part (births_after_entry b x) xs ys) c a.middle a.paused _ _ a.rest t a.enters in (
        a.steps + steps,
        end,
        record {
          not_laid = a.not_laid;
          steps = a.steps;
          rest = steps;
          middle = a.middle;
          paused = a.paused;
          size = refl;
          turns = a.turns;
          enters = enters;
        },
      )

-- a shorter first part is a first part of a longer one
shorter_take : (n m : ℕ) (es : List Entry) → n ≤ m → (ys : List Entry) × (take m es ≡ take n es ++ ys)
shorter_take zero m es l = (take m es, refl)
shorter_take (suc n) zero es l = absurd (omega (arith, l))
shorter_take (suc n) (suc m) [] l = ([], refl)
shorter_take (suc n) (suc m) (e ∷ es) l = let r = shorter_take n m es (omega (arith, l)) in (r.0, ap (λ xs. e ∷ xs) r.1)

whole_take : (n : ℕ) (es : List Entry) → (ys : List Entry) × (es ≡ take n es ++ ys)
whole_take zero es = (es, refl)
whole_take (suc n) [] = ([], refl)
whole_take (suc n) (e ∷ es) = let r = whole_take n es in (r.0, ap (λ xs. e ∷ xs) r.1)

meant_part : (g : RunInput) (xs ys es : List Entry) → es ≡ xs ++ ys → IsMeant g es → IsMeant g xs
meant_part g xs ys es e (n, s, h) = first_part g TURN_TICKS first_births xs ys before_entries (start g) n s
    (subst (λ zs. Along g TURN_TICKS before_entries (start g) (occurrences_from first_births zs) n s) e h)

pub not_both : (g : RunInput) (es : List Entry) (n : ℕ) → IsMeant g es → IsUnfitAt g es n → ⊥
not_both g es n m u = let r = whole_take (suc n) es in u.unfit (meant_part g (take (suc n) es) r.0 es r.1 m)

-- no later entry is the first
not_later : (g : RunInput) (es : List Entry) (m n : ℕ) → m < n → IsUnfitAt g es m → IsUnfitAt g es n → ⊥
not_later g es m n l u v = let r = shorter_take (suc m) n es (omega (arith, l)) in u.unfit
    (meant_part g (take (suc m) es) r.0 (take n es) r.1 v.fits)

pub one_entry : (g : RunInput) (es : List Entry) (m n : ℕ) → IsUnfitAt g es m → IsUnfitAt g es n → m ≡ n
one_entry g es m n u v = go (cases_order m n)
  where
    go : (m ≡ n) ⊎ ((m < n) ⊎ (n < m)) → m ≡ n
    go (inl e) = e
    go (inr (inl l)) = absurd (not_later g es m n l u v)
    go (inr (inr l)) = absurd (not_later g es n m l v u)
