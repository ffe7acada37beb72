-- None of this belongs to what the program promises: it is for contracts between crates.
-- The sparse clocks of a journal by names: a count for each process that a process knows of. A law of this crate says
-- that they tell the pasts, and the judge's tables hold them by numbers.
use Rattle.std.specs.Prelude.{◌≡◌, ℕ, zero, suc, true, cond, max, ◌&&◌, List, [], ◌∷◌, ◌++◌, take, length, Option, Some}
use Rattle.std.specs.Prelude.{None, slice_get}
use Rattle.sp_journal.specs.Names.{Name, same_name, Happening, Opened, Forked, Offered, Ended}
use Rattle.sp_journal.specs.Names.{Occurrence}
use Rattle.sp_journal.specs.Past.{Knowledge, knowledge_after, no_knowledge}
use Rattle.sp_race.specs.Prefixes.{is_counted}

-- how many counted entries of a process these are
abbrev pub count_of_entries : List Occurrence → Name → ℕ
count_of_entries [] q = 0
count_of_entries (e ∷ es) q = cond (same_name e.who q && is_counted e.what) (suc (count_of_entries es q))
    (count_of_entries es q)

-- the entry of index i is the counted one of process q that has k before it
abbrev pub PlaceOf : List Occurrence → Name → ℕ → ℕ → Type 0
PlaceOf es q i k = (h : Happening) × (slice_get es i ≡ Some (record { who = q; what = h })) × (is_counted h ≡ true)
    × (k ≡ count_of_entries (take i es) q)

-- the count of p raised to k
abbrev pub with_count_raised : Name → ℕ → (Name → ℕ) → Name → ℕ
with_count_raised p k f q = cond (same_name p q) (max (f q) k) (f q)

-- p has this clock
abbrev pub with_clock : Name → (Name → ℕ) → (Name → Name → ℕ) → Name → Name → ℕ
with_clock p clock count q r = cond (same_name p q) (clock r) (count q r)

-- p merges this clock in
abbrev pub with_merged_clock : Name → (Name → ℕ) → (Name → Name → ℕ) → Name → Name → ℕ
with_merged_clock p clock count q r = cond (same_name p q) (max (count q r) (clock r)) (count q r)

abbrev pub with_children_merged : Name → ℕ → (Name → ℕ) → ℕ → ℕ → (Name → Name → ℕ) → Name → Name → ℕ
with_children_merged p fork clock i zero count = count
with_children_merged p fork clock i (suc n) count =
    with_children_merged p fork clock (suc i) n (with_merged_clock ((fork, i) ∷ p) clock count)

abbrev pub with_parent_merged : Name → (Name → ℕ) → (Name → Name → ℕ) → Name → Name → ℕ
with_parent_merged [] clock count = count
with_parent_merged (a ∷ p) clock count = with_merged_clock p clock count

-- p's clock with its next entry
abbrev pub clock_with_entry : (Name → Name → ℕ) → List Occurrence → Name → Name → ℕ
clock_with_entry count es p = with_count_raised p (suc (count_of_entries es p)) (count p)

-- the clock of who waits, with its offer of index i
abbrev pub clock_of_waiter : (Name → Name → ℕ) → List Occurrence → Name → ℕ → Name → ℕ
clock_of_waiter count es z i = with_count_raised z (suc (count_of_entries (take i es) z)) (count z)

abbrev pub merged_clock : (Name → ℕ) → (Name → ℕ) → Name → ℕ
merged_clock f g q = max (f q) (g q)

abbrev pub clocks_after_offer : (Name → Name → ℕ) → List Occurrence → Name → Option (Name × ℕ) → Name → Name → ℕ
clocks_after_offer count es p None = count
clocks_after_offer count es p (Some o) =
    with_merged_clock o.0 (merged_clock (clock_with_entry count es p) (clock_of_waiter count es o.0 o.1))
    (with_merged_clock p (merged_clock (clock_with_entry count es p) (clock_of_waiter count es o.0 o.1)) count)

-- the clocks after one more entry
abbrev pub clocks_after_entry : (Name → Name → ℕ) → Knowledge → List Occurrence → Name → Happening → Name → Name → ℕ
clocks_after_entry count j es p Opened = with_clock p (clock_with_entry count es p) count
clocks_after_entry count j es p (Forked k) = with_children_merged p (j.forks p) (clock_with_entry count es p) 0 k
    (with_clock p (clock_with_entry count es p) count)
clocks_after_entry count j es p (Offered w c) = clocks_after_offer count es p (j.pending c)
clocks_after_entry count j es p Ended =
    with_parent_merged p (clock_with_entry count es p) (with_clock p (clock_with_entry count es p) count)
clocks_after_entry count _ _ _ _ = count

abbrev pub clocks_from : (Name → Name → ℕ) → Knowledge → List Occurrence → List Occurrence → Name → Name → ℕ
clocks_from count j done [] = count
clocks_from count j done (e ∷ es) = clocks_from (clocks_after_entry count j done e.who e.what)
    (knowledge_after j (length done) e.who e.what) (done ++ e ∷ []) es

-- the clocks after these entries
abbrev pub clocks_of : List Occurrence → Name → Name → ℕ
clocks_of es = clocks_from (λ p q. 0) no_knowledge [] es
