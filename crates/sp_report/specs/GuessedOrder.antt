-- None of this belongs to what the program promises: it is for contracts between crates.
-- Processes in an order that is guessed, and what is looked at to know that it is the order of their names.
use Rattle.std.specs.Prelude.{◌≡◌, ℕ, ◌+◌, ◌<◌, ◌≤◌, List, [], ◌∷◌, Some, length, slice_get, get_or}
use Rattle.std.specs.declared.cmp.Ordering.TheVariants.{Less}
use Rattle.sp_base.specs.declared.name.ProcName.{ProcName}
use Rattle.sp_base.specs.Order.{name_cmp}
use Rattle.sp_journal.specs.Births.{Births}
use Rattle.sp_journal.specs.Names.{proc_name}

-- the names of these processes
abbrev pub names_of : Births → List ℕ → List ProcName
names_of s [] = []
names_of s (q ∷ qs) = proc_name (s.name q) ∷ names_of s qs

-- each of them was forked
abbrev pub AreForked : Births → List ℕ → Type 0
AreForked s qs = (i q : ℕ) → slice_get qs i ≡ Some q → (1 ≤ q) × (q < s.processes)

-- the processes from 1 to below n are among them
abbrev pub HasBelow : ℕ → List ℕ → Type 0
HasBelow n qs = (q : ℕ) → 1 ≤ q → q < n → (i : ℕ) × (slice_get qs i ≡ Some q)

-- each of the first n names but one is below the next
abbrev pub RisesTo : ℕ → List ProcName → Type 0
RisesTo n names = (d : ProcName) (k : ℕ) → k + 1 < n → name_cmp (get_or names k d) (get_or names (k + 1) d) ≡ Less

abbrev pub Rises : List ProcName → Type 0
Rises names = RisesTo (length names) names
