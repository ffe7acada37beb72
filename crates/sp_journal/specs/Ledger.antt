-- None of this belongs to what the program promises: it is for contracts between crates.
-- What the tables of a ledger hold: what `births` says of the journal so far. The contracts of `Ledger` keep it, and
-- the judge, the kernel and the reports look names up under it.
use Rattle.std.specs.Prelude.{◌≡◌, ℕ, ◌-◌, ◌<◌, ◌≤◌, cond, nat_le, nat_eq, List, [], ◌∷◌, length, Option, Some, None}
use Rattle.std.specs.Prelude.{slice_get, slice_index_or, unwrap_or}
use Rattle.std.specs.Option.{option_map}
use Rattle.std.specs.HashMap as hash
use Rattle.std.specs.List.Sorted.{IsNonDecreasingBy}
use Rattle.sp_journal.specs.declared.entry.Birth.{Birth}
use Rattle.sp_journal.specs.declared.ledger.Family.{Family}
use Rattle.sp_journal.specs.declared.ledger.Made.{Made}
use Rattle.sp_journal.specs.declared.ledger.Ledger.{Ledger}
use Rattle.sp_journal.specs.Births.{births, IsNameable}

-- the last of these families whose numbers begin at q or before
abbrev pub family_of : List Family → ℕ → Option Family
family_of [] q = None
family_of (f ∷ fs) q = later (family_of fs q)
  where
    later : Option Family → Option Family
    later None = cond (nat_le f.first q) (Some f) None
    later (Some g) = Some g

abbrev pub birth_in : List Family → ℕ → Option Birth
birth_in fs q = option_map (λ f. record { parent = f.parent; fork = f.fork; child = q - f.first }) (family_of fs q)

abbrev pub nothing_made : Made
nothing_made = record { forks = 0; opens = 0 }

-- the tables hold what the journal's entries have given
pub record IsLedger (l : Ledger) : Type 0 where
  pub nameable : IsNameable l.journal
  pub processes : l.processes ≡ (births l.journal.entries).processes
  pub channels : length l.openings ≡ (births l.journal.entries).channels
  pub openings : (c : ℕ) → c < (births l.journal.entries).channels
      → slice_get l.openings c ≡ Some ((births l.journal.entries).opening c)
  pub families : (q : ℕ) → q < (births l.journal.entries).processes
      → (births l.journal.entries).birth q ≡ birth_in l.families q
  pub in_order : IsNonDecreasingBy (λ (f : Family). f.first) l.families
  pub begun : (i : ℕ) (d : Family) → i < length l.families
      → (slice_index_or l.families i d).first ≤ (births l.journal.entries).processes
  pub made : (p : ℕ) → unwrap_or (hash.get nat_eq l.made p) nothing_made
      ≡ record { forks = (births l.journal.entries).forks p; opens = (births l.journal.entries).opens p }
