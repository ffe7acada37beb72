-- None of this belongs to what the program promises: it is for contracts between crates.
-- The first part of a witness by one pass backwards over the entries before the later offer: who is needed after an
-- entry says whether the entry is, and who is needed before it. The law of this crate says that this is the first part.
use Rattle.std.specs.Prelude.{ℕ, zero, suc, Bool, false, ◌&&◌, ◌||◌, ◌==◌, if◌then◌else◌, List, [], ◌∷◌, take, Option}
use Rattle.std.specs.Prelude.{Some, None}
use Rattle.sp_journal.specs.Maps.{at_key}
use Rattle.sp_journal.specs.Names.{Name, same_name, Happening, Forked, Offered, Ended}
use Rattle.sp_journal.specs.Names.{Occurrence}
use Rattle.sp_journal.specs.Past.{Knowledge, knowledge_after, no_knowledge}
use Rattle.sp_witness.specs.Witness.{who_at}

-- one of the first m children of fork k of p is needed
abbrev pub any_child : (Name → Bool) → Name → ℕ → ℕ → Bool
any_child needed_processes p k zero = false
any_child needed_processes p k (suc m) = needed_processes ((k, m) ∷ p) || any_child needed_processes p k m

-- the parent of a process is needed
abbrev pub parent_is : (Name → Bool) → Name → Bool
parent_is needed_processes [] = false
parent_is needed_processes (a ∷ p) = needed_processes p

-- of two that meet both are needed where either is
abbrev pub needed_to_meet : Name → Option (Name × ℕ) → (Name → Bool) → Name → Bool
needed_to_meet p None needed_processes = needed_processes
needed_to_meet p (Some o) needed_processes =
    at_key same_name p (needed_processes p || needed_processes o.0)
    (at_key same_name o.0 (needed_processes p || needed_processes o.0) needed_processes)

-- Who is needed before an entry of p, of those needed after it: a parent that forks where a child is, both that meet
-- where one of them is, a child that ends where its parent is
abbrev pub needed_before : Knowledge → Name → Happening → (Name → Bool) → Name → Bool
needed_before j p (Forked m) needed_processes =
    at_key same_name p (needed_processes p || any_child needed_processes p (j.forks p) m) needed_processes
needed_before j p (Offered w c) needed_processes = needed_to_meet p (j.pending c) needed_processes
needed_before j p Ended needed_processes = at_key same_name p (needed_processes p || parent_is needed_processes p)
    needed_processes
needed_before _ _ _ needed_processes = needed_processes

module _ (es : List Occurrence) (earlier later : ℕ) where
  -- who is needed before these entries, which end before the later offer: the process of that offer, and before the
  -- earlier offer the process of that one too
  abbrev pub needed_processes : Knowledge → ℕ → List Occurrence → Name → Bool
  needed_processes j n [] q = same_name q (who_at es later)
  needed_processes j n (e ∷ rest) q =
      needed_before j e.who e.what (needed_processes (knowledge_after j n e.who e.what) (suc n) rest) q
      || ((n == earlier) && same_name q e.who)

  -- the entries whose process is needed
  abbrev pub needed_entries : Knowledge → ℕ → List Occurrence → List Occurrence
  needed_entries j n [] = []
  needed_entries j n (e ∷ rest) =
      if needed_before j e.who e.what (needed_processes (knowledge_after j n e.who e.what) (suc n) rest) e.who
      then e ∷ needed_entries (knowledge_after j n e.who e.what) (suc n) rest
      else needed_entries (knowledge_after j n e.who e.what) (suc n) rest

  -- whether each of these entries is taken
  abbrev pub needed_marks : Knowledge → ℕ → List Occurrence → List Bool
  needed_marks j n [] = []
  needed_marks j n (e ∷ rest) =
      needed_before j e.who e.what (needed_processes (knowledge_after j n e.who e.what) (suc n) rest) e.who
      ∷ needed_marks (knowledge_after j n e.who e.what) (suc n) rest

  -- the pass over all entries before the later offer
  abbrev pub backward_pass : List Occurrence
  backward_pass = needed_entries no_knowledge 0 (take later es)
