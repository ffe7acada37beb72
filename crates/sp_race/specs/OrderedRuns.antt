-- None of this belongs to what the program promises: it is for contracts between crates.
-- Ordered runs: each step keeps the order condition by the notes beside the run. The proof that ordered runs end alike
-- starts from it.
use Rattle.std.specs.Prelude.{◌≡◌, List, [], ◌∷◌, Some}
use Rattle.sp_meaning.specs.Model.{Name, Totals, Language, State}
use Rattle.sp_meaning.specs.Steps.{own_part, step}
use Rattle.sp_race.specs.Notes.{JudgeNotes, KnowsBefore}
use Rattle.sp_race.specs.RunNotes.{notes_after}

-- each step of the schedule keeps the order condition
abbrev pub IsOrderedRun : {L : Language} → Totals → State L → JudgeNotes → List Name → Type 0
IsOrderedRun limits s n [] = Unit {0}
IsOrderedRun {L} limits s n (p ∷ ps) =
    ((own : L.Own) → own_part s p ≡ Some own → KnowsBefore L n p (L.next own s.store))
    × ((own : L.Own) (m : State L) → own_part s p ≡ Some own → step limits s p ≡ Some m
    → IsOrderedRun limits m (notes_after s n p (L.next own s.store)) ps)
