-- Some of this belongs to what the program promises (docs/promise.txt).
-- What a text is by all phases, the rules of interference among them. The contract of `compile` promises it, with the
-- sets that code needs; the top call's causes cite it.
use Rattle.std.specs.Prelude.{◌⊎◌, ℕ, List, Result, Ok, Err}
use Rattle.sp_base.specs.declared.halt.Halt.{Halt}
use Rattle.sp_base.specs.declared.halt.Halt.TheVariants as halt
use Rattle.sp_base.specs.declared.halt.Refusal.{Refusal}
use Rattle.sp_base.specs.declared.place.Place.{Place}
use Rattle.sp_base.specs.declared.rule.Rule.{Rule}
use Rattle.sp_tree.specs.declared.checked.Checked.{Checked}
use Rattle.sp_tree.specs.First.{IsFirst}
use Rattle.sp_tree.specs.PlainChecked as c
use Rattle.sp_tree.specs.CheckedOf as checked
use Rattle.sp_tree.specs.Interferes.{Interferes}
use Rattle.sp_varsets.specs.declared.sets.Sets.{Sets}
use Rattle.sp_varsets.specs.AreSets.{AreSets}
use Rattle.sp_front.specs.declared.analysis.Accepted.{Accepted}
use Rattle.sp_front.specs.Checks.{IsChecked, FirstBrokenUpToTypes}

-- the text has this checked tree, which breaks no rule of interference
abbrev pub IsAccepted : List ℕ → c.Program → Type 0
IsAccepted text p = IsChecked text p × ((r : Rule) (at : Place) → Interferes p r at → ⊥)

-- the text has a checked tree, and this is the first rule of interference that it breaks
abbrev pub BreaksInterference : List ℕ → Refusal → Type 0
BreaksInterference text r = (p : c.Program) × IsChecked text p × IsFirst (Interferes p) r

-- the first rule of all phases that the text breaks
abbrev pub FirstBrokenOfPhases : List ℕ → Refusal → Type 0
FirstBrokenOfPhases text r = FirstBrokenUpToTypes text r ⊎ BreaksInterference text r

-- the answer with the sets; want of memory is free
abbrev pub Compiles : List ℕ → Result Accepted Halt → Type 0
Compiles text (Ok a) = IsAccepted text (checked.program_of a.checked) × AreSets (checked.program_of a.checked) a.sets
Compiles text (Err (halt.Refused r)) = FirstBrokenOfPhases text r
Compiles text (Err halt.Memory) = Unit {0}

-- the same without the phase of interference
abbrev pub Analyses : List ℕ → Result (Checked × Sets) Halt → Type 0
Analyses text (Ok a) = IsChecked text (checked.program_of a.0) × AreSets (checked.program_of a.0) a.1
Analyses text (Err (halt.Refused r)) = FirstBrokenUpToTypes text r
Analyses text (Err halt.Memory) = Unit {0}

-- the text breaks no rule of any phase
abbrev pub AcceptedByPhases : List ℕ → Type 0
AcceptedByPhases text = (r : Refusal) → FirstBrokenOfPhases text r → ⊥
