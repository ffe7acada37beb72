-- None of this belongs to what the program promises: it is for contracts between crates.
-- What the phase of interference answers: the contract of the check, in the words of sp_tree's rules and of no set.
use Rattle.std.specs.Prelude.{Result, Ok, Err}
use Rattle.sp_base.specs.declared.place.Place.{Place}
use Rattle.sp_base.specs.declared.halt.Refusal.{Refusal}
use Rattle.sp_base.specs.declared.rule.Rule.{Rule}
use Rattle.sp_tree.specs.First.{IsFirst}
use Rattle.sp_tree.specs.PlainChecked.{Program}
use Rattle.sp_tree.specs.Interferes.{Interferes}

-- no rule of interference is broken, or this is the first that is
abbrev pub IsVerdict : Program → Result (Unit {0}) Refusal → Type 0
IsVerdict c (Ok x) = (r : Rule) (at : Place) → Interferes c r at → ⊥
IsVerdict c (Err r) = IsFirst (Interferes c) r
