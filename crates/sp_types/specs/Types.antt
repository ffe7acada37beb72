-- None of this belongs to what the program promises: it is for contracts between crates.
-- What a part of the walk gives: its tree as the plain one, its type, and the first broken rule up to its end. The
-- contracts of all walks of this crate cite it.
use Rattle.std.specs.Prelude.{◌≡◌, ℕ, Option}
use Rattle.sp_tree.specs.PhaseResults.{FirstRefusal}
use Rattle.sp_tree.specs.Carried.{Keeps}
use Rattle.sp_tree.specs.declared.walk.Walk.{Walk}
use Rattle.sp_types.specs.declared.pass_results.Typed.{Typed}

-- This tree, this type and this first broken rule up to its end, if the walk is not lost.
abbrev pub Types : {A B : Type 0} → (A → B) → Walk → Walk → Typed A → B → Option ℕ → FirstRefusal → Type 0
Types view old new result tree kind first = Keeps old new first ((view result.tree ≡ tree) × (result.kind ≡ kind))
