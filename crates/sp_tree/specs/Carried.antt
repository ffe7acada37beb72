-- None of this belongs to what the program promises: it is for contracts between crates.
-- What a walk carries after a part, if memory was not refused up to then.
use Rattle.std.specs.Prelude.{◌≡◌, false}
use Rattle.sp_tree.specs.PhaseResults.{FirstRefusal}
use Rattle.sp_tree.specs.declared.walk.Walk.{Walk}

-- if the new walk is not lost, the old one was not, the new one has this first broken rule, and this holds
abbrev pub Keeps : Walk → Walk → FirstRefusal → Type 0 → Type 0
Keeps old new first P = new.is_lost ≡ false → (old.is_lost ≡ false) × (new.first ≡ first) × P
