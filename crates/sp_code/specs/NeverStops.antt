-- None of this belongs to what the program promises: it is for contracts between crates.
-- What the code of a block may rest on: a function calls nothing that stops. The facts of an accepted tree promise it,
-- and generated code needs it, since an answer is awaited within one turn.
use Rattle.std.specs.Prelude.{ℕ}
use Rattle.sp_tree.specs.Plain.{Program}
use Rattle.sp_tree.specs.Sets.{LeadsToStop}

-- a call of the block leads to no statement that communicates, forks, reads or writes
abbrev pub NeverStops : Program → ℕ → Type 0
NeverStops p f = LeadsToStop p f → ⊥
