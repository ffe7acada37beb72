-- None of this belongs to what the program promises: it is for contracts between crates.
-- What is said of each item of a list, for facts that are no computation. The other facts of this crate are said by
-- it.
use Rattle.std.specs.Prelude.{List, [], ◌∷◌}

abbrev pub HoldsOfEach : {A : Type 0} → (A → Type 0) → List A → Type 0
HoldsOfEach P [] = Unit {0}
HoldsOfEach P (x ∷ xs) = P x × HoldsOfEach P xs
