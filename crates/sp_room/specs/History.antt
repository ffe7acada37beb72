-- None of this belongs to what the program promises: it is for contracts between crates.
-- Histories, and what one thread makes of them. The contracts of the room say by it that what was asked is one
-- sequence of steps, whatever the schedule was.
use Rattle.std.specs.Prelude.{◌≡◌, ℕ, List, [], ◌∷◌, ◌++◌, Option, Some, None, Bool, true, false, ◌==◌}

-- the first list begins with the second
abbrev pub StartsWith : {A : Type 0} → List A → List A → Type 0
StartsWith {A} xs ys = (rest : List A) × (xs ≡ ys ++ rest)

-- the first list where it is true, and else the second
abbrev pub either_list : {A : Type 0} → Bool → List A → List A → List A
either_list true x y = x
either_list false x y = y

-- the notes of one worker
abbrev pub notes_by : {N : Type 0} → (N → ℕ) → ℕ → List N → List N
notes_by author w [] = []
notes_by author w (n ∷ ns) = either_list (author n == w) (n ∷ notes_by author w ns) (notes_by author w ns)

-- a note, if there is one
abbrev pub note_list : {N : Type 0} → Option N → List N
note_list (Some n) = n ∷ []
note_list None = []

-- asked in this order from the first state, the object gives these notes, and is in the last state then
abbrev pub LeadsTo : {O A G N : Type 0} → (O → ℕ → A → O → G → Option N → Type 0) → O → List N → O → Type 0
LeadsTo steps x [] y = x ≡ y
LeadsTo {O} {A} {G} steps x (n ∷ ns) y = (mid : O) × (w : ℕ) × (a : A) × (g : G) × steps x w a mid g (Some n)
    × LeadsTo steps mid ns y
