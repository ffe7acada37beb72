-- None of this belongs to what the program promises: it is for contracts between crates.
-- What the generator keeps in tables of a tree: where variables stand in their frames, and where fields begin. The
-- contracts of `cells`, `frames` and `ground` cite it, so that no place is worked out twice.
use Rattle.std.specs.Prelude.{ℕ, suc, ◌+◌, List, [], ◌∷◌, map, slice_get, Option, Some, None}
use Rattle.sp_tree.specs.declared.checked.KindOf.{KindOf}
use Rattle.sp_tree.specs.declared.checked.KindOf.TheVariants as kind
use Rattle.sp_tree.specs.Cells.{first_or, sizes}
use Rattle.sp_tree.specs.Plain.{Program, Variable}
use Rattle.sp_code.specs.Scopes.{slot_in}

-- the number of each variable in its frame, from variable x on
abbrev pub slots_from : Program → ℕ → List Variable → List ℕ
slots_from p x [] = []
slots_from p x (v ∷ vs) = slot_in p v.block x ∷ slots_from p (suc x) vs

-- those of all variables
abbrev pub slots_of : Program → List ℕ
slots_of p = slots_from p 0 p.variables

-- where each field begins, the first one at n
abbrev pub offsets_from : List ℕ → ℕ → List (List ℕ × ℕ) → List ℕ
offsets_from sizes n [] = []
offsets_from sizes n (f ∷ fs) = n ∷ offsets_from sizes (n + first_or 0 (slice_get sizes f.1)) fs

-- those of a type
abbrev pub offsets_by : List ℕ → KindOf → List ℕ
offsets_by sizes kind.Integer = []
offsets_by sizes kind.Boolean = []
offsets_by sizes kind.Char = []
offsets_by sizes (kind.Enumeration n) = []
offsets_by sizes (kind.Array low high index element) = []
offsets_by sizes (kind.Fields fs) = offsets_from sizes 0 fs
offsets_by sizes (kind.Channel ks) = []

-- those of all types
abbrev pub offsets_of : Program → List (List ℕ)
offsets_of p = map (offsets_by (sizes p.kinds)) p.kinds

-- a level, so many scopes further out
abbrev pub outer_level : ℕ → Option ℕ → Option ℕ
outer_level n None = None
outer_level n (Some m) = Some (n + m)
