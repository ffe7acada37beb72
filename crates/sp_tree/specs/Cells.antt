-- All of this belongs to what the program promises (docs/promise.txt).
-- The cells of types and of blocks' frames, by tables in order of numbers, since a type rests on types before it. The
-- rules of sizes, the meaning, the code and the generator share it.
use Rattle.std.specs.Prelude.{unwrap_or}
use Rattle.std.specs.Prelude.{ℕ, suc, ◌*◌, ◌==◌, ℤ, pos, ◌+ℤ◌, ◌-ℤ◌, nat_abs, if◌then◌else◌, List, [], ◌∷◌, ◌++◌}
use Rattle.std.specs.Prelude.{Option, slice_get, map, sum}
use Rattle.sp_tree.specs.declared.checked.KindOf.{KindOf}
use Rattle.sp_tree.specs.declared.checked.KindOf.TheVariants as kind
use Rattle.sp_tree.specs.declared.checked.Role.{Role}
use Rattle.sp_tree.specs.declared.checked.Role.TheVariants as role
use Rattle.sp_tree.specs.Plain.{Variable, Program}

-- how many elements an array has
abbrev pub count : ℤ → ℤ → ℕ
count low high = nat_abs ((high -ℤ low) +ℤ pos 1)

-- what is there, or else d
abbrev pub first_or : {A : Type 0} → A → Option A → A
first_or d x = unwrap_or x d

-- the results of a list, each by those before it
abbrev pub table : {A : Type 0} → (List A → KindOf → A) → List A → List KindOf → List A
table by known [] = known
table by known (k ∷ ks) = table by (known ++ by known k ∷ []) ks

-- the cells of a record's fields, where those of the types before it are known
abbrev pub fields_size : List ℕ → List (List ℕ × ℕ) → ℕ
fields_size known fields = sum (map (λ f. first_or 0 (slice_get known f.1)) fields)

-- a type's cells, where those of the types before it are known
abbrev pub size_by : List ℕ → KindOf → ℕ
size_by known (kind.Array low high index element) = count low high * first_or 0 (slice_get known element)
size_by known (kind.Fields fs) = fields_size known fs
size_by _ _ = 1

-- the cells of each type
abbrev pub sizes : List KindOf → List ℕ
sizes kinds = table size_by [] kinds

-- a block's variables with their numbers, from number x on
abbrev pub variables_of : ℕ → ℕ → List Variable → List (ℕ × Variable)
variables_of b x [] = []
variables_of b x (i ∷ is) = if i.block == b then (x, i) ∷ variables_of b (suc x) is else variables_of b (suc x) is

-- a variable's cells in its frame: the consoles and the index of a forall have none, and a variable parameter has one
abbrev pub cells_by : List ℕ → Role → ℕ → ℕ
cells_by sizes role.Console k = 0
cells_by sizes role.Reference k = 1
cells_by sizes role.Index k = 0
cells_by sizes _ k = first_or 0 (slice_get sizes k)

-- the cells of a block's frame
abbrev pub cells_of_frame : Program → ℕ → ℕ
cells_of_frame p b = sum (map (λ (x : ℕ × Variable). cells_by (sizes p.kinds) x.1.role x.1.kind)
    (variables_of b 0 p.variables))
