-- All of this belongs to what the program promises (docs/promise.txt).
-- Values: trees of ordinals and channel names; the types' first values. The meaning has it, and the machine's cells
-- are compared with it.
use Rattle.std.specs.Prelude.{ℕ, zero, suc, ℤ, List, [], ◌∷◌, slice_get, replicate, map}
use Rattle.sp_tree.specs.declared.checked.KindOf.{KindOf}
use Rattle.sp_tree.specs.declared.checked.KindOf.TheVariants as kind
use Rattle.sp_tree.specs.Cells.{count, first_or, table}
use Rattle.sp_meaning.specs.Model.{Channel}

-- what stands in a variable: nothing defined, an ordinal, a channel, or the parts of an array or record
mutual
  pub data Value : Type 0 where
    Undefined : Value
    Ordinal : (n : ℤ) → Value
    Chan : (c : Channel) → Value
    Parts : (vs : Values) → Value

  pub data Values : Type 0 where
    End : Values
    Then : (v : Value) (vs : Values) → Values

-- the parts of a list
abbrev pub values : List Value → Values
values [] = End
values (v ∷ vs) = Then v (values vs)

-- the value at an index, undefined past the end
abbrev pub item : Values → ℕ → Value
item End i = Undefined
item (Then v vs) zero = v
item (Then v vs) (suc i) = item vs i

-- a part, undefined where it is not there
abbrev pub part : Value → ℕ → Value
part (Parts vs) i = item vs i
part _ _ = Undefined

-- the value at a path
abbrev pub get_at : List ℕ → Value → Value
get_at [] v = v
get_at (i ∷ path) v = get_at path (part v i)

-- with the value at an index changed by f
abbrev pub with_item : (Value → Value) → Values → ℕ → Values
with_item f End i = End
with_item f (Then v vs) zero = Then (f v) vs
with_item f (Then v vs) (suc i) = Then v (with_item f vs i)

abbrev pub with_part : (Value → Value) → Value → ℕ → Value
with_part f (Parts vs) i = Parts (with_item f vs i)
with_part f v i = v

-- the value with w at a path
abbrev pub set_at : List ℕ → Value → Value → Value
set_at [] w v = w
set_at (i ∷ path) w v = with_part (set_at path w) v i

-- the first values of a record's fields, where those of the types before it are known
abbrev pub field_values : List Value → List (List ℕ × ℕ) → List Value
field_values known fields = map (λ f. first_or Undefined (slice_get known f.1)) fields

-- a type's first value, where those of the types before it are known
abbrev pub initial_by : List Value → KindOf → Value
initial_by known (kind.Array low high index element) =
    Parts (values (replicate (count low high) (first_or Undefined (slice_get known element))))
initial_by known (kind.Fields fs) = Parts (values (field_values known fs))
initial_by _ _ = Undefined

-- the first value of each type
abbrev pub initials : List KindOf → List Value
initials kinds = table initial_by [] kinds
