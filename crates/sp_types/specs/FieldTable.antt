-- Some of this belongs to what the program promises (docs/promise.txt).
-- The fields of a record in an ordered table by their names, and the message types of a channel in an ordered set. The
-- contracts of `field_table` cite it; the rules speak of the first field of a name, and the table of the only one.
use Rattle.std.specs.Prelude.{◌≡◌, ℕ, ◌+◌, nat_eq, if◌then◌else◌, List, [], ◌∷◌, Option, Some, None}
use Rattle.std.specs.List.{list_any}
use Rattle.std.specs.Option.{option_or}
use Rattle.std.specs.Str.{bytes_eq}
use Rattle.std.specs.Ordering.{nat_cmp, is_eq}
use Rattle.std.specs.Cmp.Lexicographic.{slice_cmp}
use Rattle.std.specs.BTreeMap.{BTreeMap, get}
use Rattle.sp_tree.specs.declared.checked.KindOf.{KindOf}
use Rattle.sp_tree.specs.declared.checked.KindOf.TheVariants as kind

-- a field's number and type, where the first of the fields has the number n
abbrev pub field_from : ℕ → List ℕ → List (List ℕ × ℕ) → Option (ℕ × ℕ)
field_from n name [] = None
field_from n name (f ∷ fs) = if bytes_eq name f.0 then Some (n, f.1) else field_from (n + 1) name fs

-- the fields of a type; a type that is no record has none
abbrev pub fields_in : KindOf → List (List ℕ × ℕ)
fields_in (kind.Fields fs) = fs
fields_in k = []

-- the message types of a type; a type that is no channel has none
abbrev pub message_types : KindOf → List ℕ
message_types (kind.Channel ks) = ks
message_types k = []

-- by a field's name, its number and its type
abbrev pub Index : Type 0
Index = BTreeMap (List ℕ) (ℕ × ℕ)

-- the number and type under a name
abbrev pub field_under : Index → List ℕ → Option (ℕ × ℕ)
field_under index name = get (slice_cmp nat_cmp) index name

-- The field is in the table, with this number, unless one of its name was; all others are as before.
abbrev pub AddsField : Index → Index → ℕ → List ℕ × ℕ → Type 0
AddsField old new n f = (name : List ℕ) → field_under new name
    ≡ option_or (field_under old name) (if bytes_eq name f.0 then Some (n, f.1) else None)

-- Under each name stands the first field of that name.
abbrev pub IsIndex : Index → List (List ℕ × ℕ) → Type 0
IsIndex index fields = (name : List ℕ) → field_under index name ≡ field_from 0 name fields

-- The numbers are those of the types.
abbrev pub IsNumbers : List ℕ → List ℕ → Type 0
IsNumbers numbers kinds = (k : ℕ) → list_any (λ j. is_eq (nat_cmp k j)) numbers ≡ list_any (nat_eq k) kinds
