-- All of this belongs to what the program promises (docs/promise.txt).
-- Values as texts, by their types and cells. A type says how its values are written: brackets, commas, the names of
-- fields, and places for cells. The cells of a value fill these in order, and then the text is cut. kinds are the types
-- of the program, constants the names of the constants of each enumeration, by the number of the type.
use Rattle.std.specs.Prelude.{ℕ, zero, suc, ◌+◌, ℤ, pos, nat_abs, int_le, ◌&&◌, if◌then◌else◌, nat_le, nat_lt, List}
use Rattle.std.specs.Prelude.{[], ◌∷◌, ◌++◌, Option, Some, None, slice_get, length, take, map, replicate, codes}
use Rattle.std.specs.Prelude.{decimal}
use Rattle.std.specs.Fmt.{signed_decimal}
use Rattle.sp_base.specs.Names.{channel_text}
use Rattle.sp_tree.specs.declared.checked.KindOf.{KindOf}
use Rattle.sp_tree.specs.declared.checked.KindOf.TheVariants as kind
use Rattle.sp_tree.specs.Cells.{count, first_or, table}
use Rattle.sp_tree.specs.Items.{truth_text}
use Rattle.sp_journal.specs.Births.{Births, channel}
use Rattle.sp_journal.specs.Names.{chan_name}
use Rattle.sp_cell.specs.declared.cell.Cell.{Cell}
use Rattle.sp_cell.specs.declared.cell.Cell.TheVariants as cell

-- ---- one cell

-- as `'a'`, or `chr(10)`
abbrev pub char_text : ℤ → List ℕ
char_text n = if int_le (pos 32) n && int_le n (pos 126) then codes "'" ++ nat_abs n ∷ codes "'" else
    codes "chr(" ++ signed_decimal n ++ codes ")"

-- the name of the constant with this number, if there is one
abbrev pub constant_in : List (List ℕ) → ℤ → Option (List ℕ)
constant_in names n = if int_le (pos 0) n then slice_get names (nat_abs n) else None

-- the name of a constant; where there is none, as no run has it, its number
abbrev pub constant_text : List (List ℕ) → ℤ → List ℕ
constant_text names n = first_or (signed_decimal n) (constant_in names n)

-- a number by its type, whose constants have these names
abbrev pub ordinal_text : List (List ℕ) → Option KindOf → ℤ → List ℕ
ordinal_text names (Some kind.Boolean) n = truth_text n
ordinal_text names (Some kind.Char) n = char_text n
ordinal_text names (Some (kind.Enumeration m)) n = constant_text names n
ordinal_text _ _ n = signed_decimal n

-- a channel's name; where no entry has opened it, as no run has it, its number
abbrev pub cell_channel_text : Births → ℕ → List ℕ
cell_channel_text s c = if nat_lt c s.channels then channel_text (chan_name (channel s c)) else decimal c

-- ---- how a value is written

-- fixed bytes, or the place of a cell of the type with this number
pub data Piece : Type 0 where
  Fixed : (text : List ℕ) → Piece
  CellOf : (k : ℕ) → Piece

-- what stands before a part with this number
abbrev pub comma : ℕ → List ℕ
comma zero = []
comma (suc i) = codes ", "

-- parts, from number i on
abbrev pub parts_from : ℕ → List (List Piece) → List Piece
parts_from i [] = []
parts_from i (x ∷ xs) = Fixed (comma i) ∷ x ++ parts_from (i + 1) xs

-- a value of a type before this one, where the forms of these are known
abbrev pub form_in : List (List Piece) → ℕ → List Piece
form_in known k = first_or [] (slice_get known k)

-- as `x: ` and the value
abbrev pub field_in : List (List Piece) → List ℕ × ℕ → List Piece
field_in known f = Fixed f.0 ∷ Fixed (codes ": ") ∷ form_in known f.1

-- as `[1, 2, 3]`, `(x: 1, y: 2)`, or one cell
abbrev pub form_by : List (List Piece) → KindOf → List Piece
form_by known (kind.Array low high index element) = Fixed (codes "[")
    ∷ parts_from 0 (replicate (count low high) (form_in known element)) ++ Fixed (codes "]") ∷ []
form_by known (kind.Fields fs) = Fixed (codes "(")
    ∷ parts_from 0 (map (field_in known) fs) ++ Fixed (codes ")") ∷ []
form_by known _ = CellOf (length known) ∷ []

-- a value of this type
abbrev pub form : List KindOf → ℕ → List Piece
form kinds k = form_in (table form_by [] kinds) k

-- ---- values

-- at most so many bytes, and what is longer with `..` behind
abbrev pub cut : ℕ → List ℕ → List ℕ
cut n t = if nat_le (length t) n then t else take n t ++ codes ".."

-- the names of the constants of a type
abbrev pub names_of : List (List (List ℕ)) → ℕ → List (List ℕ)
names_of constants k = first_or [] (slice_get constants k)

module _ (kinds : List KindOf) (constants : List (List (List ℕ))) (s : Births) where
  -- a cell of this type
  abbrev pub cell_text : ℕ → Cell → List ℕ
  cell_text k cell.Undefined = codes "undefined"
  cell_text k (cell.Ordinal n) = ordinal_text (names_of constants k) (slice_get kinds k) n
  cell_text k (cell.Channel c) = cell_channel_text s c

  -- the pieces with these cells in their places
  abbrev pub filled : List Piece → List Cell → List ℕ
  filled [] cs = []
  filled (Fixed t ∷ ps) cs = t ++ filled ps cs
  filled (CellOf k ∷ ps) [] = filled ps []
  filled (CellOf k ∷ ps) (c ∷ cs) = cell_text k c ++ filled ps cs

  -- the value of type k that these cells are
  abbrev pub value_text : ℕ → List Cell → List ℕ
  value_text k cs = cut 120 (filled (form kinds k) cs)
