-- None of this belongs to what the program promises: it is for contracts between crates.
-- Values of the meaning as texts, by their types, and the lines of variables with them. The law of this crate says that
-- `where` writes these, whose texts it makes of cells.
use Rattle.std.specs.Prelude.{◌≡◌, ◌⊎◌, ℕ, ◌+◌, List, [], ◌∷◌, ◌++◌, slice_get, length, codes, Bool, true, false}
use Rattle.sp_base.specs.Names.{channel_text}
use Rattle.sp_tree.specs.declared.checked.KindOf.{KindOf}
use Rattle.sp_tree.specs.declared.checked.KindOf.TheVariants as kind
use Rattle.sp_tree.specs.declared.checked.Variable.{Variable}
use Rattle.sp_tree.specs.Cells.{first_or, table}
use Rattle.sp_journal.specs.Names.{chan_name}
use Rattle.sp_meaning.specs.Values.{Value, Undefined, Ordinal, Chan, Parts, Values, End, Then}
use Rattle.sp_where.specs.StateVariables.{Known}
use Rattle.sp_where.specs.Values.{comma, cut, names_of, ordinal_text}

-- the parts of an array or record
abbrev pub parts_of : Value → Values
parts_of Undefined = End
parts_of (Ordinal n) = End
parts_of (Chan c) = End
parts_of (Parts vs) = vs

-- for a type that is not there
abbrev pub no_text : Value → List ℕ
no_text v = []

-- the text of a value, by the number of its type, where those of the types before it are known
abbrev pub text_in : List (Value → List ℕ) → ℕ → Value → List ℕ
text_in known k = first_or no_text (slice_get known k)

-- elements, each by this text, from number i on
abbrev pub elements_text : ℕ → (Value → List ℕ) → Values → List ℕ
elements_text i one End = []
elements_text i one (Then v vs) = comma i ++ one v ++ elements_text (i + 1) one vs

-- fields, each with its name
abbrev pub fields_text : ℕ → List (Value → List ℕ) → List (List ℕ × ℕ) → Values → List ℕ
fields_text i known [] vs = []
fields_text i known (f ∷ fs) End = []
fields_text i known (f ∷ fs) (Then v vs) = comma i ++ f.0 ++ codes ": " ++ text_in known f.1 v
    ++ fields_text (i + 1) known fs vs

-- kinds: the types of the program; constants: the names of the constants of each enumeration
module _ (kinds : List KindOf) (constants : List (List (List ℕ))) where
  -- a value that is no array or record, of the type with this number
  abbrev pub scalar_text : ℕ → Value → List ℕ
  scalar_text k Undefined = codes "undefined"
  scalar_text k (Ordinal n) = ordinal_text (names_of constants k) (slice_get kinds k) n
  scalar_text k (Chan c) = channel_text (chan_name c)
  scalar_text k (Parts vs) = []

  -- as `[1, 2, 3]`, `(x: 1, y: 2)`, or one value
  abbrev pub text_by : List (Value → List ℕ) → KindOf → Value → List ℕ
  text_by known (kind.Array low high index element) v = codes "["
      ++ elements_text 0 (text_in known element) (parts_of v) ++ codes "]"
  text_by known (kind.Fields fs) v = codes "(" ++ fields_text 0 known fs (parts_of v) ++ codes ")"
  text_by known _ v = scalar_text (length known) v

  -- the text of a value of type k
  abbrev pub whole_text : ℕ → Value → List ℕ
  whole_text k v = text_in (table text_by [] kinds) k v

  -- and as much of it as is shown
  abbrev pub shown_text : ℕ → Value → List ℕ
  shown_text k v = cut 120 (whole_text k v)

-- the line of a variable that has this value
abbrev pub line_with : Known → Variable → Value → List ℕ
line_with w x v = codes "    " ++ x.name ++ codes " = " ++ shown_text w.tree.kinds w.constants x.kind v ++ codes "\n"

-- the line of a variable that a child has
abbrev pub line_away : Variable → List ℕ
line_away x = codes "    " ++ x.name ++ codes " away\n"

-- this line says that the variable has this value, or, of a process that joins children, that one of them has it
abbrev pub Says : Known → Variable → Value → (joins : Bool) → List ℕ → Type 0
Says w x v false t = t ≡ line_with w x v
Says w x v true t = (t ≡ line_with w x v) ⊎ (t ≡ line_away x)
