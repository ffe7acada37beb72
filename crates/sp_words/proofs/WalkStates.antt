-- The items of the words of one command as uses, and the states of the walk over these words.
use Rattle.std.proofs.Common.{◌≡◌, ◌&&◌, ◌||◌, ℕ, Bool, true, false, not, refl, sym, cond, List, [], ◌∷◌, ◌++◌, Option}
use Rattle.std.proofs.Common.{Some, None, option_map, true≢false}
use Rattle.std.specs.List.{find, fold}
use Rattle.std.specs.Option.{option_map_or}
use Rattle.clap.specs.Walk.{Held, Row, Walk, has_row, idle, option, settled, walked}
use Rattle.clap.specs.ValueTests.{accepts}
use Rattle.clap.specs.Values.{reading_of}
use Rattle.clap.specs.Kinds.{Kinds, or_else}
use Rattle.clap.specs.Faults.{settle_fault, walk_fault}
use Rattle.clap.specs.declared.builder.value_parser.Reading.{Reading}
use Rattle.clap.specs.declared.builder.value_parser.Reading.TheVariants as reading
use Rattle.sp_words.specs.Dashes.{WordItem, Text, file, given, journal}
use Rattle.sp_words.specs.Words.{journal_first, subject, text_of, with_journal}
use Rattle.sp_words.proofs.Rules.{IsOption, Options, Parsers, clear, level, named, new_row, rules}

pub or_else-nil : (a : Kinds) → or_else a [] ≡ a
or_else-nil [] = refl
or_else-nil (k ∷ ks) = refl

-- ---- items as uses

-- the parser of an option takes its value
abbrev pub takes : Options → WordItem → Bool
takes os (file word) = true
takes os (journal word) = true
takes os (given name v) = option_map_or (λ p. accepts false p v) (option_map (λ o. o.1) (find (named name) os)) false

abbrev pub reading_for : Options → WordItem → Reading
reading_for os (file word) = reading.AsWritten
reading_for os (journal word) = reading.AsWritten
reading_for os (given name v) = option_map_or reading_of
    (option_map (λ o. o.1) (find (named name) os)) reading.AsWritten

abbrev pub row_for : Parsers → WordItem → Row
row_for os i = new_row (subject i) (reading_for os.1 i) (text_of i)

-- the item is new, and has a value that it may have
abbrev pub ok : Parsers → List Row → WordItem → Bool
ok os rows i = not (has_row (subject i) rows) && takes os.1 i

abbrev pub good : Parsers → List Row → List WordItem → Bool
good os rows [] = true
good os rows (i ∷ is) = ok os rows i && good os (rows ++ row_for os i ∷ []) is

abbrev pub rows_after : Parsers → List Row → List WordItem → List Row
rows_after os rows [] = rows
rows_after os rows (i ∷ is) = rows_after os (rows ++ row_for os i ∷ []) is

-- the item that a walk has not yet used
abbrev pub pend : Option WordItem → Option (Text × List Text)
pend p = option_map (λ i. (subject i, text_of i ∷ [])) p

abbrev pub ok_pending : Parsers → List Row → Option WordItem → Bool
ok_pending os rows None = true
ok_pending os rows (Some i) = ok os rows i

abbrev pub plus : Parsers → List Row → Option WordItem → List Row
plus os rows None = rows
plus os rows (Some i) = rows ++ row_for os i ∷ []

abbrev pub IsKnownItem : Parsers → WordItem → Type 0
IsKnownItem os (file word) = Unit {0}
IsKnownItem os (journal word) = os.0 ≡ true
IsKnownItem os (given name v) = IsOption os name

abbrev pub IsKnownPending : Parsers → Option WordItem → Type 0
IsKnownPending os None = Unit {0}
IsKnownPending os (Some i) = IsKnownItem os i

-- ---- states of the walk

abbrev pub held_with : List Row → Option (Text × List Text) → Held
held_with rows p = record { rows = rows; pending = p; skip = 0 }

-- the words that are no options and were met: none, a FILE, or a JOURNAL too
pub data Met : Type 0 where
  nothing : Met
  one : Met
  both : Met

abbrev pub place : Met → ℕ
place nothing = 1
place one = 2
place both = 3

abbrev pub has_file : Met → Bool
has_file nothing = false
has_file one = true
has_file both = true

-- the items from there on, where a JOURNAL is told from a FILE
abbrev pub arranged : Bool → Met → List WordItem → List WordItem
arranged there nothing is = with_journal there is
arranged there one is = cond there (journal_first is) is
arranged there both is = is

abbrev pub level_walk : List Row → Option WordItem → Met → Bool → Walk
level_walk rows p met trailing = record {
  held = held_with rows (pend p);
  waiting = idle;
  position = place met;
  is_trailing = trailing;
  stopped = None;
}

abbrev pub wants : List Row → Text → Met → Walk
wants rows name met = record {
  held = held_with rows (Some (name, []));
  waiting = option name;
  position = place met;
  is_trailing = false;
  stopped = None;
}

abbrev pub run_from : Parsers → Walk → List Text → Walk
run_from os w words = fold (walked (rules os) []) w words

-- the words from the state on have no fault exactly where b holds, and then these rows are found
pub record Level (name : Text) (os : Parsers) (w : Walk) (words : List Text) (b : Bool) (rows : List Row) : Type 0 where
  pub fault : clear (or_else (walk_fault (level name os) [] w words)
      (settle_fault (rules os) false (run_from os w words).held)) ≡ b
  pub rows_are : b ≡ true → (settled (rules os) (run_from os w words).held).rows ≡ rows

-- ---- booleans

pub or-assoc : (a b c : Bool) → ((a || b) || c) ≡ (a || (b || c))
or-assoc true b c = refl
or-assoc false b c = refl

pub and-assoc : (a b c : Bool) → ((a && b) && c) ≡ (a && (b && c))
and-assoc true b c = refl
and-assoc false b c = refl

pub fresh : (h b : Bool) → (not h && b) ≡ true → h ≡ false
fresh true b e = absurd (true≢false (sym e))
fresh false b e = refl
