-- One command's level of the parse, from its words to the values that are found.
use Rattle.std.proofs.Common.{◌≡◌, ◌&&◌, ◌||◌, Bool, cond, true, false, not, refl, sym, ap, ap₂, ◌∙◌, List, [], ◌∷◌}
use Rattle.std.proofs.Common.{◌++◌, map, Option, Some, None, option_map, is_some, append_assoc, append-nil}
use Rattle.std.specs.List.{find, fold, list_any, list_all}
use Rattle.std.specs.Option.{option_map_or}
use Rattle.std.specs.Prelude.{option_and_then, slice_get}
use Rattle.std.specs.Str.{bytes_eq}
use Rattle.sp_base.proofs.Facts.{and_with_false, or_with_false, or_with_true}
use Rattle.clap.specs.Facts.{explicit_source}
use Rattle.clap.specs.Walk.{Row, finished, first_of, has_row, nothing_held, settled, walk, walk_from, with_default}
use Rattle.clap.specs.Walk.{rows_after as matched_rows}
use Rattle.clap.specs.Takes.{is_given}
use Rattle.clap.specs.Kinds.{Kinds, check_kinds, or_else}
use Rattle.clap.specs.Faults.{check_fault, default_fault, defaults_fault, level_fault, settle_fault, walk_fault}
use Rattle.clap.specs.ValueTests.{accepts}
use Rattle.clap.proofs.WalkLemmas.{find-map}
use Rattle.clap.specs.declared.builder.value_parser.ValueParser.{ValueParser}
use Rattle.sp_words.specs.Dashes.{WordItem, Text, contains, file, given, items, journal}
use Rattle.sp_words.specs.Options.{Choice}
use Rattle.sp_words.specs.Words.{each_once, is_accepted, lookup, subject, text_of, with_journal}
use Rattle.sp_words.proofs.Rules.{Options, Parsers, behind_file, built_file, built_journal, built_option, clear}
use Rattle.sp_words.proofs.Rules.{clear-or_else, file_id, journal_id, level, named, options, rules}
use Rattle.sp_words.proofs.WalkStates.{Level, good, nothing, or-assoc, row_for, rows_after, takes}
use Rattle.sp_words.proofs.Levels.{IsFree, has_row-more, names, rests, words_ahead}

-- ---- after the walk: no argument has a default, and only FILE and JOURNAL are required

either : {A : Type 0} (b : Bool) (x : A) → cond b x x ≡ x
either true x = refl
either false x = refl

no_options_defaults : (os : Options) (rows : List Row) → fold with_default rows (options os) ≡ rows
no_options_defaults [] rows = refl
no_options_defaults (o ∷ os) rows = ap (λ (r : List Row). fold with_default r (options os))
    (either (has_row o.0 rows) rows) ∙ no_options_defaults os rows

behind_defaults : (there : Bool) (os : Options) (rows : List Row)
    → fold with_default rows (behind_file there (options os)) ≡ rows
behind_defaults true os rows = ap (λ (r : List Row). fold with_default r (options os))
    (either (has_row journal_id rows) rows) ∙ no_options_defaults os rows
behind_defaults false os rows = no_options_defaults os rows

finished_is : (os : Parsers) (rows : List Row) → fold with_default rows (rules os) ≡ rows
finished_is os rows = ap (λ (r : List Row). fold with_default r (behind_file os.0 (options os.1)))
    (either (has_row file_id rows) rows) ∙ behind_defaults os.0 os.1 rows

default_none : (id : Text) (rows : List Row) (other : Kinds) → cond (has_row id rows || true) [] other ≡ []
default_none id rows other = rw (or_with_true (has_row id rows)) refl

no_option_fault : (os : Options) (rows : List Row) → clear (defaults_fault rows (options os)) ≡ true
unfolding defaults_fault
no_option_fault [] rows = refl
no_option_fault (o ∷ os) rows =
    clear-or_else (default_fault rows (built_option o.0 o.1)) _
    ∙ ap₂ (λ x y. x && y) (ap clear (default_none o.0 rows _))
    (ap (λ (r : List Row). clear (defaults_fault r (options os))) (either (has_row o.0 rows) rows)
    ∙ no_option_fault os rows)

no_behind_fault : (there : Bool) (os : Options) (rows : List Row)
    → clear (defaults_fault rows (behind_file there (options os))) ≡ true
unfolding defaults_fault
no_behind_fault true os rows =
    clear-or_else (default_fault rows built_journal) _
    ∙ ap₂ (λ x y. x && y) (ap clear (default_none journal_id rows _))
    (ap (λ (r : List Row). clear (defaults_fault r (options os))) (either (has_row journal_id rows) rows)
    ∙ no_option_fault os rows)
no_behind_fault false os rows = no_option_fault os rows

no_default_fault : (os : Parsers) (rows : List Row) → clear (defaults_fault rows (rules os)) ≡ true
unfolding defaults_fault
no_default_fault os rows =
    clear-or_else (default_fault rows built_file) _
    ∙ ap₂ (λ x y. x && y) (ap clear (default_none file_id rows _))
    (ap (λ (r : List Row). clear (defaults_fault r (behind_file os.0 (options os.1))))
    (either (has_row file_id rows) rows) ∙ no_behind_fault os.0 os.1 rows)

none_required : (os : Options) (rows : List Row)
    → list_any (λ a. a.required && not (is_given a.id rows)) (options os) ≡ false
none_required [] rows = refl
none_required (o ∷ os) rows = none_required os rows

-- FILE is given, and JOURNAL where there is one
abbrev all_given : Bool → List Row → Bool
all_given there rows = is_given file_id rows && cond there (is_given journal_id rows) true

check_is : (name : Text) (os : Parsers) (rows : List Row)
    → clear (check_fault (level name os) rows false) ≡ all_given os.0 rows
check_is name (true, os) rows = rw (none_required os rows) (go (is_given file_id rows) (is_given journal_id rows))
  where
    go : (b c : Bool) → clear (check_kinds false false (not b || (not c || false))) ≡ (b && c)
    go true true = refl
    go true false = refl
    go false c = refl
check_is name (false, os) rows = rw (none_required os rows) (go (is_given file_id rows))
  where
    go : (b : Bool) → clear (check_kinds false false (not b || false)) ≡ (b && true)
    go true = refl
    go false = refl

-- ---- the rows at the end

rows_after_is : (os : Parsers) (is : List WordItem) (rows : List Row) → rows_after os rows is ≡ rows
    ++ map (row_for os) is
rows_after_is os [] rows = sym (append-nil rows)
rows_after_is os (i ∷ is) rows = rows_after_is os is (rows ++ row_for os i ∷ [])
    ∙ append_assoc rows (row_for os i ∷ []) (map (row_for os) is)

found_row : (os : Parsers) (is : List WordItem) (id : Text)
    → find (λ r. bytes_eq r.id id) (rows_after os [] is) ≡ option_map (row_for os)
    (find (λ i. bytes_eq (subject i) id) is)
found_row os is id = ap (find (λ r. bytes_eq r.id id)) (rows_after_is os is [])
    ∙ sym (find-map (λ r. bytes_eq r.id id) (row_for os) is)

first_is : (os : Parsers) (is : List WordItem) (id : Text) → first_of id (rows_after os [] is) ≡ lookup is id
first_is os is id = ap (option_and_then (λ (r : Row). slice_get r.values 0)) (found_row os is id)
    ∙ go (find (λ i. bytes_eq (subject i) id) is)
  where
    go : (o : Option WordItem)
        → option_and_then (λ (r : Row). slice_get r.values 0) (option_map (row_for os) o) ≡ option_map text_of o
    go None = refl
    go (Some i) = refl

given_is : (os : Parsers) (is : List WordItem) (id : Text) → is_given id (rows_after os [] is) ≡ is_some (lookup is id)
given_is os is id = ap (λ (o : Option Row). option_map_or (λ r. explicit_source r.source) o false) (found_row os is id)
    ∙ go (find (λ i. bytes_eq (subject i) id) is)
  where
    go : (o : Option WordItem)
        → option_map_or (λ (r : Row). explicit_source r.source) (option_map (row_for os) o) false ≡ is_some
        (option_map text_of o)
    go None = refl
    go (Some i) = refl

-- ---- the level

assoc_clear : (w s d c : Kinds)
    → clear (or_else w (or_else s (or_else d c))) ≡ (clear (or_else w s) && (clear d && clear c))
assoc_clear [] [] d c = clear-or_else d c
assoc_clear [] (k ∷ ks) d c = refl
assoc_clear (k ∷ ks) s d c = refl

-- a FILE is among the items, and a JOURNAL where there is one
abbrev pub is_complete : Bool → List WordItem → Bool
is_complete there is = is_some (lookup is file_id) && cond there (is_some (lookup is journal_id)) true

-- the words of one command have no fault exactly where their items are good and complete, and then each value is found
pub record ReadsLevel (name : Text) (os : Parsers) (words : List Text) (is : List WordItem) : Type 0 where
  pub fault : clear (level_fault (level name os) [] nothing_held words false []) ≡ (good os [] is
      && is_complete os.0 is)
  pub found : good os [] is ≡ true → (id : Text) → first_of id (matched_rows (rules os) [] words) ≡ lookup is id

abbrev end_rows : Parsers → List Text → List Row
end_rows os words = (settled (rules os) (walk (rules os) [] nothing_held words).held).rows

check_end : (name : Text) (os : Parsers) (words : List Text)
    → clear (check_fault (level name os)
    (finished (rules os) (walk (rules os) [] nothing_held words).held) false) ≡ all_given os.0 (end_rows os words)
check_end name os words = check_is name os (finished (rules os) (walk (rules os) [] nothing_held words).held)
    ∙ ap (all_given os.0) (finished_is os (end_rows os words))

parts_of : (name : Text) (os : Parsers) (words : List Text) (is : List WordItem)
    → Level name os (walk_from nothing_held) words (good os [] is) (rows_after os [] is)
    → clear (level_fault (level name os) [] nothing_held words false []) ≡ (good os [] is
    && all_given os.0 (end_rows os words))
parts_of name os words is l =
    assoc_clear (walk_fault (level name os) [] (walk_from nothing_held) words)
    (settle_fault (rules os) false (walk (rules os) [] nothing_held words).held)
    (defaults_fault (end_rows os words) (rules os))
    (check_fault (level name os) (finished (rules os) (walk (rules os) [] nothing_held words).held) false)
    ∙ ap₂ (λ x y. x && y) l.fault (ap₂ (λ x y. x
    && y) (no_default_fault os (end_rows os words)) (check_end name os words))

total_of : (name : Text) (os : Parsers) (words : List Text) (is : List WordItem) (g : Bool) → good os [] is ≡ g
    → Level name os (walk_from nothing_held) words (good os [] is) (rows_after os [] is)
    → (good os [] is && all_given os.0 (end_rows os words)) ≡ (good os [] is && is_complete os.0 is)
total_of name os words is true e l = ap (λ b. good os [] is && b) (ap (all_given os.0) (l.rows_are e)
    ∙ ap₂ (λ x y. x && cond os.0 y true) (given_is os is file_id) (given_is os is journal_id))
total_of name os words is false e l = ap (λ b. b && all_given os.0 (end_rows os words)) e
    ∙ sym (ap (λ b. b && is_complete os.0 is) e)

pub level_reads : (name : Text) (os : Parsers) (words : List Text) (is : List WordItem) → IsFree os
    → items (names os) None words ≡ Some is
    → ReadsLevel name os words (with_journal os.0 is)
level_reads name os words is free e = reads (with_journal os.0 is)
    (words_ahead name os free words (rests None) [] nothing is tt refl e)
  where
    reads : (js : List WordItem) → Level name os (walk_from nothing_held) words (good os [] js) (rows_after os [] js)
        → ReadsLevel name os words js
    reads js l = record {
      fault = parts_of name os words js l ∙ total_of name os words js (good os [] js) refl l;
      found = λ g id. ap (first_of id) (finished_is os (end_rows os words) ∙ l.rows_are g) ∙ first_is os js id;
    }

-- ---- parsers and values

-- the parsers take the values that the options may have
abbrev pub ParsersMatch : Options → List Choice → Type 0
ParsersMatch [] [] = Unit {0}
ParsersMatch [] (c ∷ cs) = ⊥
ParsersMatch (o ∷ os) [] = ⊥
ParsersMatch (o ∷ os) (c ∷ cs) = (o.0 ≡ c.0) × ((text : Text) → accepts false o.1 text ≡ c.1 text) × ParsersMatch os cs

pub names_agree : (os : Options) (cs : List Choice) → ParsersMatch os cs → map (λ o. o.0) os ≡ map (λ c. c.0) cs
names_agree [] [] a = refl
names_agree [] (c ∷ cs) a = absurd a
names_agree (o ∷ os) [] a = absurd a
names_agree (o ∷ os) (c ∷ cs) a = ap₂ (λ x xs. x ∷ xs) a.0 (names_agree os cs a.2)

takes_agree : (os : Options) (cs : List Choice) (n v : Text) → ParsersMatch os cs
    → takes os (given n v) ≡ is_accepted cs (given n v)
takes_agree [] [] n v a = refl
takes_agree [] (c ∷ cs) n v a = absurd a
takes_agree (o ∷ os) [] n v a = absurd a
takes_agree (o ∷ os) (c ∷ cs) n v a = ap (λ (m : Text). takes ((m, o.1) ∷ os) (given n v)) a.0
    ∙ go (bytes_eq c.0 n) (takes_agree os cs n v a.2)
  where
    go : (b : Bool) → takes os (given n v) ≡ is_accepted cs (given n v)
        → option_map_or (λ p. accepts false p v) (option_map (λ (x : Text
        × ValueParser). x.1) (cond b (Some (c.0, o.1)) (find (named n) os))) false
        ≡ option_map_or (λ (x : Choice). x.1 v) (cond b (Some c) (find (λ x. bytes_eq x.0 n) cs)) false
    go true ih = a.1 v
    go false ih = ih

item_agrees : (os : Options) (cs : List Choice) (i : WordItem) → ParsersMatch os cs → takes os i ≡ is_accepted cs i
item_agrees os cs (file word) a = refl
item_agrees os cs (journal word) a = refl
item_agrees os cs (given n v) a = takes_agree os cs n v a

contains-more : (seen : List Text) (n m : Text) → contains (seen ++ n ∷ []) m ≡ (contains seen m || bytes_eq n m)
contains-more [] n m = or_with_false (bytes_eq n m)
contains-more (s ∷ seen) n m = ap (λ b. bytes_eq s m || b) (contains-more seen n m)
    ∙ sym (or-assoc (bytes_eq s m) (contains seen m) (bytes_eq n m))

exchange : (a b c d : Bool) → ((a && b) && (c && d)) ≡ ((a && c) && (b && d))
exchange false b c d = refl
exchange true true c d = refl
exchange true false c d = sym (and_with_false c)

-- what the walk takes is what the definition takes
pub good_agrees : (os : Parsers) (cs : List Choice) (is : List WordItem) (rows : List Row) (seen : List Text)
    → ParsersMatch os.1 cs → ((n : Text) → has_row n rows ≡ contains seen n)
    → good os rows is ≡ (each_once seen is && list_all (is_accepted cs) is)
good_agrees os cs [] rows seen a same = refl
good_agrees os cs (i ∷ is) rows seen a same =
    ap₂ (λ x y. x && y) (ap₂ (λ h t. not h && t) (same (subject i)) (item_agrees os.1 cs i a))
    (good_agrees os cs is (rows ++ row_for os i ∷ []) (seen ++ subject i ∷ []) a
    (λ n. has_row-more n rows (row_for os i) ∙ ap (λ b. b || bytes_eq (subject i) n) (same n)
    ∙ sym (contains-more seen (subject i) n)))
    ∙ exchange (not (contains seen (subject i))) (is_accepted cs i) (each_once (seen
    ++ subject i ∷ []) is) (list_all (is_accepted cs) is)
