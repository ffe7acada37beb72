-- What a parse makes of the words of one command: the same as the items of the words.
use Rattle.std.proofs.Common.{◌≡◌, ◌&&◌, ◌||◌, ℕ, Bool, true, false, not, refl, sym, ap, ap₂, subst, ◌∙◌, List, [], ◌∷◌}
use Rattle.std.proofs.Common.{◌++◌, cond, is_some, map, Option, Some, None, true≢false}
use Rattle.std.specs.Str.{bytes_eq}
use Rattle.std.proofs.lemmas.Option.{none-some, same_Some}
use Rattle.sp_base.proofs.Facts.{and_with_false, and_with_true, first_true, or_with_false, or_with_true, second_true}
use Rattle.clap.specs.Walk.{Held, Row, Walk, arg_by_index, has_row, idle, is_pending, settled, settled_rows, used}
use Rattle.clap.specs.Walk.{value, walked, word_met}
use Rattle.clap.specs.Kinds.{Kinds, or_else}
use Rattle.clap.specs.Faults.{settle_fault, turn_fault, use_fault, walk_fault, word_fault}
use Rattle.clap.specs.declared.builder.value_parser.ValueParser.TheVariants as vp
use Rattle.sp_words.specs.Dashes.{WordItem, Text, after_dash, by_form, contains, file, first_item, form_of, given}
use Rattle.sp_words.specs.Dashes.{items, journal, name_of, value_of}
use Rattle.sp_words.specs.Words.{journal_first}
use Rattle.sp_words.specs.declared.form.Form.{Form}
use Rattle.sp_words.specs.declared.form.Form.TheVariants.{Plain, End, Whole, Open, Stray}
use Rattle.sp_words.proofs.WordForms.{IsLongWord, IsPlainWord, ReadsWord, dashes, plain_word_of, reads_by_form}
use Rattle.sp_words.proofs.Rules.{IsOption, Options, Parsers, built_file, built_journal, built_option, clear}
use Rattle.sp_words.proofs.Rules.{clear-or_else, fault_of_use, file_id, journal_id, level, no_option_at, option_of}
use Rattle.sp_words.proofs.Rules.{rows_of_use, rules}
use Rattle.sp_words.proofs.WalkStates.{or_else-nil, takes, row_for, ok, good, rows_after, pend, ok_pending, plus}
use Rattle.sp_words.proofs.WalkStates.{IsKnownItem, IsKnownPending, held_with, Met, nothing, one, both, place}
use Rattle.sp_words.proofs.WalkStates.{has_file, arranged, level_walk, wants, run_from, Level, or-assoc, and-assoc}
use Rattle.sp_words.proofs.WalkStates.{fresh}

-- ---- using what is pending

pub settle_is : (os : Parsers) (rows : List Row) (p : Option WordItem) → IsKnownPending os p
    → clear (settle_fault (rules os) false (held_with rows (pend p))) ≡ ok_pending os rows p
settle_is os rows None known = refl
settle_is os rows (Some (file word)) known = fault_of_use file_id None (Some 1) vp.String true word rows
settle_is os rows (Some (journal word)) known = rw known
    (fault_of_use journal_id None (Some 2) vp.String true word rows)
settle_is os rows (Some (given name v)) known =
    rw (known.by_id, known.found) (fault_of_use name (Some name) None known.parser false v rows)

pub settled_is : (os : Parsers) (rows : List Row) (p : Option WordItem) → IsKnownPending os p
    → ok_pending os rows p ≡ true
    → settled_rows (rules os) (pend p) rows ≡ plus os rows p
settled_is os rows None known e = refl
settled_is os rows (Some (file word)) known e = rows_of_use file_id None (Some 1) vp.String true word rows (fresh _ _ e)
settled_is os rows (Some (journal word)) known e = rw known
    (rows_of_use journal_id None (Some 2) vp.String true word rows (fresh _ _ e))
settled_is os rows (Some (given name v)) known e =
    rw (known.by_id, known.found) (rows_of_use name (Some name) None known.parser false v rows (fresh _ _ e))

-- ---- one word

split : (x y z : Kinds) → clear (or_else (or_else x y) z) ≡ (clear x && clear (or_else y z))
split [] y z = refl
split (k ∷ ks) y z = refl

abbrev rest_clear : Text → Parsers → Walk → List Text → Bool
rest_clear name os w words = clear
    (or_else (walk_fault (level name os) [] w words) (settle_fault (rules os) false (run_from os w words).held))

abbrev rest_rows : Parsers → Walk → List Text → List Row
rest_rows os w words = (settled (rules os) (run_from os w words).held).rows

-- a word with the faults t, after which the walk stands at w'
advance : (name : Text) (os : Parsers) (w w' : Walk) (word : Text) (words : List Text) (t b : Bool) (rows : List Row)
    → clear (turn_fault (level name os) [] w word) ≡ t → (t ≡ true → walked (rules os) [] w word ≡ w')
    → Level name os w' words b rows
    → Level name os w (word ∷ words) (t && b) rows
unfolding walk_fault
advance name os w w' word words true b rows turn steps rest = record {
  fault = split (turn_fault (level name os) [] w word) _ _
      ∙ ap₂ (λ x y. x && y) turn (ap (λ (v : Walk). rest_clear name os v words) (steps refl) ∙ rest.fault);
  rows_are = λ e. ap (λ (v : Walk). rest_rows os v words) (steps refl) ∙ rest.rows_are e;
}
advance name os w w' word words false b rows turn steps rest = record {
  fault = split (turn_fault (level name os) [] w word) _ _
      ∙ ap (λ x. x && rest_clear name os (walked (rules os) [] w word) words) turn;
  rows_are = λ e. absurd (true≢false (sym e));
}

refused_here : (name : Text) (os : Parsers) (w : Walk) (word : Text) (words : List Text) (rows : List Row)
    → clear (turn_fault (level name os) [] w word) ≡ false → Level name os w (word ∷ words) false rows
unfolding walk_fault
refused_here name os w word words rows turn = record {
  fault = split (turn_fault (level name os) [] w word) _ _
      ∙ ap (λ x. x && rest_clear name os (walked (rules os) [] w word) words) turn;
  rows_are = λ e. absurd (true≢false (sym e));
}

abbrev held_at : List Row → Option WordItem → Held
held_at rows p = held_with rows (pend p)

-- a word that goes to FILE
file_turn : (name : Text) (os : Parsers) (rows : List Row) (p : Option WordItem) (trailing : Bool) (word : Text)
    → word_fault (level name os) [] trailing idle word (held_at rows p) ≡ []
    → word_met (rules os) [] trailing idle 1 word (held_at rows p) ≡ (held_at rows p, value)
    → turn_fault (level name os) [] (level_walk rows p nothing trailing) word ≡ settle_fault (rules os) false
    (held_at rows p)
file_turn name os rows p trailing word e m = rw (e, m) (rw (and_with_false (is_pending built_file (pend p))) refl)

file_walk : (os : Parsers) (rows : List Row) (p : Option WordItem) (trailing : Bool) (word : Text)
    → word_met (rules os) [] trailing idle 1 word (held_at rows p) ≡ (held_at rows p, value)
    → walked (rules os) [] (level_walk rows p nothing trailing) word
    ≡ level_walk (settled_rows (rules os) (pend p) rows)
    (Some (file word)) one trailing
unfolding walked
file_walk os rows p trailing word m = rw m (rw (and_with_false (is_pending built_file (pend p)), or_with_false trailing)
    refl)

-- a word that goes to JOURNAL
journal_turn : (name : Text) (os : Options) (rows : List Row) (p : Option WordItem) (trailing : Bool) (word : Text)
    → word_fault (level name (true, os)) [] trailing idle word (held_at rows p) ≡ []
    → word_met (rules (true, os)) [] trailing idle 2 word (held_at rows p) ≡ (held_at rows p, value)
    → turn_fault (level name (true, os)) [] (level_walk rows p one trailing) word
    ≡ settle_fault (rules (true, os)) false
    (held_at rows p)
journal_turn name os rows p trailing word e m = rw (e, m) (rw (and_with_false (is_pending built_journal (pend p))) refl)

journal_walk : (os : Options) (rows : List Row) (p : Option WordItem) (trailing : Bool) (word : Text)
    → word_met (rules (true, os)) [] trailing idle 2 word (held_at rows p) ≡ (held_at rows p, value)
    → walked (rules (true, os)) [] (level_walk rows p one trailing) word
    ≡ level_walk (settled_rows (rules (true, os)) (pend p) rows)
    (Some (journal word)) both trailing
unfolding walked
journal_walk os rows p trailing word m = rw m
    (rw (and_with_false (is_pending built_journal (pend p)), or_with_false trailing) refl)

-- a word where no place is left
stray_turn : (name : Text) (os : Parsers) (rows : List Row) (p : Option WordItem) (met : Met) (trailing : Bool)
    (word : Text)
    → word_fault (level name os) [] trailing idle word (held_at rows p) ≡ []
    → word_met (rules os) [] trailing idle (place met) word (held_at rows p) ≡ (held_at rows p, value)
    → arg_by_index (rules os) (place met) ≡ None
    → clear (turn_fault (level name os) [] (level_walk rows p met trailing) word) ≡ false
stray_turn name os rows p met trailing word e m none = rw (e, m, none) refl

plain_fault : (name : Text) (os : Parsers) (h : Held) (word : Text) → IsPlainWord word
    → word_fault (level name os) [] false idle word h ≡ []
plain_fault name os h word plain = rw (plain.not_end, plain.no_long, plain.no_short) refl

plain_met : (os : Parsers) (k : ℕ) (h : Held) (word : Text) → IsPlainWord word
    → word_met (rules os) [] false idle k word h ≡ (h, value)
plain_met os k h word plain = rw (plain.not_end, plain.no_long, plain.no_short) refl

end_turn : (name : Text) (os : Parsers) (rows : List Row) (p : Option WordItem) (met : Met) (word : Text)
    → word ≡ dashes
    → turn_fault (level name os) [] (level_walk rows p met false) word ≡ []
end_turn name os rows p met word e = rw e refl

end_walk : (os : Parsers) (rows : List Row) (p : Option WordItem) (met : Met) (word : Text) → word ≡ dashes
    → walked (rules os) [] (level_walk rows p met false) word ≡ level_walk rows p met true
unfolding walked
end_walk os rows p met word e = rw e refl

-- `--name=value`
whole_turn : (name : Text) (os : Parsers) (ns : List Text) (rows : List Row) (p : Option WordItem) (met : Met)
    (word v : Text) (long : IsLongWord ns word (Some v)) (o : IsOption os (name_of word))
    → turn_fault (level name os) [] (level_walk rows p met false) word
    ≡ or_else (settle_fault (rules os) false (held_at rows p))
    (use_fault false (built_option (name_of word) o.parser) (v ∷ []) (settled_rows (rules os) (pend p) rows))
whole_turn name os ns rows p met word v long o = rw (long.not_end, long.long, o.by_long) (or_else-nil _)

whole_walk : (os : Parsers) (ns : List Text) (rows : List Row) (p : Option WordItem) (met : Met) (word v : Text)
    (long : IsLongWord ns word (Some v)) (o : IsOption os (name_of word))
    → walked (rules os) [] (level_walk rows p met false) word ≡ level_walk
    (used (built_option (name_of word) o.parser) (v ∷ []) (settled_rows (rules os) (pend p) rows)) None met false
unfolding walked
whole_walk os ns rows p met word v long o = rw (long.not_end, long.long, o.by_long) refl

-- `--name`
open_turn : (name : Text) (os : Parsers) (ns : List Text) (rows : List Row) (p : Option WordItem) (met : Met)
    (word : Text)
    (long : IsLongWord ns word None) (o : IsOption os (name_of word))
    → turn_fault (level name os) [] (level_walk rows p met false) word ≡ settle_fault (rules os) false (held_at rows p)
open_turn name os ns rows p met word long o = rw (long.not_end, long.long, o.by_long) (or_else-nil _)

open_walk : (os : Parsers) (ns : List Text) (rows : List Row) (p : Option WordItem) (met : Met) (word : Text)
    (long : IsLongWord ns word None) (o : IsOption os (name_of word))
    → walked (rules os) [] (level_walk rows p met false) word ≡ wants (settled_rows (rules os) (pend p) rows)
    (name_of word) met
unfolding walked
open_walk os ns rows p met word long o = rw (long.not_end, long.long, o.by_long) refl

-- the value after it
wanted_turn : (name : Text) (os : Parsers) (rows : List Row) (n : Text) (met : Met) (word : Text) → IsPlainWord word
    → turn_fault (level name os) [] (wants rows n met) word ≡ []
wanted_turn name os rows n met word plain = rw (plain.not_end, plain.no_long, plain.no_short) refl

wanted_walk : (os : Parsers) (rows : List Row) (n : Text) (met : Met) (word : Text) → IsPlainWord word → IsOption os n
    → walked (rules os) [] (wants rows n met) word ≡ level_walk rows (Some (given n word)) met false
unfolding walked
wanted_walk os rows n met word plain o = rw (plain.not_end, plain.no_long, plain.no_short, o.by_id) (rw o.itself refl)

-- ---- all the words

-- where the walk stands between two words: something may be pending, or an option waits for its value
pub data WalkStand : Type 0 where
  rests : Option WordItem → WalkStand
  waits : Text → WalkStand

abbrev pub walk_at : List Row → WalkStand → Met → Walk
walk_at rows (rests p) met = level_walk rows p met false
walk_at rows (waits n) met = wants rows n met

abbrev pub waiting_at : WalkStand → Option Text
waiting_at (rests p) = None
waiting_at (waits n) = Some n

abbrev pub ok_at : Parsers → List Row → WalkStand → Bool
ok_at os rows (rests p) = ok_pending os rows p
ok_at os rows (waits n) = true

abbrev pub rows_at : Parsers → List Row → WalkStand → List Row
rows_at os rows (rests p) = plus os rows p
rows_at os rows (waits n) = rows

abbrev pub IsKnownStand : Parsers → WalkStand → Type 0
IsKnownStand os (rests p) = IsKnownPending os p
IsKnownStand os (waits n) = IsOption os n

abbrev pub names : Parsers → List Text
names os = map (λ o. o.0) os.1

-- the words from a state on are as the items that they hold
abbrev pub Goal : Text → Parsers → List Row → Walk → Bool → List Row → List Text → List WordItem → Type 0
Goal name os rows w first now words is = Level name os w words (first && good os now is) (rows_after os now is)

pub has_row-more : (id : Text) (rows : List Row) (r : Row)
    → has_row id (rows ++ r ∷ []) ≡ (has_row id rows || bytes_eq r.id id)
has_row-more id [] r = or_with_false (bytes_eq r.id id)
has_row-more id (x ∷ rows) r = ap (λ b. bytes_eq x.id id || b) (has_row-more id rows r)
    ∙ sym (or-assoc (bytes_eq x.id id) (has_row id rows) (bytes_eq r.id id))

-- FILE is met by a FILE, and by nothing else
file_met : (rows : List Row) (r : Row) → bytes_eq r.id file_id ≡ true → true ≡ has_row file_id (rows ++ r ∷ [])
file_met rows r e = sym (has_row-more file_id rows r ∙ ap (λ b. has_row file_id rows || b) e
    ∙ or_with_true (has_row file_id rows))

file_kept : (rows : List Row) (r : Row) (met : Bool) → bytes_eq r.id file_id ≡ false → met ≡ has_row file_id rows
    → met ≡ has_row file_id (rows ++ r ∷ [])
file_kept rows r met e m = m
    ∙ sym (has_row-more file_id rows r ∙ ap (λ b. has_row file_id rows || b) e ∙ or_with_false (has_row file_id rows))

first_inv : (i : WordItem) (r : Option (List WordItem)) (is : List WordItem) → first_item i r ≡ Some is
    → (rest : List WordItem)
    × (r ≡ Some rest) × (i ∷ rest ≡ is)
first_inv i None is e = absurd (none-some is e)
first_inv i (Some rest) is e = (rest, refl, same_Some _ _ e)

-- a word that gives the item i, with the words after it
word_first : (name : Text) (os : Parsers) (rows : List Row) (p : Option WordItem) (met next : Met) (trailing : Bool)
    (word : Text) (words : List Text) (i : WordItem) (is : List WordItem)
    → IsKnownPending os p
    → turn_fault (level name os) [] (level_walk rows p met trailing) word ≡ settle_fault (rules os) false
    (held_at rows p)
    → walked (rules os) [] (level_walk rows p met trailing) word ≡ level_walk (settled_rows (rules os) (pend p) rows)
    (Some i) next trailing
    → Goal name os rows (level_walk (plus os rows p) (Some i) next trailing) (ok os (plus os rows p) i) (plus os rows p
    ++ row_for os i ∷ []) words is
    → Goal name os rows (level_walk rows p met trailing) (ok_pending os rows p) (plus os rows p) (word ∷ words) (i ∷ is)
word_first name os rows p met next trailing word words i is known turn walk rest =
    advance name os (level_walk rows p met trailing) (level_walk (plus os rows p) (Some i) next trailing) word words
    (ok_pending os rows p) _ _
    (ap clear turn ∙ settle_is os rows p known)
    (λ t. walk ∙ ap (λ (r : List Row). level_walk r (Some i) next trailing) (settled_is os rows p known t))
    rest

-- a word too many, which is a second FILE
word_again : (name : Text) (os : Parsers) (rows : List Row) (p : Option WordItem) (met : Met) (trailing : Bool)
    (word : Text) (words : List Text) (is : List WordItem)
    → true ≡ has_row file_id (plus os rows p)
    → clear (turn_fault (level name os) [] (level_walk rows p met trailing) word) ≡ false
    → Goal name os rows (level_walk rows p met trailing) (ok_pending os rows p) (plus os rows p) (word ∷ words)
    (file word ∷ is)
word_again name os rows p met trailing word words is there turn =
    subst (λ (b : Bool). Level name os (level_walk rows p met trailing) (word ∷ words) b
    (rows_after os (plus os rows p) (file word ∷ is)))
    (sym (ap (λ (h : Bool). ok_pending os rows p
    && ((not h && true) && good os (plus os rows p ++ row_for os (file word) ∷ []) is)) (sym there)
    ∙ and_with_false (ok_pending os rows p)))
    (refused_here name os (level_walk rows p met trailing) word words _ turn)

-- the walk goes on from each item that a word may give
abbrev WalkGoesOn : Text → Parsers → List Row → Option WordItem → Bool → List Text → List WordItem → Type 0
WalkGoesOn name os rows p trailing words is = (i : WordItem) (next : Met) → IsKnownItem os i
    → has_file next ≡ has_row file_id (plus os rows p ++ row_for os i ∷ [])
    → Goal name os rows (level_walk (plus os rows p) (Some i) next trailing) (ok os (plus os rows p) i) (plus os rows p
    ++ row_for os i ∷ []) words (arranged os.0 next is)

-- a word that is no option
word_step : (name : Text) (os : Parsers) (rows : List Row) (p : Option WordItem) (met : Met) (trailing : Bool)
    (word : Text)
    (words : List Text) (is : List WordItem)
    → IsKnownPending os p → has_file met ≡ has_row file_id (plus os rows p)
    → word_fault (level name os) [] trailing idle word (held_at rows p) ≡ []
    → ((k : ℕ) → word_met (rules os) [] trailing idle k word (held_at rows p) ≡ (held_at rows p, value))
    → WalkGoesOn name os rows p trailing words is
    → Goal name os rows (level_walk rows p met trailing) (ok_pending os rows p) (plus os rows p) (word ∷ words)
    (arranged os.0 met (file word ∷ is))
word_step name (true, os) rows p nothing trailing word words is known m e w next =
    word_first name (true, os) rows p nothing one trailing word words (file word) (journal_first is) known
    (file_turn name (true, os) rows p trailing word e (w 1)) (file_walk (true, os) rows p trailing word (w 1))
    (next (file word) one tt (file_met (plus (true, os) rows p) _ refl))
word_step name (true, os) rows p one trailing word words is known m e w next =
    word_first name (true, os) rows p one both trailing word words (journal word) is known
    (journal_turn name os rows p trailing word e (w 2)) (journal_walk os rows p trailing word (w 2))
    (next (journal word) both refl (file_kept (plus (true, os) rows p) (row_for (true, os) (journal word)) true refl m))
word_step name (true, os) rows p both trailing word words is known m e w next =
    word_again name (true, os) rows p both trailing word words is m
    (stray_turn name (true, os) rows p both trailing word e (w 3) (no_option_at os 3))
word_step name (false, os) rows p nothing trailing word words is known m e w next =
    word_first name (false, os) rows p nothing one trailing word words (file word) is known
    (file_turn name (false, os) rows p trailing word e (w 1)) (file_walk (false, os) rows p trailing word (w 1))
    (next (file word) one tt (file_met (plus (false, os) rows p) _ refl))
word_step name (false, os) rows p one trailing word words is known m e w next =
    word_again name (false, os) rows p one trailing word words is m
    (stray_turn name (false, os) rows p one trailing word e (w 2) (no_option_at os 2))
word_step name (false, os) rows p both trailing word words is known m e w next =
    word_again name (false, os) rows p both trailing word words is m
    (stray_turn name (false, os) rows p both trailing word e (w 3) (no_option_at os 3))

none_arranged : (there : Bool) (met : Met) → arranged there met [] ≡ []
none_arranged true nothing = refl
none_arranged true one = refl
none_arranged true both = refl
none_arranged false nothing = refl
none_arranged false one = refl
none_arranged false both = refl

given_arranged : (there : Bool) (met : Met) (n v : Text) (is : List WordItem)
    → given n v ∷ arranged there met is ≡ arranged there met (given n v ∷ is)
given_arranged true nothing n v is = refl
given_arranged true one n v is = refl
given_arranged true both n v is = refl
given_arranged false nothing n v is = refl
given_arranged false one n v is = refl
given_arranged false both n v is = refl

no_words : (name : Text) (os : Parsers) (rows : List Row) (p : Option WordItem) (met : Met) (trailing : Bool)
    → IsKnownPending os p
    → Goal name os rows (level_walk rows p met trailing) (ok_pending os rows p) (plus os rows p) []
    (arranged os.0 met [])
unfolding walk_fault
no_words name os rows p met trailing known = subst
    (Goal name os rows (level_walk rows p met trailing) (ok_pending os rows p) (plus os rows p) [])
    (sym (none_arranged os.0 met)) ends
  where
    ends : Goal name os rows (level_walk rows p met trailing) (ok_pending os rows p) (plus os rows p) [] []
    ends = record {
      fault = settle_is os rows p known ∙ sym (and_with_true (ok_pending os rows p));
      rows_are = λ e. settled_is os rows p known (first_true _ _ e);
    }

-- after `--` no word is an option
trailing_words : (name : Text) (os : Parsers) (words : List Text) (rows : List Row) (p : Option WordItem) (met : Met)
    → IsKnownPending os p → has_file met ≡ has_row file_id (plus os rows p)
    → Goal name os rows (level_walk rows p met true) (ok_pending os rows p) (plus os rows p) words
    (arranged os.0 met (map file words))
trailing_words name os [] rows p met known m = no_words name os rows p met true known
trailing_words name os (word ∷ words) rows p met known m =
    word_step name os rows p met true word words (map file words) known m refl (λ k. refl)
    (λ i next known_next there. trailing_words name os words (plus os rows p) (Some i) next known_next there)

-- the state after `--name=value`
whole_word : (name : Text) (os : Parsers) (ns : List Text) (rows : List Row) (p : Option WordItem) (met : Met)
    (word v : Text) (words : List Text) (is : List WordItem)
    → IsKnownPending os p → IsLongWord ns word (Some v) → (o : IsOption os (name_of word))
    → Goal name os (plus os rows p ++ row_for os (given (name_of word) v) ∷ [])
    (level_walk (plus os rows p ++ row_for os (given (name_of word) v) ∷ []) None met false)
    true (plus os rows p ++ row_for os (given (name_of word) v) ∷ []) words is
    → Goal name os rows (level_walk rows p met false) (ok_pending os rows p) (plus os rows p) (word ∷ words)
    (given (name_of word) v ∷ is)
whole_word name os ns rows p met word v words is known long o rest =
    subst (λ (b : Bool). Level name os (level_walk rows p met false) (word ∷ words) b
    (rows_after os (plus os rows p) (given (name_of word) v ∷ is)))
    (and-assoc (ok_pending os rows p) (ok os (plus os rows p) (given (name_of word) v)) (good os (plus os rows p
    ++ row_for os (given (name_of word) v) ∷ []) is))
    (advance name os (level_walk rows p met false) (level_walk (plus os rows p
    ++ row_for os (given (name_of word) v) ∷ []) None met false) word words
    (ok_pending os rows p && ok os (plus os rows p) (given (name_of word) v)) _ _
    (turn (ok_pending os rows p) refl) steps rest)
  where
    use_is : (r : List Row)
        → clear (use_fault false (built_option (name_of word) o.parser) (v ∷ []) r) ≡ ok os r (given (name_of word) v)
    use_is r = rw o.found (fault_of_use (name_of word) (Some (name_of word)) None o.parser false v r)

    turn : (t : Bool) → ok_pending os rows p ≡ t
        → clear (turn_fault (level name os) [] (level_walk rows p met false) word) ≡ (ok_pending os rows p
        && ok os (plus os rows p) (given (name_of word) v))
    turn true e =
        ap clear (whole_turn name os ns rows p met word v long o)
        ∙ clear-or_else (settle_fault (rules os) false (held_at rows p)) _
        ∙ ap₂ (λ x y. x && y) (settle_is os rows p known)
        (ap (λ (r : List Row). clear (use_fault false (built_option (name_of word) o.parser) (v ∷ []) r))
        (settled_is os rows p known e) ∙ use_is (plus os rows p))
    turn false e =
        ap clear (whole_turn name os ns rows p met word v long o)
        ∙ clear-or_else (settle_fault (rules os) false (held_at rows p)) _
        ∙ ap (λ x. x && clear (use_fault false (built_option (name_of word) o.parser) (v ∷ [])
        (settled_rows (rules os) (pend p) rows))) (settle_is os rows p known ∙ e)
        ∙ ap (λ x. x && ok os (plus os rows p) (given (name_of word) v)) (sym e)

    use_rows : (r : List Row) → has_row (name_of word) r ≡ false
        → used (built_option (name_of word) o.parser) (v ∷ []) r ≡ r ++ row_for os (given (name_of word) v) ∷ []
    use_rows r e = rw o.found (rows_of_use (name_of word) (Some (name_of word)) None o.parser false v r e)

    steps : (ok_pending os rows p && ok os (plus os rows p) (given (name_of word) v)) ≡ true
        → walked (rules os) [] (level_walk rows p met false) word ≡ level_walk (plus os rows p
        ++ row_for os (given (name_of word) v) ∷ []) None met false
    steps t =
        whole_walk os ns rows p met word v long o
        ∙ ap (λ (r : List Row). level_walk (used (built_option (name_of word) o.parser) (v ∷ []) r) None met false)
        (settled_is os rows p known (first_true (ok_pending os rows p)
        (ok os (plus os rows p) (given (name_of word) v)) t))
        ∙ ap (λ (r : List Row). level_walk r None met false)
        (use_rows (plus os rows p) (fresh (has_row (name_of word) (plus os rows p))
        (takes os.1 (given (name_of word) v))
        (second_true (ok_pending os rows p) (ok os (plus os rows p) (given (name_of word) v)) t)))

-- what the words after a state come to, at each state
abbrev pub Ahead : Text → Parsers → List Text → Type 0
Ahead name os words = (st : WalkStand) (rows : List Row) (met : Met) (is : List WordItem) → IsKnownStand os st
    → has_file met ≡ has_row file_id (rows_at os rows st)
    → items (names os) (waiting_at st) words ≡ Some is
    → Goal name os rows (walk_at rows st met) (ok_at os rows st) (rows_at os rows st) words (arranged os.0 met is)

-- a FILE or a JOURNAL before `--`
plain_step : (name : Text) (os : Parsers) (rows : List Row) (p : Option WordItem) (met : Met) (word : Text)
    (words : List Text) (is : List WordItem)
    → IsKnownPending os p → has_file met ≡ has_row file_id (plus os rows p) → IsPlainWord word
    → items (names os) None words ≡ Some is → Ahead name os words
    → Goal name os rows (level_walk rows p met false) (ok_pending os rows p) (plus os rows p) (word ∷ words)
    (arranged os.0 met (file word ∷ is))
plain_step name os rows p met word words is known m plain e ahead =
    word_step name os rows p met false word words is known m (plain_fault name os (held_at rows p) word plain)
    (λ k. plain_met os k (held_at rows p) word plain)
    (λ i next known_next there. ahead (rests (Some i)) (plus os rows p) next is known_next there e)

whole_step : (name : Text) (os : Parsers) (rows : List Row) (p : Option WordItem) (met : Met) (word : Text)
    (words : List Text) (is : List WordItem)
    → IsKnownPending os p → has_file met ≡ has_row file_id (plus os rows p)
    → IsLongWord (names os) word (Some (value_of word)) → IsOption os (name_of word)
    → items (names os) None words ≡ Some is → Ahead name os words
    → Goal name os rows (level_walk rows p met false) (ok_pending os rows p) (plus os rows p) (word ∷ words)
    (arranged os.0 met (given (name_of word) (value_of word) ∷ is))
whole_step name os rows p met word words is known m long o e ahead =
    subst (Goal name os rows (level_walk rows p met false) (ok_pending os rows p) (plus os rows p) (word ∷ words))
    (given_arranged os.0 met (name_of word) (value_of word) is)
    (whole_word name os (names os) rows p met word (value_of word) words (arranged os.0 met is) known long o
    (ahead (rests None) (plus os rows p ++ row_for os (given (name_of word) (value_of word)) ∷ []) met is tt
    (file_kept (plus os rows p) (row_for os (given (name_of word) (value_of word))) (has_file met) o.no_file m) e))

open_step : (name : Text) (os : Parsers) (rows : List Row) (p : Option WordItem) (met : Met) (word : Text)
    (words : List Text) (is : List WordItem)
    → IsKnownPending os p → has_file met ≡ has_row file_id (plus os rows p) → IsLongWord (names os) word None
    → IsOption os (name_of word)
    → items (names os) (Some (name_of word)) words ≡ Some is → Ahead name os words
    → Goal name os rows (level_walk rows p met false) (ok_pending os rows p) (plus os rows p) (word ∷ words)
    (arranged os.0 met is)
open_step name os rows p met word words is known m long o e ahead =
    advance name os (level_walk rows p met false) (wants (plus os rows p) (name_of word) met) word words
    (ok_pending os rows p) _ _
    (ap clear (open_turn name os (names os) rows p met word long o) ∙ settle_is os rows p known)
    (λ t. open_walk os (names os) rows p met word long o
    ∙ ap (λ (r : List Row). wants r (name_of word) met) (settled_is os rows p known t))
    (ahead (waits (name_of word)) (plus os rows p) met is o m e)

end_step : (name : Text) (os : Parsers) (rows : List Row) (p : Option WordItem) (met : Met) (word : Text)
    (words : List Text)
    → IsKnownPending os p → has_file met ≡ has_row file_id (plus os rows p) → word ≡ dashes
    → Goal name os rows (level_walk rows p met false) (ok_pending os rows p) (plus os rows p) (word ∷ words)
    (arranged os.0 met (map file words))
end_step name os rows p met word words known m e =
    advance name os (level_walk rows p met false) (level_walk rows p met true) word words true _ _
    (ap clear (end_turn name os rows p met word e)) (λ t. end_walk os rows p met word e)
    (trailing_words name os words rows p met known m)

-- no option has the name of FILE or of JOURNAL
abbrev pub IsFree : Parsers → Type 0
IsFree os = (contains (names os) file_id ≡ false) × (contains (names os) journal_id ≡ false)

-- one word where no option waits
rest_step : (name : Text) (os : Parsers) (free : IsFree os) (rows : List Row) (p : Option WordItem) (met : Met)
    (word : Text) (words : List Text) (is : List WordItem) (f : Form)
    → IsKnownPending os p → has_file met ≡ has_row file_id (plus os rows p) → ReadsWord (names os) word f
    → by_form f word words (λ waiting. items (names os) waiting words) ≡ Some is → Ahead name os words
    → Goal name os rows (level_walk rows p met false) (ok_pending os rows p) (plus os rows p) (word ∷ words)
    (arranged os.0 met is)
rest_step name os free rows p met word words is Plain known m plain e ahead =
    let inv = first_inv (file word) (items (names os) None words) is e in
    subst (λ (js : List WordItem). Goal name os rows (level_walk rows p met false) (ok_pending os rows p)
    (plus os rows p)
    (word ∷ words) (arranged os.0 met js)) inv.2
    (plain_step name os rows p met word words inv.0 known m plain inv.1 ahead)
rest_step name os free rows p met word words is End known m same e ahead =
    subst (λ (js : List WordItem). Goal name os rows (level_walk rows p met false) (ok_pending os rows p)
    (plus os rows p)
    (word ∷ words) (arranged os.0 met js)) (same_Some _ _ e)
    (end_step name os rows p met word words known m same)
rest_step name os free rows p met word words is Whole known m long e ahead =
    let inv = first_inv (given (name_of word) (value_of word)) (items (names os) None words) is e in
    subst (λ (js : List WordItem). Goal name os rows (level_walk rows p met false) (ok_pending os rows p)
    (plus os rows p)
    (word ∷ words) (arranged os.0 met js)) inv.2
    (whole_step name os rows p met word words inv.0 known m long
    (option_of os (name_of word) free.0 free.1 long.known) inv.1 ahead)
rest_step name os free rows p met word words is Open known m long e ahead =
    open_step name os rows p met word words is known m long
    (option_of os (name_of word) free.0 free.1 long.known) e ahead
rest_step name os free rows p met word words is Stray known m u e ahead = absurd (none-some is e)

-- the word after `--name`
wait_step : (name : Text) (os : Parsers) (rows : List Row) (n : Text) (met : Met) (word : Text) (words : List Text)
    (is : List WordItem) (dash : Option Text)
    → IsOption os n → has_file met ≡ has_row file_id rows → after_dash word ≡ dash
    → cond (is_some dash) None (first_item (given n word) (items (names os) None words)) ≡ Some is → Ahead name os words
    → Goal name os rows (wants rows n met) true rows (word ∷ words) (arranged os.0 met is)
wait_step name os rows n met word words is (Some tail) o m d e ahead = absurd (none-some is e)
wait_step name os rows n met word words is None o m d e ahead =
    let inv = first_inv (given n word) (items (names os) None words) is e in
    let plain = plain_word_of word d in
    subst (λ (js : List WordItem). Goal name os rows (wants rows n met) true rows (word ∷ words) js)
    (given_arranged os.0 met n word inv.0 ∙ ap (arranged os.0 met) inv.2)
    (advance name os (wants rows n met) (level_walk rows (Some (given n word)) met false) word words true _ _
    (ap clear (wanted_turn name os rows n met word plain)) (λ t. wanted_walk os rows n met word plain o)
    (ahead (rests (Some (given n word))) rows met inv.0 o
    (file_kept rows (row_for os (given n word)) (has_file met) o.no_file m) inv.1))

pub words_ahead : (name : Text) (os : Parsers) (free : IsFree os) (words : List Text) → Ahead name os words
words_ahead name os free [] (rests p) rows met is known m e =
    subst (λ (js : List WordItem). Goal name os rows (level_walk rows p met false) (ok_pending os rows p)
    (plus os rows p) []
    (arranged os.0 met js)) (same_Some _ _ e)
    (no_words name os rows p met false known)
words_ahead name os free [] (waits n) rows met is known m e = absurd (none-some is e)
words_ahead name os free (word ∷ words) (rests p) rows met is known m e =
    rest_step name os free rows p met word words is (form_of (names os) word) known m (reads_by_form (names os) word) e
    (words_ahead name os free words)
words_ahead name os free (word ∷ words) (waits n) rows met is known m e =
    wait_step name os rows n met word words is (after_dash word) known m refl e (words_ahead name os free words)
