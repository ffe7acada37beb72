-- The options of every command that words ask for are in their ranges.
use Rattle.std.proofs.Common.{arith, ◌≡◌, ◌&&◌, ◌^◌, ℕ, Bool, cond, true, false, refl, sym, ap, ◌∙◌, List, [], ◌∷◌}
use Rattle.std.proofs.Common.{Option, Some, None, option_map, true≢false}
use Rattle.std.proofs.lemmas.Bool.{and_parts, leb-true}
use Rattle.std.proofs.lemmas.Slice.Eq.{bytes_eq-Decides}
use Rattle.std.specs.List.{find, list_all}
use Rattle.std.specs.Option.{option_map_or}
use Rattle.std.specs.Prelude.{codes, nat_le, nat_lt, option_and_then, unwrap_or}
use Rattle.std.specs.Str.{bytes_eq}
use Rattle.std.specs.Str.Parse.{digits_value, without_leading_plus}
use Rattle.std.proofs.lemmas.Option.{none-some, same_Some}
use Rattle.sp_words.specs.Dashes.{WordItem, Text, file, given, items, journal}
use Rattle.sp_words.specs.Options.{Choice, gen_options, is_number_in, is_numeral, limit_options, number_below}
use Rattle.sp_words.specs.Options.{number_or, option_names, options_of, run_options, show_or_end, size_named}
use Rattle.sp_words.specs.Options.{worker_options}
use Rattle.sp_words.specs.Ranges.{AreInRange, IsInRange, IsUpTo}
use Rattle.sp_words.specs.Words.{command_from, command_named, command_of, command_of_items, command_read, command_with}
use Rattle.sp_words.specs.Words.{each_once, has_journal, is_accepted, limits_from, lookup, run_from, subject, text_of}
use Rattle.sp_words.specs.Words.{with_journal, workers_from}
use Rattle.sp_words.specs.declared.command.Command.{Command}
use Rattle.sp_words.specs.declared.command.Command.TheVariants as command
use Rattle.sp_words.specs.declared.command.CommandName.{CommandName}
use Rattle.sp_words.specs.declared.command.CommandName.TheVariants as name
use Rattle.sp_words.specs.declared.requests.Telling.TheVariants as told
use Rattle.sp_words.specs.declared.requests.View.{View}
use Rattle.sp_words.specs.declared.requests.View.TheVariants as view
use Rattle.sp_words.proofs.Readings.{HoldsOfEach}

-- ---- a number that was given is in its range, and else the default stands

number_fits : (greatest default n : ℕ) (a b c : Bool) → IsUpTo greatest default
    → option_map_or (λ n. nat_le 1 n && nat_le n greatest) (cond (a && b) (Some n) None) false ≡ true
    → IsUpTo greatest (unwrap_or (cond (a && c) (Some n) None) default)
number_fits greatest default n true true true d e =
    let parts = and_parts (nat_le 1 n) (nat_le n greatest) e in
    (leb-true 1 n parts.0, leb-true n greatest parts.1)
number_fits greatest default n true true false d e = d
number_fits greatest default n true false c d e = absurd (true≢false (sym e))
number_fits greatest default n false b c d e = d

-- what an option was given is among its values
abbrev pub ValueFits : (Text → Bool) → Option Text → Type 0
ValueFits test None = Unit {0}
ValueFits test (Some text) = test text ≡ true

pub number_in_range : (bound greatest default : ℕ) (value : Option Text) → IsUpTo greatest default
    → ValueFits (is_number_in 1 greatest) value
    → IsUpTo greatest (number_or bound default value)
number_in_range bound greatest default None d fits = d
number_in_range bound greatest default (Some text) d fits =
    let digits = without_leading_plus text in
    number_fits greatest default (digits_value 10 digits) (is_numeral digits) (nat_lt (digits_value 10 digits) (2 ^ 64))
    (nat_lt (digits_value 10 digits) bound) d fits

-- ---- what is found among accepted items is a value of its option

abbrev of_choice : Text → Option Choice → Bool
of_choice value found = option_map_or (λ o. o.1 value) found false

-- no word that is no option has this name
abbrev IsApart : Text → Type 0
IsApart name = (bytes_eq (codes "FILE") name ≡ false) × (bytes_eq (codes "JOURNAL") name ≡ false)

item_fits : (options : List Choice) (name : Text) (choice : Choice) (i : WordItem) → IsApart name
    → find (λ o. bytes_eq o.0 name) options ≡ Some choice
    → is_accepted options i ≡ true → bytes_eq (subject i) name ≡ true → choice.1 (text_of i) ≡ true
item_fits options name choice (file word) apart found e same = absurd (true≢false (sym same ∙ apart.0))
item_fits options name choice (journal word) apart found e same = absurd (true≢false (sym same ∙ apart.1))
item_fits options name choice (given n value) apart found e same =
    let here : n ≡ name = (bytes_eq-Decides n name).0 same in
    sym (ap (of_choice value) found)
    ∙ ap (λ (m : Text). of_choice value (find (λ o. bytes_eq o.0 m) options)) (sym here) ∙ e

found_fits : (options : List Choice) (name : Text) (choice : Choice) (is : List WordItem) → IsApart name
    → find (λ o. bytes_eq o.0 name) options ≡ Some choice
    → list_all (is_accepted options) is ≡ true → ValueFits choice.1 (lookup is name)
found_fits options name choice [] apart found e = tt
found_fits options name choice (i ∷ is) apart found e =
    let parts = and_parts (is_accepted options i) (list_all (is_accepted options) is) e in
    go (bytes_eq (subject i) name) refl parts.0 (found_fits options name choice is apart found parts.1)
  where
    go : (b : Bool) → bytes_eq (subject i) name ≡ b → is_accepted options i ≡ true → ValueFits choice.1 (lookup is name)
        → ValueFits choice.1 (option_map text_of (cond b (Some i) (find (λ j. bytes_eq (subject j) name) is)))
    go true same accepted rest = item_fits options name choice i apart found accepted same
    go false same accepted rest = rest

-- ---- the options of the limits, with one worker or more

-- the option is found by its name
abbrev IsFoundIn : List Choice → Choice → Type 0
IsFoundIn options choice = IsApart choice.0 × (find (λ o. bytes_eq o.0 choice.0) options ≡ Some choice)

limit_in_range : (options : List Choice) (is : List WordItem) (name : Text) (bound greatest default : ℕ)
    → list_all (is_accepted options) is ≡ true
    → IsFoundIn options (name, is_number_in 1 greatest) → IsUpTo greatest default
    → IsUpTo greatest (number_or bound default (lookup is name))
limit_in_range options is name bound greatest default e f d = number_in_range bound greatest default (lookup is name) d
    (found_fits options name (name, is_number_in 1 greatest) is f.0 f.1 e)

limits_in_range : (options : List Choice) (is : List WordItem) (workers : ℕ) → list_all (is_accepted options) is ≡ true
    → HoldsOfEach (IsFoundIn options) limit_options → IsUpTo 64 workers
    → IsInRange workers (limits_from (lookup is))
limits_in_range options is workers e limits w =
    let (ticks, (depth, (cells, (processes, (channels, (entries, (output, _))))))) = limits in record {
      workers = w;
      ticks = limit_in_range options is (codes "ticks") (2 ^ 64) 1000000000 10000000 e ticks (omega arith, omega arith);
      depth = limit_in_range options is (codes "depth") (2 ^ 32) 10000 1000 e depth (omega arith, omega arith);
      cells = limit_in_range options is (codes "cells") (2 ^ 32) 67108864 4194304 e cells (omega arith, omega arith);
      processes = limit_in_range options is (codes "processes") (2 ^ 32) 1000000 100000 e processes
          (omega arith, omega arith);
      channels = limit_in_range options is (codes "channels") (2 ^ 32) 1000000 100000 e channels
          (omega arith, omega arith);
      entries = limit_in_range options is (codes "entries") (2 ^ 32) 10000000 1000000 e entries
          (omega arith, omega arith);
      output = limit_in_range options is (codes "output") (2 ^ 64) 268435456 16777216 e output
          (omega arith, omega arith);
    }

limits_of_run : HoldsOfEach (IsFoundIn run_options) limit_options
limits_of_run = (
  ((refl, refl), refl),
  (
    ((refl, refl), refl),
    (
      ((refl, refl), refl),
      (((refl, refl), refl), (((refl, refl), refl), (((refl, refl), refl), (((refl, refl), refl), tt)))),
    ),
  ),
)

limits_of_following : HoldsOfEach (IsFoundIn limit_options) limit_options
limits_of_following = (
  ((refl, refl), refl),
  (
    ((refl, refl), refl),
    (
      ((refl, refl), refl),
      (((refl, refl), refl), (((refl, refl), refl), (((refl, refl), refl), (((refl, refl), refl), tt)))),
    ),
  ),
)

limits_of_workers : HoldsOfEach (IsFoundIn worker_options) limit_options
limits_of_workers = (
  ((refl, refl), refl),
  (
    ((refl, refl), refl),
    (
      ((refl, refl), refl),
      (((refl, refl), refl), (((refl, refl), refl), (((refl, refl), refl), (((refl, refl), refl), tt)))),
    ),
  ),
)

workers_in_range : (options : List Choice) (is : List WordItem) → list_all (is_accepted options) is ≡ true
    → IsFoundIn options (codes "workers", is_number_in 1 64)
    → IsUpTo 64 (workers_from (lookup is))
workers_in_range options is e f = limit_in_range options is (codes "workers") (2 ^ 32) 64 4 e f
    (omega arith, omega arith)

-- ---- the options of `witness` and `exec`

worker_in_range : (is : List WordItem) → list_all (is_accepted worker_options) is ≡ true
    → IsInRange (workers_from (lookup is)) (limits_from (lookup is))
worker_in_range is accepted =
    limits_in_range worker_options is (workers_from (lookup is)) accepted limits_of_workers
    (workers_in_range worker_options is accepted ((refl, refl), refl))

-- ---- the size of `gen`

size_tested : (m n : ℕ) (g : Bool) → (nat_le 1 m && nat_le m 2000) ≡ g → cond g (Some m) None ≡ Some n → IsUpTo 2000 n
size_tested m n true d e =
    let parts = and_parts (nat_le 1 m) (nat_le m 2000) d in
    rw (sym (same_Some m n e)) (leb-true 1 m parts.0, leb-true m 2000 parts.1)
size_tested m n false d e = absurd (none-some n e)

size_read : (read : Option ℕ) (n : ℕ)
    → option_and_then (λ m. cond (nat_le 1 m && nat_le m 2000) (Some m) None) read ≡ Some n → IsUpTo 2000 n
size_read None n e = absurd (none-some n e)
size_read (Some m) n e = size_tested m n _ refl e

size_in_range : (word : Text) (n : ℕ) → size_named word ≡ Some n → IsUpTo 2000 n
size_in_range word n e = size_read (number_below (2 ^ 64) word) n e

-- ---- the options of `gen`

gen_in_range : (is : List WordItem) (word : Text) (named : Option ℕ) (c : Command)
    → list_all (is_accepted gen_options) is ≡ true → size_named word ≡ named
    → option_map (λ size. command.Gen size (workers_from (lookup is))) named ≡ Some c → AreInRange c
gen_in_range is word None c accepted d e = absurd (none-some c e)
gen_in_range is word (Some size) c accepted d e =
    rw (sym (same_Some (command.Gen size (workers_from (lookup is))) c e))
    (size_in_range word size d, workers_in_range gen_options is accepted ((refl, refl), refl))

-- ---- the JOURNAL of a command that follows one

journal_in_range : (is : List WordItem) (word : Text) (written : View) (found : Option Text) (c : Command)
    → list_all (is_accepted limit_options) is ≡ true
    → option_map (λ text. command.Replay
    (record { file = word; journal = text; limits = limits_from (lookup is); view = written })) found ≡ Some c
    → AreInRange c
journal_in_range is word written None c accepted e = absurd (none-some c e)
journal_in_range is word written (Some text) c accepted e =
    rw (sym (same_Some (command.Replay
    (record { file = word; journal = text; limits = limits_from (lookup is); view = written })) c e))
    (limits_in_range limit_options is 1 accepted limits_of_following (omega arith, omega arith))

-- ---- the words

word_in_range : (called : CommandName) (is : List WordItem) (word : Text) (c : Command)
    → list_all (is_accepted (options_of called)) is ≡ true
    → command_from called (lookup is) word ≡ Some c → AreInRange c
word_in_range name.Check is word c accepted e = rw (sym (same_Some (command.Check word) c e)) tt
word_in_range name.Run is word c accepted e =
    rw (sym (same_Some (run_from (lookup is) word (told.Reports (show_or_end (lookup is (codes "show"))))) c e))
    (limits_in_range run_options is (workers_from (lookup is)) accepted limits_of_run
    (workers_in_range run_options is accepted ((refl, refl), refl)))
word_in_range name.Code is word c accepted e = rw (sym (same_Some (command.Code word) c e)) tt
word_in_range name.Sets is word c accepted e = rw (sym (same_Some (command.Sets word) c e)) tt
word_in_range name.Format is word c accepted e = rw (sym (same_Some (command.Format word) c e)) tt
word_in_range name.Build is word c accepted e = rw (sym (same_Some (command.Build word) c e)) tt
word_in_range name.Gen is word c accepted e = gen_in_range is word (size_named word) c accepted refl e
word_in_range name.Replay is word c accepted e =
    journal_in_range is word view.Output (lookup is (codes "JOURNAL")) c accepted e
word_in_range name.Witness is word c accepted e =
    rw (sym (same_Some (run_from (lookup is) word told.Witness) c e))
    (worker_in_range is accepted)
word_in_range name.Exec is word c accepted e =
    rw (sym (same_Some (command.Exec
    (record { file = word; workers = workers_from (lookup is); limits = limits_from (lookup is) })) c e))
    (worker_in_range is accepted)
word_in_range name.Trace is word c accepted e =
    journal_in_range is word view.Entries (lookup is (codes "JOURNAL")) c accepted e
word_in_range name.Where is word c accepted e =
    journal_in_range is word view.State (lookup is (codes "JOURNAL")) c accepted e

found_in_range : (called : CommandName) (is : List WordItem) (found : Option Text) (c : Command)
    → list_all (is_accepted (options_of called)) is ≡ true
    → option_and_then (command_from called (lookup is)) found ≡ Some c → AreInRange c
found_in_range called is None c accepted e = absurd (none-some c e)
found_in_range called is (Some word) c accepted e = word_in_range called is word c accepted e

items_in_range : (called : CommandName) (is : List WordItem) (g : Bool) (c : Command)
    → (each_once [] is && list_all (is_accepted (options_of called)) is) ≡ g
    → cond g (command_with called (lookup is)) None ≡ Some c → AreInRange c
items_in_range called is true c d e = found_in_range called is (lookup is (codes "FILE")) c
    (and_parts (each_once [] is) (list_all (is_accepted (options_of called)) is) d).1 e
items_in_range called is false c d e = absurd (none-some c e)

read_in_range : (called : CommandName) (read : Option (List WordItem)) (c : Command)
    → option_and_then (command_of_items called) read ≡ Some c → AreInRange c
read_in_range called None c e = absurd (none-some c e)
read_in_range called (Some is) c e = items_in_range called (with_journal (has_journal called) is) _ c refl e

named_in_range : (words : List Text) (found : Option CommandName) (c : Command)
    → option_and_then (command_read words) found ≡ Some c → AreInRange c
named_in_range words None c e = absurd (none-some c e)
named_in_range words (Some called) c e = read_in_range called (items (option_names called) None words) c e

-- the options of every command that words ask for are in their ranges
pub accepted_in_range : (words : List Text) (c : Command) → command_of words ≡ Some c → AreInRange c
accepted_in_range [] c e = absurd (none-some c e)
accepted_in_range (word ∷ words) c e = named_in_range words (command_named word) c e
