-- Some of this belongs to what the program promises (docs/promise.txt).
-- What a list of words asks for: the command with its FILE, options and defaults, or none. The contract of
-- `read_words` and the top call's causes cite `command_of`. It goes by the items of the words and not by the kit's
-- parser, so that one page says which words are refused.
use Rattle.std.specs.Prelude.{◌&&◌, ◌++◌, ◌^◌, ℕ, Bool, true, false, not, List, [], ◌∷◌, Option, Some, None, codes}
use Rattle.std.specs.Prelude.{find, if◌then◌else◌, option_and_then, option_map}
use Rattle.std.specs.List.{list_all}
use Rattle.std.specs.Option.{option_map_or}
use Rattle.std.specs.Str.{bytes_eq}
use Rattle.clap.specs.Words.{first_value, found_of}
use Rattle.clap.specs.declared.parser.matches.ArgMatches.{ArgMatches}
use Rattle.sp_base.specs.declared.limits.Limits.{Limits}
use Rattle.sp_words.specs.Dashes.{WordItem, Text, contains, file, given, items, journal}
use Rattle.sp_words.specs.Options.{Choice, number_or, option_names, options_of, show_or_end, size_named}
use Rattle.sp_words.specs.Ranges.{default_limits, default_workers}
use Rattle.sp_words.specs.declared.command.Command.{Command}
use Rattle.sp_words.specs.declared.command.Command.TheVariants as command
use Rattle.sp_words.specs.declared.command.CommandName.{CommandName}
use Rattle.sp_words.specs.declared.command.CommandName.TheVariants as name
use Rattle.sp_words.specs.declared.requests.Telling.{Telling}
use Rattle.sp_words.specs.declared.requests.Telling.TheVariants as told
use Rattle.sp_words.specs.declared.requests.View.{View}
use Rattle.sp_words.specs.declared.requests.View.TheVariants as view

-- what an item is about: FILE, which is the N of `gen`, JOURNAL, or an option
abbrev pub subject : WordItem → Text
subject (file word) = codes "FILE"
subject (journal word) = codes "JOURNAL"
subject (given name value) = name

-- the word of a FILE or a JOURNAL, or the value of an option
abbrev pub text_of : WordItem → Text
text_of (file word) = word
text_of (journal word) = word
text_of (given name value) = value

-- no subject comes twice, nor one that was seen before
abbrev pub each_once : List Text → List WordItem → Bool
each_once seen [] = true
each_once seen (i ∷ is) = not (contains seen (subject i)) && each_once (seen ++ subject i ∷ []) is

-- the option may have this value, and any word is a FILE or a JOURNAL
abbrev pub is_accepted : List Choice → WordItem → Bool
is_accepted options (file word) = true
is_accepted options (journal word) = true
is_accepted options (given name value) = option_map_or (λ o. o.1 value) (find (λ o. bytes_eq o.0 name) options) false

-- the text of a subject
abbrev pub lookup : List WordItem → Text → Option Text
lookup is name = option_map text_of (find (λ i. bytes_eq (subject i) name) is)

-- the text of a subject among what the parser found
abbrev pub values_given : ArgMatches → Text → Option Text
values_given matches name = first_value (found_of matches) name

-- no option is given
abbrev pub no_value : Text → Option Text
no_value name = None

-- each limit by its option, or its default
abbrev pub limits_from : (Text → Option Text) → Limits
limits_from value = record {
  ticks = number_or (2 ^ 64) default_limits.ticks (value (codes "ticks"));
  depth = number_or (2 ^ 32) default_limits.depth (value (codes "depth"));
  cells = number_or (2 ^ 32) default_limits.cells (value (codes "cells"));
  processes = number_or (2 ^ 32) default_limits.processes (value (codes "processes"));
  channels = number_or (2 ^ 32) default_limits.channels (value (codes "channels"));
  entries = number_or (2 ^ 32) default_limits.entries (value (codes "entries"));
  output = number_or (2 ^ 64) default_limits.output (value (codes "output"));
}

-- the number of workers by its option, or 4
abbrev pub workers_from : (Text → Option Text) → ℕ
workers_from value = number_or (2 ^ 32) default_workers (value (codes "workers"))

-- the command that runs a program with this told of it
abbrev pub run_from : (Text → Option Text) → Text → Telling → Command
run_from value word telling = command.Run
    (record { file = word; workers = workers_from value; limits = limits_from value; telling = telling })

-- the command that follows a JOURNAL, of which this is written
abbrev pub replay_from : (Text → Option Text) → Text → View → Option Command
replay_from value word written = option_map (λ text. command.Replay
    (record { file = word; journal = text; limits = limits_from value; view = written }))
    (value (codes "JOURNAL"))

-- the command with its FILE, or `gen` with a size that it may have, and what its JOURNAL and options were given
abbrev pub command_from : CommandName → (Text → Option Text) → Text → Option Command
command_from name.Check value word = Some (command.Check word)
command_from name.Run value word = Some (run_from value word (told.Reports (show_or_end (value (codes "show")))))
command_from name.Code value word = Some (command.Code word)
command_from name.Sets value word = Some (command.Sets word)
command_from name.Format value word = Some (command.Format word)
command_from name.Gen value word = option_map (λ size. command.Gen size (workers_from value)) (size_named word)
command_from name.Replay value word = replay_from value word view.Output
command_from name.Witness value word = Some (run_from value word told.Witness)
command_from name.Build value word = Some (command.Build word)
command_from name.Exec value word = Some
    (command.Exec (record { file = word; workers = workers_from value; limits = limits_from value }))
command_from name.Trace value word = replay_from value word view.Entries
command_from name.Where value word = replay_from value word view.State

-- the command by the texts of its subjects, where FILE is one of them
abbrev pub command_with : CommandName → (Text → Option Text) → Option Command
command_with command value = option_and_then (command_from command value) (value (codes "FILE"))

-- the first FILE of these is a JOURNAL
abbrev pub journal_first : List WordItem → List WordItem
journal_first [] = []
journal_first (file word ∷ is) = journal word ∷ is
journal_first (i ∷ is) = i ∷ journal_first is

-- the second FILE of these is a JOURNAL
abbrev pub journal_second : List WordItem → List WordItem
journal_second [] = []
journal_second (file word ∷ is) = file word ∷ journal_first is
journal_second (i ∷ is) = i ∷ journal_second is

-- only `replay`, `trace` and `where` have a JOURNAL
abbrev pub has_journal : CommandName → Bool
has_journal name.Replay = true
has_journal name.Trace = true
has_journal name.Where = true
has_journal _ = false

-- where there is a JOURNAL, it is the second of the words that are no options
abbrev pub with_journal : Bool → List WordItem → List WordItem
with_journal there is = if there then journal_second is else is

-- the items are a FILE, or the N of `gen`, perhaps a JOURNAL, and options with values that they may have, each at most
-- once
abbrev pub command_of_parts : CommandName → List WordItem → Option Command
command_of_parts command is =
    if each_once [] is && list_all (is_accepted (options_of command)) is then command_with command (lookup is)
    else None

-- the same of items where a JOURNAL is not yet told from a FILE
abbrev pub command_of_items : CommandName → List WordItem → Option Command
command_of_items command is = command_of_parts command (with_journal (has_journal command) is)

-- the commands by their names
abbrev pub command_names : List (Text × CommandName)
command_names = (codes "check", name.Check) ∷ (codes "run", name.Run) ∷ (codes "code", name.Code)
    ∷ (codes "sets", name.Sets) ∷ (codes "format", name.Format) ∷ (codes "gen", name.Gen)
    ∷ (codes "replay", name.Replay) ∷ (codes "witness", name.Witness)
    ∷ (codes "build", name.Build) ∷ (codes "exec", name.Exec)
    ∷ (codes "trace", name.Trace) ∷ (codes "where", name.Where) ∷ []

-- the command of a name
abbrev pub command_named : Text → Option CommandName
command_named word = option_map (λ p. p.1) (find (λ p. bytes_eq p.0 word) command_names)

-- the command with the words after it
abbrev pub command_read : List Text → CommandName → Option Command
command_read words command = option_and_then (command_of_items command) (items (option_names command) None words)

-- the first word is the command, and the others are read by its options
abbrev pub command_of : List Text → Option Command
command_of [] = None
command_of (word ∷ words) = option_and_then (command_read words) (command_named word)
