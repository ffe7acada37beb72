-- None of this belongs to what the program promises: it is for contracts between crates.
-- The parser of command lines as the kit's `clap` sees it: its rules, ranges and subcommands. The builders in `parser`
-- promise these shapes, and lemmas lead them to `command_of`, which is said without it.
use Rattle.std.specs.Prelude.{◌≡◌, ◌∷◌, ◌++◌, true, false, List, [], Result, IfOk, IsOkAnd, Some, codes, is_some, map}
use Rattle.clap.specs.Simple.{App, Shape, app_of, new_rule, new_shape, shape_of, with_subcommand}
use Rattle.clap.specs.Walk.{Rule}
use Rattle.clap.specs.ValueTests.{accepts}
use Rattle.clap.specs.declared.builder.action.ArgAction.TheVariants.{Set}
use Rattle.clap.specs.declared.builder.command.Command.{Command}
use Rattle.clap.specs.declared.builder.command.Command.TheViews.{out-Command}
use Rattle.clap.specs.declared.builder.value_parser.ValueParser.{ValueParser}
use Rattle.clap.specs.declared.builder.value_parser.ValueParser.TheVariants as vp
use Rattle.sp_words.specs.Dashes.{Text}
use Rattle.sp_words.specs.Options.{show_named}

-- a word that is no option, which has to be there
abbrev pub word_rule : Text → Rule
word_rule name = record (new_rule name) { required = true; action = Some Set }

-- FILE, or the N of `gen`
abbrev pub file_rule : Rule
file_rule = word_rule (codes "FILE")

-- JOURNAL, behind FILE
abbrev pub journal_rule : Rule
journal_rule = word_rule (codes "JOURNAL")

-- an option with the parser of its value
abbrev pub option_rule : Text × ValueParser → Rule
option_rule o = record (new_rule o.0) { long = Some o.0; action = Some Set; parser = Some o.1 }

-- the options of the limits with the parsers of their values
abbrev pub limit_parsers : List (Text × ValueParser)
limit_parsers = (codes "ticks", vp.Unsigned 1 1000000000)
    ∷ (codes "depth", vp.Unsigned 1 10000)
    ∷ (codes "cells", vp.Unsigned 1 67108864)
    ∷ (codes "processes", vp.Unsigned 1 1000000)
    ∷ (codes "channels", vp.Unsigned 1 1000000)
    ∷ (codes "entries", vp.Unsigned 1 10000000)
    ∷ (codes "output", vp.Unsigned 1 268435456) ∷ []

-- the options of `run`, where q is the parser of `--show`
abbrev pub run_parsers : ValueParser → List (Text × ValueParser)
run_parsers q = (codes "workers", vp.Unsigned 1 64) ∷ limit_parsers ++ (codes "show", q) ∷ []

-- the options of `gen`
abbrev pub gen_parsers : List (Text × ValueParser)
gen_parsers = (codes "workers", vp.Unsigned 1 64) ∷ []

-- the options of `witness` and `exec`
abbrev pub worker_parsers : List (Text × ValueParser)
worker_parsers = (codes "workers", vp.Unsigned 1 64) ∷ limit_parsers

-- the parser takes the names of the reports
abbrev pub IsShowParser : ValueParser → Type 0
IsShowParser q = (text : Text) → accepts false q text ≡ is_some (show_named text)

-- a command of this name with its FILE and these options
abbrev pub shape_with : Text → List (Text × ValueParser) → Shape
shape_with name options = record (new_shape name) { rules = file_rule ∷ map option_rule options }

-- a command of this name that follows a journal, with its FILE, its JOURNAL and the options of the limits
abbrev pub following_shape : Text → Shape
following_shape name = record (new_shape name) { rules = file_rule ∷ journal_rule ∷ map option_rule limit_parsers }

-- a command with its FILE alone
abbrev pub app_with_file : Text → App
app_with_file name = record { top = shape_with name []; subs = [] }

-- the whole command line without its commands
abbrev pub bare_line : App
bare_line = record {
  top = record (new_shape (codes "superpascal")) {
    no_binary_name = true;
    disable_help_flag = true;
    disable_help_subcommand = true;
    disable_version_flag = true;
    subcommand_required = true;
  };
  subs = [];
}

-- the whole command line
abbrev pub app_with : ValueParser → App
app_with q = record {
  top = record bare_line.top { is_leaf = false };
  subs = shape_with (codes "check") [] ∷ shape_with (codes "run") (run_parsers q)
      ∷ shape_with (codes "code") [] ∷ shape_with (codes "sets") [] ∷ shape_with (codes "format") []
      ∷ shape_with (codes "gen") gen_parsers ∷ following_shape (codes "replay")
      ∷ shape_with (codes "witness") worker_parsers ∷ shape_with (codes "build") []
      ∷ shape_with (codes "exec") worker_parsers ∷ following_shape (codes "trace")
      ∷ following_shape (codes "where") ∷ [];
}

-- no option of the command is one of its subcommands as well
abbrev pub IsLocal : Command → Type 0
IsLocal c = (out-Command c).has_globals ≡ false

-- where a command is made, one was given, and what was made is `f` of it
abbrev pub ChangesApp : {E : Type 0} → (App → App) → Result Command E → Result Command E → Type 0
ChangesApp f given made = IfOk made (λ c. IsOkAnd given (λ b. app_of c ≡ f (app_of b)))

-- where a line is made, a line and a command were given, and the line made has the command as well
abbrev pub AddsCommand : {E : Type 0} → Result Command E → Result Command E → Result Command E → Type 0
AddsCommand line command made = IfOk made (λ c. IsOkAnd command (λ sub. IsOkAnd line (λ b.
    IsLocal sub → app_of c ≡ with_subcommand (app_of b) (shape_of sub))))
