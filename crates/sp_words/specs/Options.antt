-- All of this belongs to what the program promises (docs/promise.txt).
-- The options of the commands: their names, and which texts are values of theirs. `command_of` reads words by it, and
-- the contracts of `given` cite it. The ranges stand as tests on texts, since a value is judged before it is a number.
use Rattle.std.specs.Prelude.{◌&&◌, ◌++◌, ◌^◌, ℕ, Bool, false, List, [], ◌∷◌, Option, Some, None, codes, find}
use Rattle.std.specs.Prelude.{if◌then◌else◌, is_some, length, map, nat_le, nat_lt, option_and_then, option_map}
use Rattle.std.specs.Prelude.{unwrap_or}
use Rattle.std.specs.List.{list_all}
use Rattle.std.specs.Option.{option_map_or}
use Rattle.std.specs.Char.{digit_value}
use Rattle.std.specs.Str.{bytes_eq}
use Rattle.std.specs.Str.Parse.{digits_value, without_leading_plus}
use Rattle.sp_base.specs.declared.limits.Show.{Show}
use Rattle.sp_base.specs.declared.limits.Show.TheVariants as show
use Rattle.sp_words.specs.Dashes.{Text}
use Rattle.sp_words.specs.declared.command.CommandName.{CommandName}
use Rattle.sp_words.specs.declared.command.CommandName.TheVariants as name

-- one decimal digit or more, and nothing else
abbrev pub is_numeral : Text → Bool
is_numeral digits = nat_lt 0 (length digits) && list_all (λ d. nat_lt (digit_value d) 10) digits

-- the number below the bound that the text writes, where a plus may stand first
abbrev pub number_below : ℕ → Text → Option ℕ
number_below bound text =
    let digits = without_leading_plus text in
    if is_numeral digits && nat_lt (digits_value 10 digits) bound then Some (digits_value 10 digits) else None

-- the text writes a number of `u64` from `least` to `greatest`
abbrev pub is_number_in : ℕ → ℕ → Text → Bool
is_number_in least greatest text =
    option_map_or (λ n. nat_le least n && nat_le n greatest) (number_below (2 ^ 64) text) false

-- the size that the text writes: a number of `u64` from 1 to 2,000
abbrev pub size_named : Text → Option ℕ
size_named text = option_and_then (λ n. if nat_le 1 n
    && nat_le n 2000 then Some n else None) (number_below (2 ^ 64) text)

-- the reports by their names
abbrev pub shows : List (Text × Show)
shows = (codes "end", show.End) ∷ (codes "timeline", show.Timeline) ∷ (codes "census", show.Census)
    ∷ (codes "tree", show.Tree) ∷ (codes "waiting", show.Waiting) ∷ (codes "all", show.All)
    ∷ (codes "journal", show.Journal) ∷ []

-- the report of a name
abbrev pub show_named : Text → Option Show
show_named text = option_map (λ s. s.1) (find (λ s. bytes_eq s.0 text) shows)

-- an option: its name, and which texts are its values
abbrev pub Choice : Type 0
Choice = Text × (Text → Bool)

-- the options of the limits
abbrev pub limit_options : List Choice
limit_options = (codes "ticks", is_number_in 1 1000000000)
    ∷ (codes "depth", is_number_in 1 10000)
    ∷ (codes "cells", is_number_in 1 67108864)
    ∷ (codes "processes", is_number_in 1 1000000)
    ∷ (codes "channels", is_number_in 1 1000000)
    ∷ (codes "entries", is_number_in 1 10000000)
    ∷ (codes "output", is_number_in 1 268435456) ∷ []

-- the options of `run`
abbrev pub run_options : List Choice
run_options = (codes "workers", is_number_in 1 64) ∷ limit_options
    ++ (codes "show", λ text. is_some (show_named text)) ∷ []

-- the options of `gen`
abbrev pub gen_options : List Choice
gen_options = (codes "workers", is_number_in 1 64) ∷ []

-- the options of `witness` and `exec`: those of `run`, but for the reports
abbrev pub worker_options : List Choice
worker_options = (codes "workers", is_number_in 1 64) ∷ limit_options

-- only `run`, `gen`, `replay`, `witness`, `exec`, `trace` and `where` have options
abbrev pub options_of : CommandName → List Choice
options_of name.Run = run_options
options_of name.Gen = gen_options
options_of name.Replay = limit_options
options_of name.Witness = worker_options
options_of name.Exec = worker_options
options_of name.Trace = limit_options
options_of name.Where = limit_options
options_of _ = []

-- the names of the options of a command
abbrev pub option_names : CommandName → List Text
option_names command = map (λ o. o.0) (options_of command)

-- the number that an option was given below the bound, or its default
abbrev pub number_or : ℕ → ℕ → Option Text → ℕ
number_or bound default value = unwrap_or (option_and_then (number_below bound) value) default

-- the report that an option was given, or the end alone
abbrev pub show_or_end : Option Text → Show
show_or_end value = unwrap_or (option_and_then show_named value) show.End
