-- What the words of the rows ask for.
use Rattle.std.proofs.Common.{◌≡◌, [], ◌∷◌, None, Some, refl}
use Rattle.std.specs.Prelude.{codes}
use Rattle.sp_base.specs.declared.limits.Show.TheVariants as show
use Rattle.sp_words.specs.Ranges.{default_limits}
use Rattle.sp_words.specs.Words.{command_of}
use Rattle.sp_words.specs.declared.command.Command.TheVariants as command
use Rattle.sp_words.specs.declared.requests.View.{View}
use Rattle.sp_words.specs.declared.requests.View.TheVariants as view
use Rattle.sp_words.specs.declared.requests.RunRequest.{RunRequest}
use Rattle.sp_words.specs.declared.requests.ExecRequest.{ExecRequest}
use Rattle.sp_words.specs.declared.requests.ReplayRequest.{ReplayRequest}
use Rattle.sp_words.specs.declared.requests.Telling.TheVariants as told

pub refused_words : command_of (codes "walk" ∷ codes "a" ∷ []) ≡ None
refused_words = refl

pub check_words : command_of (codes "check" ∷ codes "a" ∷ []) ≡ Some (command.Check (codes "a"))
check_words = refl

abbrev pub a_run : RunRequest
a_run = record { file = codes "a"; workers = 4; limits = default_limits; telling = told.Reports show.End }

pub run_words : command_of (codes "run" ∷ codes "a" ∷ []) ≡ Some (command.Run a_run)
run_words = refl

abbrev pub an_execution : ExecRequest
an_execution = record { file = codes "a"; workers = 4; limits = default_limits }

pub exec_words : command_of (codes "exec" ∷ codes "a" ∷ []) ≡ Some (command.Exec an_execution)
exec_words = refl

abbrev pub a_journal : View → ReplayRequest
a_journal view = record { file = codes "a"; journal = codes "j"; limits = default_limits; view = view }

pub replay_words : command_of (codes "replay" ∷ codes "a" ∷ codes "j" ∷ [])
    ≡ Some (command.Replay (a_journal view.Output))
replay_words = refl

pub trace_words : command_of (codes "trace" ∷ codes "a" ∷ codes "j" ∷ [])
    ≡ Some (command.Replay (a_journal view.Entries))
trace_words = refl

pub where_words : command_of (codes "where" ∷ codes "a" ∷ codes "j" ∷ [])
    ≡ Some (command.Replay (a_journal view.State))
where_words = refl

pub gen_words : command_of (codes "gen" ∷ codes "7" ∷ []) ≡ Some (command.Gen 7 4)
gen_words = refl

abbrev pub a_witness : RunRequest
a_witness = record { file = codes "a"; workers = 4; limits = default_limits; telling = told.Witness }

pub witness_words : command_of (codes "witness" ∷ codes "a" ∷ []) ≡ Some (command.Run a_witness)
witness_words = refl

abbrev pub a_shown_run : RunRequest
a_shown_run = record { file = codes "a"; workers = 4; limits = default_limits; telling = told.Reports show.Journal }

pub show_words : command_of (codes "run" ∷ codes "--show" ∷ codes "journal" ∷ codes "a" ∷ [])
    ≡ Some (command.Run a_shown_run)
show_words = refl
