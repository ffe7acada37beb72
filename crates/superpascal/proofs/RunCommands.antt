-- Words that ask for a run ask for one run, and for nothing else.
use Rattle.std.proofs.Common.{◌≡◌, ℕ}
use Rattle.sp_words.specs.declared.command.Command.TheVariants as command
use Rattle.sp_words.specs.declared.requests.RunRequest.{RunRequest}
use Rattle.sp_words.specs.declared.requests.ExecRequest.{ExecRequest}
use Rattle.sp_words.specs.declared.requests.ReplayRequest.{ReplayRequest}

pub not_gen : (a : RunRequest) (size workers : ℕ) → command.Run a ≡ command.Gen size workers → ⊥
not_gen a size workers h = cc

pub not_run : (b : ReplayRequest) (a : RunRequest) → command.Replay b ≡ command.Run a → ⊥
not_run b a h = cc

pub not_exec : (a : RunRequest) (b : ExecRequest) → command.Run a ≡ command.Exec b → ⊥
not_exec a b h = cc

pub one_asked : (a b : RunRequest) → command.Run b ≡ command.Run a → b ≡ a
one_asked a b h = cc
