-- All of this belongs to what the program promises (docs/promise.txt).
-- What `witness` says of a race. It is a part of the contract of the top call: the output is the text of a journal of
-- the program itself, on this input and with these limits, which ends where the two offers of the verdict contend.
use Rattle.std.specs.Prelude.{◌≡◌, ℕ, List, Some}
use Rattle.sp_execute.specs.declared.execution.Ran.{Ran}
use Rattle.sp_execute.specs.Runs.{run_input}
use Rattle.sp_execute.specs.Witnesses.{ShowsRace}
use Rattle.sp_front.specs.Checks.{IsProgramOf}
use Rattle.sp_tree.specs.Plain.{Program}
use Rattle.sp_words.specs.declared.requests.RunRequest.{RunRequest}
use Rattle.superpascal.specs.Calls.{Call, OfInput}

-- the witness of the run's race, if it has one, shows it: along the witness the meaning of the program of the text is
-- defined, and its last entry is the fault F6 of the verdict's later offer, which meets the earlier one
abbrev pub IsShown : RunRequest → List ℕ → List ℕ → Ran → Type 0
IsShown a text input r = (p : Program) × IsProgramOf text p × ShowsRace (run_input p input a.limits) r

pub record Witnessing (c : Call) : Type 0 where
  pub shown : OfInput c (λ a text input. (r : Ran) → c.outcome.ran ≡ Some r → IsShown a text input r)
