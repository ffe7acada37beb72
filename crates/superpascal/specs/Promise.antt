-- All of this belongs to what the program promises (docs/promise.txt).
-- What the top call promises of each call: what a run and a replay mean, what a trace tells, what the run of a code
-- file is, what the witness of a race shows, when each status comes, what is written, and which answer was due and why.
-- It is the contract of the call that the program makes, and nothing else is promised to its user.
use Rattle.superpascal.specs.Calls.{Call, IsAnswered}
use Rattle.superpascal.specs.ExecPromise.{Executing}
use Rattle.superpascal.specs.ReplayPromise.{Following}
use Rattle.superpascal.specs.Headline.{Headline}
use Rattle.superpascal.specs.Statuses.{Statuses}
use Rattle.superpascal.specs.TracePromise.{Tracing}
use Rattle.superpascal.specs.WitnessPromise.{Witnessing}
use Rattle.superpascal.specs.WrittenParts.{Writing}

pub record Promise (c : Call) : Type 0 where
  pub headline : Headline c
  pub following : Following c
  pub tracing : Tracing c
  pub executing : Executing c
  pub witnessing : Witnessing c
  pub statuses : Statuses c
  pub writing : Writing c
  pub answered : IsAnswered c
