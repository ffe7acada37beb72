-- All that the top call promises, put together from its parts.
use Rattle.superpascal.specs.Calls.{Call, IsAnswered}
use Rattle.superpascal.specs.Promise.{Promise}
use Rattle.superpascal.proofs.CallFacts.{following, headline, run_shown, statuses, tracing, writing}
use Rattle.superpascal.proofs.ExecFacts.{executing}
use Rattle.superpascal.proofs.Laws.{Laws}

pub promise : (c : Call) → IsAnswered c → Laws → Promise c
promise c k l = record {
  headline = headline c k l;
  following = following c k l;
  tracing = tracing c k l;
  executing = executing c k l;
  witnessing = record { shown = λ b text v t input left r h. run_shown c k l r h b v text input t left };
  statuses = statuses c k l;
  writing = writing c k l;
  answered = k;
}
