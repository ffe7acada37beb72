use Rattle.sp_race.proofs.laws.order_is_decided.Goals as goal
use Rattle.sp_race.proofs.OrderTests.{test_ordered, ordered_test}

pub returns : goal.returns
returns c = λ es. (test_ordered es, ordered_test es)
