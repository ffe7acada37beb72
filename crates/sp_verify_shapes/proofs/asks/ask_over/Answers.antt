use Rattle.sp_verify_shapes.proofs.Asking.{both_ask}
use Rattle.sp_verify_shapes.proofs.asks.ask_over.Goals as goal

pub returns-then-k-near : goal.returns-then-k-near
returns-then-k-near c = λ fs are at.
    both_ask fs c.args.k c.args.formal c.ask_at-near.result c.ask_at-next.result c.greater-both.result c.greater.result
    at (c.ask_at-near.ensures fs are) (c.ask_at-next.ensures fs are) c.greater-both.ensures c.greater.ensures
