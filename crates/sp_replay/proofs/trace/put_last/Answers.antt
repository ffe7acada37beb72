use Rattle.std.proofs.Common.{◌∙◌, ◌==◌, ap, ℕ, cond}
use Rattle.sp_replay.specs.TraceAnswers.{last_in}
use Rattle.sp_replay.proofs.LastTurns.{last_set}
use Rattle.sp_replay.proofs.trace.put_last.Goals as goal

pub returns : goal.returns
returns c = λ q. ap (λ l. last_in l q) c.replace.ensures.list
    ∙ last_set c.reach.new.lasts c.args.process c.args.at c.in_ok-reach.ensures.there q
    ∙ ap (λ (n : ℕ). cond (c.args.process == q) c.args.at n) (c.in_ok-reach.ensures.same q)
