use Rattle.std.proofs.Common.{◌≡◌, ◌++◌, ◌-◌}
use Rattle.sp_code.specs.System.{plan_from}
use Rattle.sp_machine.proofs.state.State.plan.Given as goal

abbrev pub invariant-loop-k : goal.invariant-loop-k
invariant-loop-k l = plan_from l.code.layouts l.self.frames l.table l.self.first 0 l.count ≡ l.plan
    ++ plan_from l.code.layouts l.self.frames l.table l.self.first l.k (l.count - l.k)
