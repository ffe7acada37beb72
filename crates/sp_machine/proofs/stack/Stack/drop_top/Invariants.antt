use Rattle.std.proofs.Common.{◌≡◌, drop}
use Rattle.sp_machine.proofs.stack.Stack.drop_top.Given as goal

abbrev pub invariant-loop : goal.invariant-loop
invariant-loop l = l.self ≡ drop l.counter l.fn.self
