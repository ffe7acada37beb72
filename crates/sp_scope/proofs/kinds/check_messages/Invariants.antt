use Rattle.std.proofs.Common.{◌≡◌, drop}
use Rattle.sp_scope.specs.Firsts.{messages_first}
use Rattle.sp_scope.proofs.kinds.check_messages.Given as goal

abbrev pub invariant-loop-t : goal.invariant-loop-t
invariant-loop-t l = messages_first l.scopes l.own (drop l.t-index l.ts) l.first
    ≡ messages_first l.scopes l.own l.ts l.fn.first
