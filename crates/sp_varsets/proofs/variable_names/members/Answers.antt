use Rattle.std.proofs.Common.{◌∙◌, sym, arith}
use Rattle.sp_varsets.proofs.Members.{past}
use Rattle.sp_varsets.proofs.variable_names.members.Goals as goal

pub returns-then-x-count : goal.returns-then-x-count
returns-then-x-count c = c.loop-k.invariant.0
    ∙ sym (past c.args.set.now c.loop-k.from c.in-Some.x c.args.count c.loop-k.invariant.2
    (let h = c.if-x-count.true in omega arith) c.in-Some.ensures)
