use Rattle.std.proofs.Common.{sym, ◌∙◌}
use Rattle.sp_verify_shapes.proofs.Memos.{adds_fit, adds_none}
use Rattle.sp_verify_shapes.proofs.memo.Memo.meets.Goals as goal

pub returns-then-contains-clause-known : goal.returns-then-contains-clause-known
returns-then-contains-clause-known c = λ _. sym c.contains.ensures ∙ c.if-contains.true

pub returns-in-Ok-clause-adds : goal.returns-in-Ok-clause-adds
returns-in-Ok-clause-adds c =
    adds_fit c.args.self.now (record { fits = c.insert.new.self }) c.args.layout c.args.count c.args.list
    c.in-Ok.ensures.updates.0

pub returns-in-Err-clause-adds : goal.returns-in-Err-clause-adds
returns-in-Err-clause-adds c =
    adds_none c.args.self.now (record { fits = c.insert.new.self }) c.args.layout c.args.count c.args.list
    c.in-Err.ensures.err
