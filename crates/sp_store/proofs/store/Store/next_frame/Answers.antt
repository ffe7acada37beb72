use Rattle.std.proofs.Common.{ap, arith}
use Rattle.sp_cell.specs.Frame.{next_frame}
use Rattle.sp_store.proofs.Frames.{newest_read}
use Rattle.sp_store.proofs.store.Store.next_frame.Goals as goal

pub overflow_add-own : goal.overflow_add-own
overflow_add-own c =
    let top = newest_read c.self.inside.own.items c.index.result.now c.len-n.result c.self.invariant.1 (omega arith)
    (omega arith) c.index.ensures in
    let all = ap next_frame c.self.view_is in
    omega (arith, c.requires, all, top)

pub returns-then-own-known : goal.returns-then-own-known
returns-then-own-known c =
    let top = newest_read c.self.inside.own.items c.index.result.now c.len-n.result c.self.invariant.1 (omega arith)
    (omega arith) c.index.ensures in
    let all = ap next_frame c.self.view_is in
    omega (arith, c.above-known.ensures, all, top)

pub returns-else-own-known : goal.returns-else-own-known
returns-else-own-known c =
    let top = newest_read c.self.inside.own.items c.index.result.now c.len-n.result c.self.invariant.1 (omega arith)
    (omega arith) c.index.ensures in
    let all = ap next_frame c.self.view_is in
    omega (arith, c.above-known.ensures, all, top)
