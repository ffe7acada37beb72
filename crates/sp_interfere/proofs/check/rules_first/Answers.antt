use Rattle.std.proofs.Common.{◌≡◌, ◌<◌, length, get_or, subst, ◌∙◌}
use Rattle.sp_tree.specs.CheckedOf.{program_of}
use Rattle.sp_interfere.proofs.MoreItems.{more_blocks}
use Rattle.sp_interfere.proofs.check.rules_first.Goals as goal

pub each-preserved : goal.each-preserved
each-preserved c =
    let low : c.each.i < length c.args.c.now.blocks = subst (λ n. c.each.i < n) c.len-i-end.ensures c.each-test.true in
    more_blocks c.args.s.now (program_of c.args.c.now) c.args.c.now.blocks c.each.i c.index-items-i.result c.each.first
    c.block_first-first.result low (subst (λ ys. c.index-items-i.result ≡ get_or ys c.each.i c.index-items-i.result)
    c.items.ensures c.index-items-i.is) c.block_first-first.ensures
    ∙ c.each.invariant
