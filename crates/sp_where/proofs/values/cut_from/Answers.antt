use Rattle.std.proofs.Common.{◌<◌, ◌+◌, ◌++◌, ℕ, List, ap, ◌∙◌, codes, length, arith}
use Rattle.sp_where.proofs.FirstBytes.{cut_long_at, cut_short_at}
use Rattle.sp_where.proofs.values.cut_from.Goals as goal

pub returns-then-len-start : goal.returns-then-len-start
returns-then-len-start c = λ kept.
    let a = c.extend.ensures kept in
    let more : c.args.start + 120 < length c.args.out.now.items.items =
    omega (arith, c.len.ensures, c.args.out.now.items.ok, c.if-len-start.true) in (
      a.0,
      λ before t n h. a.1 ∙ ap (λ (z : List ℕ). z ++ codes "..") c.truncate.ensures.items
          ∙ cut_long_at 120 c.args.start before t c.args.out.now.items.items n h more,
    )

pub returns-else-len-start : goal.returns-else-len-start
returns-else-len-start c = λ kept. (
  kept,
  λ before t n h. cut_short_at 120 c.args.start before t c.args.out.now.items.items n h
      (omega (arith, c.len.ensures, c.args.out.now.items.ok, c.if-len-start.false)),
)
