use Rattle.std.proofs.Common.{◌≡◌, ap, ◌∙◌, ◌-◌, length, min, arith}
use Rattle.sp_where.proofs.PieceLists.{short_part}
use Rattle.sp_where.proofs.cells.put_short.Goals as goal

pub returns : goal.returns
returns c = λ kept.
    let a = c.extend.ensures kept in
    let size : c.len.result ≡ length c.args.out.now.items.items =
    omega (arith, c.len.ensures, c.args.out.now.items.ok) in (
      a.0,
      short_part c.args.most c.min.result c.args.out.now.items.items c.extend.new.self.items.items c.args.bytes.now
          (c.min.ensures ∙ ap (λ k. min k (length c.args.bytes.now)) (c.saturating_sub-room.ensures
          ∙ ap (λ k. c.args.most - k) size)) a.1,
    )
