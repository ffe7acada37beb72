use Rattle.std.proofs.Common.{rules}
use Rattle.sp_varsets.specs.SetsText.{IsLineAt}
use Rattle.sp_varsets.proofs.TextJoins.{at_default, joined_more, put_line_at}
use Rattle.sp_varsets.proofs.print.put_lines.Goals as goal

pub each-preserved : goal.each-preserved
each-preserved c = λ kept.
    let one = c.put_line.ensures kept in
    let all = c.each.invariant one.0 in (
      all.0,
      joined_more (IsLineAt c.args.variables.now c.args.sets.now c.args.lines.now) c.each.i c.args.out.now.items.items
          _ _ all.1 (put_line_at c.args.variables.now c.args.sets.now c.args.lines.now c.each.i _ _ _
          (at_default c.args.lines.now c.each.i _ (search rules)) one.1),
    )
