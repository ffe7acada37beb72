use Rattle.sp_varsets.proofs.TextJoins.{put_line_is}
use Rattle.sp_varsets.proofs.print.put_line.Goals as goal

pub returns : goal.returns
returns c = λ kept.
    let both = c.put_both.ensures kept in
    let head = c.put_head.ensures both.0 in (
      head.0,
      put_line_is c.args.variables.now c.args.sets.now c.args.line.now _ _ c.args.out.now.items.items _ _
          c.targets.ensures c.expressions.ensures head.1 both.1,
    )
