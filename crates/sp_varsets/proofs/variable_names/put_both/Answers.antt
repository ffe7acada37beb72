use Rattle.sp_varsets.proofs.TextJoins.{put_both_is}
use Rattle.sp_varsets.proofs.variable_names.put_both.Goals as goal

pub returns : goal.returns
returns c = λ kept.
    let end = c.extend-3.ensures kept in
    let second = c.put_variables-2.ensures end.0 in
    let word = c.extend-2.ensures second.0 in
    let first = c.put_variables.ensures word.0 in
    let begin = c.extend.ensures first.0 in (
      begin.0,
      put_both_is c.args.variables.now c.args.targets.now c.args.expressions.now c.args.out.now.items.items _ _ _ _ _
          begin.1 first.1 word.1 second.1 end.1,
    )
