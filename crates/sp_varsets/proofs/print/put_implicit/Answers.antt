use Rattle.std.proofs.Common.{◌∙◌, ◌++◌, ap}
use Rattle.sp_tree.specs.CheckedOf.{block_of}
use Rattle.sp_varsets.proofs.TextJoins.{put_implicit_is}
use Rattle.sp_varsets.proofs.print.put_implicit.Goals as goal

pub returns : goal.returns
returns c = λ kept.
    let both = c.put_both.ensures kept in
    let name = c.extend-2.ensures both.0 in
    let word = c.extend.ensures name.0 in (
      word.0,
      put_implicit_is c.args.variables.now c.args.sets.now c.args.b (block_of c.args.block.now) _ _
          c.args.out.now.items.items _ _ _ c.implicit_targets-targets.ensures c.implicit_expressions.ensures word.1
          (name.1 ∙ ap (λ q. c.extend.new.self.items.items ++ q) c.bytes.ensures) both.1,
    )
