use Rattle.std.proofs.Common.{◌≡◌, ◌==◌, length, map, sym, ap, ◌∙◌}
use Rattle.std.proofs.lemmas.Bool.{true≢false}
use Rattle.sp_tree.specs.CheckedOf.{expression_of, variable_of, program_of}
use Rattle.sp_interfere.specs.BlockRules.{rules_in}
use Rattle.sp_interfere.specs.Walk.{each_first, expression_first, variable_first}
use Rattle.sp_interfere.proofs.ChannelOfItems.{receives_some}
use Rattle.sp_interfere.proofs.statements.receives_first.Goals as goal

pub returns : goal.returns
returns c =
    let block = c.args.block.now in
    let some : length c.args.vs.now ≡ 0 → ⊥ = λ e.
    true≢false (sym (ap (λ n. n == 0) e) ∙ sym c.is_empty.ensures ∙ c.if-is_empty.false) in
    c.variables_first.ensures
    ∙ (ap (each_first (variable_first (rules_in block)) (map variable_of c.args.vs.now))
    (c.expression_first-first.ensures
    ∙ ap (expression_first (rules_in block) (expression_of c.args.channel.now)) c.stop_first-first.ensures)
    ∙ sym (receives_some block.sets.now (program_of block.checked.now) block.is_function block.number variable_of
    c.args.n c.args.at (expression_of c.args.channel.now) c.args.vs.now some c.args.first))
