use Rattle.std.proofs.Common.{◌≡◌, ◌==◌, length, map, sym, ap, ◌∙◌}
use Rattle.std.proofs.lemmas.Bool.{true≢false}
use Rattle.sp_tree.specs.CheckedOf.{expression_of, program_of}
use Rattle.sp_interfere.specs.BlockRules.{rules_in}
use Rattle.sp_interfere.specs.Walk.{each_first, expression_first}
use Rattle.sp_interfere.proofs.ChannelOfItems.{sends_some}
use Rattle.sp_interfere.proofs.statements.sends_first.Goals as goal

pub returns : goal.returns
returns c =
    let block = c.args.block.now in
    let some : length c.args.es.now ≡ 0 → ⊥ = λ e.
    true≢false (sym (ap (λ n. n == 0) e) ∙ sym c.is_empty.ensures ∙ c.if-is_empty.false) in
    c.values_first.ensures
    ∙ (ap (each_first (expression_first (rules_in block)) (map expression_of c.args.es.now))
    (c.expression_first-first.ensures
    ∙ ap (expression_first (rules_in block) (expression_of c.args.channel.now)) c.stop_first-first.ensures)
    ∙ sym (sends_some block.sets.now (program_of block.checked.now) block.is_function block.number expression_of
    c.args.n c.args.at (expression_of c.args.channel.now) c.args.es.now some c.args.first))
