use Rattle.std.proofs.Common.{◌+◌, [], ◌∷◌, ◌++◌, take, drop, map, sym, ap, subst, ◌∙◌}
use Rattle.sp_tree.specs.CheckedOf.{statement_of, statements}
use Rattle.sp_tree.specs.PhaseResults.{earlier_refusal}
use Rattle.sp_interfere.specs.Rules.{numbers_of, parts_first}
use Rattle.sp_interfere.specs.Tests.{Joins, is_target, is_used}
use Rattle.sp_interfere.proofs.MoreItems.{more_numbers, more_parts}
use Rattle.sp_interfere.proofs.parts.parts_first.Goals as goal

pub each-preserved : goal.each-preserved
each-preserved c =
    let before = numbers_of (statements (map statement_of (take c.each.i c.args.parts.now))) in
    let more = more_numbers c.args.parts.now c.each.i c.index-parts-i.result c.each-test.true c.index-parts-i.is in (
      subst (λ ns. Joins c.add_part.new.targets (is_target c.args.s.now) ns) (sym more)
          (subst (λ m. Joins c.add_part.new.targets (is_target c.args.s.now) (before ++ m ∷ [])) c.number_of.ensures
          (c.add_part.ensures.targets before c.each.invariant.0)),
      subst (λ ns. Joins c.add_part.new.used (is_used c.args.s.now) ns) (sym more)
          (subst (λ m. Joins c.add_part.new.used (is_used c.args.s.now) (before ++ m ∷ [])) c.number_of.ensures
          (c.add_part.ensures.used before c.each.invariant.1)),
      ap (parts_first c.args.s.now (numbers_of (statements (map statement_of (take (c.each.i + 1) c.args.parts.now))))
          (statements (map statement_of (drop (c.each.i + 1) c.args.parts.now))))
          (c.earlier_refusal-first.ensures ∙ ap (earlier_refusal c.each.first) c.part_rule.ensures)
          ∙ (more_parts c.args.s.now c.args.parts.now c.each.i c.index-parts-i.result c.each.first c.each-test.true
          c.index-parts-i.is ∙ c.each.invariant.2),
    )
