use Rattle.std.proofs.Common.{◌≡◌, ◌∙◌, ◌+◌, ◌<◌, ◌++◌, ◌∷◌, [], ℕ, List, length, take, codes, get_or, sym, ap}
use Rattle.std.proofs.Common.{append_assoc}
use Rattle.std.proofs.lemmas.List.{take_more}
use Rattle.std.proofs.lemmas.List.Concat.{flat_map-append}
use Rattle.sp_base.specs.declared.name.Pair.{Pair}
use Rattle.sp_report.specs.Tree.{indent}
use Rattle.sp_report.proofs.tree.put_line.Goals as goal

indent_more : (ps : List Pair) (i : ℕ) → i < length ps → indent (take (i + 1) ps) ≡ indent (take i ps) ++ codes "  "
indent_more ps i l =
    let d : Pair = record { fork = 0; child = 0 } in
    ap indent (take_more ps i d l) ∙ flat_map-append (λ p. codes "  ") (take i ps) (get_or ps i d ∷ [])

pub loop-pair-preserved : goal.loop-pair-preserved
loop-pair-preserved c = λ kept.
    let ps = c.items-pairs.result.now in
    let i = c.loop-pair._pair-index in
    let one = c.extend.ensures kept in
    let all = c.loop-pair.invariant one.0 in (
      all.0,
      one.1 ∙ ap (λ (xs : List ℕ). xs ++ codes "  ") all.1
          ∙ append_assoc c.args.out.now.items.items (indent (take i ps)) (codes "  ")
          ∙ ap (λ (xs : List ℕ). c.args.out.now.items.items ++ xs) (sym (indent_more ps i c.loop-pair-test.true)),
    )
