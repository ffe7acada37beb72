use Rattle.std.proofs.Common.{◌+◌, arith, ap, append_assoc, sym, map, List, [], ◌∷◌, ◌++◌, ◌≡◌, ◌∙◌}
use Rattle.std.proofs.lemmas.Grind.{common_steps}
use Rattle.std.proofs.lemmas.List.{map-append}
use Rattle.std.specs.Vec.Iter.{into_iter_items}
use Rattle.sp_tree.specs.declared.checked.Block.{Block}
use Rattle.sp_tree.specs.NamedOf.{block_of}
use Rattle.sp_tree.specs.CheckedOf as checked
use Rattle.sp_tree.specs.PlainChecked as plain
use Rattle.sp_tree.specs.PhaseResults.{earlier_refusal}
use Rattle.sp_types.specs.AfterTables.{starts_in}
use Rattle.sp_types.specs.CheckedTree.{checked_block, checked_blocks}
use Rattle.sp_types.specs.DeclarationFirsts.{answer_first, blocks_first}
use Rattle.sp_types.specs.Firsts.{statement_first}
use Rattle.sp_types.specs.TypeWalk.{blocks_after, count_before, statement_after, statement_place, with_first_number}
use Rattle.sp_types.proofs.DeclarationRules.{place_is}
use Rattle.sp_types.proofs.blocks.type_blocks.Goals as goal

-- one block more in front of the rest
block_more : (xs : List Block) (x : Block) (ys : List plain.Block) → map checked.block_of (xs ++ x ∷ []) ++ ys
    ≡ map checked.block_of xs ++ checked.block_of x ∷ ys
block_more xs x ys = ap (λ (m : List plain.Block). m ++ ys) (map-append checked.block_of xs (x ∷ []))
    ∙ append_assoc (map checked.block_of xs) (checked.block_of x ∷ []) ys

pub loop-b-preserved : goal.loop-b-preserved
loop-b-preserved c =
    let numbers = c.args.numbers.now in
    let cells = c.args.cells.now in
    let variables = c.args.variables.now in
    let all = c.args.bodies.now in
    let n = c.loop-b.n in
    let t = c.loop-b.t in
    let b = block_of c.in-Some.b in
    let rest = map block_of (into_iter_items c.next.new.self) in
    let begins = count_before 0 (statement_place b.body) all in
    let front = c.in-Some.ensures.steps.0 in (
      tt,
      tt,
      λ k.
          let (kept, same_at_end, next_is) = c.sum-n.ensures k in
          let (typed, same_next, out_is) = c.push.ensures kept in
          let (noted, block_first, block_is) = c.type_block-block.ensures.tree typed in
          let after = c.type_block-block.ensures.after typed in
          let (counted, same, start_is) = c.count_before-start.ensures
          (sym (λ j. (c.note.ensures j).is_lost) ∙ noted) in
          let (from, first_is, tree_is, after_is) = c.loop-b.invariant.2 counted in
          let start = start_is ∙ ap (λ at. count_before 0 at all) (sym (place_is c.in-Some.b.body)) in
          let tables = after ∙ (λ j. statement_after (with_first_number t (start j)) b.body) in
          let framed = (λ j. (c.note.ensures j).first)
          ∙ (λ j. earlier_refusal (same j) (c.check_frame.ensures j)) in
          let first = same_at_end ∙ same_next ∙ block_first
          ∙ (λ j. statement_first (with_first_number t (start j)) b.body
          (answer_first (with_first_number t (start j)) b.answer (framed j))) in
          let items = ap (λ (xs : List Block). map checked.block_of xs) out_is in
          let block = block_is ∙ (λ j. checked_block (with_first_number t (start j)) b) in
          let whole = sym front in (
            from,
            (λ j. blocks_first numbers cells variables (next_is j) (tables j) (starts_in all rest) rest (first j))
                ∙ (λ j. blocks_first numbers cells variables n t (starts_in all (map block_of (whole j)))
                (map block_of (whole j)) c.loop-b.walk.first)
                ∙ first_is,
            (λ j. items j ++ checked_blocks (tables j) (starts_in all rest) rest)
                ∙ block_more c.loop-b.out.items c.type_block-block.result
                (checked_blocks (statement_after (with_first_number t begins) b.body) (starts_in all rest) rest)
                ∙ (λ j. map checked.block_of c.loop-b.out.items ++ block j
                ∷ checked_blocks (statement_after (with_first_number t begins) b.body) (starts_in all rest) rest)
                ∙ (λ j. map checked.block_of c.loop-b.out.items
                ++ checked_blocks t (starts_in all (map block_of (whole j))) (map block_of (whole j)))
                ∙ tree_is,
            (λ j. blocks_after (tables j) (starts_in all rest) rest)
                ∙ (λ j. blocks_after t (starts_in all (map block_of (whole j))) (map block_of (whole j)))
                ∙ after_is,
          ),
    )

pub returns-clause-tree : goal.returns-clause-tree
returns-clause-tree c = grind (arith, common_steps)

pub returns-clause-after : goal.returns-clause-after
returns-clause-after c = grind (arith, common_steps)
