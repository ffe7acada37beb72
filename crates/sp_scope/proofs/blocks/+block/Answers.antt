use Rattle.std.proofs.Common.{arith, rules, ◌≡◌, ◌∙◌}
use Rattle.std.proofs.lemmas.Grind.{common_steps}
use Rattle.sp_tree.specs.declared.syntax.SynPart.TheFolds.{the_lemmas}
use Rattle.sp_tree.specs.SyntaxOf.{block_of, part_of}
use Rattle.sp_tree.specs.PlainSyntax as p
use Rattle.sp_tree.specs.Scopes.{inner_env}
use Rattle.sp_tree.specs.NameWalk.{answer_local, formals_local}
use Rattle.sp_tree.specs.NamedTree.{inside_named}
use Rattle.sp_scope.specs.Walks.{declared_by}
use Rattle.sp_scope.specs.Firsts.{block_first, block_local, formals_first, opened_first, opened_local, opened_named}
use Rattle.sp_scope.proofs.Tables.{beside_beside, beside_nothing}
use Rattle.sp_scope.proofs.blocks.+block.Goals as goal

pub name_procedure-returns-clause-found : goal.name_procedure-returns-clause-found
name_procedure-returns-clause-found t c k =
    let b = block_of c.args.b in
    let x = c.args.x.now in
    let fs = c.args.fs.now in
    let answer = c.args.answer.now in
    let q = c.procedure_part.ensures k in
    let o = c.name_opened-inner.ensures.found q.0 in
    let s = c.declare_title.ensures o.0 in
    let h = c.name_heading-heading.ensures s.0 in
    let first = s.1 ∙ h.1 in
    let scopes = s.2 in (
      h.0,
      q.1 ∙ o.1
          ∙ (λ j. opened_first (h.2 j).block (scopes j).around (scopes j).local fs answer b.parts b.body (first j)),
      q.2 ∙ (λ j. declared_by c.name_heading-heading.result x answer (o.2 j))
          ∙ (λ j. declared_by (h.2 j) x answer
          (opened_named (h.2 j).block (scopes j).around (scopes j).local fs answer b.parts b.body)),
    )

pub name_procedure-returns-clause-after : goal.name_procedure-returns-clause-after
name_procedure-returns-clause-after t c k =
    let b = block_of c.args.b in
    let q = c.procedure_part.ensures k in
    let o = c.name_opened-inner.ensures.found q.0 in
    let s = c.declare_title.ensures o.0 in
    let h = c.name_heading-heading.ensures s.0 in
    let scopes = s.2 in
    c.name_opened-inner.ensures.after q.0
    ∙ (λ j. inner_env (scopes j).around
    (opened_local (h.2 j).block (scopes j).local c.args.fs.now c.args.answer.now b.parts b.body))

pub name_part-returns-in-Proc-clause-found : goal.name_part-returns-in-Proc-clause-found
name_part-returns-in-Proc-clause-found t c k =
    let i : part_of c.args.p ≡ p.Proc c.in-Proc.name c.items-in-Proc.result.now c.in-Proc.answer
    (block_of c.in-Proc.block).parts (block_of c.in-Proc.block).body = search (rules, the_lemmas) in
    rw i (c.name_procedure.ensures.found k)

pub name_opened-returns-clause-found : goal.name_opened-returns-clause-found
name_opened-returns-clause-found t c k =
    let fs = c.args.fs.now in
    let answer = c.args.answer.now in
    let n = c.name_block-inner.ensures.found k in
    let a = c.number_answer.ensures n.0 in
    let d = c.declare_formals.ensures a.0 in
    let o = c.open.ensures d.0 in
    let scopes = a.2 ∙ (λ j. inner_env (d.2 j).around (answer_local (d.2 j).local answer))
    ∙ (λ j. inner_env (o.2 j).around (answer_local (formals_local (o.2 j).local fs) answer)) in
    let first = a.1 ∙ d.1 ∙ (λ j. formals_first (o.2 j).around (o.2 j).local fs (o.1 j)) in (
      o.0,
      n.1 ∙ (λ j. block_first (scopes j).around (scopes j).local (block_of (c.into_inner.ensures j)).parts
          (block_of (c.into_inner.ensures j)).body (first j)),
      n.2 ∙ (λ j. inside_named (scopes j).around (scopes j).local (block_of (c.into_inner.ensures j)).parts
          (block_of (c.into_inner.ensures j)).body),
    )

pub name_opened-returns-clause-after : goal.name_opened-returns-clause-after
name_opened-returns-clause-after t c k =
    let fs = c.args.fs.now in
    let answer = c.args.answer.now in
    let around = c.args.scopes.now.around in
    let local = c.args.scopes.now.local in
    let n = c.name_block-inner.ensures.found k in
    let a = c.number_answer.ensures n.0 in
    let d = c.declare_formals.ensures a.0 in
    let o = c.open.ensures d.0 in
    let scopes = a.2 ∙ (λ j. inner_env (d.2 j).around (answer_local (d.2 j).local answer))
    ∙ (λ j. inner_env (o.2 j).around (answer_local (formals_local (o.2 j).local fs) answer)) in
    let s = c.name_block-inner.ensures.after k
    ∙ (λ j. inner_env (scopes j).around (block_local (scopes j).local (block_of (c.into_inner.ensures j)).parts
    (block_of (c.into_inner.ensures j)).body)) in
    c.leave.ensures around local.here (λ j. (s j).around)
    ∙ (λ j. inner_env around (record {
      here = local.here;
      block = c.block-outer.ensures j;
      answer = c.answer-outer_answer.ensures j;
      counts = (s j).local.counts;
    }))

pub name_parts-loop-p-preserved : goal.name_parts-loop-p-preserved
name_parts-loop-p-preserved t c = grind (arith, common_steps, beside_beside, beside_nothing)

pub name_parts-returns-clause-found : goal.name_parts-returns-clause-found
name_parts-returns-clause-found t c = grind (arith, common_steps, beside_beside, beside_nothing)

pub name_parts-returns-clause-after : goal.name_parts-returns-clause-after
name_parts-returns-clause-after t c = grind (arith, common_steps)
