use Rattle.std.proofs.Common.{drop, ◌≡◌, [], ◌∷◌, ◌∙◌, ap, refl, arith, add-one, cond, Some, None}
use Rattle.sp_tree.specs.Words as w
use Rattle.sp_tree.specs.Grammar.{with_part_first}
use Rattle.sp_tree.specs.SyntaxOf.{part_of}
use Rattle.sp_tree.specs.Symbols.{Parts}
use Rattle.sp_tree.specs.Table as row
use Rattle.sp_tree.specs.Table.{row_entry, rows, look, kind_is}
use Rattle.sp_parse.specs.BlockProductions.{procedure, function}
use Rattle.sp_parse.specs.StatementProductions.{compound}
use Rattle.sp_parse.specs.Trees.{and_parts}
use Rattle.sp_parse.proofs.Lists.{part_behind, block_same}
use Rattle.sp_parse.proofs.Pending.{begin, say, read, read_as, go_on, keep, pass, enter, look_at, row_at, took}
use Rattle.sp_parse.proofs.Pending.{some_kind}
use Rattle.sp_parse.proofs.Rows.{kind_at, other_at, none_at}
use Rattle.sp_parse.proofs.ReadNames.{is_made}
use Rattle.sp_parse.proofs.Turns.{block_turn, first_same}
use Rattle.sp_parse.proofs.blocks.+block.Goals as goal

pub block-returns : goal.block-returns
block-returns t c = go_on (block_turn c.args.depth _ (add-one c.args.depth) (omega arith) (begin c.requires))
    c.parts.ensures
    (λ us. refl)

pub parts-more-init : goal.parts-more-init
parts-more-init t c = say (λ vs. ap (λ l. and_parts l vs.0) c.new-all.ensures) (begin c.requires)

pub parts-more-preserved-then-is : goal.parts-more-preserved-then-is
parts-more-preserved-then-is t c = go_on (row_at [] (row.parts row.parts_const) refl refl refl tt
    (kind_at c.look-first.result w.Const c.is.ensures c.if-is.true) c.more.invariant c.look-first.ensures
    c.skip.ensures) (c.constants.ensures c.args.depth) (λ us. refl)

pub parts-more-preserved-then-is-2 : goal.parts-more-preserved-then-is-2
parts-more-preserved-then-is-2 t c = go_on (row_at [] (row.parts row.parts_type) refl refl refl tt
    (kind_at c.look-first.result w.Type' c.is-else-is.ensures c.if-is-2.true) c.more.invariant c.look-first.ensures
    c.skip-then-is-2.ensures) (c.types.ensures c.args.depth) (λ us. refl)

pub parts-more-preserved-then-is-3 : goal.parts-more-preserved-then-is-3
parts-more-preserved-then-is-3 t c = go_on (row_at [] (row.parts row.parts_var) refl refl refl tt
    (kind_at c.look-first.result w.Var c.is-else-is-2.ensures c.if-is-3.true) c.more.invariant c.look-first.ensures
    c.skip-then-is-3.ensures) (c.variables.ensures c.args.depth) (λ us. refl)

pub parts-more-preserved-then-is-4 : goal.parts-more-preserved-then-is-4
parts-more-preserved-then-is-4 t c = keep (λ vs. and_parts c.push.new.all vs.0) (read_as (procedure
    c.args.depth).symbols (Parts c.args.depth ∷ [])
    (λ vs. and_parts c.more.all (with_part_first (part_of c.procedure-next.result) vs.0))
    (row_at [] (row.parts row.parts_procedure) refl refl refl tt
    (kind_at c.look-first.result w.Procedure c.is-else-is-3.ensures c.if-is-4.true) c.more.invariant
    c.look-first.ensures
    c.skip-then-is-4.ensures) c.procedure-next.ensures
    (λ us same vs. ap (λ q. and_parts c.more.all (with_part_first q vs.0)) same)) c.push.ensures
    (λ p vs. ap (λ l. and_parts l vs.0) p ∙ part_behind c.more.all c.procedure-next.result vs.0)

pub parts-more-preserved : goal.parts-more-preserved
parts-more-preserved t c = keep (λ vs. and_parts c.push-then-is-5.new.all vs.0) (read_as (function
    c.args.depth).symbols (Parts c.args.depth ∷ [])
    (λ vs. and_parts c.more.all (with_part_first (part_of c.function-next.result) vs.0))
    (row_at [] (row.parts row.parts_function) refl refl refl tt
    (kind_at c.look-first.result w.Function c.is-else-is-4.ensures c.if-is-5.true) c.more.invariant c.look-first.ensures
    c.skip-then-is-5.ensures) c.function-next.ensures
    (λ us same vs. ap (λ q. and_parts c.more.all (with_part_first q vs.0)) same)) c.push-then-is-5.ensures
    (λ p vs. ap (λ l. and_parts l vs.0) p ∙ part_behind c.more.all c.function-next.result vs.0)

pub parts-more-smaller-then-is : goal.parts-more-smaller-then-is
parts-more-smaller-then-is t c = omega (
  arith,
  c.look-first.ensures.shorter,
  (took (some_kind c.look-first.result (Parts c.args.depth) (row.parts row.parts_const) refl refl
      (kind_at c.look-first.result w.Const c.is.ensures c.if-is.true)) c.look-first.ensures c.skip.ensures).less,
  (c.constants.ensures 0).shorter,
)

pub parts-more-smaller-then-is-2 : goal.parts-more-smaller-then-is-2
parts-more-smaller-then-is-2 t c = omega (
  arith,
  c.look-first.ensures.shorter,
  (took (some_kind c.look-first.result (Parts c.args.depth) (row.parts row.parts_type) refl refl
      (kind_at c.look-first.result w.Type' c.is-else-is.ensures c.if-is-2.true)) c.look-first.ensures
      c.skip-then-is-2.ensures).less,
  (c.types.ensures 0).shorter,
)

pub parts-more-smaller-then-is-3 : goal.parts-more-smaller-then-is-3
parts-more-smaller-then-is-3 t c = omega (
  arith,
  c.look-first.ensures.shorter,
  (took (some_kind c.look-first.result (Parts c.args.depth) (row.parts row.parts_var) refl refl
      (kind_at c.look-first.result w.Var c.is-else-is-2.ensures c.if-is-3.true)) c.look-first.ensures
      c.skip-then-is-3.ensures).less,
  (c.variables.ensures 0).shorter,
)

pub parts-more-smaller-then-is-4 : goal.parts-more-smaller-then-is-4
parts-more-smaller-then-is-4 t c = omega (
  arith,
  c.look-first.ensures.shorter,
  (took (some_kind c.look-first.result (Parts c.args.depth) (row.parts row.parts_procedure) refl refl
      (kind_at c.look-first.result w.Procedure c.is-else-is-3.ensures c.if-is-4.true)) c.look-first.ensures
      c.skip-then-is-4.ensures).less,
  c.procedure-next.ensures.shorter,
  c.push.ensures.shorter,
)

pub parts-more-smaller : goal.parts-more-smaller
parts-more-smaller t c = omega (
  arith,
  c.look-first.ensures.shorter,
  (took (some_kind c.look-first.result (Parts c.args.depth) (row.parts row.parts_function) refl refl
      (kind_at c.look-first.result w.Function c.is-else-is-4.ensures c.if-is-5.true)) c.look-first.ensures
      c.skip-then-is-5.ensures).less,
  c.function-next.ensures.shorter,
  c.push-then-is-5.ensures.shorter,
)

pub parts-returns-else-is-5 : goal.parts-returns-else-is-5
parts-returns-else-is-5 t c = read_as (compound c.args.depth).symbols [] _ (enter [] (row.parts row.parts_begin) refl
    refl
    (λ t u fine e. first_same (λ t. look (rows (Parts c.args.depth)) t.kind ≡ cond (kind_is w.Begin t.kind)
    (Some (row_entry _ _ (row.parts row.parts_begin))) None)
    (ap (cond (kind_is w.Begin c.look-first.result.kind) (Some (row_entry _ _ (row.parts row.parts_begin))))
    (none_at (drop 1 (rows (Parts c.args.depth))) c.look-first.result.kind (
      other_at c.look-first.result w.Const c.is.ensures c.if-is.false,
      (
        other_at c.look-first.result w.Type' c.is-else-is.ensures c.if-is-2.false,
        (
          other_at c.look-first.result w.Var c.is-else-is-2.ensures c.if-is-3.false,
          (
            other_at c.look-first.result w.Procedure c.is-else-is-3.ensures c.if-is-4.false,
            (
              other_at
                  c.look-first.result w.Function c.is-else-is-4.ensures c.if-is-5.false,
              tt,
            ),
          ),
        ),
      ),
    ))) c.look-first.ensures fine e) (λ t. refl)
    (look_at c.more.invariant c.look-first.ensures) c.expect-begin.ensures) c.compound-statements.ensures
    (λ us same _. c.whole_block.ensures ∙ block_same c.expect-begin.result.at c.more.all same)

pub procedure-returns : goal.procedure-returns
procedure-returns t c = keep (λ _. part_of c.made.result) (pass (read (pass (read (read (begin c.requires)
    c.name-called.ensures)
    c.formals-given.ensures) c.expect.ensures) c.block-inner.ensures) c.expect-2.ensures) c.made.ensures
    (λ p _. is_made _ _ p c.procedure_declaration-made.ensures)

pub function-returns : goal.function-returns
function-returns t c = keep (λ _. part_of c.made.result) (pass (read (pass (read (pass (read (read (begin c.requires)
    c.name-called.ensures) c.formals-given.ensures) c.expect.ensures) c.name-answer.ensures) c.expect-2.ensures)
    c.block-inner.ensures) c.expect-3.ensures) c.made.ensures
    (λ p _. is_made _ _ p c.procedure_declaration-made.ensures)
