use Rattle.std.proofs.Common.{[], ◌∙◌, ap, refl, rules, cond, Some, map}
use Rattle.sp_tree.specs.declared.token.Kind.TheVariants as kind
use Rattle.sp_tree.specs.PlainSyntax as tree
use Rattle.sp_tree.specs.Grammar.{with_part_first}
use Rattle.sp_tree.specs.Table as row
use Rattle.sp_tree.specs.Table.{RowEntry, PartsRow, row_entry, look, parts_rows}
use Rattle.sp_parse.specs.Trees.{and_parts}
use Rattle.sp_parse.proofs.Lists.{part_behind}
use Rattle.sp_parse.proofs.Pending.{begin, read, keep, pass}
use Rattle.sp_parse.proofs.Rows.{kind_at, other_at}
use Rattle.sp_parse.proofs.Turns.{name_turn_at, parts_turn}
use Rattle.sp_parse.proofs.declarations.constants.Goals as goal

pub more-init : goal.more-init
more-init c = λ d. begin c.requires

pub name-called-requires : goal.name-called-requires
name-called-requires c = (c.more.invariant 0).ready

pub more-preserved : goal.more-preserved
more-preserved c = λ d. name_turn_at row.next_constant refl refl (λ (name, (_, (value, (_, (behind, _))))).
    with_part_first (tree.Const name value) behind)
    (λ t vs. refl) [] (keep (λ vs. and_parts c.push.new.all vs.0) (pass (read (pass (read (c.more.invariant d)
    c.name-called.ensures) c.expect.ensures)
    c.constant-value.ensures) c.expect-in-more.ensures) c.push.ensures
    (λ p vs. ap (λ l. and_parts l vs.0) p ∙ part_behind c.more.all c.constant_declaration.result vs.0
    ∙ ap (λ q. and_parts c.more.all (with_part_first q vs.0)) c.constant_declaration.ensures))
    c.look-next.ensures (kind_at c.look-next.result kind.Name c.is.ensures (search rules)) refl

pub returns-then-not-is : goal.returns-then-not-is
returns-then-not-is c = λ d. parts_turn d (λ e. row.after_constants e.row) (λ b. b) (λ e t us. refl) [] (keep (λ vs.
    and_parts c.push.new.all vs.0) (pass (read (pass (read (c.more.invariant d) c.name-called.ensures) c.expect.ensures)
    c.constant-value.ensures) c.expect-in-more.ensures) c.push.ensures
    (λ p vs. ap (λ l. and_parts l vs.0) p ∙ part_behind c.more.all c.constant_declaration.result vs.0
    ∙ ap (λ q. and_parts c.more.all (with_part_first q vs.0)) c.constant_declaration.ensures))
    c.look-next.ensures (ap (λ x. cond x (Some (row_entry _ _ row.next_constant)) (look (map
    (λ (e : RowEntry (PartsRow d)). row_entry e.key e.left (row.after_constants e.row)) (parts_rows d))
    c.look-next.result.kind)) (other_at c.look-next.result kind.Name c.is.ensures (search rules))) refl refl
