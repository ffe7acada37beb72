use Rattle.std.proofs.Common.{[], ◌∷◌, ◌∙◌, ap, refl, rules, cond, Some, map}
use Rattle.sp_tree.specs.declared.token.Kind.TheVariants as kind
use Rattle.sp_tree.specs.Words as w
use Rattle.sp_tree.specs.PlainSyntax as tree
use Rattle.sp_tree.specs.Grammar.{with_part_first}
use Rattle.sp_tree.specs.Symbols.{AToken, MoreVariables}
use Rattle.sp_tree.specs.Table as row
use Rattle.sp_tree.specs.Table.{RowEntry, PartsRow, row_entry, look, parts_rows}
use Rattle.sp_parse.specs.BlockProductions.{group}
use Rattle.sp_parse.specs.Trees.{and_parts}
use Rattle.sp_parse.proofs.Lists.{part_behind}
use Rattle.sp_parse.proofs.Pending.{begin, read_as, keep, pass}
use Rattle.sp_parse.proofs.Rows.{kind_at, other_at}
use Rattle.sp_parse.proofs.Turns.{name_turn_at, parts_turn}
use Rattle.sp_parse.proofs.declarations.variables.Goals as goal

pub more-init : goal.more-init
more-init c = λ d. begin c.requires

pub group-of-requires : goal.group-of-requires
group-of-requires c = (c.more.invariant 0).ready

pub more-preserved : goal.more-preserved
more-preserved c = λ d. name_turn_at row.next_variable refl refl (λ (name, (more, (_, (kind, (_, (behind, _)))))).
    with_part_first (tree.Var (name ∷ more) kind) behind)
    (λ t vs. refl) [] (keep (λ vs. and_parts c.push.new.all vs.0) (pass (read_as group.symbols (AToken w.Semicolon ∷
    MoreVariables d ∷ [])
    (λ vs. and_parts c.more.all (with_part_first (tree.Var c.group-of.result.names c.group-of.result.kind) vs.1.0))
    (c.more.invariant d) c.group-of.ensures
    (λ us same vs. ap (λ g. and_parts c.more.all (with_part_first (tree.Var g.names g.kind) vs.1.0)) same))
    c.expect.ensures) c.push.ensures
    (λ p vs. ap (λ l. and_parts l vs.0) p ∙ part_behind c.more.all c.variable_declaration.result vs.0
    ∙ ap (λ q. and_parts c.more.all (with_part_first q vs.0)) c.variable_declaration.ensures))
    c.look-next.ensures (kind_at c.look-next.result kind.Name c.is.ensures (search rules)) refl

pub returns-then-not-is : goal.returns-then-not-is
returns-then-not-is c = λ d. parts_turn d (λ e. row.after_variables e.row) (λ b. b) (λ e t us. refl) [] (keep (λ vs.
    and_parts c.push.new.all vs.0) (pass (read_as group.symbols (AToken w.Semicolon ∷ MoreVariables d ∷ [])
    (λ vs. and_parts c.more.all (with_part_first (tree.Var c.group-of.result.names c.group-of.result.kind) vs.1.0))
    (c.more.invariant d) c.group-of.ensures
    (λ us same vs. ap (λ g. and_parts c.more.all (with_part_first (tree.Var g.names g.kind) vs.1.0)) same))
    c.expect.ensures) c.push.ensures
    (λ p vs. ap (λ l. and_parts l vs.0) p ∙ part_behind c.more.all c.variable_declaration.result vs.0
    ∙ ap (λ q. and_parts c.more.all (with_part_first q vs.0)) c.variable_declaration.ensures))
    c.look-next.ensures (ap (λ x. cond x (Some (row_entry _ _ row.next_variable)) (look (map
    (λ (e : RowEntry (PartsRow d)). row_entry e.key e.left (row.after_variables e.row)) (parts_rows d))
    c.look-next.result.kind)) (other_at c.look-next.result kind.Name c.is.ensures (search rules))) refl refl
