use Rattle.std.proofs.Common.{ap, sym, ◌∙◌, length, List, Option}
use Rattle.std.specs.Prelude.{slice_get}
use Rattle.sp_base.proofs.Facts.{on_map as ok_on}
use Rattle.sp_code.specs.declared.code.ChildTable.{ChildTable}
use Rattle.sp_code.specs.declared.code.ForkTable.{ForkTable}
use Rattle.sp_verify_rules.specs.Areas.{child_of}
use Rattle.sp_verify_effects.specs.Edges.{Links, OneStarts, StartedAt}
use Rattle.sp_verify_effects.proofs.EdgeRows.{starts_at}
use Rattle.sp_verify_effects.proofs.edges.link_started.Goals as goal

pub link_children-requires : goal.link_children-requires
link_children-requires c = λ k t e.
    c.requires.within k t
    (ap (λ (o : Option ForkTable). child_of o k) (sym c.in-Some.ensures)
    ∙ ap (λ (xs : List ChildTable). slice_get xs k) (sym c.items.ensures) ∙ e)

pub returns-in-Some : goal.returns-in-Some
returns-in-Some c =
    let code = c.args.code.now in
    let p = c.args.p in
    let n = c.args.to in
    let x = c.args.rows.now in
    let y = c.link_children.new.rows in
    let ts = c.items.result.now in
    let lies = c.requires.lies in
    ok_on c.link_children.result (Links x y (OneStarts ts n (length ts))) (Links x y (StartedAt code p))
    (λ v. starts_at code p lies.0 n lies.1 lies.2 x y c.in-Some.table.now ts (sym c.in-Some.ensures) c.items.ensures v)
    c.link_children.ensures
