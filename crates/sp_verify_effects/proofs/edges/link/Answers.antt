use Rattle.std.proofs.Common.{ap, sym, ◌∙◌, subst, List}
use Rattle.std.specs.Prelude.{◌≡◌, slice_set}
use Rattle.sp_verify_effects.specs.declared.edges.Edge.{Edge}
use Rattle.sp_verify_effects.specs.Edges.{Links}
use Rattle.sp_verify_effects.proofs.EdgeRows.{links_one}
use Rattle.sp_verify_effects.proofs.edges.link.Goals as goal

pub returns : goal.returns
returns c =
    let rows = c.args.rows.now in
    let m = c.args.from in
    subst (λ (x : List (List Edge)). Links rows x (λ n e. (n ≡ m) × (e ≡ c.args.edge)))
    (sym (c.replace-none.ensures.list
    ∙ ap (λ (x : List (List Edge)). slice_set x m c.put.new.row) c.replace-row.ensures.list))
    (links_one rows m c.args.edge c.replace-row.result c.put.new.row c.new-none.result c.replace-row.ensures.replaced
    c.in-Ok.ensures)
