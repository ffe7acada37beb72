use Rattle.std.proofs.Common.{sym, ◌∙◌}
use Rattle.std.specs.Prelude.{◌≡◌, Some}
use Rattle.sp_base.proofs.Facts.{on_map as ok_on}
use Rattle.sp_verify_shapes.specs.Stacks.{shape_of}
use Rattle.sp_verify_effects.specs.Edges.{Links, deep_edge}
use Rattle.sp_verify_effects.proofs.EdgeRows.{deep_linked}
use Rattle.sp_verify_effects.proofs.edges.link_deep.Goals as goal

pub returns-in-Some : goal.returns-in-Some
returns-in-Some c =
    let l = c.args.layout.now in
    let a = c.args.rows.now in
    let b = c.link.new.rows in
    let o = deep_edge l c.args.to c.args.depth (shape_of c.args.shape) in
    ok_on c.link.result (Links a b (λ m e. (m ≡ l.entry) × (e ≡ c.in-Some.edge))) (Links a b (λ m e. (m ≡ l.entry)
    × (o ≡ Some e)))
    (λ v. deep_linked a b l o c.in-Some.edge (sym c.deep_edge.ensures ∙ c.in-Some.is) v)
    c.link.ensures
