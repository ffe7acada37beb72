use Rattle.std.proofs.Common.{◌≡◌, ap, sym, ◌∙◌, subst, List, Some}
use Rattle.std.specs.Prelude.{slice_get}
use Rattle.std.proofs.lemmas.Option.{none-some}
use Rattle.sp_verify_effects.specs.declared.edges.Edge.{Edge}
use Rattle.sp_verify_effects.specs.Edges.{HasEdge}
use Rattle.sp_verify_effects.specs.FactClosure.{fact_along}
use Rattle.sp_verify_effects.proofs.Exact.{led_along}
use Rattle.sp_verify_effects.proofs.breach.step.Goals as goal

pub returns-in-None : goal.returns-in-None
returns-in-None c = λ f e. absurd (none-some f e)

pub returns-then-k-row : goal.returns-then-k-row
returns-then-k-row c = λ f e.
    let g = c.args.g.now in
    let known = c.requires.known in
    let fact = c.args.fact in
    let edge = c.edge_at-edge.result in
    let has : HasEdge c.args.rows.now fact.area edge = (
      c.in-Some.row.now,
      sym c.in-Some.ensures,
      (
        c.args.number,
        subst (λ (xs : List Edge). slice_get xs c.args.number ≡ Some edge) c.items-row.ensures c.edge_at-edge.ensures,
      ),
    ) in
    led_along g.code.now known.kept g.owners.now known.owners c.args.own.now.keys c.requires.own c.args.rows.now
    c.requires.edges fact f edge has
    (ap (λ b. fact_along edge b fact.effect) (sym c.is_own.ensures) ∙ (sym c.fact_along.ensures ∙ e)) c.requires.done

pub returns-else-k-row : goal.returns-else-k-row
returns-else-k-row c = λ f e. absurd (none-some f e)
