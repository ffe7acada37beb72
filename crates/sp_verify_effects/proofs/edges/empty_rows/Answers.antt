use Rattle.std.proofs.Common.{◌∷◌, [], ◌+◌, ◌∙◌, ap, sym, subst, length, List, ℕ}
use Rattle.std.proofs.lemmas.List.{length-append}
use Rattle.sp_verify_effects.specs.declared.edges.Edge.{Edge}
use Rattle.sp_verify_effects.specs.Edges.{HasEdge}
use Rattle.sp_verify_effects.proofs.EdgeRows.{rows_more}
use Rattle.sp_verify_effects.proofs.edges.empty_rows.Goals as goal

pub loop-m-preserved : goal.loop-m-preserved
loop-m-preserved c =
    let rows = c.loop-m.rows in
    let none = c.new.result in
    let e = c.in_ok-push.ensures.ok in (
      ap length e ∙ length-append rows (none ∷ []) ∙ ap (λ n. n + 1) c.loop-m.invariant.0,
      subst (λ (x : List (List Edge)). (m : ℕ) (f : Edge) → HasEdge x m f
          → ⊥) (sym e) (rows_more rows none c.new.ensures c.loop-m.invariant.1),
    )
