use Rattle.std.proofs.Common.{sym, ap, ◌∙◌, Some, List, Bool}
use Rattle.sp_verify_shapes.specs.Search.{Other}
use Rattle.sp_verify_shapes.proofs.search.place.Goals as goal

pub returns-then-k-x : goal.returns-then-k-x
returns-then-k-x c =
    Other c.in-Some-Some.k (sym c.in-Some-Some.ensures ∙ ap Some c.in-Some-Some.field-0-is) c.if-k-x.true
    (ap (λ (b : List Bool). record c.args.search.now { broken = b }) c.mark.ensures)
