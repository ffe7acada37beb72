use Rattle.std.proofs.Common.{◌≡◌, List, ℕ, sym, subst}
use Rattle.std.specs.Prelude.{IfSome}
use Rattle.std.proofs.lemmas.Result.{err_from_is_err_and}
use Rattle.superpascal.specs.Causes.{Files, files_of}
use Rattle.superpascal.specs.Steps.{GivesMarked}
use Rattle.superpascal.proofs.MarkFacts.{given_marked}
use Rattle.superpascal.proofs.Parts.{at_exit, unready}
use Rattle.superpascal.proofs.prepare.prepare_marked.Goals as goal

pub returns-in_err-text-clause-prepared : goal.returns-in_err-text-clause-prepared
returns-in_err-text-clause-prepared g c =
    let f : Files = files_of g.L.Library.held g.L.Library.faults c.args.library.now c.load_text.new.library in
    at_exit (GivesMarked f c.args.file.now) c.from_residual.result _
    (err_from_is_err_and c.from_residual.result c.from_residual.ensures.1)
    (unready f c.args.file.now _ c.in_err-text.ensures.loaded)

pub returns-clause-prepared : goal.returns-clause-prepared
returns-clause-prepared g c =
    let f : Files = files_of g.L.Library.held g.L.Library.faults c.args.library.now c.load_text.new.library in
    given_marked f c.args.file.now c.as_slice.result.now
    (subst (λ (t : List ℕ). IfSome (g.L.Library.held c.args.library.now c.args.file.now) (λ all. t ≡ all))
    (sym c.as_slice.ensures.value) c.in_ok-text.ensures.loaded.0) c.mark.result c.mark.ensures
