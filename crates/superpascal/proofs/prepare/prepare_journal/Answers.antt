use Rattle.std.proofs.Common.{◌≡◌, ◌≤◌, inl, List, ℕ, sym, subst}
use Rattle.std.specs.Prelude.{IfSome}
use Rattle.std.proofs.lemmas.Result.{err_from_is_err_and}
use Rattle.superpascal.specs.Causes.{Files, files_of}
use Rattle.superpascal.specs.Steps.{GivesJournal}
use Rattle.superpascal.proofs.Parts.{at_exit}
use Rattle.superpascal.proofs.ReplayFacts.{given_journal}
use Rattle.superpascal.proofs.prepare.prepare_journal.Goals as goal

pub returns-in_err-bytes : goal.returns-in_err-bytes
returns-in_err-bytes g c =
    let f : Files = files_of g.L.Library.held g.L.Library.faults c.args.library.now c.load.new.library in
    at_exit (GivesJournal f c.args.file.now) c.from_residual.result _
    (err_from_is_err_and c.from_residual.result c.from_residual.ensures.1) (inl c.in_err-bytes.ensures.loaded)

pub returns : goal.returns
returns g c =
    let f : Files = files_of g.L.Library.held g.L.Library.faults c.args.library.now c.load.new.library in
    let h = c.in_ok-bytes.ensures.loaded in
    given_journal f c.args.file.now c.as_slice.result.now
    (subst (λ (t : List ℕ). IfSome (g.L.Library.held c.args.library.now c.args.file.now) (λ all. t ≡ all))
    (sym c.as_slice.ensures.value) h.0)
    (subst (λ n. n ≤ 67108864) (sym c.as_slice.ensures.len) h.1) c.journal_of.result c.journal_of.ensures
