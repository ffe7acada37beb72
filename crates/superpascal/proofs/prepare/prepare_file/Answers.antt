use Rattle.std.proofs.Common.{◌≡◌, ◌≤◌, inl, List, ℕ, sym, subst}
use Rattle.std.specs.Prelude.{IfSome}
use Rattle.std.proofs.lemmas.Result.{err_from_is_err_and}
use Rattle.superpascal.specs.Causes.{Files, files_of}
use Rattle.superpascal.specs.Steps.{GivesFile}
use Rattle.superpascal.proofs.ExecCauses.{given_file, not_decoded}
use Rattle.superpascal.proofs.Parts.{at_exit}
use Rattle.superpascal.proofs.prepare.prepare_file.Goals as goal

pub returns-in_err-bytes : goal.returns-in_err-bytes
returns-in_err-bytes g c =
    let f : Files = files_of g.L.Library.held g.L.Library.faults c.args.library.now c.load.new.library in
    at_exit (GivesFile f c.args.file.now) c.from_residual.result _
    (err_from_is_err_and c.from_residual.result c.from_residual.ensures.1) (inl c.in_err-bytes.ensures.loaded)

pub returns-in_err-code : goal.returns-in_err-code
returns-in_err-code g c =
    let f : Files = files_of g.L.Library.held g.L.Library.faults c.args.library.now c.load.new.library in
    let h = c.in_ok-bytes.ensures.loaded in
    let r = c.from_residual-in_err-code.result in
    at_exit (GivesFile f c.args.file.now) r _ (err_from_is_err_and r c.from_residual-in_err-code.ensures.1)
    (not_decoded f c.args.file.now c.as_slice.result.now
    (subst (λ (t : List ℕ). IfSome (g.L.Library.held c.args.library.now c.args.file.now) (λ all. t ≡ all))
    (sym c.as_slice.ensures.value) h.0)
    (subst (λ n. n ≤ 67108864) (sym c.as_slice.ensures.len) h.1) _ c.in_err-code.ensures)

pub returns : goal.returns
returns g c =
    let f : Files = files_of g.L.Library.held g.L.Library.faults c.args.library.now c.load.new.library in
    let h = c.in_ok-bytes.ensures.loaded in
    given_file f c.args.file.now c.as_slice.result.now
    (subst (λ (t : List ℕ). IfSome (g.L.Library.held c.args.library.now c.args.file.now) (λ all. t ≡ all))
    (sym c.as_slice.ensures.value) h.0)
    (subst (λ n. n ≤ 67108864) (sym c.as_slice.ensures.len) h.1) c.in_ok-code.code c.in_ok-code.ensures
    c.verified.result c.verified.ensures
