use Rattle.std.proofs.Common.{sym, subst}
use Rattle.sp_code.specs.declared.code.Parts.{Parts}
use Rattle.sp_code.specs.Sound.{IsSound, run_of}
use Rattle.sp_kernel.specs.declared.closed.Closed.{Closed}
use Rattle.sp_link.proofs.Soundness.{program_sound}
use Rattle.sp_runner.specs.Runs.{IsRun}
use Rattle.sp_execute.specs.Runs.{run_input}
use Rattle.sp_execute.proofs.CodeRuns.{run_of_code, executed}
use Rattle.sp_execute.proofs.execution.run_program.Goals as goal

pub run-requires-clause-sound : goal.run-requires-clause-sound
run-requires-clause-sound g c κs within =
    let (p, moves, shares, is) = c.requires.program in
    subst (λ (x : Parts). IsSound x) (sym is.emitted)
    (program_sound (run_input p c.args.input.value c.args.limits.now) moves shares is.ready)

pub judge-requires : goal.judge-requires
judge-requires g c =
    let (p, moves, shares, is) = c.requires.program in
    record {
      about = (
        run_input p c.args.input.value c.args.limits.now,
        c.conclude-concluded.ensures.about (run_input p c.args.input.value c.args.limits.now) moves shares
            (run_of_code c.args.code.value c.args.input.value c.args.limits.now p moves shares is c.args.workers
            c.in_ok-closed.closed c.in_ok-closed.ensures),
      );
    }

pub returns-clause-program : goal.returns-clause-program
returns-clause-program g c = λ p moves shares is.
    executed c.args.code.value c.args.input.value c.args.limits.now p moves shares is c.args.workers
    (record { closed = c.conclude-concluded.result.closed; verdict = c.in_ok-verdict.verdict })
    (subst (λ (z : Closed). IsRun (run_of c.args.code.value c.args.input.value c.args.limits.now) c.args.workers z)
    (sym c.conclude-concluded.ensures.same) c.in_ok-closed.ensures)
    c.in_ok-verdict.ensures.exact
    (c.in_ok-verdict.ensures.promise (run_input p c.args.input.value c.args.limits.now) is.ready.free
    (c.conclude-concluded.ensures.about (run_input p c.args.input.value c.args.limits.now) moves shares
    (run_of_code c.args.code.value c.args.input.value c.args.limits.now p moves shares is c.args.workers
    c.in_ok-closed.closed c.in_ok-closed.ensures)))
