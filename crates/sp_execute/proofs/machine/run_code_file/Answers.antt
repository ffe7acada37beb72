use Rattle.std.proofs.Common.{sym, subst}
use Rattle.sp_code.specs.Sound.{run_of}
use Rattle.sp_kernel.specs.declared.closed.Closed.{Closed}
use Rattle.sp_runner.specs.Runs.{IsRun}
use Rattle.sp_execute.specs.Runs.{run_input}
use Rattle.sp_execute.proofs.CodeRuns.{run_of_code}
use Rattle.sp_execute.proofs.machine.run_code_file.Goals as goal

pub returns : goal.returns
returns g c = record {
  machine = subst (λ (z : Closed). IsRun
      (run_of c.args.code.value c.args.input.value c.args.limits.now) c.args.workers z)
      (sym c.conclude-closed.ensures.same) c.in_ok-closed.ensures;
  program = λ p moves shares is.
      c.conclude-closed.ensures.about (run_input p c.args.input.value c.args.limits.now) moves shares
      (run_of_code c.args.code.value c.args.input.value c.args.limits.now p moves shares is c.args.workers
      c.in_ok-closed.closed
      c.in_ok-closed.ensures);
}
