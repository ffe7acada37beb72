use Rattle.std.proofs.Common.{◌≡◌, ◌∙◌, ap, subst, ℕ}
use Rattle.sp_code.specs.declared.code.Parts.{Parts}
use Rattle.sp_code.specs.Control.{entries_of}
use Rattle.sp_code.specs.Memory.{CodeRun}
use Rattle.sp_code.specs.Sound.{run_of}
use Rattle.sp_code.specs.OutputHolder.{IsOutputOf}
use Rattle.sp_room.specs.Ends.{object_of, notes_of}
use Rattle.sp_kernel.specs.declared.kernel.Kernel.{Kernel}
use Rattle.sp_kernel.specs.Closes.{EndIs}
use Rattle.sp_kernel.specs.Kernels.{code_run_of, system_of}
use Rattle.sp_runner.specs.Runs.{IsRun}
use Rattle.sp_runner.proofs.RunResults.{closed_run, if_closed}
use Rattle.sp_runner.proofs.runner.run_fitting.Goals as goal

pub returns : goal.returns
returns g c =
    let x : Kernel = c.in_ok-kernel.kernel in
    let y : Kernel = object_of c.in_ok-settled.settled in
    let log = notes_of c.in_ok-settled.settled in
    let clone : c.in_ok-try_clone.field-0.value ≡ c.args.code.value = c.in_ok-try_clone.ensures in
    let same : code_run_of x ≡ run_of c.args.code.value c.args.input.value c.args.limits.now =
    c.in_ok-kernel.ensures.code_run
    ∙ ap (λ (p : Parts). run_of p c.in_ok-root.root.input.value c.args.limits.now) clone
    ∙ ap (λ (i : _). run_of c.args.code.value i.value c.args.limits.now) c.in_ok-root.ensures.same.1 in
    if_closed (λ z. EndIs y z.end) (λ z. z.journal.entries ≡ entries_of log) (λ z. y.abandons ≡ 0 → (q : ℕ)
    × IsOutputOf (system_of y) q z.output)
    (λ z. IsRun (run_of c.args.code.value c.args.input.value c.args.limits.now) c.args.workers z)
    (λ z e j o. subst (λ (s : CodeRun). IsRun s c.args.workers z) same
    (closed_run c.args.workers x c.in_ok-kernel.ensures.opening log y c.requires.workers.0 c.in_ok-settled.ensures z
    e j o c.close.ensures.idle))
    c.close.result c.close.ensures.end c.close.ensures.journal c.close.ensures.output
