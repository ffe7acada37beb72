use Rattle.std.proofs.Common.{◌≡◌, ◌+◌, ℕ, nat_lt, true, false, None, Some, sym, ap, subst, refl, ◌∙◌, length}
use Rattle.sp_base.specs.declared.fault.Fault.TheVariants as fault
use Rattle.sp_code.specs.Machine as m
use Rattle.sp_code.specs.Sound.{CanSplit}
use Rattle.sp_code.specs.Turns.{Stopped}
use Rattle.sp_code.specs.System.{fault_of}
use Rattle.sp_machine.specs.declared.state.State.{State as Proc}
use Rattle.sp_machine.specs.declared.state.Stop.{Stop}
use Rattle.sp_machine.specs.Procs.{IsAtFork, KeepsFork}
use Rattle.sp_machine.specs.Children.{plan_by}
use Rattle.sp_kernel.specs.declared.handed.Handed.{Handed}
use Rattle.sp_kernel.specs.declared.kernel.Kernel.{Kernel}
use Rattle.sp_kernel.specs.Kernels.{system_of, IsKernel}
use Rattle.sp_kernel.specs.Procs.{config_of, turn_by, turn_of}
use Rattle.sp_kernel.specs.Forks.{IsForkOf, HasForked}
use Rattle.sp_kernel.proofs.FaultEvents.{failed, is_full, not_full}
use Rattle.sp_kernel.proofs.ForkEvents.{fork_full, fork_many, fork_fine, can_fork, gave_fork}
use Rattle.sp_kernel.proofs.kernel.Kernel.fork.Goals as goal

abbrev at_fork : Proc → Stop → Handed
at_fork p s = record { proc = p; stop = s }

-- the fault of its turn
fault_at : (x : Kernel) (p : Proc) (s : Stop) (n : ℕ) (f : IsForkOf s n) (o : _)
    → fault_of x.limits (system_of x) (Stopped (m.Forks f.0 f.1 n) (config_of p)) ≡ o
    → fault_of x.limits (system_of x) (turn_of (at_fork p s)) ≡ o
fault_at x p s n f o e = ap (λ t. fault_of x.limits (system_of x) (turn_by t p)) f.2 ∙ e

by_count : (x : Kernel) (k : IsKernel x) (n : ℕ) (b : _) → nat_lt x.limits.processes (length x.slots + n) ≡ b
    → nat_lt x.limits.processes ((system_of x).births.processes + n) ≡ b
by_count x k n b e = ap (λ i. nat_lt x.limits.processes (i + n)) (sym k.processes) ∙ e

at_that : (p : Proc) (s : Stop) (n : ℕ) (f : IsForkOf s n) → KeepsFork s p → IsAtFork p f.0 f.1 n
at_that p s n f h = subst (λ t. KeepsFork t p) f.2 h

pub returns-then-self-from-clause-ok : goal.returns-then-self-from-clause-ok
returns-then-self-from-clause-ok c =
    let x : Kernel = c.args.self.now in
    let f = c.requires.forks in
    failed c.fail.result x c.fail.new.self c.requires.whole c.args._worker (at_fork c.args.proc c.args.stop)
    (at_fork c.args.proc c.args.stop) fault.F15 c.requires.fits c.requires.no_fault refl
    (fault_at x c.args.proc c.args.stop c.args.count f (Some fault.F15)
    (fork_full x.limits (system_of x) f.0 f.1 c.args.count (config_of c.args.proc)
    (is_full x.limits.entries x.entries c.from.result c.from.ensures c.if-self-from.true))) c.fail.ensures.ok

pub returns-in-None-clause-ok : goal.returns-in-None-clause-ok
returns-in-None-clause-ok c =
    let x : Kernel = c.args.self.now in
    let f = c.requires.forks in
    failed c.fail-in-None.result x c.fail-in-None.new.self c.requires.whole c.args._worker
    (at_fork c.args.proc c.args.stop) (at_fork c.args.proc c.args.stop) fault.F13 c.requires.fits c.requires.no_fault
    refl
    (fault_at x c.args.proc c.args.stop c.args.count f (Some fault.F13)
    (fork_many x.limits (system_of x) f.0 f.1 c.args.count (config_of c.args.proc)
    (not_full x.limits.entries x.entries c.from.result c.from.ensures c.if-self-from.false)
    (by_count x c.requires.whole c.args.count true c.in-None.ensures.room))) c.fail-in-None.ensures.ok

fine : (x : Kernel) (k : IsKernel x) (p : Proc) (t : ℕ) (v : _) (n : ℕ)
    → nat_lt x.limits.entries (x.entries + 1) ≡ false → nat_lt x.limits.processes (length x.slots + n) ≡ false
    → fault_of x.limits (system_of x) (Stopped (m.Forks t v n) (config_of p)) ≡ None
fine x k p t v n e f = fork_fine x.limits (system_of x) t v n (config_of p) e (by_count x k n false f)

pub fork_now-requires-clause-numbers : goal.fork_now-requires-clause-numbers
fork_now-requires-clause-numbers c = c.in-Some.ensures.fits.1

pub fork_now-requires-clause-fork : goal.fork_now-requires-clause-fork
fork_now-requires-clause-fork c =
    let at = at_that c.args.proc c.args.stop c.args.count c.requires.forks c.requires.fits.fork in
    let (table_is, (first_is, _)) = at in
    subst (λ n. IsAtFork c.args.proc c.args.proc.table c.args.proc.first n) (sym c.in-Some.ensures.fits.0)
    (subst (λ t. IsAtFork c.args.proc t c.args.proc.first c.args.count) (sym table_is)
    (subst (λ v. IsAtFork c.args.proc c.requires.forks.0 v c.args.count) (sym first_is) at))

pub fork_now-requires-clause-can : goal.fork_now-requires-clause-can
fork_now-requires-clause-can c =
    let x : Kernel = c.args.self.now in
    let f = c.requires.forks in
    subst (λ n. CanSplit c.args.proc.store (plan_by x.code.value c.args.proc n)) (sym c.in-Some.ensures.fits.0)
    (can_fork x c.args._worker (at_fork c.args.proc c.args.stop) f.0 f.1 c.args.count f.2 c.requires.no_fault
    (fine x c.requires.whole c.args.proc f.0 f.1 c.args.count
    (not_full x.limits.entries x.entries c.from.result c.from.ensures c.if-self-from.false) c.in-Some.ensures.room)
    (at_that c.args.proc c.args.stop c.args.count f c.requires.fits.fork) c.requires.fits)

pub returns-in-Ok-clause-ok : goal.returns-in-Ok-clause-ok
returns-in-Ok-clause-ok c =
    let x : Kernel = c.args.self.now in
    let f = c.requires.forks in
    gave_fork x c.requires.whole c.args.proc.number c.args._worker c.requires.fits.out (at_fork c.args.proc c.args.stop)
    f.0 f.1 c.args.count f.2 c.requires.no_fault
    (fine x c.requires.whole c.args.proc f.0 f.1 c.args.count
    (not_full x.limits.entries x.entries c.from.result c.from.ensures c.if-self-from.false) c.in-Some.ensures.room)
    (refl, c.requires.fits.input) (at_that c.args.proc c.args.stop c.args.count f c.requires.fits.fork)
    c.fork_now.new.self
    (subst (λ n. HasForked x c.args.proc n c.fork_now.new.self) c.in-Some.ensures.fits.0 c.in-Ok.ensures.ok)
