use Rattle.std.proofs.Common.{◌≡◌, ◌+◌, ◌<◌, ◌≤◌, ℕ, nat_lt, true, false, None, sym, subst, refl, length, arith}
use Rattle.sp_base.specs.declared.fault.Fault.TheVariants as fault
use Rattle.sp_base.proofs.Facts.{on_ok}
use Rattle.sp_cell.specs.declared.cell.Cell.TheVariants as cell
use Rattle.sp_code.specs.Machine as m
use Rattle.sp_code.specs.Turns.{Stopped}
use Rattle.sp_code.specs.System.{fault_of}
use Rattle.sp_machine.specs.declared.state.State.{State as Proc}
use Rattle.sp_machine.specs.declared.state.Stop.TheVariants as stop
use Rattle.sp_kernel.specs.declared.handed.Handed.{Handed}
use Rattle.sp_kernel.specs.declared.kernel.Kernel.{Kernel}
use Rattle.sp_kernel.specs.Kernels.{system_of, code_run_of, IsAfterGive, IsKernel}
use Rattle.sp_kernel.specs.Procs.{config_of}
use Rattle.sp_kernel.proofs.FaultEvents.{failed, is_full, not_full}
use Rattle.sp_kernel.proofs.OpenEvents.{open_full, open_many, open_fine, open_takes, gave_open}
use Rattle.sp_kernel.proofs.kernel.Kernel.open.Goals as goal

abbrev at_open : Proc → Handed
at_open p = record { proc = p; stop = stop.Open }

pub returns-then-self-from-clause-ok : goal.returns-then-self-from-clause-ok
returns-then-self-from-clause-ok c =
    let x : Kernel = c.args.self.now in
    failed c.fail.result x c.fail.new.self c.requires.whole c.args._worker (at_open c.args.proc) (at_open c.args.proc)
    fault.F15 c.requires.fits c.requires.no_fault refl
    (open_full x.limits (system_of x) c.args.proc.target (config_of c.args.proc)
    (is_full x.limits.entries x.entries c.from.result c.from.ensures c.if-self-from.true)) c.fail.ensures.ok

many : (x : Kernel) (k : IsKernel x) (n : ℕ) → n ≡ length x.channels → x.limits.channels ≤ n
    → nat_lt x.limits.channels ((system_of x).births.channels + 1) ≡ true
many x k n e h = let f = k.channels in grind (arith, e, f, h)

few : (x : Kernel) (k : IsKernel x) (n : ℕ) → n ≡ length x.channels → n < x.limits.channels
    → nat_lt x.limits.channels ((system_of x).births.channels + 1) ≡ false
few x k n e h = let f = k.channels in grind (arith, e, f, h)

pub returns-then-count-self-clause-ok : goal.returns-then-count-self-clause-ok
returns-then-count-self-clause-ok c =
    let x : Kernel = c.args.self.now in
    failed c.fail-then-count-self.result x c.fail-then-count-self.new.self c.requires.whole c.args._worker
    (at_open c.args.proc) (at_open c.args.proc) fault.F14 c.requires.fits c.requires.no_fault refl
    (open_many x.limits (system_of x) c.args.proc.target (config_of c.args.proc)
    (not_full x.limits.entries x.entries c.from.result c.from.ensures c.if-self-from.false)
    (many x c.requires.whole c.count.result c.count.ensures c.if-count-self.true)) c.fail-then-count-self.ensures.ok

pub open_now-requires-clause-target : goal.open_now-requires-clause-target
open_now-requires-clause-target c = open_takes (code_run_of c.args.self.now) (code_run_of c.args.self.now).code
    c.requires.fits.configuration c.args.proc c.requires.fits.turn (cell.Channel (length c.args.self.now.channels))

pub returns-clause-ok : goal.returns-clause-ok
returns-clause-ok c = on_ok c.open_now.result c.open_now.ensures.ok (λ done.
    let x : Kernel = c.args.self.now in
    let h : Handed = at_open c.args.proc in
    let fine : fault_of x.limits (system_of x) (Stopped (m.Opens c.args.proc.target) (config_of c.args.proc)) ≡ None =
    open_fine x.limits (system_of x) c.args.proc.target (config_of c.args.proc)
    (not_full x.limits.entries x.entries c.from.result c.from.ensures c.if-self-from.false)
    (few x c.requires.whole c.count.result c.count.ensures c.if-count-self.false) in
    subst (IsAfterGive x c.args.proc.number h) (sym done.2)
    (gave_open x c.requires.whole c.args.proc.number c.args._worker c.requires.fits.out h refl c.requires.no_fault fine
    done.0 done.1 refl c.requires.fits.input))
