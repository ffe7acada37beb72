use Rattle.std.proofs.Common.{Result, Ok, Err, OnOk, sym, ap, subst, refl}
use Rattle.sp_code.specs.System.{fault_of}
use Rattle.sp_kernel.specs.Kernels.{system_of, IsAfterGive}
use Rattle.sp_kernel.specs.Procs.{turn_by}
use Rattle.sp_kernel.specs.Fits.{FitsHanded}
use Rattle.sp_kernel.proofs.KernelEvents.{gave_fault, gave_laid}
use Rattle.sp_kernel.proofs.kernel.Kernel.give.Goals as goal

on_ok : {A E : Type 0} (r : Result A E) (P Q : Type 0) → (P → Q) → OnOk r P → OnOk r Q
on_ok (Ok a) P Q f h = f h
on_ok (Err e) P Q f h = h

pub returns-then-self-clause-ok : goal.returns-then-self-clause-ok
returns-then-self-clause-ok c =
    on_ok c.lay.result _ _ (λ e. subst (IsAfterGive c.args.self.now c.args.handed.proc.number c.args.handed) (sym e)
    (gave_laid c.args.self.now c.requires.whole c.args.handed.proc.number c.args.worker c.requires.fits.out
    c.args.handed (refl, c.requires.fits.input) c.if-self.true)) c.lay.ensures.ok

pub fork-requires-clause-fits : goal.fork-requires-clause-fits
fork-requires-clause-fits c = subst (λ s. FitsHanded c.args.self.now c.args.worker
    (record { proc = c.args.handed.proc; stop = s })) c.in-Fork.is c.requires.fits

pub open-requires-clause-fits : goal.open-requires-clause-fits
open-requires-clause-fits c = subst (λ s. FitsHanded c.args.self.now c.args.worker
    (record { proc = c.args.handed.proc; stop = s })) c.in-Open.is c.requires.fits

pub send-requires-clause-fits : goal.send-requires-clause-fits
send-requires-clause-fits c = subst (λ s. FitsHanded c.args.self.now c.args.worker
    (record { proc = c.args.handed.proc; stop = s })) c.in-Send.is c.requires.fits

pub receive-requires-clause-fits : goal.receive-requires-clause-fits
receive-requires-clause-fits c = subst (λ s. FitsHanded c.args.self.now c.args.worker
    (record { proc = c.args.handed.proc; stop = s })) c.in-Receive.is c.requires.fits

pub end_of-requires-clause-fits : goal.end_of-requires-clause-fits
end_of-requires-clause-fits c = subst (λ s. FitsHanded c.args.self.now c.args.worker
    (record { proc = c.args.handed.proc; stop = s })) c.in-End.is c.requires.fits

pub pause-requires-clause-fits : goal.pause-requires-clause-fits
pause-requires-clause-fits c = subst (λ s. FitsHanded c.args.self.now c.args.worker
    (record { proc = c.args.handed.proc; stop = s })) c.in-Pause.is c.requires.fits

pub returns-in-Fault-clause-ok : goal.returns-in-Fault-clause-ok
returns-in-Fault-clause-ok c =
    on_ok c.fail.result _ _ (λ e. subst (IsAfterGive c.args.self.now c.args.handed.proc.number c.args.handed) (sym e)
    (gave_fault c.args.self.now c.requires.whole c.args.handed.proc.number c.args.worker c.requires.fits.out
    c.args.handed c.in-Fault.fault (refl, c.requires.fits.input) c.if-self.false
    (ap (λ s. fault_of c.args.self.now.limits (system_of c.args.self.now) (turn_by s c.args.handed.proc))
    c.in-Fault.is))) c.fail.ensures.ok
