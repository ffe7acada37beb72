use Rattle.std.proofs.Common.{rules, ◌≡◌, ap, sym, subst, refl}
use Rattle.sp_kernel.specs.declared.handed.Handed.{Handed}
use Rattle.sp_kernel.specs.declared.kernel.Kernel.{Kernel}
use Rattle.sp_machine.specs.declared.state.State.{State as Proc}
use Rattle.sp_machine.specs.declared.state.Stop.TheVariants as stop
use Rattle.sp_kernel.specs.Kernels.{IsAfterGive, kernel_after_pause}
use Rattle.sp_kernel.specs.Procs.{EntersAs}
use Rattle.sp_kernel.proofs.KernelEvents.{gave_pause, there}
use Rattle.sp_kernel.proofs.kernel.Kernel.pause.Goals as goal

pub place-requires : goal.place-requires
place-requires c =
    let here = there c.args.self.now c.requires.whole c.args.proc.number c.args._worker c.requires.fits.out in
    let slots : c.note_ready.new.self.slots ≡ c.args.self.now.slots = search rules in
    record { there = rw (c.number-number.ensures, slots) here }

pub returns-clause-ok : goal.returns-clause-ok
returns-clause-ok c =
    let x : Kernel = c.args.self.now in
    let h : Handed = record { proc = c.args.proc; stop = stop.Pause } in
    let enters : EntersAs c.args.proc c.enter.new.self = (
      c.enter.ensures.config,
      ap (λ (p : Proc). p.number) c.enter.ensures.state,
      ap (λ (p : Proc). p.target) c.enter.ensures.state,
      ap (λ (p : Proc). p.input.value) c.enter.ensures.state,
    ) in
    let after : c.place.new.self ≡ kernel_after_pause c.args.proc.number c.enter.new.self x = search rules in
    subst (IsAfterGive x c.args.proc.number h) (sym after)
    (gave_pause x c.requires.whole c.args.proc.number c.args._worker c.requires.fits.out h c.enter.new.self
    (refl, c.requires.fits.input) refl enters c.requires.no_fault)
