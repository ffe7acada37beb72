use Rattle.std.proofs.Common.{Option, None, ℕ, sym, subst}
use Rattle.sp_kernel.specs.Asks.{LeavesNote}
use Rattle.sp_kernel.specs.declared.ask.Ask.TheVariants as ask
use Rattle.sp_kernel.proofs.NoteSteps.{none_after, noted_abandon}
use Rattle.sp_kernel.proofs.kernel.Kernel.give_up.Goals as goal

pub idle-requires : goal.idle-requires
idle-requires c = record { nothing = none_after c.args.self.now _ c.abandon.new.self c.abandon.ensures }

pub returns : goal.returns
returns c = subst (λ (n : Option ℕ). LeavesNote c.args.self.now c.args.worker (ask.Abandon c.args.proc)
    c.abandon.new.self
    c.idle.result (record { worker = c.args.worker; given = n; event = None; got = None }))
    (sym c.number_in-given.ensures)
    (noted_abandon c.args.self.now c.args.worker c.args.proc c.abandon.new.self c.idle.result c.requires.fits
    c.abandon.ensures c.idle.ensures)
