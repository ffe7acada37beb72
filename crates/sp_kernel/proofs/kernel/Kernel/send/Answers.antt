use Rattle.std.proofs.Common.{◌≡◌, ◌≢◌, ℕ, ◌==◌, Bool, true, false, Option, Some, None}
use Rattle.std.proofs.Common.{slice_get, sym, ap, subst, refl, ◌∙◌, arith}
use Rattle.sp_base.proofs.Facts.{on_ok}
use Rattle.sp_base.specs.declared.fault.Fault.{Fault}
use Rattle.sp_base.specs.declared.fault.Fault.TheVariants as fault
use Rattle.sp_cell.specs.declared.cell.Cell.{Cell}
use Rattle.sp_journal.specs.declared.entry.Way.TheVariants as way
use Rattle.sp_channel.specs.declared.channels.Pending.{Pending}
use Rattle.sp_machine.specs.declared.state.State.{State as Proc}
use Rattle.sp_kernel.specs.declared.handed.Handed.{Handed}
use Rattle.sp_machine.specs.declared.state.Stop.TheVariants as stop
use Rattle.sp_kernel.specs.declared.kernel.Kernel.{Kernel}
use Rattle.sp_kernel.specs.Kernels.{system_of, IsAfterGive}
use Rattle.sp_kernel.specs.Procs.{config_of}
use Rattle.sp_kernel.proofs.KernelEvents.{there}
use Rattle.sp_kernel.proofs.FaultEvents.{failed, is_full, not_full}
use Rattle.sp_kernel.proofs.SendEvents.{full_fault, fault_free, fault_same, fault_other, receiver_takes}
use Rattle.sp_kernel.proofs.SendEvents.{gave_first, gave_met}
use Rattle.sp_kernel.proofs.Tables.{table_has}
use Rattle.sp_kernel.proofs.OfferEvents.{waiter_there}
use Rattle.sp_kernel.proofs.kernel.Kernel.send.Goals as goal

abbrev sends : Proc → ℕ → ℕ → Rattle.std.proofs.Common.List Cell → Handed
sends p c k cs = record { proc = p; stop = stop.Send c k cs }

pub returns-then-self-from-clause-ok : goal.returns-then-self-from-clause-ok
returns-then-self-from-clause-ok c =
    let x : Kernel = c.args.self.now in
    failed c.fail.result x c.fail.new.self c.requires.whole c.args._worker
    (sends c.args.proc c.args.channel c.args.message c.args.cells) c.sending.result fault.F15 c.requires.fits
    c.requires.no_fault c.sending.ensures
    (full_fault x.limits (system_of x) c.args.channel c.args.message c.args.cells (config_of c.args.proc)
    (is_full x.limits.entries x.entries c.from.result c.from.ensures c.if-self-from.true)) c.fail.ensures.ok

pub returns-in-Send-clause-ok : goal.returns-in-Send-clause-ok
returns-in-Send-clause-ok c =
    let x : Kernel = c.args.self.now in
    let here : slice_get x.channels c.args.channel ≡ Some (Some c.in-Some.first) =
    table_has x.channels c.args.channel None (Some c.in-Some.first) c.requires.fits.offered
    (sym c.pending.ensures ∙ c.in-Some.is) in
    failed c.fail-in-Send.result x c.fail-in-Send.new.self c.requires.whole c.args._worker
    (sends c.args.proc c.args.channel c.args.message c.args.cells) c.sending-in-Send.result fault.F6 c.requires.fits
    c.requires.no_fault c.sending-in-Send.ensures
    (fault_same x c.requires.whole c.args.channel c.args.message c.args.cells (config_of c.args.proc)
    (not_full x.limits.entries x.entries c.from.result c.from.ensures c.if-self-from.false) c.in-Some.first here
    c.in-Send.is) c.fail-in-Send.ensures.ok

other_message : (a b : ℕ) → a ≢ b → (a == b) ≡ false
other_message a b n = grind (arith, n)

pub returns-then-first-message-clause-ok : goal.returns-then-first-message-clause-ok
returns-then-first-message-clause-ok c =
    let x : Kernel = c.args.self.now in
    let here : slice_get x.channels c.args.channel ≡ Some (Some c.in-Some.first) =
    table_has x.channels c.args.channel None (Some c.in-Some.first) c.requires.fits.offered
    (sym c.pending.ensures ∙ c.in-Some.is) in
    failed c.fail-then-first-message.result x c.fail-then-first-message.new.self c.requires.whole c.args._worker
    (sends c.args.proc c.args.channel c.args.message c.args.cells) c.sending-then-first-message.result fault.F7
    c.requires.fits c.requires.no_fault c.sending-then-first-message.ensures
    (fault_other x c.requires.whole c.args.channel c.args.message c.args.cells (config_of c.args.proc)
    (not_full x.limits.entries x.entries c.from.result c.from.ensures c.if-self-from.false) c.in-Some.first here
    c.in-Receive.is
    ∙ ap (λ b. Rattle.std.proofs.Common.if◌then◌else◌ b None (Some fault.F7))
    (other_message c.in-Some.first.message c.args.message c.if-first-message.true))
    c.fail-then-first-message.ensures.ok

same_message : (a b : ℕ) → a ≡ b → (a == b) ≡ true
same_message a b n = grind (arith, n)

none_if : (b : Bool) → b ≡ true → ◌≡◌ {A = Option Fault} (Rattle.std.proofs.Common.if◌then◌else◌ b None (Some fault.F7))
    None
none_if true e = refl
none_if false e = absurd (cc e)

pub send_second-requires-clause-there : goal.send_second-requires-clause-there
send_second-requires-clause-there c =
    let x : Kernel = c.args.self.now in
    let here : slice_get x.channels c.args.channel ≡ Some (Some c.in-Some.first) =
    table_has x.channels c.args.channel None (Some c.in-Some.first) c.requires.fits.offered
    (sym c.pending.ensures ∙ c.in-Some.is) in (
      there x c.requires.whole c.args.proc.number c.args._worker c.requires.fits.out,
      waiter_there x c.requires.whole c.args.channel c.in-Some.first here,
    )

pub send_second-requires-clause-receiver : goal.send_second-requires-clause-receiver
send_second-requires-clause-receiver c =
    let x : Kernel = c.args.self.now in
    let here : slice_get x.channels c.args.channel ≡ Some (Some c.in-Some.first) =
    table_has x.channels c.args.channel None (Some c.in-Some.first) c.requires.fits.offered
    (sym c.pending.ensures ∙ c.in-Some.is) in
    let fine = fault_other x c.requires.whole c.args.channel c.args.message c.args.cells (config_of c.args.proc)
    (not_full x.limits.entries x.entries c.from.result c.from.ensures c.if-self-from.false) c.in-Some.first here
    c.in-Receive.is
    ∙ none_if (c.in-Some.first.message == c.args.message)
    (same_message c.in-Some.first.message c.args.message c.if-first-message.false) in
    receiver_takes x c.requires.whole c.args._worker (sends c.args.proc c.args.channel c.args.message c.args.cells)
    c.args.channel c.args.message c.args.cells refl c.requires.no_fault fine c.requires.fits c.in-Some.first here
    c.in-Receive.is

pub returns-in-None-clause-ok : goal.returns-in-None-clause-ok
returns-in-None-clause-ok c = on_ok c.send_first.result c.send_first.ensures.ok (λ done.
    let x : Kernel = c.args.self.now in
    let h : Handed = sends c.args.proc c.args.channel c.args.message c.args.cells in
    let here : slice_get x.channels c.args.channel ≡ Some None =
    table_has x.channels c.args.channel None None c.requires.fits.offered (sym c.pending.ensures ∙ c.in-None.is) in
    let fine = fault_free x c.requires.whole c.args.channel c.args.message c.args.cells (config_of c.args.proc)
    (not_full x.limits.entries x.entries c.from.result c.from.ensures c.if-self-from.false) here in
    subst (IsAfterGive x c.args.proc.number h) (sym done.2)
    (gave_first x c.requires.whole c.args.proc.number c.args._worker c.requires.fits.out h c.args.channel
    c.args.message c.args.cells refl c.requires.no_fault fine done.0 done.1 refl c.requires.fits.input here))

pub returns-else-first-message-clause-ok : goal.returns-else-first-message-clause-ok
returns-else-first-message-clause-ok c = on_ok c.send_second.result c.send_second.ensures.ok (λ done.
    let x : Kernel = c.args.self.now in
    let h : Handed = sends c.args.proc c.args.channel c.args.message c.args.cells in
    let here : slice_get x.channels c.args.channel ≡ Some (Some c.in-Some.first) =
    table_has x.channels c.args.channel None (Some c.in-Some.first) c.requires.fits.offered
    (sym c.pending.ensures ∙ c.in-Some.is) in
    let first_is : ◌≡◌ {A = Pending} c.in-Some.first
    (record { way = way.Receive; process = c.in-Some.first.process; message = c.args.message }) =
    λ i. record {
      way = c.in-Receive.is i;
      process = c.in-Some.first.process;
      message = c.if-first-message.false i;
    } in
    let fine = fault_other x c.requires.whole c.args.channel c.args.message c.args.cells (config_of c.args.proc)
    (not_full x.limits.entries x.entries c.from.result c.from.ensures c.if-self-from.false) c.in-Some.first here
    c.in-Receive.is
    ∙ none_if (c.in-Some.first.message == c.args.message)
    (same_message c.in-Some.first.message c.args.message c.if-first-message.false) in
    let (ready, receiver, enters, receives, kernel_is) = done in
    subst (IsAfterGive x c.args.proc.number h) (sym kernel_is)
    (gave_met x c.requires.whole c.args.proc.number c.args._worker c.requires.fits.out h c.args.channel
    c.args.message c.args.cells refl c.requires.no_fault fine ready enters refl c.requires.fits.input
    c.in-Some.first.process (here ∙ ap (λ (o : Pending). Some (Some o)) first_is) receiver receives))
