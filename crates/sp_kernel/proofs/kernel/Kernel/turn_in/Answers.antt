use Rattle.std.proofs.Common.{ℕ, Some, None, sym, ap, refl, subst, ◌∙◌}
use Rattle.sp_kernel.specs.Kernels.{Takes}
use Rattle.sp_kernel.specs.Asks.{LeavesNote, GotMatchesNote}
use Rattle.sp_kernel.specs.declared.ask.Got.TheVariants as got
use Rattle.sp_kernel.specs.declared.ask.Ask.TheVariants as ask
use Rattle.sp_kernel.proofs.NoteSteps.{noted_turn, same_code_run}
use Rattle.sp_code.specs.Memory.{CodeRun}
use Rattle.sp_kernel.proofs.kernel.Kernel.turn_in.Goals as goal

pub returns-in-None : goal.returns-in-None
returns-in-None c =
    let t : Takes c.give.new.self c.args.worker c.take.new.self None =
    subst (Takes c.give.new.self c.args.worker c.take.new.self) c.in-None.is c.take.ensures in
    subst (λ n. LeavesNote c.args.self.now c.args.worker (ask.Turn (Some c.args.handed)) c.take.new.self c.idle.result
    (record { worker = c.args.worker; given = Some n; event = Some c.newest-event.result; got = None }))
    (sym c.number-number.ensures)
    (noted_turn c.args.self.now c.args.worker c.args.handed c.give.new.self c.take.new.self None c.idle.result
    c.newest-event.result c.requires.fits c.in-Ok.ensures.ok t (c.newest-event.ensures _ _ c.in-Ok.ensures.ok.entry)
    c.idle.ensures)

pub returns-in-Some : goal.returns-in-Some
returns-in-Some c =
    let t : Takes c.give.new.self c.args.worker c.take.new.self (Some c.in-Some.proc) =
    subst (Takes c.give.new.self c.args.worker c.take.new.self) c.in-Some.is c.take.ensures in
    let answer : GotMatchesNote c.take.new.self (got.Work c.in-Some.proc) (Some c.in-Some.proc.number) = (
      refl,
      ap (λ s. s.condition c.in-Some.proc.number) t.system ∙ (t.work c.in-Some.proc refl).0,
      (t.work c.in-Some.proc refl).1 ∙ ap (λ (g : CodeRun). g.input)
          (sym (same_code_run c.give.new.self c.take.new.self t.code_run)),
    ) in
    subst (λ (n : ℕ × ℕ). LeavesNote c.args.self.now c.args.worker (ask.Turn (Some c.args.handed)) c.take.new.self
    (got.Work c.in-Some.proc) (record {
      worker = c.args.worker;
      given = Some n.0;
      event = Some c.newest-event.result;
      got = Some n.1;
    }))
    (λ i. (sym c.number-number.ensures i, sym c.number.ensures i))
    (noted_turn c.args.self.now c.args.worker c.args.handed c.give.new.self c.take.new.self (Some c.in-Some.proc)
    (got.Work c.in-Some.proc) c.newest-event.result c.requires.fits c.in-Ok.ensures.ok t
    (c.newest-event.ensures _ _ c.in-Ok.ensures.ok.entry) answer)
