use Rattle.std.proofs.Common.{rules, ◌≡◌, ◌∙◌, ap, subst}
use Rattle.sp_machine.specs.declared.state.State.{State as Proc}
use Rattle.sp_machine.specs.Answers.{state_after_answer}
use Rattle.sp_machine.specs.declared.proc.Answer.TheVariants as answer
use Rattle.std.proofs.Common.{List, slice_get}
use Rattle.sp_kernel.specs.declared.slot.Slot.{Slot}
use Rattle.sp_kernel.specs.Receives.{IsSenderWith}
use Rattle.sp_kernel.specs.Procs.{config_of}
use Rattle.sp_kernel.proofs.kernel.Kernel.receive_second.Goals as goal

pub returns-clause-ok : goal.returns-clause-ok
returns-clause-ok c =
    let e : c.note_both.new.self.slots ≡ c.args.self.now.slots = search rules in (
      c.resume.new.self,
      c.fetch-cells.ensures.given.0,
      c.fetch-cells.result,
      subst (λ (l : List Slot). IsSenderWith (slice_get l c.args.other) c.fetch-cells.ensures.given.0
          c.fetch-cells.result) e c.fetch-cells.ensures.given.1,
      (
        ap config_of c.resume.ensures ∙ (λ i. config_of
            (state_after_answer (answer.Received c.fetch-cells.result) (c.enter.ensures.state i))),
        ap (λ (p : Proc). p.number) c.resume.ensures ∙ ap (λ (p : Proc). p.number) c.enter.ensures.state,
        ap (λ (p : Proc). p.input.value) c.resume.ensures ∙ ap (λ (p : Proc). p.input.value) c.enter.ensures.state,
      ),
      search rules,
    )
