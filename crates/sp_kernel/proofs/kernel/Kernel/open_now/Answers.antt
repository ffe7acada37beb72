use Rattle.std.proofs.Common.{rules, ◌≡◌, ◌∙◌, ap, length}
use Rattle.sp_machine.specs.declared.state.State.{State as Proc}
use Rattle.sp_machine.specs.Answers.{state_after_answer}
use Rattle.sp_machine.specs.declared.proc.Answer.TheVariants as answer
use Rattle.sp_kernel.specs.Procs.{config_of}
use Rattle.sp_kernel.proofs.kernel.Kernel.open_now.Goals as goal

pub returns-in-Ok-clause-ok : goal.returns-in-Ok-clause-ok
returns-in-Ok-clause-ok c =
    let e : c.note_ready.new.self.channels ≡ c.args.self.now.channels = search rules in (
      c.resume.new.self,
      (
        ap config_of c.resume.ensures ∙ (λ i. config_of
            (state_after_answer (answer.Opened ((c.in-Ok.ensures.number ∙ ap length e) i)) (c.enter.ensures.state i))),
        ap (λ (p : Proc). p.number) c.resume.ensures ∙ ap (λ (p : Proc). p.number) c.enter.ensures.state,
        ap (λ (p : Proc). p.input.value) c.resume.ensures ∙ ap (λ (p : Proc). p.input.value) c.enter.ensures.state,
      ),
      search rules,
    )
