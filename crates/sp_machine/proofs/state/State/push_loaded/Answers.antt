use Rattle.std.proofs.Common.{Some, ap, sym, ◌∙◌}
use Rattle.sp_machine.proofs.TurnSteps.{at_address, loaded_both}
use Rattle.sp_machine.proofs.state.State.push_loaded.Goals as goal

pub returns-clause-done : goal.returns-clause-done
returns-clause-done c = loaded_both c.args.self.now c.args.code.now c.args.limits.now c.in-Some.at c.push_at.new.self _
    (at_address c.args.self.now c.args.code.now c.args.limits.now c.in-Some.at c.args.up c.args.var c.requires.next
    (sym c.in-Some.is ∙ c.address.ensures))
    (sym c.instruction_at.ensures.value ∙ c.in-Some-Load.is ∙ ap Some c.in-Some-Load.field-0-is)
    c.push_at.ensures.done
