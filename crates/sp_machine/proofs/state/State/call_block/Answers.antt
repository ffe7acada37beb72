use Rattle.std.proofs.Common.{◌+◌, ◌≤◌, ◌<◌, ap, subst, ◌∙◌}
use Rattle.std.specs.Prelude.{sum}
use Rattle.sp_base.specs.declared.fault.Fault.TheVariants as fault
use Rattle.sp_machine.specs.Procs.{code_run_of, memory_of}
use Rattle.sp_machine.proofs.CallLaws.{faulted, call_f10, call_f11, call_f12, call_enough, call_fits, call_numbered}
use Rattle.sp_machine.proofs.CallLaws.{call_came}
use Rattle.sp_machine.proofs.state.State.call_block.Goals as goal

pub returns-then-self-limits-clause-came : goal.returns-then-self-limits-clause-came
returns-then-self-limits-clause-came c =
    faulted _ fault.F10 c.args.self.now (call_f10 (code_run_of c.args.self.now c.args.code.now c.args.limits.now)
    c.args.code.now c.args.layout.now c.args.up (c.args.self.now.pc + 1) c.args.self.now.stack
    (memory_of c.args.self.now) c.requires.safe c.if-self-limits.true)

pub returns-then-self-limits-2-clause-came : goal.returns-then-self-limits-2-clause-came
returns-then-self-limits-2-clause-came c =
    faulted _ fault.F11 c.args.self.now (call_f11 (code_run_of c.args.self.now c.args.code.now c.args.limits.now)
    c.args.code.now c.args.layout.now c.args.up (c.args.self.now.pc + 1) c.args.self.now.stack
    (memory_of c.args.self.now) c.requires.safe c.if-self-limits.false c.if-self-limits-2.true)

pub returns-then-self-cells-clause-came : goal.returns-then-self-cells-clause-came
returns-then-self-cells-clause-came c =
    faulted _ fault.F12 c.args.self.now (call_f12 (code_run_of c.args.self.now c.args.code.now c.args.limits.now)
    c.args.code.now c.args.layout.now c.args.up (c.args.self.now.pc + 1) c.args.self.now.stack
    (memory_of c.args.self.now) c.requires.safe c.if-self-limits.false c.if-self-limits-2.false
    (subst (λ k. c.args.limits.now.cells < c.args.self.now.cells + k)
    (c.cells_of-cells.ensures ∙ ap sum c.items.ensures) c.if-self-cells.true))

pub open_frame-requires-clause-arguments : goal.open_frame-requires-clause-arguments
open_frame-requires-clause-arguments c = call_enough (code_run_of c.args.self.now c.args.code.now c.args.limits.now)
    c.args.code.now c.args.layout.now c.args.up (c.args.self.now.pc + 1) c.args.self.now.stack
    (memory_of c.args.self.now) c.requires.safe

pub open_frame-requires-clause-fit : goal.open_frame-requires-clause-fit
open_frame-requires-clause-fit c = call_fits (code_run_of c.args.self.now c.args.code.now c.args.limits.now)
    c.args.code.now c.args.layout.now c.args.up (c.args.self.now.pc + 1) c.args.self.now.stack
    (memory_of c.args.self.now) c.requires.safe

pub open_frame-requires-clause-number : goal.open_frame-requires-clause-number
open_frame-requires-clause-number c = call_numbered (code_run_of c.args.self.now c.args.code.now c.args.limits.now)
    c.args.code.now c.args.layout.now c.args.up (c.args.self.now.pc + 1) c.args.self.now.stack
    (memory_of c.args.self.now) c.requires.safe

pub returns-clause-came : goal.returns-clause-came
returns-clause-came c =
    call_came c.args.self.now c.open_frame.new.self c.enter_block.new.self c.args.code.now c.args.limits.now
    c.args.layout.now c.args.up c.requires.safe c.if-self-limits.false c.if-self-limits-2.false
    (subst (λ k. c.args.self.now.cells + k ≤ c.args.limits.now.cells)
    (c.cells_of-cells.ensures ∙ ap sum c.items.ensures) c.if-self-cells.false)
    c.in-Ok.ensures.opened c.in-Ok.ensures.stack c.open_frame.ensures.place
    c.open_frame.ensures.same c.enter_block.result c.enter_block.ensures.came
