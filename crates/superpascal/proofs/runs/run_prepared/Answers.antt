use Rattle.superpascal.proofs.RunFacts.{is_run_if, ready_held, ready_if}
use Rattle.superpascal.proofs.runs.run_prepared.Goals as goal

pub run_program-requires-clause-program : goal.run_program-requires-clause-program
run_program-requires-clause-program g c κs within =
    ready_held c.accepted_programs_are_ready.ensures c.args.code c.args.input c.args.workers c.args.limits.now
    c.requires.range
    c.in-Ok.code.value c.in-Ok-new.input.value c.in-Ok.ensures.ok c.in-Ok-new.ensures.ok c.requires.code

pub returns-clause-ready : goal.returns-clause-ready
returns-clause-ready g c =
    ready_if c.accepted_programs_are_ready.ensures c.args.code c.args.input c.args.workers c.args.limits.now
    c.requires.range
    c.in-Ok.code.value c.in-Ok-new.input.value c.in-Ok.ensures.ok c.in-Ok-new.ensures.ok c.requires.code
    c.run_program.result
    c.run_program.ensures.program

pub returns-clause-run : goal.returns-clause-run
returns-clause-run g c =
    is_run_if c.accepted_programs_are_ready.ensures c.args.code c.args.input c.args.workers c.args.limits.now
    c.requires.range
    c.in-Ok.code.value c.in-Ok-new.input.value c.in-Ok.ensures.ok c.in-Ok-new.ensures.ok
    c.races_are_shown.ensures.shown
    c.run_program.result c.run_program.ensures.program
