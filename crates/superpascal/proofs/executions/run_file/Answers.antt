use Rattle.superpascal.proofs.RunFacts.{limits_are}
use Rattle.superpascal.proofs.RunningFiles.{execution_if, sound_held}
use Rattle.superpascal.proofs.executions.run_file.Goals as goal

pub run_code_file-requires-clause-sound : goal.run_code_file-requires-clause-sound
run_code_file-requires-clause-sound g c κs within =
    sound_held c.accepted_programs_are_ready.ensures c.a_text_is_of_one_code.ensures c.args.code c.args.input
    c.args.workers c.args.limits.now
    c.requires.range c.in-Ok.code.value c.in-Ok-new.input.value c.in-Ok.ensures.ok c.in-Ok-new.ensures.ok
    c.verified_code_is_sound.ensures.sound c.requires.file

pub run_code_file-requires-clause-limits : goal.run_code_file-requires-clause-limits
run_code_file-requires-clause-limits g c κs within = limits_are c.args.workers c.args.limits.now c.requires.range

pub returns : goal.returns
returns g c =
    execution_if c.accepted_programs_are_ready.ensures c.a_text_is_of_one_code.ensures c.args.code c.args.input
    c.args.workers c.args.limits.now
    c.requires.range c.in-Ok.code.value c.in-Ok-new.input.value c.in-Ok.ensures.ok c.in-Ok-new.ensures.ok
    c.run_code_file.result c.run_code_file.ensures
