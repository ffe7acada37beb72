use Rattle.std.proofs.Common.{refl, subst}
use Rattle.sp_words.specs.Ranges.{AreInRange}
use Rattle.superpascal.proofs.Parts.{command_by, text_command_by}
use Rattle.superpascal.proofs.top.dispatch.Goals as goal

pub run-requires-clause-range : goal.run-requires-clause-range
run-requires-clause-range g c κs within = subst AreInRange c.in-Run.is
    (c.accepted_options_are_in_range.ensures.accepted c.requires.asked.0 c.args.command c.requires.asked.1)

pub run_generated-requires-clause-size : goal.run_generated-requires-clause-size
run_generated-requires-clause-size g c κs within =
    (subst AreInRange c.in-Gen.is
    (c.accepted_options_are_in_range.ensures.accepted c.requires.asked.0 c.args.command c.requires.asked.1)).0

pub run_generated-requires-clause-workers : goal.run_generated-requires-clause-workers
run_generated-requires-clause-workers g c κs within =
    (subst AreInRange c.in-Gen.is
    (c.accepted_options_are_in_range.ensures.accepted c.requires.asked.0 c.args.command c.requires.asked.1)).1

pub replay-requires : goal.replay-requires
replay-requires g c = record {
  range = subst AreInRange c.in-Replay.is
      (c.accepted_options_are_in_range.ensures.accepted c.requires.asked.0 c.args.command c.requires.asked.1);
}

pub exec_file-requires-clause-range : goal.exec_file-requires-clause-range
exec_file-requires-clause-range g c κs within = subst AreInRange c.in-Exec.is
    (c.accepted_options_are_in_range.ensures.accepted c.requires.asked.0 c.args.command c.requires.asked.1)

pub returns-in-Check : goal.returns-in-Check
returns-in-Check g c = text_command_by _ _ _ c.args.command _ c.check.result c.in-Check.is (refl, refl) c.check.ensures

pub returns-in-Code : goal.returns-in-Code
returns-in-Code g c = text_command_by _ _ _ c.args.command _ c.list.result c.in-Code.is (refl, refl) c.list.ensures

pub returns-in-Build : goal.returns-in-Build
returns-in-Build g c = text_command_by _ _ _ c.args.command _ c.build.result c.in-Build.is (refl, refl) c.build.ensures

pub returns-in-Sets : goal.returns-in-Sets
returns-in-Sets g c =
    text_command_by _ _ _ c.args.command _ c.tell_sets.result c.in-Sets.is (refl, refl) c.tell_sets.ensures

pub returns-in-Format : goal.returns-in-Format
returns-in-Format g c =
    text_command_by _ _ _ c.args.command _ c.lay_out.result c.in-Format.is (refl, refl) c.lay_out.ensures

pub returns-in-Run : goal.returns-in-Run
returns-in-Run g c = command_by _ _ _ c.args.command _ c.run.result c.in-Run.is c.run.ensures

pub returns-in-Gen : goal.returns-in-Gen
returns-in-Gen g c = command_by _ _ _ c.args.command _ c.run_generated.result c.in-Gen.is
    (c.run_generated.ensures _ _ _ (refl, refl))

pub returns-in-Replay : goal.returns-in-Replay
returns-in-Replay g c = command_by _ _ _ c.args.command _ c.replay.result c.in-Replay.is (c.replay.ensures _)

pub returns-in-Exec : goal.returns-in-Exec
returns-in-Exec g c = command_by _ _ _ c.args.command _ c.exec_file.result c.in-Exec.is (c.exec_file.ensures _)
