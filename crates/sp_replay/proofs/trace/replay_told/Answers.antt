use Rattle.std.proofs.Common.{◌∙◌, subst}
use Rattle.sp_code.specs.Memory.{CodeRun}
use Rattle.sp_code.specs.Sound.{run_of}
use Rattle.sp_kernel.specs.Kernels.{system_of}
use Rattle.sp_lines.specs.EntryPlaces.{DescribesEntries}
use Rattle.sp_replay.proofs.TellingLaws.{traced}
use Rattle.sp_replay.proofs.trace.replay_told.Goals as goal

pub returns-clause-traces : goal.returns-clause-traces
returns-clause-traces c =
    let f = c.follow_all_told.new.self in
    let ws = c.follow_all_told.new.out in
    let begun = c.in-Ok.ensures.code_run in
    let i = c.in-Ok-follow_all_told.ensures in
    traced (run_of c.args.code.value c.args.input.value c.args.limits.now) c.args.journal.now.entries f ws
    c.in-Ok-finish.replayed (i.code_run ∙ begun) (i.entries ∙ c.items.ensures)
    (subst (λ (g : CodeRun). DescribesEntries g f.kernel.journal.entries ws (system_of f.kernel)) begun i.told)
    c.in-Ok-finish.ensures.at i.stands
