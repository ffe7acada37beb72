use Rattle.std.proofs.Common.{◌∙◌}
use Rattle.sp_codefile.proofs.LeadLaws.{child_added}
use Rattle.sp_codefile.proofs.decoder.add_child.Goals as goal

pub returns-in-Ok-push : goal.returns-in-Ok-push
returns-in-Ok-push c = c.in-Ok-push.ensures.ok
    ∙ child_added c.args.forks.now c.pop.new.self c.in-Some.table c.args.child _ c.in-Some.ensures
    c.in-Ok.ensures.ok
