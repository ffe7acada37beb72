use Rattle.std.proofs.Common.{subst}
use Rattle.sp_code.specs.Memory.{CodeRun}
use Rattle.sp_code.specs.PlainStore.{plain}
use Rattle.sp_code.specs.System.{IsSystem}
use Rattle.sp_kernel.specs.Kernels.{code_run_of, system_of}
use Rattle.sp_replay.specs.Replays.{IsUnfitAt}
use Rattle.sp_replay.proofs.HistorySteps.{is_system}
use Rattle.sp_replay.proofs.Entries.{unfit, where_false, at_or}
use Rattle.sp_replay.proofs.follow.FollowedRun.follow_all.Goals as goal

pub returns-then-not-fits : goal.returns-then-not-fits
returns-then-not-fits c =
    let x = c.loop-index.self.kernel in
    let i = c.loop-index.invariant in
    subst (λ (g : CodeRun). IsUnfitAt g c.args.entries.now c.loop-index.index) i.code_run
    (unfit (code_run_of x) c.args.entries.now c.loop-index.index _ (system_of x)
    (at_or c.args.entries.now c.loop-index.index _ c.loop-index-test.true)
    (subst (λ (es : _). IsSystem plain (code_run_of x) es (system_of x)) i.entries (is_system x i.stands.follows.come))
    (where_false c.in-Ok.fits _ _ c.in-Ok.ensures c.if-not-fits.true))
