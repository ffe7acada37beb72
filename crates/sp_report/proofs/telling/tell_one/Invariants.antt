use Rattle.std.proofs.Common.{◌≡◌, take}
use Rattle.sp_report.proofs.telling.tell_one.Given as goal

-- the watcher was told the entries so far, and keeps its texts; nothing was put
abbrev pub invariant-loop-entry : goal.invariant-loop-entry
invariant-loop-entry g l = ((goal.Watcher-dyn g l.watcher.now).told l.watcher.now.1 ≡ take l.entry-index l.entry-items)
    × ((goal.Watcher-dyn g l.watcher.now).text l.watcher.now.1
    ≡ (goal.Watcher-dyn g l.fn.watcher.now).text l.fn.watcher.now.1)
    × (l.out ≡ l.initial.out)
