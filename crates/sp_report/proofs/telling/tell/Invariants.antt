use Rattle.std.proofs.Common.{◌≡◌, ◌++◌, false, filter}
use Rattle.std.specs.List.{flat_map}
use Rattle.sp_report.specs.WatcherReports.{is_chosen}
use Rattle.sp_report.proofs.telling.tell.Given as goal

-- the texts of the chosen watchers so far
abbrev pub invariant-loop-watcher : goal.invariant-loop-watcher
invariant-loop-watcher g l = (l.fn.watchers.items ≡ l.yielded ++ l.watcher-iterator.rest.items)
    × (l.out.is_lost ≡ false
    → l.out.items.items ≡ flat_map (λ w. (goal.Watcher-dyn g (w.vtable, w.value)).text w.value l.journal.entries)
    (filter (λ w. is_chosen l.show ((goal.Watcher-dyn g (w.vtable, w.value)).title w.value)) l.yielded))
