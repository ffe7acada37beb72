use Rattle.std.proofs.Common.{◌≤◌, length}
use Rattle.sp_varsets.proofs.WordChanges.{Added, IsNewsOf}
use Rattle.sp_varsets.proofs.var_set.VarSet.add.Given as goal

abbrev pub invariant-words : goal.invariant-words
invariant-words l =
    (length l.others ≤ length l.self.words)
    × Added l.initial.self.words l.self.words l.others l.hidden.words l.k
    × IsNewsOf l.initial.self.words l.self.words l.k l.changed
