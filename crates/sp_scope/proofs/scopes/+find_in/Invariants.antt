use Rattle.std.proofs.Common.{length}
use Rattle.sp_scope.proofs.scopes.+find_in.Given as goal

-- fewer blocks are left
abbrev pub decreases-find_in : goal.decreases-find_in
decreases-find_in l = length l.bs.now
