use Rattle.std.proofs.Common.{length}
use Rattle.sp_scan.proofs.TokenPrefixes.{PassedSoFar}
use Rattle.sp_scan.proofs.scanner.first_breach.Given as goal

-- the text in front of the rest has tokens, and no rule is broken there
abbrev pub invariant-items : goal.invariant-items
invariant-items l = PassedSoFar l.text l.rest l.at

abbrev pub decreases-items : goal.decreases-items
decreases-items l = length l.rest
