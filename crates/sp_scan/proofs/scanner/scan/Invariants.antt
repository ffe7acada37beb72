use Rattle.std.proofs.Common.{length}
use Rattle.sp_scan.proofs.TokenPrefixes.{ScannedSoFar}
use Rattle.sp_scan.proofs.scanner.scan.Given as goal

-- the tokens so far are those of the text in front of the rest, and no rule is broken there
abbrev pub invariant-items : goal.invariant-items
invariant-items l = ScannedSoFar l.text l.rest l.tokens l.at

abbrev pub decreases-items : goal.decreases-items
decreases-items l = length l.rest
