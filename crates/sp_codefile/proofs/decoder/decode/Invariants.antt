use Rattle.std.proofs.Common.{◌≡◌, ℕ, suc, ◌+◌, ◌≤◌, length}
use Rattle.sp_codefile.proofs.ReadLaws.{Begun}
use Rattle.sp_codefile.proofs.decoder.decode.Given as goal

abbrev pub invariant-loop-rest : goal.invariant-loop-rest
invariant-loop-rest l = (n : ℕ) × (l.line ≡ suc n) × Begun l.bytes n l.parts l.rest
    × (l.line + length l.rest ≤ length l.bytes)

abbrev pub decreases-loop-rest : goal.decreases-loop-rest
decreases-loop-rest l = length l.rest
