use Rattle.std.proofs.Common.{◌≡◌, ◌++◌, length}
use Rattle.sp_codefile.specs.Lines.{bytes_of}
use Rattle.sp_codefile.proofs.line_reader.read_bytes.Given as goal

abbrev pub invariant-loop-rest : goal.invariant-loop-rest
invariant-loop-rest l = l.out.items ++ bytes_of l.rest ≡ bytes_of l.text

abbrev pub decreases-loop-rest : goal.decreases-loop-rest
decreases-loop-rest l = length l.rest
