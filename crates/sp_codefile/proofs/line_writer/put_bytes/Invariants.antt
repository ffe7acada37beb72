use Rattle.std.proofs.Common.{All, take}
use Rattle.std.specs.List.{flat_map}
use Rattle.sp_codefile.specs.CodeText.{byte_text}
use Rattle.sp_codefile.specs.CodeText.{IsByte}
use Rattle.sp_base.specs.Adds.{Adds}
use Rattle.sp_codefile.proofs.line_writer.put_bytes.Given as goal

abbrev pub invariant-loop-byte : goal.invariant-loop-byte
invariant-loop-byte l = record {
  text : Adds l.fn.out l.out (flat_map byte_text (take l.byte-index l.bytes));
  fits : All IsByte (take l.byte-index l.bytes);
}
