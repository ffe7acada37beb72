use Rattle.std.proofs.Common.{All, take}
use Rattle.std.specs.List.{flat_map}
use Rattle.sp_code.specs.Listing.{number_text}
use Rattle.sp_codefile.specs.CodeText.{IsNumber}
use Rattle.sp_base.specs.Adds.{Adds}
use Rattle.sp_codefile.proofs.line_writer.put_numbers.Given as goal

abbrev pub invariant-loop-number : goal.invariant-loop-number
invariant-loop-number l = record {
  text : Adds l.fn.out l.out (flat_map number_text (take l.number-index l.numbers));
  fits : All IsNumber (take l.number-index l.numbers);
}
