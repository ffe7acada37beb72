use Rattle.std.proofs.Common.{drop}
use Rattle.std.specs.List.{flat_map}
use Rattle.sp_code.specs.Listing.{number_text}
use Rattle.sp_base.specs.Adds.{Covers}
use Rattle.sp_code.proofs.lines.put_numbers.Given as goal

abbrev pub invariant-loop-number : goal.invariant-loop-number
invariant-loop-number l =
    Covers l.fn.out l.out (flat_map number_text (drop l.number-index l.numbers)) (flat_map number_text l.numbers)
