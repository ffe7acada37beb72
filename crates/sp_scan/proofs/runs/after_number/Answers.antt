use Rattle.std.proofs.Common.{arith, ◌≡◌, true, false}
use Rattle.std.proofs.lemmas.Bool.Decides.{nat_tests}
use Rattle.sp_tree.specs.Characters.{is_digit}
use Rattle.sp_scan.proofs.Along.{run_more, run_done, no_first, other_first}
use Rattle.sp_scan.proofs.runs.after_number.Goals as goal

pub more-preserved : goal.more-preserved
more-preserved c = let n : is_digit c.in-Some.first ≡ true = grind (arith, nat_tests) in
    run_more is_digit _ _ _ c.in-Some.first c.more.invariant c.in-Some.ensures n

pub returns-then-not-is_ascii_digit : goal.returns-then-not-is_ascii_digit
returns-then-not-is_ascii_digit c = let n : is_digit c.in-Some.first ≡ false = grind (arith, nat_tests) in
    run_done is_digit _ _ c.more.invariant (other_first is_digit _ c.in-Some.first _ c.in-Some.ensures n)

pub returns-in_default : goal.returns-in_default
returns-in_default c = run_done is_digit _ _ c.more.invariant (no_first is_digit _ c.in_default.ensures)
