use Rattle.std.proofs.Common.{arith, ◌≡◌, true, false}
use Rattle.std.proofs.lemmas.Bool.Decides.{nat_tests}
use Rattle.sp_tree.specs.Characters.{is_name_byte}
use Rattle.sp_scan.proofs.Along.{run_more, run_done, no_first, other_first}
use Rattle.sp_scan.proofs.runs.after_name.Goals as goal

pub more-preserved : goal.more-preserved
more-preserved c = let n : is_name_byte c.in-Some.first ≡ true = grind (arith, nat_tests) in
    run_more is_name_byte _ _ _ c.in-Some.first c.more.invariant c.in-Some.ensures n

pub returns-then-not-first : goal.returns-then-not-first
returns-then-not-first c = let n : is_name_byte c.in-Some.first ≡ false = grind (arith, nat_tests) in
    run_done is_name_byte _ _ c.more.invariant (other_first is_name_byte _ c.in-Some.first _ c.in-Some.ensures n)

pub returns-in_default : goal.returns-in_default
returns-in_default c = run_done is_name_byte _ _ c.more.invariant (no_first is_name_byte _ c.in_default.ensures)
