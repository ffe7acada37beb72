-- Rows for every number above a limit: the width of a text, and the last value of a forall. A number of 19 digits is
-- one of them, and the prover does not count up to it.
use Rattle.std.proofs.Common.{◌≡◌, ℕ, zero, suc, ◌+◌, ◌-◌, ◌<◌, List, [], ◌∷◌, length, Some, Bool, true, false, refl}
use Rattle.std.proofs.Common.{ap, ◌∙◌, arith}
use Rattle.std.proofs.Common.{length-append}
use Rattle.std.specs.Prelude.{ℤ, pos, negsuc, ◌-ℤ◌, ◌+ℤ◌, nat_abs, nat_lt, int_le, replicate, if◌then◌else◌}
use Rattle.std.proofs.lemmas.Bool.Decides.{nat_tests}
use Rattle.std.proofs.lemmas.List.{length-replicate}
use Rattle.std.proofs.lemmas.Bool.{lt-ltb as less}
use Rattle.sp_base.specs.declared.fault.Fault.TheVariants as fault
use Rattle.sp_meaning.specs.Actions.{Action, Stepped, in_width, indexed_children, new_processes, write}
use Rattle.sp_meaning.specs.EffectTree.{run_tree}
use Rattle.sp_meaning.specs.LocalWork.{RunInput, Identity, LocalState, Process, bind, give, fail, write_location}
use Rattle.sp_meaning.specs.LocalWork.{Output, Written}
use Rattle.sp_meaning.specs.LocalWork.{WorkOutcome, Computed, EndsInFault, same_loc}
use Rattle.sp_meaning.specs.Run.{Store, run}
use Rattle.sp_meaning.specs.SuperPascal.{action_of, first_store, root as root_process}
use Rattle.sp_meaning.specs.Texts.{right_justified}
use Rattle.sp_tree.specs.Plain.{Stmt, Empty}
use Rattle.run_tests.proofs.FirstSteps.{ends, first_fault, goes_on}
use Rattle.run_tests.proofs.Goes.{Goes, of, root, root_meets}
use Rattle.run_tests.proofs.Programs.{forks, least, writes_wide}

module _ (n : ℕ) (above : 100 < n) where
  not_below : int_le (pos n) (pos 0) ≡ false
  not_below = grind (arith, nat_tests)

  size : length (right_justified n (97 ∷ [])) ≡ (n - 1) + 1
  size = length-append (replicate (n - 1) 32) (97 ∷ []) ∙ ap (λ k. k + 1) (length-replicate (n - 1) 32)

  too_long : nat_lt 100 (0 + length (right_justified n (97 ∷ []))) ≡ true
  too_long = less 100 (0 + length (right_justified n (97 ∷ []))) (omega (arith, size, above))

  abbrev g : RunInput
  g = of (writes_wide n)

  abbrev first : Process
  first = root_process g

  abbrev text : List ℕ
  text = right_justified n (97 ∷ [])

  text_is : run (in_width false (97 ∷ []) (Some (pos n))) first.who first.own (first_store g)
      ≡ (Computed text first.own, first_store g)
  text_is = rw not_below refl

  write_ends : (bs : List ℕ) → nat_lt 100 (0 + length bs) ≡ true
      → (run (write g bs) first.who first.own (first_store g)).0 ≡ EndsInFault fault.F16
  write_ends bs e = go (nat_lt 100 (0 + length bs)) e
    where
      go : (b : Bool) → b ≡ true
          → (run (if b then fail fault.F16 else write_location Output (Written bs)) first.who first.own
          (first_store g)).0 ≡ EndsInFault fault.F16
      go true e = refl
      go false e = absurd (cc e)

  step_ends : (run_tree same_loc (action_of g first) (first_store g)).0 ≡ EndsInFault fault.F16
  step_ends = ap (λ (r : WorkOutcome Action × Store). r.0)
      (goes_on (in_width false (97 ∷ []) (Some (pos n))) (λ bs. bind (write g bs) (λ u. give (Stepped [])))
      first.who first.own (first_store g) text first.own (first_store g) text_is)
      ∙ ends (write g text) (λ u. give (Stepped [])) first.who first.own (first_store g) fault.F16
      (write_ends text too_long)

  wide_faults : Goes g (root ∷ []) 1 [] (root_meets fault.F16)
  wide_faults = first_fault g fault.F16 step_ends

-- F16: a text is longer than the output may be
widest_faults : Goes (of (writes_wide 9223372036854775807)) (root ∷ []) 1 [] (root_meets fault.F16)
widest_faults = wide_faults 9223372036854775807 (omega (arith))

children_number : (x : ℕ) (s : Stmt) (low : ℤ) (k : ℕ) (w : Identity) (o : LocalState) (i : ℕ)
    → length (new_processes w o i (indexed_children x s low k)) ≡ k
children_number x s low zero w o i = refl
children_number x s low (suc k) w o i = ap suc (children_number x s (low +ℤ pos 1) k w o (suc i))

module _ (n : ℕ) (many : 99 < nat_abs ((pos n -ℤ negsuc 9223372036854775806) +ℤ pos 1)) where
  abbrev parent : Process
  parent = root_process (of (forks least n))

  abbrev born : List Process
  born = new_processes parent.who parent.own 0
      (indexed_children 2 Empty (negsuc 9223372036854775806)
      (nat_abs ((pos n -ℤ negsuc 9223372036854775806) +ℤ pos 1)))

  number : length born ≡ nat_abs ((pos n -ℤ negsuc 9223372036854775806) +ℤ pos 1)
  number = children_number 2 Empty (negsuc 9223372036854775806)
      (nat_abs ((pos n -ℤ negsuc 9223372036854775806) +ℤ pos 1)) parent.who parent.own 0

  some : nat_lt 0 (length born) ≡ true
  some = less 0 (length born) (omega (arith, number, many))

  too_many : nat_lt 100 (1 + length born) ≡ true
  too_many = less 100 (1 + length born) (omega (arith, number, many))

  fork_faults : Goes (of (forks least n)) (root ∷ []) 1 [] (root_meets fault.F13)
  fork_faults = record {
    steps = refl;
    output = rw some (rw too_many refl);
    end = (root, rw some (rw too_many refl), refl);
  }

-- F13: a fork over all integers makes more processes than there may be
all_fault : Goes (of (forks least 9223372036854775807)) (root ∷ []) 1 [] (root_meets fault.F13)
all_fault = fork_faults 9223372036854775807 (omega (arith))
