-- Rows of a function that calls itself without end, for every limit of depth below 20,000 and of ticks above it: the
-- fault is F11. The limits are not known here, so the prover makes no call.
use Rattle.std.proofs.Common.{◌≡◌, ℕ, zero, suc, ◌+◌, ◌<◌, ◌≤◌, List, [], ◌∷◌, length, true, false, ◌==◌, refl, sym, ap}
use Rattle.std.proofs.Common.{◌∙◌, subst, arith}
use Rattle.std.specs.Prelude.{pos, nat_lt}
use Rattle.std.proofs.lemmas.Bool.{eq-eqb}
use Rattle.std.proofs.lemmas.Bool.Decides.{nat_tests}
use Rattle.std.proofs.lemmas.Bool.{lt-ltb as less}
use Rattle.sp_base.specs.declared.fault.Fault.TheVariants as fault
use Rattle.sp_meaning.specs.Actions.{Action, Stepped, push, call_by, enter, function_result, item_action, items_after}
use Rattle.sp_meaning.specs.Actions.{leave, run_items, statement_action}
use Rattle.sp_meaning.specs.EffectTree.{run_tree}
use Rattle.sp_meaning.specs.Eval.{ArgumentValue, ValueOf, Calls, actuals, address, ordinal_read, value}
use Rattle.sp_meaning.specs.LocalWork.{RunInput, Loc, Cell, LocationContent, Tree, value_in, Address, Frame, OfBlock}
use Rattle.sp_meaning.specs.LocalWork.{is_block}
use Rattle.sp_meaning.specs.LocalWork.{Identity, Item, Do, Process, Work, bind, give, assign, WorkOutcome, Computed}
use Rattle.sp_meaning.specs.LocalWork.{EndsInFault, same_loc, seek, LocalState}
use Rattle.sp_meaning.specs.Maps.{at_key}
use Rattle.sp_meaning.specs.Run.{Store, run}
use Rattle.sp_meaning.specs.SuperPascal.{action_of, first_store, fuel_of, root as root_process}
use Rattle.sp_meaning.specs.Values.{Value, Undefined, Ordinal}
use Rattle.sp_tree.specs.Plain.{Block, Assign, Nothing, Pass, ByValue}
use Rattle.run_tests.proofs.FirstSteps.{ends, first_fault, goes_on}
use Rattle.run_tests.proofs.Goes.{Goes, ample, limited, root, root_meets}
use Rattle.run_tests.proofs.Programs.{calls, calls_itself, itself, num, read, whole}

not_less : (a b : ℕ) → b ≤ a → nat_lt a b ≡ false
not_less a b h = grind (arith, nat_tests)

same : (n : ℕ) → (n == n) ≡ true
same n = eq-eqb n n refl

-- the frame of the program, and so many of the function
stack : ℕ → List Frame
stack zero = record { owner = []; number = 0; home = OfBlock 0; link = 0; references = [] } ∷ []
stack (suc k) =
    record { owner = []; number = length (stack k); home = OfBlock 1; link = 1; references = [] } ∷ stack k

some_frames : (k : ℕ) → 0 < length (stack k)
unfolding stack
some_frames zero = omega arith
some_frames (suc k) = omega arith

not_last : (k : ℕ) → (suc (length (stack k)) == 1) ≡ false
not_last k = let h = some_frames k in grind (arith, nat_tests, h)

outermost : (k : ℕ) → seek (is_block 0) 1 (stack k) ≡ stack 0
unfolding stack
outermost zero = refl
outermost (suc k) = rw (not_last k) (outermost k)

enclosing : (k : ℕ) → seek (is_block 0) (length (stack k)) (stack k) ≡ stack 0
unfolding stack
enclosing zero = refl
enclosing (suc k) = rw (same (suc (length (stack k)))) (outermost k)

abbrev who : Identity
who = record { name = []; forks = 0; opens = 0 }

abbrev own : ℕ → ℕ → ℕ → ℕ → LocalState
own k depth ticks cells = record { frames = stack k; depth = depth; ticks = ticks; cells = cells }

-- the arguments of each call
abbrev ones : List ArgumentValue
ones = ValueOf (Ordinal (pos 1)) ∷ []

abbrev cell : ℕ → ℕ → Loc
cell k x = Cell [] (length (stack k)) x

-- the variables of a call stand in the store, and its parameter has its value
abbrev laid : ℕ → Store → Store
laid k s = at_key same_loc (cell k 3) (Tree (Ordinal (pos 1))) (at_key same_loc (cell k 4) (Tree Undefined)
    (at_key same_loc (cell k 3) (Tree Undefined) s))

-- where the answer of a call stands
abbrev answer : ℕ → Address
answer k = record { spot = cell k 4; path = []; kind = 0 }

module _ (d ticks_limit : ℕ) (few : d < 20000) (more : d < ticks_limit) where
  abbrev g : RunInput
  g = limited calls_itself (record ample { ticks = ticks_limit; depth = d; cells = 100000 })

  -- one call is made
  entered : (k depth ticks cells : ℕ) → ticks < ticks_limit → depth < d → cells + 2 ≤ 100000 → (s : Store)
      → run (enter g 1 ones) who (own k depth ticks cells) s
      ≡ (Computed itself (own (suc k) (depth + 1) (ticks + 1) (cells + 2)), laid k s)
  unfolding stack
  entered k depth ticks cells t e c s = rw (less ticks ticks_limit t) (rw (less depth d e)
      (rw (not_less 100000 (cells + 2) c) (rw (enclosing k) refl)))

  -- one too many is not
  stopped : (k depth ticks cells : ℕ) → ticks < ticks_limit → d ≤ depth → (s : Store)
      → (run (enter g 1 ones) who (own k depth ticks cells) s).0 ≡ EndsInFault fault.F11
  stopped k depth ticks cells t e s = rw (less ticks ticks_limit t) (rw (not_less depth d e) refl)

  module _ (call : Calls) (k depth ticks cells : ℕ) (s : Store) where
    answer_is : run (address g call (whole 4)) who (own (suc k) depth ticks cells) s
        ≡ (Computed (answer k) (own (suc k) depth ticks cells), s)
    unfolding stack
    answer_is = simp same refl

    abbrev here : LocalState
    here = own (suc k) depth ticks cells

    abbrev Given : LocationContent → Type 0
    Given h = run (bind (ordinal_read (value_in h)) (λ v. bind (actuals g call Nothing) (λ gs. give (ValueOf v ∷ gs))))
        who here (laid k s) ≡ (Computed ones here, laid k s)

    read_back : laid k s (cell k 3) ≡ Tree (Ordinal (pos 1))
    read_back = rw (same (length (stack k))) refl

    given_again : run (actuals g call (Pass (ByValue (read 0 3)) Nothing)) who here (laid k s)
        ≡ (Computed ones here, laid k s)
    unfolding stack
    given_again = simp same (subst Given (sym read_back) refl)

  -- what a call does once it is entered
  abbrev body : (List Item → Work (List Item)) → Block → Work Value
  body go b = bind (go (push b.body []))
      (λ rest. bind (function_result g b.answer) (λ v. bind (leave g) (λ u. give v)))

  module _ (go : List Item → Work (List Item)) (k depth ticks cells : ℕ) (s : Store)
      (next : (run (call_by g go 1 ones) who (own (suc k) depth ticks cells) (laid k s)).0 ≡ EndsInFault fault.F11)
    where
      abbrev now : LocalState
      now = own (suc k) depth ticks cells

      value_ends : (run (value g (call_by g go) (calls (read 0 3))) who now (laid k s)).0 ≡ EndsInFault fault.F11
      value_ends = ap (λ (r : WorkOutcome Value × Store). r.0)
          (goes_on (actuals g (call_by g go) (Pass (ByValue (read 0 3)) Nothing)) (λ gs. call_by g go 1 gs) who now
          (laid k s) ones now (laid k s) (given_again (call_by g go) k depth ticks cells s)) ∙ next

      assign_ends : (run (statement_action g (call_by g go) (Assign (whole 4) (calls (read 0 3))) []) who now
          (laid k s)).0 ≡ EndsInFault fault.F11
      assign_ends = ap (λ (r : WorkOutcome Action × Store). r.0)
          (goes_on (address g (call_by g go) (whole 4))
          (λ a. bind (value g (call_by g go) (calls (read 0 3))) (λ w. bind (assign a w) (λ u. give (Stepped []))))
          who now (laid k s) (answer k) now (laid k s) (answer_is (call_by g go) k depth ticks cells (laid k s)))
          ∙ ends (value g (call_by g go) (calls (read 0 3))) (λ w. bind (assign (answer k) w) (λ u. give (Stepped [])))
          who now (laid k s) fault.F11 value_ends

  -- from the depth of k on there are j calls more, and then the fault
  deep : (j k depth ticks cells m : ℕ) → depth + j ≡ d → ticks + j < ticks_limit → cells + (j + j) ≤ 100000 → j < m
      → (s : Store) → (run (call_by g (run_items g m) 1 ones) who (own k depth ticks cells) s).0
      ≡ EndsInFault fault.F11
  deep zero k depth ticks cells m e t c h s =
      ends (enter g 1 ones) (body (run_items g m)) who (own k depth ticks cells) s fault.F11
      (stopped k depth ticks cells (omega (arith, t)) (omega (arith, e)) s)
  deep (suc j) k depth ticks cells zero e t c h s = absurd (omega (arith, h))
  deep (suc j) k depth ticks cells (suc m) e t c h s =
      ap (λ (r : WorkOutcome Value × Store). r.0)
      (goes_on (enter g 1 ones) (body (run_items g (suc m))) who (own k depth ticks cells) s itself
      (own (suc k) (depth + 1) (ticks + 1) (cells + 2)) (laid k s)
      (entered k depth ticks cells (omega (arith, t)) (omega (arith, e)) (omega (arith, c)) s))
      ∙ ends (run_items g (suc m) (push itself.body []))
      (λ rest. bind (function_result g itself.answer) (λ v. bind (leave g) (λ u. give v)))
      who (own (suc k) (depth + 1) (ticks + 1) (cells + 2)) (laid k s) fault.F11
      (ends (item_action g (call_by g (run_items g m)) (Do (Assign (whole 4) (calls (read 0 3)))) [])
      (λ a. bind (items_after g a) (run_items g m)) who (own (suc k) (depth + 1) (ticks + 1) (cells + 2)) (laid k s)
      fault.F11 (assign_ends (run_items g m) k (depth + 1) (ticks + 1) (cells + 2) s
      (deep j (suc k) (depth + 1) (ticks + 1) (cells + 2) m (omega (arith, e)) (omega (arith, t)) (omega (arith, c))
      (omega (arith, h)) (laid k s))))

  -- the first step of the root
  abbrev first : Process
  first = root_process g

  enough : d < fuel_of g first.own
  enough = omega (arith, more)

  step_ends : (run_tree same_loc (action_of g first) (first_store g)).0 ≡ EndsInFault fault.F11
  unfolding stack
  step_ends = ends (value g (call_by g (run_items g (fuel_of g first.own))) (calls (num 1)))
      (λ w. bind (assign (record { spot = Cell [] 0 2; path = []; kind = 0 }) w) (λ u. give (Stepped [])))
      who (own 0 0 0 1) (first_store g) fault.F11
      (deep d 0 0 0 1 (fuel_of g first.own) (omega arith) (omega (arith, more)) (omega (arith, few)) enough
      (first_store g))

  faults : Goes g (root ∷ []) 1 [] (root_meets fault.F11)
  faults = first_fault g fault.F11 step_ends

-- F11: a function calls itself without end
calls_deep : Goes (limited calls_itself (record ample { ticks = 100000; depth = 1000; cells = 100000 })) (root ∷ [])
    1 [] (root_meets fault.F11)
calls_deep = faults 1000 100000 (omega arith) (omega arith)
