-- Rows of one process, by computing: what it writes, and the faults of first steps.
use Rattle.std.proofs.Common.{◌≡◌, [], ◌∷◌, Option, Some, None, refl}
use Rattle.std.specs.Prelude.{codes}
use Rattle.std.specs.Fmt.{digits}
use Rattle.sp_base.specs.declared.fault.Fault.{Fault}
use Rattle.sp_base.specs.declared.fault.Fault.TheVariants as fault
use Rattle.sp_journal.specs.declared.outcome.End.{End}
use Rattle.sp_journal.specs.declared.outcome.End.TheVariants as end
use Rattle.sp_meaning.specs.Ends.{EndIs}
use Rattle.sp_meaning.specs.Runs.{running_process}
use Rattle.run_tests.proofs.Goes.{Goes, ample, behind, limited, of, root, root_meets}
use Rattle.run_tests.proofs.Programs.{by_zero, endless, outside, product, undefined, writes_wide}

some_none : {A : Type 0} (X : Type 0) (o : Option A) (x : A) → o ≡ Some x → o ≡ None → X
some_none X o x e f = absurd cc

-- two steps write, and the root has not ended yet
no_end_yet : (x : End) → EndIs (of product) (behind (of product) (root ∷ root ∷ [])) x → ⊥
unfolding digits
no_end_yet end.Done h = cc h
no_end_yet (end.Deadlock ws) h =
    some_none ⊥ (running_process (of product) (behind (of product) (root ∷ root ∷ [])) root) _ refl
    (h.1.idle root)
no_end_yet (end.Fault p f) h = cc h.1
no_end_yet end.Memory h = h

two_steps : Goes (of product) (root ∷ root ∷ []) 2 (codes "42") None
unfolding digits
two_steps = record { steps = refl; output = refl; end = no_end_yet }

-- the third one ends it, and there is no fourth
three_steps : Goes (of product) (root ∷ root ∷ root ∷ []) 3 (codes "42") (Some end.Done)
unfolding digits
three_steps = record { steps = refl; output = refl; end = refl }

no_fourth_step : Goes (of product) (root ∷ root ∷ root ∷ root ∷ []) 3 (codes "42") (Some end.Done)
unfolding digits
no_fourth_step = record { steps = refl; output = refl; end = refl }

-- F4: a variable has no value
undefined_faults : Goes (of undefined) (root ∷ []) 1 [] (root_meets fault.F4)
undefined_faults = record { steps = refl; output = refl; end = (root, refl, refl) }

-- F1: an index is outside its bounds
outside_faults : Goes (of outside) (root ∷ []) 1 [] (root_meets fault.F1)
outside_faults = record { steps = refl; output = refl; end = (root, refl, refl) }

-- F3: a divisor is 0
by_zero_faults : Goes (of by_zero) (root ∷ []) 1 [] (root_meets fault.F3)
by_zero_faults = record { steps = refl; output = refl; end = (root, refl, refl) }

-- F1: a width is below 1
no_width_faults : Goes (of (writes_wide 0)) (root ∷ []) 1 [] (root_meets fault.F1)
no_width_faults = record { steps = refl; output = refl; end = (root, refl, refl) }

-- F10: there is no tick for the first turn of a loop
no_ticks : Goes (limited endless (record ample { ticks = 0 })) (root ∷ []) 1 [] (root_meets fault.F10)
no_ticks = record { steps = refl; output = refl; end = (root, refl, refl) }
