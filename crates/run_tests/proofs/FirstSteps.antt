-- Computations one after the other, and a first step that is a fault, where the prover cannot compute the whole of it.
use Rattle.std.proofs.Common.{◌≡◌, ℕ, List, [], ◌∷◌, refl, ap, ◌∙◌}
use Rattle.sp_base.specs.declared.fault.Fault.{Fault}
use Rattle.sp_meaning.specs.Actions.{Action}
use Rattle.sp_meaning.specs.EffectTree.{Leaf, run_tree, tree_writes}
use Rattle.sp_meaning.specs.Fronts.{longest_front}
use Rattle.sp_meaning.specs.LocalWork.{RunInput, Loc, LocationContent, Address, LocalState, Identity, Process, Work}
use Rattle.sp_meaning.specs.LocalWork.{bind}
use Rattle.sp_meaning.specs.LocalWork.{WorkOutcome, Computed, EndsInFault, IllFormed, OutOfFuel, same_loc}
use Rattle.sp_meaning.specs.Model.{Act, MeetsFault, Faults, with_change}
use Rattle.sp_meaning.specs.Run.{Store, run}
use Rattle.sp_meaning.specs.Runs.{StateOf, output_of, start, total_limits}
use Rattle.sp_meaning.specs.Steps.{result_of, step_outcome}
use Rattle.sp_meaning.specs.SuperPascal.{act_of, act_tree, action_of, first_store, superpascal, root as root_process}
use Rattle.sp_meaning.proofs.EffectTree.{answer_then}
use Rattle.sp_meaning.proofs.Instance.{loc_test}
use Rattle.sp_meaning.proofs.Run.{run_bind, then_run}
use Rattle.run_tests.proofs.Goes.{Goes, root, root_meets}

module _ {A B : Type 0} (h : Work A) (k : A → Work B) (w : Identity) (o : LocalState) (s : Store) where
  -- it ends where its first part does
  pub ends : (f : Fault) → (run h w o s).0 ≡ EndsInFault f → (run (bind h k) w o s).0 ≡ EndsInFault f
  ends f e = ap (λ (r : WorkOutcome B × Store). r.0) (run_bind h k w o s) ∙ go (run h w o s) e
    where
      go : (r : WorkOutcome A × Store) → r.0 ≡ EndsInFault f → (then_run k w r).0 ≡ EndsInFault f
      go (Computed a o1, t) e = absurd (cc e)
      go (EndsInFault x, t) e = let p : x ≡ f = cc e in ap EndsInFault p
      go (IllFormed, t) e = absurd (cc e)
      go (OutOfFuel, t) e = absurd (cc e)

  -- it goes on by what its first part gives
  pub goes_on : (a : A) (o1 : LocalState) (t : Store) → run h w o s ≡ (Computed a o1, t)
      → run (bind h k) w o s ≡ run (k a) w o1 t
  goes_on a o1 t e = run_bind h k w o s ∙ ap (λ (r : WorkOutcome A × Store). then_run k w r) e

module _ (g : RunInput) (f : Fault)
    (met : (run_tree same_loc (action_of g (root_process g)) (first_store g)).0 ≡ EndsInFault f) where
  abbrev ActHere : Type 0
  ActHere = Act Process Loc LocationContent Address

  acts : (superpascal g).next (root_process g) (first_store g) ≡ MeetsFault f
  acts = ap (λ (h : List (Loc × LocationContent) → ActHere).
      h (tree_writes same_loc (act_tree g (root_process g)) (first_store g)))
      (ap (λ (r : (List (Loc × LocationContent) → ActHere) × Store). r.0)
      (answer_then loc_test (action_of g (root_process g)) (λ r. Leaf (act_of (root_process g).who r)) (first_store g))
      ∙ ap (λ (r : WorkOutcome Action). act_of (root_process g).who r) met)

  front : longest_front g (root ∷ []) ≡ (1, with_change (Faults root f) (start g))
  front = ap (λ (a : ActHere). (1, result_of (start g) root (step_outcome (total_limits g) (start g) root a))) acts

  -- the schedule of one step of the root
  pub first_fault : Goes g (root ∷ []) 1 [] (root_meets f)
  first_fault = record {
    steps = ap (λ (r : ℕ × StateOf g). r.0) front;
    output = ap (λ (r : ℕ × StateOf g). output_of g r.1) front;
    end = (root, ap (λ (r : ℕ × StateOf g). r.1.fault) front, refl);
  }
