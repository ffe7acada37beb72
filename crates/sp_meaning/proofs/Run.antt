-- Computations run on a store one after the other: the only place where the trees of reads and writes are seen.
use Rattle.std.proofs.Common.{◌≡◌, ◌∙◌, refl}
use Rattle.sp_meaning.specs.EffectTree.{run_tree}
use Rattle.sp_meaning.specs.LocalWork.{LocalState, Identity, WorkOutcome, Computed, EndsInFault, IllFormed, OutOfFuel}
use Rattle.sp_meaning.specs.LocalWork.{Work, bind, go_on, same_loc}
use Rattle.sp_meaning.specs.Run.{Store, run}
use Rattle.sp_meaning.proofs.EffectTree.{answer_then}
use Rattle.sp_meaning.proofs.Instance.{loc_test}

abbrev pub then_run : {A B : Type 0} → (A → Work B) → Identity → WorkOutcome A × Store → WorkOutcome B × Store
then_run g w (Computed a o, m) = run (g a) w o m
then_run g w (EndsInFault f, m) = (EndsInFault f, m)
then_run g w (IllFormed, m) = (IllFormed, m)
then_run g w (OutOfFuel, m) = (OutOfFuel, m)

pub run_bind : {A B : Type 0} (h : Work A) (g : A → Work B) (w : Identity) (o : LocalState) (m : Store)
    → run (bind h g) w o m ≡ then_run g w (run h w o m)
run_bind {A} {B} h g w o m = answer_then loc_test (h w o) (λ r. go_on g w r) m ∙ go (run h w o m)
  where
    go : (r : WorkOutcome A × Store) → run_tree same_loc (go_on g w r.0) r.1 ≡ then_run g w r
    go (Computed a o1, m1) = refl
    go (EndsInFault f, m1) = refl
    go (IllFormed, m1) = refl
    go (OutOfFuel, m1) = refl
