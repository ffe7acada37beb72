-- A turn ends: within the budget of its ticks and the weights of what is left to do it is never out of steps
-- (`this_turn_ends`).
use Rattle.std.proofs.Common.{ℕ, zero, suc, ◌+◌, ◌<◌, List, Bool, true, false, if◌then◌else◌, sym, subst, arith}
use Rattle.sp_meaning.specs.LocalWork.{RunInput, LocalState, Identity, Item, Process, WorkOutcome, Computed}
use Rattle.sp_meaning.specs.LocalWork.{EndsInFault, IllFormed, OutOfFuel, give}
use Rattle.sp_meaning.specs.Actions.{Action, Stepped, Ticked, Opened, Forked, Offered}
use Rattle.sp_meaning.specs.Actions as actions
use Rattle.sp_meaning.specs.SuperPascal.{weight_of}
use Rattle.sp_meaning.specs.Run.{Store, run}
use Rattle.sp_meaning.specs.Turn as source
use Rattle.sp_meaning.proofs.EnoughSteps.{ActionFalls, budget}
use Rattle.sp_meaning.proofs.StepLaws.{Result, action_is}
use Rattle.sp_meaning.proofs.Run.{then_run, run_bind}
use Rattle.sp_meaning.proofs.Weights.{AreLight, weights}

module _ (g : RunInput) (due : LocalState → Bool) where
  abbrev K : ℕ
  K = weight_of g.program

  -- it has ended, unless the tree breaks a rule
  abbrev pub Ended : WorkOutcome source.Stop × Store → Type 0
  Ended (Computed (source.Paused todo) o, s) = Unit {0}
  Ended (Computed (source.Stops (Stepped todo)) o, s) = ⊥
  Ended (Computed (source.Stops (Ticked todo)) o, s) = ⊥
  Ended (Computed (source.Stops (Opened todo)) o, s) = Unit {0}
  Ended (Computed (source.Stops (Forked bs todo)) o, s) = Unit {0}
  Ended (Computed (source.Stops (Offered c k x todo)) o, s) = Unit {0}
  Ended (Computed (source.Stops actions.Ended) o, s) = Unit {0}
  Ended (EndsInFault f, s) = Unit {0}
  Ended (IllFormed, s) = Unit {0}
  Ended (OutOfFuel, s) = ⊥

  pub turn_ends : (k : ℕ) (todo : List Item) (w : Identity) (o : LocalState) (s : Store) → AreLight K todo
      → budget g K o.ticks + weights todo < k → Ended (run (source.turn g due k todo) w o s)
  turn_ends zero todo w o s f h = absurd (omega (arith, h))
  turn_ends (suc k) todo w o s f h =
      subst Ended (sym (run_bind (source.turn_step g due todo) (source.rest_of_turn g due (source.turn g due k)) w o s))
      (go (λ todo1 o1 s1 f1 h1. turn_ends k todo1 w o1 s1 f1 h1) (run (source.turn_step g due todo) w o s)
      (action_is g (record { todo = todo; who = w; own = o }) s f))
    where
      go : ((todo1 : List Item) (o1 : LocalState) (s1 : Store) → AreLight K todo1
          → budget g K o1.ticks + weights todo1 < k
          → Ended (run (source.turn g due k todo1) w o1 s1)) → (r : WorkOutcome Action × Store)
          → Result o.ticks (ActionFalls g K o.ticks (weights todo)) r.0
          → Ended (then_run (source.rest_of_turn g due (source.turn g due k)) w r)
      go ih (Computed (Stepped todo1) o1, s1) (_, (falls, light)) = ih todo1 o1 s1 light (omega (arith, falls, h))
      go ih (Computed (Ticked todo1) o1, s1) (_, (falls, light)) = by_due (due o1)
        where
          by_due : (b : Bool) → Ended (run (if b then give (source.Paused todo1) else source.turn g due k todo1) w o1
              s1)
          by_due true = tt
          by_due false = ih todo1 o1 s1 light (omega (arith, falls, h))
      go ih (Computed (Opened todo1) o1, s1) d = tt
      go ih (Computed (Forked bs todo1) o1, s1) d = tt
      go ih (Computed (Offered c x payload todo1) o1, s1) d = tt
      go ih (Computed actions.Ended o1, s1) d = tt
      go ih (EndsInFault x, s1) d = tt
      go ih (IllFormed, s1) d = tt
      go ih (OutOfFuel, s1) d = d

  -- a bound for a turn
  abbrev pub enough_turn : Process → ℕ
  enough_turn pr = suc (budget g K pr.own.ticks + weights pr.todo)

  pub this_turn_ends : (pr : Process) (s : Store) → AreLight K pr.todo
      → Ended (run (source.turn g due (enough_turn pr) pr.todo) pr.who pr.own s)
  this_turn_ends pr s f = turn_ends (enough_turn pr) pr.todo pr.who pr.own s f (omega arith)
