-- None of this belongs to what the program promises: it is for contracts between crates.
-- A turn of a process: its local steps up to the first moment at which it is due, or its next step is a kernel step.
-- Generated code is compared with the meaning turn by turn.
use Rattle.std.specs.Prelude.{ℕ, zero, suc, Bool, if◌then◌else◌, List}
use Rattle.sp_meaning.specs.LocalWork.{RunInput, LocalState, Item, Work, bind, give, out_of_fuel, local_state}
use Rattle.sp_meaning.specs.Actions.{Action, Stepped, Ticked, Opened, Forked, Offered, Ended, next_action}
use Rattle.sp_meaning.specs.SuperPascal.{fuel_of}

-- where a turn ends: due, with what is left to do, or at a kernel step
pub data Stop : Type 0 where
  Paused : (todo : List Item) → Stop
  Stops : (d : Action) → Stop

module _ (g : RunInput) (due : LocalState → Bool) where
  -- on after a local step, or no further
  abbrev pub rest_of_turn : (List Item → Work Stop) → Action → Work Stop
  rest_of_turn go (Stepped todo) = go todo
  rest_of_turn go (Ticked todo) = bind local_state (λ o. if due o then give (Paused todo) else go todo)
  rest_of_turn go (Opened todo) = give (Stops (Opened todo))
  rest_of_turn go (Forked os todo) = give (Stops (Forked os todo))
  rest_of_turn go (Offered c k payload todo) = give (Stops (Offered c k payload todo))
  rest_of_turn go Ended = give (Stops Ended)

  -- one step
  abbrev pub turn_step : List Item → Work Action
  turn_step todo w o = next_action g (fuel_of g o) todo w o

  -- no more than n steps
  abbrev pub turn : ℕ → List Item → Work Stop
  turn zero todo = out_of_fuel
  turn (suc n) todo = bind (turn_step todo) (rest_of_turn (turn n))
