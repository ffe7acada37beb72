-- All of this belongs to what the program promises (docs/promise.txt).
-- The end of a witness: a process stands at an offer, one of the same way is pending on its channel, and the fault is
-- F6. The law of this crate promises it of the state along a witness.
use Rattle.std.specs.Prelude.{◌≡◌, ℕ, List, Some}
use Rattle.sp_base.specs.declared.fault.Fault.TheVariants as fault
use Rattle.sp_journal.specs.declared.entry.Way.{Way}
use Rattle.sp_journal.specs.Names.{Name, Channel, Occurrence}
use Rattle.sp_meaning.specs.Model.{Offering, Waits}
use Rattle.sp_meaning.specs.Steps.{OfferOf, way_of}
use Rattle.sp_meaning.specs.LocalWork.{RunInput, Process}
use Rattle.sp_meaning.specs.SuperPascal.{superpascal}
use Rattle.sp_meaning.specs.Runs.{StateOf, start, running_process, Lawful}
use Rattle.sp_meaning.specs.Along.{IsAlong}
use Rattle.sp_meaning.specs.Ends.{HasFault}
use Rattle.sp_witness.specs.Witness.{who_at, witness}

-- in this state the second process, which offers so, met the pending offer of the first one, of the same way
pub record IsContention (g : RunInput) (u : StateOf g) (w : Way) (c : Channel) (first second : Name) : Type 0 where
  pub fault : HasFault g u second fault.F6
  pub own : Process
  pub runs : running_process g u second ≡ Some own
  pub offer : OfferOf (superpascal g)
  pub offers : (superpascal g).next own u.store ≡ Offering offer
  pub way_is : way_of offer.payload ≡ w
  pub channel_is : offer.channel ≡ c
  pub pends : u.pending c ≡ Some first
  pub waiting : OfferOf (superpascal g)
  pub waits : u.condition first ≡ Waits waiting
  pub same_way : way_of waiting.payload ≡ w

-- the journal of the witness is one of a run, which ends in the contention of the two offers
pub record Shows (g : RunInput) (turn : ℕ) (es : List Occurrence) (w : Way) (c : Channel) (earlier later : ℕ) : Type
    0 where
  pub size : ℕ
  pub state : StateOf g
  pub along : IsAlong g turn (witness es earlier later) size state
  pub contention : IsContention g state w c (who_at es earlier) (who_at es later)

-- no lawful schedule of the program, on its input and with its limits, leads to contention
abbrev pub NeverContends : RunInput → Type 0
NeverContends g =
    (qs : List Name) (u : StateOf g) → Lawful g (start g) qs u
    → (w : Way) (c : Channel) (first second : Name) → IsContention g u w c first second → ⊥
