-- None of this belongs to what the program promises: it is for contracts between crates.
-- Runs with a judge's notes beside the state: a system again, so that the laws of schedules serve it.
use Rattle.std.specs.Prelude.{Option, Some, None}
use Rattle.sp_meaning.specs.Model.{Name, Totals, Language, State}
use Rattle.sp_meaning.specs.Steps.{ActOf, step_outcome, result_of, own_part, HasNoFault}
use Rattle.sp_meaning.specs.Schedules.{System}
use Rattle.sp_race.specs.Notes.{JudgeNotes, with_judge_notes, notes_of}

-- a state, and what a judge has noted on the way to it
pub record WithNotes (L : Language) : Type 0 where
  pub state : State L
  pub notes : JudgeNotes

-- the notes once p has acted
abbrev pub notes_after : {L : Language} → State L → JudgeNotes → Name → ActOf L → JudgeNotes
notes_after s n p a = with_judge_notes (notes_of s n p a) n

abbrev pub noted_step_of : {L : Language} → Totals → WithNotes L → Name → Option L.Own → Option (WithNotes L)
noted_step_of limits j p None = None
noted_step_of {L} limits j p (Some own) = Some (record {
  state = result_of j.state p (step_outcome limits j.state p (L.next own j.state.store));
  notes = notes_after j.state j.notes p (L.next own j.state.store);
})

-- the step of the model, noted
abbrev pub step_with_notes : {L : Language} → Totals → WithNotes L → Name → Option (WithNotes L)
step_with_notes limits j p = noted_step_of limits j p (own_part j.state p)

abbrev pub system_with_notes : Language → Totals → System
system_with_notes L limits = record {
  State = WithNotes L;
  Name = Name;
  step = step_with_notes limits;
  HasNoFault = λ j. HasNoFault j.state;
}
