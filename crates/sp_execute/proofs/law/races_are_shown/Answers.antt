use Rattle.sp_execute.proofs.Races.{followed_to_fault, shows_race}
use Rattle.sp_execute.proofs.law.races_are_shown.Goals as goal

pub returns-clause-shown : goal.returns-clause-shown
returns-clause-shown c = λ g moves shares workers r ready x.
    shows_race g moves shares workers r ready x c.runs_without_a_fault_are_clean.ensures
    c.witnesses_are_journals.ensures c.ordered_runs_never_contend.ensures

pub returns-clause-followed : goal.returns-clause-followed
returns-clause-followed c = λ g moves shares workers r ready x w channel earlier later is.
    followed_to_fault g moves shares workers r ready x c.runs_without_a_fault_are_clean.ensures
    c.witnesses_are_journals.ensures w channel earlier later is c.witnesses_end_in_contention.ensures
