use Rattle.sp_journal.specs.Births.{occurrences}
use Rattle.sp_execute.proofs.numbering_laws.witnesses_are_journals.Goals as goal
use Rattle.sp_execute.proofs.NumberedJournals.{is_witness}

pub returns : goal.returns
returns c = λ g moves shares turn ready j n t along clean w d earlier later least.
    is_witness g turn j w d earlier later clean
    (c.races_are_real.ensures g turn (occurrences j) n t ready.free along clean w d earlier later least)
    (λ os o ok k s a. c.runs_can_be_numbered.ensures g moves shares turn ready os o ok k s a)
