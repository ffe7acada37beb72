use Rattle.sp_journal.specs.Births.{occurrences}
use Rattle.sp_witness.proofs.VerdictMeaning.{reached}
use Rattle.sp_execute.proofs.NumberedEnds.{witness_ends}
use Rattle.sp_execute.proofs.numbering_laws.witnesses_end_in_contention.Goals as goal

pub returns : goal.returns
returns c = λ g moves shares turn ready j n t along clean w d earlier later least.
    witness_ends g turn j w d earlier later
    (c.witnesses_are_journals.ensures g moves shares turn ready j n t along clean w d earlier later least)
    (λ s k a. c.done_is_idle.ensures g s (reached g turn (occurrences j) w d earlier later clean k s a))
