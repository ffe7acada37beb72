use Rattle.sp_execute.proofs.Races.{can_show_of}
use Rattle.sp_execute.proofs.race_witness.witness.Goals as goal

pub witness-requires-clause-silent : goal.witness-requires-clause-silent
witness-requires-clause-silent c =
    (can_show_of c.runs_without_a_fault_are_clean.ensures c.witnesses_are_journals.ensures c.runs_are_silent.ensures
    c.races_have_offers.ensures c.args.ran.now c.requires _ _ _ _ c.in-Race.is _ c.journal.ensures).silent

pub witness-requires-clause-clean : goal.witness-requires-clause-clean
witness-requires-clause-clean c =
    (can_show_of c.runs_without_a_fault_are_clean.ensures c.witnesses_are_journals.ensures c.runs_are_silent.ensures
    c.races_have_offers.ensures c.args.ran.now c.requires _ _ _ _ c.in-Race.is _ c.journal.ensures).clean

pub witness-requires-clause-inside : goal.witness-requires-clause-inside
witness-requires-clause-inside c =
    (can_show_of c.runs_without_a_fault_are_clean.ensures c.witnesses_are_journals.ensures c.runs_are_silent.ensures
    c.races_have_offers.ensures c.args.ran.now c.requires _ _ _ _ c.in-Race.is _ c.journal.ensures).inside

pub witness-requires-clause-offer : goal.witness-requires-clause-offer
witness-requires-clause-offer c =
    (can_show_of c.runs_without_a_fault_are_clean.ensures c.witnesses_are_journals.ensures c.runs_are_silent.ensures
    c.races_have_offers.ensures c.args.ran.now c.requires _ _ _ _ c.in-Race.is _ c.journal.ensures).offer

pub witness-requires-clause-a_journal : goal.witness-requires-clause-a_journal
witness-requires-clause-a_journal c =
    (can_show_of c.runs_without_a_fault_are_clean.ensures c.witnesses_are_journals.ensures c.runs_are_silent.ensures
    c.races_have_offers.ensures c.args.ran.now c.requires _ _ _ _ c.in-Race.is _ c.journal.ensures).nameable

pub witness-requires-clause-its_names : goal.witness-requires-clause-its_names
witness-requires-clause-its_names c =
    (can_show_of c.runs_without_a_fault_are_clean.ensures c.witnesses_are_journals.ensures c.runs_are_silent.ensures
    c.races_have_offers.ensures c.args.ran.now c.requires _ _ _ _ c.in-Race.is _ c.journal.ensures).names
