use Rattle.sp_link.proofs.Endings.{program_waits_means, program_waits_runs, program_stuck, program_deadlock}
use Rattle.sp_link.proofs.Endings.{program_fault, program_faulted, program_no_fault}
use Rattle.sp_link.proofs.laws.code_waits_and_faults_as_the_program_does.Goals as goal

pub returns-clause-waits : goal.returns-clause-waits
returns-clause-waits k = λ g moves shares pause es t n s a w h. program_waits_means g moves shares pause a.ready es t
    a.system n s a.program w h

pub returns-clause-waiting : goal.returns-clause-waiting
returns-clause-waiting k = λ g moves shares pause es t n s a w h. program_waits_runs g moves shares pause a.ready es t
    a.system n s a.program w h

pub returns-clause-stuck : goal.returns-clause-stuck
returns-clause-stuck k = λ g moves shares pause es t n s a ws h. program_stuck g moves shares pause a.ready es t
    a.system n s a.program ws h

pub returns-clause-deadlock : goal.returns-clause-deadlock
returns-clause-deadlock k = λ g moves shares pause es t n s a ws h. program_deadlock g moves shares pause a.ready es t
    a.system n s a.program ws h

pub returns-clause-fault : goal.returns-clause-fault
returns-clause-fault k = λ g moves shares pause es t n s a p f h. program_fault g moves shares pause a.ready es t
    a.system n s a.program p f h

pub returns-clause-faulted : goal.returns-clause-faulted
returns-clause-faulted k = λ g moves shares pause es t n s a e.
    (let w = program_faulted g moves shares pause a.ready es t a.system n s a.program e in (w.0, w.1, w.2))

pub returns-clause-no_fault : goal.returns-clause-no_fault
returns-clause-no_fault k = λ g moves shares pause es t n s a e. program_no_fault g moves shares pause a.ready es t
    a.system n
    s a.program e
