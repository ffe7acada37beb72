use Rattle.sp_link.proofs.Programs.{program_output, program_done, program_over, program_idle}
use Rattle.sp_link.proofs.Soundness.{names_on}
use Rattle.sp_link.proofs.laws.code_ends_as_the_program_does.Goals as goal

pub returns-clause-output : goal.returns-clause-output
returns-clause-output k = λ g moves shares pause es t n s a. program_output g moves shares pause a.ready es
    (names_on g moves shares pause a.ready es t a.system) t a.system n s a.program

pub returns-clause-done : goal.returns-clause-done
returns-clause-done k = λ g moves shares pause es t n s a d e. program_done g moves shares pause a.ready es
    (names_on g moves shares pause a.ready es t a.system) t a.system n s a.program d e

pub returns-clause-over : goal.returns-clause-over
returns-clause-over k = λ g moves shares pause es t n s a e. program_over g moves shares pause a.ready es
    (names_on g moves shares pause a.ready es t a.system) t a.system n s a.program e

pub returns-clause-idle : goal.returns-clause-idle
returns-clause-idle k = λ g moves shares pause es t n s a no_fault none. program_idle g moves shares pause a.ready es
    (names_on g moves shares pause a.ready es t a.system) t a.system n s a.program no_fault none
