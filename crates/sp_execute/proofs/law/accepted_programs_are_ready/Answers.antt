use Rattle.sp_execute.proofs.Readiness.{accepted_ready}
use Rattle.sp_execute.proofs.law.accepted_programs_are_ready.Goals as goal

pub returns : goal.returns
returns c = λ text p a moves shares sets input lim l. accepted_ready text p a moves shares sets input lim l
