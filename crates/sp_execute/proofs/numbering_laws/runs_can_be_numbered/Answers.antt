use Rattle.sp_execute.proofs.numbering_laws.runs_can_be_numbered.Goals as goal
use Rattle.sp_execute.proofs.EntryNumbers.{numbered}

pub returns : goal.returns
returns c = numbered
