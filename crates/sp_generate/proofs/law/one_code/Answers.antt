use Rattle.sp_generate.proofs.OneCode as o
use Rattle.sp_generate.proofs.law.one_code.Goals as goal

pub returns : goal.returns
returns c = o.one_code
