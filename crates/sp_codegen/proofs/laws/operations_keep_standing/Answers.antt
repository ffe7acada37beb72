use Rattle.sp_codegen.proofs.ProcessInfoLaws.{operations_keep}
use Rattle.sp_codegen.proofs.laws.operations_keep_standing.Goals as goal

pub returns : goal.returns
returns c = λ r life h small. operations_keep r.input r.moves r.shares r.pause life r.compilable h small
