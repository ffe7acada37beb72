use Rattle.sp_codegen.proofs.BirthLaws.{first_begins}
use Rattle.sp_codegen.proofs.laws.first_process_stands.Goals as goal

pub returns : goal.returns
returns c = λ r channels processes b eb fits called. first_begins r.input r.moves r.shares r.pause r.compilable channels
    processes b eb fits called
