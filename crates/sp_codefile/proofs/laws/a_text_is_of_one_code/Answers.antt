use Rattle.sp_codefile.proofs.OneLaws.{one_code}
use Rattle.sp_codefile.proofs.laws.a_text_is_of_one_code.Goals as goal

pub returns : goal.returns
returns c = one_code
