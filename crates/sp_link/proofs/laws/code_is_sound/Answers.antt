use Rattle.sp_link.proofs.Soundness.{program_sound}
use Rattle.sp_link.proofs.laws.code_is_sound.Goals as goal

pub returns : goal.returns
returns c = λ g moves shares ready. program_sound g moves shares ready
