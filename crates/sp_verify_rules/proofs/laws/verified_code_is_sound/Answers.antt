use Rattle.sp_verify_rules.proofs.Assembly.{verified_sound, verified_without_stop}
use Rattle.sp_verify_rules.proofs.laws.verified_code_is_sound.Goals as goal

pub returns-clause-sound : goal.returns-clause-sound
returns-clause-sound k = λ c small verified. verified_sound c small verified

pub returns-clause-without_stop : goal.returns-clause-without_stop
returns-clause-without_stop k = λ c small verified. verified_without_stop c small verified
