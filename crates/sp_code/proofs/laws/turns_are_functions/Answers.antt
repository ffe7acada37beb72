use Rattle.sp_code.specs.Memory.{memory}
use Rattle.sp_code.specs.PlainStore.{plain}
use Rattle.sp_code.proofs.OneTurn.{same_config, turn_same, within_ended}
use Rattle.sp_code.proofs.laws.turns_are_functions.Goals as goal

pub returns-clause-instruction : goal.returns-clause-instruction
returns-clause-instruction k = λ g c d e h i. same_config (memory plain g) g.code c d e h i

pub returns-clause-turn : goal.returns-clause-turn
returns-clause-turn k = λ g c t u h i. turn_same (memory plain g) g.code c t u h i

pub returns-clause-computed : goal.returns-clause-computed
returns-clause-computed k = λ g n c t h. within_ended (memory plain g) g.code n c t h
