use Rattle.sp_code.specs.Memory.{memory}
use Rattle.sp_code.specs.PlainStore.{plain}
use Rattle.sp_code.proofs.Ends.{ranked_over, safe_turn}
use Rattle.sp_code.proofs.Falls.{ranked_along}
use Rattle.sp_code.proofs.laws.turns_of_ranked_code_end.Goals as goal

pub returns-clause-within : goal.returns-clause-within
returns-clause-within k = λ g c r. ranked_over plain g c r

pub returns-clause-safe : goal.returns-clause-safe
returns-clause-safe k = λ g c r s. safe_turn plain g c r s

pub returns-clause-everywhere : goal.returns-clause-everywhere
returns-clause-everywhere k = λ g r c. ranked_along (memory plain g) g.code r c
