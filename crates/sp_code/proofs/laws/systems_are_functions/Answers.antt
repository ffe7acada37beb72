use Rattle.sp_code.specs.PlainStore.{plain}
use Rattle.sp_code.specs.System.{opening_system}
use Rattle.sp_code.proofs.Systems.{event_same, leads_same}
use Rattle.sp_code.proofs.laws.systems_are_functions.Goals as goal

pub returns-clause-event : goal.returns-clause-event
returns-clause-event k = λ g s q e f t u h i. event_same plain g s q e f t u h i

pub returns-clause-system : goal.returns-clause-system
returns-clause-system k = λ g es t u h i. leads_same plain g (opening_system plain g) es t u h i
