use Rattle.superpascal.proofs.Parts.{ending_answered}
use Rattle.superpascal.proofs.top.answer.Goals as goal

pub returns-in-Err : goal.returns-in-Err
returns-in-Err g c = ending_answered _ _ _ _ c.in-Err.ending c.in-Err.ensures c.ended.result c.ended.ensures
