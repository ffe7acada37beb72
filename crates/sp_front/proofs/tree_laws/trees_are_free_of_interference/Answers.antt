use Rattle.sp_front.proofs.Unbroken.{program_free}
use Rattle.sp_front.proofs.tree_laws.trees_are_free_of_interference.Goals as goal

pub returns : goal.returns
returns c = λ s calm kept. program_free s calm kept
