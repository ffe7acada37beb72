use Rattle.sp_front.proofs.Program.{scoped}
use Rattle.sp_front.proofs.tree_laws.names_are_visible.Goals as goal

pub returns : goal.returns
returns c = λ s calm. scoped s calm
