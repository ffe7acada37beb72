use Rattle.sp_front.proofs.Enumerations.{program_given}
use Rattle.sp_front.proofs.TablesKnow.{kinds_are_formed}
use Rattle.sp_front.proofs.tree_laws.types_are_formed.Goals as goal

pub returns : goal.returns
returns c = λ s calm types. kinds_are_formed s calm types (program_given s calm)
