use Rattle.sp_front.proofs.SoundBlocks.{block_fine}
use Rattle.sp_front.proofs.BlockIndices.{indices_typed}
use Rattle.sp_front.proofs.TablesKnow.{knows}
use Rattle.sp_front.proofs.Enumerations.{program_given}
use Rattle.sp_front.proofs.Results.{program_answers}
use Rattle.sp_front.proofs.tree_laws.blocks_are_fine.Goals as goal

pub returns : goal.returns
returns c = λ s calm types free functions moves shares f q b at. block_fine s calm types free functions
    (knows s calm types (program_given s calm) (program_answers s calm types)) (indices_typed s calm) moves shares f q b
    at
