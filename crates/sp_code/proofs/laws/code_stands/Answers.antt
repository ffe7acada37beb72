use Rattle.sp_code.specs.NeverStops.{NeverStops}
use Rattle.sp_code.proofs.Blocks.{blocks_stand, layout_found}
use Rattle.sp_code.proofs.laws.code_stands.Goals as goal

pub returns-clause-blocks : goal.returns-clause-blocks
returns-clause-blocks k = λ p moves shares fine. blocks_stand p moves shares (NeverStops p) fine

pub returns-clause-layouts : goal.returns-clause-layouts
returns-clause-layouts k = λ p moves shares f l e. layout_found p f l e
