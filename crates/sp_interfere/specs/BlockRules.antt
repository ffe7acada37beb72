-- None of this belongs to what the program promises: it is for contracts between crates.
-- The rules at each place of a block.
use Rattle.sp_tree.specs.CheckedOf.{program_of}
use Rattle.sp_tree.specs.PhaseResults.{FirstRefusal}
use Rattle.sp_tree.specs.Sites.{Site}
use Rattle.sp_interfere.specs.Rules.{site_first}
use Rattle.sp_interfere.specs.declared.block_context.BlockContext.{BlockContext}

abbrev pub rules_in : BlockContext → Site → FirstRefusal → FirstRefusal
rules_in block = site_first block.sets.now (program_of block.checked.now) block.is_function block.number
