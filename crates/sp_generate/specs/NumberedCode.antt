-- None of this belongs to what the program promises: it is for contracts between crates.
-- The code of a program as it is written: its fork tables have what the sets tell by the numbers of process statements.
-- The parts of the generator promise it, and a law leads it to the code of `sp_code`.
use Rattle.sp_tree.specs.PlainChecked as c
use Rattle.sp_tree.specs.Bare.{without_places}
use Rattle.sp_code.specs.declared.code.Parts.{Parts}
use Rattle.sp_code.specs.TreeCode.{blocks_code, blocks_texts, layouts_from}
use Rattle.sp_varsets.specs.declared.sets.Sets.{Sets}
use Rattle.sp_generate.specs.Handings.{moved_of, shared_of}
use Rattle.sp_generate.specs.Tables.{tables_blocks}

abbrev pub numbered_code : c.Program → Sets → Parts
numbered_code tree sets = record {
  instrs = blocks_code (without_places tree) 0 0 0 0 (without_places tree).blocks;
  layouts = layouts_from (without_places tree) 0 0 (without_places tree).blocks;
  forks = tables_blocks (without_places tree) (moved_of sets) (shared_of sets) 0 tree.blocks;
  texts = blocks_texts (without_places tree).blocks;
}
