-- None of this belongs to what the program promises: it is for contracts between crates.
-- What is known beside the state, as the definitions have it.
use Rattle.std.specs.Prelude.{List}
use Rattle.sp_journal.specs.Births.{births}
use Rattle.sp_journal.specs.Ledger.{IsLedger}
use Rattle.sp_journal.specs.declared.entry.Entry.{Entry}
use Rattle.sp_tree.specs.CheckedOf.{program_of}
use Rattle.sp_code.specs.declared.code.Parts.{Parts}
use Rattle.sp_code.specs.Sound.{HasDistinctBlocks}
use Rattle.sp_where.specs.StateVariables.{Known}
use Rattle.sp_where.specs.declared.symbols.Symbols.{Symbols}
use Rattle.sp_where.specs.declared.state_variables.Known as declared

-- by a text, its code and the entries of a journal
abbrev pub known_by : Symbols → Parts → List Entry → Known
known_by symbols code es = record {
  tree = program_of symbols.checked;
  constants = symbols.constants;
  marks = symbols.marks;
  code = code;
  births = births es;
}

abbrev pub known_of : declared.Known → Known
known_of k = known_by k.symbols.now k.code.now k.ledger.now.journal.entries

-- the ledger is one, and no block has two layouts
abbrev pub IsKnown : declared.Known → Type 0
IsKnown k = IsLedger k.ledger.now × HasDistinctBlocks k.code.now.layouts
