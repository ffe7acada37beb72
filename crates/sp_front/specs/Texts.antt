-- None of this belongs to what the program promises: it is for contracts between crates.
-- What a text is by its characters and its grammar: its tree, or the first of their rules that it breaks. The contract
-- of the reader promises it, over the scanner and the parser together.
use Rattle.std.specs.Prelude.{ℕ, List, Result, Ok, Err}
use Rattle.sp_base.specs.declared.halt.Halt.{Halt}
use Rattle.sp_base.specs.declared.halt.Halt.TheVariants as halt
use Rattle.sp_tree.specs.declared.syntax.Syntax.{Syntax}
use Rattle.sp_tree.specs.SyntaxOf.{program_of}
use Rattle.sp_tree.specs.Breaches.{IsTree, IsFirstBroken}

-- the answer of the reader; want of memory is free
abbrev pub ParsesTo : List ℕ → Result Syntax Halt → Type 0
ParsesTo text (Ok tree) = IsTree text (program_of tree)
ParsesTo text (Err (halt.Refused r)) = IsFirstBroken text r
ParsesTo text (Err halt.Memory) = Unit {0}
