-- None of this belongs to what the program promises: it is for contracts between crates.
-- Writing a text of which only the first bytes count: what is added may end wherever these are full.
use Rattle.std.specs.Prelude.{◌≡◌, ℕ, List, [], ◌++◌, take}
use Rattle.sp_tree.specs.Cells.{table}
use Rattle.sp_journal.specs.Births.{births}
use Rattle.sp_cell.specs.declared.cell.Cell.{Cell}
use Rattle.sp_where.specs.declared.values.Shown.{Shown}
use Rattle.sp_where.specs.Values.{Piece, filled, form_by}
use Rattle.sp_base.specs.declared.writer.Writer.{Writer}
use Rattle.sp_base.specs.Adds.{Keeps}

-- of the first `most` bytes, whatever comes behind, the new ones are the old ones and then these
abbrev pub AddsShort : (most : ℕ) → Writer ℕ → Writer ℕ → List ℕ → Type 0
AddsShort most old new t = Keeps old new ((rest : List ℕ)
    → take most (new.items.items ++ rest) ≡ take most (old.items.items ++ (t ++ rest)))

module _ (shown : Shown) where
  -- how the values of each type are written
  abbrev pub forms : List (List Piece)
  forms = table form_by [] shown.symbols.now.checked.kinds

  -- the pieces with these cells in their places
  abbrev pub filled_by : List Piece → List Cell → List ℕ
  filled_by ps cs = filled shown.symbols.now.checked.kinds shown.symbols.now.constants
      (births shown.ledger.now.journal.entries) ps cs

  -- for loops: of the bytes that count, whatever pieces come behind, the new ones and those for what is still to come,
  -- with cells ds, are the old ones and those for the whole, with cells cs
  abbrev pub CoversForm : (old : Writer ℕ) → (cs : List Cell) → (new : Writer ℕ) → (ds : List Cell)
      → (rest whole : List Piece) → Type 0
  CoversForm old cs new ds rest whole = Keeps old new ((more : List Piece)
      → take shown.most (new.items.items ++ filled_by (rest ++ more) ds)
      ≡ take shown.most (old.items.items ++ filled_by (whole ++ more) cs))

  -- the pieces are filled with the first of cells cs, and ds are left
  abbrev pub Fills : (old : Writer ℕ) → (cs : List Cell) → (new : Writer ℕ) → (ds : List Cell) → List Piece → Type 0
  Fills old cs new ds ps = Keeps old new ((more : List Piece)
      → take shown.most (new.items.items ++ filled_by more ds)
      ≡ take shown.most (old.items.items ++ filled_by (ps ++ more) cs))
