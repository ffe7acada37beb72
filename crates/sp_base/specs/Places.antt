-- All of this belongs to what the program promises (docs/promise.txt).
-- The text of a place of a text. The lines of `sets`, `trace` and `where` show it.
use Rattle.std.specs.Prelude.{ℕ, List, ◌++◌, codes, decimal}
use Rattle.sp_base.specs.declared.place.Place.{Place}

-- line and column, as `25:3`
abbrev pub place_text : Place → List ℕ
place_text at = decimal at.line ++ codes ":" ++ decimal at.column
