-- All of this belongs to what the program promises (docs/promise.txt).
-- The places of an instruction. The lines of `trace` and `where` show them.
use Rattle.std.specs.Option.{option_map_or}
use Rattle.std.specs.Prelude.{ℕ, List, slice_get}
use Rattle.sp_base.specs.declared.place.Place.{Place}
use Rattle.sp_lines.specs.declared.mark.Mark.{Mark}

-- line 0 stands in no text
abbrev pub no_place : Place
no_place = record { line = 0; column = 0 }

-- where the statement begins to which the instruction with this number belongs
abbrev pub statement_at : List Mark → ℕ → Place
statement_at marks q = option_map_or (λ m. m.statement) (slice_get marks q) no_place

-- where its part of the statement begins
abbrev pub part_at : List Mark → ℕ → Place
part_at marks q = option_map_or (λ m. m.part) (slice_get marks q) no_place
