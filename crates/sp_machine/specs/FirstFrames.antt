-- None of this belongs to what the program promises: it is for contracts between crates.
-- Whether the first process of a run fits the limit of cells.
use Rattle.std.specs.Prelude.{Bool, nat_le}
use Rattle.sp_base.specs.declared.limits.Limits.{Limits}
use Rattle.sp_code.specs.declared.code.Parts.{Parts}
use Rattle.sp_code.specs.Memory.{OfBlock, cells_of_home}

-- the frame of the program has no more cells than the limit
abbrev pub first_fits : Parts → Limits → Bool
first_fits code lim = nat_le (cells_of_home code.layouts (OfBlock 0)) lim.cells
