-- None of this belongs to what the program promises: it is for contracts between crates.
-- The first and the last instruction of a `for` loop, up and down: for the contracts that write loops.
use Rattle.std.specs.Prelude.{ℕ, Bool, if◌then◌else◌}
use Rattle.sp_code.specs.declared.instr.Instr.{Instr}
use Rattle.sp_code.specs.declared.instr.Instr.TheVariants as i

abbrev pub for_instr : Bool → (var to : ℕ) → Instr
for_instr down var to = if down then i.Fordown var to else i.Forup var to

abbrev pub next_instr : Bool → (var to : ℕ) → Instr
next_instr down var to = if down then i.Nextdown var to else i.Nextup var to
