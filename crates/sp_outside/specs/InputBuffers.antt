-- None of this belongs to what the program promises: it is for contracts between crates.
-- Bytes that are given out from the first to the last: the sources in memory read from them, and promise what is left.
use Rattle.std.specs.Prelude.{ℕ, List, drop}
use Rattle.sp_outside.specs.declared.input_buffer.InputBuffer.{InputBuffer}

-- the bytes that were not given yet
abbrev pub bytes_left : InputBuffer → List ℕ
bytes_left t = drop t.given t.bytes.items
