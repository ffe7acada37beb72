-- None of this belongs to what the program promises: it is for contracts between crates.
-- Bytes that are put into a buffer of a fixed length, which the sinks in memory write to. What did not fit is lost, and
-- from then on nothing is told of what was put.
use Rattle.std.specs.Prelude.{◌≡◌, ℕ, List, [], ◌++◌, take, length, ◌+◌, nat_le, Option, Some, None, true, ◌&&◌, cond}
use Rattle.sp_outside.specs.declared.output_buffer.OutputBuffer.{OutputBuffer}

-- the bytes that have fitted
abbrev pub kept_bytes : OutputBuffer → List ℕ
kept_bytes r = r.bytes.items

-- all that was put, as long as it has fitted
abbrev pub visible_bytes : OutputBuffer → Option (List ℕ)
visible_bytes r = cond r.whole (Some (kept_bytes r)) None

-- a buffer for so many bytes into which nothing was put
pub record IsEmptyBuffer (size : ℕ) (r : OutputBuffer) : Type 0 where
  pub empty : kept_bytes r ≡ []
  pub whole : r.whole ≡ true
  pub room : r.size ≡ size

-- a piece was put: as much of it as fits stands after what had fitted, and whether all has fitted is known
pub record IsPut (old : OutputBuffer) (piece : List ℕ) (new : OutputBuffer) : Type 0 where
  pub kept : kept_bytes new ≡ take old.size (kept_bytes old ++ piece)
  pub all_fitted : new.whole ≡ (old.whole && nat_le (length (kept_bytes old) + length piece) old.size)
  pub same_size : new.size ≡ old.size
