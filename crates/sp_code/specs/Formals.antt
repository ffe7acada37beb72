-- None of this belongs to what the program promises: it is for contracts between crates.
-- The frame of a block begins with its parameters, each with room for what is passed. Sound code is required to have
-- such frames, and the machine's calls rest on it.
use Rattle.std.specs.Prelude.{◌≡◌, ℕ, ◌≤◌, List, Option, Some, None, slice_get}
use Rattle.sp_code.specs.declared.code.Formal.{Formal}
use Rattle.sp_code.specs.declared.code.Formal.TheVariants as formal
use Rattle.sp_code.specs.declared.code.Layout.{Layout}
use Rattle.sp_code.specs.Machine.{layout_of}

-- a frame has room for a parameter
abbrev pub HasRoom : Formal → Option ℕ → Type 0
HasRoom f None = ⊥
HasRoom (formal.Value n) (Some m) = n ≤ m
HasRoom (formal.Reference n) (Some m) = Unit {0}

-- the frame of a block begins with its parameters
abbrev pub BeginsWithFormals : Layout → Type 0
BeginsWithFormals l = (k : ℕ) (f : Formal) → slice_get l.formals k ≡ Some f → HasRoom f (slice_get l.sizes k)

-- so for each block
abbrev pub HaveFormals : List Layout → Type 0
HaveFormals ls = (b : ℕ) (l : Layout) → layout_of ls b ≡ Some l → BeginsWithFormals l
