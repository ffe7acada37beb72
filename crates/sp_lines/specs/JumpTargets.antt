-- All of this belongs to what the program promises (docs/promise.txt).
-- Where a process is shown that goes on at an instruction. A jump there is of a statement that it has left (behind the
-- first branch of an `if`, at the end of a `while`), so it is shown where the jumps lead.
use Rattle.std.specs.Prelude.{ℕ, zero, suc, List, Option, Some, None, length, slice_get}
use Rattle.sp_code.specs.declared.instr.Instr.{Instr}
use Rattle.sp_code.specs.declared.instr.Instr.TheVariants as i

-- where an instruction leads, if it is a jump
abbrev pub jump_of : Instr → Option ℕ
jump_of (i.Jump to) = Some to
jump_of _ = None

abbrev pub jump_at : Option Instr → Option ℕ
jump_at None = None
jump_at (Some o) = jump_of o

-- on from where a jump leads, or here
abbrev pub led : (ℕ → ℕ) → ℕ → Option ℕ → ℕ
led on q None = q
led on q (Some to) = on to

-- where the jumps from an instruction lead, if so many are followed at most
abbrev pub landing_within : ℕ → List Instr → ℕ → ℕ
landing_within zero is q = q
landing_within (suc n) is q = led (landing_within n is) q (jump_at (slice_get is q))

-- where they lead; as many are followed at most as there are instructions, since jumps could lead in a circle
abbrev pub landing : List Instr → ℕ → ℕ
landing is q = landing_within (length is) is q
