-- None of this belongs to what the program promises: it is for contracts between crates.
-- The entries of a stack as the machine's definition sees them. The contracts of all instructions that use the stack
-- cite it.
use Rattle.std.specs.Prelude.{◌≡◌, ℕ, ◌+◌, ℤ, List, [], ◌∷◌, Option, Some, None}
use Rattle.sp_cell.specs.declared.spot.Address.{Address}
use Rattle.sp_cell.specs.Map.{Plain}
use Rattle.sp_code.specs.Machine as m
use Rattle.sp_code.specs.Memory.{Memory}
use Rattle.sp_machine.specs.declared.stack.Operand.{Operand}
use Rattle.sp_machine.specs.declared.stack.Operand.TheVariants as operand

-- one entry
abbrev pub entry_of : Operand → m.Entry
entry_of (operand.Number n) = m.Number n
entry_of (operand.Channel c) = m.Chan c
entry_of (operand.Pointer a) = m.Pointer a
entry_of (operand.Cells cs) = m.Cells cs
entry_of (operand.Link r) = m.Link r
entry_of (operand.Reply r) = m.Reply r

-- so for all of them
abbrev pub entries_of : List Operand → List m.Entry
entries_of [] = []
entries_of (o ∷ os) = entry_of o ∷ entries_of os

-- 1 for where the caller of a function goes on
abbrev pub one_if_reply : Operand → ℕ
one_if_reply (operand.Reply r) = 1
one_if_reply _ = 0

-- how many functions are being called
abbrev pub replies : List Operand → ℕ
replies [] = 0
replies (o ∷ os) = one_if_reply o + replies os

-- the address that an entry is, if it is one
abbrev pub pointer_in : Operand → Option Address
pointer_in (operand.Pointer a) = Some a
pointer_in _ = None

-- no number is on top, no channel, no address: an instruction that takes one lacks it
abbrev pub HasNoNumber : List Operand → Type 0
HasNoNumber os = (go : ℤ → List m.Entry → m.StepResult (Memory Plain)) → m.on_number (entries_of os) go ≡ m.Stuck

abbrev pub HasNoChannel : List Operand → Type 0
HasNoChannel os = (go : ℕ → List m.Entry → m.StepResult (Memory Plain)) → m.on_channel (entries_of os) go ≡ m.Stuck

abbrev pub HasNoPointer : List Operand → Type 0
HasNoPointer os = (go : Address → List m.Entry → m.StepResult (Memory Plain)) → m.on_address (entries_of os) go
    ≡ m.Stuck
