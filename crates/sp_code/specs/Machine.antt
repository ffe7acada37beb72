-- All of this belongs to what the program promises (docs/promise.txt).
-- What each instruction does to a process, over any memory. The machine's contracts promise it of one step, and
-- generated code is compared with it; the memory is left open, so that laws of turns and channels need no store.
use Rattle.std.specs.Prelude.{ℕ, zero, suc, ◌+◌, ◌*◌, ◌==◌, ℤ, pos, ◌+ℤ◌, ◌-ℤ◌, nat_abs, int_lt, int_le, List, [], ◌∷◌}
use Rattle.std.specs.Prelude.{Option, Some, None, Bool, true, false, ◌&&◌, not, if◌then◌else◌, slice_get, length, take}
use Rattle.std.specs.Prelude.{min, nat_le}
use Rattle.std.specs.Fmt.{signed_decimal}
use Rattle.sp_base.specs.declared.fault.Fault.{Fault}
use Rattle.sp_base.specs.declared.fault.Fault.TheVariants as fault
use Rattle.sp_tree.specs.declared.operators.BinaryOp.{BinaryOp}
use Rattle.sp_tree.specs.declared.operators.BinaryOp.TheVariants as op
use Rattle.sp_tree.specs.declared.operators.UnaryOp.TheVariants as sign
use Rattle.sp_tree.specs.Operators.{OperatorResult, Yields, OperatorFault, truth, value_in_range, successor}
use Rattle.sp_tree.specs.Operators.{predecessor, absolute_value, square}
use Rattle.sp_tree.specs.Operators.{is_odd, unary_op, binary_op, same_ordinal}
pub use Rattle.sp_tree.specs.Operators.{is_range, is_before, next_value}
use Rattle.sp_tree.specs.Items.{ReadResult, ReadItem, ReadFault as Faulty, number_in, char_in, line_length, at_line_end}
use Rattle.sp_tree.specs.Items.{right_justified}
use Rattle.sp_tree.specs.Items.{truth_text, byte}
use Rattle.sp_cell.specs.declared.cell.Cell.{Cell}
use Rattle.sp_cell.specs.declared.cell.Cell.TheVariants as cell
use Rattle.sp_cell.specs.declared.spot.Address.{Address}
use Rattle.sp_code.specs.declared.instr.Instr.{Instr}
use Rattle.sp_code.specs.declared.instr.Instr.TheVariants as i
use Rattle.sp_code.specs.declared.code.Formal.{Formal}
use Rattle.sp_code.specs.declared.code.Formal.TheVariants as formal
use Rattle.sp_code.specs.declared.code.Layout.{Layout}
use Rattle.sp_code.specs.declared.code.Parts.{Parts}

-- an entry of the stack: an ordinal, a channel, an address, all cells of an array or record, and where the caller of a
-- procedure or of a function goes on
pub data Entry : Type 0 where
  Number : (n : ℤ) → Entry
  Chan : (c : ℕ) → Entry
  Pointer : (a : Address) → Entry
  Cells : (cs : List Cell) → Entry
  Link : (r : ℕ) → Entry
  Reply : (r : ℕ) → Entry

-- so many cells further on
abbrev pub address_after : ℕ → Address → Address
address_after k a = record { spot = a.spot; offset = a.offset + k }

-- where a turn stops, but for faults: at a fork, with the first value of a forall and the number of children; at an
-- open, with where the channel goes; at an offer, with its channel and message type, and its cells or where they go; at
-- the end; or due
pub data Stop : Type 0 where
  Forks : (table : ℕ) (first : ℤ) (count : ℕ) → Stop
  Opens : (target : Address) → Stop
  Sends : (channel message : ℕ) (cells : List Cell) → Stop
  Receives : (channel message : ℕ) (target : Address) → Stop
  Ends : Stop
  Pauses : Stop

-- what comes of an operation that may fault
pub data MemoryResult (M : Type 0) : Type 0 where
  Done : (n : M) → MemoryResult M
  Failed : (fault : Fault) → MemoryResult M

-- what the machine asks of its memory
pub record Ops (M : Type 0) : Type 0 where
  -- a variable of the frame so many static levels outward, and what a variable parameter there stands for
  pub addr : (up var : ℕ) → M → Option Address
  pub deref : (up var : ℕ) → M → Option Address
  -- the result of the newest frame's block
  pub answer : M → Option Address
  -- so many cells from an address on are held
  pub has : Address → ℕ → M → Bool
  -- cells looked at, put and copied; a piece made the process's own
  pub read : Address → M → Cell
  pub cells : Address → ℕ → M → List Cell
  pub put : Address → Cell → M → M
  pub copy : (to from : Address) → ℕ → M → M
  pub make_own : Address → M → M
  -- what is left of the input, where it is held; so many bytes of it taken
  pub left : M → Option (List ℕ)
  pub advance : ℕ → M → M
  -- the output is held; bytes put after it, or F16
  pub has_output : M → Bool
  pub print : List ℕ → M → MemoryResult M
  -- a tick, or F10
  pub tick : M → MemoryResult M
  -- there is an enclosing frame, and a number for a new one; a call: F10, F11, F12
  pub can_push : (up : ℕ) → M → Bool
  pub open_frame : Layout → (up : ℕ) → List Entry → M → MemoryResult M
  -- the newest frame is one of the process's own, and nothing of it is away; it goes
  pub may_close : M → Bool
  pub close_frame : M → M
  -- one level more is allowed
  pub may_fork : M → Bool
  -- so many ticks were made since the last entry that the process has to pause
  pub due : M → Bool
  -- its live frames have no more cells than the limit
  pub fits : M → Bool

-- a process: the number of its next instruction, its stack, the top first, and its memory
pub data Config (M : Type 0) : Type 0 where
  At : (pc : ℕ) → (stack : List Entry) → M → Config M

-- one instruction goes on, stops, faults, or lacks what it needs
pub data StepResult (M : Type 0) : Type 0 where
  Goes : Config M → StepResult M
  Stops : Stop → Config M → StepResult M
  Fails : (fault : Fault) → StepResult M
  Stuck : StepResult M

-- no function is being called
abbrev pub is_in_no_function : List Entry → Bool
is_in_no_function [] = true
is_in_no_function (Reply r ∷ stack) = false
is_in_no_function (e ∷ stack) = is_in_no_function stack

-- how many values a forall's range has, or 2 ^ 64 - 1 where it has more
abbrev pub values_in : ℤ → ℤ → ℕ
values_in first last = min (nat_abs ((last -ℤ first) +ℤ pos 1)) 18446744073709551615

-- an operand is what a parameter takes: exactly its cells, or an address
abbrev pub fits_formal : Formal → Entry → Bool
fits_formal (formal.Value n) (Number v) = n == 1
fits_formal (formal.Value n) (Chan c) = n == 1
fits_formal (formal.Value n) (Cells cs) = length cs == n
fits_formal (formal.Reference n) (Pointer a) = true
fits_formal _ _ = false

-- the entries are of the kinds of the formals
abbrev pub fit_formals : List Formal → List Entry → Bool
fit_formals [] [] = true
fit_formals (f ∷ fs) (e ∷ es) = fits_formal f e && fit_formals fs es
fit_formals _ _ = false

-- the layout of a block
abbrev pub layout_of : List Layout → ℕ → Option Layout
layout_of [] b = None
layout_of (l ∷ ls) b = if l.block == b then Some l else layout_of ls b

module _ {M : Type 0} where
  -- the operand on top of the stack
  abbrev pub on_number : List Entry → (ℤ → List Entry → StepResult M) → StepResult M
  on_number (Number v ∷ st) go = go v st
  on_number _ _ = Stuck

  -- on with the channel on top
  abbrev pub on_channel : List Entry → (ℕ → List Entry → StepResult M) → StepResult M
  on_channel (Chan c ∷ st) go = go c st
  on_channel _ _ = Stuck

  -- on with the address on top
  abbrev pub on_address : List Entry → (Address → List Entry → StepResult M) → StepResult M
  on_address (Pointer a ∷ st) go = go a st
  on_address _ _ = Stuck

  -- one value as a cell, or as cells
  abbrev pub on_cell : List Entry → (Cell → List Entry → StepResult M) → StepResult M
  on_cell (Number v ∷ st) go = go (cell.Ordinal v) st
  on_cell (Chan c ∷ st) go = go (cell.Channel c) st
  on_cell _ _ = Stuck

  -- on with the cells on top
  abbrev pub on_cells : List Entry → (List Cell → List Entry → StepResult M) → StepResult M
  on_cells (Number v ∷ st) go = go (cell.Ordinal v ∷ []) st
  on_cells (Chan c ∷ st) go = go (cell.Channel c ∷ []) st
  on_cells (Cells cs ∷ st) go = go cs st
  on_cells _ _ = Stuck

  -- whether two ordinals or two channels are equal
  abbrev pub on_equals : List Entry → (Bool → List Entry → StepResult M) → StepResult M
  on_equals (Number v ∷ st) go = on_number st (λ u st1. go (same_ordinal u v) st1)
  on_equals (Chan c ∷ st) go = on_channel st (λ d st1. go (d == c) st1)
  on_equals _ _ = Stuck

  -- so many operands, the lowest first
  abbrev pub pop : ℕ → List Entry → List Entry → (List Entry → List Entry → StepResult M) → StepResult M
  pop zero st es go = go es st
  pop (suc k) [] es go = Stuck
  pop (suc k) (e ∷ st) es go = pop k st (e ∷ es) go

  -- what must hold, or be there
  abbrev pub when : Bool → StepResult M → StepResult M
  when b next = if b then next else Stuck

  -- on with what is there
  abbrev pub on_some : {A : Type 0} → Option A → (A → StepResult M) → StepResult M
  on_some None go = Stuck
  on_some (Some x) go = go x

  -- on, or the fault
  abbrev pub then_go : MemoryResult M → (M → StepResult M) → StepResult M
  then_go (Done n) go = go n
  then_go (Failed f) go = Fails f

  -- on with a number, or the fault
  abbrev pub on_result : OperatorResult → (ℤ → StepResult M) → StepResult M
  on_result (Yields n) go = go n
  on_result (OperatorFault f) go = Fails f

  -- the ordinal in a cell, or F4; the channel, or F5
  abbrev pub ordinal_in : Cell → (ℤ → StepResult M) → StepResult M
  ordinal_in (cell.Ordinal v) go = go v
  ordinal_in _ _ = Fails fault.F4

  -- on with the channel in a cell, or F5
  abbrev pub channel_in : Cell → (ℕ → StepResult M) → StepResult M
  channel_in (cell.Channel c) go = go c
  channel_in _ _ = Fails fault.F5

module _ {M : Type 0} (ops : Ops M) (code : Parts) where
  -- what becomes of one operand, and of two; and whether something holds
  abbrev pub on_one : (ℤ → OperatorResult) → ℕ → List Entry → M → StepResult M
  on_one f pc stack n = on_number stack (λ v st. on_result (f v) (λ w. Goes (At (pc + 1) (Number w ∷ st) n)))

  abbrev pub on_two : BinaryOp → ℕ → List Entry → M → StepResult M
  on_two o pc stack n = on_number stack (λ v st. on_number st
      (λ u st1. on_result (binary_op o u v) (λ w. Goes (At (pc + 1) (Number w ∷ st1) n))))

  abbrev pub truth_step : Bool → ℕ → List Entry → M → StepResult M
  truth_step b pc st n = on_result (truth b) (λ w. Goes (At pc (Number w ∷ st) n))

  -- an address within another, whose offset must be a number of 32 bits; what uses it asks for the cells behind it
  abbrev pub selection_step : Address → ℕ → List Entry → M → StepResult M
  selection_step a pc st n = when (nat_le a.offset 4294967295) (Goes (At pc (Pointer a ∷ st) n))

  -- after a tick or a call the process pauses where it is due and no function is being called
  abbrev pub pause_step : ℕ → List Entry → M → StepResult M
  pause_step pc st n = if is_in_no_function st then
      (if ops.due n then Stops Pauses (At pc st n) else Goes (At pc st n)) else
      Goes (At pc st n)

  -- a call of a block, with where it goes on afterwards
  abbrev pub enter_step : Layout → ℕ → List Entry → M → StepResult M
  enter_step l r st n = if l.answer then Goes (At l.entry (Reply r ∷ st) n) else pause_step l.entry (Link r ∷ st) n

  -- a block is called, with its arguments on the stack
  abbrev pub call_step : Layout → (up : ℕ) → ℕ → List Entry → M → StepResult M
  call_step l up r stack n =
      pop (length l.formals) stack [] (λ es st. when (fit_formals l.formals es)
      (when (ops.can_push up n) (then_go (ops.open_frame l up es n) (λ m. enter_step l r st m))))

  -- the return of a procedure, or of a function with its result
  abbrev pub return_step : List Entry → M → StepResult M
  return_step (Link r ∷ st) n = when (ops.may_close n) (Goes (At r st (ops.close_frame n)))
  return_step (Reply r ∷ st) n =
      when (ops.may_close n) (on_some (ops.answer n)
      (λ a. when (ops.has a 1 n) (ordinal_in (ops.read a n)
      (λ v. Goes (At r (Number v ∷ st) (ops.close_frame n))))))
  return_step _ _ = Stuck

  -- an item read into an address
  abbrev pub item_step : ReadResult → Address → ℕ → List Entry → M → StepResult M
  item_step (ReadItem v bytes) a pc st n = Goes (At pc st (ops.put a (cell.Ordinal v) (ops.advance bytes n)))
  item_step (Faulty f) a pc st n = Fails f

  abbrev pub reads : (List ℕ → ReadResult) → ℕ → List Entry → M → StepResult M
  reads item pc stack n = on_address stack (λ a st. when (ops.has a 1 n)
      (on_some (ops.left n) (λ bs. item_step (item bs) a pc st n)))

  -- bytes written, as they are or right in a width, which cuts booleans and texts
  abbrev pub prints : List ℕ → ℕ → List Entry → M → StepResult M
  prints t pc st n = when (ops.has_output n) (then_go (ops.print t n) (λ m. Goes (At pc st m)))

  -- a text with a width: right in so many columns, or F1
  abbrev pub prints_wide : (cut : Bool) → List ℕ → ℤ → ℕ → List Entry → M → StepResult M
  prints_wide cut t m pc st n = if int_le m (pos 0) then Fails fault.F1 else
      prints (right_justified (nat_abs m) (if cut then take (nat_abs m) t else t)) pc st n

  abbrev pub writes : (ℤ → List ℕ) → ℕ → List Entry → M → StepResult M
  writes text pc stack n = on_number stack (λ v st. prints (text v) pc st n)

  abbrev pub writes_wide : (cut : Bool) → (ℤ → List ℕ) → ℕ → List Entry → M → StepResult M
  writes_wide cut text pc stack n =
      on_number stack (λ m st. on_number st (λ v st1. prints_wide cut (text v) m pc st1 n))

  -- a for loop: its first value is assigned, or there is none; its next value, or there is none
  abbrev pub begins_loop : (down : Bool) (var to pc : ℕ) → List Entry → M → StepResult M
  begins_loop down var to pc stack n =
      on_number stack (λ last st. on_number st (λ first st1. on_some (ops.addr 0 var n) (λ a. when (ops.has a 1 n) (
      if is_range down first last then Goes (At (pc + 1) (Number last ∷ st1) (ops.put a (cell.Ordinal first) n)) else
      Goes (At to st1 n)))))

  -- the end of a loop: on with the next value, or behind it
  abbrev pub ends_loop : (down : Bool) (var to pc : ℕ) → List Entry → M → StepResult M
  ends_loop down var to pc stack n =
      on_number stack (λ last st. on_some (ops.addr 0 var n) (λ a. when (ops.has a 1 n) (ordinal_in (ops.read a n) (λ v.
      if is_before down v last then Goes (At to (Number last ∷ st)
      (ops.put a (cell.Ordinal (next_value down v)) n)) else Goes (At (pc + 1) st n)))))

  -- a fork, if one level more is allowed
  abbrev pub fork_step : (table : ℕ) (first : ℤ) (count : ℕ) → ℕ → List Entry → M → StepResult M
  fork_step t first count pc st n = if ops.may_fork n then Stops (Forks t first count) (At pc st n) else Fails fault.F11

  -- the effect of an instruction; there may be none at this place
  abbrev pub instruction : Option Instr → ℕ → List Entry → M → StepResult M
  instruction None pc stack n = Stuck
  instruction (Some (i.Const v)) pc stack n = Goes (At (pc + 1) (Number v ∷ stack) n)
  instruction (Some (i.Addr up var)) pc stack n =
      on_some (ops.addr up var n) (λ a. Goes (At (pc + 1) (Pointer a ∷ stack) n))
  instruction (Some (i.Deref up var)) pc stack n =
      on_some (ops.deref up var n) (λ a. Goes (At (pc + 1) (Pointer a ∷ stack) n))
  instruction (Some (i.Index low high size)) pc stack n =
      on_number stack (λ v st. on_address st
      (λ a st1. if int_le low v && int_le v high then
      selection_step (address_after (nat_abs (v -ℤ low) * size) a) (pc + 1) st1 n else Fails fault.F1))
  instruction (Some (i.Field k)) pc stack n =
      on_address stack (λ a st. selection_step (address_after k a) (pc + 1) st n)
  instruction (Some i.Load) pc stack n = on_address stack
      (λ a st. when (ops.has a 1 n) (ordinal_in (ops.read a n) (λ v. Goes (At (pc + 1) (Number v ∷ st) n))))
  instruction (Some i.Loadc) pc stack n = on_address stack
      (λ a st. when (ops.has a 1 n) (channel_in (ops.read a n) (λ c. Goes (At (pc + 1) (Chan c ∷ st) n))))
  instruction (Some i.Store) pc stack n = on_cell stack
      (λ c st. on_address st (λ a st1. when (ops.has a 1 n) (Goes (At (pc + 1) st1 (ops.put a c n)))))
  instruction (Some (i.Copy k)) pc stack n =
      on_address stack (λ from st. on_address st
      (λ to st1. when (ops.has from k n && ops.has to k n) (Goes (At (pc + 1) st1 (ops.copy to from k n)))))
  instruction (Some i.Add) pc stack n = on_two op.Add pc stack n
  instruction (Some i.Sub) pc stack n = on_two op.Sub pc stack n
  instruction (Some i.Mul) pc stack n = on_two op.Mul pc stack n
  instruction (Some i.Div) pc stack n = on_two op.Div pc stack n
  instruction (Some i.Mod) pc stack n = on_two op.Mod pc stack n
  instruction (Some i.Neg) pc stack n = on_one (unary_op sign.Minus) pc stack n
  instruction (Some i.Abs) pc stack n = on_one absolute_value pc stack n
  instruction (Some i.Sqr) pc stack n = on_one square pc stack n
  instruction (Some i.Odd) pc stack n = on_one is_odd pc stack n
  instruction (Some i.And) pc stack n = on_two op.And pc stack n
  instruction (Some i.Or) pc stack n = on_two op.Or pc stack n
  instruction (Some i.Not) pc stack n = on_one (unary_op sign.Not) pc stack n
  instruction (Some i.Eq) pc stack n = on_equals stack (λ b st. truth_step b (pc + 1) st n)
  instruction (Some i.Ne) pc stack n = on_equals stack (λ b st. truth_step (not b) (pc + 1) st n)
  instruction (Some i.Lt) pc stack n = on_two op.Lt pc stack n
  instruction (Some i.Le) pc stack n = on_two op.Le pc stack n
  instruction (Some i.Gt) pc stack n = on_two op.Gt pc stack n
  instruction (Some i.Ge) pc stack n = on_two op.Ge pc stack n
  instruction (Some (i.Range low high)) pc stack n = on_one (value_in_range low high) pc stack n
  instruction (Some (i.Succ high)) pc stack n = on_one (successor high) pc stack n
  instruction (Some (i.Pred low)) pc stack n = on_one (predecessor low) pc stack n
  instruction (Some (i.Jump to)) pc stack n = Goes (At to stack n)
  instruction (Some (i.Jumpf to)) pc stack n =
      on_number stack (λ v st. if not (int_le v (pos 0)) then Goes (At (pc + 1) st n) else Goes (At to st n))
  instruction (Some (i.Casej v to)) pc stack n =
      on_number stack (λ u st. if same_ordinal u v then Goes (At to st n) else Goes (At (pc + 1) (Number u ∷ st) n))
  instruction (Some i.Nocase) pc stack n = Fails fault.F9
  instruction (Some i.Tick) pc stack n = then_go (ops.tick n) (λ m. pause_step (pc + 1) stack m)
  instruction (Some i.Assume) pc stack n = on_number stack
      (λ v st. if not (int_le v (pos 0)) then Goes (At (pc + 1) st n) else Fails fault.F8)
  instruction (Some (i.Forup var to)) pc stack n = begins_loop false var to pc stack n
  instruction (Some (i.Fordown var to)) pc stack n = begins_loop true var to pc stack n
  instruction (Some (i.Nextup var to)) pc stack n = ends_loop false var to pc stack n
  instruction (Some (i.Nextdown var to)) pc stack n = ends_loop true var to pc stack n
  instruction (Some (i.Call b up)) pc stack n =
      on_some (layout_of code.layouts b) (λ l. call_step l up (pc + 1) stack n)
  instruction (Some i.Return) pc stack n = return_step stack n
  instruction (Some i.ReadInt) pc stack n = reads number_in (pc + 1) stack n
  instruction (Some i.ReadChar) pc stack n = reads char_in (pc + 1) stack n
  instruction (Some i.Readln) pc stack n = on_some (ops.left n)
      (λ bs. Goes (At (pc + 1) stack (ops.advance (line_length bs) n)))
  instruction (Some i.Eof) pc stack n = on_some (ops.left n) (λ bs. truth_step (length bs == 0) (pc + 1) stack n)
  instruction (Some i.Eoln) pc stack n = on_some (ops.left n) (λ bs. truth_step (at_line_end bs) (pc + 1) stack n)
  instruction (Some i.WriteInt) pc stack n = writes signed_decimal (pc + 1) stack n
  instruction (Some i.WriteChar) pc stack n = writes (λ v. byte v ∷ []) (pc + 1) stack n
  instruction (Some i.WriteBool) pc stack n = writes truth_text (pc + 1) stack n
  instruction (Some (i.WriteText k)) pc stack n = on_some (slice_get code.texts k) (λ t. prints t (pc + 1) stack n)
  instruction (Some i.WritewInt) pc stack n = writes_wide false signed_decimal (pc + 1) stack n
  instruction (Some i.WritewChar) pc stack n = writes_wide false (λ v. byte v ∷ []) (pc + 1) stack n
  instruction (Some i.WritewBool) pc stack n = writes_wide true truth_text (pc + 1) stack n
  instruction (Some (i.WritewText k)) pc stack n =
      on_number stack (λ m st. on_some (slice_get code.texts k) (λ t. prints_wide true t m (pc + 1) st n))
  instruction (Some i.Writeln) pc stack n = prints (10 ∷ []) (pc + 1) stack n
  instruction (Some (i.Pack k)) pc stack n =
      on_address stack (λ a st. when (ops.has a k n) (Goes (At (pc + 1) (Cells (ops.cells a k n) ∷ st) n)))
  instruction (Some i.Open) pc stack n = on_address stack
      (λ a st. when (ops.has a 1 n) (Stops (Opens a) (At (pc + 1) st (ops.make_own a n))))
  instruction (Some (i.Send k)) pc stack n =
      on_cells stack (λ cs st. on_channel st (λ c st1. Stops (Sends c k cs) (At (pc + 1) st1 n)))
  instruction (Some (i.Receive k)) pc stack n =
      on_address stack (λ a st. on_channel st
      (λ c st1. when (ops.has a 0 n) (Stops (Receives c k a) (At (pc + 1) st1 (ops.make_own a n)))))
  instruction (Some (i.Fork t)) pc stack n =
      on_some (slice_get code.forks t) (λ table. fork_step t (pos 0) (length table.children) (pc + 1) stack n)
  instruction (Some (i.Forall t)) pc stack n =
      on_number stack (λ last st. on_number st
      (λ first st1. if int_lt last first then Goes (At (pc + 1) st1 n) else
      fork_step t first (values_in first last) (pc + 1) st1 n))
  instruction (Some i.End) pc stack n = Stops Ends (At pc stack n)

  -- the next instruction of a process
  abbrev pub next_step : Config M → StepResult M
  next_step (At pc stack n) = instruction (slice_get code.instrs pc) pc stack n
