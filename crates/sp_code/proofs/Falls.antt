-- A number falls with each instruction whose ways make the rank fall.
use Rattle.std.proofs.Common.{◌≡◌, ℕ, zero, suc, ◌+◌, ◌*◌, ◌<◌, ◌≤◌, ◌==◌, ℤ, List, [], ◌∷◌, length, Option, Some, None}
use Rattle.std.proofs.Common.{Bool, true, false, if◌then◌else◌, ◌&&◌, refl, subst, arith}
use Rattle.std.specs.Prelude.{slice_get, nat_lt, nat_le, nat_abs, int_le, int_lt, pos, ◌-ℤ◌, take, not}
use Rattle.std.proofs.Math.Nat.{mul-le-mul_left}
use Rattle.std.specs.Fmt.{signed_decimal}
use Rattle.sp_tree.specs.declared.operators.BinaryOp.{BinaryOp}
use Rattle.sp_tree.specs.declared.operators.BinaryOp.TheVariants as op
use Rattle.sp_tree.specs.declared.operators.UnaryOp.TheVariants as sign
use Rattle.sp_tree.specs.Operators.{OperatorResult, Yields, OperatorFault, value_in_range, successor, predecessor}
use Rattle.sp_tree.specs.Operators.{absolute_value, square, is_odd}
use Rattle.sp_tree.specs.Operators.{unary_op, binary_op, same_ordinal}
use Rattle.sp_tree.specs.Items.{ReadResult, ReadItem, ReadFault as Faulty, number_in, char_in, at_line_end}
use Rattle.sp_tree.specs.Items.{right_justified, truth_text}
use Rattle.sp_cell.specs.declared.cell.Cell.{Cell}
use Rattle.sp_cell.specs.declared.cell.Cell.TheVariants as cell
use Rattle.sp_cell.specs.declared.spot.Address.{Address}
use Rattle.sp_code.specs.declared.instr.Instr.{Instr}
use Rattle.sp_code.specs.declared.instr.Instr.TheVariants as i
use Rattle.sp_code.specs.declared.code.Layout.{Layout}
use Rattle.sp_code.specs.declared.code.Parts.{Parts}
use Rattle.sp_tree.specs.Items.{byte}
use Rattle.sp_code.specs.Machine.{Entry, Number, Chan, Pointer, Cells, Link, Reply, address_after, MemoryResult, Done}
use Rattle.sp_code.specs.Machine.{Failed, Ops}
use Rattle.sp_code.specs.Machine.{Config, At, StepResult, Goes, Stops, Fails, Stuck, is_in_no_function, is_range}
use Rattle.sp_code.specs.Machine.{is_before, next_value}
use Rattle.sp_code.specs.Machine.{values_in, fit_formals, layout_of, on_number, on_channel, on_address, on_cell}
use Rattle.sp_code.specs.Machine.{on_cells, on_equals, pop, when, on_some, then_go, on_result, ordinal_in, channel_in}
use Rattle.sp_code.specs.Machine.{on_one, on_two, truth_step, selection_step, pause_step, enter_step, call_step}
use Rattle.sp_code.specs.Machine.{return_step, item_step, reads}
use Rattle.sp_code.specs.Machine.{prints, prints_wide, writes, writes_wide, begins_loop, ends_loop, fork_step}
use Rattle.sp_code.specs.Machine.{instruction, next_step}
use Rattle.sp_code.specs.Turns.{run_after_step, run_within, run_if_begun, turn_within, frames_fit}
use Rattle.sp_code.specs.Ranks.{ways, larger_of, maximum_of, rank, AllBelow, IsRanked, RanksFall, IsRankedAlong}
use Rattle.sp_code.specs.Budgets.{HasBudget, left_on_return, left_by, IsOver}

pub larger_max : (a b n : ℕ) → a ≤ n → b ≤ n → larger_of a b ≤ n
larger_max a b n h k = go (nat_lt a b)
  where
    go : (t : Bool) → (if t then b else a) ≤ n
    go true = k
    go false = h

most_max : (f : ℕ → ℕ) (n : ℕ) → ((p : ℕ) → f p ≤ n) → (ps : List ℕ) → maximum_of f ps ≤ n
most_max f n h [] = omega arith
most_max f n h (p ∷ ps) = larger_max (f p) (maximum_of f ps) n (h p) (most_max f n h ps)

-- no rank is above its bound
pub rank_max : (n : ℕ) (code : List Instr) (p : ℕ) → rank n code p ≤ n
unfolding rank
rank_max zero code p = omega arith
rank_max (suc n) code p = let h = most_max (rank n code) n (rank_max n code) (ways p (slice_get code p)) in
    omega (arith, h)

-- where an instruction goes on, the number is below b
abbrev pub Falls : {M : Type 0} → (Config M → ℕ) → ℕ → StepResult M → Type 0
Falls left b (Goes d) = left d < b
Falls left b (Stops s d) = Unit {0}
Falls left b (Fails f) = Unit {0}
Falls left b Stuck = Unit {0}

module _ {M : Type 0} (left : Config M → ℕ) (b : ℕ) (f : ℕ → ℕ) where
  abbrev Down : StepResult M → Type 0
  Down o = Falls left b o

  falls_number : (st : List Entry) (go : ℤ → List Entry → StepResult M)
      → ((x : ℤ) (st1 : List Entry) → left_on_return f st1 ≤ left_on_return f st → Down (go x st1))
      → Down (on_number st go)
  falls_number (Number v ∷ st) go h = h v st (omega arith)
  falls_number _ _ _ = tt

  falls_channel : (st : List Entry) (go : ℕ → List Entry → StepResult M)
      → ((x : ℕ) (st1 : List Entry) → left_on_return f st1 ≤ left_on_return f st → Down (go x st1))
      → Down (on_channel st go)
  falls_channel (Chan c ∷ st) go h = h c st (omega arith)
  falls_channel _ _ _ = tt

  falls_address : (st : List Entry) (go : Address → List Entry → StepResult M)
      → ((x : Address) (st1 : List Entry) → left_on_return f st1 ≤ left_on_return f st → Down (go x st1))
      → Down (on_address st go)
  falls_address (Pointer a ∷ st) go h = h a st (omega arith)
  falls_address _ _ _ = tt

  falls_cell : (st : List Entry) (go : Cell → List Entry → StepResult M)
      → ((x : Cell) (st1 : List Entry) → left_on_return f st1 ≤ left_on_return f st → Down (go x st1))
      → Down (on_cell st go)
  falls_cell (Number v ∷ st) go h = h (cell.Ordinal v) st (omega arith)
  falls_cell (Chan c ∷ st) go h = h (cell.Channel c) st (omega arith)
  falls_cell _ _ _ = tt

  falls_cells : (st : List Entry) (go : List Cell → List Entry → StepResult M)
      → ((x : List Cell) (st1 : List Entry) → left_on_return f st1 ≤ left_on_return f st → Down (go x st1))
      → Down (on_cells st go)
  falls_cells (Number v ∷ st) go h = h (cell.Ordinal v ∷ []) st (omega arith)
  falls_cells (Chan c ∷ st) go h = h (cell.Channel c ∷ []) st (omega arith)
  falls_cells (Cells cs ∷ st) go h = h cs st (omega arith)
  falls_cells _ _ _ = tt

  falls_equals : (st : List Entry) (go : Bool → List Entry → StepResult M)
      → ((x : Bool) (st1 : List Entry) → left_on_return f st1 ≤ left_on_return f st → Down (go x st1))
      → Down (on_equals st go)
  falls_equals (Number v ∷ st) go h = falls_number st _ (λ u st1 e. h (same_ordinal u v) st1 e)
  falls_equals (Chan c ∷ st) go h = falls_channel st _ (λ d st1 e. h (d == c) st1 e)
  falls_equals _ _ _ = tt

  falls_pop : (k : ℕ) (st es : List Entry) (go : List Entry → List Entry → StepResult M)
      → ((xs st1 : List Entry) → left_on_return f st1 ≤ left_on_return f st → Down (go xs st1)) → Down (pop k st es go)
  falls_pop zero st es go h = h es st (omega arith)
  falls_pop (suc k) [] es go h = tt
  falls_pop (suc k) (Number v ∷ st) es go h = falls_pop k st (Number v ∷ es) go (λ xs st1 e. h xs st1 e)
  falls_pop (suc k) (Chan c ∷ st) es go h = falls_pop k st (Chan c ∷ es) go (λ xs st1 e. h xs st1 e)
  falls_pop (suc k) (Pointer a ∷ st) es go h = falls_pop k st (Pointer a ∷ es) go (λ xs st1 e. h xs st1 e)
  falls_pop (suc k) (Cells cs ∷ st) es go h = falls_pop k st (Cells cs ∷ es) go (λ xs st1 e. h xs st1 e)
  falls_pop (suc k) (Link r ∷ st) es go h = falls_pop k st (Link r ∷ es) go (λ xs st1 e. h xs st1 (omega arith))
  falls_pop (suc k) (Reply r ∷ st) es go h = falls_pop k st (Reply r ∷ es) go (λ xs st1 e. h xs st1 (omega arith))

  falls_when : (t : Bool) (o : StepResult M) → Down o → Down (when t o)
  falls_when true o h = h
  falls_when false o h = tt

  falls_there : {A : Type 0} (x : Option A) (go : A → StepResult M) → ((a : A) → Down (go a)) → Down (on_some x go)
  falls_there None go h = tt
  falls_there (Some a) go h = h a

  falls_then : (d : MemoryResult M) (go : M → StepResult M) → ((m : M) → d ≡ Done m → Down (go m)) → Down (then_go d go)
  falls_then (Done m) go h = h m refl
  falls_then (Failed e) go h = tt

  falls_worked : (w : OperatorResult) (go : ℤ → StepResult M) → ((n : ℤ) → Down (go n)) → Down (on_result w go)
  falls_worked (Yields n) go h = h n
  falls_worked (OperatorFault e) go h = tt

  falls_ordinal : (c : Cell) (go : ℤ → StepResult M) → ((n : ℤ) → Down (go n)) → Down (ordinal_in c go)
  falls_ordinal cell.Undefined go h = tt
  falls_ordinal (cell.Ordinal v) go h = h v
  falls_ordinal (cell.Channel c) go h = tt

  falls_channel_in : (c : Cell) (go : ℕ → StepResult M) → ((n : ℕ) → Down (go n)) → Down (channel_in c go)
  falls_channel_in cell.Undefined go h = tt
  falls_channel_in (cell.Ordinal v) go h = tt
  falls_channel_in (cell.Channel c) go h = h c

  falls_if : (t : Bool) (x y : StepResult M) → Down x → Down y → Down (if t then x else y)
  falls_if true x y h k = h
  falls_if false x y h k = k

module _ {M : Type 0} (ops : Ops M) (code : Parts) (budget : M → ℕ) (law : HasBudget ops budget) where
  abbrev r : ℕ → ℕ
  r p = rank (suc (length code.instrs)) code.instrs p

  abbrev left : Config M → ℕ
  left c = left_by code.instrs budget c

  r_max : (p : ℕ) → r p ≤ suc (length code.instrs)
  r_max p = rank_max (suc (length code.instrs)) code.instrs p

  -- an instruction that leaves the ticks as they are
  goes_down : (pc next : ℕ) (st st1 : List Entry) (n m : M) → budget m ≤ budget n
      → r next + left_on_return r st1 < r pc + left_on_return r st → left (At next st1 m) < left (At pc st n)
  goes_down pc next st st1 n m e h = omega (arith, mul-le-mul_left (2 * length code.instrs + 5) e)

  -- one that takes a tick
  ticks_down : (pc next : ℕ) (st st1 : List Entry) (n m : M) → budget m + 1 ≤ budget n
      → left_on_return r st1 ≤ left_on_return r st + length code.instrs + 2 → left (At next st1 m) < left (At pc st n)
  ticks_down pc next st st1 n m e h = omega (arith, mul-le-mul_left (2 * length code.instrs + 5) e, r_max next)

  module _ (pc : ℕ) (st : List Entry) (n : M) where
    abbrev D : StepResult M → Type 0
    D o = Falls left (left (At pc st n)) o

    -- on to a place with a smaller rank, with a stack that is no higher, and the ticks as they are
    on_to : (next : ℕ) (st1 : List Entry) (m : M) → r next < r pc → left_on_return r st1 ≤ left_on_return r st
        → budget m ≤ budget n
        → D (Goes (At next st1 m))
    on_to next st1 m lt e k = goes_down pc next st st1 n m k (omega arith)

    same_budget : budget n ≤ budget n
    same_budget = omega arith

    one_down : (g : ℤ → OperatorResult) → r (pc + 1) < r pc → D (on_one ops code g pc st n)
    one_down g lt = falls_number left _ r st _
        (λ v st1 e. falls_worked left _ r (g v) _ (λ w. on_to (pc + 1) (Number w ∷ st1) n lt e same_budget))

    two_down : (o : BinaryOp) → r (pc + 1) < r pc → D (on_two ops code o pc st n)
    two_down o lt = falls_number left _ r st _
        (λ v st1 e. falls_number left _ r st1 _
        (λ u st2 k. falls_worked left _ r (binary_op o u v) _
        (λ w. on_to (pc + 1) (Number w ∷ st2) n lt (omega arith) same_budget)))

    told_down : (t : Bool) (st1 : List Entry) → r (pc + 1) < r pc → left_on_return r st1 ≤ left_on_return r st
        → D (truth_step ops code t (pc + 1) st1 n)
    told_down t st1 lt e = on_to (pc + 1) (Number (if t then pos 1 else pos 0) ∷ st1) n lt e same_budget

    selected_down : (a : Address) (st1 : List Entry) → r (pc + 1) < r pc → left_on_return r st1 ≤ left_on_return r st
        → D (selection_step ops code a (pc + 1) st1 n)
    selected_down a st1 lt e = falls_when left _ r (nat_le a.offset 4294967295) _
        (on_to (pc + 1) (Pointer a ∷ st1) n lt e same_budget)

    -- a pause or a step on
    paced_down : (next : ℕ) (st1 : List Entry) (m : M) → left (At next st1 m) < left (At pc st n)
        → D (pause_step ops code next st1 m)
    paced_down next st1 m h = falls_if left _ r (is_in_no_function st1) _ _ (falls_if left _ r (ops.due m) _ _ tt h) h

    entered_down : (l : Layout) (st1 : List Entry) (m : M) → left_on_return r st1 ≤ left_on_return r st
        → budget m + 1 ≤ budget n
        → D (enter_step ops code l (pc + 1) st1 m)
    entered_down l st1 m e k =
        falls_if left _ r l.answer _ _ (ticks_down pc l.entry st (Reply (pc + 1) ∷ st1) n m k
        (omega (arith, r_max (pc + 1))))
        (paced_down l.entry (Link (pc + 1) ∷ st1) m
        (ticks_down pc l.entry st (Link (pc + 1) ∷ st1) n m k (omega (arith, r_max (pc + 1)))))

    called_down : (l : Layout) (up : ℕ) → D (call_step ops code l up (pc + 1) st n)
    called_down l up =
        falls_pop left _ r (length l.formals) st [] _
        (λ es st1 e. falls_when left _ r (fit_formals l.formals es) _
        (falls_when left _ r (ops.can_push up n) _
        (falls_then left _ r (ops.open_frame l up es n) _
        (λ m k. entered_down l st1 m e (law.open_frame l up es n m k)))))

    taken_down : (t : ReadResult) (a : Address) (st1 : List Entry) → r (pc + 1) < r pc
        → left_on_return r st1 ≤ left_on_return r st
        → D (item_step ops code t a (pc + 1) st1 n)
    taken_down (ReadItem v bytes) a st1 lt e = let x = law.put a (cell.Ordinal v) (ops.advance bytes n) in
        let y = law.advance bytes n in on_to (pc + 1) st1 (ops.put a (cell.Ordinal v) (ops.advance bytes n)) lt e
        (omega (arith, x, y))
    taken_down (Faulty g) a st1 lt e = tt

    reads_down : (item : List ℕ → ReadResult) → r (pc + 1) < r pc → D (reads ops code item (pc + 1) st n)
    reads_down item lt = falls_address left _ r st _
        (λ a st1 e. falls_when left _ r (ops.has a 1 n) _
        (falls_there left _ r (ops.left n) _ (λ bs. taken_down (item bs) a st1 lt e)))

    prints_down : (t : List ℕ) (st1 : List Entry) → r (pc + 1) < r pc → left_on_return r st1 ≤ left_on_return r st
        → D (prints ops code t (pc + 1) st1 n)
    prints_down t st1 lt e = falls_when left _ r (ops.has_output n) _
        (falls_then left _ r (ops.print t n) _ (λ m k. on_to (pc + 1) st1 m lt e (law.print t n m k)))

    wide_down : (cut : Bool) (t : List ℕ) (w : ℤ) (st1 : List Entry) → r (pc + 1) < r pc
        → left_on_return r st1 ≤ left_on_return r st
        → D (prints_wide ops code cut t w (pc + 1) st1 n)
    wide_down cut t w st1 lt e = falls_if left _ r (int_le w (pos 0)) _ _ tt
        (prints_down (right_justified (nat_abs w) (if cut then take (nat_abs w) t else t)) st1 lt e)

    writes_down : (text : ℤ → List ℕ) → r (pc + 1) < r pc → D (writes ops code text (pc + 1) st n)
    writes_down text lt = falls_number left _ r st _ (λ v st1 e. prints_down (text v) st1 lt e)

    writes_wide_down : (cut : Bool) (text : ℤ → List ℕ) → r (pc + 1) < r pc
        → D (writes_wide ops code cut text (pc + 1) st n)
    writes_wide_down cut text lt = falls_number left _ r st _
        (λ w st1 e. falls_number left _ r st1 _ (λ v st2 k. wide_down cut (text v) w st2 lt (omega arith)))

    begins_down : (down : Bool) (var to : ℕ) → r to < r pc → r (pc + 1) < r pc
        → D (begins_loop ops code down var to pc st n)
    begins_down down var to lt lt1 =
        falls_number left _ r st _ (λ last st1 e. falls_number left _ r st1 _
        (λ first st2 k. falls_there left _ r (ops.addr 0 var n) _ (λ a. falls_when left _ r (ops.has a 1 n) _
        (falls_if left _ r (is_range down first last) _ _
        (on_to (pc + 1) (Number last ∷ st2) (ops.put a (cell.Ordinal first) n) lt1 (omega arith)
        (law.put a (cell.Ordinal first) n)) (on_to to st2 n lt (omega arith) same_budget)))))

    ends_down : (down : Bool) (var to : ℕ) → r to < r pc → r (pc + 1) < r pc
        → D (ends_loop ops code down var to pc st n)
    ends_down down var to lt lt1 =
        falls_number left _ r st _ (λ last st1 e. falls_there left _ r (ops.addr 0 var n) _
        (λ a. falls_when left _ r (ops.has a 1 n) _ (falls_ordinal left _ r (ops.read a n) _ (λ v.
        falls_if left _ r (is_before down v last) _ _
        (on_to to (Number last ∷ st1) (ops.put a (cell.Ordinal (next_value down v)) n) lt e
        (law.put a (cell.Ordinal (next_value down v)) n)) (on_to (pc + 1) st1 n lt1 e same_budget)))))

    forked_down : (t : ℕ) (first : ℤ) (count : ℕ) (next : ℕ) (st1 : List Entry)
        → D (fork_step ops code t first count next st1 n)
    forked_down t first count next st1 = falls_if left _ r (ops.may_fork n) _ _ tt tt

  returned_down : (pc : ℕ) (st : List Entry) (n : M) → 0 < r pc
      → Falls left (left (At pc st n)) (return_step ops code st n)
  returned_down pc (Link k ∷ st) n p = falls_when left _ r (ops.may_close n) _
      (goes_down pc k (Link k ∷ st) st n (ops.close_frame n) (law.close_frame n) (omega arith))
  returned_down pc (Reply k ∷ st) n p =
      falls_when left _ r (ops.may_close n) _
      (falls_there left _ r (ops.answer n) _
      (λ a. falls_when left _ r (ops.has a 1 n) _
      (falls_ordinal left _ r (ops.read a n) _
      (λ v. goes_down pc k (Reply k ∷ st) (Number v ∷ st) n (ops.close_frame n) (law.close_frame n)
      (omega arith)))))
  returned_down _ _ _ _ = tt

  instruction_down : (o : Option Instr) (pc : ℕ) (st : List Entry) (n : M) → 0 < r pc → AllBelow r (r pc) (ways pc o)
      → Falls left (left (At pc st n)) (instruction ops code o pc st n)
  instruction_down (Some (i.Const v)) pc st n p h =
      on_to pc st n (pc + 1) (Number v ∷ st) n h.0 (omega arith) (same_budget pc st n)
  instruction_down (Some (i.Addr up var)) pc st n p h =
      falls_there left _ r (ops.addr up var n) _
      (λ a. on_to pc st n (pc + 1) (Pointer a ∷ st) n h.0 (omega arith) (same_budget pc st n))
  instruction_down (Some (i.Deref up var)) pc st n p h =
      falls_there left _ r (ops.deref up var n) _
      (λ a. on_to pc st n (pc + 1) (Pointer a ∷ st) n h.0 (omega arith) (same_budget pc st n))
  instruction_down (Some (i.Index low high size)) pc st n p h =
      falls_number left _ r st _ (λ v st1 e. falls_address left _ r st1 _
      (λ a st2 k. falls_if left _ r (int_le low v && int_le v high) _ _
      (selected_down pc st n (address_after (nat_abs (v -ℤ low) * size) a) st2 h.0 (omega arith)) tt))
  instruction_down (Some (i.Field k)) pc st n p h =
      falls_address left _ r st _ (λ a st1 e. selected_down pc st n (address_after k a) st1 h.0 e)
  instruction_down (Some i.Load) pc st n p h =
      falls_address left _ r st _ (λ a st1 e. falls_when left _ r (ops.has a 1 n) _
      (falls_ordinal left _ r (ops.read a n) _
      (λ v. on_to pc st n (pc + 1) (Number v ∷ st1) n h.0 e (same_budget pc st n))))
  instruction_down (Some i.Loadc) pc st n p h =
      falls_address left _ r st _ (λ a st1 e. falls_when left _ r (ops.has a 1 n) _
      (falls_channel_in left _ r (ops.read a n) _
      (λ c. on_to pc st n (pc + 1) (Chan c ∷ st1) n h.0 e (same_budget pc st n))))
  instruction_down (Some i.Store) pc st n p h =
      falls_cell left _ r st _ (λ c st1 e. falls_address left _ r st1 _
      (λ a st2 k. falls_when left _ r (ops.has a 1 n) _
      (on_to pc st n (pc + 1) st2 (ops.put a c n) h.0 (omega arith) (law.put a c n))))
  instruction_down (Some (i.Copy k)) pc st n p h =
      falls_address left _ r st _ (λ from st1 e. falls_address left _ r st1 _
      (λ to st2 j. falls_when left _ r (ops.has from k n && ops.has to k n) _
      (on_to pc st n (pc + 1) st2 (ops.copy to from k n) h.0 (omega arith) (law.copy to from k n))))
  instruction_down (Some i.Add) pc st n p h = two_down pc st n op.Add h.0
  instruction_down (Some i.Sub) pc st n p h = two_down pc st n op.Sub h.0
  instruction_down (Some i.Mul) pc st n p h = two_down pc st n op.Mul h.0
  instruction_down (Some i.Div) pc st n p h = two_down pc st n op.Div h.0
  instruction_down (Some i.Mod) pc st n p h = two_down pc st n op.Mod h.0
  instruction_down (Some i.Neg) pc st n p h = one_down pc st n (unary_op sign.Minus) h.0
  instruction_down (Some i.Abs) pc st n p h = one_down pc st n absolute_value h.0
  instruction_down (Some i.Sqr) pc st n p h = one_down pc st n square h.0
  instruction_down (Some i.Odd) pc st n p h = one_down pc st n is_odd h.0
  instruction_down (Some i.And) pc st n p h = two_down pc st n op.And h.0
  instruction_down (Some i.Or) pc st n p h = two_down pc st n op.Or h.0
  instruction_down (Some i.Not) pc st n p h = one_down pc st n (unary_op sign.Not) h.0
  instruction_down (Some i.Eq) pc st n p h = falls_equals left _ r st _ (λ t st1 e. told_down pc st n t st1 h.0 e)
  instruction_down (Some i.Ne) pc st n p h = falls_equals left _ r st _ (λ t st1 e. told_down pc st n (not t) st1 h.0 e)
  instruction_down (Some i.Lt) pc st n p h = two_down pc st n op.Lt h.0
  instruction_down (Some i.Le) pc st n p h = two_down pc st n op.Le h.0
  instruction_down (Some i.Gt) pc st n p h = two_down pc st n op.Gt h.0
  instruction_down (Some i.Ge) pc st n p h = two_down pc st n op.Ge h.0
  instruction_down (Some (i.Range low high)) pc st n p h = one_down pc st n (value_in_range low high) h.0
  instruction_down (Some (i.Succ high)) pc st n p h = one_down pc st n (successor high) h.0
  instruction_down (Some (i.Pred low)) pc st n p h = one_down pc st n (predecessor low) h.0
  instruction_down (Some (i.Jump to)) pc st n p h = on_to pc st n to st n h.0 (omega arith) (same_budget pc st n)
  instruction_down (Some (i.Jumpf to)) pc st n p (at_to, (at_next, _)) =
      falls_number left _ r st _ (λ v st1 e. falls_if left _ r (not (int_le v (pos 0))) _ _
      (on_to pc st n (pc + 1) st1 n at_next e (same_budget pc st n))
      (on_to pc st n to st1 n at_to e (same_budget pc st n)))
  instruction_down (Some (i.Casej v to)) pc st n p (at_to, (at_next, _)) =
      falls_number left _ r st _ (λ u st1 e. falls_if left _ r (same_ordinal u v) _ _
      (on_to pc st n to st1 n at_to e (same_budget pc st n))
      (on_to pc st n (pc + 1) (Number u ∷ st1) n at_next e (same_budget pc st n)))
  instruction_down (Some i.Tick) pc st n p h =
      falls_then left _ r (ops.tick n) _ (λ m k. paced_down pc st n (pc + 1) st m
      (ticks_down pc (pc + 1) st st n m (law.tick n m k) (omega arith)))
  instruction_down (Some i.Assume) pc st n p h =
      falls_number left _ r st _ (λ v st1 e. falls_if left _ r (not (int_le v (pos 0))) _ _
      (on_to pc st n (pc + 1) st1 n h.0 e (same_budget pc st n)) tt)
  instruction_down (Some (i.Forup var to)) pc st n p (at_to, (at_next, _)) =
      begins_down pc st n false var to at_to at_next
  instruction_down (Some (i.Fordown var to)) pc st n p (at_to, (at_next, _)) =
      begins_down pc st n true var to at_to at_next
  instruction_down (Some (i.Nextup var to)) pc st n p (at_to, (at_next, _)) =
      ends_down pc st n false var to at_to at_next
  instruction_down (Some (i.Nextdown var to)) pc st n p (at_to, (at_next, _)) =
      ends_down pc st n true var to at_to at_next
  instruction_down (Some (i.Call b up)) pc st n p h =
      falls_there left _ r (layout_of code.layouts b) _ (λ l. called_down pc st n l up)
  instruction_down (Some i.Return) pc st n p h = returned_down pc st n p
  instruction_down (Some i.ReadInt) pc st n p h = reads_down pc st n number_in h.0
  instruction_down (Some i.ReadChar) pc st n p h = reads_down pc st n char_in h.0
  instruction_down (Some i.Readln) pc st n p h =
      falls_there left _ r (ops.left n) _ (λ bs. on_to pc st n (pc + 1) st _ h.0 (omega arith) (law.advance _ n))
  instruction_down (Some i.Eof) pc st n p h =
      falls_there left _ r (ops.left n) _ (λ bs. told_down pc st n (length bs == 0) st h.0 (omega arith))
  instruction_down (Some i.Eoln) pc st n p h =
      falls_there left _ r (ops.left n) _ (λ bs. told_down pc st n (at_line_end bs) st h.0 (omega arith))
  instruction_down (Some i.WriteInt) pc st n p h = writes_down pc st n signed_decimal h.0
  instruction_down (Some i.WriteChar) pc st n p h = writes_down pc st n (λ v. byte v ∷ []) h.0
  instruction_down (Some i.WriteBool) pc st n p h = writes_down pc st n truth_text h.0
  instruction_down (Some (i.WriteText k)) pc st n p h =
      falls_there left _ r (slice_get code.texts k) _ (λ t. prints_down pc st n t st h.0 (omega arith))
  instruction_down (Some i.WritewInt) pc st n p h = writes_wide_down pc st n false signed_decimal h.0
  instruction_down (Some i.WritewChar) pc st n p h = writes_wide_down pc st n false (λ v. byte v ∷ []) h.0
  instruction_down (Some i.WritewBool) pc st n p h = writes_wide_down pc st n true truth_text h.0
  instruction_down (Some (i.WritewText k)) pc st n p h =
      falls_number left _ r st _ (λ w st1 e. falls_there left _ r (slice_get code.texts k) _
      (λ t. wide_down pc st n true t w st1 h.0 e))
  instruction_down (Some i.Writeln) pc st n p h = prints_down pc st n (10 ∷ []) st h.0 (omega arith)
  instruction_down (Some (i.Pack k)) pc st n p h =
      falls_address left _ r st _ (λ a st1 e. falls_when left _ r (ops.has a k n) _
      (on_to pc st n (pc + 1) (Cells (ops.cells a k n) ∷ st1) n h.0 e (same_budget pc st n)))
  instruction_down (Some i.Open) pc st n p h =
      falls_address left _ r st _ (λ a st1 e. falls_when left _ r (ops.has a 1 n) _ tt)
  instruction_down (Some (i.Send k)) pc st n p h =
      falls_cells left _ r st _ (λ cs st1 e. falls_channel left _ r st1 _ (λ c st2 j. tt))
  instruction_down (Some (i.Receive k)) pc st n p h =
      falls_address left _ r st _ (λ a st1 e. falls_channel left _ r st1 _
      (λ c st2 j. falls_when left _ r (ops.has a 0 n) _ tt))
  instruction_down (Some (i.Fork t)) pc st n p h =
      falls_there left _ r (slice_get code.forks t) _
      (λ table. forked_down pc st n t (pos 0) (length table.children) (pc + 1) st)
  instruction_down (Some (i.Forall t)) pc st n p h =
      falls_number left _ r st _ (λ last st1 e. falls_number left _ r st1 _
      (λ first st2 k. falls_if left _ r (int_lt last first) _ _
      (on_to pc st n (pc + 1) st2 n h.0 (omega arith) (same_budget pc st n))
      (forked_down pc st n t first (values_in first last) (pc + 1) st2)))
  instruction_down _ _ _ _ _ _ = tt

  rank_above : (p : ℕ) → 0 < r p
  unfolding rank
  rank_above p = omega arith

  one_down_of : (c : Config M) → RanksFall code c → Falls left (left c) (next_step ops code c)
  one_down_of (At pc st n) ranked = instruction_down (slice_get code.instrs pc) pc st n (rank_above pc) ranked

  pub falls : (c d : Config M) → RanksFall code c → next_step ops code c ≡ Goes d → left d < left c
  falls c d ranked e = subst (Falls left (left c)) e (one_down_of c ranked)

  -- so a run of more instructions than the number comes to an end
  pub ran_over : (n : ℕ) (c : Config M) → IsRankedAlong ops code c → left c < n → IsOver (run_within ops code n c)
  ran_over zero c ranked h = absurd (omega arith)
  ran_over (suc n) c ranked h = go (λ d k lt. ran_over n d k lt) (next_step ops code c) refl
    where
      go : ((d : Config M) → IsRankedAlong ops code d → left d < n → IsOver (run_within ops code n d))
          → (o : StepResult M)
          → next_step ops code c ≡ o → IsOver (run_after_step ops code (run_within ops code n) c o)
      go on (Goes d) e = on d (λ b w. ranked b (record { steps = suc w.steps; proof = (d, e, w.proof) }))
          (omega (arith, falls c d (ranked c (record { steps = 0; proof = refl })) e))
      go on (Stops s d) e = tt
      go on (Fails f) e = tt
      go on Stuck e = tt

  pub turn_over : (c : Config M) → IsRankedAlong ops code c → IsOver (turn_within ops code (suc (left c)) c)
  turn_over c ranked = go (frames_fit ops code c)
    where
      go : (t : Bool) → IsOver (run_if_begun ops code (suc (left c)) t c)
      go true = ran_over (suc (left c)) c ranked (omega arith)
      go false = tt

-- where each instruction of the code makes the rank fall, so do those that a turn comes to
pub ranked_along : {M : Type 0} (ops : Ops M) (code : Parts) → IsRanked code.instrs → (c : Config M)
    → IsRankedAlong ops code c
unfolding IsRanked
ranked_along ops code ranked c (At pc st n) w = ranked pc
