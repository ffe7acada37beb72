-- What each operation of a memory keeps, each instruction keeps, and so each turn.
use Rattle.std.proofs.Common.{◌≡◌, ℕ, zero, suc, ◌+◌, ◌*◌, ◌==◌, ℤ, List, [], ◌∷◌, length, Option, Some, None, Bool}
use Rattle.std.proofs.Common.{true, false, if◌then◌else◌, ◌&&◌, refl, subst, sym}
use Rattle.std.specs.Prelude.{slice_get, nat_abs, nat_le, int_le, int_lt, pos, ◌-ℤ◌, take, not}
use Rattle.std.specs.Fmt.{signed_decimal}
use Rattle.std.proofs.lemmas.Bool.{and_parts}
use Rattle.sp_tree.specs.declared.operators.BinaryOp.{BinaryOp}
use Rattle.sp_tree.specs.declared.operators.BinaryOp.TheVariants as op
use Rattle.sp_tree.specs.declared.operators.UnaryOp.TheVariants as sign
use Rattle.sp_tree.specs.Operators.{OperatorResult, Yields, OperatorFault, value_in_range, successor, predecessor}
use Rattle.sp_tree.specs.Operators.{absolute_value, square, is_odd}
use Rattle.sp_tree.specs.Operators.{unary_op, binary_op, same_ordinal}
use Rattle.sp_tree.specs.Items.{ReadResult, ReadItem, ReadFault as Faulty, number_in, char_in, line_length, at_line_end}
use Rattle.sp_tree.specs.Items.{right_justified}
use Rattle.sp_tree.specs.Items.{truth_text, byte}
use Rattle.sp_cell.specs.declared.cell.Cell.{Cell}
use Rattle.sp_cell.specs.declared.cell.Cell.TheVariants as cell
use Rattle.sp_cell.specs.declared.spot.Address.{Address}
use Rattle.sp_code.specs.declared.instr.Instr.{Instr}
use Rattle.sp_code.specs.declared.instr.Instr.TheVariants as i
use Rattle.sp_code.specs.declared.code.Layout.{Layout}
use Rattle.sp_code.specs.declared.code.Parts.{Parts}
use Rattle.sp_code.specs.Machine.{Entry, Number, Chan, Pointer, Cells, Link, Reply, address_after, MemoryResult, Done}
use Rattle.sp_code.specs.Machine.{Failed, Ops}
use Rattle.sp_code.specs.Machine.{Config, At, StepResult, is_in_no_function, is_range, is_before, next_value, values_in}
use Rattle.sp_code.specs.Machine.{fit_formals}
use Rattle.sp_code.specs.Machine.{layout_of, on_number, on_channel, on_address, on_cell, on_cells, on_equals, pop, when}
use Rattle.sp_code.specs.Machine.{on_some, then_go, on_result, ordinal_in, channel_in, on_one, on_two, truth_step}
use Rattle.sp_code.specs.Machine.{selection_step, pause_step}
use Rattle.sp_code.specs.Machine.{enter_step, call_step, return_step, item_step, reads, prints, prints_wide, writes}
use Rattle.sp_code.specs.Machine.{writes_wide}
use Rattle.sp_code.specs.Machine.{begins_loop, ends_loop, fork_step, instruction, next_step}
use Rattle.sp_code.specs.Turns.{Turn, Stopped, Faulted, BeginsOrFaults, RunsIn, EndsSo, Runs, frames_fit, IsTurn}
use Rattle.sp_code.specs.Channels.{CellHas, CellsHave, EntriesHave, ConfigHas, TurnHas, TurnDoes, OneHas}

-- what the operations of a memory keep of I, where each channel that they are handed is one of C
pub record HasKeeping {M : Type 0} (ops : Ops M) (C : ℕ → Type 0) (I : M → Type 0) (J : ℕ → Address → M → Type 0) : Type
    0 where
  pub read : (a : Address) (n : M) → I n → CellHas C (ops.read a n)
  pub cells : (a : Address) (k : ℕ) (n : M) → I n → CellsHave C (ops.cells a k n)
  pub put : (a : Address) (c : Cell) (n : M) → I n → ops.has a 1 n ≡ true → CellHas C c → I (ops.put a c n)
  pub read_item : (a : Address) (v : ℤ) (k : ℕ) (bs : List ℕ) (n : M) → I n → ops.has a 1 n ≡ true
      → ops.left n ≡ Some bs
      → I (ops.put a (cell.Ordinal v) (ops.advance k n))
  pub advance : (k : ℕ) (bs : List ℕ) (n : M) → I n → ops.left n ≡ Some bs → I (ops.advance k n)
  pub copy : (to from : Address) (k : ℕ) (n : M) → I n → ops.has to k n ≡ true → I (ops.copy to from k n)
  pub make_own : (a : Address) (k : ℕ) (n : M) → I n → ops.has a k n ≡ true → I (ops.make_own a n)
  pub target : (a : Address) (k : ℕ) (n : M) → I n → ops.has a k n ≡ true → J k a (ops.make_own a n)
  pub print : (t : List ℕ) (n m : M) → I n → ops.has_output n ≡ true → ops.print t n ≡ Done m → I m
  pub tick : (n m : M) → I n → ops.tick n ≡ Done m → I m
  pub open_frame : (l : Layout) (up : ℕ) (es : List Entry) (n m : M) → I n → EntriesHave C es
      → ops.open_frame l up es n ≡ Done m → I m
  pub close_frame : (n : M) → I n → ops.may_close n ≡ true → I (ops.close_frame n)

module _ {M : Type 0} (C : ℕ → Type 0) (I : M → Type 0) (J : ℕ → Address → M → Type 0) where
  abbrev K : StepResult M → Type 0
  K o = OneHas C I J o

  k_number : (st : List Entry) (go : ℤ → List Entry → StepResult M) → EntriesHave C st
      → ((x : ℤ) (st1 : List Entry) → EntriesHave C st1 → K (go x st1)) → K (on_number st go)
  k_number (Number v ∷ st) go e h = h v st e.1
  k_number _ _ _ _ = tt

  k_channel : (st : List Entry) (go : ℕ → List Entry → StepResult M) → EntriesHave C st
      → ((x : ℕ) (st1 : List Entry) → C x → EntriesHave C st1 → K (go x st1)) → K (on_channel st go)
  k_channel (Chan c ∷ st) go e h = h c st e.0 e.1
  k_channel _ _ _ _ = tt

  k_address : (st : List Entry) (go : Address → List Entry → StepResult M) → EntriesHave C st
      → ((x : Address) (st1 : List Entry) → EntriesHave C st1 → K (go x st1)) → K (on_address st go)
  k_address (Pointer a ∷ st) go e h = h a st e.1
  k_address _ _ _ _ = tt

  k_cell : (st : List Entry) (go : Cell → List Entry → StepResult M) → EntriesHave C st
      → ((x : Cell) (st1 : List Entry) → CellHas C x → EntriesHave C st1 → K (go x st1)) → K (on_cell st go)
  k_cell (Number v ∷ st) go e h = h (cell.Ordinal v) st tt e.1
  k_cell (Chan c ∷ st) go e h = h (cell.Channel c) st e.0 e.1
  k_cell _ _ _ _ = tt

  k_cells : (st : List Entry) (go : List Cell → List Entry → StepResult M) → EntriesHave C st
      → ((x : List Cell) (st1 : List Entry) → CellsHave C x → EntriesHave C st1 → K (go x st1)) → K (on_cells st go)
  k_cells (Number v ∷ st) go e h = h (cell.Ordinal v ∷ []) st (tt, tt) e.1
  k_cells (Chan c ∷ st) go e h = h (cell.Channel c ∷ []) st (e.0, tt) e.1
  k_cells (Cells cs ∷ st) go e h = h cs st e.0 e.1
  k_cells _ _ _ _ = tt

  k_equals : (st : List Entry) (go : Bool → List Entry → StepResult M) → EntriesHave C st
      → ((x : Bool) (st1 : List Entry) → EntriesHave C st1 → K (go x st1)) → K (on_equals st go)
  k_equals (Number v ∷ st) go e h = k_number st _ e.1 (λ u st1 d. h (same_ordinal u v) st1 d)
  k_equals (Chan c ∷ st) go e h = k_channel st _ e.1 (λ d st1 f g. h (d == c) st1 g)
  k_equals _ _ _ _ = tt

  k_pop : (k : ℕ) (st es : List Entry) (go : List Entry → List Entry → StepResult M) → EntriesHave C st
      → EntriesHave C es
      → ((xs st1 : List Entry) → EntriesHave C xs → EntriesHave C st1 → K (go xs st1)) → K (pop k st es go)
  k_pop zero st es go e f h = h es st f e
  k_pop (suc k) [] es go e f h = tt
  k_pop (suc k) (x ∷ st) es go e f h = k_pop k st (x ∷ es) go e.1 (e.0, f) h

  k_when : (t : Bool) (o : StepResult M) → (t ≡ true → K o) → K (when t o)
  k_when true o h = h refl
  k_when false o h = tt

  k_there : {A : Type 0} (x : Option A) (go : A → StepResult M) → ((a : A) → x ≡ Some a → K (go a)) → K (on_some x go)
  k_there None go h = tt
  k_there (Some a) go h = h a refl

  k_then : (d : MemoryResult M) (go : M → StepResult M) → ((m : M) → d ≡ Done m → K (go m)) → K (then_go d go)
  k_then (Done m) go h = h m refl
  k_then (Failed e) go h = tt

  k_worked : (w : OperatorResult) (go : ℤ → StepResult M) → ((n : ℤ) → K (go n)) → K (on_result w go)
  k_worked (Yields n) go h = h n
  k_worked (OperatorFault e) go h = tt

  k_ordinal : (c : Cell) (go : ℤ → StepResult M) → ((n : ℤ) → K (go n)) → K (ordinal_in c go)
  k_ordinal cell.Undefined go h = tt
  k_ordinal (cell.Ordinal v) go h = h v
  k_ordinal (cell.Channel c) go h = tt

  k_channel_in : (c : Cell) (go : ℕ → StepResult M) → CellHas C c → ((n : ℕ) → C n → K (go n)) → K (channel_in c go)
  k_channel_in cell.Undefined go e h = tt
  k_channel_in (cell.Ordinal v) go e h = tt
  k_channel_in (cell.Channel c) go e h = h c e

  k_if : (t : Bool) (x y : StepResult M) → K x → K y → K (if t then x else y)
  k_if true x y h k = h
  k_if false x y h k = k

module _ {M : Type 0} (ops : Ops M) (code : Parts) (C : ℕ → Type 0) (I : M → Type 0) (J : ℕ → Address → M → Type 0)
    (law : HasKeeping ops C I J) where
  module _ (pc : ℕ) (st : List Entry) (n : M) (e : EntriesHave C st) (h : I n) where
    one_keeps : (g : ℤ → OperatorResult) → OneHas C I J (on_one ops code g pc st n)
    one_keeps g = k_number C I J st _ e (λ v st1 f. k_worked C I J (g v) _ (λ w. ((tt, f), h)))

    two_keeps : (o : BinaryOp) → OneHas C I J (on_two ops code o pc st n)
    two_keeps o = k_number C I J st _ e (λ v st1 f. k_number C I J st1 _ f
        (λ u st2 k. k_worked C I J (binary_op o u v) _ (λ w. ((tt, k), h))))

    told_keeps : (t : Bool) (st1 : List Entry) → EntriesHave C st1 → OneHas C I J (truth_step ops code t (pc + 1) st1 n)
    told_keeps t st1 f = ((tt, f), h)

    selected_keeps : (a : Address) (st1 : List Entry) → EntriesHave C st1
        → OneHas C I J (selection_step ops code a (pc + 1) st1 n)
    selected_keeps a st1 f = k_when C I J (nat_le a.offset 4294967295) _ (λ w. ((tt, f), h))

    paced_keeps : (next : ℕ) (st1 : List Entry) (m : M) → EntriesHave C st1 → I m
        → OneHas C I J (pause_step ops code next st1 m)
    paced_keeps next st1 m f k =
        k_if C I J (is_in_no_function st1) _ _ (k_if C I J (ops.due m) _ _ ((tt, tt), (f, k)) (f, k))
        (f, k)

    entered_keeps : (l : Layout) (st1 : List Entry) (m : M) → EntriesHave C st1 → I m
        → OneHas C I J (enter_step ops code l (pc + 1) st1 m)
    entered_keeps l st1 m f k = k_if C I J l.answer _ _ ((tt, f), k)
        (paced_keeps l.entry (Link (pc + 1) ∷ st1) m (tt, f) k)

    called_keeps : (l : Layout) (up : ℕ) → OneHas C I J (call_step ops code l up (pc + 1) st n)
    called_keeps l up =
        k_pop C I J (length l.formals) st [] _ e tt
        (λ es st1 f k. k_when C I J (fit_formals l.formals es) _
        (λ w. k_when C I J (ops.can_push up n) _
        (λ x. k_then C I J (ops.open_frame l up es n) _
        (λ m d. entered_keeps l st1 m k (law.open_frame l up es n m h f d)))))

    taken_keeps : (t : ReadResult) (a : Address) (bs : List ℕ) (st1 : List Entry) → EntriesHave C st1
        → ops.has a 1 n ≡ true
        → ops.left n ≡ Some bs → OneHas C I J (item_step ops code t a (pc + 1) st1 n)
    taken_keeps (ReadItem v k) a bs st1 f w x = (f, law.read_item a v k bs n h w x)
    taken_keeps (Faulty g) a bs st1 f w x = tt

    reads_keeps : (item : List ℕ → ReadResult) → OneHas C I J (reads ops code item (pc + 1) st n)
    reads_keeps item = k_address C I J st _ e
        (λ a st1 f. k_when C I J (ops.has a 1 n) _
        (λ w. k_there C I J (ops.left n) _ (λ bs x. taken_keeps (item bs) a bs st1 f w x)))

    prints_keeps : (t : List ℕ) (st1 : List Entry) → EntriesHave C st1 → OneHas C I J (prints ops code t (pc + 1) st1 n)
    prints_keeps t st1 f = k_when C I J (ops.has_output n) _
        (λ w. k_then C I J (ops.print t n) _ (λ m d. (f, law.print t n m h w d)))

    wide_keeps : (cut : Bool) (t : List ℕ) (w : ℤ) (st1 : List Entry) → EntriesHave C st1
        → OneHas C I J (prints_wide ops code cut t w (pc + 1) st1 n)
    wide_keeps cut t w st1 f = k_if C I J (int_le w (pos 0)) _ _ tt
        (prints_keeps (right_justified (nat_abs w) (if cut then take (nat_abs w) t else t)) st1 f)

    writes_keeps : (text : ℤ → List ℕ) → OneHas C I J (writes ops code text (pc + 1) st n)
    writes_keeps text = k_number C I J st _ e (λ v st1 f. prints_keeps (text v) st1 f)

    writes_wide_keeps : (cut : Bool) (text : ℤ → List ℕ) → OneHas C I J (writes_wide ops code cut text (pc + 1) st n)
    writes_wide_keeps cut text = k_number C I J st _ e
        (λ w st1 f. k_number C I J st1 _ f (λ v st2 k. wide_keeps cut (text v) w st2 k))

    begins_keeps : (down : Bool) (var to : ℕ) → OneHas C I J (begins_loop ops code down var to pc st n)
    begins_keeps down var to =
        k_number C I J st _ e (λ last st1 f. k_number C I J st1 _ f
        (λ first st2 k. k_there C I J (ops.addr 0 var n) _ (λ a x. k_when C I J (ops.has a 1 n) _ (λ w.
        k_if C I J (is_range down first last) _ _ ((tt, k), law.put a (cell.Ordinal first) n h w tt) (k, h)))))

    ends_keeps : (down : Bool) (var to : ℕ) → OneHas C I J (ends_loop ops code down var to pc st n)
    ends_keeps down var to =
        k_number C I J st _ e (λ last st1 f. k_there C I J (ops.addr 0 var n) _
        (λ a x. k_when C I J (ops.has a 1 n) _ (λ w. k_ordinal C I J (ops.read a n) _ (λ v.
        k_if C I J (is_before down v last) _ _ ((tt, f), law.put a (cell.Ordinal (next_value down v)) n h w tt)
        (f, h)))))

    forked_keeps : (t : ℕ) (first : ℤ) (count : ℕ) (next : ℕ) (st1 : List Entry) → EntriesHave C st1
        → OneHas C I J (fork_step ops code t first count next st1 n)
    forked_keeps t first count next st1 f = k_if C I J (ops.may_fork n) _ _ ((tt, tt), (f, h)) tt

  returned_keeps : (st : List Entry) (n : M) → EntriesHave C st → I n → OneHas C I J (return_step ops code st n)
  returned_keeps (Link k ∷ st) n e h = k_when C I J (ops.may_close n) _ (λ w. (e.1, law.close_frame n h w))
  returned_keeps (Reply k ∷ st) n e h =
      k_when C I J (ops.may_close n) _ (λ w. k_there C I J (ops.answer n) _
      (λ a x. k_when C I J (ops.has a 1 n) _
      (λ y. k_ordinal C I J (ops.read a n) _ (λ v. ((tt, e.1), law.close_frame n h w)))))
  returned_keeps _ _ _ _ = tt

  instruction_keeps : (o : Option Instr) (pc : ℕ) (st : List Entry) (n : M) → EntriesHave C st → I n
      → OneHas C I J (instruction ops code o pc st n)
  instruction_keeps (Some (i.Const v)) pc st n e h = ((tt, e), h)
  instruction_keeps (Some (i.Addr up var)) pc st n e h = k_there C I J (ops.addr up var n) _ (λ a x. ((tt, e), h))
  instruction_keeps (Some (i.Deref up var)) pc st n e h = k_there C I J (ops.deref up var n) _ (λ a x. ((tt, e), h))
  instruction_keeps (Some (i.Index low high size)) pc st n e h =
      k_number C I J st _ e (λ v st1 f. k_address C I J st1 _ f
      (λ a st2 k. k_if C I J (int_le low v && int_le v high) _ _
      (selected_keeps pc st n e h (address_after (nat_abs (v -ℤ low) * size) a) st2 k) tt))
  instruction_keeps (Some (i.Field k)) pc st n e h =
      k_address C I J st _ e (λ a st1 f. selected_keeps pc st n e h (address_after k a) st1 f)
  instruction_keeps (Some i.Load) pc st n e h =
      k_address C I J st _ e (λ a st1 f. k_when C I J (ops.has a 1 n) _
      (λ w. k_ordinal C I J (ops.read a n) _ (λ v. ((tt, f), h))))
  instruction_keeps (Some i.Loadc) pc st n e h =
      k_address C I J st _ e (λ a st1 f. k_when C I J (ops.has a 1 n) _
      (λ w. k_channel_in C I J (ops.read a n) _ (law.read a n h) (λ c k. ((k, f), h))))
  instruction_keeps (Some i.Store) pc st n e h =
      k_cell C I J st _ e (λ c st1 k f. k_address C I J st1 _ f
      (λ a st2 j. k_when C I J (ops.has a 1 n) _ (λ w. (j, law.put a c n h w k))))
  instruction_keeps (Some (i.Copy k)) pc st n e h =
      k_address C I J st _ e (λ from st1 f. k_address C I J st1 _ f
      (λ to st2 j. k_when C I J (ops.has from k n && ops.has to k n) _
      (λ w. (j, law.copy to from k n h (and_parts (ops.has from k n) (ops.has to k n) w).1))))
  instruction_keeps (Some i.Add) pc st n e h = two_keeps pc st n e h op.Add
  instruction_keeps (Some i.Sub) pc st n e h = two_keeps pc st n e h op.Sub
  instruction_keeps (Some i.Mul) pc st n e h = two_keeps pc st n e h op.Mul
  instruction_keeps (Some i.Div) pc st n e h = two_keeps pc st n e h op.Div
  instruction_keeps (Some i.Mod) pc st n e h = two_keeps pc st n e h op.Mod
  instruction_keeps (Some i.Neg) pc st n e h = one_keeps pc st n e h (unary_op sign.Minus)
  instruction_keeps (Some i.Abs) pc st n e h = one_keeps pc st n e h absolute_value
  instruction_keeps (Some i.Sqr) pc st n e h = one_keeps pc st n e h square
  instruction_keeps (Some i.Odd) pc st n e h = one_keeps pc st n e h is_odd
  instruction_keeps (Some i.And) pc st n e h = two_keeps pc st n e h op.And
  instruction_keeps (Some i.Or) pc st n e h = two_keeps pc st n e h op.Or
  instruction_keeps (Some i.Not) pc st n e h = one_keeps pc st n e h (unary_op sign.Not)
  instruction_keeps (Some i.Eq) pc st n e h = k_equals C I J st _ e (λ t st1 f. told_keeps pc st n e h t st1 f)
  instruction_keeps (Some i.Ne) pc st n e h = k_equals C I J st _ e (λ t st1 f. told_keeps pc st n e h (not t) st1 f)
  instruction_keeps (Some i.Lt) pc st n e h = two_keeps pc st n e h op.Lt
  instruction_keeps (Some i.Le) pc st n e h = two_keeps pc st n e h op.Le
  instruction_keeps (Some i.Gt) pc st n e h = two_keeps pc st n e h op.Gt
  instruction_keeps (Some i.Ge) pc st n e h = two_keeps pc st n e h op.Ge
  instruction_keeps (Some (i.Range low high)) pc st n e h = one_keeps pc st n e h (value_in_range low high)
  instruction_keeps (Some (i.Succ high)) pc st n e h = one_keeps pc st n e h (successor high)
  instruction_keeps (Some (i.Pred low)) pc st n e h = one_keeps pc st n e h (predecessor low)
  instruction_keeps (Some (i.Jump to)) pc st n e h = (e, h)
  instruction_keeps (Some (i.Jumpf to)) pc st n e h =
      k_number C I J st _ e (λ v st1 f. k_if C I J (not (int_le v (pos 0))) _ _ (f, h) (f, h))
  instruction_keeps (Some (i.Casej v to)) pc st n e h =
      k_number C I J st _ e (λ u st1 f. k_if C I J (same_ordinal u v) _ _ (f, h) ((tt, f), h))
  instruction_keeps (Some i.Tick) pc st n e h =
      k_then C I J (ops.tick n) _ (λ m d. paced_keeps pc st n e h (pc + 1) st m e (law.tick n m h d))
  instruction_keeps (Some i.Assume) pc st n e h =
      k_number C I J st _ e (λ v st1 f. k_if C I J (not (int_le v (pos 0))) _ _ (f, h) tt)
  instruction_keeps (Some (i.Forup var to)) pc st n e h = begins_keeps pc st n e h false var to
  instruction_keeps (Some (i.Fordown var to)) pc st n e h = begins_keeps pc st n e h true var to
  instruction_keeps (Some (i.Nextup var to)) pc st n e h = ends_keeps pc st n e h false var to
  instruction_keeps (Some (i.Nextdown var to)) pc st n e h = ends_keeps pc st n e h true var to
  instruction_keeps (Some (i.Call b up)) pc st n e h =
      k_there C I J (layout_of code.layouts b) _ (λ l x. called_keeps pc st n e h l up)
  instruction_keeps (Some i.Return) pc st n e h = returned_keeps st n e h
  instruction_keeps (Some i.ReadInt) pc st n e h = reads_keeps pc st n e h number_in
  instruction_keeps (Some i.ReadChar) pc st n e h = reads_keeps pc st n e h char_in
  instruction_keeps (Some i.Readln) pc st n e h =
      k_there C I J (ops.left n) _ (λ bs x. (e, law.advance (line_length bs) bs n h x))
  instruction_keeps (Some i.Eof) pc st n e h =
      k_there C I J (ops.left n) _ (λ bs x. told_keeps pc st n e h (length bs == 0) st e)
  instruction_keeps (Some i.Eoln) pc st n e h =
      k_there C I J (ops.left n) _ (λ bs x. told_keeps pc st n e h (at_line_end bs) st e)
  instruction_keeps (Some i.WriteInt) pc st n e h = writes_keeps pc st n e h signed_decimal
  instruction_keeps (Some i.WriteChar) pc st n e h = writes_keeps pc st n e h (λ v. byte v ∷ [])
  instruction_keeps (Some i.WriteBool) pc st n e h = writes_keeps pc st n e h truth_text
  instruction_keeps (Some (i.WriteText k)) pc st n e h =
      k_there C I J (slice_get code.texts k) _ (λ t x. prints_keeps pc st n e h t st e)
  instruction_keeps (Some i.WritewInt) pc st n e h = writes_wide_keeps pc st n e h false signed_decimal
  instruction_keeps (Some i.WritewChar) pc st n e h = writes_wide_keeps pc st n e h false (λ v. byte v ∷ [])
  instruction_keeps (Some i.WritewBool) pc st n e h = writes_wide_keeps pc st n e h true truth_text
  instruction_keeps (Some (i.WritewText k)) pc st n e h =
      k_number C I J st _ e (λ w st1 f. k_there C I J (slice_get code.texts k) _
      (λ t x. wide_keeps pc st n e h true t w st1 f))
  instruction_keeps (Some i.Writeln) pc st n e h = prints_keeps pc st n e h (10 ∷ []) st e
  instruction_keeps (Some (i.Pack k)) pc st n e h =
      k_address C I J st _ e (λ a st1 f. k_when C I J (ops.has a k n) _ (λ w. ((law.cells a k n h, f), h)))
  instruction_keeps (Some i.Open) pc st n e h =
      k_address C I J st _ e (λ a st1 f. k_when C I J (ops.has a 1 n) _
      (λ w. ((tt, law.target a 1 n h w), (f, law.make_own a 1 n h w))))
  instruction_keeps (Some (i.Send k)) pc st n e h =
      k_cells C I J st _ e (λ cs st1 d f. k_channel C I J st1 _ f (λ c st2 x k. (((x, d), tt), (k, h))))
  instruction_keeps (Some (i.Receive k)) pc st n e h =
      k_address C I J st _ e (λ a st1 f. k_channel C I J st1 _ f
      (λ c st2 x k. k_when C I J (ops.has a 0 n) _ (λ w. ((x, law.target a 0 n h w), (k, law.make_own a 0 n h w)))))
  instruction_keeps (Some (i.Fork t)) pc st n e h =
      k_there C I J (slice_get code.forks t) _
      (λ table x. forked_keeps pc st n e h t (pos 0) (length table.children) (pc + 1) st e)
  instruction_keeps (Some (i.Forall t)) pc st n e h =
      k_number C I J st _ e (λ last st1 f. k_number C I J st1 _ f
      (λ first st2 k. k_if C I J (int_lt last first) _ _ (k, h)
      (forked_keeps pc st n e h t first (values_in first last) (pc + 1) st2 k)))
  instruction_keeps (Some i.End) pc st n e h = ((tt, tt), (e, h))
  instruction_keeps _ _ _ _ _ _ = tt

  one_has : (c : Config M) → ConfigHas C I c → OneHas C I J (next_step ops code c)
  one_has (At pc st n) h = instruction_keeps (slice_get code.instrs pc) pc st n h.0 h.1

  comes_has : (k : ℕ) (c d : Config M) → ConfigHas C I c → RunsIn ops code k c d → ConfigHas C I d
  comes_has zero c d h b = subst (ConfigHas C I) b h
  comes_has (suc k) c d h b = comes_has k b.0 d (subst (OneHas C I J) b.1 (one_has c h)) b.2

  ends_has : (c : Config M) (t : Turn M) → ConfigHas C I c → EndsSo ops code c t → TurnDoes C I J t
  ends_has c (Stopped s d) h b = subst (OneHas C I J) b (one_has c h)
  ends_has c (Faulted f d) h b = subst (ConfigHas C I) (sym b.1) h

  -- a turn keeps it
  pub turn_does : (c : Config M) (t : Turn M) → ConfigHas C I c → IsTurn ops code c t → TurnDoes C I J t
  turn_does c t h = go (frames_fit ops code c)
    where
      go : (b : Bool) → BeginsOrFaults b c t (Runs ops code c t) → TurnDoes C I J t
      go true r = ends_has r.0 t (comes_has r.1.steps c r.0 h r.1.proof) r.2
      go false r = subst (TurnDoes C I J) (sym r) h

-- where nothing is said of addresses
abbrev pub Anywhere : {M : Type 0} → ℕ → Address → M → Type 0
Anywhere k a n = Unit {0}

module _ {M : Type 0} (ops : Ops M) (code : Parts) (C : ℕ → Type 0) (I : M → Type 0)
    (law : HasKeeping ops C I Anywhere) where
  pub turn_has : (c : Config M) (t : Turn M) → ConfigHas C I c → IsTurn ops code c t → TurnHas C I t
  turn_has c t h turn = go t (turn_does ops code C I Anywhere law c t h turn)
    where
      go : (t : Turn M) → TurnDoes C I Anywhere t → TurnHas C I t
      go (Stopped stop d) ((stops, _), holds) = (stops, holds)
      go (Faulted f d) k = k
