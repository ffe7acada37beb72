-- Where a turn stops: each instruction that stops is that of its stop, and leaves the process right behind it.
use Rattle.std.proofs.Common.{◌≡◌, ◌⊎◌, ℕ, zero, suc, ◌+◌, ◌-◌, ℤ, List, [], ◌∷◌, Option, Some, None, Bool, true, false}
use Rattle.std.proofs.Common.{refl, ap, subst, ◌∙◌, arith, inl, inr}
use Rattle.std.specs.Prelude.{slice_get, if◌then◌else◌, not, ◌&&◌, ◌==◌, ◌*◌, pos, ◌-ℤ◌, nat_abs, nat_le, int_le}
use Rattle.std.specs.Prelude.{int_lt, length, take}
use Rattle.std.specs.Fmt.{signed_decimal}
use Rattle.sp_tree.specs.declared.operators.BinaryOp.{BinaryOp}
use Rattle.sp_tree.specs.declared.operators.BinaryOp.TheVariants as op
use Rattle.sp_tree.specs.declared.operators.UnaryOp.TheVariants as sign
use Rattle.sp_tree.specs.Operators.{OperatorResult, Yields, OperatorFault, truth, value_in_range, successor}
use Rattle.sp_tree.specs.Operators.{predecessor, absolute_value, square, is_odd, unary_op, binary_op, same_ordinal}
use Rattle.sp_tree.specs.Operators.{is_range, is_before}
use Rattle.sp_cell.specs.declared.cell.Cell.{Cell}
use Rattle.sp_cell.specs.declared.cell.Cell.TheVariants as cell
use Rattle.sp_cell.specs.declared.spot.Address.{Address}
use Rattle.sp_tree.specs.Items.{ReadResult, ReadItem, ReadFault as Faulty, number_in, char_in, at_line_end}
use Rattle.sp_tree.specs.Items.{right_justified, truth_text, byte}
use Rattle.sp_code.specs.declared.instr.Instr.{Instr}
use Rattle.sp_code.specs.declared.instr.Instr.TheVariants as i
use Rattle.sp_code.specs.declared.code.Parts.{Parts}
use Rattle.sp_code.specs.declared.code.Layout.{Layout}
use Rattle.sp_code.specs.Machine.{Entry, Number, Chan, Pointer, Cells, Link, Reply, Stop, Forks, Opens, Sends, Receives}
use Rattle.sp_code.specs.Machine.{Ends, Pauses, MemoryResult, Done, Failed, Ops, Config, At, StepResult, Goes, Stops}
use Rattle.sp_code.specs.Machine.{Fails, Stuck, is_in_no_function, on_number, on_channel, on_address, on_cell, on_cells}
use Rattle.sp_code.specs.Machine.{on_equals, pop, when, on_some, then_go, on_result, ordinal_in, channel_in, on_one}
use Rattle.sp_code.specs.Machine.{on_two, truth_step, selection_step, pause_step, enter_step, call_step, return_step}
use Rattle.sp_code.specs.Machine.{item_step, reads, prints, prints_wide, writes, writes_wide, begins_loop, ends_loop}
use Rattle.sp_code.specs.Machine.{instruction, next_step, address_after, fit_formals, layout_of}
use Rattle.sp_code.specs.Turns.{Stopped, BeginsOrFaults, Runs}
use Rattle.sp_lines.specs.AtTurn.{next_of, at_stop, StopStands}

-- what one instruction at pc that stops so leaves
abbrev Fits : {M : Type 0} → Instr → ℕ → Stop → Config M → Type 0
Fits o pc (Forks t v k) d = (next_of d ≡ pc + 1) × ((o ≡ i.Fork t) ⊎ (o ≡ i.Forall t))
Fits o pc (Opens a) d = (next_of d ≡ pc + 1) × (o ≡ i.Open)
Fits o pc (Sends c k cs) d = (next_of d ≡ pc + 1) × (o ≡ i.Send k)
Fits o pc (Receives c k a) d = (next_of d ≡ pc + 1) × (o ≡ i.Receive k)
Fits o pc Ends d = (next_of d ≡ pc) × (o ≡ i.End)
Fits o pc Pauses d = Unit {0}

module _ {M : Type 0} (ops : Ops M) (code : Parts) (o : Instr) (at : ℕ) where
  -- where it stops, it fits
  abbrev Only : StepResult M → Type 0
  Only (Goes c) = Unit {0}
  Only (Stops z d) = Fits o at z d
  Only (Fails f) = Unit {0}
  Only Stuck = Unit {0}

  by_number : (st : List Entry) (go : ℤ → List Entry → StepResult M) → ((v : ℤ) (r : List Entry) → Only (go v r))
      → Only (on_number st go)
  by_number (Number v ∷ st) go h = h v st
  by_number _ _ _ = tt

  by_channel : (st : List Entry) (go : ℕ → List Entry → StepResult M) → ((v : ℕ) (r : List Entry) → Only (go v r))
      → Only (on_channel st go)
  by_channel (Chan c ∷ st) go h = h c st
  by_channel _ _ _ = tt

  by_address : (st : List Entry) (go : Address → List Entry → StepResult M)
      → ((v : Address) (r : List Entry) → Only (go v r)) → Only (on_address st go)
  by_address (Pointer a ∷ st) go h = h a st
  by_address _ _ _ = tt

  by_cell : (st : List Entry) (go : Cell → List Entry → StepResult M) → ((v : Cell) (r : List Entry) → Only (go v r))
      → Only (on_cell st go)
  by_cell (Number v ∷ st) go h = h (cell.Ordinal v) st
  by_cell (Chan c ∷ st) go h = h (cell.Channel c) st
  by_cell _ _ _ = tt

  by_cells : (st : List Entry) (go : List Cell → List Entry → StepResult M)
      → ((v : List Cell) (r : List Entry) → Only (go v r)) → Only (on_cells st go)
  by_cells (Number v ∷ st) go h = h (cell.Ordinal v ∷ []) st
  by_cells (Chan c ∷ st) go h = h (cell.Channel c ∷ []) st
  by_cells (Cells cs ∷ st) go h = h cs st
  by_cells _ _ _ = tt

  by_equals : (st : List Entry) (go : Bool → List Entry → StepResult M) → ((v : Bool) (r : List Entry) → Only (go v r))
      → Only (on_equals st go)
  by_equals (Number v ∷ st) go h = by_number st _ (λ u r. h _ r)
  by_equals (Chan c ∷ st) go h = by_channel st _ (λ u r. h _ r)
  by_equals _ _ _ = tt

  by_pop : (k : ℕ) (st es : List Entry) (go : List Entry → List Entry → StepResult M)
      → ((v r : List Entry) → Only (go v r)) → Only (pop k st es go)
  by_pop zero st es go h = h es st
  by_pop (suc k) [] es go h = tt
  by_pop (suc k) (e ∷ st) es go h = by_pop k st (e ∷ es) go h

  by_when : (b : Bool) (r : StepResult M) → Only r → Only (when b r)
  by_when true r h = h
  by_when false r h = tt

  either : (b : Bool) (r s : StepResult M) → Only r → Only s → Only (if b then r else s)
  either true r s h k = h
  either false r s h k = k

  by_some : {A : Type 0} (x : Option A) (go : A → StepResult M) → ((v : A) → Only (go v)) → Only (on_some x go)
  by_some None go h = tt
  by_some (Some v) go h = h v

  by_memory : (x : MemoryResult M) (go : M → StepResult M) → ((v : M) → Only (go v)) → Only (then_go x go)
  by_memory (Done n) go h = h n
  by_memory (Failed f) go h = tt

  by_result : (x : OperatorResult) (go : ℤ → StepResult M) → ((v : ℤ) → Only (go v)) → Only (on_result x go)
  by_result (Yields n) go h = h n
  by_result (OperatorFault f) go h = tt

  by_ordinal : (x : Cell) (go : ℤ → StepResult M) → ((v : ℤ) → Only (go v)) → Only (ordinal_in x go)
  by_ordinal cell.Undefined go h = tt
  by_ordinal (cell.Ordinal v) go h = h v
  by_ordinal (cell.Channel c) go h = tt

  by_named : (x : Cell) (go : ℕ → StepResult M) → ((v : ℕ) → Only (go v)) → Only (channel_in x go)
  by_named cell.Undefined go h = tt
  by_named (cell.Ordinal v) go h = tt
  by_named (cell.Channel c) go h = h c

  -- steps of several instructions
  one : (f : ℤ → OperatorResult) (pc : ℕ) (st : List Entry) (n : M) → Only (on_one ops code f pc st n)
  one f pc st n = by_number st _ (λ v r. by_result (f v) _ (λ w. tt))

  two : (f : BinaryOp) (pc : ℕ) (st : List Entry) (n : M) → Only (on_two ops code f pc st n)
  two f pc st n = by_number st _ (λ v r. by_number r _ (λ u q. by_result (binary_op f u v) _ (λ w. tt)))

  truly : (b : Bool) (pc : ℕ) (st : List Entry) (n : M) → Only (truth_step ops code b pc st n)
  truly b pc st n = by_result (truth b) (λ w. Goes (At pc (Number w ∷ st) n)) (λ w. tt)

  pausing : (pc : ℕ) (st : List Entry) (n : M) → Only (pause_step ops code pc st n)
  pausing pc st n = either (is_in_no_function st) _ _ (either (ops.due n) _ _ tt tt) tt

  selecting : (a : Address) (pc : ℕ) (st : List Entry) (n : M) → Only (selection_step ops code a pc st n)
  selecting a pc st n = by_when (nat_le a.offset 4294967295) _ tt

  entering : (l : Layout) (r : ℕ) (st : List Entry) (n : M) → Only (enter_step ops code l r st n)
  entering l r st n = either l.answer _ _ tt (pausing l.entry (Link r ∷ st) n)

  calling : (l : Layout) (up r : ℕ) (st : List Entry) (n : M) → Only (call_step ops code l up r st n)
  calling l up r st n = by_pop (length l.formals) st [] _ (λ es q. by_when (fit_formals l.formals es) _
      (by_when (ops.can_push up n) _ (by_memory (ops.open_frame l up es n) _ (λ m. entering l r q m))))

  returning : (st : List Entry) (n : M) → Only (return_step ops code st n)
  returning (Link r ∷ st) n = by_when (ops.may_close n) _ tt
  returning (Reply r ∷ st) n = by_when (ops.may_close n) _ (by_some (ops.answer n) _
      (λ a. by_when (ops.has a 1 n) _ (by_ordinal (ops.read a n) _ (λ v. tt))))
  returning _ _ = tt

  item : (x : ReadResult) (a : Address) (pc : ℕ) (st : List Entry) (n : M) → Only (item_step ops code x a pc st n)
  item (ReadItem v bytes) a pc st n = tt
  item (Faulty f) a pc st n = tt

  reading : (f : List ℕ → ReadResult) (pc : ℕ) (st : List Entry) (n : M) → Only (reads ops code f pc st n)
  reading f pc st n = by_address st _ (λ a r. by_when (ops.has a 1 n) _ (by_some (ops.left n) _
      (λ bs. item (f bs) a pc r n)))

  printing : (t : List ℕ) (pc : ℕ) (st : List Entry) (n : M) → Only (prints ops code t pc st n)
  printing t pc st n = by_when (ops.has_output n) _ (by_memory (ops.print t n) _ (λ m. tt))

  printing_wide : (cut : Bool) (t : List ℕ) (m : ℤ) (pc : ℕ) (st : List Entry) (n : M)
      → Only (prints_wide ops code cut t m pc st n)
  printing_wide cut t m pc st n = either (int_le m (pos 0)) _ _ tt
      (printing (right_justified (nat_abs m) (if cut then take (nat_abs m) t else t)) pc st n)

  writing : (f : ℤ → List ℕ) (pc : ℕ) (st : List Entry) (n : M) → Only (writes ops code f pc st n)
  writing f pc st n = by_number st _ (λ v r. printing (f v) pc r n)

  writing_wide : (cut : Bool) (f : ℤ → List ℕ) (pc : ℕ) (st : List Entry) (n : M)
      → Only (writes_wide ops code cut f pc st n)
  writing_wide cut f pc st n = by_number st _ (λ m r. by_number r _ (λ v q. printing_wide cut (f v) m pc q n))

  beginning : (down : Bool) (var to pc : ℕ) (st : List Entry) (n : M) → Only (begins_loop ops code down var to pc st n)
  beginning down var to pc st n = by_number st _ (λ last r. by_number r _ (λ first q. by_some (ops.addr 0 var n) _
      (λ a. by_when (ops.has a 1 n) _ (either (is_range down first last) _ _ tt tt))))

  ending : (down : Bool) (var to pc : ℕ) (st : List Entry) (n : M) → Only (ends_loop ops code down var to pc st n)
  ending down var to pc st n = by_number st _ (λ last r. by_some (ops.addr 0 var n) _
      (λ a. by_when (ops.has a 1 n) _ (by_ordinal (ops.read a n) _ (λ v. either (is_before down v last) _ _ tt tt))))

module _ {M : Type 0} (ops : Ops M) (code : Parts) where
  -- each instruction that stops fits its stop
  fits : (o : Instr) (pc : ℕ) (st : List Entry) (n : M) → Only ops code o pc (instruction ops code (Some o) pc st n)
  fits (i.Addr up var) pc st n = by_some ops code (i.Addr up var) pc (ops.addr up var n) _ (λ a. tt)
  fits (i.Deref up var) pc st n = by_some ops code (i.Deref up var) pc (ops.deref up var n) _ (λ a. tt)
  fits (i.Index low high size) pc st n =
      by_number ops code (i.Index low high size) pc st _ (λ v r. by_address ops code (i.Index low high size) pc r _
      (λ a q. either ops code (i.Index low high size) pc (int_le low v && int_le v high) _ _
      (selecting ops code (i.Index low high size) pc (address_after (nat_abs (v -ℤ low) * size) a) (pc + 1) q n) tt))
  fits (i.Field k) pc st n =
      by_address ops code (i.Field k) pc st _
      (λ a r. selecting ops code (i.Field k) pc (address_after k a) (pc + 1) r n)
  fits i.Load pc st n = by_address ops code i.Load pc st _ (λ a r. by_when ops code i.Load pc (ops.has a 1 n) _
      (by_ordinal ops code i.Load pc (ops.read a n) _ (λ v. tt)))
  fits i.Loadc pc st n = by_address ops code i.Loadc pc st _ (λ a r. by_when ops code i.Loadc pc (ops.has a 1 n) _
      (by_named ops code i.Loadc pc (ops.read a n) _ (λ v. tt)))
  fits i.Store pc st n =
      by_cell ops code i.Store pc st _
      (λ c r. by_address ops code i.Store pc r _ (λ a q. by_when ops code i.Store pc (ops.has a 1 n) _ tt))
  fits (i.Copy k) pc st n = by_address ops code (i.Copy k) pc st _ (λ a r. by_address ops code (i.Copy k) pc r _
      (λ b q. by_when ops code (i.Copy k) pc (ops.has a k n && ops.has b k n) _ tt))
  fits i.Add pc st n = two ops code i.Add pc op.Add pc st n
  fits i.Sub pc st n = two ops code i.Sub pc op.Sub pc st n
  fits i.Mul pc st n = two ops code i.Mul pc op.Mul pc st n
  fits i.Div pc st n = two ops code i.Div pc op.Div pc st n
  fits i.Mod pc st n = two ops code i.Mod pc op.Mod pc st n
  fits i.Neg pc st n = one ops code i.Neg pc (unary_op sign.Minus) pc st n
  fits i.Abs pc st n = one ops code i.Abs pc absolute_value pc st n
  fits i.Sqr pc st n = one ops code i.Sqr pc square pc st n
  fits i.Odd pc st n = one ops code i.Odd pc is_odd pc st n
  fits i.And pc st n = two ops code i.And pc op.And pc st n
  fits i.Or pc st n = two ops code i.Or pc op.Or pc st n
  fits i.Not pc st n = one ops code i.Not pc (unary_op sign.Not) pc st n
  fits i.Eq pc st n = by_equals ops code i.Eq pc st _ (λ b r. truly ops code i.Eq pc b (pc + 1) r n)
  fits i.Ne pc st n = by_equals ops code i.Ne pc st _ (λ b r. truly ops code i.Ne pc (not b) (pc + 1) r n)
  fits i.Lt pc st n = two ops code i.Lt pc op.Lt pc st n
  fits i.Le pc st n = two ops code i.Le pc op.Le pc st n
  fits i.Gt pc st n = two ops code i.Gt pc op.Gt pc st n
  fits i.Ge pc st n = two ops code i.Ge pc op.Ge pc st n
  fits (i.Range low high) pc st n = one ops code (i.Range low high) pc (value_in_range low high) pc st n
  fits (i.Succ high) pc st n = one ops code (i.Succ high) pc (successor high) pc st n
  fits (i.Pred low) pc st n = one ops code (i.Pred low) pc (predecessor low) pc st n
  fits (i.Jumpf to) pc st n =
      by_number ops code (i.Jumpf to) pc st _
      (λ v r. either ops code (i.Jumpf to) pc (not (int_le v (pos 0))) _ _ tt tt)
  fits (i.Casej v to) pc st n =
      by_number ops code (i.Casej v to) pc st _ (λ u r. either ops code (i.Casej v to) pc (same_ordinal u v) _ _ tt tt)
  fits i.Tick pc st n = by_memory ops code i.Tick pc (ops.tick n) _ (λ m. pausing ops code i.Tick pc (pc + 1) st m)
  fits i.Assume pc st n =
      by_number ops code i.Assume pc st _ (λ v r. either ops code i.Assume pc (not (int_le v (pos 0))) _ _ tt tt)
  fits (i.Forup var to) pc st n = beginning ops code (i.Forup var to) pc false var to pc st n
  fits (i.Fordown var to) pc st n = beginning ops code (i.Fordown var to) pc true var to pc st n
  fits (i.Nextup var to) pc st n = ending ops code (i.Nextup var to) pc false var to pc st n
  fits (i.Nextdown var to) pc st n = ending ops code (i.Nextdown var to) pc true var to pc st n
  fits (i.Call b up) pc st n =
      by_some ops code (i.Call b up) pc (layout_of code.layouts b) _
      (λ l. calling ops code (i.Call b up) pc l up (pc + 1) st n)
  fits i.Return pc st n = returning ops code i.Return pc st n
  fits i.ReadInt pc st n = reading ops code i.ReadInt pc number_in (pc + 1) st n
  fits i.ReadChar pc st n = reading ops code i.ReadChar pc char_in (pc + 1) st n
  fits i.Readln pc st n = by_some ops code i.Readln pc (ops.left n) _ (λ bs. tt)
  fits i.Eof pc st n =
      by_some ops code i.Eof pc (ops.left n) _ (λ bs. truly ops code i.Eof pc (length bs == 0) (pc + 1) st n)
  fits i.Eoln pc st n =
      by_some ops code i.Eoln pc (ops.left n) _ (λ bs. truly ops code i.Eoln pc (at_line_end bs) (pc + 1) st n)
  fits i.WriteInt pc st n = writing ops code i.WriteInt pc signed_decimal (pc + 1) st n
  fits i.WriteChar pc st n = writing ops code i.WriteChar pc (λ v. byte v ∷ []) (pc + 1) st n
  fits i.WriteBool pc st n = writing ops code i.WriteBool pc truth_text (pc + 1) st n
  fits (i.WriteText k) pc st n =
      by_some ops code (i.WriteText k) pc (slice_get code.texts k) _
      (λ t. printing ops code (i.WriteText k) pc t (pc + 1) st n)
  fits i.WritewInt pc st n = writing_wide ops code i.WritewInt pc false signed_decimal (pc + 1) st n
  fits i.WritewChar pc st n = writing_wide ops code i.WritewChar pc false (λ v. byte v ∷ []) (pc + 1) st n
  fits i.WritewBool pc st n = writing_wide ops code i.WritewBool pc true truth_text (pc + 1) st n
  fits (i.WritewText k) pc st n =
      by_number ops code (i.WritewText k) pc st _
      (λ m r. by_some ops code (i.WritewText k) pc (slice_get code.texts k) _
      (λ t. printing_wide ops code (i.WritewText k) pc true t m (pc + 1) r n))
  fits i.Writeln pc st n = printing ops code i.Writeln pc (10 ∷ []) (pc + 1) st n
  fits (i.Pack k) pc st n =
      by_address ops code (i.Pack k) pc st _ (λ a r. by_when ops code (i.Pack k) pc (ops.has a k n) _ tt)
  fits i.Open pc st n =
      by_address ops code i.Open pc st _ (λ a r. by_when ops code i.Open pc (ops.has a 1 n) _ (refl, refl))
  fits (i.Send k) pc st n =
      by_cells ops code (i.Send k) pc st _ (λ cs r. by_channel ops code (i.Send k) pc r _ (λ c q. (refl, refl)))
  fits (i.Receive k) pc st n =
      by_address ops code (i.Receive k) pc st _ (λ a r. by_channel ops code (i.Receive k) pc r _
      (λ c q. by_when ops code (i.Receive k) pc (ops.has a 0 n) _ (refl, refl)))
  fits (i.Fork t) pc st n = by_some ops code (i.Fork t) pc (slice_get code.forks t) _
      (λ table. either ops code (i.Fork t) pc (ops.may_fork n) _ _ (refl, inl refl) tt)
  fits (i.Forall t) pc st n = by_number ops code (i.Forall t) pc st _ (λ last r. by_number ops code (i.Forall t) pc r _
      (λ first q. either ops code (i.Forall t) pc (int_lt last first) _ _ tt
      (either ops code (i.Forall t) pc (ops.may_fork n) _ _ (refl, inr refl) tt)))
  fits i.End pc st n = (refl, refl)
  fits _ _ _ _ = tt

  one_less : (a b : ℕ) → a ≡ b + 1 → a - 1 ≡ b
  one_less a b e = omega (arith, e)

  -- the instruction found is that of the stop
  found : (o : Instr) (pc : ℕ) (z : Stop) (d : Config M) → slice_get code.instrs pc ≡ Some o → Fits o pc z d
      → StopStands code z (at_stop z (next_of d))
  found o pc (Forks t v k) d e (h, inl f) =
      inl (ap (slice_get code.instrs) (one_less (next_of d) pc h) ∙ e ∙ ap Some f)
  found o pc (Forks t v k) d e (h, inr f) =
      inr (ap (slice_get code.instrs) (one_less (next_of d) pc h) ∙ e ∙ ap Some f)
  found o pc (Opens a) d e h = ap (slice_get code.instrs) (one_less (next_of d) pc h.0) ∙ e ∙ ap Some h.1
  found o pc (Sends c k cs) d e h = ap (slice_get code.instrs) (one_less (next_of d) pc h.0) ∙ e ∙ ap Some h.1
  found o pc (Receives c k a) d e h = ap (slice_get code.instrs) (one_less (next_of d) pc h.0) ∙ e ∙ ap Some h.1
  found o pc Ends d e h = ap (slice_get code.instrs) h.0 ∙ e ∙ ap Some h.1
  found o pc Pauses d e h = tt

  by_instruction : (x : Option Instr) (pc : ℕ) (st : List Entry) (n : M) (z : Stop) (d : Config M)
      → slice_get code.instrs pc ≡ x → instruction ops code x pc st n ≡ Stops z d
      → StopStands code z (at_stop z (next_of d))
  by_instruction None pc st n z d e h = absurd cc
  by_instruction (Some o) pc st n z d e h =
      found o pc z d e (subst (λ (r : StepResult M). Only ops code o pc r) h (fits o pc st n))

  pub stop_stands : (c : Config M) (z : Stop) (d : Config M) → next_step ops code c ≡ Stops z d
      → StopStands code z (at_stop z (next_of d))
  stop_stands (At pc st n) z d h = by_instruction (slice_get code.instrs pc) pc st n z d refl h

  pub turn_stands : (c : Config M) (z : Stop) (d : Config M) → (b : Bool)
      → BeginsOrFaults b c (Stopped z d) (Runs ops code c (Stopped z d)) → StopStands code z (at_stop z (next_of d))
  turn_stands c z d true h = stop_stands h.0 z d h.2
  turn_stands c z d false h = absurd cc
