-- Statements, calls and forks: one step of the meaning is a stretch of the code.
use Rattle.std.proofs.Common.{◌≡◌, inl, inr, ℕ, ◌+◌, ℤ, List, [], ◌∷◌, Some, Bool, true, false, if◌then◌else◌, length}
use Rattle.std.proofs.Common.{refl, sym, ap, ◌∙◌, subst}
use Rattle.std.specs.Prelude.{pos, ◌+ℤ◌, ◌-ℤ◌, nat_abs, int_lt, int_le, slice_get, nat_lt, not}
use Rattle.sp_base.specs.declared.fault.Fault.TheVariants as fault
use Rattle.sp_tree.specs.declared.checked.KindOf.{KindOf}
use Rattle.sp_tree.specs.declared.checked.KindOf.TheVariants as kind
use Rattle.sp_tree.specs.Plain.{Expr, Typed, Program, Stmt, Empty, Assign, Call, Sequence, If, IfElse, While}
use Rattle.sp_tree.specs.Plain.{Repeat, For, Case, Parallel, Forall, Assume, ReadValue, ReadLine, WriteValue, WriteText}
use Rattle.sp_tree.specs.Plain.{WriteLine, Open, Send, Receive, On, Arms, NoArm, Or}
use Rattle.sp_tree.specs.Operators.{same_ordinal}
use Rattle.sp_tree.specs.Uses.{Use, Target, In_stmt, In_arms, In_loop}
use Rattle.sp_cell.specs.declared.cell.Cell.TheVariants as cell
use Rattle.sp_cell.specs.declared.spot.Address.{Address as Ptr}
use Rattle.sp_meaning.specs.Model.{Channel, Takes, Message as Offers}
use Rattle.sp_meaning.specs.Values.{Value, Ordinal, Chan}
use Rattle.sp_meaning.specs.LocalWork.{Input, Output, Tree, Address, LocalState, Item, Do, Test, Work, bind, give, fail}
use Rattle.sp_meaning.specs.LocalWork.{who}
use Rattle.sp_meaning.specs.LocalWork.{or_ill_formed, assign}
use Rattle.sp_meaning.specs.Texts.{ReadResult, ReadItem as Took, ReadFault as Faulty, number_in, char_in, line_length}
use Rattle.sp_meaning.specs.Eval.{Calls, channel, value, address}
use Rattle.sp_meaning.specs.Actions.{Action, Stepped, Opened, Forked, Offered, Birth, push, push_all, has_constant}
use Rattle.sp_meaning.specs.Actions.{arm_for, if_true}
use Rattle.sp_meaning.specs.Actions.{reading_by, children, indexed_children, advance, take_in, fork, arm_action}
use Rattle.sp_meaning.specs.Actions.{statement_action}
use Rattle.sp_meaning.specs.Run.{Store, run}
use Rattle.sp_code.specs.declared.instr.Instr.TheVariants as i
use Rattle.sp_code.specs.Machine.{Entry, Sends, Receives, Forks, Config, Goes, Stops, Fails, is_in_no_function, on_some}
use Rattle.sp_code.specs.Machine.{values_in}
use Rattle.sp_code.specs.Machine.{next_step}
use Rattle.sp_code.specs.Machine as m
use Rattle.sp_code.specs.Scopes.{Sort, Ordinals, Channels, Many, NoSort, Scope, sort, sort_by, kind_of}
use Rattle.sp_code.specs.Places.{after_value, after_form, after_var, after_actuals, after_test, after_tests}
use Rattle.sp_code.specs.Places.{after_statement}
use Rattle.sp_code.specs.TreeCode as emitted
use Rattle.sp_code.specs.CodeOfTree.{CodeAt, HasFork, HasWords, ArmsAt, TestAt, TestsAt, ReadsAt}
use Rattle.sp_codegen.specs.FramePairs.{FramePair, pairs_from}
use Rattle.sp_codegen.specs.Executions.{Execution}
use Rattle.sp_codegen.specs.CodePositions.{StandsFor}
use Rattle.sp_codegen.specs.Relation.{StackHolds, OneCell}
use Rattle.sp_codegen.proofs.Runs.{stays, goes, comes_on, gives_fail, holds_when}
use Rattle.sp_codegen.proofs.Values.{at_console, value_gives, form_gives, address_gives, ordinal_gives, actuals_gives}
use Rattle.sp_codegen.proofs.Follows.{slides, jumps, slide_follows, push_follows, push_all_follows, cells_in, PayloadIs}
use Rattle.sp_codegen.proofs.Follows.{ForkStop, makes_after, makes_bind, makes_known, makes_by, makes_went, makes_fail}
use Rattle.sp_codegen.proofs.Follows.{makes_tick}
use Rattle.sp_codegen.proofs.StepForms.{C, G, K, After, S, Pl, Oks, went_if, branch, mine_known}
use Rattle.sp_codegen.proofs.AssignSteps.{assign_makes}
use Rattle.sp_codegen.proofs.LoopSteps.{for_begins}
use Rattle.sp_codegen.proofs.OutputSteps.{plain_makes, width_text, width_item}
use Rattle.sp_codegen.proofs.CallSteps.{Blocks, call_makes}
use Rattle.sp_codegen.proofs.ValueForms.{within, at_one, rest_of, left_known, kind_known, or_known}

abbrev if_type : Bool → Type 0 → Type 0 → Type 0
if_type true a b = a
if_type false a b = b

module _ {M : Type 0} (ex : Execution M) where
  open ex use {
    run_input as g,
    code,
    moves,
    shares,
    IsCallableInFunctions as callable,
    who as w,
    IsReadable as R,
    operations as ops,
    relation as rel,
    laws as law,
    reads_written as reads,
    free,
  }

  abbrev p : Program
  p = g.program

  -- the tests of a case
  abbrev Tested : Bool → ℤ → ℕ → ℕ → ℕ → List Entry → M → Type 0
  Tested b v q to past stack n = if_type b (C ex (m.At q (m.Number v ∷ stack) n) (m.At to stack n))
      (C ex (m.At q (m.Number v ∷ stack) n) (m.At past (m.Number v ∷ stack) n))

  test_comes : (v : ℤ) (ms : List ℤ) (q to : ℕ) (stack : List Entry) (n : M)
      → TestAt p moves shares (CodeAt code) (HasFork code) (HasWords code) callable q ms to
      → Tested (has_constant v ms) v q to (after_test q ms) stack n
  test_comes v [] q to stack n h = stays ops rel w code _
  test_comes v (x ∷ ms) q to stack n h =
      go (same_ordinal v x) (has_constant v ms) (at_one ex q (m.Number v ∷ stack) n h.0)
      (test_comes v ms (q + 1) to stack n h.1)
    where
      go : (b y : Bool) → next_step ops code (m.At q (m.Number v ∷ stack) n)
          ≡ (if b then Goes (m.At to stack n) else Goes (m.At (q + 1) (m.Number v ∷ stack) n))
          → Tested y v (q + 1) to (after_test (q + 1) ms) stack n
          → Tested (if b then true else y) v q to (after_test (q + 1) ms) stack n
      go true y e k = goes ops rel w code e
      go false true e k = comes_on ops rel w code (goes ops rel w code e) k
      go false false e k = comes_on ops rel w code (goes ops rel w code e) k

  case_makes : (end : ℕ) (base : List Entry) (below : List FramePair) (v : ℤ) (arms : Arms) (sc : List Scope)
      (q b past : ℕ)
      (stack : List Entry) (todo : List Item) (fs : List FramePair) (o : LocalState) (s : Store) (n : M)
      → rel.Agrees fs o s n
      → Pl ex sc fs (In_arms arms)
      → TestsAt p moves shares (CodeAt code) (HasFork code) (HasWords code) callable q arms b
      → slice_get code.instrs (after_tests q arms) ≡ Some i.Nocase
      → ArmsAt p moves shares (CodeAt code) (HasFork code) (HasWords code) callable
      (is_in_no_function stack) sc b arms past
      → After ex end base below todo fs past stack
      → K ex (m.At q (m.Number v ∷ stack) n) o s (After ex end base below) (arm_action g (arm_for v arms) todo)
  case_makes end base below v NoArm sc q b past stack todo fs o s n t pl h hn ha fo =
      makes_fail ex fault.F9 (fs, o, t) (at_one ex q (m.Number v ∷ stack) n hn)
  case_makes end base below v (Or (On ms d) rest) sc q b past stack todo fs o s n t pl h hn ha fo =
      go (has_constant v ms) (test_comes v ms q b stack n h.0)
      (case_makes end base below v rest sc (after_test q ms) (after_statement p b d + 1) past stack todo fs o s n t
      (within (λ u. inr) pl) h.1 hn ha.2 fo)
    where
      go : (y : Bool) → Tested y v q b (after_test q ms) stack n
          → K ex (m.At (after_test q ms) (m.Number v ∷ stack) n) o s (After ex end base below)
          (arm_action g (arm_for v rest) todo) → K ex (m.At q (m.Number v ∷ stack) n) o s (After ex end base below)
          (arm_action g (if y then Some d else arm_for v rest) todo)
      go true c k = makes_went ex (push d todo) fs b stack n c t
          (push_follows ex d end base below sc b stack fs todo (within (λ u. inl) pl) ha.0
          (slide_follows ex end base below (after_statement p b d) past stack fs todo
          (jumps ex (after_statement p b d) past stack ha.1)
          fo))
      go false c k = makes_after ex c k

  -- a fork, where the depth allows it
  fork_makes : (Q : List Item → List FramePair → ℕ → List Entry → Type 0) (fs : List FramePair) (q table : ℕ)
      (first : ℤ)
      (count : ℕ) (stack : List Entry) (bs : List Birth) (todo : List Item) (c : Config M) (o : LocalState) (s : Store)
      (n : M)
      → rel.Agrees fs o s n → StandsFor rel c s
      → next_step ops code c ≡ m.fork_step ops code table first count q stack n
      → Q todo fs q stack → is_in_no_function stack ≡ true
      → ForkStop ex (is_in_no_function stack) fs bs (Forks table first count)
      → K ex c o s Q (fork g bs todo)
  fork_makes Q fs q table first count stack bs todo c o s n t f ge k fr fi =
      makes_known ex (λ y. if nat_lt y.depth g.limits.depth then give (Forked bs todo) else fail fault.F11) o
      (mine_known ex)
      (go (nat_lt o.depth g.limits.depth) refl
      (ge ∙ ap (λ b. if b then Stops (Forks table first count) (m.At q stack n) else Fails fault.F11)
      (sym (law.may_fork t))))
    where
      go : (b : Bool) → nat_lt o.depth g.limits.depth ≡ b
          → next_step ops code c ≡ (if b then Stops (Forks table first count) (m.At q stack n) else Fails fault.F11)
          → K ex c o s Q (if b then give (Forked bs todo) else fail fault.F11)
      go true room e = record {
        proof = (
          c,
          stays ops rel w code c,
          record {
            pc = q;
            stack = stack;
            memory = n;
            frames = fs;
            stop = Forks table first count;
            stops = e;
            stand = t;
            follows = k;
            outside = fr;
            forks = fi;
            may_nest = room;
          },
        );
      }
      go false room e = makes_fail ex fault.F11 f e

  -- a value is read
  took_gives : {fs : List FramePair} {c : Config M} {o : LocalState} {s : Store} {n : M} (q : ℕ) (x : ReadResult)
      (a : Address)
      (u : Ptr) (stack : List Entry) → rel.Agrees fs o s n → StandsFor rel c s → R Input → rel.Points fs a u → R a.spot
      → sort p a.kind ≡ Ordinals → next_step ops code c ≡ m.item_step ops code x u q stack n
      → G ex fs c o s q (λ (u : Unit {0}) (z : Unit {0}). stack) (λ u z. Unit {0}) (take_in g a x)
  took_gives {n = n} q (Took v bytes) a u stack st f ri pt ra so ge =
      record {
        proof = (
          tt,
          ops.put u (cell.Ordinal v) (ops.advance bytes n),
          goes ops rel w code ge,
          law.store (law.advance st ri bytes) a u pt ra (subst OneCell (sym so) tt) (Ordinal v) (m.Number v)
              (subst (λ y. StackHolds rel p y a.kind (Ordinal v) (m.Number v)) (sym so) (v, refl, refl)),
          tt,
        );
      }
  took_gives q (Faulty x) a u stack st f ri pt ra so ge = gives_fail ops rel w code x f ge

  forall_makes : (Q : List Item → List FramePair → ℕ → List Entry → Type 0) (fs : List FramePair) (q tb x : ℕ)
      (d : Stmt)
      (lo hi : ℤ) (stack : List Entry) (todo : List Item) (o : LocalState) (s : Store) (n : M) → rel.Agrees fs o s n
      → slice_get code.instrs q ≡ Some (i.Forall tb) → Q todo fs (q + 1) stack → is_in_no_function stack ≡ true
      → (int_lt hi lo ≡ false
      → ForkStop ex (is_in_no_function stack) fs (indexed_children x d lo (nat_abs ((hi -ℤ lo) +ℤ pos 1)))
      (Forks tb lo (values_in lo hi)))
      → K ex (m.At q (m.Number hi ∷ m.Number lo ∷ stack) n) o s Q
      (if int_lt hi lo then give (Stepped todo) else
      fork g (indexed_children x d lo (nat_abs ((hi -ℤ lo) +ℤ pos 1))) todo)
  forall_makes Q fs q tb x d lo hi stack todo o s n t h k fr fi =
      go (int_lt hi lo) refl (at_one ex q (m.Number hi ∷ m.Number lo ∷ stack) n h)
    where
      go : (b : Bool) → int_lt hi lo ≡ b → next_step ops code (m.At q (m.Number hi ∷ m.Number lo ∷ stack) n)
          ≡ (if b then Goes (m.At (q + 1) stack n) else m.fork_step ops code tb lo (values_in lo hi) (q + 1) stack n)
          → K ex (m.At q (m.Number hi ∷ m.Number lo ∷ stack) n) o s Q
          (if b then give (Stepped todo) else fork g (indexed_children x d lo (nat_abs ((hi -ℤ lo) +ℤ pos 1))) todo)
      go true b e = makes_went ex todo fs (q + 1) stack n (goes ops rel w code e) t k
      go false b e = fork_makes Q fs (q + 1) tb lo (values_in lo hi) stack
          (indexed_children x d lo (nat_abs ((hi -ℤ lo) +ℤ pos 1))) todo (m.At q (m.Number hi ∷ m.Number lo ∷ stack) n)
          o s n t (fs, o, t) e k fr (fi b)

  assume_makes : (Q : List Item → List FramePair → ℕ → List Entry → Type 0) (fs : List FramePair) (v : ℤ) (q : ℕ)
      (stack : List Entry) (todo : List Item) (o : LocalState) (s : Store) (n : M) → rel.Agrees fs o s n
      → slice_get code.instrs q ≡ Some i.Assume → Q todo fs (q + 1) stack
      → K ex (m.At q (m.Number v ∷ stack) n) o s Q (if_true v (give (Stepped todo)) (fail fault.F8))
  assume_makes Q fs v q stack todo o s n t h k = go (int_le v (pos 0)) (at_one ex q (m.Number v ∷ stack) n h)
    where
      go : (b : Bool) → next_step ops code (m.At q (m.Number v ∷ stack) n)
          ≡ (if not b then Goes (m.At (q + 1) stack n) else Fails fault.F8)
          → K ex (m.At q (m.Number v ∷ stack) n) o s Q (if b then fail fault.F8 else give (Stepped todo))
      go true e = makes_fail ex fault.F8 (fs, o, t) e
      go false e = makes_went ex todo fs (q + 1) stack n (goes ops rel w code e) t k

  reads_makes : (Q : List Item → List FramePair → ℕ → List Entry → Type 0) (fs : List FramePair) (ty : KindOf) (q : ℕ)
      (a : Address) (u : Ptr) (stack : List Entry) (todo : List Item) (o : LocalState) (s : Store) (n : M)
      → rel.Agrees fs o s n
      → R Input → rel.Points fs a u → R a.spot → slice_get p.kinds a.kind ≡ Some ty
      → ReadsAt p moves shares (CodeAt code) (HasFork code) (HasWords code) callable q ty → Q todo fs (q + 1) stack
      → K ex (m.At q (m.Pointer u ∷ stack) n) o s Q
      (bind (or_ill_formed (reading_by ty (rest_of ex s))) (λ x. bind (take_in g a x) (λ y. give (Stepped todo))))
  reads_makes Q fs kind.Integer q a u stack todo o s n t ri pt ra ek h k =
      let bs = rest_of ex s in
      makes_known ex (λ x. bind (take_in g a x) (λ y. give (Stepped todo))) (number_in bs)
      (or_known ex (Some (number_in bs)) (number_in bs) refl)
      (makes_bind ex _ (took_gives (q + 1) (number_in bs) a u stack t (fs, o, t) ri pt ra (ap sort_by ek)
      (at_one ex q _ n h ∙ holds_when (ops.has u 1 n) _ (law.has_one t a u pt ra)
      ∙ ap (λ z. on_some z (λ bs. m.item_step ops code (number_in bs) u (q + 1) stack n)) (law.left t ri)))
      (λ x1 x2 o2 s2 n2 t2 x3. makes_went ex todo fs (q + 1) stack n2 (stays ops rel w code _) t2 k))
  reads_makes Q fs kind.Char q a u stack todo o s n t ri pt ra ek h k =
      let bs = rest_of ex s in
      makes_known ex (λ x. bind (take_in g a x) (λ y. give (Stepped todo))) (char_in bs)
      (or_known ex (Some (char_in bs)) (char_in bs) refl)
      (makes_bind ex _ (took_gives (q + 1) (char_in bs) a u stack t (fs, o, t) ri pt ra (ap sort_by ek)
      (at_one ex q _ n h ∙ holds_when (ops.has u 1 n) _ (law.has_one t a u pt ra)
      ∙ ap (λ z. on_some z (λ bs. m.item_step ops code (char_in bs) u (q + 1) stack n)) (law.left t ri)))
      (λ x1 x2 o2 s2 n2 t2 x3. makes_went ex todo fs (q + 1) stack n2 (stays ops rel w code _) t2 k))
  reads_makes Q fs kind.Boolean q a u stack todo o s n t ri pt ra ek h k = absurd h
  reads_makes Q fs (kind.Enumeration x) q a u stack todo o s n t ri pt ra ek h k = absurd h
  reads_makes Q fs (kind.Array b c d e) q a u stack todo o s n t ri pt ra ek h k = absurd h
  reads_makes Q fs (kind.Fields x) q a u stack todo o s n t ri pt ra ek h k = absurd h
  reads_makes Q fs (kind.Channel x) q a u stack todo o s n t ri pt ra ek h k = absurd h

  -- a channel on top of the stack
  with_channel : (Q : List Item → List FramePair → ℕ → List Entry → Type 0) (k : ℕ) (v : Value) (e : Entry)
      (gg : Channel → Work Action) (q : ℕ) (stack : List Entry) (o : LocalState) (s : Store) (n : M)
      → sort p k ≡ Channels
      → StackHolds rel p (sort p k) k v e → ((c : Channel) (j : ℕ) → rel.Named c j
      → K ex (m.At q (m.Chan j ∷ stack) n) o s Q (gg c)) → K ex (m.At q (e ∷ stack) n) o s Q (bind (channel v) gg)
  with_channel Q k v e gg q stack o s n es x next =
      let (c1, j1, value_is, entry_is, named) = subst (λ z. StackHolds rel p z k v e) es x in
      subst (λ z. K ex (m.At q (z ∷ stack) n) o s Q (bind (channel v) gg)) (sym entry_is)
      (makes_known ex gg c1 (record { proof = ap (λ z. run (channel z) w o s) value_is }) (next c1 j1 named))

  send_one : (q k : ℕ) (z : Sort) (v : Value) (e : Entry) (j : ℕ) (stack : List Entry) (n : M)
      → StackHolds rel p z k v e → slice_get code.instrs q ≡ Some (i.Send k)
      → next_step ops code (m.At q (e ∷ m.Chan j ∷ stack) n) ≡ Stops (Sends j k (cells_in e)) (m.At (q + 1) stack n)
  send_one q k Ordinals v e j stack n (_, _, entry_is) h = subst
      (λ u. next_step ops code (m.At q (u ∷ m.Chan j ∷ stack) n) ≡ Stops (Sends j k (cells_in u))
      (m.At (q + 1) stack n))
      (sym entry_is) (at_one ex q _ n h)
  send_one q k Channels v e j stack n (_, _, _, entry_is, _) h = subst
      (λ u. next_step ops code (m.At q (u ∷ m.Chan j ∷ stack) n) ≡ Stops (Sends j k (cells_in u))
      (m.At (q + 1) stack n))
      (sym entry_is) (at_one ex q _ n h)
  send_one q k Many v e j stack n (_, entry_is, _) h = subst
      (λ u. next_step ops code (m.At q (u ∷ m.Chan j ∷ stack) n) ≡ Stops (Sends j k (cells_in u))
      (m.At (q + 1) stack n))
      (sym entry_is) (at_one ex q _ n h)
  send_one q k NoSort v e j stack n x h = absurd x

  receive_is : (fs : List FramePair) (c : Channel) (k : ℕ) (a : Address) (u : Ptr) (j : ℕ) → (ek : a.kind ≡ k)
      → rel.Named c j → rel.Points fs a u → R a.spot → PayloadIs ex fs c a.kind (Takes a) (Receives j k u)
  receive_is fs c k a u j ek nm pt ra = (j, u, ap (λ y. Receives j y u) (sym ek), nm, refl, pt, ra)

  -- the input and the output that a statement has to do with
  aims_input : {Here : Use → Type 0} (sc : List Scope) (fs : List FramePair) → Pl ex sc fs Here → Here (Target 0)
      → R Input
  aims_input sc fs pl h = reads Input (pl.sound.allowed [] (Target 0) h 0 Input (refl, at_console ex fs 0 free.input))

  aims_output : {Here : Use → Type 0} (sc : List Scope) (fs : List FramePair) → Pl ex sc fs Here → Here (Target 1)
      → R Output
  aims_output sc fs pl h = reads Output (pl.sound.allowed [] (Target 1) h 1 Output
      (refl, at_console ex fs 1 free.output))

  -- the step of a statement that is first
  pub start_makes : (call : Calls) → Oks ex call → Blocks ex
      → (end : ℕ) (base : List Entry) (below : List FramePair) (d : Stmt) (sc : List Scope) (q : ℕ) (stack : List Entry)
      (todo : List Item) (fs : List FramePair) (o : LocalState) (s : Store) (n : M) → rel.Agrees fs o s n
      → Pl ex sc fs (In_stmt d)
      → S ex (is_in_no_function stack) sc q d → After ex end base below todo fs (after_statement p q d) stack
      → K ex (m.At q stack n) o s (After ex end base below) (statement_action g call d todo)
  start_makes call ok bl end base below Empty sc q stack todo fs o s n t pl h k =
      makes_went ex todo fs q stack n (stays ops rel w code _) t k
  start_makes call ok bl end base below (Assign v (Typed x form)) sc q stack todo fs o s n t pl
      (place, target, right) k =
      makes_bind ex _ (address_gives ex call ok v x sc q stack fs o s n t (within (λ u. inl) pl) place target)
      (λ a u o1 s1 n1 t1 x1.
      assign_makes ex call ok end base below (sort p x) x form sc (after_var q v) stack todo a u fs o1 s1 n1 t1
      (within (λ u. inr) pl) refl x1.0 x1.1 x1.2 right k)
  start_makes call ok bl end base below (Call f args) sc q stack todo fs o s n t pl
      (b, given, calls, no_answer, callable) k =
      makes_bind ex _ (actuals_gives ex call ok args b.formals sc q stack fs o s n t (within (λ u. inr) pl) given)
      (λ gs es o1 s1 n1 t1 x1.
      call_makes ex bl end base below f args b sc
      (after_actuals q args) stack gs es todo fs o1 s1 n1 t1 pl calls no_answer callable
      x1.0 x1.1 k)
  start_makes call ok bl end base below (Sequence ss) sc q stack todo fs o s n t pl h k =
      makes_went ex (push_all ss todo) fs q stack n (stays ops rel w code _) t
      (push_all_follows ex ss end base below sc q stack fs todo pl h k)
  start_makes call ok bl end base below (If e a) sc q stack todo fs o s n t pl (value, jump, body) k =
      makes_bind ex _ (ordinal_gives ex call ok e sc q stack fs o s n t (within (λ u. inl) pl) value)
      (λ v u o1 s1 n1 t1 x1.
      makes_by ex (went_if ex (int_le v (pos 0)) todo (push a todo))
      (branch ex (After ex end base below) v (after_value q e) (after_statement p (after_value q e + 1) a) stack o1 s1
      n1 _ _ jump
      (makes_went ex todo fs _ stack n1 (stays ops rel w code _) t1 k)
      (makes_went ex (push a todo) fs _ stack n1 (stays ops rel w code _) t1
      (push_follows ex a end base below sc _ stack fs todo (within (λ u. inr) pl) body k))))
  start_makes call ok bl end base below (IfElse e a b) sc q stack todo fs o s n t pl
      (value, jump, first, leave, second) k =
      makes_bind ex _ (ordinal_gives ex call ok e sc q stack fs o s n t (within (λ u. inl) pl) value)
      (λ v u o1 s1 n1 t1 x1.
      makes_by ex (went_if ex (int_le v (pos 0)) (push b todo) (push a todo))
      (branch ex (After ex end base below) v (after_value q e)
      (after_statement p (after_value q e + 1) a + 1) stack o1 s1 n1 _ _ jump
      (makes_went ex (push b todo) fs _ stack n1 (stays ops rel w code _) t1
      (push_follows ex b end base below sc _ stack fs todo (within (λ u i. inr (inr i)) pl) second k))
      (makes_went ex (push a todo) fs _ stack n1 (stays ops rel w code _) t1
      (push_follows ex a end base below sc _ stack fs todo (within (λ u i. inr (inl i)) pl) first
      (slide_follows ex end base below _ _ stack fs todo (jumps ex _ _ stack leave) k)))))
  start_makes call ok bl end base below (While e d) sc q stack todo fs o s n t pl h k =
      let (value, jump, ticks, body, again) = h in
      makes_bind ex _ (ordinal_gives ex call ok e sc q stack fs o s n t (within (λ u. inl) pl) value)
      (λ v u o1 s1 n1 t1 x1.
      branch ex (After ex end base below) v (after_value q e)
      (after_statement p (after_value q e + 1 + 1) d + 1) stack o1 s1 n1 _ _ jump
      (makes_went ex todo fs _ stack n1 (stays ops rel w code _) t1 k)
      (makes_tick ex (push d (Do (While e d) ∷ todo)) fs (after_value q e + 1 + 1) stack (ops.tick n1) (_, _, t1)
      (law.tick t1) (at_one ex (after_value q e + 1) stack n1 ticks)
      (push_follows ex d end base below sc _ stack fs (Do (While e d) ∷ todo) (within (λ u. inr) pl) body
      (q, jumps ex _ q stack again, record { scopes = sc; placed = pl; stands = h; rest = k }))))
  start_makes call ok bl end base below (Repeat d e) sc q stack todo fs o s n t pl h k =
      let (ticks, body, _, _) = h in
      makes_tick ex (push d (Test d e ∷ todo)) fs (q + 1) stack (ops.tick n) (_, _, t) (law.tick t)
      (at_one ex q stack n ticks)
      (push_follows ex d end base below sc (q + 1) stack fs (Test d e ∷ todo) (within (λ u. inr) pl) body
      (q, slides ex _ _, record { scopes = sc; placed = pl; stands = h; rest = k }))
  start_makes call ok bl end base below (For x pairs_from down to d) sc q stack todo fs o s n t pl
      (first, last, turns) k =
      makes_bind ex _ (ordinal_gives ex call ok pairs_from sc q stack fs o s n t (within (λ u i. inr (inl i)) pl) first)
      (λ lo u o1 s1 n1 t1 x1.
      makes_bind ex _ (ordinal_gives ex call ok to sc (after_value q pairs_from) (m.Number lo ∷ stack) fs o1 s1 n1 t1
      (within (λ u i. inr (inr (inl i))) pl) last) (λ hi u2 o2 s2 n2 t2 x2.
      for_begins ex end base below x down d sc (after_value (after_value q pairs_from) to) stack todo fs lo hi o2
      s2 n2 t2
      (within (loop x pairs_from down to d) pl) turns k))
    where
      loop : (x : ℕ) (pairs_from : Expr) (down : Bool) (to : Expr) (d : Stmt) (u : Use) → In_loop x d u
          → In_stmt (For x pairs_from down to d) u
      loop x pairs_from down to d u (inl e) = inl e
      loop x pairs_from down to d u (inr i) = inr (inr (inr i))
  start_makes call ok bl end base below (Case e arms) sc q stack todo fs o s n t pl (value, tests, none, bodies) k =
      makes_bind ex _ (ordinal_gives ex call ok e sc q stack fs o s n t (within (λ u. inl) pl) value)
      (λ v u o1 s1 n1 t1 x1.
      case_makes end base below v arms sc (after_value q e) (after_tests (after_value q e) arms + 1)
      (after_statement p q (Case e arms)) stack todo fs o1 s1 n1 t1 (within (λ u. inr) pl) tests none bodies k)
  start_makes call ok bl end base below (Parallel ss) sc q stack todo fs o s n t pl
      (number, table_is, fork, jump, bodies, outside) k =
      fork_makes (After ex end base below) fs (q + 1) number (pos 0)
      (length (emitted.children_tables p moves shares (q + 1 + 1) ss)) stack (children ss) todo (m.At q stack n) o s
      n t (fs, o, t) (at_one ex q stack n fork
      ∙ ap (λ y. on_some y (λ table. m.fork_step ops code number (pos 0) (length table.children) (q + 1) stack n))
      table_is)
      (slide_follows ex end base below (q + 1) _ stack fs todo (jumps ex (q + 1) _ stack jump) k) outside
      (inl (record {
        statements = ss;
        table = number;
        start = q + 1 + 1;
        scopes = sc;
        stop_is = refl;
        table_is = table_is;
        births_are = refl;
        children_stand = bodies;
        placed = pl;
      }))
  start_makes call ok bl end base below (Forall x pairs_from to d) sc q stack todo fs o s n t pl
      (number, table_is, first, last, fork, jump, body, ends, outside) k =
      makes_bind ex _ (ordinal_gives ex call ok pairs_from sc q stack fs o s n t (within (λ u i. inr (inl i)) pl) first)
      (λ lo u o1 s1 n1 t1 x1.
      makes_bind ex _ (ordinal_gives ex call ok to sc (after_value q pairs_from) (m.Number lo ∷ stack) fs o1 s1 n1 t1
      (within (λ u i. inr (inr (inl i))) pl) last) (λ hi u2 o2 s2 n2 t2 x2.
      forall_makes (After ex end base below) fs
      (after_value (after_value q pairs_from) to) number x d lo hi stack todo o2 s2 n2 t2
      fork
      (slide_follows ex end base below _ _ stack fs todo (jumps ex _ _ stack jump) k) outside
      (λ b. inr (record {
        index = x;
        from = pairs_from;
        to = to;
        body = d;
        low = lo;
        high = hi;
        table = number;
        start = after_value (after_value q pairs_from) to + 1 + 1;
        scopes = sc;
        stop_is = refl;
        table_is = table_is;
        births_are = refl;
        not_empty = b;
        body_stands = body;
        ends = ends;
        placed = pl;
      }))))
  start_makes call ok bl end base below (Assume e) sc q stack todo fs o s n t pl (value, instr) k =
      makes_bind ex _ (ordinal_gives ex call ok e sc q stack fs o s n t pl value) (λ v u o1 s1 n1 t1 x1.
      assume_makes (After ex end base below) fs v (after_value q e) stack todo o1 s1 n1 t1 instr k)
  start_makes call ok bl end base below (ReadValue v) sc q stack todo fs o s n t pl
      (x, type, place, target, type_is, instr) k =
      let ri = aims_input sc fs pl (inl refl) in
      makes_bind ex _ (address_gives ex call ok v x sc q stack fs o s n t (within (λ u i. inr (inl i)) pl) place target)
      (λ a u o1 s1 n1 t1 x1.
      makes_known ex _ type (kind_known ex a.kind x type x1.0 type_is)
      (makes_known ex (λ bs. bind (or_ill_formed (reading_by type bs))
      (λ z. bind (take_in g a z) (λ y. give (Stepped todo))))
      (rest_of ex s1) (left_known ex)
      (reads_makes (After ex end base below) fs type (after_var q v) a u stack todo o1 s1 n1 t1 ri x1.1 x1.2
      (ap (λ y. slice_get p.kinds y) x1.0 ∙ type_is) instr k)))
  start_makes call ok bl end base below ReadLine sc q stack todo fs o s n t pl h k =
      let ri = aims_input sc fs pl (inl refl) in
      let bs = rest_of ex s in
      makes_known ex (λ bs. bind (advance g (line_length bs)) (λ u. give (Stepped todo))) bs (left_known ex)
      (record {
        proof = (
          m.At (q + 1) stack (ops.advance (line_length bs) n),
          goes ops rel w code (at_one ex q stack n h
              ∙ ap (λ z. on_some z (λ bs. Goes (m.At (q + 1) stack (ops.advance (line_length bs) n)))) (law.left t ri)),
          record { frames = fs; stand = law.advance t ri (line_length bs); follows = k },
        );
      })
  start_makes call ok bl end base below (WriteValue (Typed x form) wd) sc q stack todo fs o s n t pl
      (type, value, type_is, width, instr, written) k =
      let ro = aims_output sc fs pl (inl refl) in
      makes_bind ex _ (ordinal_gives ex call ok (Typed x form) sc q stack fs o s n t (within (λ u i. inr (inl i)) pl)
      value) (λ v u o1 s1 n1 t1 x1.
      width_item ex call ok end base below type x v wd sc (after_form q form) stack todo fs o1 s1 n1 t1
      (within (λ u i. inr (inr (inl i))) pl) ro type_is width instr written k)
  start_makes call ok bl end base below (WriteText tx wd) sc q stack todo fs o s n t pl
      (number, text_is, width, instr) k =
      let ro = aims_output sc fs pl (inl refl) in
      width_text ex call ok end base below tx number wd sc q stack todo fs o s n t
      (within (λ u i. inr (inl i)) pl) ro text_is width
      instr k
  start_makes call ok bl end base below WriteLine sc q stack todo fs o s n t pl h k =
      let ro = aims_output sc fs pl (inl refl) in
      plain_makes ex (After ex end base below) fs (q + 1) (10 ∷ []) stack todo (m.At q stack n) o s n t (fs, o, t) ro
      (at_one ex q stack n h) k
  start_makes call ok bl end base below (Open v) sc q stack todo fs o s n t pl
      (x, place, target, sort_is, instr, outside) k =
      makes_bind ex (λ a. bind who (λ z. bind (assign a (Chan (record { owner = z.name; nth = z.opens })))
      (λ u. give (Opened todo)))) (address_gives ex call ok v x sc q stack fs o s n t (within (λ u. inl) pl) place
      target) (λ a u o1 s1 n1 t1 x1.
      record {
        proof = (
          m.At (after_var q v) (m.Pointer u ∷ stack) n1,
          stays ops rel w code _,
          record {
            pc = after_var q v + 1;
            stack = stack;
            memory = ops.make_own u n1;
            frames = fs;
            variable = a;
            target = u;
            store = s1;
            stops = at_one ex (after_var q v) _ n1 instr
                ∙ holds_when (ops.has u 1 n1) _ (law.has_one t1 a u x1.1 x1.2);
            stand = law.make_own t1 a u x1.1 x1.2;
            points = x1.1;
            readable = x1.2;
            store_is = refl;
            follows = k;
            outside = outside;
            sort_is = ap (λ y. sort p y) x1.0 ∙ sort_is;
          },
        );
      })
  start_makes call ok bl end base below (Send c (Typed x form)) sc q stack todo fs o s n t pl
      (chan, sort_is, sent, instr, outside) k =
      makes_bind ex _ (value_gives ex call ok c sc q stack fs o s n t (within (λ u. inl) pl) chan)
      (λ v e o1 s1 n1 t1 x1.
      with_channel (After ex end base below) (kind_of c) v e
      (λ to. bind (value g call (Typed x form)) (λ z. give (Offered to x (Offers (Tree z)) todo))) (after_value q c)
      stack o1 s1 n1 sort_is x1 (λ ch1 j nm.
      makes_bind ex (λ z. give (Offered ch1 x (Offers (Tree z)) todo))
      (form_gives ex call ok x form sc (after_value q c) (m.Chan j ∷ stack) fs o1 s1 n1 t1
      (within (λ u i. inr (inl i)) pl) sent) (λ v2 e2 o2 s2 n2 t2 x2.
      record {
        proof = (
          m.At (after_form (after_value q c) form) (e2 ∷ m.Chan j ∷ stack) n2,
          stays ops rel w code _,
          record {
            pc = after_form (after_value q c) form + 1;
            stack = stack;
            memory = n2;
            frames = fs;
            stop = Sends j x (cells_in e2);
            stops = send_one (after_form (after_value q c) form) x (sort p x) v2 e2 j stack n2 x2 instr;
            stand = t2;
            carries = (j, e2, refl, nm, x2);
            follows = k;
            outside = outside;
            owned = tt;
          },
        );
      })))
  start_makes call ok bl end base below (Receive c v) sc q stack todo fs o s n t pl
      (x, chan, sort_is, place, target, instr, outside) k =
      makes_bind ex _ (value_gives ex call ok c sc q stack fs o s n t (within (λ u. inl) pl) chan)
      (λ y e o1 s1 n1 t1 x1.
      with_channel (After ex end base below) (kind_of c) y e
      (λ pairs_from. bind (address g call v) (λ a. give (Offered pairs_from a.kind (Takes a) todo))) (after_value q c)
      stack o1
      s1 n1 sort_is x1 (λ ch1 j nm.
      makes_bind ex (λ a. give (Offered ch1 a.kind (Takes a) todo))
      (address_gives ex call ok v x sc (after_value q c) (m.Chan j ∷ stack) fs o1 s1 n1 t1
      (within (λ u i. inr (inl i)) pl) place target) (λ a u o2 s2 n2 t2 x2.
      record {
        proof = (
          m.At (after_var (after_value q c) v) (m.Pointer u ∷ m.Chan j ∷ stack) n2,
          stays ops rel w code _,
          record {
            pc = after_var (after_value q c) v + 1;
            stack = stack;
            memory = ops.make_own u n2;
            frames = fs;
            stop = Receives j x u;
            stops = at_one ex (after_var (after_value q c) v) _ n2 instr
                ∙ holds_when (ops.has u 0 n2) _ (law.has_none t2 a u x2.1 x2.2);
            stand = law.make_own t2 a u x2.1 x2.2;
            carries = receive_is fs ch1 x a u j x2.0 nm x2.1 x2.2;
            follows = k;
            outside = outside;
            owned = (n2, refl);
          },
        );
      })))
