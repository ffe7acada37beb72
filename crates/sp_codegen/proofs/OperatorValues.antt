-- Operators, standard functions and the input: the value is on top of the stack.
use Rattle.std.proofs.Common.{◌≡◌, ℕ, ◌+◌, ◌==◌, ℤ, List, ◌∷◌, Some, length, refl, sym, ap, ◌∙◌, subst}
use Rattle.std.specs.Prelude.{pos, not, slice_get}
use Rattle.sp_tree.specs.declared.checked.KindOf.{KindOf}
use Rattle.sp_tree.specs.declared.operators.UnaryOp.{UnaryOp}
use Rattle.sp_tree.specs.declared.operators.UnaryOp.TheVariants as unary
use Rattle.sp_tree.specs.declared.operators.BinaryOp.{BinaryOp}
use Rattle.sp_tree.specs.declared.operators.BinaryOp.TheVariants as binary
use Rattle.sp_tree.specs.declared.operators.StandardFn.{StandardFn}
use Rattle.sp_tree.specs.declared.operators.StandardFn.TheVariants as standard
use Rattle.sp_tree.specs.Operators.{OperatorResult, Yields, OperatorFault, truth, value_in_range, successor}
use Rattle.sp_tree.specs.Operators.{predecessor, absolute_value, square}
use Rattle.sp_tree.specs.Operators.{is_odd, unary_op, binary_op, least_ordinal, greatest_ordinal}
use Rattle.sp_tree.specs.Plain.{Program}
use Rattle.sp_meaning.specs.Model.{Channel, same_channel}
use Rattle.sp_meaning.specs.Values.{Value, Ordinal, Chan}
use Rattle.sp_meaning.specs.LocalWork.{Input, LocalState, Work, bind}
use Rattle.sp_meaning.specs.Texts.{at_line_end}
use Rattle.sp_meaning.specs.Eval.{work_of, as_ordinal, ordinal, channels_op, operate, standard_op, input_op}
use Rattle.sp_meaning.specs.Run.{Store}
use Rattle.sp_code.specs.Machine.{Entry, Config, Goes, on_some, on_result, next_step}
use Rattle.sp_code.specs.Machine as m
use Rattle.sp_code.specs.Scopes.{Sort, Ordinals, Channels, Many, NoSort, sort}
use Rattle.sp_code.specs.Places.{after_unary, after_standard}
use Rattle.sp_code.specs.TreeCode.{binary_instr}
use Rattle.sp_code.specs.CodeOfTree.{CodeAt, HasFork, HasWords, UnaryAt, Operands, StandardAt, InputAt, TakesChannels}
use Rattle.sp_codegen.specs.FramePairs.{FramePair}
use Rattle.sp_codegen.specs.Executions.{Execution}
use Rattle.sp_codegen.specs.CodePositions.{StandsFor}
use Rattle.sp_codegen.specs.Relation.{StackHolds}
use Rattle.sp_codegen.proofs.Runs.{stays, goes, gives_bind, gives_known, gives_give, gives_fail, gives_by}
use Rattle.sp_codegen.proofs.ValueForms.{G, at_one, Top, St, NumberTop, Nothing_more, ordinal_known, channel_known}
use Rattle.sp_codegen.proofs.ValueForms.{rest_of}

module _ {M : Type 0} (ex : Execution M) where
  open ex use {
    run_input as g,
    code,
    moves,
    shares,
    IsCallableInFunctions as callable,
    who as w,
    IsReadable as R,
    operations as ops,
    relation as rel,
    laws as law,
  }

  abbrev p : Program
  p = g.program

  pub worked_gives : {js : List FramePair} {o : LocalState} {s : Store} (c : Config M) (pc k : ℕ) (stack : List Entry)
      (n : M)
      → rel.Agrees js o s n → StandsFor rel c s → sort p k ≡ Ordinals → (x : OperatorResult)
      → next_step ops code c ≡ on_result x (λ v. Goes (m.At pc (m.Number v ∷ stack) n))
      → G ex js c o s pc (Top ex stack) (St ex k) (work_of x)
  worked_gives c pc k stack n t f e (Yields v) h =
      gives_give ops rel w code (Ordinal v) (m.Number v) (goes ops rel w code h) t
      (subst (λ z. StackHolds rel p z k (Ordinal v) (m.Number v)) (sym e) (v, refl, refl))
  worked_gives c pc k stack n t f e (OperatorFault x) h = gives_fail ops rel w code x f h

  ordinal_top : {js : List FramePair} {o1 : LocalState} {s1 : Store} (k pc : ℕ) (stack : List Entry) (v : Value)
      (en : Entry)
      (n1 : M) → rel.Agrees js o1 s1 n1 → StackHolds rel p Ordinals k v en
      → G ex js (m.At pc (en ∷ stack) n1) o1 s1 pc (NumberTop ex stack) (Nothing_more ex) (ordinal v)
  ordinal_top {js} {o1} {s1} k pc stack v en n1 t1 q =
      subst (λ z. G ex js (m.At pc (z ∷ stack) n1) o1 s1 pc (NumberTop ex stack) (Nothing_more ex) (ordinal v))
      (sym q.2)
      (gives_by ops rel w code (ap ordinal q.1)
      (gives_give ops rel w code q.0 tt (stays ops rel w code (m.At pc (m.Number q.0 ∷ stack) n1)) t1 tt))

  pub as_ordinal_gives : {js : List FramePair} {c : Config M} {o : LocalState} {s : Store} {pc : ℕ} (k : ℕ)
      (stack : List Entry)
      (h : Work Value) → sort p k ≡ Ordinals → G ex js c o s pc (Top ex stack) (St ex k) h
      → G ex js c o s pc (NumberTop ex stack) (Nothing_more ex) (as_ordinal h)
  as_ordinal_gives {pc = pc} k stack h e hh =
      gives_bind ops rel w code hh (λ v en o1 s1 n1 t1 q. ordinal_top k pc stack v en n1 t1
      (subst (λ z. StackHolds rel p z k v en) e q))

  -- an operand that is an ordinal, and then gg
  pub with_ordinal : {B E : Type 0} {js : List FramePair} {c : Config M} {o : LocalState} {s : Store} {pc pc2 : ℕ}
      {st2 : B → E → List Entry} {F2 : B → E → Type 0} (k : ℕ) (stack : List Entry) (h : Work Value) (gg : ℤ → Work B)
      → sort p k ≡ Ordinals
      → G ex js c o s pc (Top ex stack) (St ex k) h
      → ((v : ℤ) (o1 : LocalState) (s1 : Store) (n1 : M) → rel.Agrees js o1 s1 n1
      → G ex js (m.At pc (m.Number v ∷ stack) n1) o1 s1 pc2 st2 F2 (gg v))
      → G ex js c o s pc2 st2 F2 (bind (as_ordinal h) gg)
  with_ordinal k stack h gg e hh next = gives_bind ops rel w code (as_ordinal_gives k stack h e hh)
      (λ v u o1 s1 n1 t1 x. next v o1 s1 n1 t1)

  pub unary_gives : {js : List FramePair} {o : LocalState} {s : Store} (op : UnaryOp) (q k : ℕ) (stack : List Entry)
      (v : ℤ)
      (n : M)
      → rel.Agrees js o s n → sort p k ≡ Ordinals
      → UnaryAt p moves shares (CodeAt code) (HasFork code) (HasWords code) callable q op
      → G ex js (m.At q (m.Number v ∷ stack) n) o s (after_unary op q) (Top ex stack) (St ex k)
      (work_of (unary_op op v))
  unary_gives unary.Plus q k stack v n t e h =
      gives_give ops rel w code (Ordinal v) (m.Number v) (stays ops rel w code _) t
      (subst (λ z. StackHolds rel p z k (Ordinal v) (m.Number v)) (sym e) (v, refl, refl))
  unary_gives unary.Minus q k stack v n t e h =
      worked_gives (m.At q (m.Number v ∷ stack) n) (q + 1) k stack n t (_, _, t) e (unary_op unary.Minus v)
      (at_one ex q (m.Number v ∷ stack) n h)
  unary_gives unary.Not q k stack v n t e h =
      worked_gives (m.At q (m.Number v ∷ stack) n) (q + 1) k stack n t (_, _, t) e (unary_op unary.Not v)
      (at_one ex q (m.Number v ∷ stack) n h)

  calc_one : (op : BinaryOp) (q : ℕ) (stack : List Entry) (u v : ℤ) (n : M)
      → slice_get code.instrs q ≡ Some (binary_instr op)
      → next_step ops code (m.At q (m.Number v ∷ m.Number u ∷ stack) n)
      ≡ on_result (binary_op op u v) (λ z. Goes (m.At (q + 1) (m.Number z ∷ stack) n))
  calc_one binary.Eq q stack u v n h = at_one ex q _ n h
  calc_one _ q _ _ _ n h = at_one ex q _ n h

  -- two operands
  channels_gives : {js : List FramePair} {o : LocalState} {s : Store} (op : BinaryOp) (q k : ℕ) (stack : List Entry)
      (c d : Channel) (a b : ℕ) (n : M) → rel.Agrees js o s n → rel.Named c a → rel.Named d b → sort p k ≡ Ordinals
      → slice_get code.instrs q ≡ Some (binary_instr op) → TakesChannels op
      → G ex js (m.At q (m.Chan b ∷ m.Chan a ∷ stack) n) o s (q + 1) (Top ex stack) (St ex k) (channels_op op c d)
  channels_gives binary.Eq q k stack c d a b n t x y e h z =
      worked_gives (m.At q (m.Chan b ∷ m.Chan a ∷ stack) n) (q + 1) k stack n t (_, _, t) e (truth (same_channel c d))
      (at_one ex q _ n h ∙ ap (λ r. on_result (truth r) (λ v. Goes (m.At (q + 1) (m.Number v ∷ stack) n)))
      (sym (law.named_same c d a b x y)))
  channels_gives binary.Ne q k stack c d a b n t x y e h z =
      worked_gives (m.At q (m.Chan b ∷ m.Chan a ∷ stack) n) (q + 1) k stack n t (_, _, t) e
      (truth (not (same_channel c d))) (at_one ex q _ n h
      ∙ ap (λ r. on_result (truth (not r)) (λ v. Goes (m.At (q + 1) (m.Number v ∷ stack) n)))
      (sym (law.named_same c d a b x y)))
  channels_gives _ _ _ _ _ _ _ _ _ _ _ _ _ _ z = absurd z

  pub binary_gives : {js : List FramePair} {o : LocalState} {s : Store} (op : BinaryOp) (q k ka kb : ℕ)
      (stack : List Entry)
      (x y : Sort) (u v : Value) (d e : Entry) (n : M) → rel.Agrees js o s n → StackHolds rel p x ka u d
      → StackHolds rel p y kb v e → Operands op x y → sort p k ≡ Ordinals
      → slice_get code.instrs q ≡ Some (binary_instr op)
      → G ex js (m.At q (e ∷ d ∷ stack) n) o s (q + 1) (Top ex stack) (St ex k) (operate op u v)
  binary_gives {js} {o} {s} op q k ka kb stack Ordinals Ordinals u v d e n t a b z r h =
      subst (λ y. G ex js (m.At q (y ∷ d ∷ stack) n) o s (q + 1) (Top ex stack) (St ex k) (operate op u v)) (sym b.2)
      (subst (λ y. G ex js (m.At q (m.Number b.0 ∷ y ∷ stack) n) o s (q + 1) (Top ex stack) (St ex k) (operate op u v))
      (sym a.2)
      (gives_by ops rel w code (ap (λ y. operate op y v) a.1 ∙ ap (λ y. operate op (Ordinal a.0) y) b.1)
      (gives_known ops rel w code (λ j. work_of (binary_op op a.0 j)) b.0 (ordinal_known ex b.0)
      (worked_gives (m.At q (m.Number b.0 ∷ m.Number a.0 ∷ stack) n) (q + 1) k stack n t (_, _, t) r
      (binary_op op a.0 b.0) (calc_one op q stack a.0 b.0 n h)))))
  binary_gives op q k ka kb stack Ordinals Channels u v d e n t a b z r h = absurd z
  binary_gives op q k ka kb stack Ordinals Many u v d e n t a b z r h = absurd z
  binary_gives op q k ka kb stack Ordinals NoSort u v d e n t a b z r h = absurd z
  binary_gives op q k ka kb stack Channels Ordinals u v d e n t a b z r h = absurd z
  binary_gives {js} {o} {s} op q k ka kb stack Channels Channels u v d e n t (c, number, value_is, entry_is, named)
      (c2, number2, value_is2, entry_is2, named2) z r h =
      subst (λ y. G ex js (m.At q (y ∷ d ∷ stack) n) o s (q + 1) (Top ex stack) (St ex k) (operate op u v))
      (sym entry_is2)
      (subst (λ y. G ex js (m.At q (m.Chan number2 ∷ y ∷ stack) n) o s (q + 1) (Top ex stack) (St ex k)
      (operate op u v))
      (sym entry_is)
      (gives_by ops rel w code (ap (λ y. operate op y v) value_is ∙ ap (λ y. operate op (Chan c) y) value_is2)
      (gives_known ops rel w code (λ j. channels_op op c j) c2 (channel_known ex c2)
      (channels_gives op q k stack c c2 number number2 n t named named2 r h z))))
  binary_gives op q k ka kb stack Channels Many u v d e n t a b z r h = absurd z
  binary_gives op q k ka kb stack Channels NoSort u v d e n t a b z r h = absurd z
  binary_gives op q k ka kb stack Many y u v d e n t a b z r h = absurd z
  binary_gives op q k ka kb stack NoSort y u v d e n t a b z r h = absurd z

  pub standard_gives : {js : List FramePair} {o : LocalState} {s : Store} (f : StandardFn) (q k : ℕ) (ty : KindOf)
      (stack : List Entry)
      (v : ℤ) (n : M) → rel.Agrees js o s n → sort p k ≡ Ordinals
      → StandardAt p moves shares (CodeAt code) (HasFork code) (HasWords code) callable q f ty
      → G ex js (m.At q (m.Number v ∷ stack) n) o s (after_standard f q) (Top ex stack) (St ex k) (standard_op f ty v)
  standard_gives standard.Abs q k ty stack v n t e h =
      worked_gives (m.At q (m.Number v ∷ stack) n) (q + 1) k stack n t (_, _, t) e (absolute_value v)
      (at_one ex q (m.Number v ∷ stack) n h)
  standard_gives standard.Sqr q k ty stack v n t e h =
      worked_gives (m.At q (m.Number v ∷ stack) n) (q + 1) k stack n t (_, _, t) e (square v)
      (at_one ex q (m.Number v ∷ stack) n h)
  standard_gives standard.Odd q k ty stack v n t e h =
      worked_gives (m.At q (m.Number v ∷ stack) n) (q + 1) k stack n t (_, _, t) e (is_odd v)
      (at_one ex q (m.Number v ∷ stack) n h)
  standard_gives standard.Ord q k ty stack v n t e h =
      gives_give ops rel w code (Ordinal v) (m.Number v) (stays ops rel w code _) t
      (subst (λ z. StackHolds rel p z k (Ordinal v) (m.Number v)) (sym e) (v, refl, refl))
  standard_gives standard.Chr q k ty stack v n t e h =
      worked_gives (m.At q (m.Number v ∷ stack) n) (q + 1) k stack n t (_, _, t) e (value_in_range (pos 0) (pos 255) v)
      (at_one ex q (m.Number v ∷ stack) n h)
  standard_gives standard.Succ q k ty stack v n t e h =
      worked_gives (m.At q (m.Number v ∷ stack) n) (q + 1) k stack n t (_, _, t) e (successor (greatest_ordinal ty) v)
      (at_one ex q (m.Number v ∷ stack) n h)
  standard_gives standard.Pred q k ty stack v n t e h =
      worked_gives (m.At q (m.Number v ∷ stack) n) (q + 1) k stack n t (_, _, t) e (predecessor (least_ordinal ty) v)
      (at_one ex q (m.Number v ∷ stack) n h)
  standard_gives standard.Eof q k ty stack v n t e h = absurd h
  standard_gives standard.Eoln q k ty stack v n t e h = absurd h

  pub input_gives : {js : List FramePair} {o : LocalState} {s : Store} (f : StandardFn) (q k : ℕ) (stack : List Entry)
      (n : M)
      → rel.Agrees js o s n → R Input → sort p k ≡ Ordinals
      → InputAt p moves shares (CodeAt code) (HasFork code) (HasWords code) callable q f
      → G ex js (m.At q stack n) o s (q + 1) (Top ex stack) (St ex k) (input_op f (rest_of ex s))
  input_gives standard.Abs q k stack n t r e h = absurd h
  input_gives standard.Sqr q k stack n t r e h = absurd h
  input_gives standard.Odd q k stack n t r e h = absurd h
  input_gives standard.Ord q k stack n t r e h = absurd h
  input_gives standard.Chr q k stack n t r e h = absurd h
  input_gives standard.Succ q k stack n t r e h = absurd h
  input_gives standard.Pred q k stack n t r e h = absurd h
  input_gives {s = s} standard.Eof q k stack n t r e h =
      worked_gives (m.At q stack n) (q + 1) k stack n t (_, _, t) e (truth (length (rest_of ex s) == 0))
      (at_one ex q stack n h
      ∙ ap (λ z. on_some z (λ bs. m.truth_step ops code (length bs == 0) (q + 1) stack n)) (law.left t r))
  input_gives {s = s} standard.Eoln q k stack n t r e h =
      worked_gives (m.At q stack n) (q + 1) k stack n t (_, _, t) e (truth (at_line_end (rest_of ex s)))
      (at_one ex q stack n h
      ∙ ap (λ z. on_some z (λ bs. m.truth_step ops code (at_line_end bs) (q + 1) stack n)) (law.left t r))
