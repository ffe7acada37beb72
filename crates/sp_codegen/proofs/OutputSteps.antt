-- What is written: each item is a stretch of the code.
use Rattle.std.proofs.Common.{◌≡◌, ℕ, ◌+◌, ℤ, List, [], ◌∷◌, Option, Some, None, Bool, true, false, if◌then◌else◌, take}
use Rattle.std.proofs.Common.{refl, ap, ◌∙◌}
use Rattle.std.specs.Prelude.{pos, nat_abs, int_le, slice_get}
use Rattle.std.specs.Fmt.{signed_decimal}
use Rattle.sp_base.specs.declared.fault.Fault.TheVariants as fault
use Rattle.sp_tree.specs.declared.checked.KindOf.{KindOf}
use Rattle.sp_tree.specs.declared.checked.KindOf.TheVariants as kind
use Rattle.sp_tree.specs.Plain.{Expr, Program}
use Rattle.sp_tree.specs.Uses.{In_width}
use Rattle.sp_meaning.specs.LocalWork.{Output, LocalState, Item, bind, give, fail}
use Rattle.sp_meaning.specs.Texts.{right_justified, truth_text, byte}
use Rattle.sp_meaning.specs.Eval.{Calls, kind_at, ordinal_of}
use Rattle.sp_meaning.specs.Actions.{Stepped, in_width, ordinal_text, write, width}
use Rattle.sp_meaning.specs.Run.{Store}
use Rattle.sp_code.specs.declared.instr.Instr.TheVariants as i
use Rattle.sp_code.specs.Machine.{Entry, Config, Fails, on_some, next_step}
use Rattle.sp_code.specs.Machine as m
use Rattle.sp_code.specs.Scopes.{Scope, is_given}
use Rattle.sp_code.specs.Places.{after_value, after_width}
use Rattle.sp_code.specs.TreeCode.{write_instr}
use Rattle.sp_code.specs.CodeOfTree.{CodeAt, HasFork, HasWords, WidthAt, IsWritten}
use Rattle.sp_codegen.specs.FramePairs.{FramePair}
use Rattle.sp_codegen.specs.Executions.{Execution}
use Rattle.sp_codegen.specs.CodePositions.{StandsFor}
use Rattle.sp_codegen.proofs.Runs.{stays, breaks, gives_alike, holds_when}
use Rattle.sp_codegen.proofs.Values.{ordinal_gives}
use Rattle.sp_codegen.proofs.Follows.{makes_bind, makes_known, makes_went}
use Rattle.sp_codegen.proofs.StepForms.{G, K, After, Pl, Oks, makes_assoc}
use Rattle.sp_codegen.proofs.ValueForms.{at_one, kind_known}

module _ {M : Type 0} (ex : Execution M) where
  open ex use {
    run_input as g,
    code,
    moves,
    shares,
    IsCallableInFunctions as callable,
    who as w,
    IsReadable as R,
    operations as ops,
    relation as rel,
    laws as law,
  }

  abbrev p : Program
  p = g.program

  -- an item is written
  print_gives : {fs : List FramePair} {c : Config M} {o : LocalState} {s : Store} {n : M} (q : ℕ) (t : List ℕ)
      (stack : List Entry)
      → rel.Agrees fs o s n → StandsFor rel c s → R Output → next_step ops code c ≡ m.prints ops code t q stack n
      → G ex fs c o s q (λ (u : Unit {0}) (z : Unit {0}). stack) (λ u z. Unit {0}) (write g t)
  print_gives {n = n} q t stack st f ro ge =
      gives_alike ops rel w code q stack (ops.print t n) f (law.print st ro t)
      (ge ∙ holds_when (ops.has_output n) _ (law.has_output st ro))

  wide_makes : (Q : List Item → List FramePair → ℕ → List Entry → Type 0) (fs : List FramePair) (q : ℕ) (cut : Bool)
      (t : List ℕ) (mm : ℤ) (stack : List Entry) (todo : List Item) (c : Config M) (o : LocalState) (s : Store) (n : M)
      → rel.Agrees fs o s n → StandsFor rel c s → R Output → next_step ops code c ≡ m.prints_wide ops code cut t mm q
      stack n
      → Q todo fs q stack
      → K ex c o s Q (bind (in_width cut t (Some mm)) (λ bs. bind (write g bs) (λ u. give (Stepped todo))))
  wide_makes Q fs q cut t mm stack todo c o s n st f ro ge k = go (int_le mm (pos 0)) ge
    where
      text : List ℕ
      text = right_justified (nat_abs mm) (if cut then take (nat_abs mm) t else t)

      go : (b : Bool) → next_step ops code c ≡ (if b then Fails fault.F1 else m.prints ops code text q stack n)
          → K ex c o s Q (bind (if b then fail fault.F1 else give text)
          (λ bs. bind (write g bs) (λ u. give (Stepped todo))))
      go true ge = record { proof = breaks ops rel w code c fault.F1 s f ge }
      go false ge = makes_bind ex _ (print_gives q text stack st f ro ge)
          (λ x1 x2 o2 s2 n2 t2 x3. makes_went ex todo fs q stack n2 (stays ops rel w code _) t2 k)

  pub plain_makes : (Q : List Item → List FramePair → ℕ → List Entry → Type 0) (fs : List FramePair) (q : ℕ)
      (t : List ℕ)
      (stack : List Entry) (todo : List Item) (c : Config M) (o : LocalState) (s : Store) (n : M) → rel.Agrees fs o s n
      → StandsFor rel c s → R Output → next_step ops code c ≡ m.prints ops code t q stack n → Q todo fs q stack
      → K ex c o s Q (bind (write g t) (λ u. give (Stepped todo)))
  plain_makes Q fs q t stack todo c o s n st f ro ge k =
      makes_bind ex _ (print_gives q t stack st f ro ge)
      (λ x1 x2 o2 s2 n2 t2 x3. makes_went ex todo fs q stack n2 (stays ops rel w code _) t2 k)

  -- a width
  pub width_text : (call : Calls) → Oks ex call
      → (end : ℕ) (base : List Entry) (below : List FramePair) (t : List ℕ) (j : ℕ)
      (x : Option Expr) (sc : List Scope) (q : ℕ) (stack : List Entry) (todo : List Item) (fs : List FramePair)
      (o : LocalState)
      (s : Store) (n : M) → rel.Agrees fs o s n → Pl ex sc fs (In_width x) → R Output → slice_get code.texts j ≡ Some t
      → WidthAt p moves shares (CodeAt code) (HasFork code) (HasWords code) callable sc q x
      → slice_get code.instrs (after_width q x) ≡ Some (if is_given x then i.WritewText j else i.WriteText j)
      → After ex end base below todo fs (after_width q x + 1) stack
      → K ex (m.At q stack n) o s (After ex end base below)
      (bind (width g call x) (λ mm. bind (in_width true t mm) (λ bs. bind (write g bs) (λ u. give (Stepped todo)))))
  width_text call ok end base below t j None sc q stack todo fs o s n st pl ro et h ge fo =
      plain_makes (After ex end base below) fs (q + 1) t stack todo (m.At q stack n) o s n st (fs, o, st) ro
      (at_one ex q stack n ge ∙ ap (λ y. on_some y (λ z. m.prints ops code z (q + 1) stack n)) et) fo
  width_text call ok end base below t j (Some e) sc q stack todo fs o s n st pl ro et h ge fo =
      makes_assoc ex (ordinal_of g call e) (λ y. give (Some y)) _
      (makes_bind ex _ (ordinal_gives ex call ok e sc q stack fs o s n st pl h) (λ v u o1 s1 n1 t1 x1.
      wide_makes (After ex end base below) fs (after_value q e + 1) true t v stack todo
      (m.At (after_value q e) (m.Number v ∷ stack) n1) o1 s1 n1 t1 (fs, o1, t1) ro
      (at_one ex (after_value q e) (m.Number v ∷ stack) n1 ge
      ∙ ap (λ y. on_some y (λ z. m.prints_wide ops code true z v (after_value q e + 1) stack n1)) et) fo))

  -- an item without and with a width
  item_plain : (Q : List Item → List FramePair → ℕ → List Entry → Type 0) (ty : KindOf) (v : ℤ) (fs : List FramePair)
      (q : ℕ)
      (stack : List Entry) (todo : List Item) (o : LocalState) (s : Store) (n : M) → rel.Agrees fs o s n → R Output
      → slice_get code.instrs q ≡ Some (write_instr (Some ty) false) → IsWritten ty → Q todo fs (q + 1) stack
      → K ex (m.At q (m.Number v ∷ stack) n) o s Q
      (bind (in_width (ordinal_text ty v).0 (ordinal_text ty v).1 None)
      (λ bs. bind (write g bs) (λ u. give (Stepped todo))))
  item_plain Q kind.Integer v fs q stack todo o s n t ro e h k =
      plain_makes Q fs (q + 1) (signed_decimal v) stack todo (m.At q (m.Number v ∷ stack) n) o s n t (fs, o, t) ro
      (at_one ex q (m.Number v ∷ stack) n e) k
  item_plain Q kind.Boolean v fs q stack todo o s n t ro e h k =
      plain_makes Q fs (q + 1) (truth_text v) stack todo (m.At q (m.Number v ∷ stack) n) o s n t (fs, o, t) ro
      (at_one ex q (m.Number v ∷ stack) n e) k
  item_plain Q kind.Char v fs q stack todo o s n t ro e h k =
      plain_makes Q fs (q + 1) (byte v ∷ []) stack todo (m.At q (m.Number v ∷ stack) n) o s n t (fs, o, t) ro
      (at_one ex q (m.Number v ∷ stack) n e) k
  item_plain Q (kind.Enumeration x) v fs q stack todo o s n t ro e h k = absurd h
  item_plain Q (kind.Array a b c d) v fs q stack todo o s n t ro e h k = absurd h
  item_plain Q (kind.Fields a) v fs q stack todo o s n t ro e h k = absurd h
  item_plain Q (kind.Channel a) v fs q stack todo o s n t ro e h k = absurd h

  item_wide : (Q : List Item → List FramePair → ℕ → List Entry → Type 0) (ty : KindOf) (v mm : ℤ) (fs : List FramePair)
      (q : ℕ)
      (stack : List Entry) (todo : List Item) (o : LocalState) (s : Store) (n : M) → rel.Agrees fs o s n → R Output
      → slice_get code.instrs q ≡ Some (write_instr (Some ty) true) → IsWritten ty → Q todo fs (q + 1) stack
      → K ex (m.At q (m.Number mm ∷ m.Number v ∷ stack) n) o s Q
      (bind (in_width (ordinal_text ty v).0 (ordinal_text ty v).1 (Some mm))
      (λ bs. bind (write g bs) (λ u. give (Stepped todo))))
  item_wide Q kind.Integer v mm fs q stack todo o s n t ro e h k =
      wide_makes Q fs (q + 1) false (signed_decimal v) mm stack todo (m.At q (m.Number mm ∷ m.Number v ∷ stack) n) o s n
      t (fs, o, t) ro (at_one ex q _ n e) k
  item_wide Q kind.Boolean v mm fs q stack todo o s n t ro e h k =
      wide_makes Q fs (q + 1) true (truth_text v) mm stack todo (m.At q (m.Number mm ∷ m.Number v ∷ stack) n) o s n t
      (fs, o, t) ro (at_one ex q _ n e) k
  item_wide Q kind.Char v mm fs q stack todo o s n t ro e h k =
      wide_makes Q fs (q + 1) false (byte v ∷ []) mm stack todo (m.At q (m.Number mm ∷ m.Number v ∷ stack) n) o
      s n t (fs, o, t) ro (at_one ex q _ n e) k
  item_wide Q (kind.Enumeration x) v mm fs q stack todo o s n t ro e h k = absurd h
  item_wide Q (kind.Array a b c d) v mm fs q stack todo o s n t ro e h k = absurd h
  item_wide Q (kind.Fields a) v mm fs q stack todo o s n t ro e h k = absurd h
  item_wide Q (kind.Channel a) v mm fs q stack todo o s n t ro e h k = absurd h

  pub width_item : (call : Calls) → Oks ex call
      → (end : ℕ) (base : List Entry) (below : List FramePair) (ty : KindOf) (k : ℕ)
      (v : ℤ) (x : Option Expr) (sc : List Scope) (q : ℕ) (stack : List Entry) (todo : List Item) (fs : List FramePair)
      (o : LocalState) (s : Store) (n : M) → rel.Agrees fs o s n → Pl ex sc fs (In_width x) → R Output
      → slice_get p.kinds k ≡ Some ty
      → WidthAt p moves shares (CodeAt code) (HasFork code) (HasWords code) callable sc q x
      → slice_get code.instrs (after_width q x) ≡ Some (write_instr (Some ty) (is_given x)) → IsWritten ty
      → After ex end base below todo fs (after_width q x + 1) stack
      → K ex (m.At q (m.Number v ∷ stack) n) o s (After ex end base below)
      (bind (width g call x) (λ mm. bind (kind_at g k)
      (λ u. bind (in_width (ordinal_text u v).0 (ordinal_text u v).1 mm)
      (λ bs. bind (write g bs) (λ u. give (Stepped todo))))))
  width_item call ok end base below ty k v None sc q stack todo fs o s n st pl ro ek h e1 e2 fo =
      makes_known ex _ ty (kind_known ex k k ty refl ek)
      (item_plain (After ex end base below) ty v fs q stack todo o s n st ro e1 e2 fo)
  width_item call ok end base below ty k v (Some e) sc q stack todo fs o s n st pl ro ek h e1 e2 fo =
      makes_assoc ex (ordinal_of g call e) (λ y. give (Some y)) _
      (makes_bind ex _ (ordinal_gives ex call ok e sc q (m.Number v ∷ stack) fs o s n st pl h) (λ mm u o1 s1 n1 t1 x1.
      makes_known ex _ ty (kind_known ex k k ty refl ek)
      (item_wide (After ex end base below) ty v mm fs (after_value q e) stack todo o1 s1 n1 t1 ro e1 e2 fo)))
  -- ---- calls
