-- The code of an expression gives its value, that of a variable its address.
use Rattle.std.proofs.Common.{◌≡◌, inl, inr, ℕ, ◌+◌, ℤ, List, [], ◌∷◌, Some, refl, sym, ap, ◌∙◌, subst}
use Rattle.std.specs.Prelude.{slice_get}
use Rattle.sp_tree.specs.declared.checked.Role.TheVariants as role
use Rattle.sp_tree.specs.Operators.{Yields}
use Rattle.sp_tree.specs.Plain.{Expr, Typed, ExprForm, Number, Read, Unary, Binary, Apply, Standard, AtInput, Var}
use Rattle.sp_tree.specs.Plain.{Entire, Index, Field, Selectors, Whole, Select, ByValue, ByReference, Actuals, Nothing}
use Rattle.sp_tree.specs.Plain.{Pass, Program, Variable, Block}
use Rattle.sp_tree.specs.Uses.{Use, Seen, In_expr, In_form, In_target, In_selectors, In_actuals, In_call}
use Rattle.sp_cell.specs.declared.spot.Address.{Address as Ptr}
use Rattle.sp_meaning.specs.LocalWork.{Input, Address, LocalState}
use Rattle.sp_meaning.specs.Rights.{location_of, location_at, location_by, console, AreArgumentsOf}
use Rattle.sp_meaning.specs.Eval.{Place, AtAddress, Fixed, ArgumentValue, ValueOf, PlaceOf, Calls, standard_op}
use Rattle.sp_meaning.specs.Eval.{input_op, address_of}
use Rattle.sp_meaning.specs.Eval.{value, form_value, place, component_place, actuals, address, ordinal_of}
use Rattle.sp_meaning.specs.Run.{Store}
use Rattle.sp_meaning.proofs.Within.{variable_of, selectors_of}
use Rattle.sp_code.specs.Machine.{Entry, Config}
use Rattle.sp_code.specs.Machine as m
use Rattle.sp_code.specs.Turns.{RunsTo}
use Rattle.sp_code.specs.Scopes.{Ordinals, Scope, sort, kind_of}
use Rattle.sp_code.specs.Places.{after_value, after_form, after_var, after_selectors, after_actuals}
use Rattle.sp_code.specs.CodeOfTree.{CodeAt, HasFork, HasWords, NoIndex, IsTarget, CallAt, ValueAt, FormAt, PlaceAt}
use Rattle.sp_code.specs.CodeOfTree.{SelectedAt, ActualsAt, OrdinalAt}
use Rattle.sp_codegen.specs.FramePairs.{FramePair, sources}
use Rattle.sp_codegen.specs.Executions.{Execution}
use Rattle.sp_codegen.specs.Relation.{StackHolds, GivensAre}
use Rattle.sp_codegen.proofs.Runs.{stays, gives_bind, gives_known, gives_give}
use Rattle.sp_codegen.proofs.ValueForms.{pushed, same_some, within, G, P, at_one, Top, St}
use Rattle.sp_codegen.proofs.ValueForms.{rest_of, left_known, PlaceTop, PlaceIs, MayRead, may_see, may_aim, kind_known}
use Rattle.sp_codegen.proofs.OperatorValues.{worked_gives, as_ordinal_gives, with_ordinal, unary_gives, binary_gives}
use Rattle.sp_codegen.proofs.OperatorValues.{standard_gives, input_gives}
use Rattle.sp_codegen.proofs.PlaceValues.{var_gives, indexed_gives, fielded_gives, read_gives}

module _ {M : Type 0} (ex : Execution M) where
  open ex use {
    run_input as g,
    code,
    moves,
    shares,
    IsCallableInFunctions as callable,
    who as w,
    IsReadable as R,
    operations as ops,
    relation as rel,
    free,
  }

  abbrev p : Program
  p = g.program

  -- the machine calls a function as the meaning does
  pub record CallsMeet (call : Calls) : Type 0 where
    pub proof : (f : ℕ) (args : Actuals) (b : Block) (sc : List Scope) (q k : ℕ) (stack : List Entry)
        (js : List FramePair)
        (o : LocalState) (s : Store) (n : M) → rel.Agrees js o s n → P ex sc js (In_call f args)
        → CallAt p moves shares (CodeAt code) (HasFork code) (HasWords code) callable sc q f b
        → ((x : ℕ) × (b.answer ≡ Some x)) → sort p k ≡ Ordinals
        → (gs : List ArgumentValue) (es : List Entry) → GivensAre rel p js b.formals gs es
        → AreArgumentsOf p (sources js) args gs
        → G ex js (m.At q (pushed es stack) n) o s (q + 1) (Top ex stack) (St ex k) (call f gs)

  -- it is no index
  pub target_gives : {js : List FramePair} {o : LocalState} {s : Store} {c : Config M} {n : M} (q k : ℕ)
      (stack : List Entry)
      (x : ℕ) (ss : Selectors) (pl : Place) (a : Ptr) → RunsTo ops code c (m.At q (m.Pointer a ∷ stack) n)
      → rel.Agrees js o s n → PlaceIs ex js x k pl a
      → IsTarget p moves shares (CodeAt code) (HasFork code) (HasWords code) callable (Entire x ss)
      → G ex js c o s q (λ (b : Address) (u : Ptr). m.Pointer u ∷ stack)
      (λ b u. (b.kind ≡ k) × rel.Points js b u × R b.spot × (location_of p (sources js) x ≡ Some b.spot))
      (address_of g pl)
  target_gives q k stack x ss (AtAddress b) a c t pi h = gives_give ops rel w code b a c t pi
  target_gives q k stack x ss (Fixed z) a c t (_, _, (v, known, role_is)) (target, target_known, no_index) =
      let e = same_some target v target_known known in
      absurd (subst NoIndex (ap (λ (y : Variable). y.role) e ∙ role_is) no_index)

  -- the input is variable 0
  pub at_console : (js : List FramePair) (x : ℕ) → (v : Variable) × (slice_get p.variables x ≡ Some v)
      × (v.role ≡ role.Console) → location_of p (sources js) x ≡ Some (console x)
  at_console js x c = ap (location_at (sources js) x) c.1 ∙ ap (location_by (sources js) x c.0) c.2

  input_read : {Here : Use → Type 0} (sc : List Scope) (js : List FramePair) → P ex sc js Here → Here (Seen 0) → R Input
  input_read sc js pl a = pl.sound.allowed [] (Seen 0) a 0 Input (refl, at_console js 0 free.input)

  mutual
    pub value_gives : (call : Calls) → CallsMeet call
        → (e : Expr) (sc : List Scope) (q : ℕ) (stack : List Entry) (js : List FramePair) (o : LocalState) (s : Store)
        (n : M)
        → rel.Agrees js o s n → P ex sc js (In_expr e)
        → ValueAt p moves shares (CodeAt code) (HasFork code) (HasWords code) callable sc q e
        → G ex js (m.At q stack n) o s (after_value q e) (Top ex stack) (St ex (kind_of e)) (value g call e)
    value_gives call ok (Typed k form) sc q stack js o s n t pl h = form_gives call ok k form sc q stack js o s n t pl h

    pub form_gives : (call : Calls) → CallsMeet call
        → (k : ℕ) (form : ExprForm) (sc : List Scope) (q : ℕ) (stack : List Entry) (js : List FramePair)
        (o : LocalState)
        (s : Store) (n : M) → rel.Agrees js o s n → P ex sc js (In_form form)
        → FormAt p moves shares (CodeAt code) (HasFork code) (HasWords code) callable sc q k form
        → G ex js (m.At q stack n) o s (after_form q form) (Top ex stack) (St ex k) (form_value g call k form)
    form_gives call ok k (Number v) sc q stack js o s n t pl (instr, result) =
        worked_gives ex (m.At q stack n) (q + 1) k stack n t (_, _, t) result (Yields v) (at_one ex q stack n instr)
    form_gives call ok k (Read (Entire x ss)) sc q stack js o s n t pl (place, read) =
        gives_bind ops rel w code (place_gives call ok (Entire x ss) k sc q stack js o s n t (within (λ u. inr) pl)
        (may_see ex sc js x pl (inl refl)) place)
        (λ z a o1 s1 n1 t1 pi. read_gives ex (after_selectors (q + 1) ss) x k stack z a n1 t1 pi read)
    form_gives call ok k (Unary op a) sc q stack js o s n t pl (operand, sort_is, result, instr) =
        with_ordinal ex (kind_of a) stack _ _ sort_is (value_gives call ok a sc q stack js o s n t pl operand)
        (λ v o1 s1 n1 t1. unary_gives ex op (after_value q a) k stack v n1 t1 result instr)
    form_gives call ok k (Binary op a b) sc q stack js o s n t pl (left, right, instr, sorts, result) =
        gives_bind ops rel w code (value_gives call ok a sc q stack js o s n t (within (λ u. inl) pl) left)
        (λ u d o1 s1 n1 t1 x1.
        gives_bind ops rel w code (value_gives call ok b sc (after_value q a) (d ∷ stack) js o1 s1 n1 t1
        (within (λ u. inr) pl) right) (λ v e o2 s2 n2 t2 x2.
        binary_gives ex op (after_value (after_value q a) b) k (kind_of a) (kind_of b) stack (sort p (kind_of a))
        (sort p (kind_of b)) u v d e n2 t2 x1 x2 sorts result instr))
    form_gives call ok k (Apply f args) sc q stack js o s n t pl (b, given, calls, answer, result) =
        gives_bind ops rel w code (actuals_gives call ok args b.formals sc q stack js o s n t (within (λ u. inr) pl)
        given) (λ gs es o1 s1 n1 t1 x1.
        ok.proof f args b sc (after_actuals q args) k stack js o1 s1 n1 t1 pl calls answer result gs es x1.0 x1.1)
    form_gives call ok k (Standard f a) sc q stack js o s n t pl (type, type_is, operand, sort_is, result, instr) =
        with_ordinal ex (kind_of a) stack _ _ sort_is (value_gives call ok a sc q stack js o s n t pl operand)
        (λ v o1 s1 n1 t1.
        gives_known ops rel w code (λ ty. standard_op f ty v) type (kind_known ex k k type refl type_is)
        (standard_gives ex f (after_value q a) k type stack v n1 t1 result instr))
    form_gives call ok k (AtInput f) sc q stack js o s n t pl (instr, result) =
        gives_known ops rel w code (input_op f) (rest_of ex s) (left_known ex)
        (input_gives ex f q k stack n t (input_read sc js pl refl) result instr)

    pub place_gives : (call : Calls) → CallsMeet call
        → (v : Var) (k : ℕ) (sc : List Scope) (q : ℕ) (stack : List Entry) (js : List FramePair) (o : LocalState)
        (s : Store)
        (n : M) → rel.Agrees js o s n → P ex sc js (In_selectors (selectors_of v)) → MayRead ex sc js (variable_of v)
        → PlaceAt p moves shares (CodeAt code) (HasFork code) (HasWords code) callable sc q v k
        → G ex js (m.At q stack n) o s (after_var q v) (PlaceTop ex stack)
        (PlaceIs ex js (variable_of v) k) (place g call v)
    place_gives call ok (Entire x ss) k sc q stack js o s n t pl may (whole, variable, selected) =
        gives_bind ops rel w code (var_gives ex sc q x whole stack n t pl.chain may variable)
        (λ z a o1 s1 n1 t1 pi. selected_gives call ok ss x whole k sc (q + 1) stack z a js o1 s1 n1 t1 pl pi selected)

    selected_gives : (call : Calls) → CallsMeet call
        → (ss : Selectors) (x k k2 : ℕ) (sc : List Scope) (q : ℕ) (stack : List Entry) (z : Place) (a : Ptr)
        (js : List FramePair) (o : LocalState) (s : Store) (n : M) → rel.Agrees js o s n → P ex sc js (In_selectors ss)
        → PlaceIs ex js x k z a
        → SelectedAt p moves shares (CodeAt code) (HasFork code) (HasWords code) callable sc q ss k k2
        → G ex js (m.At q (m.Pointer a ∷ stack) n) o s (after_selectors q ss) (PlaceTop ex stack) (PlaceIs ex js x k2)
        (component_place g call ss z)
    selected_gives call ok Whole x k k2 sc q stack z a js o s n t pl pi h =
        gives_give ops rel w code z a (stays ops rel w code _) t (subst (λ y. PlaceIs ex js x y z a) h pi)
    selected_gives call ok (Select (Index e) rest) x k k2 sc q stack z a js o s n t pl pi
        (low, high, index, element, type_is, value, sort_is, instr, further) =
        with_ordinal ex (kind_of e) (m.Pointer a ∷ stack) _ _ sort_is
        (value_gives call ok e sc q (m.Pointer a ∷ stack) js o s n t (within (λ u. inl) pl) value) (λ v o1 s1 n1 t1.
        gives_bind ops rel w code (indexed_gives ex (after_value q e) x k low high index element stack z a v n1 t1 pi
        type_is instr)
        (λ z2 a2 o2 s2 n2 t2 pi2.
        selected_gives call ok rest x element k2 sc (after_value q e + 1) stack z2 a2 js o2 s2 n2 t2
        (within (λ u. inr) pl)
        pi2 further))
    selected_gives call ok (Select (Field f) rest) x k k2 sc q stack z a js o s n t pl pi
        (fields, name, type, fields_are, field_is, instr, further) =
        gives_bind ops rel w code (fielded_gives ex q x k f type name fields stack z a n t pi fields_are field_is instr)
        (λ z2 a2 o2 s2 n2 t2 pi2.
        selected_gives call ok rest x type k2 sc (q + 1) stack z2 a2 js o2 s2 n2 t2 pl pi2 further)

    pub actuals_gives : (call : Calls) → CallsMeet call
        → (args : Actuals) (xs : List ℕ) (sc : List Scope) (q : ℕ) (stack : List Entry) (js : List FramePair)
        (o : LocalState)
        (s : Store) (n : M) → rel.Agrees js o s n → P ex sc js (In_actuals args)
        → ActualsAt p moves shares (CodeAt code) (HasFork code) (HasWords code) callable sc q args xs
        → G ex js (m.At q stack n) o s (after_actuals q args)
        (λ (gs : List ArgumentValue) (es : List Entry). pushed es stack)
        (λ gs es. GivensAre rel p js xs gs es × AreArgumentsOf p (sources js) args gs) (actuals g call args)
    actuals_gives call ok Nothing [] sc q stack js o s n t pl h =
        gives_give ops rel w code [] [] (stays ops rel w code _) t (tt, tt)
    actuals_gives call ok Nothing (x ∷ xs) sc q stack js o s n t pl h = absurd h
    actuals_gives call ok (Pass a rest) [] sc q stack js o s n t pl h = absurd h
    actuals_gives call ok (Pass (ByValue e) rest) (x ∷ xs) sc q stack js o s n t pl
        (value, (formal, known, kind_is, role_is), others) =
        gives_bind ops rel w code (value_gives call ok e sc q stack js o s n t (within (λ u. inl) pl) value)
        (λ v en o1 s1 n1 t1 x1.
        gives_bind ops rel w code (actuals_gives call ok rest xs sc (after_value q e) (en ∷ stack) js o1 s1 n1 t1
        (within (λ u. inr) pl) others) (λ gs es o2 s2 n2 t2 x2.
        gives_give ops rel w code (ValueOf v ∷ gs) (en ∷ es) (stays ops rel w code _) t2
        (((formal, known, (role_is, subst (λ y. StackHolds rel p (sort p y) y v en) (sym kind_is) x1)), x2.0), x2.1)))
    actuals_gives call ok (Pass (ByReference (Entire y ss)) rest) (x ∷ xs) sc q stack js o s n t pl
        (kd, place, target, (formal, known, kind_is, role_is), others) =
        gives_bind ops rel w code (place_gives call ok (Entire y ss) kd sc q stack js o s n t
        (within (λ u a. inl (inr a)) pl) (may_aim ex sc js y ss pl (inl (inl refl)) target) place)
        (λ z a o1 s1 n1 t1 pi.
        gives_bind ops rel w code (target_gives (after_selectors (q + 1) ss) kd stack y ss z a (stays ops rel w code _)
        t1 pi target) (λ b u o2 s2 n2 t2 (is_kind, points, _, located).
        gives_bind ops rel w code (actuals_gives call ok rest xs sc (after_selectors (q + 1) ss) (m.Pointer u ∷ stack)
        js o2 s2 n2 t2 (within (λ u. inr) pl) others) (λ gs es o3 s3 n3 t3 x3.
        gives_give ops rel w code (PlaceOf b ∷ gs) (m.Pointer u ∷ es) (stays ops rel w code _) t3
        (((formal, known, (role_is, is_kind ∙ sym kind_is, (u, refl, points))), x3.0), (located, x3.1)))))

  -- the address of a target
  pub address_gives : (call : Calls) → CallsMeet call
      → (v : Var) (k : ℕ) (sc : List Scope) (q : ℕ) (stack : List Entry) (js : List FramePair) (o : LocalState)
      (s : Store) (n : M)
      → rel.Agrees js o s n → P ex sc js (In_target v)
      → PlaceAt p moves shares (CodeAt code) (HasFork code) (HasWords code) callable sc q v k
      → IsTarget p moves shares (CodeAt code) (HasFork code) (HasWords code) callable v
      → G ex js (m.At q stack n) o s (after_var q v) (λ (b : Address) (u : Ptr). m.Pointer u ∷ stack)
      (λ b u. (b.kind ≡ k) × rel.Points js b u × R b.spot × (location_of p (sources js) (variable_of v) ≡ Some b.spot))
      (address g call v)
  address_gives call ok (Entire x ss) k sc q stack js o s n t pl h ht =
      gives_bind ops rel w code (place_gives call ok (Entire x ss) k sc q stack js o s n t (within (λ u. inr) pl)
      (may_aim ex sc js x ss pl (inl refl) ht) h)
      (λ z a o1 s1 n1 t1 pi. target_gives (after_selectors (q + 1) ss) k stack x ss z a (stays ops rel w code _) t1
      pi ht)

  -- an ordinal
  pub ordinal_gives : (call : Calls) → CallsMeet call
      → (e : Expr) (sc : List Scope) (q : ℕ) (stack : List Entry) (js : List FramePair) (o : LocalState) (s : Store)
      (n : M)
      → rel.Agrees js o s n → P ex sc js (In_expr e)
      → OrdinalAt p moves shares (CodeAt code) (HasFork code) (HasWords code) callable sc q e
      → G ex js (m.At q stack n) o s (after_value q e) (λ (v : ℤ) (u : Unit {0}). m.Number v ∷ stack) (λ v u. Unit {0})
      (ordinal_of g call e)
  ordinal_gives call ok e sc q stack js o s n t pl h =
      as_ordinal_gives ex (kind_of e) stack (value g call e) h.1 (value_gives call ok e sc q stack js o s n t pl h.0)
