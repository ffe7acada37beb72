-- An assignment, of one cell and of many: its step of the meaning is a stretch of the code.
use Rattle.std.proofs.Common.{◌≡◌, inl, inr, ℕ, ◌+◌, List, ◌∷◌, Option, Some, None, true, ◌&&◌, refl, sym, ap, ◌∙◌}
use Rattle.std.proofs.Common.{subst}
use Rattle.std.specs.Prelude.{slice_get}
use Rattle.std.proofs.lemmas.Bool.{and_from}
use Rattle.sp_tree.specs.declared.checked.KindOf.{KindOf}
use Rattle.sp_tree.specs.declared.checked.KindOf.TheVariants as kind
use Rattle.sp_tree.specs.Plain.{ExprForm, Number, Read, Unary, Binary, Apply, Standard, AtInput, Var, Entire, Program}
use Rattle.sp_tree.specs.Uses.{In_form}
use Rattle.sp_cell.specs.declared.spot.Address.{Address as Ptr}
use Rattle.sp_meaning.specs.Maps.{at_key}
use Rattle.sp_meaning.specs.Values.{Value, get_at}
use Rattle.sp_meaning.specs.LocalWork.{Tree, Address, LocalState, Item, bind, give, fetch, assign, content_with}
use Rattle.sp_meaning.specs.LocalWork.{same_loc, value_in}
use Rattle.sp_meaning.specs.Eval.{Place, AtAddress, Fixed, Calls, checked_value, read_at, form_value, place}
use Rattle.sp_meaning.specs.Actions.{Stepped}
use Rattle.sp_meaning.specs.Run.{Store}
use Rattle.sp_code.specs.declared.instr.Instr.TheVariants as i
use Rattle.sp_code.specs.Machine.{Entry, Config, Goes, next_step}
use Rattle.sp_code.specs.Machine as m
use Rattle.sp_code.specs.Scopes.{Sort, Ordinals, Channels, Many, NoSort, Scope, sort, sort_by, size}
use Rattle.sp_code.specs.Places.{after_form, after_var, after_right}
use Rattle.sp_code.specs.CodeOfTree.{CodeAt, HasFork, HasWords, RightAt}
use Rattle.sp_codegen.specs.FramePairs.{FramePair}
use Rattle.sp_codegen.specs.Executions.{Execution}
use Rattle.sp_codegen.specs.Relation.{StackHolds, OneCell, cell_of}
use Rattle.sp_codegen.proofs.Runs.{HasKnownValue, stays, goes, known_bind, holds_when}
use Rattle.sp_codegen.proofs.Values.{form_gives, place_gives}
use Rattle.sp_codegen.proofs.Follows.{makes_bind, makes_known, makes_went}
use Rattle.sp_codegen.proofs.StepForms.{G, K, After, Pl, Oks, makes_assoc}
use Rattle.sp_codegen.proofs.ValueForms.{within, may_see, at_one, kind_known, fetch_known, PlaceIs, IsMany}

module _ {M : Type 0} (ex : Execution M) where
  open ex use {
    run_input as g,
    code,
    moves,
    shares,
    IsCallableInFunctions as callable,
    who as w,
    IsReadable as R,
    operations as ops,
    relation as rel,
    laws as law,
  }

  abbrev p : Program
  p = g.program

  -- one cell is assigned
  store_one : (q : ℕ) (z : Sort) (k : ℕ) (v : Value) (e : Entry) (a : Ptr) (stack : List Entry) (n : M)
      → StackHolds rel p z k v e → OneCell z → ops.has a 1 n ≡ true → slice_get code.instrs q ≡ Some i.Store
      → next_step ops code (m.At q (e ∷ m.Pointer a ∷ stack) n) ≡ Goes (m.At (q + 1) stack (ops.put a (cell_of e) n))
  store_one q Ordinals k v e a stack n (_, _, entry_is) y ha h =
      subst (λ u. next_step ops code (m.At q (u ∷ m.Pointer a ∷ stack) n)
      ≡ Goes (m.At (q + 1) stack (ops.put a (cell_of u) n))) (sym entry_is)
      (at_one ex q _ n h ∙ holds_when (ops.has a 1 n) _ ha)
  store_one q Channels k v e a stack n (_, _, _, entry_is, _) y ha h =
      subst (λ u. next_step ops code (m.At q (u ∷ m.Pointer a ∷ stack) n)
      ≡ Goes (m.At (q + 1) stack (ops.put a (cell_of u) n))) (sym entry_is)
      (at_one ex q _ n h ∙ holds_when (ops.has a 1 n) _ ha)
  store_one q Many k v e a stack n x y ha h = absurd y
  store_one q NoSort k v e a stack n x y ha h = absurd y

  pub assign_gives : {fs : List FramePair} {c : Config M} {o : LocalState} {s : Store} {n : M} (q : ℕ) (a : Address)
      (t : Ptr)
      (v : Value) (e : Entry) (stack : List Entry) → rel.Agrees fs o s n → rel.Points fs a t → R a.spot
      → OneCell (sort p a.kind) → StackHolds rel p (sort p a.kind) a.kind v e
      → next_step ops code c ≡ Goes (m.At q stack (ops.put t (cell_of e) n))
      → G ex fs c o s q (λ (u : Unit {0}) (z : Unit {0}). stack) (λ u z. Unit {0}) (assign a v)
  assign_gives {n = n} q a t v e stack st pt r oc sd ge =
      record { proof = (tt, ops.put t (cell_of e) n, goes ops rel w code ge, law.store st a t pt r oc v e sd, tt) }

  -- an array's or a record's type
  many_kind : (y : Option KindOf) → sort_by y ≡ Many → (ty : KindOf) × (y ≡ Some ty)
      × ((v : Value) (o : LocalState) (s : Store) → HasKnownValue ops rel w code o s (checked_value ty v) v)
  many_kind None e = absurd (subst IsMany (sym e) tt)
  many_kind (Some kind.Integer) e = absurd (subst IsMany (sym e) tt)
  many_kind (Some kind.Boolean) e = absurd (subst IsMany (sym e) tt)
  many_kind (Some kind.Char) e = absurd (subst IsMany (sym e) tt)
  many_kind (Some (kind.Enumeration n)) e = absurd (subst IsMany (sym e) tt)
  many_kind (Some (kind.Array low high index element)) e =
      (kind.Array low high index element, refl, λ v o s. record { proof = refl })
  many_kind (Some (kind.Fields fs)) e = (kind.Fields fs, refl, λ v o s. record { proof = refl })
  many_kind (Some (kind.Channel ks)) e = absurd (subst IsMany (sym e) tt)

  -- assignment
  pub assign_makes : (call : Calls) → Oks ex call
      → (end : ℕ) (base : List Entry) (below : List FramePair) (z : Sort) (k : ℕ)
      (form : ExprForm) (sc : List Scope) (q : ℕ) (stack : List Entry) (todo : List Item) (a : Address) (u : Ptr)
      (fs : List FramePair) (o : LocalState) (s : Store) (n : M) → rel.Agrees fs o s n → Pl ex sc fs (In_form form)
      → sort p k ≡ z
      → a.kind ≡ k → rel.Points fs a u → R a.spot
      → RightAt p moves shares (CodeAt code) (HasFork code) (HasWords code) callable sc q k z form
      → After ex end base below todo fs (after_right q z form + 1) stack
      → K ex (m.At q (m.Pointer u ∷ stack) n) o s (After ex end base below)
      (bind (form_value g call k form) (λ v. bind (assign a v) (λ x. give (Stepped todo))))
  assign_makes call ok end base below Ordinals k form sc q stack todo a u fs o s n t pl ez ek pt ra h fo =
      makes_bind ex _ (form_gives ex call ok k form sc q (m.Pointer u ∷ stack) fs o s n t pl h.0) (λ v e o1 s1 n1 t1 x.
      makes_bind ex _ (assign_gives (after_form q form + 1) a u v e stack t1 pt ra
      (subst OneCell (sym (ap (sort p) ek ∙ ez)) tt) (subst (λ y. StackHolds rel p (sort p y) y v e) (sym ek) x)
      (store_one (after_form q form) Ordinals k v e u stack n1 (subst (λ y. StackHolds rel p y k v e) ez x) tt
      (law.has_one t1 a u pt ra) h.1)) (λ x1 x2 o2 s2 n2 t2 x3.
      makes_went ex todo fs (after_form q form + 1) stack n2 (stays ops rel w code _) t2 fo))
  assign_makes call ok end base below Channels k form sc q stack todo a u fs o s n t pl ez ek pt ra h fo =
      makes_bind ex _ (form_gives ex call ok k form sc q (m.Pointer u ∷ stack) fs o s n t pl h.0) (λ v e o1 s1 n1 t1 x.
      makes_bind ex _ (assign_gives (after_form q form + 1) a u v e stack t1 pt ra
      (subst OneCell (sym (ap (sort p) ek ∙ ez)) tt) (subst (λ y. StackHolds rel p (sort p y) y v e) (sym ek) x)
      (store_one (after_form q form) Channels k v e u stack n1 (subst (λ y. StackHolds rel p y k v e) ez x) tt
      (law.has_one t1 a u pt ra) h.1)) (λ x1 x2 o2 s2 n2 t2 x3.
      makes_went ex todo fs (after_form q form + 1) stack n2 (stays ops rel w code _) t2 fo))
  assign_makes call ok end base below Many k (Read (Entire y ss)) sc q stack todo a u fs o s n t pl ez ek pt ra h fo =
      makes_assoc ex (place g call (Entire y ss)) (read_at g) _
      (makes_bind ex _ (place_gives ex call ok (Entire y ss) k sc q (m.Pointer u ∷ stack) fs o s n t
      (within (λ u. inr) pl) (may_see ex sc fs y pl (inl refl)) h.0)
      (λ pl b o1 s1 n1 t1 x. by_place pl b o1 s1 n1 t1 x))
    where
      v : Var
      v = Entire y ss

      by_place : (pl : Place) (b : Ptr) (o1 : LocalState) (s1 : Store) (n1 : M) → rel.Agrees fs o1 s1 n1
          → PlaceIs ex fs y k pl b → K ex (m.At (after_var q v) (m.Pointer b ∷ m.Pointer u ∷ stack) n1) o1 s1
          (After ex end base below) (bind (read_at g pl) (λ v. bind (assign a v) (λ x. give (Stepped todo))))
      by_place (Fixed z) b o1 s1 n1 t1 x = absurd (subst IsMany (sym ez ∙ x.0) tt)
      by_place (AtAddress c) b o1 s1 n1 t1 x =
          let ty = many_kind (slice_get p.kinds k) ez in
          let val = get_at c.path (value_in (s1 c.spot)) in
          let has_from : ops.has b (size p k) n1 ≡ true =
          subst (λ z. ops.has b (size p z) n1 ≡ true) x.0 (law.has t1 c b x.1 x.2) in
          let has_to : ops.has u (size p k) n1 ≡ true =
          subst (λ z. ops.has u (size p z) n1 ≡ true) ek (law.has t1 a u pt ra) in
          makes_known ex (λ v. bind (assign a v) (λ x. give (Stepped todo))) val
          (known_bind ops rel w code (λ y. bind (fetch c) (checked_value y)) ty.0 val
          (kind_known ex c.kind k ty.0 x.0 ty.1)
          (known_bind ops rel w code (checked_value ty.0) val val (fetch_known ex c) (ty.2 val o1 s1)))
          (record {
            proof = (
              m.At (after_var q v + 1) stack (ops.copy u b (size p k) n1),
              goes ops rel w code (at_one ex (after_var q v) _ n1 h.1
                  ∙ holds_when (ops.has b (size p k) n1 && ops.has u (size p k) n1) _ (and_from _ _ has_from has_to)),
              record {
                frames = fs;
                stand = subst (λ y. rel.Agrees fs o1 (at_key same_loc a.spot
                    (content_with a (s1 a.spot) (Tree (get_at c.path (value_in (s1 c.spot))))) s1)
                    (ops.copy u b (size p y) n1)) ek (law.copy t1 a c u b pt x.1 ra x.2 (ek ∙ sym x.0));
                follows = fo;
              },
            );
          })
  assign_makes call ok end base below Many k (Number v) sc q stack todo a u fs o s n t pl ez ek pt ra h fo = absurd h
  assign_makes call ok end base below Many k (Unary op e) sc q stack todo a u fs o s n t pl ez ek pt ra h fo = absurd h
  assign_makes call ok end base below Many k (Binary op d e) sc q stack todo a u fs o s n t pl ez ek pt ra h fo =
      absurd h
  assign_makes call ok end base below Many k (Apply f args) sc q stack todo a u fs o s n t pl ez ek pt ra h fo =
      absurd h
  assign_makes call ok end base below Many k (Standard f e) sc q stack todo a u fs o s n t pl ez ek pt ra h fo =
      absurd h
  assign_makes call ok end base below Many k (AtInput f) sc q stack todo a u fs o s n t pl ez ek pt ra h fo = absurd h
  assign_makes call ok end base below NoSort k form sc q stack todo a u fs o s n t pl ez ek pt ra h fo = absurd h
