-- What a pass adds to the sets, part by part.
use Rattle.std.proofs.Common.{◌≡◌, ◌↔◌, ◌⊎◌, ℕ, zero, suc, ◌<◌, ◌≤◌, true, false, ◌==◌, ◌||◌, List, [], ◌∷◌, map, drop}
use Rattle.std.proofs.Common.{length, get_or, refl, sym, ap, subst, ◌∙◌, arith, inl, inr, ◌+◌, add-one, Result, Ok, Err}
use Rattle.std.proofs.Common.{Bool, OnOk, is_err, true≢false, eqb-true, eq-eqb}
use Rattle.std.proofs.lemmas.Bool.{or_cases, or_parts}
use Rattle.sp_base.proofs.Facts.{or_from_either}
use Rattle.sp_tree.specs.declared.checked.Actual.{Actual}
use Rattle.sp_tree.specs.declared.checked.Selector.{Selector}
use Rattle.sp_tree.specs.PlainChecked as p
use Rattle.sp_tree.specs.CheckedOf.{selector_of, selectors, actual_of, actuals}
use Rattle.sp_tree.specs.Bare.{bare_selectors, bare_actuals}
use Rattle.sp_tree.specs.Plain.{Actuals, Stmt, Stmts}
use Rattle.sp_tree.specs.Uses.{Use, Target, Seen, CallOf, ParallelOf, ForallOf, Stop, IsOther, In_selectors, In_actuals}
use Rattle.sp_varsets.specs.declared.uses.Uses.{Uses}
use Rattle.sp_varsets.specs.declared.var_set.VarSet.{VarSet}
use Rattle.sp_varsets.specs.Members.{has}
use Rattle.sp_varsets.specs.AddedUses.{AddsUses, AreEmpty, AreUnions, IsUnion, IsWithout, In_selector, In_actual}

-- a step from A to B, which adds H, and one from B to C, which adds K
then : {A B C H K : Type 0} → B ↔ (A ⊎ H) → C ↔ (B ⊎ K) → C ↔ (A ⊎ (H ⊎ K))
then f g = (
  λ c. elim (g.0 c) [ inl b ↦ elim (f.0 b) [ inl a ↦ inl a | inr h ↦ inr (inl h) ] | inr k ↦ inr (inr k) ],
  λ s. elim s [
    | inl a ↦ g.1 (inl (f.1 (inl a)))
    | inr hk ↦ elim hk
        [ inl h ↦ g.1 (inl (f.1 (inr h))) | inr k ↦ g.1 (inr k) ]
  ],
)

some_of : {A : Type 0} {H K : A → Type 0} → {B C : Type 0} → C ↔ (B ⊎ (((a : A) × H a) ⊎ ((a : A) × K a))) → C
    ↔ (B ⊎ ((a : A) × (H a ⊎ K a)))
some_of f = (
  λ c. elim (f.0 c) [ inl b ↦ inl b | inr s ↦ elim s [ inl h ↦ inr (h.0, inl h.1) | inr k ↦ inr (k.0, inr k.1) ] ],
  λ s. elim s [
    | inl b ↦ f.1 (inl b)
    | inr h ↦ elim h.1
        [ inl x ↦ f.1 (inr (inl (h.0, x))) | inr y ↦ f.1 (inr (inr (h.0, y))) ]
  ],
)

none_more : {A : Type 0} {H : Type 0} → (H → ⊥) → A ↔ (A ⊎ H)
none_more n = (λ a. inl a, λ s. elim s [ inl a ↦ a | inr h ↦ absurd (n h) ])

turned : {A B H K : Type 0} → B ↔ (A ⊎ H) → (H → K) → (K → H) → B ↔ (A ⊎ K)
turned f to from = (
  λ b. elim (f.0 b) [ inl a ↦ inl a | inr h ↦ inr (to h) ],
  λ s. elim s [ inl a ↦ f.1 (inl a) | inr k ↦ f.1 (inr (from k)) ],
)

pub adds_then : {a b c : Uses} {H K : Use → Type 0} → AddsUses a b H → AddsUses b c K → AddsUses a c (λ u. H u ⊎ K u)
adds_then f g = record {
  kept = λ k. f.kept (g.kept k);
  targets = λ k x. then (f.targets (g.kept k) x) (g.targets k x);
  expressions = λ k x. then (f.expressions (g.kept k) x) (g.expressions k x);
  calls = λ k x. some_of (then (f.calls (g.kept k) x) (g.calls k x));
  stops = λ k. then (f.stops (g.kept k)) (g.stops k);
}

pub adds_nothing : (a : Uses) (H : Use → Type 0) → ((u : Use) → H u → ⊥) → AddsUses a a H
adds_nothing a H n = record {
  kept = λ k. k;
  targets = λ k x. none_more (n (Target x));
  expressions = λ k x. none_more (n (Seen x));
  calls = λ k x. none_more (λ h. n (CallOf x h.0) h.1);
  stops = λ k. none_more (n Stop);
}

-- what was added is still there where the uses may be lost later
pub adds_unless : {a b : Uses} {H : Use → Type 0} (failed : Bool) → AddsUses a b H
    → AddsUses a (record {
      targets = b.targets;
      expressions = b.expressions;
      calls = b.calls;
      stops = b.stops;
      is_lost = b.is_lost || failed;
    }) H
adds_unless {a} {b} failed f = record {
  kept = λ k. f.kept (or_parts b.is_lost failed k).0;
  targets = λ k. f.targets (or_parts b.is_lost failed k).0;
  expressions = λ k. f.expressions (or_parts b.is_lost failed k).0;
  calls = λ k. f.calls (or_parts b.is_lost failed k).0;
  stops = λ k. f.stops (or_parts b.is_lost failed k).0;
}

pub adds_as : (a b : Uses) (H K : Use → Type 0) → AddsUses a b H → ((u : Use) → H u → K u) → ((u : Use) → K u → H u)
    → AddsUses a b K
adds_as a b H K f to from = record {
  kept = f.kept;
  targets = λ k x. turned (f.targets k x) (to (Target x)) (from (Target x));
  expressions = λ k x. turned (f.expressions k x) (to (Seen x)) (from (Seen x));
  calls = λ k x. turned (f.calls k x) (λ h. (h.0, to (CallOf x h.0) h.1)) (λ h. (h.0, from (CallOf x h.0) h.1));
  stops = λ k. turned (f.stops k) (to Stop) (from Stop);
}

-- one member more
pub put_in : (old new : VarSet) (v : ℕ) → ((x : ℕ) → has new x ≡ (v == x) || has old x) → (x : ℕ) → (has new x ≡ true)
    ↔ ((has old x ≡ true) ⊎ (x ≡ v))
put_in old new v e x = (
  λ h. elim (or_cases (v == x) (has old x) (sym (e x) ∙ h)) [ inl s ↦ inr (sym (eqb-true v x s)) | inr o ↦ inl o ],
  λ s. elim s [
    | inl o ↦ e x ∙ or_from_either (v == x) (has old x) (inr o)
    | inr i ↦ e x
        ∙ or_from_either (v == x) (has old x) (inl (eq-eqb v x (sym i)))
  ],
)

-- what a call did that did not fail
pub went_well : {E P : Type 0} (r : Result (Unit {0}) E) (failed : Bool) → OnOk r P → failed ≡ is_err r → failed ≡ false
    → P
went_well (Ok v) failed h e k = h
went_well (Err x) failed h e k = absurd (true≢false (sym e ∙ k))

-- a member was put into one set of the uses, unless that failed
module _ (old : Uses) (set : VarSet) (failed : Bool) where
  held : (old.is_lost || failed) ≡ false → (old.is_lost ≡ false) × (failed ≡ false)
  held k = or_parts old.is_lost failed k

  pub target_added : (v : ℕ) → (failed ≡ false → (x : ℕ) → has set x ≡ (v == x) || has old.targets x)
      → AddsUses old (record {
        targets = set;
        expressions = old.expressions;
        calls = old.calls;
        stops = old.stops;
        is_lost = old.is_lost || failed;
      }) (λ u. u ≡ Target v)
  target_added v e = record {
    kept = λ k. (held k).0;
    targets = λ k x. turned (put_in old.targets set v (e (held k).1) x) (λ i. ap (λ y. Target y) i) (λ i. cc);
    expressions = λ k x. none_more (λ i. cc);
    calls = λ k x. none_more (λ i. let e = i.1 in cc);
    stops = λ k. none_more (λ i. cc);
  }

  pub seen_added : (v : ℕ) → (failed ≡ false → (x : ℕ) → has set x ≡ (v == x) || has old.expressions x)
      → AddsUses old (record {
        targets = old.targets;
        expressions = set;
        calls = old.calls;
        stops = old.stops;
        is_lost = old.is_lost || failed;
      }) (λ u. u ≡ Seen v)
  seen_added v e = record {
    kept = λ k. (held k).0;
    targets = λ k x. none_more (λ i. cc);
    expressions = λ k x. turned (put_in old.expressions set v (e (held k).1) x) (λ i. ap (λ y. Seen y) i) (λ i. cc);
    calls = λ k x. none_more (λ i. let e = i.1 in cc);
    stops = λ k. none_more (λ i. cc);
  }

  pub call_added : (v : ℕ) (args : Actuals) → (failed ≡ false → (x : ℕ) → has set x ≡ (v == x) || has old.calls x)
      → AddsUses old (record {
        targets = old.targets;
        expressions = old.expressions;
        calls = set;
        stops = old.stops;
        is_lost = old.is_lost || failed;
      }) (λ u. u ≡ CallOf v args)
  call_added v args e = record {
    kept = λ k. (held k).0;
    targets = λ k x. none_more (λ i. cc);
    expressions = λ k x. none_more (λ i. cc);
    calls = λ k x. turned (put_in old.calls set v (e (held k).1) x) (λ i. (args, ap (λ y. CallOf y args) i))
        (λ i. let e = i.1 in cc);
    stops = λ k. none_more (λ i. cc);
  }

  pub stopped : (failed ≡ false → (x : ℕ) → has set x ≡ (0 == x) || has old.stops x)
      → AddsUses old (record {
        targets = old.targets;
        expressions = old.expressions;
        calls = old.calls;
        stops = set;
        is_lost = old.is_lost || failed;
      }) (λ u. u ≡ Stop)
  stopped e = record {
    kept = λ k. (held k).0;
    targets = λ k x. none_more (λ i. cc);
    expressions = λ k x. none_more (λ i. cc);
    calls = λ k x. none_more (λ i. let e = i.1 in cc);
    stops = λ k. turned (put_in old.stops set 0 (e (held k).1) 0) (λ i. refl) (λ i. refl);
  }

-- a set and all of another
pub union_is : (old other new : VarSet) → ((x : ℕ) → has new x ≡ has old x || has other x) → IsUnion old other new
union_is old other new e x = (
  λ h. or_cases (has old x) (has other x) (sym (e x) ∙ h),
  λ s. e x ∙ or_from_either (has old x) (has other x) s,
)

-- of what makes uses or bodies lost, none is there
pub unless_lost : (l m f1 f2 f3 f4 : Bool) → (((((l || m) || f1) || f2) || f3) || f4) ≡ false
    → ((l ≡ false) × (m ≡ false)) × (f1 ≡ false) × (f2 ≡ false) × (f3 ≡ false) × (f4 ≡ false)
unless_lost l m f1 f2 f3 f4 k =
    let (k3, e4) = or_parts ((((l || m) || f1) || f2) || f3) f4 k in
    let (k2, e3) = or_parts (((l || m) || f1) || f2) f3 k3 in
    let (k1, e2) = or_parts ((l || m) || f1) f2 k2 in
    let (k0, e1) = or_parts (l || m) f1 k1 in
    (or_parts l m k0, e1, e2, e3, e4)

pub unions : (a b : Uses) (targets expressions calls stops : VarSet) (f1 f2 f3 f4 : Bool)
    → (f1 ≡ false → IsUnion a.targets b.targets targets)
    → (f2 ≡ false → IsUnion a.expressions b.expressions expressions)
    → (f3 ≡ false → IsUnion a.calls b.calls calls) → (f4 ≡ false → IsUnion a.stops b.stops stops)
    → AreUnions a b (record {
      targets = targets;
      expressions = expressions;
      calls = calls;
      stops = stops;
      is_lost = ((((a.is_lost || b.is_lost) || f1) || f2) || f3) || f4;
    })
unions a b targets expressions calls stops f1 f2 f3 f4 u1 u2 u3 u4 = record {
  kept = λ k. let (both, _, _, _, _) = unless_lost a.is_lost b.is_lost f1 f2 f3 f4 k in both;
  targets = λ k. let (_, e, _, _, _) = unless_lost a.is_lost b.is_lost f1 f2 f3 f4 k in u1 e;
  expressions = λ k. let (_, _, e, _, _) = unless_lost a.is_lost b.is_lost f1 f2 f3 f4 k in u2 e;
  calls = λ k. let (_, _, _, e, _) = unless_lost a.is_lost b.is_lost f1 f2 f3 f4 k in u3 e;
  stops = λ k. let (_, _, _, _, e) = unless_lost a.is_lost b.is_lost f1 f2 f3 f4 k in u4 e;
}

-- lists, item by item
selectors_step : (ss : List Selector) (i : ℕ) (s : Selector) → i < length ss → s ≡ get_or ss i s
    → selectors (map selector_of (drop i ss)) ≡ p.Select (selector_of s) (selectors (map selector_of (drop (suc i) ss)))
selectors_step [] i s h e = absurd (omega arith)
selectors_step (t ∷ ss) zero s h e = rw (sym e) refl
selectors_step (t ∷ ss) (suc i) s h e = selectors_step ss i s (omega arith) e

pub selectors_on : (ss : List Selector) (i : ℕ) (s : Selector) → i < length ss → s ≡ get_or ss i s
    → selectors (map selector_of (drop i ss)) ≡ p.Select (selector_of s) (selectors (map selector_of (drop (i + 1) ss)))
selectors_on ss i s h e = subst (λ j. selectors (map selector_of (drop i ss))
    ≡ p.Select (selector_of s) (selectors (map selector_of (drop j ss)))) (sym (add-one i)) (selectors_step ss i s h e)

pub selectors_end : (ss : List Selector) (i : ℕ) → length ss ≤ i → selectors (map selector_of (drop i ss)) ≡ p.Whole
selectors_end [] zero h = refl
selectors_end [] (suc i) h = refl
selectors_end (t ∷ ss) zero h = absurd (omega arith)
selectors_end (t ∷ ss) (suc i) h = selectors_end ss i (omega arith)

actuals_step : (ss : List Actual) (i : ℕ) (s : Actual) → i < length ss → s ≡ get_or ss i s
    → actuals (map actual_of (drop i ss)) ≡ p.Pass (actual_of s) (actuals (map actual_of (drop (suc i) ss)))
actuals_step [] i s h e = absurd (omega arith)
actuals_step (t ∷ ss) zero s h e = rw (sym e) refl
actuals_step (t ∷ ss) (suc i) s h e = actuals_step ss i s (omega arith) e

pub actuals_on : (ss : List Actual) (i : ℕ) (s : Actual) → i < length ss → s ≡ get_or ss i s
    → actuals (map actual_of (drop i ss)) ≡ p.Pass (actual_of s) (actuals (map actual_of (drop (i + 1) ss)))
actuals_on ss i s h e = subst (λ j. actuals (map actual_of (drop i ss))
    ≡ p.Pass (actual_of s) (actuals (map actual_of (drop j ss)))) (sym (add-one i)) (actuals_step ss i s h e)

pub actuals_end : (ss : List Actual) (i : ℕ) → length ss ≤ i → actuals (map actual_of (drop i ss)) ≡ p.Nothing
actuals_end [] zero h = refl
actuals_end [] (suc i) h = refl
actuals_end (t ∷ ss) zero h = absurd (omega arith)
actuals_end (t ∷ ss) (suc i) h = actuals_end ss i (omega arith)

pub select_adds : (a b c : Uses) (s : p.Selector) (rest : p.Selectors) → AddsUses a b (In_selector s)
    → AddsUses b c (In_selectors (bare_selectors rest)) → AddsUses a c (In_selectors (bare_selectors (p.Select s rest)))
select_adds a b c (p.Index e) rest f g = adds_then f g
select_adds a b c (p.Field n) rest f g = adds_as a c _ _ (adds_then f g)
    (λ u s. elim s [ inl h ↦ absurd h | inr h ↦ h ]) (λ u h. inr h)

pub pass_adds : (a b c : Uses) (s : p.Actual) (rest : p.Actuals) → AddsUses a b (In_actual s)
    → AddsUses b c (In_actuals (bare_actuals rest)) → AddsUses a c (In_actuals (bare_actuals (p.Pass s rest)))
pass_adds a b c (p.ByValue e) rest f g = adds_then f g
pass_adds a b c (p.ByReference v) rest f g = adds_then f g

-- what begins empty has what was added
gathered : (e m : VarSet) (x : ℕ) (H : Type 0) → has e x ≡ false → (has m x ≡ true) ↔ ((has e x ≡ true) ⊎ H)
    → (has m x ≡ true) ↔ H
gathered e m x H n f = (
  λ h. elim (f.0 h) [ inl o ↦ absurd (let no : false ≡ true = sym n ∙ o in cc) | inr k ↦ k ],
  λ k. f.1 (inr k),
)

pub record HasUses (m : Uses) (Here : Use → Type 0) : Type 0 where
  pub targets : (x : ℕ) → (has m.targets x ≡ true) ↔ Here (Target x)
  pub expressions : (x : ℕ) → (has m.expressions x ≡ true) ↔ Here (Seen x)
  pub calls : (f : ℕ) → (has m.calls f ≡ true) ↔ ((args : Actuals) × Here (CallOf f args))
  pub stops : (has m.stops 0 ≡ true) ↔ Here Stop

pub from_empty : {e m : Uses} {H : Use → Type 0} → AreEmpty e → AddsUses e m H → m.is_lost ≡ false → HasUses m H
from_empty n f k = record {
  targets = λ x. gathered _ _ x _ (n.targets x) (f.targets k x);
  expressions = λ x. gathered _ _ x _ (n.expressions x) (f.expressions k x);
  calls = λ x. gathered _ _ x _ (n.calls x) (f.calls k x);
  stops = gathered _ _ 0 _ (n.stops 0) (f.stops k);
}

joins : {A B C H : Type 0} → C ↔ (A ⊎ B) → B ↔ H → C ↔ (A ⊎ H)
joins f g = (
  λ c. elim (f.0 c) [ inl a ↦ inl a | inr b ↦ inr (g.0 b) ],
  λ s. elim s [ inl a ↦ f.1 (inl a) | inr h ↦ f.1 (inr (g.1 h)) ],
)

pub merged : {a m b : Uses} {H : Use → Type 0} → (m.is_lost ≡ false → HasUses m H) → AreUnions a m b → AddsUses a b H
merged f u = record {
  kept = λ k. (u.kept k).0;
  targets = λ k x. joins (u.targets k x) ((f (u.kept k).1).targets x);
  expressions = λ k x. joins (u.expressions k x) ((f (u.kept k).1).expressions x);
  calls = λ k x. joins (u.calls k x) ((f (u.kept k).1).calls x);
  stops = λ k. joins (u.stops k 0) (f (u.kept k).1).stops;
}

pub without : {m k : Uses} {H : Use → Type 0} (y : ℕ) → HasUses m H → IsWithout m.targets k.targets y
    → IsWithout m.expressions k.expressions y
    → k.calls ≡ m.calls → k.stops ≡ m.stops → HasUses k (λ u. H u × IsOther y u)
without {m} {k} {H} y f a s r t = record {
  targets = λ x. (
    λ h. let o = (a x).0 h in ((f.targets x).0 o.0, o.1),
    λ h. (a x).1 ((f.targets x).1 h.0, h.1),
  );
  expressions = λ x. (
    λ h. let o = (s x).0 h in ((f.expressions x).0 o.0, o.1),
    λ h. (s x).1 ((f.expressions x).1 h.0, h.1),
  );
  calls = λ x. (
    λ h. let o = (f.calls x).0 (ap (λ z. has z x) (sym r) ∙ h) in (o.0, (o.1, tt)),
    λ (args, (runs, _)). ap (λ z. has z x) r ∙ (f.calls x).1 (args, runs),
  );
  stops = (λ h. (f.stops.0 (ap (λ z. has z 0) (sym t) ∙ h), tt), λ h. ap (λ z. has z 0) t ∙ f.stops.1 h.0);
}

-- a fork is no use of a variable
pub splits_add : (a : Uses) (ss : Stmts) → AddsUses a a (λ u. u ≡ ParallelOf ss)
splits_add a ss = record {
  kept = λ k. k;
  targets = λ k x. none_more (λ i. cc);
  expressions = λ k x. none_more (λ i. cc);
  calls = λ k x. none_more (λ i. let e = i.1 in cc);
  stops = λ k. none_more (λ i. cc);
}

pub spreads_add : (a : Uses) (y : ℕ) (s : Stmt) → AddsUses a a (λ u. u ≡ ForallOf y s)
spreads_add a y s = record {
  kept = λ k. k;
  targets = λ k x. none_more (λ i. cc);
  expressions = λ k x. none_more (λ i. cc);
  calls = λ k x. none_more (λ i. let e = i.1 in cc);
  stops = λ k. none_more (λ i. cc);
}
