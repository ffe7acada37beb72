-- Rule V6 at one child: what the test finds is what the rule says.
use Rattle.std.proofs.Common.{◌≡◌, ◌⊎◌, inl, inr, ⊎_elim, refl, sym, ap, subst, ◌∙◌, ℕ, ◌+◌, ◌<◌, ◌==◌, List, [], ◌∷◌}
use Rattle.std.proofs.Common.{Option, Some, None, Bool, true, false, ◌&&◌, ◌||◌, length, arith, eqb-true}
use Rattle.std.specs.Prelude.{not, slice_get, IsSome}
use Rattle.std.specs.List.{list_any}
use Rattle.std.specs.Option.{is_some}
use Rattle.std.proofs.lemmas.Bool.{eq-eqb, and_from, and_parts, cases_Bool, false_from_ne_true, not-true, or_cases}
use Rattle.std.proofs.lemmas.Bool.{not_from_false, or_left, or_right}
use Rattle.std.proofs.lemmas.Option.{none-some, same_Some}
use Rattle.sp_base.proofs.Facts.{less_same_or_more, not_true_and_false}
use Rattle.sp_tree.specs.Interference.{IsMember, AllDifferent}
use Rattle.sp_tree.proofs.Members.{member_front, member_back, member_either}
use Rattle.sp_code.specs.declared.code.ChildTable.{ChildTable}
use Rattle.sp_verify_rules.specs.Effects.{CountsAsEffect, Loaded, handed_to}
use Rattle.sp_verify_rules.specs.Forks.{IsIllHanded}
use Rattle.sp_verify_rules.proofs.Lists.{different_front, different_back}
use Rattle.sp_verify_rules.proofs.Lists.{different_apart}
use Rattle.sp_verify_rules.proofs.FrameScopes.{different_join}
use Rattle.sp_verify_effects.specs.declared.child_effects.Before.{Before}
use Rattle.sp_verify_effects.specs.Sets.{has, with_all, with_index, all_new, meets, goes_beyond}
use Rattle.sp_verify_effects.specs.ChildEffects.{FailsAlone, StoresBeyond, LoadsBeyond, ClashesBefore, SomeHas, clashes}
use Rattle.sp_verify_effects.specs.ChildEffects.{fails_alone}
use Rattle.sp_verify_effects.specs.ChildEffects.{handed_keys, is_loose, known_keys, moved_keys, moved_to}
use Rattle.sp_verify_effects.specs.Befores.{IsBefore}
use Rattle.sp_verify_effects.proofs.Members.{all_here, all_in, all_kept, beyond_from, beyond_is, index_in, index_kept}
use Rattle.sp_verify_effects.proofs.Members.{meets_from, meets_is, new_from, new_is, one_here}

-- ---- lists

has_output : (xs : List ℕ) → list_any (λ y. y == 1) xs ≡ true → IsMember 1 xs
has_output [] e = absurd (cc e)
has_output (x ∷ xs) e = ⊎_elim (λ h. inl (sym (eqb-true x 1 h))) (λ h. inr (has_output xs h))
    (or_cases (x == 1) (list_any (λ y. y == 1) xs) e)

output_has : (xs : List ℕ) → IsMember 1 xs → list_any (λ y. y == 1) xs ≡ true
output_has [] h = absurd h
output_has (x ∷ xs) (inl e) = or_left (x == 1) (list_any (λ y. y == 1) xs) (eq-eqb x 1 (sym e))
output_has (x ∷ xs) (inr h) = or_right (x == 1) (list_any (λ y. y == 1) xs) (output_has xs h)

not_empty : (xs : List ℕ) → not (length xs == 0) ≡ true → xs ≡ [] → ⊥
not_empty xs e f = cc (sym (ap (λ (z : List ℕ). not (length z == 0)) f) ∙ e)

some_there : (xs : List ℕ) → (xs ≡ [] → ⊥) → not (length xs == 0) ≡ true
some_there [] h = absurd (h refl)
some_there (x ∷ xs) h =
    not_from_false (length (x ∷ xs) == 0)
    (false_from_ne_true (length (x ∷ xs) == 0)
    (λ e. let f = eqb-true (length (x ∷ xs)) 0 e in absurd (omega (arith, f))))

no_key : (x : ℕ) → has [] x ≡ true → ⊥
no_key x e = cc e

-- ---- what a child is handed, as keys

moved_member : (t : ChildTable) (x : ℕ) → has (moved_keys t) x ≡ true → IsMember x t.moved
moved_member t x e = ⊎_elim (λ h. absurd (no_key x h)) (λ h. h) (all_in [] t.moved x e)

handed_member : (t : ChildTable) (x : ℕ) → has (handed_keys t) x ≡ true → IsMember x (handed_to t)
handed_member t x e =
    ⊎_elim (λ h. member_front x t.moved t.shared (moved_member t x h)) (λ h. member_back x t.moved t.shared h)
    (all_in (moved_keys t) t.shared x e)

member_handed : (t : ChildTable) (x : ℕ) → IsMember x (handed_to t) → has (handed_keys t) x ≡ true
member_handed t x m =
    ⊎_elim (λ h. all_kept (moved_keys t) t.shared x (all_here [] t.moved x h))
    (λ h. all_here (moved_keys t) t.shared x h) (member_either x t.moved t.shared m)

aside_from : (o : Option ℕ) (ks : List ℕ) (x : ℕ) → has (with_index ks o) x ≡ false → CountsAsEffect Loaded o x
aside_from None ks x e = tt
aside_from (Some y) ks x e = λ s. not_true_and_false (has (with_index ks (Some y)) x)
    (subst (λ z. has (with_index ks (Some y)) z ≡ true) (sym s) (one_here ks y)) e

aside_not : (o : Option ℕ) (x : ℕ) → CountsAsEffect Loaded o x → o ≡ Some x → ⊥
aside_not None x a e = absurd (none-some x e)
aside_not (Some y) x a e = a (sym (same_Some y x e))

-- ---- a child alone

module _ (stored loaded : List ℕ) (t : ChildTable) where
  stores_is : goes_beyond (moved_keys t) stored ≡ true → StoresBeyond stored t
  stores_is e =
      let r = beyond_is (moved_keys t) stored e in
      (r.0, r.1, λ m. not_true_and_false (has (moved_keys t) r.0) (all_here [] t.moved r.0 m) r.2)

  stores_from : StoresBeyond stored t → goes_beyond (moved_keys t) stored ≡ true
  stores_from s = beyond_from (moved_keys t) stored s.0 s.1
      (false_from_ne_true (has (moved_keys t) s.0) (λ h. s.2 (moved_member t s.0 h)))

  loads_is : goes_beyond (known_keys t) loaded ≡ true → LoadsBeyond loaded t
  loads_is e =
      let r = beyond_is (known_keys t) loaded e in (
        r.0,
        r.1,
        aside_from t.index (handed_keys t) r.0 r.2,
        λ m. not_true_and_false (has (known_keys t) r.0)
            (index_kept (handed_keys t) t.index r.0 (member_handed t r.0 m)) r.2,
      )

  loads_from : LoadsBeyond loaded t → goes_beyond (known_keys t) loaded ≡ true
  loads_from (x, is_loaded, counts, not_handed) =
      beyond_from (known_keys t) loaded x is_loaded
      (false_from_ne_true (has (known_keys t) x)
      (λ h. ⊎_elim (λ i. not_handed (handed_member t x i)) (λ i. aside_not t.index x counts i)
      (index_in (handed_keys t) t.index x h)))

  moved_twice : all_new [] t.moved ≡ false → AllDifferent (handed_to t) → ⊥
  moved_twice e d = not_true_and_false (all_new [] t.moved)
      (new_from [] t.moved (different_front t.moved t.shared d) (λ x m. refl)) e

  shared_twice : all_new (moved_keys t) t.shared ≡ false → AllDifferent (handed_to t) → ⊥
  shared_twice e d =
      not_true_and_false (all_new (moved_keys t) t.shared)
      (new_from (moved_keys t) t.shared (different_back t.moved t.shared d)
      (λ x m. false_from_ne_true (has (moved_keys t) x)
      (λ h. different_apart x t.moved t.shared d (moved_member t x h) m)))
      e

  all_once : all_new [] t.moved ≡ true → all_new (moved_keys t) t.shared ≡ true → AllDifferent (handed_to t)
  all_once e f =
      let r = new_is [] t.moved e in
      let s = new_is (moved_keys t) t.shared f in
      different_join t.moved t.shared r.0 s.0
      (λ x m n. not_true_and_false (has (moved_keys t) x) (all_here [] t.moved x m) (s.1 x n))

  loose_is : is_loose t ≡ true → IsIllHanded t
  loose_is e =
      ⊎_elim (λ h. inr (inl (has_output t.shared h)))
      (λ h. let b = and_parts (is_some t.index) (not (length t.moved == 0)) h in inr (inr (b.0, not_empty t.moved b.1)))
      (or_cases (list_any (λ y. y == 1) t.shared) (is_some t.index && not (length t.moved == 0)) e)

  abbrev pub Twice : Bool
  Twice = not (all_new [] t.moved) || (not (all_new (moved_keys t) t.shared) || is_loose t)

  ill_is : Twice ≡ true → IsIllHanded t
  ill_is e =
      ⊎_elim (λ h. inl (moved_twice (not-true (all_new [] t.moved) h)))
      (λ h. ⊎_elim (λ i. inl (shared_twice (not-true (all_new (moved_keys t) t.shared) i))) loose_is
      (or_cases (not (all_new (moved_keys t) t.shared)) (is_loose t) h))
      (or_cases (not (all_new [] t.moved)) (not (all_new (moved_keys t) t.shared) || is_loose t) e)

  loose_from : (IsMember 1 t.shared) ⊎ (IsSome t.index × (t.moved ≡ [] → ⊥)) → is_loose t ≡ true
  loose_from (inl m) = or_left (list_any (λ y. y == 1) t.shared) (is_some t.index
      && not (length t.moved == 0)) (output_has t.shared m)
  loose_from (inr b) =
      or_right (list_any (λ y. y == 1) t.shared) (is_some t.index && not (length t.moved == 0))
      (and_from (is_some t.index) (not (length t.moved == 0)) b.0 (some_there t.moved b.1))

  ill_from : IsIllHanded t → Twice ≡ true
  ill_from (inl d) = first (cases_Bool (all_new [] t.moved)) (cases_Bool (all_new (moved_keys t) t.shared))
    where
      first : (all_new [] t.moved ≡ true) ⊎ (all_new [] t.moved ≡ false) → (all_new (moved_keys t) t.shared ≡ true)
          ⊎ (all_new (moved_keys t) t.shared ≡ false) → Twice ≡ true
      first (inr e) f = or_left (not (all_new [] t.moved)) (not (all_new (moved_keys t) t.shared)
          || is_loose t) (not_from_false (all_new [] t.moved) e)
      first (inl e) (inl f) = absurd (d (all_once e f))
      first (inl e) (inr f) =
          or_right (not (all_new [] t.moved)) (not (all_new (moved_keys t) t.shared) || is_loose t)
          (or_left (not (all_new (moved_keys t) t.shared)) (is_loose t)
          (not_from_false (all_new (moved_keys t) t.shared) f))
  ill_from (inr z) =
      or_right (not (all_new [] t.moved)) (not (all_new (moved_keys t) t.shared) || is_loose t)
      (or_right (not (all_new (moved_keys t) t.shared)) (is_loose t) (loose_from z))

  pub alone_is : fails_alone stored loaded t ≡ true → FailsAlone stored loaded t
  alone_is e =
      ⊎_elim (λ h. inl (stores_is h))
      (λ h. ⊎_elim (λ i. inr (inl (loads_is i))) (λ i. inr (inr (ill_is i)))
      (or_cases (goes_beyond (known_keys t) loaded) Twice h))
      (or_cases (goes_beyond (moved_keys t) stored) (goes_beyond (known_keys t) loaded || Twice) e)

  pub alone_from : FailsAlone stored loaded t → fails_alone stored loaded t ≡ true
  alone_from (inl s) = or_left (goes_beyond (moved_keys t) stored) (goes_beyond (known_keys t) loaded
      || Twice) (stores_from s)
  alone_from (inr (inl s)) =
      or_right (goes_beyond (moved_keys t) stored) (goes_beyond (known_keys t) loaded
      || Twice) (or_left (goes_beyond (known_keys t) loaded) Twice (loads_from s))
  alone_from (inr (inr s)) =
      or_right (goes_beyond (moved_keys t) stored) (goes_beyond (known_keys t) loaded
      || Twice) (or_right (goes_beyond (known_keys t) loaded) Twice (ill_from s))

-- ---- beside those before it

module _ (ts : List ChildTable) (n : ℕ) (b : Before) (before : IsBefore ts n b) (t : ChildTable) where
  pub clash_is : clashes b.moved.keys b.handed.keys t ≡ true → ClashesBefore ts n t
  clash_is e =
      ⊎_elim
      (λ h. let r = meets_is b.handed.keys t.moved h in let s = (before.handed r.0).0 r.2 in
      (s.child, s.table, s.before, s.table_is, (r.0, inr (r.1, s.has))))
      (λ h. let r = meets_is b.moved.keys t.shared h in let s = (before.moved r.0).0 r.2 in
      (s.child, s.table, s.before, s.table_is, (r.0, inl (s.has, member_back r.0 t.moved t.shared r.1))))
      (or_cases (meets b.handed.keys t.moved) (meets b.moved.keys t.shared) e)

  pub clash_from : ClashesBefore ts n t → clashes b.moved.keys b.handed.keys t ≡ true
  clash_from (j, s, l, is, (x, inl (m, h))) =
      ⊎_elim
      (λ i. or_left (meets b.handed.keys t.moved) (meets b.moved.keys t.shared)
      (meets_from b.handed.keys t.moved x i
      ((before.handed x).1 (record {
        child = j;
        table = s;
        before = l;
        table_is = is;
        has = member_front x s.moved s.shared m;
      }))))
      (λ i. or_right (meets b.handed.keys t.moved) (meets b.moved.keys t.shared)
      (meets_from b.moved.keys t.shared x i
      ((before.moved x).1 (record { child = j; table = s; before = l; table_is = is; has = m }))))
      (member_either x t.moved t.shared h)
  clash_from (j, s, l, is, (x, inr (m, h))) =
      or_left (meets b.handed.keys t.moved) (meets b.moved.keys t.shared)
      (meets_from b.handed.keys t.moved x m
      ((before.handed x).1 (record { child = j; table = s; before = l; table_is = is; has = h })))

-- ---- one more before

module _ (of : ChildTable → List ℕ) (ts : List ChildTable) (n x : ℕ) (t : ChildTable)
    (at : slice_get ts n ≡ Some t) where
  pub more_before : SomeHas of ts (n + 1) x → SomeHas of ts n x ⊎ IsMember x (of t)
  more_before s = go (less_same_or_more s.child n)
    where
      go : (s.child < n) ⊎ ((s.child ≡ n) ⊎ (n < s.child)) → SomeHas of ts n x ⊎ IsMember x (of t)
      go (inl l) = inl (record { child = s.child; table = s.table; before = l; table_is = s.table_is; has = s.has })
      go (inr (inl i)) = inr (subst (λ (z : ChildTable). IsMember x (of z))
          (same_Some s.table t (sym (ap (slice_get ts) (sym i) ∙ s.table_is) ∙ at)) s.has)
      go (inr (inr l)) = absurd (let m = s.before in omega (arith, l, m))

  pub before_more : SomeHas of ts n x ⊎ IsMember x (of t) → SomeHas of ts (n + 1) x
  before_more (inl s) = record {
    child = s.child;
    table = s.table;
    before = (let m = s.before in omega (arith, m));
    table_is = s.table_is;
    has = s.has;
  }
  before_more (inr m) = record { child = n; table = t; before = omega arith; table_is = at; has = m }

pub begun : (ts : List ChildTable) (b : Before) → b.moved.keys ≡ [] → b.handed.keys ≡ [] → IsBefore ts 0 b
begun ts b e f = record {
  moved = λ x. (
    λ h. absurd (no_key x (sym (ap (λ (ks : List ℕ). has ks x) e)
        ∙ h)),
    λ s. absurd (let l = s.before in omega (arith, l)),
  );
  handed = λ x. (
    λ h. absurd (no_key x (sym (ap (λ (ks : List ℕ). has ks x) f)
        ∙ h)),
    λ s. absurd (let l = s.before in omega (arith, l)),
  );
}

pub noted : (ts : List ChildTable) (n : ℕ) (old new : Before) (t : ChildTable) → slice_get ts n ≡ Some t
    → IsBefore ts n old
    → new.moved.keys ≡ with_all old.moved.keys t.moved
    → new.handed.keys ≡ with_all (with_all old.handed.keys t.moved) t.shared → IsBefore ts (n + 1) new
noted ts n old new t at b e f = record {
  moved = λ x. (
    λ h. before_more moved_to ts n x t at
        (⊎_elim (λ i. inl ((b.moved x).0 i)) (λ i. inr i) (all_in old.moved.keys t.moved x (moved_back x h))),
    λ s. moved_on x (⊎_elim (λ i. all_kept old.moved.keys t.moved x ((b.moved x).1 i))
        (λ i. all_here old.moved.keys t.moved x i) (more_before moved_to ts n x t at s)),
  );
  handed = λ x. (
    λ h. before_more handed_to ts n x t at (handed_in x (handed_back x h)),
    λ s. handed_on x (⊎_elim (λ i. all_kept (with_all old.handed.keys t.moved) t.shared x
        (all_kept old.handed.keys t.moved x ((b.handed x).1 i)))
        (λ i. ⊎_elim (λ j. all_kept (with_all old.handed.keys t.moved) t.shared x
        (all_here old.handed.keys t.moved x j)) (λ j. all_here (with_all old.handed.keys t.moved) t.shared x j)
        (member_either x t.moved t.shared i))
        (more_before handed_to ts n x t at s)),
  );
}
  where
    moved_back : (x : ℕ) → has new.moved.keys x ≡ true → has (with_all old.moved.keys t.moved) x ≡ true
    moved_back x h = sym (ap (λ (ks : List ℕ). has ks x) e) ∙ h

    moved_on : (x : ℕ) → has (with_all old.moved.keys t.moved) x ≡ true → has new.moved.keys x ≡ true
    moved_on x h = ap (λ (ks : List ℕ). has ks x) e ∙ h

    handed_back : (x : ℕ) → has new.handed.keys x ≡ true
        → has (with_all (with_all old.handed.keys t.moved) t.shared) x ≡ true
    handed_back x h = sym (ap (λ (ks : List ℕ). has ks x) f) ∙ h

    handed_on : (x : ℕ) → has (with_all (with_all old.handed.keys t.moved) t.shared) x ≡ true
        → has new.handed.keys x ≡ true
    handed_on x h = ap (λ (ks : List ℕ). has ks x) f ∙ h

    handed_in : (x : ℕ) → has (with_all (with_all old.handed.keys t.moved) t.shared) x ≡ true → SomeHas handed_to ts n x
        ⊎ IsMember x (handed_to t)
    handed_in x h =
        ⊎_elim (λ i. ⊎_elim (λ j. inl ((b.handed x).0 j)) (λ j. inr (member_front x t.moved t.shared j))
        (all_in old.handed.keys t.moved x i))
        (λ i. inr (member_back x t.moved t.shared i)) (all_in (with_all old.handed.keys t.moved) t.shared x h)
