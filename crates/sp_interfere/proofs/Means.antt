-- What the tests on the sets of a tree say is broken is broken, and what is broken the tests say.
use Rattle.std.proofs.Common.{◌≡◌, ◌⊎◌, inl, inr, ℕ, ◌+◌, ◌≤◌, true, ◌==◌, List, []}
use Rattle.std.proofs.Common.{◌∷◌, ◌++◌, Option, Some, None, refl, sym, ap, subst}
use Rattle.std.proofs.Common.{eqb-true, eq-eqb}
use Rattle.std.proofs.lemmas.Bool.{or_cases, or_left, or_right}
use Rattle.sp_base.specs.declared.place.Place.{Place}
use Rattle.sp_base.specs.declared.halt.Refusal.{Refusal}
use Rattle.sp_base.specs.declared.rule.Rule.{Rule}
use Rattle.sp_base.specs.declared.rule.Rule.TheVariants as rule
use Rattle.sp_base.proofs.Facts.{or_from_either}
use Rattle.sp_tree.specs.declared.checked.Role.{Role}
use Rattle.sp_tree.specs.declared.checked.Role.TheVariants as role
use Rattle.sp_tree.specs.PlainChecked as p
use Rattle.sp_tree.specs.Plain.{Program, Actuals}
use Rattle.sp_tree.specs.Sets.{Implicit}
use Rattle.sp_tree.specs.Interference.{IsMember}
use Rattle.sp_tree.specs.Interferes.{place_of, Interfere, ClashesIn, SplitBreaks, Repeats, CallRepeats}
use Rattle.sp_tree.specs.Interferes.{PassesImplicit}
use Rattle.sp_varsets.specs.declared.sets.Sets.{Sets}
use Rattle.sp_varsets.specs.Members.{has}
use Rattle.sp_varsets.specs.Parts.{number_of}
use Rattle.sp_varsets.specs.AreSets.{targets_of, expressions_of, implicit_targets_of, implicit_expressions_of}
use Rattle.sp_varsets.specs.AreSets.{OfStatement, OfBlock}
use Rattle.sp_interfere.specs.Tests.{some_in, is_declared, clash, has_declared}
use Rattle.sp_interfere.specs.Rules.{is_reference, is_function}
use Rattle.sp_interfere.proofs.SetTests.{some_from, some_to, declared_from, declared_to, any_from, any_to, clash_from}
use Rattle.sp_interfere.proofs.SetTests.{clash_target, clash_seen}
use Rattle.sp_interfere.proofs.FittingSites.{AllParts}
use Rattle.sp_interfere.proofs.FirstBreaches.{refusal, Clashed, Repeated, PassesImplicitly}

member_first : (xs : List ℕ) (y x : ℕ) → IsMember x xs → IsMember x (xs ++ y ∷ [])
member_first [] y x i = absurd i
member_first (z ∷ zs) y x (inl e) = inl e
member_first (z ∷ zs) y x (inr i) = inr (member_first zs y x i)

member_last : (xs : List ℕ) (y x : ℕ) → x ≡ y → IsMember x (xs ++ y ∷ [])
member_last [] y x e = inl e
member_last (z ∷ zs) y x e = inr (member_last zs y x e)

member_of : (xs : List ℕ) (y x : ℕ) → IsMember x (xs ++ y ∷ []) → IsMember x xs ⊎ (x ≡ y)
member_of [] y x (inl e) = inr e
member_of [] y x (inr i) = absurd i
member_of (z ∷ zs) y x (inl e) = inl (inl e)
member_of (z ∷ zs) y x (inr i) = go (member_of zs y x i)
  where
    go : IsMember x zs ⊎ (x ≡ y) → IsMember x (z ∷ zs) ⊎ (x ≡ y)
    go (inl j) = inl (inr j)
    go (inr e) = inr e

pub rule_of : (R : Rule) (at : Place) (x : Refusal) → x ≡ refusal R at → x.rule ≡ R
rule_of R at x e = ap (λ (y : Refusal). y.rule) e

pub at_of : (R : Rule) (at : Place) (x : Refusal) → x ≡ refusal R at → at ≡ x.at
at_of R at x e = ap (λ (y : Refusal). y.at) (sym e)

pub is_reference_to : (r : Role) → is_reference r ≡ true → r ≡ role.Reference
is_reference_to role.Reference h = refl
is_reference_to _ h = absurd (cc h)

pub answer_of : (o : Option ℕ) → is_function o ≡ true → (y : ℕ) × (o ≡ Some y)
answer_of None h = absurd (cc h)
answer_of (Some y) h = (y, refl)

module _ (g : Program) (s : Sets) where
  -- I1
  interferes : (u t : p.Statement) → OfStatement g s u → OfStatement g s t → clash s (number_of u) (number_of t) ≡ true
      → Interfere g u t
  interferes u t a b h = go (clash_from s (number_of u) (number_of t) h)
    where
      go : (x : ℕ) × (((has (targets_of s (number_of t)) x ≡ true)
          × ((has (targets_of s (number_of u)) x ≡ true) ⊎ (has (expressions_of s (number_of u)) x ≡ true)))
          ⊎ ((has (expressions_of s (number_of t)) x ≡ true) × (has (targets_of s (number_of u)) x ≡ true)))
          → Interfere g u t
      go (x, inl (k, inl m)) = (x, inr (inl ((a.targets x).0 m), (b.targets x).0 k))
      go (x, inl (k, inr m)) = (x, inr (inr ((a.expressions x).0 m), (b.targets x).0 k))
      go (x, inr (k, m)) = (x, inl ((a.targets x).0 m, inr ((b.expressions x).0 k)))

  clashes : (u t : p.Statement) → OfStatement g s u → OfStatement g s t → Interfere g u t
      → clash s (number_of u) (number_of t) ≡ true
  clashes u t a b (x, inl (k, inl m)) = clash_target s (number_of u) (number_of t) x ((b.targets x).1 m)
      (inl ((a.targets x).1 k))
  clashes u t a b (x, inl (k, inr m)) = clash_seen s (number_of u) (number_of t) x ((b.expressions x).1 m)
      ((a.targets x).1 k)
  clashes u t a b (x, inr (inl k, m)) = clash_target s (number_of u) (number_of t) x ((b.targets x).1 m)
      (inl ((a.targets x).1 k))
  clashes u t a b (x, inr (inr k, m)) = clash_target s (number_of u) (number_of t) x ((b.targets x).1 m)
      (inr ((a.expressions x).1 k))

  abbrev pub One : (p.Statement → Type 0) → p.Statements → Place → Type 0
  One Before parts at = ((u : p.Statement) × Before u × ClashesIn g u parts at) ⊎ SplitBreaks g parts at

  known_in : (earlier : List ℕ) (Before : p.Statement → Type 0)
      → ((u : p.Statement) → Before u → IsMember (number_of u) earlier) → (t u : p.Statement) → Before u ⊎ (u ≡ t)
      → IsMember (number_of u) (earlier ++ number_of t ∷ [])
  known_in earlier Before known t u (inl b) = member_first earlier (number_of t) (number_of u) (known u b)
  known_in earlier Before known t u (inr e) = member_last earlier (number_of t) (number_of u) (ap number_of e)

  right_in : (Before : p.Statement → Type 0) → ((u : p.Statement) → Before u → OfStatement g s u) → (t : p.Statement)
      → OfStatement g s t → (u : p.Statement) → Before u ⊎ (u ≡ t) → OfStatement g s u
  right_in Before right t r u (inl b) = right u b
  right_in Before right t r u (inr e) = subst (OfStatement g s) (sym e) r

  pub clash_to : (earlier : List ℕ) (Before : p.Statement → Type 0)
      → ((m : ℕ) → IsMember m earlier → (u : p.Statement) × Before u × (number_of u ≡ m))
      → ((u : p.Statement) → Before u → OfStatement g s u)
      → (parts : p.Statements) → AllParts (OfStatement g s) (λ f bs. Unit {0}) parts → (x : Refusal)
      → Clashed s earlier parts x → (x.rule ≡ rule.I1) × One Before parts x.at
  clash_to earlier Before known right p.NoStatement all x h = absurd h
  clash_to earlier Before known right (p.AndThen t rest) all x (inl (h, e)) =
      let m = any_from (λ m. clash s m (number_of t)) earlier h in
      let u = known m.0 m.1 in (
        rule_of rule.I1 (place_of t) x e,
        inl (
          u.0,
          u.1,
          inl (
            at_of rule.I1 (place_of t) x e,
            interferes u.0 t (right u.0 u.1) all.0 (subst (λ n. clash s n (number_of t) ≡ true) (sym u.2) m.2),
          ),
        ),
      )
  clash_to earlier Before known right (p.AndThen t rest) all x (inr h) =
      let more = clash_to (earlier ++ number_of t ∷ []) (λ u. Before u ⊎ (u ≡ t)) known_more
      (right_in Before right t all.0) rest all.1 x h in (more.0, go more.1)
    where
      known_more : (m : ℕ) → IsMember m (earlier ++ number_of t ∷ []) → (u : p.Statement) × (Before u ⊎ (u ≡ t))
          × (number_of u ≡ m)
      known_more m i = pick (member_of earlier (number_of t) m i)
        where
          pick : IsMember m earlier ⊎ (m ≡ number_of t) → (u : p.Statement) × (Before u ⊎ (u ≡ t)) × (number_of u ≡ m)
          pick (inl j) = let u = known m j in (u.0, inl u.1, u.2)
          pick (inr e) = (t, inr refl, sym e)

      go : One (λ u. Before u ⊎ (u ≡ t)) rest x.at → One Before (p.AndThen t rest) x.at
      go (inl (u, inl b, c)) = inl (u, b, inr c)
      go (inl (u, inr e, c)) = inr (inl (subst (λ z. ClashesIn g z rest x.at) e c))
      go (inr c) = inr (inr c)

  pub clash_back : (earlier : List ℕ) (Before : p.Statement → Type 0)
      → ((u : p.Statement) → Before u → IsMember (number_of u) earlier)
      → ((u : p.Statement) → Before u → OfStatement g s u)
      → (parts : p.Statements) → AllParts (OfStatement g s) (λ f bs. Unit {0}) parts → (at : Place)
      → One Before parts at → Clashed s earlier parts (refusal rule.I1 at)
  clash_back earlier Before known right p.NoStatement all at (inl (u, b, c)) = c
  clash_back earlier Before known right p.NoStatement all at (inr c) = c
  clash_back earlier Before known right (p.AndThen t rest) all at (inl (u, b, inl (here, i))) =
      inl (
        any_to (λ m. clash s m (number_of t)) earlier (number_of u) (known u b) (clashes u t (right u b) all.0 i),
        ap (refusal rule.I1) (sym here),
      )
  clash_back earlier Before known right (p.AndThen t rest) all at (inl (u, b, inr c)) =
      inr (clash_back (earlier ++ number_of t ∷ []) (λ v. Before v ⊎ (v ≡ t)) (known_in earlier Before known t)
      (right_in Before right t all.0) rest all.1 at (inl (u, inl b, c)))
  clash_back earlier Before known right (p.AndThen t rest) all at (inr (inl c)) =
      inr (clash_back (earlier ++ number_of t ∷ []) (λ v. Before v ⊎ (v ≡ t)) (known_in earlier Before known t)
      (right_in Before right t all.0) rest all.1 at (inl (t, inr refl, c)))
  clash_back earlier Before known right (p.AndThen t rest) all at (inr (inr c)) =
      inr (clash_back (earlier ++ number_of t ∷ []) (λ v. Before v ⊎ (v ≡ t)) (known_in earlier Before known t)
      (right_in Before right t all.0) rest all.1 at (inr c))

  -- I4
  pub repeat_to : (earlier : List ℕ) (args : p.Actuals) (x : Refusal) → Repeated s earlier args x → (x.rule ≡ rule.I4)
      × (((y : ℕ) × IsMember y earlier × Repeats g y args x.at) ⊎ CallRepeats g args x.at)
  repeat_to earlier p.Nothing x h = absurd h
  repeat_to earlier (p.Pass (p.ByValue e) rest) x h = repeat_to earlier rest x h
  repeat_to earlier (p.Pass (p.ByReference (p.Entire y here ss)) rest) x (inl (h, e)) =
      let z = any_from (λ z. y == z) earlier h in
      (rule_of rule.I4 here x e, inl (z.0, z.1, inl (sym (eqb-true y z.0 z.2), at_of rule.I4 here x e)))
  repeat_to earlier (p.Pass (p.ByReference (p.Entire y here ss)) rest) x (inr h) = let more =
      repeat_to (earlier ++ y ∷ []) rest x h in (more.0, go more.1)
    where
      pick : (z : ℕ) → IsMember z earlier ⊎ (z ≡ y) → Repeats g z rest x.at
          → ((z : ℕ) × IsMember z earlier × Repeats g z (p.Pass (p.ByReference (p.Entire y here ss)) rest) x.at)
          ⊎ CallRepeats g (p.Pass (p.ByReference (p.Entire y here ss)) rest) x.at
      pick z (inl i) c = inl (z, i, inr c)
      pick z (inr e) c = inr (inl (subst (λ v. Repeats g v rest x.at) e c))

      go : ((z : ℕ) × IsMember z (earlier ++ y ∷ []) × Repeats g z rest x.at) ⊎ CallRepeats g rest x.at
          → ((z : ℕ) × IsMember z earlier × Repeats g z (p.Pass (p.ByReference (p.Entire y here ss)) rest) x.at)
          ⊎ CallRepeats g (p.Pass (p.ByReference (p.Entire y here ss)) rest) x.at
      go (inl (z, i, c)) = pick z (member_of earlier y z i) c
      go (inr c) = inr (inr c)

  pub repeat_back : (earlier : List ℕ) (args : p.Actuals) (at : Place)
      → ((y : ℕ) × IsMember y earlier × Repeats g y args at) ⊎ CallRepeats g args at
      → Repeated s earlier args (refusal rule.I4 at)
  repeat_back earlier p.Nothing at (inl (y, i, c)) = c
  repeat_back earlier p.Nothing at (inr c) = c
  repeat_back earlier (p.Pass (p.ByValue e) rest) at h = repeat_back earlier rest at h
  repeat_back earlier (p.Pass (p.ByReference (p.Entire y here ss)) rest) at (inl (z, i, inl (e, there))) =
      inl (any_to (λ v. y == v) earlier z i (eq-eqb y z (sym e)), ap (refusal rule.I4) (sym there))
  repeat_back earlier (p.Pass (p.ByReference (p.Entire y here ss)) rest) at (inl (z, i, inr c)) =
      inr (repeat_back (earlier ++ y ∷ []) rest at (inl (z, member_first earlier y z i, c)))
  repeat_back earlier (p.Pass (p.ByReference (p.Entire y here ss)) rest) at (inr (inl c)) =
      inr (repeat_back (earlier ++ y ∷ []) rest at (inl (y, member_last earlier y y refl, c)))
  repeat_back earlier (p.Pass (p.ByReference (p.Entire y here ss)) rest) at (inr (inr c)) =
      inr (repeat_back (earlier ++ y ∷ []) rest at (inr c))

  -- I5
  implicit_to : (f y : ℕ) → OfBlock g s f → (has (implicit_targets_of s f) y ≡ true)
      ⊎ (has (implicit_expressions_of s f) y ≡ true) → Implicit g f y
  implicit_to f y b (inl h) = let (k, e, free, reached) = (b.targets y).0 h in (k, e, free, inl reached)
  implicit_to f y b (inr h) = let (k, e, free, reached) = (b.expressions y).0 h in (k, e, free, inr reached)

  implicit_back : (f y : ℕ) → OfBlock g s f → Implicit g f y → (has (implicit_targets_of s f) y ≡ true)
      ⊎ (has (implicit_expressions_of s f) y ≡ true)
  implicit_back f y b (k, e, free, inl h) = inl ((b.targets y).1 (k, e, free, h))
  implicit_back f y b (k, e, free, inr h) = inr ((b.expressions y).1 (k, e, free, h))

  pub passed_to : (f : ℕ) → OfBlock g s f → (args : p.Actuals) (x : Refusal) → PassesImplicitly s f args x
      → (x.rule ≡ rule.I5)
      × PassesImplicit g f args x.at
  passed_to f b p.Nothing x h = absurd h
  passed_to f b (p.Pass (p.ByValue e) rest) x h = passed_to f b rest x h
  passed_to f b (p.Pass (p.ByReference (p.Entire y here ss)) rest) x (inl (h, e)) = (
    rule_of rule.I5 here x e,
    inl (
      at_of rule.I5 here x e,
      implicit_to f y b (or_cases (has (implicit_targets_of s f) y) (has (implicit_expressions_of s f) y) h),
    ),
  )
  passed_to f b (p.Pass (p.ByReference (p.Entire y here ss)) rest) x (inr h) = let more = passed_to f b rest x h in
      (more.0, inr more.1)

  pub passed_back : (f : ℕ) → OfBlock g s f → (args : p.Actuals) (at : Place) → PassesImplicit g f args at
      → PassesImplicitly s f args (refusal rule.I5 at)
  passed_back f b p.Nothing at h = h
  passed_back f b (p.Pass (p.ByValue e) rest) at h = passed_back f b rest at h
  passed_back f b (p.Pass (p.ByReference (p.Entire y here ss)) rest) at (inl (there, i)) =
      inl (
        or_from_either (has (implicit_targets_of s f) y) (has (implicit_expressions_of s f) y)
            (implicit_back f y b i),
        ap (refusal rule.I5) (sym there),
      )
  passed_back f b (p.Pass (p.ByReference (p.Entire y here ss)) rest) at (inr h) = inr (passed_back f b rest at h)

  -- I6
  pub declared_to_implicit : (f : ℕ) → OfBlock g s f → has_declared s f ≡ true → (y : ℕ) × Implicit g f y × (2 ≤ y)
  declared_to_implicit f b h = go (or_cases (some_in (implicit_targets_of s f) is_declared)
      (some_in (implicit_expressions_of s f) is_declared) h)
    where
      go : (some_in (implicit_targets_of s f) is_declared ≡ true)
          ⊎ (some_in (implicit_expressions_of s f) is_declared ≡ true) → (y : ℕ) × Implicit g f y × (2 ≤ y)
      go (inl k) = let y = some_from (implicit_targets_of s f) is_declared k in
          (y.0, implicit_to f y.0 b (inl y.1), declared_from y.0 y.2)
      go (inr k) = let y = some_from (implicit_expressions_of s f) is_declared k in
          (y.0, implicit_to f y.0 b (inr y.1), declared_from y.0 y.2)

  pub implicit_declared : (f y : ℕ) → OfBlock g s f → Implicit g f y → 2 ≤ y → has_declared s f ≡ true
  implicit_declared f y b i l = go (implicit_back f y b i)
    where
      go : (has (implicit_targets_of s f) y ≡ true) ⊎ (has (implicit_expressions_of s f) y ≡ true)
          → has_declared s f ≡ true
      go (inl h) = or_left (some_in (implicit_targets_of s f) is_declared) _
          (some_to (implicit_targets_of s f) is_declared y h (declared_to y l))
      go (inr h) = or_right (some_in (implicit_targets_of s f) is_declared) _
          (some_to (implicit_expressions_of s f) is_declared y h (declared_to y l))
