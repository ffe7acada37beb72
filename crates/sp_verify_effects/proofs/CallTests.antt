-- Rule V7 at a call: what the test finds is what the rule says.
use Rattle.std.proofs.Common.{◌≡◌, ◌⊎◌, ◌≢◌, inl, inr, ⊎_elim, refl, sym, ap, subst, ◌∙◌, ℕ, zero, suc, ◌-◌, ◌<◌}
use Rattle.std.proofs.Common.{List, [], ◌∷◌, ◌++◌, Option, Some, None, Bool, true, false, ◌&&◌, length, arith}
use Rattle.std.specs.Prelude.{not, slice_get, ◌↔◌}
use Rattle.std.specs.List.{list_any}
use Rattle.std.proofs.lemmas.Option.{slice_get_within, none-some, same_Some}
use Rattle.std.proofs.lemmas.Bool.{and_from, and_parts, false_from_ne_true, not-true, not_from_false, or_cases, or_left}
use Rattle.std.proofs.lemmas.Bool.{or_parts, or_right}
use Rattle.sp_base.proofs.Facts.{less_same_or_more, not_true_and_false}
use Rattle.sp_tree.specs.Interference.{IsMember, AllDifferent}
use Rattle.sp_tree.proofs.Members.{member_front, member_back, member_either}
use Rattle.sp_code.specs.declared.instr.Instr.TheVariants as i
use Rattle.sp_code.specs.declared.code.Formal.{Formal}
use Rattle.sp_code.specs.declared.code.Formal.TheVariants as formal
use Rattle.sp_code.specs.declared.code.Layout.{Layout}
use Rattle.sp_code.specs.declared.code.Parts.{Parts}
use Rattle.sp_code.specs.Machine.{layout_of}
use Rattle.sp_verify_rules.specs.Areas.{Area, Body, on_option, instr_at, entry_of_layout}
use Rattle.sp_verify_rules.specs.Effects.{Does, HasEffect, IsActual, IsCalled}
use Rattle.sp_verify_rules.specs.Forks as fork
use Rattle.sp_verify_rules.specs.NameRules.{BreaksV1}
use Rattle.sp_verify_rules.specs.Reach.{IsArea}
use Rattle.sp_verify_rules.specs.Shapes.{Shape, O, C, L, A}
use Rattle.sp_verify_rules.specs.Verdict.{HasStop}
use Rattle.sp_verify_rules.proofs.Lists.{member_or, different_front, different_apart}
use Rattle.sp_verify_rules.proofs.FrameScopes.{different_join}
use Rattle.sp_verify_areas.specs.Blocks.{number_from}
use Rattle.sp_verify_areas.proofs.BlockLaws.{place_none, place_some}
use Rattle.sp_verify_shapes.specs.declared.shapes.Shapes.{Shapes}
use Rattle.sp_verify_shapes.specs.Shapes.{AreShapes}
use Rattle.sp_verify_shapes.specs.ReachRules.{reached_at}
use Rattle.sp_verify_shapes.specs.Stacks.{list_of}
use Rattle.sp_verify_shapes.proofs.ReachLaws.{reached_there, stands}
use Rattle.sp_verify_effects.specs.declared.effects.Effects.{Effects}
use Rattle.sp_verify_effects.specs.declared.asked_areas.Asked.{Asked}
use Rattle.sp_verify_effects.specs.AskedAreas.{AsksCalls, is_asked, is_below}
use Rattle.sp_verify_effects.specs.AskedCalls.{lacks_actual, lacks_at, lacks_operands}
use Rattle.sp_verify_effects.specs.declared.facts.Effect.{Effect}
use Rattle.sp_verify_effects.specs.declared.facts.Effect.TheVariants as effect
use Rattle.sp_verify_effects.specs.Effects.{AreEffects, touches}
use Rattle.sp_verify_effects.specs.Calls.{CallFails, actual_at, actual_of, actuals, call_clashes, is_outer}
use Rattle.sp_verify_effects.specs.Calls.{list_of_option}
use Rattle.sp_verify_effects.specs.Calls.{meets_outer, variable_of}
use Rattle.sp_verify_shapes.specs.Repeats.{called_block}
use Rattle.sp_verify_effects.specs.Variables.{AreOwn, owns}
use Rattle.sp_verify_effects.specs.Sets.{all_new}
use Rattle.sp_verify_effects.specs.Walks.{NoneOfTop}
use Rattle.sp_verify_effects.specs.Windows.{AreApart}
use Rattle.sp_verify_effects.proofs.WalkLaws.{both_false}
use Rattle.sp_verify_effects.proofs.Members.{new_from, new_is}
use Rattle.sp_verify_shapes.proofs.CallRepeats.{called_is}
use Rattle.sp_verify_effects.proofs.BlockVariables.{in_own, own_in}

-- ---- answers that are given

pub given_true : {A : Type 0} (o : Option A) (f : A → Bool) → on_option false o f ≡ true → (x : A) × (o ≡ Some x)
    × (f x ≡ true)
given_true None f e = absurd (cc e)
given_true (Some x) f e = (x, refl, e)

pub given_some : {A B : Type 0} (o : Option A) (f : A → Option B) (y : B) → on_option None o f ≡ Some y → (x : A)
    × (o ≡ Some x) × (f x ≡ Some y)
given_some None f y e = absurd (none-some y e)
given_some (Some x) f y e = (x, refl, e)

pub given_at : {A B : Type 0} (other : B) (o : Option A) (f : A → B) (x : A) → o ≡ Some x → on_option other o f ≡ f x
given_at other o f x e = ap (λ z. on_option other z f) e

-- ---- operands, by their places

variable_is : (s : Shape) (x : ℕ) → variable_of s ≡ Some x → (left : ℕ) × (s ≡ A x left)
variable_is O x e = absurd (none-some x e)
variable_is C x e = absurd (none-some x e)
variable_is (L n) x e = absurd (none-some x e)
variable_is (A y n) x e = (n, ap (λ z. A z n) (same_Some y x e))

actual_is : (f : Formal) (s : Shape) (x : ℕ) → actual_of f s ≡ Some x → (cells left : ℕ) × (f ≡ formal.Reference cells)
    × (s ≡ A x left)
actual_is (formal.Value n) s x e = absurd (none-some x e)
actual_is (formal.Reference n) s x e = let r = variable_is s x e in (n, r.0, refl, r.1)

module _ (l : Layout) (ss : List Shape) where
  abbrev pub IsActualAt : ℕ → ℕ → Type 0
  IsActualAt i x = actual_at l.formals ss i ≡ Some x

  pub at_is : (i x : ℕ) → i < length l.formals → IsActualAt i x → IsActual l ss (length l.formals - 1 - i) x
  at_is i x h e =
      let r = given_some (slice_get l.formals (length l.formals - 1 - i))
      (λ f. on_option None (slice_get ss i) (actual_of f)) x e in
      let s = given_some (slice_get ss i) (actual_of r.0) x r.2 in
      let (cells, left, formal_is, operand_is) = actual_is r.0 s.0 x s.2 in
      let back : length l.formals - 1 - (length l.formals - 1 - i) ≡ i = omega (arith, h) in
      (cells, left, r.1 ∙ ap Some formal_is, ap (slice_get ss) back ∙ s.1 ∙ ap Some operand_is)

  is_at : (k x : ℕ) → IsActual l ss k x → (k < length l.formals) × IsActualAt (length l.formals - 1 - k) x
  is_at k x (cells, left, f, s) =
      let h = slice_get_within l.formals k (formal.Reference cells) f in
      let back : length l.formals - 1 - (length l.formals - 1 - k) ≡ k = omega (arith, h) in (
        h,
        given_at None (slice_get l.formals (length l.formals - 1 - (length l.formals - 1 - k)))
            (λ g. on_option None (slice_get ss (length l.formals - 1 - k)) (actual_of g)) (formal.Reference cells)
            (ap (slice_get l.formals) back ∙ f)
            ∙ given_at None (slice_get ss (length l.formals - 1 - k)) (actual_of (formal.Reference cells)) (A x left) s,
      )

  listed_is : (o : Option ℕ) (x : ℕ) → IsMember x (list_of_option o) → o ≡ Some x
  listed_is None x h = absurd h
  listed_is (Some y) x (inl e) = ap Some (sym e)
  listed_is (Some y) x (inr h) = absurd h

  is_listed : (o : Option ℕ) (x : ℕ) → o ≡ Some x → IsMember x (list_of_option o)
  is_listed None x e = absurd (none-some x e)
  is_listed (Some y) x e = inl (sym (same_Some y x e))

  listed_different : (o : Option ℕ) → AllDifferent (list_of_option o)
  listed_different None = tt
  listed_different (Some y) = ((λ h. h), tt)

  pub member_at : (n x : ℕ) → IsMember x (actuals l.formals ss n) → (i : ℕ) × (i < n) × IsActualAt i x
  member_at zero x h = absurd h
  member_at (suc n) x h =
      ⊎_elim (λ k. let r = member_at n x k in let m = r.1 in (r.0, omega (arith, m), r.2))
      (λ k. (n, omega arith, listed_is (actual_at l.formals ss n) x k))
      (member_either x (actuals l.formals ss n) (list_of_option (actual_at l.formals ss n)) h)

  at_member : (n i x : ℕ) → i < n → IsActualAt i x → IsMember x (actuals l.formals ss n)
  at_member zero i x h e = absurd (omega (arith, h))
  at_member (suc n) i x h e = go (less_same_or_more i n) (λ m. at_member n i x m e)
    where
      go : (i < n) ⊎ ((i ≡ n) ⊎ (n < i)) → (i < n → IsMember x (actuals l.formals ss n))
          → IsMember x (actuals l.formals ss (suc n))
      go (inl m) on = member_front x (actuals l.formals ss n) (list_of_option (actual_at l.formals ss n)) (on m)
      go (inr (inl s)) on = member_back x (actuals l.formals ss n) (list_of_option (actual_at l.formals ss n))
          (is_listed (actual_at l.formals ss n) x (sym (ap (actual_at l.formals ss) s) ∙ e))
      go (inr (inr m)) on = absurd (omega (arith, h, m))

  -- the operand of an actual variable is its address
  actual_address : (i x : ℕ) → IsActualAt i x → (left : ℕ) × (slice_get ss i ≡ Some (A x left))
  actual_address i x e =
      let r = given_some (slice_get l.formals (length l.formals - 1 - i))
      (λ f. on_option None (slice_get ss i) (actual_of f)) x e in
      let s = given_some (slice_get ss i) (actual_of r.0) x r.2 in
      let (_, left, _, operand_is) = actual_is r.0 s.0 x s.2 in
      (left, s.1 ∙ ap Some operand_is)

  -- two operands with one variable
  pub record Twice (n : ℕ) : Type 0 where
    pub first : ℕ
    pub second : ℕ
    pub variable : ℕ
    pub apart : first < second
    pub within : second < n
    pub has : IsActualAt first variable
    pub too : IsActualAt second variable

  twice_or : (n : ℕ) → Twice n ⊎ AllDifferent (actuals l.formals ss n)
  twice_or zero = inr tt
  twice_or (suc n) = go (actual_at l.formals ss n) refl (twice_or n)
    where
      further : Twice n → Twice (suc n)
      further t = record {
        first = t.first;
        second = t.second;
        variable = t.variable;
        apart = t.apart;
        within =
            (let w = t.within in omega (arith, w));
        has = t.has;
        too = t.too;
      }

      joined : AllDifferent (actuals l.formals ss n) → (o : Option ℕ)
          → ((x : ℕ) → o ≡ Some x → IsMember x (actuals l.formals ss n) → ⊥)
          → AllDifferent (actuals l.formals ss n ++ list_of_option o)
      joined d o f = different_join (actuals l.formals ss n) (list_of_option o) d (listed_different o)
          (λ x m k. f x (listed_is o x k) m)

      at : (x : ℕ) → actual_at l.formals ss n ≡ Some x → AllDifferent (actuals l.formals ss n)
          → IsMember x (actuals l.formals ss n) ⊎ (IsMember x (actuals l.formals ss n) → ⊥)
          → Twice (suc n) ⊎ AllDifferent (actuals l.formals ss (suc n))
      at x e d (inl m) = let r = member_at n x m in inl
          (record { first = r.0; second = n; variable = x; apart = r.1; within = omega arith; has = r.2; too = e })
      at x e d (inr f) = inr (joined d (actual_at l.formals ss n)
          (λ y s m. f (subst (λ z. IsMember z (actuals l.formals ss n)) (same_Some y x (sym s ∙ e)) m)))

      go : (o : Option ℕ) → actual_at l.formals ss n ≡ o → Twice n ⊎ AllDifferent (actuals l.formals ss n)
          → Twice (suc n) ⊎ AllDifferent (actuals l.formals ss (suc n))
      go o e (inl t) = inl (further t)
      go None e (inr d) = inr (joined d (actual_at l.formals ss n) (λ x s m. none-some x (sym e ∙ s)))
      go (Some x) e (inr d) = at x e d (member_or x (actuals l.formals ss n))

  not_twice : (n i k x : ℕ) → AllDifferent (actuals l.formals ss n) → i < k → k < n → IsActualAt i x
      → IsActualAt k x → ⊥
  not_twice zero i k x d h w e f = absurd (omega (arith, w))
  not_twice (suc n) i k x d h w e f = go (less_same_or_more k n)
      (λ m. not_twice n i k x (different_front (actuals l.formals ss n) (list_of_option (actual_at l.formals ss n)) d)
      h m e f)
    where
      go : (k < n) ⊎ ((k ≡ n) ⊎ (n < k)) → (k < n → ⊥) → ⊥
      go (inl m) on = on m
      go (inr (inl s)) on =
          different_apart x (actuals l.formals ss n) (list_of_option (actual_at l.formals ss n)) d
          (at_member n i x (omega (arith, h, s)) e)
          (is_listed (actual_at l.formals ss n) x (sym (ap (actual_at l.formals ss) s) ∙ f))
      go (inr (inr m)) on = absurd (omega (arith, w, m))

  abbrev pub IsTwice : Type 0
  IsTwice = (j k x : ℕ) × (j ≢ k) × IsActual l ss j x × IsActual l ss k x

  twice_is : Twice (length l.formals) → IsTwice
  twice_is t =
      let a = t.apart in
      let w = t.within in
      let n = length l.formals in (
        n - 1 - t.first,
        n - 1 - t.second,
        t.variable,
        (λ e. absurd (omega (arith, a, w, e))),
        at_is t.first t.variable
            (omega (arith, a, w)) t.has,
        at_is t.second t.variable w t.too,
      )

  is_twice : AllDifferent (actuals l.formals ss (length l.formals)) → IsTwice → ⊥
  is_twice d (j, k, x, apart, f, g) =
      let a = is_at j x f in
      let b = is_at k x g in
      let n = length l.formals in
      let y = a.0 in
      let z = b.0 in
      go (less_same_or_more (n - 1 - j) (n - 1 - k)) a b
    where
      go : (length l.formals - 1 - j < length l.formals - 1 - k)
          ⊎ ((length l.formals - 1 - j ≡ length l.formals - 1 - k)
          ⊎ (length l.formals - 1 - k < length l.formals - 1 - j))
          → (j < length l.formals) × IsActualAt (length l.formals - 1 - j) x → (k < length l.formals)
          × IsActualAt (length l.formals - 1 - k) x → ⊥
      go (inl m) a b = let z = b.0 in not_twice (length l.formals) (length l.formals - 1 - j)
          (length l.formals - 1 - k) x d m (omega (arith, z)) a.1 b.1
      go (inr (inl m)) a b = apart (let y = a.0 in let z = b.0 in omega (arith, m, y, z))
      go (inr (inr m)) a b = let y = a.0 in not_twice (length l.formals) (length l.formals - 1 - k)
          (length l.formals - 1 - j) x d m (omega (arith, y)) b.1 a.1

-- ---- operands that were gone over

any_none : (P : ℕ → Bool) (xs : List ℕ) → ((x : ℕ) → IsMember x xs → P x ≡ false) → list_any P xs ≡ false
any_none P [] h = refl
any_none P (x ∷ xs) h = both_false (P x) (list_any P xs) (h x (inl refl)) (any_none P xs (λ y m. h y (inr m)))

-- what is found with no address is found with no actual variable
pub none_found : (P : ℕ → ℕ → Bool) (m : ℕ) (l : Layout) (ss : List Shape) → NoneOfTop P m (length l.formals) ss
    → list_any (P m) (actuals l.formals ss (length l.formals)) ≡ false
none_found P m l ss h = any_none (P m) (actuals l.formals ss (length l.formals))
    (λ x k. let (i, below, is) = member_at l ss (length l.formals) x k in
    let (left, at) = actual_address l ss i x is in h i x left below at)

apart_new : (l : Layout) (ss : List Shape) → AreApart (length l.formals) ss
    → all_new [] (actuals l.formals ss (length l.formals)) ≡ true
apart_new l ss h = new_from [] (actuals l.formals ss (length l.formals)) (go (twice_or l ss (length l.formals)))
    (λ x m. refl)
  where
    go : Twice l ss (length l.formals) ⊎ AllDifferent (actuals l.formals ss (length l.formals))
        → AllDifferent (actuals l.formals ss (length l.formals))
    go (inl t) =
        let (left, at) = actual_address l ss t.first t.variable t.has in
        let (other, too) = actual_address l ss t.second t.variable t.too in
        absurd (h t.first t.second t.variable left other t.apart t.within at too)
    go (inr d) = d

pub no_clash : (e : Effects) (l : Layout) (ss : List Shape) → AreApart (length l.formals) ss
    → NoneOfTop (is_outer e) l.entry (length l.formals) ss → false ≡ call_clashes e l ss
no_clash e l ss h none =
    sym (both_false (not (all_new [] (actuals l.formals ss (length l.formals))))
    (meets_outer e l.entry (actuals l.formals ss (length l.formals))) (ap not (apart_new l ss h))
    (none_found (is_outer e) l.entry l ss none))

-- ---- what a block does outside itself

module _ (e : Effects) (entry : ℕ) where
  outer_is : (xs : List ℕ) → meets_outer e entry xs ≡ true → (x : ℕ) × IsMember x xs × (touches e entry x ≡ true)
      × (owns e.own.keys entry x ≡ false)
  outer_is [] h = absurd (cc h)
  outer_is (x ∷ xs) h =
      ⊎_elim (λ k. let b = and_parts (touches e entry x) (not (owns e.own.keys entry x)) k in
      (x, inl refl, b.0, not-true (owns e.own.keys entry x) b.1))
      (λ k. let (y, among, is_touched, not_own) = outer_is xs k in (y, inr among, is_touched, not_own))
      (or_cases (is_outer e entry x) (meets_outer e entry xs) h)

  is_outer_from : (x : ℕ) → touches e entry x ≡ true → owns e.own.keys entry x ≡ false → is_outer e entry x ≡ true
  is_outer_from x h f = and_from (touches e entry x) (not (owns e.own.keys entry x)) h
      (not_from_false (owns e.own.keys entry x) f)

  outer_from : (xs : List ℕ) (x : ℕ) → IsMember x xs → touches e entry x ≡ true → owns e.own.keys entry x ≡ false
      → meets_outer e entry xs ≡ true
  outer_from [] x m h f = absurd m
  outer_from (y ∷ ys) x (inl s) h f =
      or_left (is_outer e entry y) (meets_outer e entry ys)
      (subst (λ z. is_outer e entry z ≡ true) s (is_outer_from x h f))
  outer_from (y ∷ ys) x (inr m) h f = or_right (is_outer e entry y) (meets_outer e entry ys)
      (outer_from ys x m h f)

-- ---- one call

-- the place of a layout that is there
pub place_there : (ls : List Layout) (b : ℕ) (l : Layout) → layout_of ls b ≡ Some l → (j : ℕ)
    × (number_from 0 ls b ≡ Some j) × (slice_get ls j ≡ Some l)
place_there ls b l e = go (number_from 0 ls b) refl
  where
    go : (o : Option ℕ) → number_from 0 ls b ≡ o → (j : ℕ) × (number_from 0 ls b ≡ Some j) × (slice_get ls j ≡ Some l)
    go None f = absurd (none-some l (sym (place_none 0 ls b f) ∙ e))
    go (Some j) f = (j, f, place_some ls b j f ∙ e)

-- what a block does to the variables that a call passes, unless they are its own
abbrev pub AsksActuals : Asked → Layout → List Shape → Type 0
AsksActuals k l ss = (j x : ℕ) → IsActual l ss j x → (IsMember x l.variables → ⊥)
    → (is_asked k l.entry (effect.Stores x) ≡ true) × (is_asked k l.entry (effect.Loads x) ≡ true)

module _ (c : Parts) (e : Effects) (are : AreEffects c e) (kept : (p : ℕ) → BreaksV1 c p → ⊥) (l : Layout) (b : ℕ)
    (at : layout_of c.layouts b ≡ Some l) (ss : List Shape) (asks : AsksActuals e.asked l ss) where
  asks_body : (d : Effect) → is_asked e.asked l.entry d ≡ true
      → is_asked e.asked (entry_of_layout (layout_of c.layouts b)) d ≡ true
  asks_body d = subst (λ n. is_asked e.asked n d ≡ true) (sym (ap entry_of_layout at))

  touched : (k x : ℕ) → IsActual l ss k x → (IsMember x l.variables → ⊥)
      → (touches e l.entry x ≡ true) ↔ HasEffect c (Does c) (Body b) x
  touched k x f m = subst (λ n. (touches e n x ≡ true) ↔ HasEffect c (Does c) (Body b) x) (ap entry_of_layout at)
      (are.found.touched (Body b) x (l, at) (asks_body (effect.Stores x) (asks k x f m).0)
      (asks_body (effect.Loads x) (asks k x f m).1))

  abbrev pub Xs : List ℕ
  Xs = actuals l.formals ss (length l.formals)

  outer_rule : meets_outer e l.entry Xs ≡ true → (k x : ℕ) × IsActual l ss k x
      × fork.IsOuter c (Does c) (HasStop c) l b x
  outer_rule h =
      let (x, among, is_touched, not_own) = outer_is e l.entry Xs h in
      let i = member_at l ss (length l.formals) x among in
      let actual = at_is l ss i.0 x i.1 i.2 in
      let outside : IsMember x l.variables → ⊥ = λ m. not_true_and_false (owns e.own.keys l.entry x)
      (in_own c kept e.own.keys are.found.own b l at x m) not_own in (
        length l.formals - 1 - i.0,
        x,
        actual,
        ((touched (length l.formals - 1 - i.0) x actual outside).0 is_touched, outside),
      )

  rule_outer : (k x : ℕ) × IsActual l ss k x × fork.IsOuter c (Does c) (HasStop c) l b x
      → meets_outer e l.entry Xs ≡ true
  rule_outer (k, x, f, (h, m)) =
      let a = is_at l ss k x f in
      let y = a.0 in
      outer_from e l.entry Xs x (at_member l ss (length l.formals) (length l.formals - 1 - k) x
      (omega (arith, y)) a.1) ((touched k x f m).1 h)
      (false_from_ne_true (owns e.own.keys l.entry x) (λ g. m (own_in c kept e.own.keys are.found.own b l at x g)))

  pub clash_rule : call_clashes e l ss ≡ true → fork.BreaksV7 c (Does c) (HasStop c) l b ss
  clash_rule h = ⊎_elim (λ k. inl (go (twice_or l ss (length l.formals)) k)) (λ k. inr (outer_rule k))
      (or_cases (not (all_new [] Xs)) (meets_outer e l.entry Xs) h)
    where
      go : Twice l ss (length l.formals) ⊎ AllDifferent Xs → not (all_new [] Xs) ≡ true → IsTwice l ss
      go (inl t) k = twice_is l ss t
      go (inr d) k = absurd (not_true_and_false (all_new [] Xs) (new_from [] Xs d (λ x m. refl))
          (not-true (all_new [] Xs) k))

  pub rule_clash : fork.BreaksV7 c (Does c) (HasStop c) l b ss → call_clashes e l ss ≡ true
  rule_clash (inl t) = or_left (not (all_new [] Xs)) (meets_outer e l.entry Xs)
      (not_from_false (all_new [] Xs) (false_from_ne_true (all_new [] Xs) (λ h. is_twice l ss (new_is [] Xs h).0 t)))
  rule_clash (inr t) = or_right (not (all_new [] Xs)) (meets_outer e l.entry Xs) (rule_outer t)

-- ---- at an instruction

-- a call that clashes
abbrev pub CallBreaks : Parts → ℕ → Type 0
CallBreaks c p = (a : Area) × (b up : ℕ) × (ss : List Shape) × (l : Layout) × IsArea c a × IsCalled c a p b up ss l
    × fork.BreaksV7 c (Does c) (HasStop c) l b ss

pub call_within : (c : Parts) (e : Effects) (s : Shapes) → AreShapes c s → (p : ℕ) → CallFails c e s p
    → p < length c.instrs
call_within c e s shapes p h =
    let x = given_true (reached_at s p) (λ n. on_option false (called_block (instr_at c p))
    (λ b. on_option false (layout_of c.layouts b) (λ l. call_clashes e l (list_of s.stacks n)))) h in
    let l = slice_get_within s.at p (Some x.0) (stands s p x.0 x.1) in
    let z = shapes.size in
    omega (arith, l, z)

module _ (c : Parts) (e : Effects) (are : AreEffects c e) (kept : (p : ℕ) → BreaksV1 c p → ⊥) (s : Shapes)
    (shapes : AreShapes c s) (p : ℕ) (below : is_below e.asked.known.clash p ≡ true) where
  abbrev pub by_block : ℕ → ℕ → Bool
  by_block n b = on_option false (layout_of c.layouts b) (λ l. call_clashes e l (list_of s.stacks n))

  abbrev pub by_stack : ℕ → Bool
  by_stack n = on_option false (called_block (instr_at c p)) (by_block n)

  pub call_found : CallFails c e s p → CallBreaks c p
  call_found h =
      let x = given_true (reached_at s p) by_stack h in
      let n = x.0 in
      let y = given_true (called_block (instr_at c p)) (by_block n) x.2 in
      let b = y.0 in
      let z = given_true (layout_of c.layouts b) (λ l. call_clashes e l (list_of s.stacks n)) y.2 in
      let (a, (is_area, comes)) = shapes.come p n (stands s p n x.1) in
      let call = called_is (instr_at c p) b y.1 in (
        a,
        b,
        call.0,
        list_of s.stacks n,
        z.0,
        is_area,
        record { reached = comes; call = call.1; layout = z.1 },
        clash_rule c e are kept z.0 b z.1 (list_of s.stacks n)
            (are.asks.calls a p b call.0 (list_of s.stacks n) z.0 is_area
            (record { reached = comes; call = call.1; layout = z.1 }) below) z.2,
      )

  pub call_finds : CallBreaks c p → CallFails c e s p
  call_finds (a, b, up, ss, l, there, is, h) =
      let k = shapes.all a p ss (there, is.reached) in
      let n = k.0 in
      let clash = rule_clash c e are kept l b is.layout (list_of s.stacks n)
      (subst (AsksActuals e.asked l) (sym k.2) (are.asks.calls a p b up ss l there is below))
      (subst (λ (z : List Shape). fork.BreaksV7 c (Does c) (HasStop c) l b z) (sym k.2) h) in
      given_at false (reached_at s p) by_stack n (reached_there s p n k.1)
      ∙ given_at false (called_block (instr_at c p)) (by_block n) b (ap called_block is.call)
      ∙ given_at false (layout_of c.layouts b) (λ m. call_clashes e m (list_of s.stacks n)) l is.layout
      ∙ clash

-- ---- what is asked about

module _ (k : Asked) (ks : List (ℕ × ℕ)) (m : ℕ) where
  -- where nothing is missing for these variables
  none_lacks : (xs : List ℕ) → list_any (lacks_actual k ks m) xs ≡ false → (x : ℕ) → IsMember x xs
      → lacks_actual k ks m x ≡ false
  none_lacks [] e x h = absurd h
  none_lacks (y ∷ ys) e x (inl s) = subst (λ z. lacks_actual k ks m z ≡ false) (sym s)
      (or_parts (lacks_actual k ks m y) (list_any (lacks_actual k ks m) ys) e).0
  none_lacks (y ∷ ys) e x (inr h) = none_lacks ys
      (or_parts (lacks_actual k ks m y) (list_any (lacks_actual k ks m) ys) e).1 x h

  both_asked : (x : ℕ) → owns ks m x ≡ false → lacks_actual k ks m x ≡ false
      → (is_asked k m (effect.Stores x) ≡ true) × (is_asked k m (effect.Loads x) ≡ true)
  both_asked x f e = go (owns ks m x) (is_asked k m (effect.Stores x)) (is_asked k m (effect.Loads x)) f e
    where
      go : (o s l : Bool) → o ≡ false → (not o && not (s && l)) ≡ false → (s ≡ true) × (l ≡ true)
      go true s l z w = absurd (cc z)
      go false true true z w = (refl, refl)
      go false true false z w = absurd (cc w)
      go false false l z w = absurd (cc w)

pub calls_asked : (c : Parts) → ((p : ℕ) → BreaksV1 c p → ⊥) → (s : Shapes) → AreShapes c s → (k : Asked)
    → (ks : List (ℕ × ℕ)) → AreOwn c ks → (n : ℕ)
    → ((q : ℕ) → q < length c.instrs → is_below k.known.clash q ≡ true → q < n)
    → ((q : ℕ) → q < n → lacks_at c k ks s q ≡ false) → AsksCalls c k
calls_asked c kept s shapes k ks own n all none a p b up ss l there call below j x f outside =
    let r = shapes.all a p ss (there, call.reached) in
    let stack = r.0 in
    let within = slice_get_within c.instrs p (i.Call b up) call.call in
    let lacks = given_at false (reached_at s p) (λ m. on_option false (called_block (instr_at c p)) (by m)) stack
    (reached_there s p stack r.1)
    ∙ given_at false (called_block (instr_at c p)) (by stack) b (ap called_block call.call)
    ∙ given_at false (layout_of c.layouts b) (λ m. lacks_operands k ks m (list_of s.stacks stack)) l call.layout in
    let none_here = sym lacks ∙ none p (all p within below) in
    let actual = subst (λ (z : List Shape). IsActual l z j x) (sym r.2) f in
    let y = is_at l (list_of s.stacks stack) j x actual in
    let h = y.0 in
    let member = at_member l (list_of s.stacks stack) (length l.formals) (length l.formals - 1 - j) x
    (omega (arith, h)) y.1 in
    both_asked k ks l.entry x (false_from_ne_true (owns ks l.entry x)
    (λ g. outside (own_in c kept ks own b l call.layout x g)))
    (none_lacks k ks l.entry (actuals l.formals (list_of s.stacks stack) (length l.formals)) none_here x member)
  where
    by : ℕ → ℕ → Bool
    by m d = on_option false (layout_of c.layouts d) (λ z. lacks_operands k ks z (list_of s.stacks m))
