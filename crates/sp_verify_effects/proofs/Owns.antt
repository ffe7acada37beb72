-- What instructions do themselves is told as facts: what each adds to those before it.
use Rattle.std.proofs.Common.{◌≡◌, ◌⊎◌, inl, inr, ⊎_elim, refl, ap, sym, ◌∙◌, subst, ℕ, zero, suc, ◌+◌, ◌<◌, List, []}
use Rattle.std.proofs.Common.{◌∷◌, length, take, Option, Some, None, Bool, true, false, get_or, arith, add-one}
use Rattle.std.specs.Prelude.{slice_get}
use Rattle.sp_tree.specs.Interference.{IsMember}
use Rattle.sp_code.specs.declared.instr.Instr.{Instr}
use Rattle.sp_code.specs.declared.code.Parts.{Parts}
use Rattle.sp_verify_rules.specs.Areas.{Area, instr_at, entry}
use Rattle.sp_verify_rules.specs.Shapes.{Shape}
use Rattle.sp_verify_rules.specs.NameRules.{LiesIn}
use Rattle.sp_verify_rules.specs.Touches.{stored_by, loaded_by}
use Rattle.sp_verify_rules.specs.Verdict.{is_stop}
use Rattle.sp_verify_rules.proofs.ShapePaths.{passes}
use Rattle.sp_verify_rules.specs.Rules.{ComesTo}
use Rattle.sp_verify_areas.specs.Only.{LiesOnlyIn}
use Rattle.sp_code.specs.declared.code.ChildTable.{ChildTable}
use Rattle.sp_verify_shapes.specs.declared.shapes.Shapes.{Shapes}
use Rattle.sp_verify_shapes.specs.Shapes.{AreShapes}
use Rattle.sp_verify_shapes.specs.ReachRules.{reached_at}
use Rattle.sp_verify_shapes.specs.Stacks.{list_of}
use Rattle.sp_verify_shapes.proofs.ReachLaws.{reached_there, stands}
use Rattle.std.proofs.lemmas.Option.{none-some, same_Some}
use Rattle.sp_base.proofs.Facts.{below_or_last, not_true_and_false}
use Rattle.sp_verify_effects.specs.declared.asked_areas.Asked.{Asked}
use Rattle.sp_verify_effects.specs.declared.facts.Fact.{Fact}
use Rattle.sp_verify_effects.specs.declared.facts.Effect.{Effect}
use Rattle.sp_verify_effects.specs.declared.facts.Effect.TheVariants as effect
use Rattle.sp_verify_effects.specs.Facts.{fact, with_fact, Tells}
use Rattle.sp_verify_effects.specs.AskedAreas.{is_asked, is_marked}
use Rattle.sp_verify_effects.specs.Own.{IsOf, IsEffectAmong, IsStop, IsHanded, OneIsHanded, ForkedAt, ReachedAt, OwnAt}
use Rattle.sp_verify_effects.specs.Own.{AskedAt, OwnBefore, TellsAsked}
use Rattle.sp_verify_effects.specs.Own.{DoesBy, effect_of}
use Rattle.sp_verify_effects.proofs.AreaQueries.{marked}
use Rattle.sp_verify_effects.proofs.FactSets.{tells_none, tells_as, tells_then, tells_one}

-- ---- lists

in_first : (xs : List ℕ) (i x y : ℕ) → slice_get xs i ≡ Some y → IsMember x (take (suc i) xs)
    → IsMember x (take i xs) ⊎ (x ≡ y)
in_first [] i x y e h = absurd (none-some y e)
in_first (z ∷ xs) zero x y e h = inr (⊎_elim (λ s. s ∙ same_Some z y e) (λ n. absurd (none xs n)) h)
  where
    none : (ys : List ℕ) → IsMember x (take 0 ys) → ⊥
    none [] n = n
    none (w ∷ ys) n = n
in_first (z ∷ xs) (suc i) x y e h = ⊎_elim (λ s. inl (inl s))
    (λ n. ⊎_elim (λ m. inl (inr m)) (λ s. inr s) (in_first xs i x y e n)) h

first_in : (xs : List ℕ) (i x y : ℕ) → slice_get xs i ≡ Some y → IsMember x (take i xs) ⊎ (x ≡ y)
    → IsMember x (take (suc i) xs)
first_in [] i x y e h = absurd (none-some y e)
first_in (z ∷ xs) zero x y e h = ⊎_elim (λ n. absurd n) (λ s. inl (s ∙ sym (same_Some z y e))) h
first_in (z ∷ xs) (suc i) x y e (inl (inl s)) = inl s
first_in (z ∷ xs) (suc i) x y e (inl (inr n)) = inr (first_in xs i x y e (inl n))
first_in (z ∷ xs) (suc i) x y e (inr s) = inr (first_in xs i x y e (inr s))

pub read : (xs : List ℕ) (i : ℕ) → i < length xs → slice_get xs i ≡ Some (get_or xs i 0)
read [] i l = absurd (omega (arith, l))
read (x ∷ xs) zero l = refl
read (x ∷ xs) (suc i) l = read xs i (omega (arith, l))

pub in_taken : (xs : List ℕ) (i x y : ℕ) → slice_get xs i ≡ Some y → IsMember x (take (i + 1) xs)
    → IsMember x (take i xs) ⊎ (x ≡ y)
in_taken xs i x y e h = in_first xs i x y e (subst (λ n. IsMember x (take n xs)) (add-one i) h)

pub taken_in : (xs : List ℕ) (i x y : ℕ) → slice_get xs i ≡ Some y → IsMember x (take i xs) ⊎ (x ≡ y)
    → IsMember x (take (i + 1) xs)
taken_in xs i x y e h = subst (λ n. IsMember x (take n xs)) (sym (add-one i)) (first_in xs i x y e h)

-- ---- one fact

pub fact_is : (n : ℕ) (e : Effect) (f : Fact) → f.area ≡ n → f.effect ≡ e → f ≡ fact n e
fact_is n e f p q = λ i. record { area = p i; effect = q i }

-- ---- what is asked about

module _ (k : Asked) where
  abbrev pub IsWanted : Fact → Type 0
  IsWanted f = is_asked k f.area f.effect ≡ true

  pub asked_as : (a b : List Fact) (W V : Fact → Type 0) → ((f : Fact) → W f → V f) → ((f : Fact) → V f → W f)
      → TellsAsked k a b W → TellsAsked k a b V
  asked_as a b W V to from t = tells_as a b (λ f. W f × IsWanted f) (λ f. V f × IsWanted f)
      (λ f w. (to f w.0, w.1)) (λ f w. (from f w.0, w.1)) t

  pub asked_then : (a b d : List Fact) (W V : Fact → Type 0) → TellsAsked k a b W → TellsAsked k b d V
      → TellsAsked k a d (λ f. W f ⊎ V f)
  asked_then a b d W V s t = tells_as a d (λ f. (W f × IsWanted f) ⊎ (V f × IsWanted f))
      (λ f. (W f ⊎ V f) × IsWanted f) to from (tells_then a b d (λ f. W f × IsWanted f) (λ f. V f × IsWanted f) s t)
    where
      to : (f : Fact) → (W f × IsWanted f) ⊎ (V f × IsWanted f) → (W f ⊎ V f) × IsWanted f
      to f (inl w) = (inl w.0, w.1)
      to f (inr w) = (inr w.0, w.1)

      from : (f : Fact) → (W f ⊎ V f) × IsWanted f → (W f × IsWanted f) ⊎ (V f × IsWanted f)
      from f (inl w, q) = inl (w, q)
      from f (inr w, q) = inr (w, q)

  pub asked_none : (a : List Fact) (W : Fact → Type 0) → ((f : Fact) → W f → ⊥) → TellsAsked k a a W
  asked_none a W h = tells_none a (λ f. W f × IsWanted f) (λ f w. absurd (h f w.0))

  same_wanted : (n : ℕ) (e : Effect) (f : Fact) → f ≡ fact n e
      → is_asked k f.area f.effect ≡ is_asked k n e
  same_wanted n e f s = ap (λ (z : Fact). is_asked k z.area z.effect) s

  pub one_asked : (a : List Fact) (n : ℕ) (e : Effect) → is_asked k n e ≡ true
      → TellsAsked k a (with_fact a (fact n e)) (λ f. f ≡ fact n e)
  one_asked a n e h = tells_as a (with_fact a (fact n e)) (λ f. f ≡ fact n e) (λ f. (f ≡ fact n e) × IsWanted f)
      (λ f s. (s, same_wanted n e f s ∙ h)) (λ f w. w.0) (tells_one a (fact n e))

  pub one_unasked : (a : List Fact) (n : ℕ) (e : Effect) → is_asked k n e ≡ false
      → TellsAsked k a a (λ f. f ≡ fact n e)
  one_unasked a n e h = tells_none a (λ f. (f ≡ fact n e) × IsWanted f)
      (λ f w. absurd (not_true_and_false (is_asked k n e) (sym (same_wanted n e f w.0) ∙ w.1) h))

-- what an area does in one way more
pub of_one : (n : ℕ) (e : Effect) (g : Fact) (D : Effect → Type 0) (f : Fact) → g ≡ fact n e → f ≡ g → D e → IsOf n D f
of_one n e g D f s h d = let p = h
    ∙ s in record { area = ap (λ (x : Fact). x.area) p; does = subst D (sym (ap (λ (x : Fact). x.effect) p)) d }

pub told_more : (k : Asked) (a b d : List Fact) (n i y : ℕ) (s : Bool) (xs : List ℕ) (e : Effect)
    → slice_get xs i ≡ Some y → e ≡ effect_of s y
    → TellsAsked k a b (IsOf n (IsEffectAmong s (take i xs))) → TellsAsked k b d (λ f. f ≡ fact n e)
    → TellsAsked k a d (IsOf n (IsEffectAmong s (take (i + 1) xs)))
told_more k a b d n i y s xs e g h t u =
    asked_as k a d (λ f. IsOf n (IsEffectAmong s (take i xs)) f
    ⊎ (f ≡ fact n e)) (IsOf n (IsEffectAmong s (take (i + 1) xs))) to from
    (asked_then k a b d (IsOf n (IsEffectAmong s (take i xs))) (λ f. f ≡ fact n e) t u)
  where
    to : (f : Fact) → IsOf n (IsEffectAmong s (take i xs)) f ⊎ (f ≡ fact n e)
        → IsOf n (IsEffectAmong s (take (i + 1) xs)) f
    to f (inl o) = record { area = o.area; does = (o.does.0, taken_in xs i o.does.0 y g (inl o.does.1), o.does.2) }
    to f (inr p) = of_one n e (fact n e) (IsEffectAmong s (take (i + 1) xs)) f refl p
        (y, taken_in xs i y y g (inr refl), h)

    from : (f : Fact) → IsOf n (IsEffectAmong s (take (i + 1) xs)) f → IsOf n (IsEffectAmong s (take i xs)) f
        ⊎ (f ≡ fact n e)
    from f o = ⊎_elim (λ m. inl (record { area = o.area; does = (o.does.0, m, o.does.2) }))
        (λ m. inr (fact_is n e f o.area (o.does.2 ∙ ap (effect_of s) m ∙ sym h))) (in_taken xs i o.does.0 y g o.does.1)

pub stop_told : (k : Asked) (a b : List Fact) (n : ℕ) (o : Instr) → is_stop (Some o) ≡ true
    → TellsAsked k a b (λ f. f ≡ fact n effect.Stops) → TellsAsked k a b (IsOf n (IsStop (Some o)))
stop_told k a b n o e t =
    asked_as k a b (λ f. f ≡ fact n effect.Stops) (IsOf n (IsStop (Some o)))
    (λ f p. of_one n effect.Stops (fact n effect.Stops) (IsStop (Some o)) f refl p (e, refl))
    (λ f h. fact_is n effect.Stops f h.area h.does.1) t

-- ---- an instruction

module _ (q : Asked) (c : Parts) (a : Area) (p : ℕ) (ss : List Shape) where
  pub shaped_told : (f g h k : List Fact) (n : ℕ) (o : Instr) (xs ys : List ℕ) → instr_at c p ≡ Some o
      → stored_by c a (Some o) ss ≡ xs → loaded_by c a (Some o) ss ≡ ys
      → TellsAsked q f g (IsOf n (IsEffectAmong true xs)) → TellsAsked q g h (IsOf n (IsEffectAmong false ys))
      → TellsAsked q h k (IsOf n (IsStop (Some o))) → TellsAsked q f k (IsOf n (DoesBy c a p ss))
  shaped_told f g h k n o xs ys ei ex ey t u v =
      asked_as q f k (λ z. (IsOf n (IsEffectAmong true xs) z ⊎ IsOf n (IsEffectAmong false ys) z)
      ⊎ IsOf n (IsStop (Some o)) z) (IsOf n (DoesBy c a p ss)) to from
      (asked_then q f h k (λ z. IsOf n (IsEffectAmong true xs) z
      ⊎ IsOf n (IsEffectAmong false ys) z) (IsOf n (IsStop (Some o)))
      (asked_then q f g h (IsOf n (IsEffectAmong true xs)) (IsOf n (IsEffectAmong false ys)) t u) v)
    where
      es : stored_by c a (instr_at c p) ss ≡ xs
      es = ap (λ (z : Option Instr). stored_by c a z ss) ei ∙ ex

      el : loaded_by c a (instr_at c p) ss ≡ ys
      el = ap (λ (z : Option Instr). loaded_by c a z ss) ei ∙ ey

      stored : (x : ℕ) (d : Effect) → IsMember x xs → d ≡ effect.Stores x → DoesBy c a p ss d
      stored x d i s = subst (DoesBy c a p ss) (sym s) (subst (IsMember x) (sym es) i)

      loaded : (x : ℕ) (d : Effect) → IsMember x ys → d ≡ effect.Loads x → DoesBy c a p ss d
      loaded x d i s = subst (DoesBy c a p ss) (sym s) (subst (IsMember x) (sym el) i)

      stops : (d : Effect) → is_stop (Some o) ≡ true → d ≡ effect.Stops → DoesBy c a p ss d
      stops d e s = subst (DoesBy c a p ss) (sym s) (ap is_stop ei ∙ e)

      to : (z : Fact) → (IsOf n (IsEffectAmong true xs) z ⊎ IsOf n (IsEffectAmong false ys) z)
          ⊎ IsOf n (IsStop (Some o)) z
          → IsOf n (DoesBy c a p ss) z
      to z (inl (inl w)) = record { area = w.area; does = stored w.does.0 z.effect w.does.1 w.does.2 }
      to z (inl (inr w)) = record { area = w.area; does = loaded w.does.0 z.effect w.does.1 w.does.2 }
      to z (inr w) = record { area = w.area; does = stops z.effect w.does.0 w.does.1 }

      split : (d : Effect) → DoesBy c a p ss d → (IsEffectAmong true xs d ⊎ IsEffectAmong false ys d)
          ⊎ IsStop (Some o) d
      split (effect.Stores x) i = inl (inl (x, subst (IsMember x) es i, refl))
      split (effect.Loads x) i = inl (inr (x, subst (IsMember x) el i, refl))
      split effect.Stops e = inr (sym (ap is_stop ei) ∙ e, refl)

      from : (z : Fact) → IsOf n (DoesBy c a p ss) z
          → (IsOf n (IsEffectAmong true xs) z ⊎ IsOf n (IsEffectAmong false ys) z)
          ⊎ IsOf n (IsStop (Some o)) z
      from z w =
          ⊎_elim (λ r. inl (⊎_elim (λ q. inl (record { area = w.area; does = q }))
          (λ q. inr (record { area = w.area; does = q })) r)) (λ q. inr (record { area = w.area; does = q }))
          (split z.effect w.does)

-- ---- children

pub child_told : (k : Asked) (f g h : List Fact) (n : ℕ) (t : ChildTable) (ms ss : List ℕ) → ms ≡ t.moved
    → ss ≡ t.shared
    → TellsAsked k f g (IsOf n (IsEffectAmong true ms)) → TellsAsked k g h (IsOf n (IsEffectAmong false ss))
    → TellsAsked k f h (IsOf n (IsHanded t))
child_told k f g h n t ms ss em es u v = asked_as k f h (λ z. IsOf n (IsEffectAmong true ms) z
    ⊎ IsOf n (IsEffectAmong false ss) z) (IsOf n (IsHanded t)) to from
    (asked_then k f g h (IsOf n (IsEffectAmong true ms)) (IsOf n (IsEffectAmong false ss)) u v)
  where
    to : (z : Fact) → IsOf n (IsEffectAmong true ms) z ⊎ IsOf n (IsEffectAmong false ss) z → IsOf n (IsHanded t) z
    to z (inl w) = record {
      area = w.area;
      does = subst (IsHanded t) (sym w.does.2)
          (subst (IsMember w.does.0) em w.does.1);
    }
    to z (inr w) = record {
      area = w.area;
      does = subst (IsHanded t) (sym w.does.2)
          (subst (IsMember w.does.0) es w.does.1);
    }

    split : (d : Effect) → IsHanded t d → IsEffectAmong true ms d ⊎ IsEffectAmong false ss d
    split (effect.Stores x) i = inl (x, subst (IsMember x) (sym em) i, refl)
    split (effect.Loads x) i = inr (x, subst (IsMember x) (sym es) i, refl)
    split effect.Stops i = absurd i

    from : (z : Fact) → IsOf n (IsHanded t) z → IsOf n (IsEffectAmong true ms) z ⊎ IsOf n (IsEffectAmong false ss) z
    from z w = ⊎_elim (λ q. inl (record { area = w.area; does = q })) (λ q. inr (record { area = w.area; does = q }))
        (split z.effect w.does)

pub children_more : (q : Asked) (f g h : List Fact) (n k : ℕ) (t : ChildTable) (ts : List ChildTable)
    → slice_get ts k ≡ Some t
    → TellsAsked q f g (IsOf n (OneIsHanded ts k)) → TellsAsked q g h (IsOf n (IsHanded t))
    → TellsAsked q f h (IsOf n (OneIsHanded ts (k + 1)))
children_more q f g h n k t ts e u v = asked_as q f h (λ z. IsOf n (OneIsHanded ts k) z
    ⊎ IsOf n (IsHanded t) z) (IsOf n (OneIsHanded ts (k + 1))) to from
    (asked_then q f g h (IsOf n (OneIsHanded ts k)) (IsOf n (IsHanded t)) u v)
  where
    to : (z : Fact) → IsOf n (OneIsHanded ts k) z ⊎ IsOf n (IsHanded t) z → IsOf n (OneIsHanded ts (k + 1)) z
    to z (inl w) =
        let (j, child, below, there, handed) = w.does in
        record { area = w.area; does = (j, child, omega (arith, below), there, handed) }
    to z (inr w) = record { area = w.area; does = (k, t, omega arith, e, w.does) }

    from : (z : Fact) → IsOf n (OneIsHanded ts (k + 1)) z → IsOf n (OneIsHanded ts k) z ⊎ IsOf n (IsHanded t) z
    from z w =
        let (j, child, below, there, handed) = w.does in
        ⊎_elim (λ less. inl (record { area = w.area; does = (j, child, less, there, handed) }))
        (λ s. inr (record {
          area = w.area;
          does = subst (λ (y : ChildTable). IsHanded y z.effect)
              (same_Some child t (sym there ∙ ap (slice_get ts) s ∙ e)) handed;
        })) (below_or_last j k below)

-- ---- at an instruction

module _ (q : Asked) (c : Parts) (p : ℕ) where
  -- ---- where it is reached

  module _ (shapes : Shapes) (are : AreShapes c shapes) where
    pub not_reached : (f : List Fact) → reached_at shapes p ≡ None → TellsAsked q f f (ReachedAt c p)
    not_reached f e = asked_none q f (ReachedAt c p) (λ z w. let k = are.all w.0 p w.1 w.2 in none-some k.0 (sym e
        ∙ reached_there shapes p k.0 k.1))

    pub reached_told : (f g : List Fact) (n s : ℕ) (a : Area) → reached_at shapes p ≡ Some s → LiesOnlyIn c p a
        → entry c a ≡ n
        → TellsAsked q f g (IsOf n (DoesBy c a p (list_of shapes.stacks s))) → TellsAsked q f g (ReachedAt c p)
    reached_told f g n s a e only at t = asked_as q f g (IsOf n (DoesBy c a p (list_of shapes.stacks s)))
        (ReachedAt c p) to from t
      where
        here : slice_get shapes.at p ≡ Some (Some s)
        here = stands shapes p s e

        same_area : (b : Area) (ss : List Shape) → ComesTo c b p ss → b ≡ a
        same_area b ss w = only.1 b (w.0, passes c b p ss w.1)

        to : (z : Fact) → IsOf n (DoesBy c a p (list_of shapes.stacks s)) z → ReachedAt c p z
        to z w =
            let k = are.come p s here in
            let b : k.0 ≡ a = same_area k.0 (list_of shapes.stacks s) k.1 in (
              a,
              list_of shapes.stacks s,
              subst (λ (y : Area). ComesTo c y p (list_of shapes.stacks s)) b k.1,
              w.area
                  ∙ sym at,
              w.does,
            )

        from : (z : Fact) → ReachedAt c p z → IsOf n (DoesBy c a p (list_of shapes.stacks s)) z
        from z (b, ss, w, h, d) =
            let o : b ≡ a = same_area b ss w in
            let k = are.all b p ss w in
            let i : s ≡ k.0 = same_Some s k.0 (same_Some (Some s) (Some k.0) (sym here ∙ k.1)) in
            let l : ss ≡ list_of shapes.stacks s = sym k.2 ∙ ap (list_of shapes.stacks) (sym i) in
            record {
              area = h ∙ ap (entry c) o
                  ∙ at;
              does = subst (λ (y : List Shape). DoesBy c a p y z.effect) l
                  (subst (λ (y : Area). DoesBy c y p ss z.effect) o d);
            }

  -- ---- both

  pub at_told : (f g h : List Fact) (n : ℕ) (a : Area) → LiesOnlyIn c p a → entry c a ≡ n
      → TellsAsked q f g (ReachedAt c p) → TellsAsked q g h (IsOf n (ForkedAt c p)) → Tells f h (AskedAt c q p)
  at_told f g h n a only at u v = asked_as q f h (λ z. ReachedAt c p z
      ⊎ IsOf n (ForkedAt c p) z) (OwnAt c p) to from (asked_then q f g h (ReachedAt c p) (IsOf n (ForkedAt c p)) u v)
    where
      to : (z : Fact) → ReachedAt c p z ⊎ IsOf n (ForkedAt c p) z → OwnAt c p z
      to z (inl (b, ss, w, e, d)) = (b, (w.0, passes c b p ss w.1), e, inl (ss, w.1, d))
      to z (inr w) =
          let (k, t, there, handed) = w.does in
          let lies = only.0 in (a, lies, w.area ∙ sym at, inr (k, t, (lies.1, there), handed))

      from : (z : Fact) → OwnAt c p z → ReachedAt c p z ⊎ IsOf n (ForkedAt c p) z
      from z (b, lies, e, inl (ss, r, d)) = inl (b, ss, (lies.0, r), e, d)
      from z (b, lies, e, inr (k, t, s, d)) = inr (record {
        area = e ∙ ap (entry c) (only.1 b lies)
            ∙ at;
        does = (k, t, s.1, d);
      })

-- ---- if the area is asked about

pub none_lies : (c : Parts) (p : ℕ) (k : Asked) (f : List Fact) → ((a : Area) → LiesIn c p a → ⊥)
    → Tells f f (AskedAt c k p)
none_lies c p k f h = tells_none f (AskedAt c k p) (λ z w. let own = w.0 in absurd (h own.0 own.1))

module _ (c : Parts) (p : ℕ) (a : Area) (n : ℕ) (only : LiesOnlyIn c p a) (at : entry c a ≡ n) where
  own_area : (z : Fact) → OwnAt c p z → z.area ≡ n
  own_area z w = w.2 ∙ ap (entry c) (only.1 w.0 w.1) ∙ at

  pub none_asked : (k : Asked) (f : List Fact) → is_marked k n ≡ false → Tells f f (AskedAt c k p)
  none_asked k f h = tells_none f (AskedAt c k p) (λ z w. absurd (not_true_and_false (is_marked k n)
      (ap (is_marked k) (sym (own_area z w.0)) ∙ marked k z.area z.effect w.1) h))

-- ---- at all

module _ (c : Parts) (k : Asked) where
  pub before_more : (f g h : List Fact) (p : ℕ) → Tells f g (OwnBefore c k p) → Tells g h (AskedAt c k p)
      → Tells f h (OwnBefore c k (p + 1))
  before_more f g h p u v = tells_as f h (λ z. OwnBefore c k p z
      ⊎ AskedAt c k p z) (OwnBefore c k (p + 1)) to from (tells_then f g h (OwnBefore c k p) (AskedAt c k p) u v)
    where
      to : (z : Fact) → OwnBefore c k p z ⊎ AskedAt c k p z → OwnBefore c k (p + 1) z
      to z (inl w) = (w.0, (let l = w.1 in omega (arith, l)), w.2)
      to z (inr w) = (p, omega arith, w)

      from : (z : Fact) → OwnBefore c k (p + 1) z → OwnBefore c k p z ⊎ AskedAt c k p z
      from z w = ⊎_elim (λ l. inl (w.0, l, w.2)) (λ s. inr (subst (λ q. AskedAt c k q z) s w.2))
          (below_or_last w.0 p w.1)
