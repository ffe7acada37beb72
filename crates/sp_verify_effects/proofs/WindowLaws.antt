-- Windows of lists: each is made of the one of the list below.
use Rattle.std.proofs.Common.{◌≡◌, ◌⊎◌, inl, inr, ⊎_elim, refl, sym, ap, subst, ◌∙◌, ℕ, zero, suc, ◌+◌, ◌<◌, ◌≤◌, List}
use Rattle.std.proofs.Common.{[], ◌∷◌, ◌++◌, length, Some, None, Bool, true, false, arith}
use Rattle.std.specs.Prelude.{slice_get, cond}
use Rattle.std.specs.Ordering.{is_eq, nat_cmp}
use Rattle.std.specs.BTreeMap.{BTreeMap, get, is_at}
use Rattle.std.proofs.lemmas.List.{length-append}
use Rattle.std.proofs.lemmas.Option.{none-some, same_Some}
use Rattle.sp_base.proofs.Facts.{below_or_last}
use Rattle.sp_verify_rules.specs.Shapes.{Shape, A}
use Rattle.sp_verify_shapes.specs.declared.stacks.Stacks.{Stacks}
use Rattle.sp_verify_shapes.specs.Stacks.{list_of}
use Rattle.sp_verify_effects.specs.declared.windows.Window.{Window}
use Rattle.sp_verify_effects.specs.Calls.{variable_of}
use Rattle.sp_verify_effects.specs.Windows.{AreApart, AreFirstWindows, AreLast, AreWindows, IsHeld, IsWindow, Tops}
use Rattle.sp_verify_effects.proofs.Members.{nat_same}

module _ (st : Stacks) where
  -- ---- one window

  pub no_window : (n : ℕ) (w : Window) → w.count ≡ 0 → IsWindow st n w
  no_window n w e = record {
    apart = λ i j x l m a b f g. absurd (omega (arith, b, e));
    held = λ i x left l f. absurd (omega (arith, l, e));
  }

  pub one_window : (n : ℕ) (w : Window) → w.count ≡ 1 → w.deep ≡ n → IsWindow st n w
  one_window n w e d = record {
    apart = λ i j x l m a b f g. absurd (omega (arith, a, b, e));
    held = λ i x left l f. (
      n,
      omega (arith, d),
      omega arith,
      (left, subst (λ z. slice_get (list_of st n) z ≡ Some (A x left)) (omega (arith, l, e)) f),
    );
  }

  -- the address of a variable stands there
  abbrev pub StandsAt : List Shape → ℕ → ℕ → Type 0
  StandsAt ss i x = (left : ℕ) × (slice_get ss i ≡ Some (A x left))

  module _ (n below : ℕ) (s : Shape) (is : list_of st n ≡ s ∷ list_of st below) (v w : Window)
      (window : IsWindow st below v) (new : (x left i : ℕ) → s ≡ A x left → i < v.count
      → StandsAt (list_of st below) i x → ⊥)
      (count : w.count ≤ v.count + 1) (deep : w.deep ≤ v.deep) (least : w.deep ≤ n)
      (before : 0 < v.count → below ≤ n) where
    on_top : (x left : ℕ) → slice_get (list_of st n) 0 ≡ Some (A x left) → s ≡ A x left
    on_top x left e = same_Some s (A x left) (ap (λ (z : List Shape). slice_get z 0) (sym is) ∙ e)

    further : (i x left : ℕ) → slice_get (list_of st n) (suc i) ≡ Some (A x left)
        → slice_get (list_of st below) i ≡ Some (A x left)
    further i x left e = ap (λ (z : List Shape). slice_get z (suc i)) (sym is) ∙ e

    apart : AreApart w.count (list_of st n)
    apart zero zero x l m a b f g = absurd (omega (arith, a))
    apart zero (suc j) x l m a b f g = new x l j (on_top x l f) (omega (arith, b, count)) (m, further j x m g)
    apart (suc i) zero x l m a b f g = absurd (omega (arith, a))
    apart (suc i) (suc j) x l m a b f g = window.apart i j x l m (omega (arith, a)) (omega (arith, b, count))
        (further i x l f) (further j x m g)

    held : (i x left : ℕ) → i < w.count → slice_get (list_of st n) i ≡ Some (A x left) → IsHeld st w.deep n x
    held zero x left l f = (n, least, omega arith, (left, f))
    held (suc i) x left l f =
        let z : i < v.count = omega (arith, l, count) in
        let (q, low, high, top) = window.held i x left z (further i x left f) in
        let b = before (omega (arith, z)) in
        (q, omega (arith, low, deep), omega (arith, high, b), top)

    pub wider_window : IsWindow st n w
    wider_window = record { apart = apart; held = held }

  -- ---- the window of the next list

  no_variable : (s : Shape) → variable_of s ≡ None → (x left : ℕ) → s ≡ A x left → ⊥
  no_variable s e x left h = none-some x (sym e ∙ ap variable_of h)

  module _ (n below : ℕ) (s : Shape) (is : list_of st n ≡ s ∷ list_of st below) (ws : List Window)
      (last : BTreeMap ℕ ℕ) (first : AreFirstWindows st n ws last) (v w : Window) (window : IsWindow st below v)
      (there : 0 < v.count → below < length ws) (count : w.count ≤ v.count + 1) (deep : w.deep ≤ v.deep)
      (least : w.deep ≤ n) where
    before : 0 < v.count → below < n
    before l = subst (λ z. below < z) first.size (there l)

    earlier : 0 < v.count → below ≤ n
    earlier l = let b = before l in omega (arith, b)

    pub next_other : variable_of s ≡ None → IsWindow st n w
    next_other e = wider_window n below s is v w window (λ x left i h. absurd (no_variable s e x left h)) count deep
        least earlier

    pub next_new : (y : ℕ) → variable_of s ≡ Some y → ((m : ℕ) → get nat_cmp last y ≡ Some m → m < v.deep)
        → IsWindow st n w
    next_new y e less = wider_window n below s is v w window new count deep least earlier
      where
        new : (x left i : ℕ) → s ≡ A x left → i < v.count → StandsAt (list_of st below) i x → ⊥
        new x left i h l (other, at) =
            let (q, low, high, top) = window.held i x other l at in
            let b = before (omega (arith, l)) in
            let same : x ≡ y = same_Some x y (sym (ap variable_of h) ∙ e) in
            let (m, is_last, late) = first.last q x (omega (arith, high, b)) top in
            let z = less m (ap (get nat_cmp last) (sym same) ∙ is_last) in
            omega (arith, low, late, z)

  -- ---- the last lists

  pub no_last : (last : BTreeMap ℕ ℕ) → AreLast st 0 last
  no_last last q x l top = absurd (omega (arith, l))

  last_same : (n : ℕ) (last : BTreeMap ℕ ℕ) → ((x : ℕ) → Tops st n x → ⊥) → AreLast st n last
      → AreLast st (n + 1) last
  last_same n last none h q x l top = ⊎_elim (λ z. h q x z top)
      (λ e. absurd (none x (subst (λ z. Tops st z x) e top))) (below_or_last q n l)

  pub last_other : (n : ℕ) (s : Shape) (last : BTreeMap ℕ ℕ) → slice_get (list_of st n) 0 ≡ Some s
      → variable_of s ≡ None → AreLast st n last → AreLast st (n + 1) last
  last_other n s last is e = last_same n last
      (λ x top. no_variable s e x top.0 (same_Some s (A x top.0) (sym is ∙ top.1)))

  pub last_none : (n : ℕ) (last : BTreeMap ℕ ℕ) → list_of st n ≡ [] → AreLast st n last → AreLast st (n + 1) last
  last_none n last e = last_same n last
      (λ x top. none-some (A x top.0) (ap (λ (z : List Shape). slice_get z 0) (sym e) ∙ top.1))

  pub last_put : (n y : ℕ) (s : Shape) (old new : BTreeMap ℕ ℕ) → slice_get (list_of st n) 0 ≡ Some s
      → variable_of s ≡ Some y
      → ((q : ℕ) → get nat_cmp new q ≡ cond (is_at (nat_cmp y) q) (Some n) (get nat_cmp old q))
      → AreLast st n old → AreLast st (n + 1) new
  last_put n y s old new is e u h q x l top = go (is_eq (nat_cmp y x)) refl (below_or_last q n l)
    where
      go : (t : Bool) → is_eq (nat_cmp y x) ≡ t → (q < n) ⊎ (q ≡ n)
          → (m : ℕ) × (get nat_cmp new x ≡ Some m) × (q ≤ m)
      go true f b = (n, u x ∙ ap (λ t. cond t (Some n) (get nat_cmp old x)) f, omega (arith, l))
      go false f (inl b) =
          let (m, at, high) = h q x b top in
          (m, u x ∙ ap (λ t. cond t (Some n) (get nat_cmp old x)) f ∙ at, high)
      go false f (inr z) =
          let g = subst (λ k. slice_get (list_of st k) 0 ≡ Some (A x top.0)) z top.1 in
          let v : y ≡ x = same_Some y x (sym e ∙ ap variable_of (same_Some s (A x top.0) (sym is ∙ g))) in
          absurd (cc (sym f ∙ ap (λ z. is_eq (nat_cmp y z)) (sym v) ∙ nat_same y))

  -- ---- one list more

  at_last : (ws : List Window) (w v : Window) (n : ℕ) → slice_get (ws ++ w ∷ []) n ≡ Some v
      → (slice_get ws n ≡ Some v) ⊎ ((n ≡ length ws) × (w ≡ v))
  at_last [] w v zero e = inr (refl, same_Some w v e)
  at_last [] w v (suc n) e = absurd (none-some v e)
  at_last (x ∷ ws) w v zero e = inl e
  at_last (x ∷ ws) w v (suc n) e = ⊎_elim (λ h. inl h) (λ h. inr (ap suc h.0, h.1)) (at_last ws w v n e)

  pub windows_more : (n : ℕ) (ws vs : List Window) (w : Window) (old new : BTreeMap ℕ ℕ) → vs ≡ ws ++ w ∷ []
      → AreFirstWindows st n ws old → IsWindow st n w → AreLast st (n + 1) new → AreFirstWindows st (n + 1) vs new
  windows_more n ws vs w old new e h is last = record {
    size = ap (λ (z : List Window). length z) e ∙ length-append ws (w ∷ []) ∙ ap (λ z. z + 1) h.size;
    windows = λ k v f. ⊎_elim (λ g. h.windows k v g)
        (λ g. subst (λ z. IsWindow st z v) (sym (g.0 ∙ h.size)) (subst (IsWindow st n) g.1 is))
        (at_last ws w v k (ap (λ (z : List Window). slice_get z k) (sym e) ∙ f));
    last = last;
  }

  pub no_windows : (ws : List Window) → ws ≡ [] → AreWindows st ws
  no_windows ws e n w f = absurd (none-some w (ap (λ (z : List Window). slice_get z n) (sym e) ∙ f))

  pub first_windows : (ws : List Window) (last : BTreeMap ℕ ℕ) → ws ≡ [] → AreFirstWindows st 0 ws last
  first_windows ws last e = record {
    size = ap (λ (z : List Window). length z) e;
    windows = no_windows ws e;
    last = no_last last;
  }
