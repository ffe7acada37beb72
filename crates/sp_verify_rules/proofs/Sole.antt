-- What a process without children may write is held by no other store. What it knows comes down to it from the process
-- that made the frame, through each parent; and along that way what moved to a child is away from all others.
use Rattle.std.proofs.Common.{◌≡◌, ◌≢◌, ◌⊎◌, inl, inr, ⊎_elim, ℕ, zero, suc, ◌≤◌, ◌<◌, Option, Some, None}
use Rattle.std.proofs.Common.{refl, sym, ap, ◌∙◌, subst, arith}
use Rattle.std.specs.Prelude.{IsSome}
use Rattle.std.proofs.lemmas.Bool.{cases_eq}
use Rattle.std.proofs.lemmas.Option.{same_Some}
use Rattle.std.specs.FinMap as map
use Rattle.sp_cell.specs.declared.spot.Spot.{Spot}
use Rattle.sp_cell.specs.Holders.{IsNotHeld}
use Rattle.sp_cell.specs.Map.{Plain, Content, Away}
use Rattle.sp_cell.specs.Spots.{In}
use Rattle.sp_journal.specs.declared.entry.Birth.{Birth}
use Rattle.sp_code.specs.Machine.{Config}
use Rattle.sp_code.specs.Memory.{Memory}
use Rattle.sp_code.specs.Sound.{identity}
use Rattle.sp_code.specs.System.{Condition, frames_of}
use Rattle.sp_verify_rules.specs.Writable.{IsWritable}
use Rattle.sp_verify_rules.specs.Apart.{config_in, map_of, spots_moved, meaning, KnowsSpot, IsMade, IsChildOf}
use Rattle.sp_verify_rules.specs.Apart.{IsHandedOn}
use Rattle.sp_verify_rules.specs.Apart.{IsMovedFrom}
use Rattle.sp_verify_rules.specs.Apart.{AreApart, AreOlder}
use Rattle.sp_verify_rules.proofs.Identity.{identity_same}

pub none_or : (o : Option Content) → IsNotHeld o ⊎ IsSome o
none_or None = inl tt
none_or (Some h) = inr refl

not_held_away : (o : Option Content) → o ≡ Some Away → IsNotHeld o
not_held_away o e = subst IsNotHeld (sym e) tt

module _ (f : ℕ → Condition Plain) (birth : ℕ → Option Birth) (p : AreApart f birth) (older : AreOlder f birth) where
  abbrev Child : ℕ → ℕ → Type 0
  Child r q = IsChildOf f birth r q

  pub one_parent : (r x y : ℕ) → Child r x → Child r y → x ≡ y
  one_parent r x y a b = sym a.2 ∙ ap (λ (z : Birth). z.parent) (same_Some _ _ (sym a.1 ∙ b.1)) ∙ b.2

  -- who made the frame of a spot that a process knows: no younger process
  from : (n r : ℕ) → r ≤ n → (c : Config (Memory Plain)) → config_in (f r) ≡ Some c → (q : Spot) → KnowsSpot c q
      → (o : ℕ) × (o ≤ r) × (meaning c q.frame ≡ identity o q.frame)
  from zero r le c s q k = ⊎_elim
      (λ (m : IsMade r c q). (r, omega arith, m))
      (λ (w : IsHandedOn f birth r c q). absurd (let y = older r w.0 w.2 in omega (arith, le, y)))
      (p.known r c s q k)
  from (suc n) r le c s q k = ⊎_elim
      (λ (m : IsMade r c q). (r, omega arith, m))
      (λ (w : IsHandedOn f birth r c q). (
      let (parent, holder, child_of, there, knows, meaning_is) = w in
      let y = older r parent child_of in
      let v = from n parent (omega (arith, le, y)) holder there q knows in
      (v.0, (let z = v.1 in omega (arith, y, z)), sym meaning_is ∙ v.2)))
      (p.known r c s q k)

  pub origin : (r : ℕ) (c : Config (Memory Plain)) → config_in (f r) ≡ Some c → (q : Spot) → KnowsSpot c q
      → (o : ℕ) × (o ≤ r)
      × (meaning c q.frame ≡ identity o q.frame)
  origin r c s q k = from r r (omega arith) c s q k

  -- a frame has one number in all stores
  pub one_frame : (r t : ℕ) (c d : Config (Memory Plain)) → config_in (f r) ≡ Some c → config_in (f t) ≡ Some d
      → (x y : Spot)
      → KnowsSpot c x → KnowsSpot d y → meaning c x.frame ≡ meaning d y.frame → x.frame ≡ y.frame
  one_frame r t c d s u x y k l e =
      let a = origin r c s x k in
      let b = origin t d u y l in
      (identity_same a.0 x.frame b.0 y.frame (sym a.2 ∙ e ∙ b.2)).1

  -- what a process made, no older one knows
  pub not_older : (r t : ℕ) (d : Config (Memory Plain)) → config_in (f t) ≡ Some d → (q : Spot) → KnowsSpot d q
      → meaning d q.frame ≡ identity r q.frame → t < r → ⊥
  not_older r t d s q k e lt =
      let a = origin t d s q k in
      let same = (identity_same r q.frame a.0 q.frame (sym e ∙ a.2)).0 in
      let le = a.1 in
      omega (arith, lt, le, same)

  -- ---- the ways from a process down to those below it

  abbrev pub Way : ℕ → ℕ → ℕ → Type 0
  Way zero r t = r ≡ t
  Way (suc n) r t = (q : ℕ) × Child t q × Way n r q

  way_down : (n r t : ℕ) → Way n r t → r ≤ t
  way_down zero r t w = omega (arith, w)
  way_down (suc n) r t w = let y = older t w.0 w.1 in let z = way_down n r w.0 w.2 in omega (arith, y, z)

  -- the first step of a way
  first_step : (n r t : ℕ) → Way (suc n) r t → (c : ℕ) × Child c r × Way n c t
  first_step zero r t w = (t, subst (Child t) (sym w.2) w.1, refl)
  first_step (suc n) r t w = let v = first_step n r w.0 w.2 in (v.0, v.1, (w.0, w.1, v.2))

  pub no_way : (r : ℕ) → ((t : ℕ) → Child t r → ⊥) → (n t : ℕ) → Way n r t → r ≡ t
  no_way r childless zero t w = w
  no_way r childless (suc n) t w = let v = first_step n r t w in absurd (childless v.0 v.1)

  -- who knows a frame that a process made is below it
  made_by : (n t : ℕ) → t ≤ n → (d : Config (Memory Plain)) → config_in (f t) ≡ Some d → (q : Spot) → KnowsSpot d q
      → (r : ℕ)
      → meaning d q.frame ≡ identity r q.frame → (k : ℕ) × Way k r t
  made_by zero t le d s q k r e = ⊎_elim
      (λ (m : IsMade t d q). (0, (identity_same r q.frame t q.frame (sym e ∙ m)).0))
      (λ (w : IsHandedOn f birth t d q). absurd (let y = older t w.0 w.2 in omega (arith, le, y)))
      (p.known t d s q k)
  made_by (suc n) t le d s q k r e = ⊎_elim
      (λ (m : IsMade t d q). (0, (identity_same r q.frame t q.frame (sym e ∙ m)).0))
      (λ (w : IsHandedOn f birth t d q). (
      let (parent, holder, child_of, there, knows, meaning_is) = w in
      let y = older t parent child_of in
      let v = made_by n parent (omega (arith, le, y)) holder there q knows r (meaning_is ∙ e) in
      (suc v.0, (parent, child_of, v.1))))
      (p.known t d s q k)

  pub made_below : (t : ℕ) (d : Config (Memory Plain)) → config_in (f t) ≡ Some d → (q : Spot) → KnowsSpot d q → (r : ℕ)
      → meaning d q.frame ≡ identity r q.frame → (k : ℕ) × Way k r t
  made_below t d s q k r e = made_by t t (omega arith) d s q k r e

  -- what a process knows and means so, though it is made above x, each process on the way from x knows and means so
  on_the_way : (n x t : ℕ) → Way n x t → (d : Config (Memory Plain)) → config_in (f t) ≡ Some d → (q : Spot)
      → KnowsSpot d q
      → (o : ℕ) → o < x → meaning d q.frame ≡ identity o q.frame
      → (e : Config (Memory Plain)) × (config_in (f x) ≡ Some e)
      × KnowsSpot e q × (meaning e q.frame ≡ identity o q.frame)
  on_the_way zero x t w d s q k o lt e = (d, ap (λ z. config_in (f z)) w ∙ s, k, e)
  on_the_way (suc n) x t w d s q k o lt e = ⊎_elim
      (λ (m : IsMade t d q). (
      let same = (identity_same o q.frame t q.frame (sym e ∙ m)).0 in
      let z = way_down (suc n) x t w in
      absurd (omega (arith, lt, same, z))))
      (λ (h : IsHandedOn f birth t d q). (
      let (parent, holder, child_of, there, knows, meaning_is) = h in
      let is : parent ≡ w.0 = one_parent t parent w.0 child_of w.1 in
      on_the_way n x w.0 w.2 holder (subst (λ z. config_in (f z) ≡ Some holder) is there) q knows o lt
      (meaning_is ∙ e)))
      (p.known t d s q k)

  -- ---- who else holds what a process may write

  abbrev Elsewhere : ℕ → ℕ → Config (Memory Plain) → Spot → Type 0
  Elsewhere r t d q = ((k : ℕ) × Way k r t) ⊎ IsNotHeld (map.get (map_of d) q)

  -- one step up: what moved from its parent
  module _ (r : ℕ) (c : Config (Memory Plain)) (s : config_in (f r) ≡ Some c) (q : Spot) (i : In q (spots_moved c))
      (h : IsHandedOn f birth r c q) (t : ℕ) (d : Config (Memory Plain)) (u : config_in (f t) ≡ Some d)
      (l : KnowsSpot d q)
      (e : meaning d q.frame ≡ meaning c q.frame) where
    pub gone : IsMovedFrom f birth h.0 h.1 c q
    gone = let (parent, holder, child_of, there, _, _) = h in p.moved r parent c holder child_of s there q i

    a : (o : ℕ) × (o ≤ h.0) × (meaning h.1 q.frame ≡ identity o q.frame)
    a = let (parent, holder, _, there, knows, _) = h in origin parent holder there q knows

    -- another child of the parent, through which t would know it
    other : (m x : ℕ) → Child x h.0 → Way m x t → r ≢ x → ⊥
    other m x ch w apart =
        let (parent, _, child_of, _, _, meaning_is) = h in
        let le = a.1 in
        let y = older x parent ch in
        let (there, seen, knows, made_so) =
        on_the_way m x t w d u q l a.0 (omega (arith, le, y)) (e ∙ sym meaning_is ∙ a.2) in
        let made = p.siblings r x parent c there apart child_of ch s seen q i knows in
        let same = (identity_same a.0 q.frame x q.frame (sym made_so ∙ made)).0 in
        omega (arith, le, y, same)

    through : (m : ℕ) → Way (suc m) h.0 t → Elsewhere r t d q
    through m w =
        let v = first_step m h.0 t w in
        ⊎_elim
        (λ (same : r ≡ v.0). inl (m, subst (λ z. Way m z t) (sym same) v.2))
        (λ (apart : r ≢ v.0). absurd (other m v.0 v.1 v.2 apart))
        (cases_eq r v.0)

    pub below : Elsewhere h.0 t d q → Elsewhere r t d q
    below (inr z) = inr z
    below (inl (zero, w)) =
        let (_, holder, _, there, _, _) = h in
        let same : holder ≡ d = same_Some _ _ (sym there ∙ ap (λ z. config_in (f z)) w ∙ u) in
        inr (not_held_away (map.get (map_of d) q)
        (subst (λ (z : Config (Memory Plain)). map.get (map_of z) q ≡ Some Away) same gone.0))
    below (inl (suc m, w)) = through m w

  writable_by : (n r : ℕ) → r ≤ n → (c : Config (Memory Plain)) → config_in (f r) ≡ Some c → (q : Spot) → KnowsSpot c q
      → IsWritable r (spots_moved c) (frames_of c) q → (t : ℕ) (d : Config (Memory Plain)) → config_in (f t) ≡ Some d
      → KnowsSpot d q → meaning d q.frame ≡ meaning c q.frame → Elsewhere r t d q
  writable_by n r le c s q k (inl m) t d u l e = inl (made_below t d u q l r (e ∙ m))
  writable_by zero r le c s q k (inr i) t d u l e = ⊎_elim
      (λ (m : IsMade r c q). inl (made_below t d u q l r (e ∙ m)))
      (λ (h : IsHandedOn f birth r c q). absurd (let y = older r h.0 h.2 in omega (arith, le, y)))
      (p.known r c s q k)
  writable_by (suc n) r le c s q k (inr i) t d u l e = ⊎_elim
      (λ (m : IsMade r c q). inl (made_below t d u q l r (e ∙ m)))
      (λ (h : IsHandedOn f birth r c q). (
      let (parent, holder, child_of, there, knows, meaning_is) = h in
      let y = older r parent child_of in
      below r c s q i h t d u l e
      (writable_by n parent (omega (arith, le, y)) holder there q knows (gone r c s q i h t d u l e).2 t d u l
      (e ∙ sym meaning_is))))
      (p.known r c s q k)

  -- a process without children alone holds what it may write
  pub sole : (r : ℕ) (c : Config (Memory Plain)) → config_in (f r) ≡ Some c → ((t : ℕ) → Child t r → ⊥) → (q : Spot)
      → KnowsSpot c q → IsWritable r (spots_moved c) (frames_of c) q → (t : ℕ) (d : Config (Memory Plain)) → r ≢ t
      → config_in (f t) ≡ Some d → meaning d q.frame ≡ meaning c q.frame → IsNotHeld (map.get (map_of d) q)
  sole r c s childless q k w t d apart u e = ⊎_elim (λ n. n)
      (λ l. ⊎_elim (λ v. absurd (apart (no_way r childless v.0 t v.1))) (λ n. n)
      (writable_by r r (omega arith) c s q k w t d u l e))
      (none_or (map.get (map_of d) q))
