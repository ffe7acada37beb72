-- A process without children that changed in its store no more than a turn may leaves all stores held apart.
use Rattle.std.proofs.Common.{◌≡◌, ◌≢◌, ◌⊎◌, inl, inr, ⊎_elim, ℕ, ◌==◌, Option, Some, false}
use Rattle.std.proofs.Common.{sym, ap, ◌∙◌, subst}
use Rattle.std.proofs.lemmas.Option.{same_Some}
use Rattle.std.specs.FinMap as map
use Rattle.sp_cell.specs.declared.spot.Spot.{Spot}
use Rattle.sp_cell.specs.Holders.{ContentsAgree}
use Rattle.sp_cell.specs.Map.{Plain}
use Rattle.sp_cell.specs.Spots.{In}
use Rattle.sp_journal.specs.Maps.{at_key}
use Rattle.sp_journal.specs.declared.entry.Birth.{Birth}
use Rattle.sp_code.specs.Machine.{Config}
use Rattle.sp_code.specs.Memory.{Memory}
use Rattle.sp_code.specs.Sound.{identity}
use Rattle.sp_code.specs.System.{Condition, frames_of, store_of}
use Rattle.sp_code.proofs.Queues.{number_or, at_same, at_other}
use Rattle.sp_verify_rules.specs.Systems.{IsLive}
use Rattle.sp_verify_rules.specs.Apart.{config_in, map_of, spots_moved, meaning, KnowsSpot, IsMade, IsChildOf}
use Rattle.sp_verify_rules.specs.Apart.{IsHandedOn}
use Rattle.sp_verify_rules.specs.Apart.{IsMovedFrom}
use Rattle.sp_verify_rules.specs.Apart.{AreApart, AreOlder, process_of}
use Rattle.sp_verify_rules.specs.OwnChange.{AgreesOn, OwnChange}
use Rattle.sp_verify_rules.proofs.Contents.{agree_back}
use Rattle.sp_verify_rules.proofs.Sole.{none_or, made_below, no_way, sole}

abbrev pub ChangesTo : (r : ℕ) → (c d : Config (Memory Plain)) → Type 0
ChangesTo r c d = OwnChange r (frames_of c) (store_of c) (frames_of d) (store_of d)

module _ (f : ℕ → Condition Plain) (birth : ℕ → Option Birth) (p : AreApart f birth) (older : AreOlder f birth) (q : ℕ)
    (y : Condition Plain) (c d : Config (Memory Plain)) (was : config_in (f q) ≡ Some c) (now : config_in y ≡ Some d)
    (childless : (t : ℕ) → IsChildOf f birth t q → ⊥) (change : ChangesTo q c d)
    (same_number : process_of d ≡ q) (lived : IsLive y → IsLive (f q))
    (lives : (x : Birth) → birth q ≡ Some x → IsLive (f q) → IsLive y) where
  abbrev pub after : ℕ → Condition Plain
  after = at_key ◌==◌ q y f

  abbrev Is : ℕ → Type 0
  Is r = (q ≡ r) ⊎ ((q ≢ r) × ((q == r) ≡ false))

  -- who has a store after it: the process, or another one as before
  seen_after : (r : ℕ) (e : Config (Memory Plain)) → config_in (after r) ≡ Some e
      → ((q ≡ r) × (d ≡ e)) ⊎ ((q ≢ r) × (config_in (f r) ≡ Some e))
  seen_after r e s = go (number_or q r)
    where
      go : Is r → ((q ≡ r) × (d ≡ e)) ⊎ ((q ≢ r) × (config_in (f r) ≡ Some e))
      go (inl i) = inl (
        i,
        same_Some _ _ (sym now ∙ ap config_in (sym (at_same f q y)) ∙ ap (λ z. config_in (after z))
            i ∙ s),
      )
      go (inr o) = inr (o.0, ap config_in (sym (at_other f q r y o.0)) ∙ s)

  still_seen : (r : ℕ) (e : Config (Memory Plain)) → q ≢ r → config_in (f r) ≡ Some e → config_in (after r) ≡ Some e
  still_seen r e o s = ap config_in (at_other f q r y o) ∙ s

  child_after : (r x : ℕ) → IsChildOf f birth r x → IsChildOf after birth r x
  child_after r x (born, birth_is, parent_is, living) = (born, birth_is, parent_is, go (number_or q r))
    where
      go : Is r → IsLive (after r)
      go (inl i) = subst (λ z. IsLive (after z)) i (subst (λ z. IsLive z) (sym (at_same f q y))
          (lives born (ap birth i ∙ birth_is) (subst (λ z. IsLive (f z)) (sym i) living)))
      go (inr o) = subst (λ z. IsLive z) (sym (at_other f q r y o.0)) living

  pub child_before : (r x : ℕ) → IsChildOf after birth r x → IsChildOf f birth r x
  child_before r x (born, birth_is, parent_is, living) = (born, birth_is, parent_is, go (number_or q r))
    where
      go : Is r → IsLive (f r)
      go (inl i) = subst (λ z. IsLive (f z)) i (lived (subst (λ z. IsLive z) (at_same f q y)
          (subst (λ z. IsLive (after z)) (sym i) living)))
      go (inr o) = subst (λ z. IsLive z) (at_other f q r y o.0) living

  parent_other : (r x : ℕ) → IsChildOf f birth r x → q ≢ x
  parent_other r x h e = childless r (subst (IsChildOf f birth r) (sym e) h)

  number : (r : ℕ) (e : Config (Memory Plain)) → config_in (after r) ≡ Some e → process_of e ≡ r
  number r e s = ⊎_elim (λ w. ap process_of (sym w.1) ∙ same_number ∙ w.0) (λ w. p.number r e w.1) (seen_after r e s)

  -- ---- what is known

  handed_after : (r : ℕ) (e : Config (Memory Plain)) (s : Spot) → IsHandedOn f birth r e s
      → IsHandedOn after birth r e s
  handed_after r e s (parent, holder, child_of, there, knows, meaning_is) = (
    parent,
    holder,
    child_after r parent child_of,
    still_seen parent holder (parent_other r parent child_of) there,
    knows,
    meaning_is,
  )

  known_here : (s : Spot) → KnowsSpot d s → IsMade q d s ⊎ IsHandedOn after birth q d s
  known_here s k = ⊎_elim (λ m. inl m)
      (λ w. ⊎_elim (λ m. inl (w.1 ∙ m))
      (λ (h : IsHandedOn f birth q c s). let (parent, holder, child_of, there, knows, meaning_is) = h in inr (
        parent,
        holder,
        child_after q parent child_of,
        still_seen parent holder (parent_other q parent child_of) there,
        knows,
        meaning_is ∙ sym w.1,
      ))
      (p.known q c was s w.0))
      (change.known s k)

  known : (r : ℕ) (e : Config (Memory Plain)) → config_in (after r) ≡ Some e → (s : Spot) → KnowsSpot e s
      → IsMade r e s ⊎ IsHandedOn after birth r e s
  known r e v s k = ⊎_elim
      (λ w. subst (λ z. IsMade z e s ⊎ IsHandedOn after birth z e s) w.0
      (subst (λ (z : Config (Memory Plain)). IsMade q z s ⊎ IsHandedOn after birth q z s) w.1
      (known_here s (subst (λ (z : Config (Memory Plain)). KnowsSpot z s) (sym w.1) k))))
      (λ w. ⊎_elim (λ m. inl m) (λ h. inr (handed_after r e s h)) (p.known r e w.1 s k))
      (seen_after r e v)

  -- ---- what moved

  -- the parent is not the process
  seen_parent : (r x : ℕ) (e : Config (Memory Plain)) → IsChildOf f birth r x → config_in (after x) ≡ Some e
      → config_in (f x) ≡ Some e
  seen_parent r x e h s = ⊎_elim (λ w. absurd (parent_other r x h w.0)) (λ w. w.1) (seen_after x e s)

  moved_here : (x : ℕ) (e : Config (Memory Plain)) → IsChildOf f birth q x → config_in (f x) ≡ Some e → (s : Spot)
      → In s (spots_moved d) → IsMovedFrom after birth x e d s
  moved_here x e h u s i =
      let j = subst (In s) change.moved i in
      let w = p.moved q x c e h was u s j in
      (w.0, w.1 ∙ sym (change.meaning s j), w.2)

  moved : (r x : ℕ) (e g : Config (Memory Plain)) → IsChildOf after birth r x → config_in (after r) ≡ Some e
      → config_in (after x) ≡ Some g → (s : Spot) → In s (spots_moved e) → IsMovedFrom after birth x g e s
  moved r x e g h v u s i =
      let b = child_before r x h in
      let up = seen_parent r x g b u in
      ⊎_elim
      (λ w. subst (λ (z : Config (Memory Plain)). IsMovedFrom after birth x g z s) w.1
      (moved_here x g (subst (λ z. IsChildOf f birth z x) (sym w.0) b) up s
      (subst (λ (z : Config (Memory Plain)). In s (spots_moved z)) (sym w.1) i)))
      (λ w. p.moved r x e g b w.1 up s i)
      (seen_after r e v)

  -- ---- siblings

  siblings : (r t x : ℕ) (e g : Config (Memory Plain)) → r ≢ t → IsChildOf after birth r x → IsChildOf after birth t x
      → config_in (after r) ≡ Some e → config_in (after t) ≡ Some g → (s : Spot) → In s (spots_moved e) → KnowsSpot g s
      → IsMade t g s
  siblings r t x e g apart h k v u s i l =
      let a = child_before r x h in
      let b = child_before t x k in
      let mine = before a in
      ⊎_elim
      (λ w. subst (λ z. IsMade z g s) w.0 (subst (λ (z : Config (Memory Plain)). IsMade q z s) w.1
      (⊎_elim (λ m. m)
      (λ o. o.1 ∙ p.siblings r q x mine.0 c (λ j. apart (j ∙ w.0)) a (subst (λ z. IsChildOf f birth z x) (sym w.0) b)
      mine.1 was s mine.2 o.0)
      (change.known s (subst (λ (z : Config (Memory Plain)). KnowsSpot z s) (sym w.1) l)))))
      (λ w. p.siblings r t x mine.0 g apart a b mine.1 w.1 s mine.2 l)
      (seen_after t g u)
    where
      -- what moved to the one, moved to it before
      before : IsChildOf f birth r x → (z : Config (Memory Plain)) × (config_in (f r) ≡ Some z) × In s (spots_moved z)
      before a = ⊎_elim
          (λ w. (
            c,
            ap (λ z. config_in (f z)) (sym w.0) ∙ was,
            subst (In s) change.moved
                (subst (λ (z : Config (Memory Plain)). In s (spots_moved z)) (sym w.1) i),
          ))
          (λ w. (e, w.1, i))
          (seen_after r e v)

  -- ---- agreement

  agree_here : (t : ℕ) (e : Config (Memory Plain)) → q ≢ t → config_in (f t) ≡ Some e → (s : Spot)
      → meaning d s.frame ≡ meaning e s.frame → ContentsAgree (map.get (map_of d) s) (map.get (map_of e) s)
  agree_here t e apart u s same = ⊎_elim (λ n. inl n)
      (λ k. ⊎_elim (λ n. inr (inl n)) (λ l. both l (change.known s k)) (none_or (map.get (map_of e) s)))
      (none_or (map.get (map_of d) s))
    where
      both : KnowsSpot e s → (meaning d s.frame ≡ identity q s.frame)
          ⊎ (KnowsSpot c s × (meaning d s.frame ≡ meaning c s.frame)
          × (AgreesOn (map.get (map_of c) s) (map.get (map_of d) s) ⊎ In s (spots_moved c)))
          → ContentsAgree (map.get (map_of d) s) (map.get (map_of e) s)
      both l (inl m) =
          let w = made_below f birth p older t e u s l q (sym same ∙ m) in
          absurd (apart (no_way f birth p older q childless w.0 t w.1))
      both l (inr (k, n, inl on)) = on (map.get (map_of e) s) (p.agree q t c e apart was u s (sym n ∙ same))
      both l (inr (k, n, inr i)) =
          inr (inl (sole f birth p older q c was childless s k (inr i) t e apart u (sym same ∙ n)))

  agree : (r t : ℕ) (e g : Config (Memory Plain)) → r ≢ t → config_in (after r) ≡ Some e → config_in (after t) ≡ Some g
      → (s : Spot) → meaning e s.frame ≡ meaning g s.frame → ContentsAgree (map.get (map_of e) s) (map.get (map_of g) s)
  agree r t e g apart v u s same = go (seen_after r e v) (seen_after t g u)
    where
      go : ((q ≡ r) × (d ≡ e)) ⊎ ((q ≢ r) × (config_in (f r) ≡ Some e))
          → ((q ≡ t) × (d ≡ g)) ⊎ ((q ≢ t) × (config_in (f t) ≡ Some g))
          → ContentsAgree (map.get (map_of e) s) (map.get (map_of g) s)
      go (inl a) (inl b) = absurd (apart (sym a.0 ∙ b.0))
      go (inl a) (inr b) = subst
          (λ (z : Config (Memory Plain)). ContentsAgree (map.get (map_of z) s) (map.get (map_of g) s)) a.1
          (agree_here t g b.0 b.1 s
          (subst (λ (z : Config (Memory Plain)). meaning z s.frame ≡ meaning g s.frame) (sym a.1) same))
      go (inr a) (inl b) = subst
          (λ (z : Config (Memory Plain)). ContentsAgree (map.get (map_of e) s) (map.get (map_of z) s)) b.1
          (agree_back (map.get (map_of d) s) (map.get (map_of e) s) (agree_here r e a.0 a.1 s
          (sym (subst (λ (z : Config (Memory Plain)). meaning e s.frame ≡ meaning z s.frame) (sym b.1) same))))
      go (inr a) (inr b) = p.agree r t e g apart a.1 b.1 s same

  pub becomes_apart : AreApart after birth
  becomes_apart = record { number = number; known = known; moved = moved; siblings = siblings; agree = agree }
