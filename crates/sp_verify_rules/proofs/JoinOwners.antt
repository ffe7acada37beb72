-- A child's end leaves all stores held apart: its parent has back what moved to it, as the child had it.
use Rattle.std.proofs.Common.{◌≡◌, ◌≢◌, ◌⊎◌, inl, inr, ⊎_elim, ℕ, ◌==◌, List, Option, Some, false}
use Rattle.std.proofs.Common.{refl, sym, ap, ◌∙◌, subst, arith}
use Rattle.std.specs.Prelude.{IsSome}
use Rattle.std.specs.FinMap as map
use Rattle.std.proofs.lemmas.Option.{same_Some}
use Rattle.sp_cell.specs.declared.spot.Spot.{Spot}
use Rattle.sp_cell.specs.Holders.{ContentsAgree}
use Rattle.sp_cell.proofs.Laws.{known_of_held, known_of_away}
use Rattle.sp_cell.specs.Map.{Plain}
use Rattle.sp_cell.proofs.Plan.{in_or, get_taken_in, get_taken_out}
use Rattle.sp_cell.specs.Spots.{In, NotIn}
use Rattle.sp_journal.specs.Maps.{at_key}
use Rattle.sp_journal.specs.declared.entry.Birth.{Birth}
use Rattle.sp_code.specs.Machine.{Config, At, Entry}
use Rattle.sp_code.specs.Memory.{Memory}
use Rattle.sp_code.specs.PlainStore.{plain}
use Rattle.sp_code.specs.Sound.{CanJoin, means}
use Rattle.sp_code.specs.System.{Condition, Gone, on_store, frames_of}
use Rattle.sp_code.proofs.Queues.{number_or, at_same, at_other}
use Rattle.sp_verify_rules.specs.Systems.{IsLive}
use Rattle.sp_verify_rules.specs.Apart.{config_in, map_of, spots_moved, meaning, KnowsSpot, IsMade, IsChildOf}
use Rattle.sp_verify_rules.specs.Apart.{IsHandedOn}
use Rattle.sp_verify_rules.specs.Apart.{IsMovedFrom, AreApart, AreOlder, process_of}
use Rattle.sp_verify_rules.proofs.Contents.{agree_back}
use Rattle.sp_verify_rules.proofs.Sole.{not_older}

module _ (f : ℕ → Condition Plain) (birth : ℕ
    → Option Birth) (p : AreApart f birth) (older : AreOlder f birth) (q x : ℕ)
    (qc pc : ℕ) (qt st : List Entry) (k n : Memory Plain) (now : Condition Plain)
    (was : config_in (f q) ≡ Some (At qc qt k)) (joins : config_in (f x) ≡ Some (At pc st n))
    (on : config_in now ≡ Some (on_store (λ s. plain.joined s k.store) (At pc st n))) (alive : IsLive now)
    (joined_live : IsLive (f x)) (born : IsChildOf f birth q x)
    (childless : (t : ℕ) → IsChildOf f birth t q → ⊥) (can : CanJoin n.store k.store) where
  abbrev c : Config (Memory Plain)
  c = At qc qt k

  abbrev d : Config (Memory Plain)
  d = At pc st n

  abbrev e : Config (Memory Plain)
  e = on_store (λ s. plain.joined s k.store) d

  abbrev pub after_end : ℕ → Condition Plain
  after_end = at_key ◌==◌ x now (at_key ◌==◌ q Gone f)

  abbrev Is : ℕ → ℕ → Type 0
  Is a r = (a ≡ r) ⊎ ((a ≢ r) × ((a == r) ≡ false))

  apart : x ≢ q
  apart i = absurd (let o = older q x born in omega (arith, o, i))

  other : (r : ℕ) → x ≢ r → q ≢ r → after_end r ≡ f r
  other r o u = at_other (at_key ◌==◌ q Gone f) x r now o ∙ at_other f q r Gone u

  here : after_end x ≡ now
  here = at_same (at_key ◌==◌ q Gone f) x now

  gone : after_end q ≡ Gone
  gone = at_other (at_key ◌==◌ q Gone f) x q now apart ∙ at_same f q Gone

  data After (r : ℕ) (z : Config (Memory Plain)) : Type 0 where
    Parent : x ≡ r → e ≡ z → After r z
    Other : x ≢ r → q ≢ r → config_in (f r) ≡ Some z → After r z

  nobody : (z : Config (Memory Plain)) → config_in Gone ≡ Some z → ⊥
  nobody z i = cc i

  seen_after : (r : ℕ) (z : Config (Memory Plain)) → config_in (after_end r) ≡ Some z → After r z
  seen_after r z s = go (number_or x r) (number_or q r)
    where
      go : Is x r → Is q r → After r z
      go (inl i) w = Parent i (same_Some _ _ (sym on ∙ ap config_in (sym here) ∙ ap (λ y. config_in (after_end y)) i ∙
          s))
      go (inr o) (inl i) = absurd (nobody z (ap config_in (sym gone) ∙ ap (λ y. config_in (after_end y)) i ∙ s))
      go (inr o) (inr u) = Other o.0 u.0 (ap config_in (sym (other r o.0 u.0)) ∙ s)

  still_seen : (r : ℕ) (z : Config (Memory Plain)) → x ≢ r → q ≢ r → config_in (f r) ≡ Some z
      → config_in (after_end r) ≡ Some z
  still_seen r z o u s = ap config_in (other r o u) ∙ s

  seen_here : config_in (after_end x) ≡ Some e
  seen_here = ap config_in here ∙ on

  child_after : (r y : ℕ) → q ≢ r → IsChildOf f birth r y → IsChildOf after_end birth r y
  child_after r y u (born, birth_is, parent_is, living) = (born, birth_is, parent_is, go (number_or x r))
    where
      go : Is x r → IsLive (after_end r)
      go (inl i) = subst (λ z. IsLive (after_end z)) i (subst (λ z. IsLive z) (sym here) alive)
      go (inr o) = subst (λ z. IsLive z) (sym (other r o.0 u)) living

  child_before : (r y : ℕ) → IsChildOf after_end birth r y → (q ≢ r) × IsChildOf f birth r y
  child_before r y (born, birth_is, parent_is, living) = go (number_or x r) (number_or q r)
    where
      go : Is x r → Is q r → (q ≢ r) × IsChildOf f birth r y
      go (inl i) w = (λ j. apart (i ∙ sym j), (born, birth_is, parent_is, subst (λ z. IsLive (f z)) i joined_live))
      go (inr o) (inl i) = absurd
          (subst (λ z. IsLive z) gone (subst (λ z. IsLive (after_end z)) (sym i) living))
      go (inr o) (inr u) = (u.0, (born, birth_is, parent_is, subst (λ z. IsLive z) (other r o.0 u.0) living))

  parent_other : (r y : ℕ) → IsChildOf f birth r y → q ≢ y
  parent_other r y h i = childless r (subst (IsChildOf f birth r) (sym i) h)

  number : (r : ℕ) (z : Config (Memory Plain)) → config_in (after_end r) ≡ Some z → process_of z ≡ r
  number r z s = go (seen_after r z s)
    where
      go : After r z → process_of z ≡ r
      go (Parent i j) = ap process_of (sym j) ∙ p.number x d joins ∙ i
      go (Other o u w) = p.number r z w

  -- ---- the parent's map

  abbrev moves : List Spot
  moves = k.store.moved

  known_there : (s : Spot) → In s moves → IsSome (map.get k.store.map s)
  known_there s i = known_of_held (map.get k.store.map s) (can.held s i)

  back_in : (s : Spot) → In s moves → map.get (map_of e) s ≡ map.get k.store.map s
  back_in s i = get_taken_in k.store.map moves n.store.map s i (known_there s i)

  as_it_was : (s : Spot) → NotIn s moves → map.get (map_of e) s ≡ map.get n.store.map s
  as_it_was s o = get_taken_out k.store.map moves n.store.map s o

  known_away : (s : Spot) → In s moves → KnowsSpot d s
  known_away s i = known_of_away (map.get n.store.map s) (can.away s i)

  known_before : (s : Spot) → KnowsSpot e s → KnowsSpot d s
  known_before s l = ⊎_elim (λ i. known_away s i) (λ o. subst (λ z. IsSome z) (as_it_was s o) l) (in_or s moves)

  known_after : (s : Spot) → KnowsSpot d s → KnowsSpot e s
  known_after s l = ⊎_elim (λ i. subst (λ z. IsSome z) (sym (back_in s i)) (known_there s i))
      (λ o. subst (λ z. IsSome z) (sym (as_it_was s o)) l) (in_or s moves)

  from_child : (s : Spot) → In s moves → IsMovedFrom f birth x d c s
  from_child s i = p.moved q x c d born was joins s i

  -- ---- what is known

  handed_after : (r : ℕ) (z : Config (Memory Plain)) (s : Spot) → q ≢ r → IsHandedOn f birth r z s
      → IsHandedOn after_end birth r z s
  handed_after r z s u (parent, holder, child_of, there, knows, meaning_is) = go (number_or x parent)
    where
      go : Is x parent → IsHandedOn after_end birth r z s
      go (inl i) =
          let is : d ≡ holder = same_Some _ _ (sym joins ∙ ap (λ y. config_in (f y)) i ∙ there) in (
            parent,
            e,
            child_after r parent u child_of,
            ap (λ y. config_in (after_end y)) (sym i) ∙ seen_here,
            known_after s (subst (λ (y : Config (Memory Plain)). KnowsSpot y s) (sym is) knows),
            ap (λ (y : Config (Memory Plain)). meaning y s.frame) is ∙ meaning_is,
          )
      go (inr o) = (
        parent,
        holder,
        child_after r parent u child_of,
        still_seen parent holder o.0 (parent_other r parent child_of) there,
        knows,
        meaning_is,
      )

  abbrev IsMadeOrHanded : ℕ → Config (Memory Plain) → Spot → Type 0
  IsMadeOrHanded a y s = IsMade a y s ⊎ IsHandedOn after_end birth a y s

  known_parent : (s : Spot) → KnowsSpot e s → IsMadeOrHanded x e s
  known_parent s l = ⊎_elim (λ w. inl w) (λ h. inr (kept (handed_after x d s (λ i. apart (sym i)) h)))
      (p.known x d joins s (known_before s l))
    where
      kept : IsHandedOn after_end birth x d s → IsHandedOn after_end birth x e s
      kept h = h

  known : (r : ℕ) (z : Config (Memory Plain)) → config_in (after_end r) ≡ Some z → (s : Spot) → KnowsSpot z s
      → IsMadeOrHanded r z s
  known r z v s l = go (seen_after r z v)
    where
      go : After r z → IsMadeOrHanded r z s
      go (Parent i j) = subst (λ a. IsMadeOrHanded a z s) i
          (subst (λ (y : Config (Memory Plain)). IsMadeOrHanded x y s) j
          (known_parent s (subst (λ (y : Config (Memory Plain)). KnowsSpot y s) (sym j) l)))
      go (Other o u w) = ⊎_elim (λ m. inl m) (λ h. inr (handed_after r z s u h)) (p.known r z w s l)

  -- ---- what moved

  abbrev Before : ℕ → Config (Memory Plain) → Type 0
  Before r z = (y : Config (Memory Plain)) × (config_in (f r) ≡ Some y) × (frames_of y ≡ frames_of z)
      × (spots_moved y ≡ spots_moved z) × ((s : Spot) → KnowsSpot z s → KnowsSpot y s)

  before : (r : ℕ) (z : Config (Memory Plain)) → After r z → Before r z
  before r z (Parent i j) = subst (λ (y : Config (Memory Plain)). Before r y) j
      (d, ap (λ y. config_in (f y)) (sym i) ∙ joins, refl, refl, known_before)
  before r z (Other o u w) = (z, w, refl, refl, λ s l. l)

  -- what moved to another child is away still
  still_away : (r : ℕ) (y : Config (Memory Plain)) → q ≢ r → IsChildOf f birth r x → config_in (f r) ≡ Some y
      → (s : Spot)
      → In s (spots_moved y) → IsMovedFrom after_end birth x e y s
  still_away r y u h w s i =
      let a = p.moved r x y d h w joins s i in
      (⊎_elim (λ j. absurd (both j)) (λ o. as_it_was s o ∙ a.0) (in_or s moves), a.1, a.2)
    where
      both : In s moves → ⊥
      both j =
          let made = p.siblings r q x y c (λ z. u (sym z)) h born w was s i (known_there s j) in
          not_older f birth p older q x d joins s (known_away s j) ((from_child s j).1 ∙ made) (older q x born)

  moved : (r y : ℕ) (z a : Config (Memory Plain)) → IsChildOf after_end birth r y → config_in (after_end r) ≡ Some z
      → config_in (after_end y) ≡ Some a → (s : Spot) → In s (spots_moved z) → IsMovedFrom after_end birth y a z s
  moved r y z a h v u s i =
      let k = child_before r y h in
      let w = before r z (seen_after r z v) in
      let (_, _, _, moved_is, _) = w in
      go k.0 k.1 w (subst (In s) (sym moved_is) i) (seen_after y a u)
    where
      go : q ≢ r → IsChildOf f birth r y → (w : Before r z) → In s (spots_moved w.0) → After y a
          → IsMovedFrom after_end birth y a z s
      go o k w i (Parent j t) =
          let m = still_away r w.0 o (subst (IsChildOf f birth r) (sym j) k) w.1 s i in
          subst (λ b. IsMovedFrom after_end birth b a z s) j
          (subst (λ (b : Config (Memory Plain)). IsMovedFrom after_end birth x b z s) t
          (m.0, m.1 ∙ ap (λ fs. means fs s.frame) w.2, m.2))
      go o k w i (Other j t b) =
          let m = p.moved r y w.0 a k w.1 b s i in
          (m.0, m.1 ∙ ap (λ fs. means fs s.frame) w.2, m.2)

  siblings : (r t y : ℕ) (z a : Config (Memory Plain)) → r ≢ t → IsChildOf after_end birth r y
      → IsChildOf after_end birth t y → config_in (after_end r) ≡ Some z → config_in (after_end t) ≡ Some a → (s : Spot)
      → In s (spots_moved z) → KnowsSpot a s → IsMade t a s
  siblings r t y z a o h k v u s i l =
      let (one, one_there, _, one_moved, _) = before r z (seen_after r z v) in
      let (two, two_there, two_frames, _, two_known) = before t a (seen_after t a u) in
      ap (λ fs. means fs s.frame) (sym two_frames)
      ∙ p.siblings r t y one two o (child_before r y h).1 (child_before t y k).1 one_there two_there s
      (subst (In s) (sym one_moved) i) (two_known s l)

  -- ---- agreement

  parent_other_agree : (t : ℕ) (z : Config (Memory Plain)) → x ≢ t → q ≢ t → config_in (f t) ≡ Some z → (s : Spot)
      → meaning e s.frame ≡ meaning z s.frame → ContentsAgree (map.get (map_of e) s) (map.get (map_of z) s)
  parent_other_agree t z o u w s same = ⊎_elim
      (λ i. subst (λ y. ContentsAgree y (map.get (map_of z) s)) (sym (back_in s i))
      (p.agree q t c z u was w s (sym (from_child s i).1 ∙ same)))
      (λ j. subst (λ y. ContentsAgree y (map.get (map_of z) s)) (sym (as_it_was s j))
      (p.agree x t d z o joins w s same))
      (in_or s moves)

  agree : (r t : ℕ) (z a : Config (Memory Plain)) → r ≢ t → config_in (after_end r) ≡ Some z
      → config_in (after_end t) ≡ Some a
      → (s : Spot) → meaning z s.frame ≡ meaning a s.frame → ContentsAgree (map.get (map_of z) s) (map.get (map_of a) s)
  agree r t z a o v u s same = go (seen_after r z v) (seen_after t a u)
    where
      go : After r z → After t a → ContentsAgree (map.get (map_of z) s) (map.get (map_of a) s)
      go (Parent i j) (Parent k l) = absurd (o (sym i ∙ k))
      go (Parent i j) (Other k l w) = subst
          (λ (y : Config (Memory Plain)). ContentsAgree (map.get (map_of y) s) (map.get (map_of a) s)) j
          (parent_other_agree t a k l w s (ap (λ (y : Config (Memory Plain)). meaning y s.frame) j ∙ same))
      go (Other k l w) (Parent i j) = subst
          (λ (y : Config (Memory Plain)). ContentsAgree (map.get (map_of z) s) (map.get (map_of y) s)) j
          (agree_back (map.get (map_of e) s) (map.get (map_of z) s)
          (parent_other_agree r z k l w s (ap (λ (y : Config (Memory Plain)). meaning y s.frame) j ∙ sym same)))
      go (Other i j w) (Other k l m) = p.agree r t z a o w m s same

  pub ends_apart : AreApart after_end birth
  ends_apart = record { number = number; known = known; moved = moved; siblings = siblings; agree = agree }
