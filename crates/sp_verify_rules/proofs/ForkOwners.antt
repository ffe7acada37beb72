-- A fork leaves all stores held apart: what moved is with one child alone, what is shared is alike with all, and the
-- frame of an index is new.
use Rattle.std.proofs.Common.{◌≡◌, ◌≢◌, ◌⊎◌, inl, inr, ⊎_elim, ℕ, ◌+◌, ◌-◌, ◌≤◌, ◌<◌, ◌==◌, ℤ, cond, List}
use Rattle.std.proofs.Common.{Option, Some, None, Bool, true, false, refl, sym, ap, ◌∙◌, subst, arith}
use Rattle.std.proofs.Common.{if◌then◌else◌}
use Rattle.std.specs.Prelude.{IsSome, nat_lt, slice_get}
use mathlib.Core.Bool.{false≢true}
use Rattle.std.specs.FinMap as map
use Rattle.std.proofs.lemmas.Bool.{cases_eq, ltb-true, ltb-false}
use Rattle.std.proofs.lemmas.Option.{same_Some}
use Rattle.sp_cell.specs.declared.spot.Spot.{Spot}
use Rattle.sp_cell.specs.declared.spot.Handing.{Handing}
use Rattle.sp_cell.specs.Fork.{with_shared, with_index, index_frame, child_map, moved_of, shared_of}
use Rattle.sp_cell.proofs.FrameLaws.{is_same, is_other}
use Rattle.sp_cell.specs.Holders.{IsNotHeld, ContentsAgree}
use Rattle.sp_cell.proofs.Laws.{known_of_held, known_of_piece}
use Rattle.sp_cell.specs.Map.{Map, Plain, Shared, cells_at, spot_cmp}
use Rattle.sp_cell.proofs.Partition.{below_above, child_moved, child_shared, child_rest, parent_moved, parent_shared}
use Rattle.sp_cell.proofs.Partition.{parent_rest}
use Rattle.sp_cell.proofs.Plan.{in_or, not_both, get_taken_out, get_lent_out}
use Rattle.sp_cell.specs.Spots.{In, NotIn}
use Rattle.sp_journal.specs.Births.{Births, is_next}
use Rattle.sp_journal.specs.Maps.{at_key}
use Rattle.sp_journal.specs.declared.entry.Birth.{Birth}
use Rattle.sp_code.specs.declared.code.ChildTable.{ChildTable}
use Rattle.sp_code.specs.declared.code.ForkTable.{ForkTable}
use Rattle.sp_code.specs.Machine.{Config, At, Entry}
use Rattle.sp_code.specs.Memory.{CodeRun, Memory}
use Rattle.sp_code.specs.PlainStore.{plain}
use Rattle.sp_code.specs.Sound.{CanSplit, identity, means}
use Rattle.sp_code.specs.System.{Condition, Absent, Working, Joins, on_store, index_by, child_process, plan_of}
use Rattle.sp_code.specs.System.{with_index_frame, child_or, table_or, frames_of}
use Rattle.sp_code.specs.Tables.{child_at}
use Rattle.sp_code.proofs.Plans.{moved_in, child_handing}
use Rattle.sp_code.proofs.Orders.{next_is, next_not, next_yes}
use Rattle.sp_code.proofs.Queues.{number_or, at_same, at_other}
use Rattle.sp_verify_rules.specs.Systems.{IsLive}
use Rattle.sp_verify_rules.specs.Writable.{IsWritable}
use Rattle.sp_verify_rules.specs.Apart.{config_in, map_of, spots_moved, meaning, KnowsSpot, IsMade, IsChildOf}
use Rattle.sp_verify_rules.specs.Apart.{IsHandedOn}
use Rattle.sp_verify_rules.specs.Apart.{IsMovedFrom, AreApart, AreOlder, process_of}
use Rattle.sp_verify_rules.proofs.Contents.{agree_back, share_agrees}
use Rattle.sp_verify_rules.proofs.Identity.{identity_same}
use Rattle.sp_verify_rules.proofs.Plans.{once, shared_at}
use Rattle.sp_verify_rules.proofs.Sole.{none_or, not_older}

module _ (g : CodeRun) (f : ℕ → Condition Plain) (b : Births) (p : AreApart f b.birth) (older : AreOlder f b.birth)
    (young : (r : ℕ) → b.processes ≤ r → f r ≡ Absent) (q pc : ℕ) (st : List Entry) (n : Memory Plain)
    (was : config_in (f q) ≡ Some (At pc st n)) (live : IsLive (f q))
    (childless : (t : ℕ) → IsChildOf f b.birth t q → ⊥) (table : ℕ) (value : ℤ) (count : ℕ)
    (split : CanSplit n.store (plan_of plain g (At pc st n) table value count)) where
  abbrev c : Config (Memory Plain)
  c = At pc st n

  abbrev m : Map
  m = n.store.map

  abbrev P : ℕ
  P = b.processes

  abbrev plan : List Handing
  plan = plan_of plain g c table value count

  abbrev tb : ForkTable
  tb = table_or (slice_get g.code.forks table)

  abbrev part : ℕ → Handing
  part j = child_handing g.code.layouts n.frames tb value j

  abbrev child : ℕ → Config (Memory Plain)
  child r = child_process plain g c value r (r - P) (child_or (child_at tb (r - P)))

  abbrev joining : Config (Memory Plain)
  joining = on_store (λ s. plain.handed s plan) c

  abbrev pub after_fork : ℕ → Condition Plain
  after_fork r = cond (is_next b count r) (Working (child r)) (cond (q == r) (Joins count joining) (f r))

  abbrev pub birth_after : ℕ → Option Birth
  birth_after r = cond (is_next b count r) (Some (record { parent = q; fork = b.forks q; child = r - P })) (b.birth r)

  module _ (writes : (j : ℕ) → j < count → (s : Spot) → In s (part j).moved
      → IsWritable q n.store.moved n.frames s) where
    -- ---- what a child has

    in_plan : (r : ℕ) → P ≤ r → r < P + count → (s : Spot) → In s (part (r - P)).moved → In s (moved_of plan)
    in_plan r le lt s i = moved_in g.code.layouts n.frames tb value count (r - P) s (omega (arith, le, lt)) i

    shared_plan : (r : ℕ) → P ≤ r → r < P + count → (s : Spot) → In s (part (r - P)).shared → In s (shared_of plan)
    shared_plan r le lt s i = shared_at g.code.layouts n.frames tb value count (r - P) s (omega (arith, le, lt)) i

    known_moved : (s : Spot) → In s (moved_of plan) → IsSome (map.get m s)
    known_moved s i = known_of_held (map.get m s) (split.held s i)

    known_shared : (s : Spot) → In s (shared_of plan) → IsSome (map.get m s)
    known_shared s i = known_of_piece (map.get m s) (split.pieces s i)

    -- below the frame of its index, numbers mean what they mean to its parent
    below_index : (r : ℕ) (h : Handing) (o : Option ℕ) (s : Spot) → s.frame < index_frame h
        → means (with_index_frame plain g r h o n.frames) s.frame ≡ means n.frames s.frame
    below_index r h None s lt = refl
    below_index r h (Some x) s lt = ap (λ z. if z then identity r (index_frame h) else means n.frames s.frame)
        (is_other (index_frame h) s.frame (λ e. absurd (omega (arith, lt, e))))

    abbrev HasMoved : ℕ → Spot → Type 0
    HasMoved r s = In s (part (r - P)).moved × (map.get (map_of (child r)) s ≡ map.get m s)
        × (meaning (child r) s.frame ≡ meaning c s.frame)

    abbrev HasShared : ℕ → Spot → Type 0
    HasShared r s = In s (part (r - P)).shared × (map.get (map_of (child r)) s ≡ Some (Shared (cells_at m s)))
        × (meaning (child r) s.frame ≡ meaning c s.frame)

    child_has : (r : ℕ) → P ≤ r → r < P + count → (s : Spot) → KnowsSpot (child r) s
        → HasMoved r s ⊎ (HasShared r s ⊎ IsMade r (child r) s)
    child_has r le lt s k = ⊎_elim
        (λ i. inl (
          i,
          child_moved m h s i (known_moved s (in_plan r le lt s i)),
          below_index r h ch.index s
              (let w = below_above h.moved s i in omega (arith, w)),
        ))
        (λ o. ⊎_elim
        (λ i. inr (inl (
          i,
          child_shared m h s i o,
          below_index r h ch.index s
              (let w = below_above h.shared s i in omega (arith, w)),
        )))
        (λ u. inr (inr (made o u ch.index refl)))
        (in_or s h.shared))
        (in_or s h.moved)
      where
        ch : ChildTable
        ch = child_or (child_at tb (r - P))

        h : Handing
        h = part (r - P)

        unknown : map.get (child_map m h) s ≡ None → ⊥
        unknown e = false≢true (subst (λ z. IsSome z) e k)

        no_index : NotIn s h.moved → NotIn s h.shared → ch.index ≡ None → map.get (child_map m h) s ≡ None
        no_index o u e = get_taken_out m h.moved _ s o
            ∙ ap (λ i. map.get (with_index (with_shared m h.shared map.empty) (index_frame h)
            (index_by value (r - P) i)) s) e
            ∙ get_lent_out m h.shared map.empty s u ∙ map.get-empty spot_cmp s

        made : NotIn s h.moved → NotIn s h.shared → (o : Option ℕ) → ch.index ≡ o
            → means (with_index_frame plain g r h ch.index n.frames) s.frame ≡ identity r s.frame
        made o u None e = absurd (unknown (no_index o u e))
        made o u (Some x) e = ap (λ z. means (with_index_frame plain g r h z n.frames) s.frame) e
            ∙ ⊎_elim
            (λ (i : index_frame h ≡ s.frame).
            ap (λ z. if z then identity r (index_frame h) else means n.frames s.frame)
            (is_same (index_frame h) s.frame i) ∙ ap (identity r) i)
            (λ (d : index_frame h ≢ s.frame). absurd (unknown (child_rest m h s o u (λ i. d (sym i)))))
            (cases_eq (index_frame h) s.frame)

    -- ---- what the parent keeps

    known_before : (s : Spot) → KnowsSpot joining s → KnowsSpot c s
    known_before s k = ⊎_elim (λ i. known_moved s i)
        (λ o. ⊎_elim (λ i. known_shared s i) (λ u. subst (λ z. IsSome z) (parent_rest m plan s o u) k)
        (in_or s (shared_of plan)))
        (in_or s (moved_of plan))

    known_after : (s : Spot) → KnowsSpot c s → KnowsSpot joining s
    known_after s k = ⊎_elim (λ i. subst (λ z. IsSome z) (sym (parent_moved m plan s i (split.apart s i))) refl)
        (λ o. ⊎_elim (λ i. subst (λ z. IsSome z) (sym (parent_shared m plan s i)) refl)
        (λ u. subst (λ z. IsSome z) (sym (parent_rest m plan s o u)) k)
        (in_or s (shared_of plan)))
        (in_or s (moved_of plan))

    -- ---- who is there

    abbrev Is : ℕ → Type 0
    Is r = (q ≡ r) ⊎ ((q ≢ r) × ((q == r) ≡ false))

    low : (r : ℕ) → (f r ≡ Absent → ⊥) → r < P
    low r h = go (nat_lt r P) refl
      where
        go : (t : Bool) → nat_lt r P ≡ t → r < P
        go true e = ltb-true r P e
        go false e = absurd (h (young r (ltb-false r P e)))

    live_low : (r : ℕ) → IsLive (f r) → r < P
    live_low r l = low r (λ i. subst (λ z. IsLive z) i l)

    there : q < P
    there = live_low q live

    seen_low : (r : ℕ) (e : Config (Memory Plain)) → config_in (f r) ≡ Some e → r < P
    seen_low r e s = low r (λ i. nobody (ap config_in (sym i) ∙ s))
      where
        nobody : None ≡ Some e → ⊥
        nobody i = cc i

    data After (r : ℕ) (e : Config (Memory Plain)) : Type 0 where
      Young : P ≤ r → r < P + count → child r ≡ e → After r e
      Parent : q ≡ r → joining ≡ e → After r e
      Old : q ≢ r → r < P → config_in (f r) ≡ Some e → After r e

    here_after : (t : Bool) → is_next b count q ≡ t → after_fork q ≡ Joins count joining
    here_after true e = absurd (let w = next_is b count q e in omega (arith, w.0, there))
    here_after false e = ap (λ x. cond x (Working (child q)) (cond (q == q) (Joins count joining) (f q))) e
        ∙ at_same f q (Joins count joining)

    other_after : (r : ℕ) → r < P → q ≢ r → after_fork r ≡ f r
    other_after r lt d = ap (λ x. cond x (Working (child r)) (cond (q == r) (Joins count joining) (f r)))
        (next_not b count r lt) ∙ at_other f q r (Joins count joining) d

    young_after : (r : ℕ) → P ≤ r → r < P + count → after_fork r ≡ Working (child r)
    young_after r le lt = ap (λ x. cond x (Working (child r)) (cond (q == r) (Joins count joining) (f r)))
        (next_yes b count r le lt)

    seen_after : (r : ℕ) (e : Config (Memory Plain)) → config_in (after_fork r) ≡ Some e → After r e
    seen_after r e s = go (is_next b count r) refl s (number_or q r)
      where
        go : (t : Bool) → is_next b count r ≡ t
            → config_in (cond t (Working (child r)) (cond (q == r) (Joins count joining) (f r))) ≡ Some e → Is r
            → After r e
        go true i s w = let l = next_is b count r i in Young l.0 l.1 (same_Some _ _ s)
        go false i s (inl j) = Parent j (same_Some _ _ (ap config_in (sym (at_same f q (Joins count joining)))
            ∙ ap (λ z. config_in (at_key ◌==◌ q (Joins count joining) f z)) j ∙ s))
        go false i s (inr d) =
            let u = ap config_in (sym (at_other f q r (Joins count joining) d.0)) ∙ s in
            Old d.0 (seen_low r e u) u

    seen_joining : config_in (after_fork q) ≡ Some joining
    seen_joining = ap config_in (here_after (is_next b count q) refl)

    still_seen : (r : ℕ) (e : Config (Memory Plain)) → q ≢ r → config_in (f r) ≡ Some e
        → config_in (after_fork r) ≡ Some e
    still_seen r e d s = ap config_in (other_after r (seen_low r e s) d) ∙ s

    abbrev Child : ℕ → ℕ → Type 0
    Child r x = IsChildOf after_fork birth_after r x

    child_now : (r : ℕ) → P ≤ r → r < P + count → Child r q
    child_now r le lt = (
      record { parent = q; fork = b.forks q; child = r - P },
      ap (λ x. cond x (Some (record { parent = q; fork = b.forks q; child = r - P })) (b.birth r))
          (next_yes b count r le lt),
      refl,
      subst (λ z. IsLive z) (sym (young_after r le lt)) tt,
    )

    child_after : (r x : ℕ) → IsChildOf f b.birth r x → Child r x
    child_after r x (born, birth_is, parent_is, living) = (
      born,
      ap (λ z. cond z (Some (record { parent = q; fork = b.forks q; child = r - P })) (b.birth r))
          (next_not b count r low) ∙ birth_is,
      parent_is,
      go (number_or q r),
    )
      where
        low : r < P
        low = live_low r living

        go : Is r → IsLive (after_fork r)
        go (inl e) = subst (λ z. IsLive (after_fork z)) e
            (subst (λ z. IsLive z) (sym (here_after (is_next b count q) refl)) tt)
        go (inr d) = subst (λ z. IsLive z) (sym (other_after r low d.0)) living

    -- a child is new, and the process's, or was there
    child_or_new : (r x : ℕ) → Child r x → ((P ≤ r) × (r < P + count) × (q ≡ x)) ⊎ IsChildOf f b.birth r x
    child_or_new r x (born, birth_is, parent_is, living) = go (is_next b count r) refl birth_is living (number_or q r)
      where
        go : (t : Bool) → is_next b count r ≡ t
            → cond t (Some (record { parent = q; fork = b.forks q; child = r - P })) (b.birth r) ≡ Some born
            → IsLive (cond t (Working (child r)) (cond (q == r) (Joins count joining) (f r))) → Is r
            → ((P ≤ r) × (r < P + count) × (q ≡ x)) ⊎ IsChildOf f b.birth r x
        go true i o l w = let u = next_is b count r i in
            inl (u.0, u.1, ap (λ (z : Birth). z.parent) (same_Some _ _ o) ∙ parent_is)
        go false i o l (inl e) = inr (born, o, parent_is, subst (λ z. IsLive (f z)) e live)
        go false i o l (inr d) =
            inr (born, o, parent_is, subst (λ z. IsLive z) (at_other f q r (Joins count joining) d.0) l)

    parent_other : (r x : ℕ) → IsChildOf f b.birth r x → q ≢ x
    parent_other r x h e = childless r (subst (IsChildOf f b.birth r) (sym e) h)

    number : (r : ℕ) (e : Config (Memory Plain)) → config_in (after_fork r) ≡ Some e → process_of e ≡ r
    number r e s = go (seen_after r e s)
      where
        go : After r e → process_of e ≡ r
        go (Young le lt i) = ap process_of (sym i)
        go (Parent j i) = ap process_of (sym i) ∙ p.number q c was ∙ j
        go (Old d lt u) = p.number r e u

    -- ---- what is known

    handed_after : (r : ℕ) (e : Config (Memory Plain)) (s : Spot) → IsHandedOn f b.birth r e s
        → IsHandedOn after_fork birth_after r e s
    handed_after r e s (parent, holder, child_of, there, knows, meaning_is) = (
      parent,
      holder,
      child_after r parent child_of,
      still_seen parent holder (parent_other r parent child_of)
          there,
      knows,
      meaning_is,
    )

    known_young : (r : ℕ) → P ≤ r → r < P + count → (s : Spot) → KnowsSpot (child r) s
        → IsMade r (child r) s ⊎ IsHandedOn after_fork birth_after r (child r) s
    known_young r le lt s k = ⊎_elim
        (λ w. inr (
          q,
          joining,
          child_now r le lt,
          seen_joining,
          known_after s (known_moved s (in_plan r le lt s w.0)),
          sym w.2,
        ))
        (λ w. ⊎_elim
        (λ v. inr (
          q,
          joining,
          child_now r le lt,
          seen_joining,
          known_after s (known_shared s (shared_plan r le lt s v.0)),
          sym v.2,
        ))
        (λ v. inl v) w)
        (child_has r le lt s k)

    known_parent : (s : Spot) → KnowsSpot joining s → IsMade q joining s
        ⊎ IsHandedOn after_fork birth_after q joining s
    known_parent s k = ⊎_elim (λ w. inl w)
        (λ (h : IsHandedOn f b.birth q c s). let (parent, holder, child_of, there, knows, meaning_is) = h in inr (
          parent,
          holder,
          child_after q parent child_of,
          still_seen parent holder (parent_other q parent child_of) there,
          knows,
          meaning_is,
        ))
        (p.known q c was s (known_before s k))

    abbrev IsMadeOrHanded : ℕ → Config (Memory Plain) → Spot → Type 0
    IsMadeOrHanded z x s = IsMade z x s ⊎ IsHandedOn after_fork birth_after z x s

    known : (r : ℕ) (e : Config (Memory Plain)) → config_in (after_fork r) ≡ Some e → (s : Spot) → KnowsSpot e s
        → IsMadeOrHanded r e s
    known r e v s k = go (seen_after r e v)
      where
        go : After r e → IsMadeOrHanded r e s
        go (Young le lt i) = subst (λ (x : Config (Memory Plain)). IsMadeOrHanded r x s) i
            (known_young r le lt s (subst (λ (x : Config (Memory Plain)). KnowsSpot x s) (sym i) k))
        go (Parent j i) = subst (λ z. IsMadeOrHanded z e s) j
            (subst (λ (x : Config (Memory Plain)). IsMadeOrHanded q x s) i
            (known_parent s (subst (λ (x : Config (Memory Plain)). KnowsSpot x s) (sym i) k)))
        go (Old d lt u) = ⊎_elim (λ w. inl w) (λ h. inr (handed_after r e s h)) (p.known r e u s k)

    -- ---- what moved

    -- a process that was there, as it was: its frames and what moved to it are the same
    abbrev Before : ℕ → Config (Memory Plain) → Type 0
    Before r e = (z : Config (Memory Plain)) × (config_in (f r) ≡ Some z) × (frames_of z ≡ frames_of e)
        × (spots_moved z ≡ spots_moved e) × ((s : Spot) → KnowsSpot e s → KnowsSpot z s)

    before : (r : ℕ) (e : Config (Memory Plain)) → r < P → After r e → Before r e
    before r e lt (Young le l i) = absurd (omega (arith, lt, le))
    before r e lt (Parent j i) = subst (λ (x : Config (Memory Plain)). Before r x) i
        (c, ap (λ z. config_in (f z)) (sym j) ∙ was, refl, refl, known_before)
    before r e lt (Old d l u) = (e, u, refl, refl, λ s k. k)

    old_seen : (x : ℕ) (e : Config (Memory Plain)) → q ≢ x → x < P → After x e → config_in (f x) ≡ Some e
    old_seen x e d lt (Young le l i) = absurd (omega (arith, lt, le))
    old_seen x e d lt (Parent j i) = absurd (d j)
    old_seen x e d lt (Old o l u) = u

    moved_young : (r : ℕ) → P ≤ r → r < P + count → (s : Spot) → In s (part (r - P)).moved
        → IsMovedFrom after_fork birth_after q joining (child r) s
    moved_young r le lt s i =
        let h = part (r - P) in
        let j = in_plan r le lt s i in (
          parent_moved m plan s j (split.apart s j),
          sym (below_index r h (child_or (child_at tb (r - P))).index s
              (let w = below_above h.moved s i in omega (arith, w))),
          writes (r - P) (omega (arith, le, lt)) s i,
        )

    moved : (r x : ℕ) (e d : Config (Memory Plain)) → Child r x → config_in (after_fork r) ≡ Some e
        → config_in (after_fork x) ≡ Some d → (s : Spot) → In s (spots_moved e)
        → IsMovedFrom after_fork birth_after x d e s
    moved r x e d h v u s i = go (child_or_new r x h) (seen_after r e v) (seen_after x d u)
      where
        go : ((P ≤ r) × (r < P + count) × (q ≡ x)) ⊎ IsChildOf f b.birth r x → After r e → After x d
            → IsMovedFrom after_fork birth_after x d e s
        go (inl a) (Young le lt j) w =
            let is : joining ≡ d = same_Some _ _ (sym seen_joining ∙ ap (λ z. config_in (after_fork z)) a.2 ∙ u) in
            subst (λ z. IsMovedFrom after_fork birth_after z d e s) a.2
            (subst (λ (z : Config (Memory Plain)). IsMovedFrom after_fork birth_after q z e s) is
            (subst (λ (z : Config (Memory Plain)). IsMovedFrom after_fork birth_after q joining z s) j
            (moved_young r le lt s (subst (λ (z : Config (Memory Plain)). In s (spots_moved z)) (sym j) i))))
        go (inl a) (Parent j k) w = absurd (omega (arith, a.0, there, j))
        go (inl a) (Old o l k) w = absurd (omega (arith, a.0, l))
        go (inr k) w y =
            let (_, _, _, alive) = k in
            let low = live_low r alive in
            let (z, z_there, z_frames, z_moved, _) = before r e low w in
            let up = old_seen x d (parent_other r x k) (let o = older r x k in omega (arith, o, low)) y in
            let t = p.moved r x z d k z_there up s (subst (In s) (sym z_moved) i) in
            (t.0, t.1 ∙ ap (λ fs. means fs s.frame) z_frames, t.2)

    -- ---- siblings

    siblings_young : (r t : ℕ) → r ≢ t → P ≤ r → r < P + count → P ≤ t → t < P + count → (s : Spot)
        → In s (part (r - P)).moved → KnowsSpot (child t) s → IsMade t (child t) s
    siblings_young r t apart le lt lf lu s i k = ⊎_elim
        (λ w. absurd (once g.code.layouts n.frames tb value count (r - P) (t - P) s
        (λ e. absurd (apart (omega (arith, e, le, lf)))) (omega (arith, le, lt)) (omega (arith, lf, lu)) split.distinct
        i w.0))
        (λ w. ⊎_elim
        (λ v. absurd (not_both s (shared_of plan) (shared_plan t lf lu s v.0) (split.apart s (in_plan r le lt s i))))
        (λ v. v) w)
        (child_has t lf lu s k)

    siblings : (r t x : ℕ) (e d : Config (Memory Plain)) → r ≢ t → Child r x → Child t x
        → config_in (after_fork r) ≡ Some e → config_in (after_fork t) ≡ Some d → (s : Spot) → In s (spots_moved e)
        → KnowsSpot d s → IsMade t d s
    siblings r t x e d apart h k v u s i l = go (child_or_new r x h) (child_or_new t x k) (seen_after r e v)
        (seen_after t d u)
      where
        go : ((P ≤ r) × (r < P + count) × (q ≡ x)) ⊎ IsChildOf f b.birth r x
            → ((P ≤ t) × (t < P + count) × (q ≡ x)) ⊎ IsChildOf f b.birth t x → After r e → After t d → IsMade t d s
        go (inl a) (inr k) w y = absurd (parent_other t x k a.2)
        go (inr k) (inl a) w y = absurd (parent_other r x k a.2)
        go (inl a) (inl o) (Young le lt j) (Young lf lu z) =
            subst (λ (y : Config (Memory Plain)). IsMade t y s) z
            (siblings_young r t apart le lt lf lu s
            (subst (λ (y : Config (Memory Plain)). In s (spots_moved y)) (sym j) i)
            (subst (λ (y : Config (Memory Plain)). KnowsSpot y s) (sym z) l))
        go (inl a) (inl o) (Parent j z) y = absurd (omega (arith, a.0, there, j))
        go (inl a) (inl o) (Old z w j) y = absurd (omega (arith, a.0, w))
        go (inl a) (inl o) (Young le lt j) (Parent z w) = absurd (omega (arith, o.0, there, z))
        go (inl a) (inl o) (Young le lt j) (Old z w y) = absurd (omega (arith, o.0, w))
        go (inr a) (inr o) w y =
            let (_, _, _, one_alive) = a in
            let (_, _, _, two_alive) = o in
            let (one, one_there, _, one_moved, _) = before r e (live_low r one_alive) w in
            let (two, two_there, two_frames, _, two_known) = before t d (live_low t two_alive) y in
            ap (λ fs. means fs s.frame) (sym two_frames)
            ∙ p.siblings r t x one two apart a o one_there two_there s
            (subst (In s) (sym one_moved) i) (two_known s l)

    -- ---- agreement

    -- a frame that a new process makes is known to none that was there
    never : (r t : ℕ) (e : Config (Memory Plain)) → P ≤ r → t < P → config_in (f t) ≡ Some e → (s : Spot)
        → KnowsSpot e s
        → meaning e s.frame ≡ identity r s.frame → ⊥
    never r t e le lt u s k i = not_older f b.birth p older r t e u s k i (omega (arith, le, lt))

    abbrev AgreeAt : (e d : Config (Memory Plain)) → Spot → Type 0
    AgreeAt e d s = ContentsAgree (map.get (map_of e) s) (map.get (map_of d) s)

    -- where both know the spot
    if_known : (e d : Config (Memory Plain)) (s : Spot) → (KnowsSpot e s → KnowsSpot d s → AgreeAt e d s)
        → AgreeAt e d s
    if_known e d s h = ⊎_elim (λ o. inl o)
        (λ k. ⊎_elim (λ o. inr (inl o)) (λ l. h k l) (none_or (map.get (map_of d) s)))
        (none_or (map.get (map_of e) s))

    young_old : (r t : ℕ) (e : Config (Memory Plain)) → P ≤ r → r < P + count → q ≢ t → t < P
        → config_in (f t) ≡ Some e → (s : Spot) → meaning (child r) s.frame ≡ meaning e s.frame → AgreeAt (child r) e s
    young_old r t e le lt d low u s same = if_known (child r) e s (λ k l. ⊎_elim
        (λ w. subst (λ z. ContentsAgree z (map.get (map_of e) s)) (sym w.1)
        (p.agree q t c e d was u s (sym w.2 ∙ same)))
        (λ w. ⊎_elim
        (λ v. subst (λ z. ContentsAgree z (map.get (map_of e) s)) (sym v.1)
        (share_agrees (map.get m s) (split.pieces s (shared_plan r le lt s v.0)) (map.get (map_of e) s)
        (p.agree q t c e d was u s (sym v.2 ∙ same))))
        (λ v. absurd (never r t e le low u s l (sym same ∙ v))) w)
        (child_has r le lt s k))

    young_parent : (r : ℕ) → P ≤ r → r < P + count → (s : Spot) → meaning (child r) s.frame ≡ meaning c s.frame
        → AgreeAt (child r) joining s
    young_parent r le lt s same = if_known (child r) joining s (λ k l. ⊎_elim
        (λ w. (let j = in_plan r le lt s w.0 in inr (inl
        (subst IsNotHeld (sym (parent_moved m plan s j (split.apart s j))) tt))))
        (λ w. ⊎_elim
        (λ v. subst (λ z. ContentsAgree z (map.get (map_of joining) s)) (sym v.1)
        (subst (λ z. ContentsAgree (Some (Shared (cells_at m s))) z)
        (sym (parent_shared m plan s (shared_plan r le lt s v.0))) (inr (inr refl))))
        (λ v. absurd (never r q c le there was s (known_before s l) (sym same ∙ v))) w)
        (child_has r le lt s k))

    young_young : (r t : ℕ) → r ≢ t → P ≤ r → r < P + count → P ≤ t → t < P + count → (s : Spot)
        → meaning (child r) s.frame ≡ meaning (child t) s.frame → AgreeAt (child r) (child t) s
    young_young r t apart le lt lf lu s same = if_known (child r) (child t) s
        (λ k l. go (child_has r le lt s k) (child_has t lf lu s l))
      where
        knows : (x : ℕ) → P ≤ x → x < P + count → HasMoved x s ⊎ HasShared x s → KnowsSpot c s
        knows x a o (inl w) = known_moved s (in_plan x a o s w.0)
        knows x a o (inr w) = known_shared s (shared_plan x a o s w.0)

        go : HasMoved r s ⊎ (HasShared r s ⊎ IsMade r (child r) s) → HasMoved t s
            ⊎ (HasShared t s ⊎ IsMade t (child t) s) → AgreeAt (child r) (child t) s
        go (inl a) (inl o) = absurd (once g.code.layouts n.frames tb value count (r - P) (t - P) s
            (λ e. absurd (apart (omega (arith, e, le, lf)))) (omega (arith, le, lt)) (omega (arith, lf, lu))
            split.distinct a.0 o.0)
        go (inl a) (inr (inl o)) = absurd (not_both s (shared_of plan) (shared_plan t lf lu s o.0)
            (split.apart s (in_plan r le lt s a.0)))
        go (inr (inl a)) (inl o) = absurd (not_both s (shared_of plan) (shared_plan r le lt s a.0)
            (split.apart s (in_plan t lf lu s o.0)))
        go (inr (inl a)) (inr (inl o)) = subst (λ z. ContentsAgree z (map.get (map_of (child t)) s)) (sym a.1)
            (subst (λ z. ContentsAgree (Some (Shared (cells_at m s))) z) (sym o.1) (inr (inr refl)))
        go (inl a) (inr (inr o)) = absurd (never t q c lf there was s (knows r le lt (inl a)) (sym a.2 ∙ same ∙ o))
        go (inr (inl a)) (inr (inr o)) = absurd
            (never t q c lf there was s (knows r le lt (inr a)) (sym a.2 ∙ same ∙ o))
        go (inr (inr a)) (inl o) = absurd (never r q c le there was s (knows t lf lu (inl o)) (sym o.2 ∙ sym same ∙ a))
        go (inr (inr a)) (inr (inl o)) = absurd
            (never r q c le there was s (knows t lf lu (inr o)) (sym o.2 ∙ sym same ∙ a))
        go (inr (inr a)) (inr (inr o)) = absurd
            (apart (identity_same r s.frame t s.frame (sym a ∙ same ∙ o)).0)

    parent_old : (t : ℕ) (e : Config (Memory Plain)) → q ≢ t → config_in (f t) ≡ Some e → (s : Spot)
        → meaning c s.frame ≡ meaning e s.frame → AgreeAt joining e s
    parent_old t e d u s same = ⊎_elim
        (λ i. inl (subst IsNotHeld (sym (parent_moved m plan s i (split.apart s i))) tt))
        (λ o. ⊎_elim
        (λ i. subst (λ z. ContentsAgree z (map.get (map_of e) s)) (sym (parent_shared m plan s i))
        (share_agrees (map.get m s) (split.pieces s i) (map.get (map_of e) s) (p.agree q t c e d was u s same)))
        (λ w. subst (λ z. ContentsAgree z (map.get (map_of e) s)) (sym (parent_rest m plan s o w))
        (p.agree q t c e d was u s same))
        (in_or s (shared_of plan)))
        (in_or s (moved_of plan))

    back : (e d : Config (Memory Plain)) (s : Spot) → AgreeAt e d s → AgreeAt d e s
    back e d s h = agree_back (map.get (map_of e) s) (map.get (map_of d) s) h

    agree : (r t : ℕ) (e d : Config (Memory Plain)) → r ≢ t → config_in (after_fork r) ≡ Some e
        → config_in (after_fork t) ≡ Some d → (s : Spot) → meaning e s.frame ≡ meaning d s.frame → AgreeAt e d s
    agree r t e d apart v u s same = go (seen_after r e v) (seen_after t d u)
      where
        -- the configurations by those that are known to be equal
        to : (x y : Config (Memory Plain)) → x ≡ e → y ≡ d → (meaning x s.frame ≡ meaning y s.frame → AgreeAt x y s)
            → AgreeAt e d s
        to x y i j h = subst (λ (z : Config (Memory Plain)). AgreeAt z d s) i
            (subst (λ (z : Config (Memory Plain)). AgreeAt x z s) j
            (h (ap (λ (z : Config (Memory Plain)). meaning z s.frame) i ∙ same
            ∙ ap (λ (z : Config (Memory Plain)). meaning z s.frame) (sym j))))

        go : After r e → After t d → AgreeAt e d s
        go (Young le lt i) (Young lf lu j) = to (child r) (child t) i j (young_young r t apart le lt lf lu s)
        go (Young le lt i) (Parent o j) = to (child r) joining i j (young_parent r le lt s)
        go (Young le lt i) (Old o l w) = to (child r) d i refl (young_old r t d le lt o l w s)
        go (Parent o j) (Young lf lu i) = to joining (child t) j i
            (λ h. back (child t) joining s (young_parent t lf lu s (sym h)))
        go (Parent o j) (Parent z w) = absurd (apart (sym o ∙ z))
        go (Parent o j) (Old z l w) = to joining d j refl (parent_old t d z w s)
        go (Old o l w) (Young lf lu i) = to e (child t) refl i
            (λ h. back (child t) e s (young_old t r e lf lu o l w s (sym h)))
        go (Old o l w) (Parent z j) = to e joining refl j (λ h. back joining e s (parent_old r e o w s (sym h)))
        go (Old o l w) (Old z k y) = p.agree r t e d apart w y s same

    pub forks_apart : AreApart after_fork birth_after
    forks_apart = record { number = number; known = known; moved = moved; siblings = siblings; agree = agree }
