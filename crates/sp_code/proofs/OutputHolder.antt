-- What changes at one process leaves the output with its holder; and an end gives it back to the parent.
use Rattle.std.proofs.Common.{◌≡◌, ◌≢◌, ◌⊎◌, inl, inr, ℕ, ◌<◌, ◌==◌, List, [], ◌∷◌, Option, Some, None, false, refl}
use Rattle.std.proofs.Common.{sym, ap, ◌∙◌, subst, arith}
use Rattle.std.proofs.Math.Path.{fun_ext}
use Rattle.std.specs.FinMap as map
use Rattle.std.proofs.lemmas.Option.{none-some, same_Some}
use Rattle.sp_cell.specs.declared.cell.Cell.{Cell}
use Rattle.sp_cell.specs.declared.spot.Spot.{Spot}
use Rattle.sp_cell.specs.declared.spot.Address.{Address}
use Rattle.sp_cell.specs.Map.{Map, Content, Own, Shared, Output, Away, Plain, IsOutput, IsHeld, output_spot}
use Rattle.sp_cell.specs.Fork.{insert_if_found, with_contents}
use Rattle.sp_cell.specs.Spots.{In, NotIn}
use Rattle.sp_cell.proofs.Plan.{in_or, get_taken_in, get_taken_out}
use Rattle.sp_cell.proofs.Laws.{get_other, get_here, same_or}
use Rattle.sp_journal.specs.declared.entry.Birth.{Birth}
use Rattle.sp_journal.specs.Maps.{at_key}
use Rattle.sp_code.specs.Machine.{Stop, Forks, Opens, Sends, Receives, Ends, Pauses, Config, At}
use Rattle.sp_code.specs.Memory.{CodeRun, Memory, put_cells}
use Rattle.sp_code.specs.PlainStore.{plain}
use Rattle.sp_code.specs.Sound.{CanJoin}
use Rattle.sp_code.specs.System.{Condition, Absent, Working, Waits, Joins, Laid, Gone, Over, store_in, store_of}
use Rattle.sp_code.specs.System.{on_store, after_message}
use Rattle.sp_code.specs.Channels.{AimsAt}
use Rattle.sp_code.specs.OutputHolder.{Share, HoldsIt, LendsIt, LacksIt, StoreIs, IsPart, Owned, AimsIn, IsShared}
use Rattle.sp_code.proofs.Queues.{number_or, at_same, at_other}
use Rattle.sp_code.proofs.Outputs.{own_is, target_apart, output_known}

-- ---- stores of conditions

pub store_runs : (c : Config (Memory Plain)) → store_in (Working c) ≡ Some (store_of c)
store_runs (At pc st n) = refl

pub store_waits : (stop : Stop) (c : Config (Memory Plain)) → store_in (Waits stop c) ≡ Some (store_of c)
store_waits stop (At pc st n) = refl

pub store_joins : (left : ℕ) (c : Config (Memory Plain)) → store_in (Joins left c) ≡ Some (store_of c)
store_joins left (At pc st n) = refl

pub store_laid : (c : Config (Memory Plain)) → store_in (Laid c) ≡ Some (store_of c)
store_laid (At pc st n) = refl

pub store_over : (c : Config (Memory Plain)) → store_in (Over c) ≡ Some (store_of c)
store_over (At pc st n) = refl

pub store_on : (f : Plain → Plain) (c : Config (Memory Plain)) → store_of (on_store f c) ≡ f (store_of c)
store_on f (At pc st n) = refl

-- ---- one process changes

module _ (share : ℕ → Share) (holder : ℕ) (birth : ℕ → Option Birth) where
  same_at : (f : ℕ → Condition Plain) (z : ℕ) (x : Condition Plain) → f z ≡ x → at_key ◌==◌ z x f ≡ f
  same_at f z x e = fun_ext (λ q. go q (number_or z q))
    where
      go : (q : ℕ) → (z ≡ q) ⊎ ((z ≢ q) × (z == q ≡ false)) → at_key ◌==◌ z x f q ≡ f q
      go q (inl is) = subst (λ y. at_key ◌==◌ z x f y ≡ x) is (at_same f z x) ∙ sym e ∙ ap f is
      go q (inr o) = at_other f z q x o.0

  no_change : (f : ℕ → Condition Plain) (z : ℕ) (x : Condition Plain) → f z ≡ x → IsShared share holder f birth
      → IsShared share holder (at_key ◌==◌ z x f) birth
  no_change f z x e h = subst (λ y. IsShared share holder y birth) (sym (same_at f z x e)) h

  pub one_change : (f : ℕ → Condition Plain) (z : ℕ) (x : Condition Plain) (p0 p : Plain)
      → IsShared share holder f birth → store_in (f z) ≡ Some p0 → store_in x ≡ Some p → StoreIs (share z) p
      → p.moved ≡ p0.moved → AimsIn x
      → IsShared share holder (at_key ◌==◌ z x f) birth
  one_change f z x p0 p h was now is moved aims = record {
    holds = h.holds;
    only = h.only;
    here = here (number_or z holder);
    stores = λ q r e. stores q r (at_store q r e);
    up = h.up;
    siblings = h.siblings;
    had = λ q b r w e k. had q b r w k (at_store q r e);
    not_had = λ q b r w e n k. not_had q b r w n k (at_store q r e);
    aims = λ q. aims_at q (number_or z q);
  }
    where
      at_store : (q : ℕ) (r : Plain) → store_in (at_key ◌==◌ z x f q) ≡ Some r → ((z ≡ q) × (p ≡ r))
          ⊎ (store_in (f q) ≡ Some r)
      at_store q r e = go (number_or z q)
        where
          go : (z ≡ q) ⊎ ((z ≢ q) × (z == q ≡ false)) → ((z ≡ q) × (p ≡ r)) ⊎ (store_in (f q) ≡ Some r)
          go (inl w) = inl (
            w,
            same_Some _ _
                (sym now ∙ ap store_in (sym (at_same f z x)) ∙ ap (λ y. store_in (at_key ◌==◌ z x f y)) w ∙ e),
          )
          go (inr o) = inr (ap store_in (sym (at_other f z q x o.0)) ∙ e)

      here : (z ≡ holder) ⊎ ((z ≢ holder) × (z == holder ≡ false)) → (r : Plain)
          × (store_in (at_key ◌==◌ z x f holder) ≡ Some r)
      here (inl w) = (p, ap (λ y. store_in (at_key ◌==◌ z x f y)) (sym w) ∙ ap store_in (at_same f z x) ∙ now)
      here (inr o) = (h.here.0, ap store_in (at_other f z holder x o.0) ∙ h.here.1)

      stores : (q : ℕ) (r : Plain) → ((z ≡ q) × (p ≡ r)) ⊎ (store_in (f q) ≡ Some r) → StoreIs (share q) r
      stores q r (inl w) = subst (λ y. StoreIs (share y) r) w.0 (subst (StoreIs (share z)) w.1 is)
      stores q r (inr e) = h.stores q r e

      had : (q : ℕ) (b : Birth) (r : Plain) → birth q ≡ Some b → IsPart (share q) → ((z ≡ q) × (p ≡ r))
          ⊎ (store_in (f q) ≡ Some r) → In output_spot r.moved
      had q b r w k (inl e) = subst (λ (y : Plain). In output_spot y.moved) e.1
          (subst (In output_spot) (sym moved) (h.had q b p0 w (ap (λ y. store_in (f y)) (sym e.0) ∙ was) k))
      had q b r w k (inr e) = h.had q b r w e k

      not_had : (q : ℕ) (b : Birth) (r : Plain) → birth q ≡ Some b → (IsPart (share q) → ⊥) → IsPart (share b.parent)
          → ((z ≡ q) × (p ≡ r)) ⊎ (store_in (f q) ≡ Some r) → In output_spot r.moved → ⊥
      not_had q b r w n k (inl e) i = h.not_had q b p0 w (ap (λ y. store_in (f y)) (sym e.0) ∙ was) n k
          (subst (In output_spot) moved (subst (λ (y : Plain). In output_spot y.moved) (sym e.1) i))
      not_had q b r w n k (inr e) i = h.not_had q b r w e n k i

      aims_at : (q : ℕ) → (z ≡ q) ⊎ ((z ≢ q) × (z == q ≡ false)) → AimsIn (at_key ◌==◌ z x f q)
      aims_at q (inl w) = subst (λ y. AimsIn (at_key ◌==◌ z x f y)) w (subst AimsIn (sym (at_same f z x)) aims)
      aims_at q (inr o) = subst AimsIn (sym (at_other f z q x o.0)) (h.aims q)

  -- a message goes over
  pub received_change : (g : CodeRun) (f : ℕ → Condition Plain) (z : ℕ) (cs : List Cell) → IsShared share holder f birth
      → IsShared share holder (at_key ◌==◌ z (after_message plain g cs (f z)) f) birth
  received_change g f z cs h = go (f z) refl
    where
      on : (stop : Stop) (c : Config (Memory Plain)) → f z ≡ Waits stop c
          → IsShared share holder (at_key ◌==◌ z (Working c) f) birth
      on stop c e = let w = ap store_in e ∙ store_waits stop c in
          one_change f z (Working c) (store_of c) (store_of c) h w (store_runs c) (h.stores z (store_of c) w) refl tt

      put : (d k : ℕ) (a : Address) (c : Config (Memory Plain)) → f z ≡ Waits (Receives d k a) c
          → AimsAt Owned (Receives d k a) c → IsShared share holder
          (at_key ◌==◌ z (Working (on_store (put_cells plain a cs) c)) f) birth
      put d k a (At pc st n) e aims =
          let w : store_in (f z) ≡ Some n.store = ap store_in e in
          let s : StoreIs (share z) n.store = h.stores z n.store w in
          one_change f z (Working (on_store (put_cells plain a cs) (At pc st n))) n.store (put_cells plain a cs n.store)
          h w refl (own_is (share z) n.store a.spot _ (target_apart (share z) n.store a.spot s aims) s) refl tt

      go : (x : Condition Plain) → f z ≡ x → IsShared share holder (at_key ◌==◌ z (after_message plain g cs x) f) birth
      go Absent e = no_change f z Absent e h
      go (Working c) e = no_change f z (Working c) e h
      go (Waits (Receives d k a) c) e = put d k a c e (subst AimsIn e (h.aims z))
      go (Waits (Sends d k bs) c) e = on (Sends d k bs) c e
      go (Waits (Forks t v n) c) e = on (Forks t v n) c e
      go (Waits (Opens a) c) e = on (Opens a) c e
      go (Waits Ends c) e = on Ends c e
      go (Waits Pauses c) e = on Pauses c e
      go (Joins n c) e = no_change f z (Joins n c) e h
      go (Laid c) e = no_change f z (Laid c) e h
      go Gone e = no_change f z Gone e h
      go (Over c) e = no_change f z (Over c) e h

-- ---- a child is joined

pub joined_lacks : (m : Map) (ss : List Spot) (c : Map) → (IsOutput (map.get c output_spot) → ⊥)
    → (In output_spot ss → IsOutput (map.get m output_spot) → ⊥)
    → IsOutput (map.get (with_contents m ss c) output_spot) → ⊥
joined_lacks m [] c a b = a
joined_lacks m (s ∷ ss) c a b = joined_lacks m ss (insert_if_found c s (map.get m s)) (held (map.get m s) refl)
    (λ i. b (inr i))
  where
    held : (x : Option Content) → map.get m s ≡ x → IsOutput (map.get (insert_if_found c s x) output_spot) → ⊥
    held None e w = a w
    held (Some h) e w = go (same_or output_spot s)
      where
        go : (output_spot ≡ s) ⊎ (output_spot ≢ s) → ⊥
        go (inl is) = b (inl is) (subst IsOutput (ap (map.get m) (sym is))
            (subst IsOutput (sym e) (subst IsOutput (get_here c s h)
            (subst (λ y. IsOutput (map.get (map.insert c s h) y)) is w))))
        go (inr n) = a (subst IsOutput (get_other c s h output_spot n) w)

pub not_held : (o : Option Content) → o ≡ Some Away → IsHeld o → ⊥
not_held (Some Away) e h = h
not_held None e h = h
not_held (Some (Own cs)) e h = absurd (cc e)
not_held (Some (Shared cs)) e h = absurd (cc e)
not_held (Some (Output bs)) e h = absurd (cc e)

pub hold_lend : HoldsIt ≡ LendsIt → ⊥
hold_lend e = cc

pub hold_lack : HoldsIt ≡ LacksIt → ⊥
hold_lack e = cc

module _ (share : ℕ → Share) (holder : ℕ) (birth : ℕ → Option Birth) (f : ℕ → Condition Plain)
    (h : IsShared share holder f birth) (order : (r : ℕ) (d : Birth) → birth r ≡ Some d → d.parent < r)
    (q : ℕ) (b : Birth) (born : birth q ≡ Some b) (p p0 m : Plain) (x : Condition Plain)
    (was : store_in (f q) ≡ Some p0) (is : StoreIs (share q) p) (moved : p.moved ≡ p0.moved)
    (mother : store_in (f b.parent) ≡ Some m) (can : CanJoin m p) (now : store_in x ≡ Some (plain.joined m p))
    (aims : AimsIn x) where
  apart : b.parent ≢ q
  apart e = omega (arith, order q b born, e)

  abbrev after_join : ℕ → Condition Plain
  after_join = at_key ◌==◌ b.parent x (at_key ◌==◌ q Gone f)

  at_parent : after_join b.parent ≡ x
  at_parent = at_same (at_key ◌==◌ q Gone f) b.parent x

  -- who has which store then
  join_store : (r : ℕ) (t : Plain) → store_in (after_join r) ≡ Some t → ((b.parent ≡ r) × (plain.joined m p ≡ t))
      ⊎ ((b.parent ≢ r) × (q ≢ r) × (store_in (f r) ≡ Some t))
  join_store r t e = go (number_or b.parent r)
    where
      go : (b.parent ≡ r) ⊎ ((b.parent ≢ r) × (b.parent == r ≡ false)) → ((b.parent ≡ r) × (plain.joined m p ≡ t))
          ⊎ ((b.parent ≢ r) × (q ≢ r) × (store_in (f r) ≡ Some t))
      go (inl w) = inl (
        w,
        same_Some _ _ (sym now ∙ ap store_in (sym at_parent) ∙ ap (λ y. store_in (after_join y)) w
            ∙ e),
      )
      go (inr o) = inr (child (number_or q r))
        where
          left : store_in (at_key ◌==◌ q Gone f r) ≡ Some t
          left = ap store_in (sym (at_other (at_key ◌==◌ q Gone f) b.parent r x o.0)) ∙ e

          child : (q ≡ r) ⊎ ((q ≢ r) × (q == r ≡ false)) → (b.parent ≢ r) × (q ≢ r) × (store_in (f r) ≡ Some t)
          child (inl w) = absurd (none-some _
              (ap store_in (sym (at_same f q Gone)) ∙ ap (λ y. store_in (at_key ◌==◌ q Gone f y)) w ∙ left))
          child (inr d) = (o.0, d.0, ap store_in (sym (at_other f q r Gone d.0)) ∙ left)

  join_aims : (r : ℕ) → AimsIn (after_join r)
  join_aims r = go (number_or b.parent r) (number_or q r)
    where
      go : (b.parent ≡ r) ⊎ ((b.parent ≢ r) × (b.parent == r ≡ false)) → (q ≡ r) ⊎ ((q ≢ r) × (q == r ≡ false))
          → AimsIn (after_join r)
      go (inl w) y = subst (λ z. AimsIn (after_join z)) w (subst AimsIn (sym at_parent) aims)
      go (inr o) (inl w) = subst AimsIn (sym (at_other (at_key ◌==◌ q Gone f) b.parent r x o.0))
          (subst (λ z. AimsIn (at_key ◌==◌ q Gone f z)) w (subst AimsIn (sym (at_same f q Gone)) tt))
      go (inr o) (inr d) = subst AimsIn (sym
          (at_other (at_key ◌==◌ q Gone f) b.parent r x o.0 ∙ at_other f q r Gone d.0)) (h.aims r)

  -- a child that has nothing of the output gives none back
  module _ (lacks : share q ≡ LacksIt) where
    not_mine : IsPart (share q) → ⊥
    not_mine i = subst IsPart lacks i

    child_lacks : IsOutput (map.get p.map output_spot) → ⊥
    child_lacks = subst (λ y. StoreIs y p) lacks is

    parent_is : (y : Share) → share b.parent ≡ y → StoreIs y m → StoreIs y (plain.joined m p)
    parent_is HoldsIt e s = (subst IsOutput (sym (get_taken_out p.map p.moved m.map output_spot (out e))) s.0, s.1)
      where
        out : share b.parent ≡ HoldsIt → NotIn output_spot p.moved
        out e = elim (in_or output_spot p.moved) [
          | inl i ↦ absurd (h.not_had q b p0 born was not_mine (subst IsPart (sym e) tt)
              (subst (In output_spot) moved i))
          | inr n ↦ n
        ]
    parent_is LendsIt e s = (get_taken_out p.map p.moved m.map output_spot (out e) ∙ s.0, s.1)
      where
        out : share b.parent ≡ LendsIt → NotIn output_spot p.moved
        out e = elim (in_or output_spot p.moved) [
          | inl i ↦ absurd (h.not_had q b p0 born was not_mine (subst IsPart (sym e) tt)
              (subst (In output_spot) moved i))
          | inr n ↦ n
        ]
    parent_is LacksIt e s = joined_lacks p.map p.moved m.map s (λ i. child_lacks)

    pub join_lacks : IsShared share holder after_join birth
    join_lacks = record {
      holds = h.holds;
      only = h.only;
      here = here (number_or b.parent holder);
      stores = λ r t e. stores r t (join_store r t e);
      up = h.up;
      siblings = h.siblings;
      had = λ r d t w e k. had r d t w k (join_store r t e);
      not_had = λ r d t w e n k. not_had r d t w n k (join_store r t e);
      aims = join_aims;
    }
      where
        here : (b.parent ≡ holder) ⊎ ((b.parent ≢ holder) × (b.parent == holder ≡ false)) → (t : Plain)
            × (store_in (after_join holder) ≡ Some t)
        here (inl w) = (plain.joined m p, ap (λ y. store_in (after_join y)) (sym w) ∙ ap store_in at_parent ∙ now)
        here (inr o) =
            let n : q ≢ holder = λ e. hold_lack (sym h.holds ∙ ap share (sym e) ∙ lacks) in (
              h.here.0,
              ap store_in (at_other (at_key ◌==◌ q Gone f) b.parent holder x o.0 ∙ at_other f q holder Gone n)
                  ∙ h.here.1,
            )

        stores : (r : ℕ) (t : Plain) → ((b.parent ≡ r) × (plain.joined m p ≡ t))
            ⊎ ((b.parent ≢ r) × (q ≢ r) × (store_in (f r) ≡ Some t)) → StoreIs (share r) t
        stores r t (inl w) = subst (λ y. StoreIs (share y) t) w.0
            (subst (StoreIs (share b.parent)) w.1 (parent_is (share b.parent) refl (h.stores b.parent m mother)))
        stores r t (inr e) = h.stores r t e.2

        had : (r : ℕ) (d : Birth) (t : Plain) → birth r ≡ Some d → IsPart (share r)
            → ((b.parent ≡ r) × (plain.joined m p ≡ t)) ⊎ ((b.parent ≢ r) × (q ≢ r) × (store_in (f r) ≡ Some t))
            → In output_spot t.moved
        had r d t w k (inl e) = subst (λ (y : Plain). In output_spot y.moved) e.1
            (h.had r d m w (ap (λ y. store_in (f y)) (sym e.0) ∙ mother) k)
        had r d t w k (inr e) = h.had r d t w e.2 k

        not_had : (r : ℕ) (d : Birth) (t : Plain) → birth r ≡ Some d → (IsPart (share r) → ⊥) → IsPart (share d.parent)
            → ((b.parent ≡ r) × (plain.joined m p ≡ t)) ⊎ ((b.parent ≢ r) × (q ≢ r) × (store_in (f r) ≡ Some t))
            → In output_spot t.moved → ⊥
        not_had r d t w n k (inl e) i = h.not_had r d m w (ap (λ y. store_in (f y)) (sym e.0) ∙ mother) n k
            (subst (λ (y : Plain). In output_spot y.moved) (sym e.1) i)
        not_had r d t w n k (inr e) i = h.not_had r d t w e.2 n k i

  -- the holder gives it back
  module _ (mine : share q ≡ HoldsIt) where
    part : IsPart (share q)
    part = subst IsPart (sym mine) tt

    lends : share b.parent ≡ LendsIt
    lends = h.up q b born part

    abbrev next : ℕ → Share
    next = at_key ◌==◌ b.parent HoldsIt (at_key ◌==◌ q LacksIt share)

    next_parent : next b.parent ≡ HoldsIt
    next_parent = at_same (at_key ◌==◌ q LacksIt share) b.parent HoldsIt

    next_child : next q ≡ LacksIt
    next_child = at_other (at_key ◌==◌ q LacksIt share) b.parent q HoldsIt apart ∙ at_same share q LacksIt

    next_other : (r : ℕ) → b.parent ≢ r → q ≢ r → next r ≡ share r
    next_other r n d = at_other (at_key ◌==◌ q LacksIt share) b.parent r HoldsIt n ∙ at_other share q r LacksIt d

    data Which (r : ℕ) : Type 0 where
      Parent : (e : b.parent ≡ r) → Which r
      Child : (e : q ≡ r) → Which r
      Another : (n : b.parent ≢ r) (d : q ≢ r) → Which r

    which : (r : ℕ) → Which r
    which r = go (number_or b.parent r) (number_or q r)
      where
        go : (b.parent ≡ r) ⊎ ((b.parent ≢ r) × (b.parent == r ≡ false)) → (q ≡ r) ⊎ ((q ≢ r) × (q == r ≡ false))
            → Which r
        go (inl e) y = Parent e
        go (inr o) (inl e) = Child e
        go (inr o) (inr d) = Another o.0 d.0

    -- who is part then was part before
    part_was : (r : ℕ) → IsPart (next r) → IsPart (share r)
    part_was r i = go (which r)
      where
        go : Which r → IsPart (share r)
        go (Parent e) = subst (λ y. IsPart (share y)) e (subst IsPart (sym lends) tt)
        go (Child e) = absurd (subst IsPart (ap next (sym e) ∙ next_child) i)
        go (Another n d) = subst IsPart (next_other r n d) i

    pub join_holds : IsShared next b.parent after_join birth
    join_holds = record {
      holds = next_parent;
      only = λ r e. only r e (which r);
      here = (plain.joined m p, ap store_in at_parent ∙ now);
      stores = λ r t e. stores r t (join_store r t e);
      up = λ r d w i. up r d w i (which r) (which d.parent);
      siblings = λ r t d e w v z i j. h.siblings r t d e w v z (part_was r i) (part_was t j);
      had = λ r d t w e k. had r d t w (part_was r k) (join_store r t e);
      not_had = λ r d t w e n k. not_had r d t w n (part_was d.parent k) (join_store r t e);
      aims = join_aims;
    }
      where
        only : (r : ℕ) → next r ≡ HoldsIt → Which r → r ≡ b.parent
        only r e (Parent w) = sym w
        only r e (Child w) = absurd (hold_lack (sym e ∙ ap next (sym w) ∙ next_child))
        only r e (Another n d) = absurd (d (h.only q mine ∙ sym (h.only r (sym (next_other r n d) ∙ e))))

        in_moved : In output_spot p.moved
        in_moved = subst (In output_spot) (sym moved) (h.had q b p0 born was part)

        child_output : IsOutput (map.get p.map output_spot)
        child_output = (subst (λ y. StoreIs y p) mine is).0

        got : map.get (with_contents p.map p.moved m.map) output_spot ≡ map.get p.map output_spot
        got = get_taken_in p.map p.moved m.map output_spot in_moved
            (output_known (map.get p.map output_spot) child_output)

        mother_is : StoreIs LendsIt m
        mother_is = subst (λ y. StoreIs y m) lends (h.stores b.parent m mother)

        stores : (r : ℕ) (t : Plain) → ((b.parent ≡ r) × (plain.joined m p ≡ t))
            ⊎ ((b.parent ≢ r) × (q ≢ r) × (store_in (f r) ≡ Some t)) → StoreIs (next r) t
        stores r t (inl w) =
            subst (λ y. StoreIs (next y) t) w.0
            (subst (λ y. StoreIs y t) (sym next_parent)
            (subst (StoreIs HoldsIt) w.1 (subst IsOutput (sym got) child_output, mother_is.1)))
        stores r t (inr e) = subst (λ y. StoreIs y t) (sym (next_other r e.0 e.1)) (h.stores r t e.2)

        up : (r : ℕ) (d : Birth) → birth r ≡ Some d → IsPart (next r) → Which r → Which d.parent
            → next d.parent ≡ LendsIt
        up r d w i (Child e) y = absurd (subst IsPart (ap next (sym e) ∙ next_child) i)
        up r d w i (Parent e) (Another n k) = next_other d.parent n k ∙ h.up r d w (part_was r i)
        up r d w i (Parent e) (Child k) = absurd (hold_lend (sym mine ∙ ap share k ∙ h.up r d w (part_was r i)))
        up r d w i (Parent e) (Parent k) = absurd (omega (arith, order r d w, k, e))
        up r d w i (Another n v) (Another l k) = next_other d.parent l k ∙ h.up r d w (part_was r i)
        up r d w i (Another n v) (Child k) = absurd (hold_lend (sym mine ∙ ap share k ∙ h.up r d w (part_was r i)))
        up r d w i (Another n v) (Parent k) = absurd (v (h.siblings q r b d born w k part (part_was r i)))

        had : (r : ℕ) (d : Birth) (t : Plain) → birth r ≡ Some d → IsPart (share r)
            → ((b.parent ≡ r) × (plain.joined m p ≡ t)) ⊎ ((b.parent ≢ r) × (q ≢ r) × (store_in (f r) ≡ Some t))
            → In output_spot t.moved
        had r d t w k (inl e) = subst (λ (y : Plain). In output_spot y.moved) e.1
            (h.had r d m w (ap (λ y. store_in (f y)) (sym e.0) ∙ mother) k)
        had r d t w k (inr e) = h.had r d t w e.2 k

        not_had : (r : ℕ) (d : Birth) (t : Plain) → birth r ≡ Some d → (IsPart (next r) → ⊥) → IsPart (share d.parent)
            → ((b.parent ≡ r) × (plain.joined m p ≡ t)) ⊎ ((b.parent ≢ r) × (q ≢ r) × (store_in (f r) ≡ Some t))
            → In output_spot t.moved → ⊥
        not_had r d t w n k (inl e) i = n (subst (λ y. IsPart (next y)) e.0 (subst IsPart (sym next_parent) tt))
        not_had r d t w n k (inr e) i = h.not_had r d t w e.2 (λ v. n (subst IsPart (sym (next_other r e.0 e.1)) v)) k i

  -- who lent it on does not end
  pub no_lender : share q ≡ LendsIt → ⊥
  no_lender e =
      let i = subst (In output_spot) (sym moved) (h.had q b p0 born was (subst IsPart (sym e) tt)) in
      not_held (map.get p.map output_spot) (subst (λ y. StoreIs y p) e is).0 (can.held output_spot i)
