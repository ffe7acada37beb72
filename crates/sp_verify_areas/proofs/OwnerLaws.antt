-- What a search for owners hands on is true; and where nothing is left to be handed on, each instruction has its owner.
use Rattle.std.proofs.Common.{◌≡◌, ◌⊎◌, ◌≢◌, inl, inr, ⊎_elim, refl, ap, sym, ◌∙◌, subst, ℕ, zero, suc, ◌+◌, ◌<◌, ◌≤◌}
use Rattle.std.proofs.Common.{◌==◌, List, length, Option, Some, None, Bool, true, false, ◌||◌, if◌then◌else◌}
use Rattle.std.proofs.Common.{arith, eqb-true}
use Rattle.std.specs.Prelude.{slice_get, slice_set}
use Rattle.std.proofs.lemmas.Bool.{eq-eqb, and_parts, cases_eq}
use Rattle.std.proofs.lemmas.List.{length-set}
use Rattle.std.proofs.lemmas.Option.{slice_get_within, same_Some}
use Rattle.sp_base.proofs.Facts.{get_beside_set, get_where_set, item_is_not_none, not_true_and_false}
use Rattle.sp_code.specs.declared.code.Layout.{Layout}
use Rattle.sp_code.specs.declared.code.ChildTable.{ChildTable}
use Rattle.sp_code.specs.declared.code.Parts.{Parts}
use Rattle.sp_code.specs.Machine.{layout_of}
use Rattle.sp_verify_areas.specs.declared.owners.Owner.{Owner}
use Rattle.sp_verify_areas.specs.declared.owners.Owner.TheVariants as owner
use Rattle.sp_verify_rules.specs.Areas.{Area, Body, Child, on_option, instr_at, table_at, child_of, child_at, entry}
use Rattle.sp_verify_rules.specs.Areas.{entry_of_child, entry_of_layout}
use Rattle.sp_verify_rules.specs.Reach.{IsMember, LeadsInSteps, nexts}
use Rattle.sp_verify_rules.specs.NameRules.{LiesIn, Names, IsChild}
use Rattle.sp_verify_areas.specs.Owners.{owner_of, AreaHas, HasOne, HasTwo, IsTrueOf, AreTrue, is_same, IsOwner}
use Rattle.sp_verify_areas.specs.Owners.{common_owner}
use Rattle.sp_verify_areas.specs.Owners.{room}
use Rattle.sp_verify_areas.specs.Owners.{as_child, of_child, KnowsOwner, HandsOwner, Propagates}

-- ---- lists

-- ---- owners

pub same_is : (w o : Owner) → is_same w o ≡ true → w ≡ o
same_is owner.Nobody owner.Nobody e = refl
same_is (owner.Block b) (owner.Block d) e = ap owner.Block (eqb-true b d e)
same_is (owner.Child p k) (owner.Child q j) e = let b = and_parts (p == q) (k == j) e in let x = eqb-true p q b.0 in
    let y = eqb-true k j b.1 in λ z. owner.Child (x z) (y z)
same_is owner.Several owner.Several e = refl
same_is w o e = absurd (cc e)

pub same_self : (w : Owner) → is_same w w ≡ true
same_self owner.Nobody = refl
same_self (owner.Block b) = eq-eqb b b refl
same_self (owner.Child p k) = rw (eq-eqb p p refl, eq-eqb k k refl) refl
same_self owner.Several = refl

by_same : (w o : Owner) → (if is_same w o then w else owner.Several) ≡ owner.Several
    ⊎ (if is_same w o then w else owner.Several) ≡ o
by_same w o = go (is_same w o) refl
  where
    go : (b : Bool) → is_same w o ≡ b → (if b then w else owner.Several) ≡ owner.Several
        ⊎ (if b then w else owner.Several) ≡ o
    go true e = inr (same_is w o e)
    go false e = inl refl

pub join_above : (w o : Owner) → (common_owner w o ≡ owner.Several) ⊎ (common_owner w o ≡ o)
join_above owner.Nobody o = inr refl
join_above (owner.Block b) o = by_same (owner.Block b) o
join_above (owner.Child p k) o = by_same (owner.Child p k) o
join_above owner.Several o = inl refl

-- ---- what is true stays so

module _ (c : Parts) where
  two : (x : ℕ) (w o : Owner) → HasOne c x w → HasOne c x o → is_same w o ≡ false → HasTwo c x
  two x w o h k e = record {
    first = h.area;
    second = k.area;
    has = h.has;
    too = k.has;
    apart = λ s. not_true_and_false (is_same w o)
        (ap (is_same w) (sym (sym h.owner_is ∙ ap owner_of s ∙ k.owner_is)) ∙ same_self w) e;
  }

  by_join : (x : ℕ) (w o : Owner) → HasOne c x w → IsTrueOf c x w → IsOwner o → IsTrueOf c x o
      → IsTrueOf c x (if is_same w o then w else owner.Several)
  by_join x w o h t some k = go (is_same w o) refl
    where
      other : (v : Owner) → IsOwner v → IsTrueOf c x v → is_same w v ≡ false → HasTwo c x
      other owner.Nobody some k e = absurd (some refl)
      other (owner.Block b) some k e = two x w (owner.Block b) h k e
      other (owner.Child p j) some k e = two x w (owner.Child p j) h k e
      other owner.Several some k e = k

      go : (b : Bool) → is_same w o ≡ b → IsTrueOf c x (if b then w else owner.Several)
      go true e = t
      go false e = other o some k e

  true_join : (x : ℕ) (w o : Owner) → IsTrueOf c x w → IsOwner o → IsTrueOf c x o → IsTrueOf c x (common_owner w o)
  true_join x owner.Nobody o t some k = k
  true_join x (owner.Block b) o t some k = by_join x (owner.Block b) o t t some k
  true_join x (owner.Child p j) o t some k = by_join x (owner.Child p j) o t t some k
  true_join x owner.Several o t some k = t

  module _ (old new : List Owner) (x : ℕ) (o : Owner) (changed : Bool) (are : AreTrue c old) (some : IsOwner o)
      (k : IsTrueOf c x o) (g : HandsOwner old new x o changed) where
    gives_true : AreTrue c new
    gives_true = go (slice_get old x) refl
      where
        go : (u : Option Owner) → slice_get old x ≡ u → AreTrue c new
        go None e = subst (AreTrue c) (sym (g.now
            ∙ ap (λ (u : Option Owner). on_option old u (λ w. slice_set old x (common_owner w o))) e)) are
        go (Some w) e = subst (AreTrue c) (sym (g.now
            ∙ ap (λ (u : Option Owner). on_option old u (λ w. slice_set old x (common_owner w o))) e))
            (record { size = length-set old x (common_owner w o) ∙ are.size; each = each })
          where
            each : (y : ℕ) (v : Owner) → slice_get (slice_set old x (common_owner w o)) y ≡ Some v → IsTrueOf c y v
            each y v h = ⊎_elim
                (λ (s : x ≡ y). let r = same_Some (common_owner w o) v
                (sym (get_where_set old x (common_owner w o) (slice_get_within old x w e))
                ∙ ap (slice_get (slice_set old x (common_owner w o))) s ∙ h) in
                subst (λ z. IsTrueOf c z v) s (subst (IsTrueOf c x) r (true_join x w o (are.each x w e) some k)))
                (λ (d : x ≢ y). are.each y v (sym (get_beside_set old x y (common_owner w o) d) ∙ h))
                (cases_eq x y)

    gives_knows : x < length old → KnowsOwner new x o
    gives_knows l = go (slice_get old x) refl
      where
        go : (u : Option Owner) → slice_get old x ≡ u → KnowsOwner new x o
        go None e = absurd (item_is_not_none old x l e)
        go (Some w) e =
            let s = g.now ∙ ap (λ (u : Option Owner). on_option old u (λ v. slice_set old x (common_owner v o))) e in
            record {
              found = common_owner w o;
              found_is = ap (λ (os : List Owner). slice_get os x) s
                  ∙ get_where_set old x (common_owner w o) l;
              above = join_above w o;
            }

    pub gives_spreads : x < length c.instrs + length c.forks → Propagates c old new (λ os. KnowsOwner os x o) changed
    gives_spreads l = record {
      just = gives_true;
      less = g.less;
      unchanged = λ e.
          (g.unchanged e, gives_knows (subst (λ n. x < n) (sym are.size) l));
    }

  -- ---- steps one after the other

  pub spreads_as : (a b : List Owner) (P Q : List Owner → Type 0) (s : Bool) → (b ≡ a → P b → Q b)
      → Propagates c a b P s
      → Propagates c a b Q s
  spreads_as a b P Q s f h = record {
    just = h.just;
    less = h.less;
    unchanged = λ e. let z = h.unchanged e in
        (z.0, f z.0 z.1);
  }

  pub spreads_room : (a b : List Owner) (P : List Owner → Type 0) (s : Bool) → Propagates c a b P s → room b ≤ room a
  spreads_room a b P true h = let l = h.less refl in omega (arith, l)
  spreads_room a b P false h = let e = ap room (h.unchanged refl).0 in omega (arith, e)

  pub spreads_then : (a b d : List Owner) (P Q : List Owner → Type 0) (s t : Bool) → Propagates c a b P s
      → Propagates c b d Q t → Propagates c a d (λ os. P os × Q os) (s || t)
  spreads_then a b d P Q s t h k = record { just = k.just; less = less s t h k; unchanged = same s t h k }
    where
      less : (s t : Bool) → Propagates c a b P s → Propagates c b d Q t → (s || t) ≡ true → room d < room a
      less true t h k e = let l = h.less refl in let m = spreads_room b d Q t k in omega (arith, l, m)
      less false true h k e = let l = k.less refl in let m = spreads_room a b P false h in omega (arith, l, m)
      less false false h k e = absurd (cc e)

      same : (s t : Bool) → Propagates c a b P s → Propagates c b d Q t → (s || t) ≡ false → (d ≡ a) × (P d × Q d)
      same true t h k e = absurd (cc e)
      same false true h k e = absurd (cc e)
      same false false h k e =
          let x = h.unchanged refl in let y = k.unchanged refl in
          (y.0 ∙ x.0, (subst P (sym y.0) x.1, y.1))

  -- ---- what is handed on is true

  pub lies_in : (x : ℕ) (a : Area) → x < length c.instrs → AreaHas c x a → LiesIn c x a
  lies_in x a l (inl h) = h.1
  lies_in x a l (inr (t, q, b, e, n, k, s)) = absurd (let m : x ≡ length c.instrs + t = e in omega (arith, m, l))

  goes_on : (n p q r : ℕ) → LeadsInSteps c n p q → IsMember r (nexts q (instr_at c q)) → LeadsInSteps c (suc n) p r
  goes_on zero p q r e i = (r, subst (λ z. IsMember r (nexts z (instr_at c z))) (sym e) i, refl)
  goes_on (suc n) p q r g i = (g.0, g.1, goes_on n g.0 q r g.2 i)

  pub along : (p q : ℕ) (a : Area) → LiesIn c p a → IsMember q (nexts p (instr_at c p)) → LiesIn c q a
  along p q a h i = (h.0, record { steps = suc h.1.steps; way = goes_on h.1.steps (entry c a) p q h.1.way i })

  one_along : (p q : ℕ) (o : Owner) → p < length c.instrs → q < length c.instrs → IsMember q (nexts p (instr_at c p))
      → HasOne c p o → HasOne c q o
  one_along p q o l m i h = record {
    area = h.area;
    has = inl (m, along p q h.area (lies_in p h.area l h.has) i);
    owner_is = h.owner_is;
  }

  pub true_along : (p q : ℕ) (o : Owner) → p < length c.instrs → q < length c.instrs
      → IsMember q (nexts p (instr_at c p)) → IsTrueOf c p o → IsTrueOf c q o
  true_along p q owner.Nobody l m i t = tt
  true_along p q (owner.Block b) l m i t = one_along p q (owner.Block b) l m i t
  true_along p q (owner.Child r k) l m i t = one_along p q (owner.Child r k) l m i t
  true_along p q owner.Several l m i t =
      record {
        first = t.first;
        second = t.second;
        has = inl (m, along p q t.first (lies_in p t.first l t.has) i);
        too = inl
            (m, along p q t.second (lies_in p t.second l t.too) i);
        apart = t.apart;
      }

  to_table : (p t : ℕ) (a : Area) → p < length c.instrs → Names c t p → AreaHas c p a
      → AreaHas c (length c.instrs + t) (Child a p 0)
  to_table p t a l n h = inr (t, p, a, refl, n, lies_in p a l h, refl)

  pub true_table : (p t : ℕ) (o : Owner) → p < length c.instrs → Names c t p → IsTrueOf c p o
      → IsTrueOf c (length c.instrs + t) (as_child p o)
  true_table p t owner.Nobody l n h = tt
  true_table p t (owner.Block b) l n h = record {
    area = Child h.area p 0;
    has = to_table p t h.area l n h.has;
    owner_is = refl;
  }
  true_table p t (owner.Child q k) l n h = record {
    area = Child h.area p 0;
    has = to_table p t h.area l n h.has;
    owner_is = refl;
  }
  true_table p t owner.Several l n h =
      record {
        first = Child h.first p 0;
        second = Child h.second p 0;
        has = to_table p t h.first l n h.has;
        too = to_table p t h.second l n h.too;
        apart = λ e. h.apart (cc e);
      }

  -- the area of another child of a table
  record IsKid (t k : ℕ) (ch : ChildTable) (key : Area) : Type 0 where
    at : ℕ
    from : Area
    is : key ≡ Child from at 0
    has : AreaHas c ch.entry (Child from at k)

  child_there : (t q k : ℕ) (ch : ChildTable) → Names c t q → IsChild c t k ch → child_at c q k ≡ Some ch
  child_there t q k ch n i = ap (λ (o : Option ℕ). child_of (table_at c.forks o) k) n ∙ i

  kid : (t k : ℕ) (ch : ChildTable) (key : Area) → IsChild c t k ch → ch.entry < length c.instrs
      → AreaHas c (length c.instrs + t) key → IsKid t k ch key
  kid t k ch key i l (inl h) = absurd (let m : length c.instrs + t < length c.instrs = h.0 in omega (arith, m))
  kid t k ch key i l (inr (u, q, b, e, n, lies, s)) =
      let same : u ≡ t = omega (arith, e) in
      let there = child_there t q k ch (subst (λ z. Names c z q) same n) i in
      record {
        at = q;
        from = b;
        is = s;
        has = inl
            (l, ((lies.0, lies.1, (ch, there)), record { steps = 0; way = ap entry_of_child there }));
      }

  pub true_child : (t k : ℕ) (ch : ChildTable) (o : Owner) → IsChild c t k ch → ch.entry < length c.instrs
      → IsTrueOf c (length c.instrs + t) o → IsTrueOf c ch.entry (of_child k o)
  true_child t k ch owner.Nobody i l h = tt
  true_child t k ch (owner.Block b) i l h = let d = kid t k ch h.area i l h.has in absurd
      (let e = sym (ap owner_of d.is) ∙ h.owner_is in cc (e))
  true_child t k ch (owner.Child q j) i l h =
      let d = kid t k ch h.area i l h.has in
      let e : owner.Child d.at 0 ≡ owner.Child q j = sym (ap owner_of d.is) ∙ h.owner_is in
      let s : d.at ≡ q = cc (e) in
      record { area = Child d.from d.at k; has = d.has; owner_is = ap (λ z. owner.Child z k) s }
  true_child t k ch owner.Several i l h =
      let d = kid t k ch h.first i l h.has in let e = kid t k ch h.second i l h.too in
      record {
        first = Child d.from d.at k;
        second = Child e.from e.at k;
        has = d.has;
        too = e.has;
        apart = λ s. h.apart
            (d.is ∙ unlike d.from e.from d.at e.at s ∙ sym e.is);
      }
    where
      unlike : (a b : Area) (p q : ℕ) → Child a p k ≡ Child b q k → Child a p 0 ≡ Child b q 0
      unlike a b p q s = cc (s)

  pub true_begin : (b : ℕ) (m : Layout) → layout_of c.layouts b ≡ Some m → m.entry < length c.instrs
      → IsTrueOf c m.entry (owner.Block b)
  true_begin b m e l = record {
    area = Body b;
    has = inl
        (l, ((m, e), record { steps = 0; way = ap entry_of_layout e }));
    owner_is = refl;
  }
