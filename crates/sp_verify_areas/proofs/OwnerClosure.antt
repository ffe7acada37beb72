-- Where nothing is left to be handed on, each instruction of an area knows it: so the owners are right.
use Rattle.std.proofs.Common.{◌≡◌, ◌⊎◌, ◌≢◌, inl, inr, ⊎_elim, refl, ap, sym, ◌∙◌, subst, ℕ, zero, suc, ◌+◌, ◌<◌, ◌==◌}
use Rattle.std.proofs.Common.{List, [], ◌∷◌, length, take, Option, Some, None, Bool, true, false, if◌then◌else◌, arith}
use Rattle.std.proofs.Common.{eqb-true}
use Rattle.std.specs.Prelude.{slice_get}
use Rattle.std.proofs.lemmas.List.{length-take-le}
use Rattle.std.proofs.lemmas.Option.{slice_get_within, none-some, same_Some}
use Rattle.sp_code.specs.declared.instr.Instr.{Instr}
use Rattle.sp_code.specs.declared.code.Layout.{Layout}
use Rattle.sp_code.specs.declared.code.ChildTable.{ChildTable}
use Rattle.sp_code.specs.declared.code.ForkTable.{ForkTable}
use Rattle.sp_code.specs.declared.code.Parts.{Parts}
use Rattle.sp_code.specs.Machine.{layout_of}
use Rattle.sp_verify_areas.specs.declared.owners.Owner.{Owner}
use Rattle.sp_verify_areas.specs.declared.owners.Owner.TheVariants as owner
use Rattle.sp_verify_rules.specs.Areas.{Area, Body, Child, instr_at, table_named, table_at, child_of, child_at, entry}
use Rattle.sp_verify_rules.specs.Areas.{entry_of_child, entry_of_layout}
use Rattle.sp_verify_rules.specs.Reach.{IsMember, IsArea, IsInCodeOf, LeadsInSteps, nexts}
use Rattle.sp_verify_rules.specs.NameRules.{LiesIn, Names, IsChild}
use Rattle.sp_verify_areas.specs.Owners.{owner_of, IsOnly, Owns, AreOwners, HasOne, IsTrueOf, AreTrue, IsOwner}
use Rattle.sp_verify_areas.specs.Owners.{as_child}
use Rattle.sp_verify_areas.specs.Owners.{of_child, KnowsOwner, IsAllSpread}
use Rattle.sp_verify_areas.proofs.OwnerLaws.{lies_in}

pub layout_in : (ls : List Layout) (b : ℕ) (l : Layout) → layout_of ls b ≡ Some l → (j : ℕ) × (slice_get ls j ≡ Some l)
    × (l.block ≡ b)
layout_in [] b l e = absurd (none-some l e)
layout_in (m ∷ ls) b l e = go (m.block == b) refl e (layout_in ls b l)
  where
    go : (t : Bool) → m.block == b ≡ t → (if t then Some m else layout_of ls b) ≡ Some l
        → (layout_of ls b ≡ Some l → (j : ℕ) × (slice_get ls j ≡ Some l) × (l.block ≡ b))
        → (j : ℕ) × (slice_get (m ∷ ls) j ≡ Some l) × (l.block ≡ b)
    go true t e on = (zero, e, ap (λ (x : Layout). x.block) (sym (same_Some m l e)) ∙ eqb-true m.block b t)
    go false t e on = let r = on e in (suc r.0, r.1, r.2)

pub table_of : (t k : ℕ) (fs : List ForkTable) (ch : ChildTable) → child_of (slice_get fs t) k ≡ Some ch → t < length fs
table_of t k fs ch e = go (slice_get fs t) refl e
  where
    go : (o : Option ForkTable) → slice_get fs t ≡ o → child_of o k ≡ Some ch → t < length fs
    go None s e = absurd (none-some ch e)
    go (Some tb) s e = slice_get_within fs t tb s

pub name_of : (o : Option ℕ) (k : ℕ) (fs : List ForkTable) (ch : ChildTable) → child_of (table_at fs o) k ≡ Some ch
    → (t : ℕ) × (o ≡ Some t)
name_of None k fs ch e = absurd (none-some ch e)
name_of (Some t) k fs ch e = (t, refl)

taken : {T : Type 0} (n i : ℕ) (xs : List T) (x : T) → slice_get (take n xs) i ≡ Some x → (i < n)
    × (slice_get xs i ≡ Some x)
taken zero i xs x e = absurd (none-some x e)
taken (suc n) i [] x e = absurd (none-some x e)
taken (suc n) zero (y ∷ ys) x e = (omega arith, e)
taken (suc n) (suc i) (y ∷ ys) x e = let r = taken n i ys x e in let l = r.0 in (omega (arith, l), r.1)

pub named_within : (c : Parts) (t p : ℕ) → Names c t p → p < length c.instrs
named_within c t p n = go (instr_at c p) refl n
  where
    go : (o : Option Instr) → instr_at c p ≡ o → table_named o ≡ Some t → p < length c.instrs
    go None e n = absurd (none-some t n)
    go (Some i) e n = slice_get_within c.instrs p i e

pub step_within : (c : Parts) (p q : ℕ) → IsMember q (nexts p (instr_at c p)) → p < length c.instrs
step_within c p q i = go (instr_at c p) refl i
  where
    go : (o : Option Instr) → instr_at c p ≡ o → IsMember q (nexts p o) → p < length c.instrs
    go None e i = absurd i
    go (Some o) e i = slice_get_within c.instrs p o e

an_owner : (a : Area) → IsOwner (owner_of a)
an_owner (Body b) e = cc (e)
an_owner (Child a p k) e = cc (e)

-- the owner of a child is an owner
pub some_child : (p : ℕ) (o : Owner) → IsOwner o → IsOwner (as_child p o)
some_child p owner.Nobody some e = some refl
some_child p (owner.Block b) some e = cc (e)
some_child p (owner.Child q k) some e = cc (e)
some_child p owner.Several some e = cc (e)

module _ (c : Parts) (os : List Owner) (are : AreTrue c os) (closed : IsAllSpread c os) where
  -- what is known above is known
  higher : (x y : ℕ) (o : Owner) (k : KnowsOwner os x o) → KnowsOwner os y k.found → KnowsOwner os y o
  higher x y o k h = record {
    found = h.found;
    found_is = h.found_is;
    above = ⊎_elim (λ e. inl e) (λ e. ⊎_elim (λ s. inl (e
        ∙ s)) (λ s. inr (e ∙ s)) k.above) h.above;
  }

  found_some : (x : ℕ) (o : Owner) → IsOwner o → (k : KnowsOwner os x o) → IsOwner k.found
  found_some x o some k e = ⊎_elim (λ s. let z = sym e ∙ s in cc (z)) (λ s. some (sym s ∙ e)) k.above

  on_way : (n p q : ℕ) (o : Owner) → IsOwner o → q < length c.instrs → LeadsInSteps c n p q → KnowsOwner os p o
      → KnowsOwner os q o
  on_way zero p q o some l g k = subst (λ z. KnowsOwner os z o) g k
  on_way (suc n) p q o some l g k = on_way n g.0 q o some l g.2
      (higher p g.0 o k ((closed.spread p (step_within c p g.0 g.1) k.found k.found_is (found_some p o some k)).0 g.0
      g.1
      (inside n g.0 q l g.2)))
    where
      inside : (n p q : ℕ) → q < length c.instrs → LeadsInSteps c n p q → p < length c.instrs
      inside zero p q l g = subst (λ z. z < length c.instrs) (sym g) l
      inside (suc n) p q l g = step_within c p g.0 g.1

  -- above stays above, for a table and for a child
  lift : (f : Owner → Owner) → f owner.Several ≡ owner.Several → (w o : Owner) → (w ≡ owner.Several) ⊎ (w ≡ o)
      → (f w ≡ owner.Several) ⊎ (f w ≡ f o)
  lift f s w o (inl e) = inl (ap f e ∙ s)
  lift f s w o (inr e) = inr (ap f e)

  raised : (f : Owner → Owner) → f owner.Several ≡ owner.Several → (x y : ℕ) (o : Owner) (k : KnowsOwner os x o)
      → KnowsOwner os y (f k.found) → KnowsOwner os y (f o)
  raised f s x y o k h = record {
    found = h.found;
    found_is = h.found_is;
    above = ⊎_elim (λ e. inl e) (λ e. ⊎_elim (λ z. inl (e
        ∙ z)) (λ z. inr (e ∙ z)) (lift f s k.found o k.above)) h.above;
  }

  handed_on : (p k : ℕ) (ch : ChildTable) (o : Owner) → IsOwner o → child_at c p k ≡ Some ch
      → ch.entry < length c.instrs → KnowsOwner os p o → KnowsOwner os ch.entry (of_child k (as_child p o))
  handed_on p k ch o some e l h =
      let n = name_of (table_named (instr_at c p)) k c.forks ch e in
      let i : IsChild c n.0 k ch = sym (ap (λ (z : Option ℕ). child_of (table_at c.forks z) k) n.1) ∙ e in
      let inside = table_of n.0 k c.forks ch i in
      let t = raised (as_child p) refl p (length c.instrs + n.0) o h
      ((closed.spread p (named_within c n.0 p n.1) h.found h.found_is (found_some p o some h)).1 n.0 n.1 inside) in
      raised (of_child k) refl (length c.instrs + n.0) ch.entry (as_child p o) t
      (closed.tables n.0 inside t.found t.found_is
      (found_some (length c.instrs + n.0) (as_child p o) (some_child p o some) t) k ch i l)

  last_step : (a : Area) (p k : ℕ) → of_child k (as_child p (owner_of a)) ≡ owner.Child p k
  last_step (Body b) p k = refl
  last_step (Child a q j) p k = refl

  begins : (n p q : ℕ) → q < length c.instrs → LeadsInSteps c n p q → p < length c.instrs
  begins zero p q l g = subst (λ z. z < length c.instrs) (sym g) l
  begins (suc n) p q l g = step_within c p g.0 g.1

  way_on : (a : Area) (p : ℕ) → IsInCodeOf c a p → p < length c.instrs
      → (entry c a < length c.instrs → KnowsOwner os (entry c a) (owner_of a)) → KnowsOwner os p (owner_of a)
  way_on a p h l k = on_way h.steps (entry c a) p (owner_of a) (an_owner a) l h.way
      (k (begins h.steps (entry c a) p l h.way))

  -- each instruction of an area knows it
  known_entry : (a : Area) → IsArea c a → entry c a < length c.instrs → KnowsOwner os (entry c a) (owner_of a)
  known_entry (Body b) (l, e) h =
      let j = layout_in c.layouts b l e in
      let at = ap entry_of_layout e in
      let k = closed.begun j.0 l l (slice_get_within c.layouts j.0 l j.1) j.1 (ap (layout_of c.layouts) j.2
      ∙ e) (subst (λ z. z < length c.instrs) at h) in
      subst (λ z. KnowsOwner os z (owner.Block b)) (sym at) (subst (λ z. KnowsOwner os l.entry (owner.Block z)) j.2 k)
  known_entry (Child a p k) (ia, pa, (ch, e)) h =
      let at = ap entry_of_child e in
      let n = name_of (table_named (instr_at c p)) k c.forks ch e in
      let d = handed_on p k ch (owner_of a) (an_owner a) e (subst (λ z. z < length c.instrs) at h)
      (way_on a p pa (named_within c n.0 p n.1) (known_entry a ia)) in
      subst (λ z. KnowsOwner os z (owner.Child p k)) (sym at) (subst (KnowsOwner os ch.entry) (last_step a p k) d)

  known : (a : Area) (p : ℕ) → LiesIn c p a → p < length c.instrs → KnowsOwner os p (owner_of a)
  known a p h l = way_on a p h.1 l (known_entry a h.0)

  -- it lies in one alone, unless it knows of several
  not_two : (p : ℕ) (o : Owner) → (slice_get os p ≡ Some owner.Several → ⊥) → (k : KnowsOwner os p o)
      → slice_get os p ≡ Some o
  not_two p o never k = ⊎_elim (λ e. absurd (never (k.found_is ∙ ap Some e))) (λ e. k.found_is ∙ ap Some e) k.above

  -- several at a fork are several in the code of its children
  several_down : (p k q : ℕ) (ch : ChildTable) → child_at c p k ≡ Some ch → q < length c.instrs → (n : ℕ)
      → LeadsInSteps c n ch.entry q → slice_get os p ≡ Some owner.Several → slice_get os q ≡ Some owner.Several
  several_down p k q ch e l n g s =
      let d = handed_on p k ch owner.Several (λ z. cc (z)) e (begins n ch.entry q l g)
      (record { found = owner.Several; found_is = s; above = inl refl }) in
      let r = on_way n ch.entry q owner.Several (λ z. cc (z)) l g d in
      ⊎_elim (λ z. r.found_is ∙ ap Some z) (λ z. r.found_is ∙ ap Some z) r.above

  -- of two areas, each has the same owner there
  alike : (a b : Area) (p : ℕ) → p < length c.instrs → LiesIn c p a → LiesIn c p b
      → (slice_get os p ≡ Some owner.Several → ⊥) → owner_of a ≡ owner_of b
  alike a b p l h k never = same_Some (owner_of a) (owner_of b) (sym (not_two p (owner_of a) never (known a p h l))
      ∙ not_two p (owner_of b) never (known b p k l))

  -- the fork around knows of one alone, too
  not_around : (a : Area) (q j p : ℕ) → p < length c.instrs → LiesIn c p (Child a q j)
      → (slice_get os p ≡ Some owner.Several → ⊥) → slice_get os q ≡ Some owner.Several → ⊥
  not_around a q j p l ((ia, pa, (ch, e)), w) never s = never
      (several_down q j p ch e l w.steps (subst (λ z. LeadsInSteps c w.steps z p) (ap entry_of_child e) w.way) s)

  at_fork : (a : Area) (q j : ℕ) → IsArea c (Child a q j) → q < length c.instrs
  at_fork a q j (ia, pa, (ch, e)) = let n = name_of (table_named (instr_at c q)) j c.forks ch e in
      named_within c n.0 q n.1

  one_area : (a b : Area) (p : ℕ) → p < length c.instrs → LiesIn c p a → LiesIn c p b
      → (slice_get os p ≡ Some owner.Several → ⊥) → a ≡ b
  one_area (Body a) (Body b) p l h k never = let e : owner.Block a ≡ owner.Block b = alike (Body a)
      (Body b) p l h k never in let s : a ≡ b = cc (e) in ap Body s
  one_area (Body a) (Child b r i) p l h k never = absurd
      (let e : owner.Block a ≡ owner.Child r i = alike (Body a) (Child b r i) p l h k never in cc (e))
  one_area (Child a q j) (Body b) p l h k never = absurd
      (let e : owner.Child q j ≡ owner.Block b = alike (Child a q j) (Body b) p l h k never in cc (e))
  one_area (Child a q j) (Child b r i) p l h k never =
      let e : owner.Child q j ≡ owner.Child r i = alike (Child a q j) (Child b r i) p l h k never in
      let s : q ≡ r = cc (e) in
      let t : j ≡ i = cc (e) in
      let ((h_area, h_fork, _), _) = h in
      let ((k_area, k_fork, _), _) = k in
      let d : LiesIn c q b = subst (λ z. LiesIn c z b) (sym s) (k_area, k_fork) in
      let m : a ≡ b = one_area a b q (at_fork a q j h.0) (h_area, h_fork) d (not_around a q j p l h never) in
      λ z. Child (m z) (s z) (t z)

  -- ---- the owners

  only : (p : ℕ) (o : Owner) → p < length c.instrs → slice_get os p ≡ Some o → o ≢ owner.Several → HasOne c p o
      → IsOnly c p o
  only p o l e d h = record {
    area = h.area;
    lies = lies;
    owner_is = h.owner_is;
    only = λ b k. one_area b h.area p l k lies
        (λ s. d (same_Some o owner.Several (sym e ∙ s)));
  }
    where
      lies : LiesIn c p h.area
      lies = lies_in c p h.area l h.has

  nobody : (p : ℕ) → p < length c.instrs → slice_get os p ≡ Some owner.Nobody → (a : Area) → LiesIn c p a → ⊥
  nobody p l e a h =
      let k = known a p h l in
      let s = same_Some owner.Nobody k.found (sym e ∙ k.found_is) in
      found_some p (owner_of a) (an_owner a) k (sym s)

  owns : (p : ℕ) (o : Owner) → p < length c.instrs → slice_get os p ≡ Some o → IsTrueOf c p o → Owns c p o
  owns p owner.Nobody l e t = nobody p l e
  owns p (owner.Block b) l e t = only p (owner.Block b) l e (λ z. cc (z)) t
  owns p (owner.Child q k) l e t = only p (owner.Child q k) l e (λ z. cc (z)) t
  owns p owner.Several l e t = record {
    first = t.first;
    second = t.second;
    lies = lies_in c p t.first l t.has;
    too = lies_in c p t.second l t.too;
    apart = t.apart;
  }

  pub are_owners : AreOwners c (take (length c.instrs) os)
  are_owners = (length-take-le (length c.instrs) os (let e = are.size in omega (arith, e)), each)
    where
      each : (p : ℕ) (o : Owner) → slice_get (take (length c.instrs) os) p ≡ Some o → Owns c p o
      each p o e = let t = taken (length c.instrs) p os o e in owns p o t.0 t.1 (are.each p o t.1)
