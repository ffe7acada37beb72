-- A fork of verified code, and the events of a journal one after another.
use Rattle.std.proofs.Common.{◌≡◌, ◌≢◌, ◌⊎◌, inl, inr, ⊎_elim, ℕ, zero, suc, ◌+◌, ◌-◌, ◌≤◌, ◌<◌, ◌==◌, ℤ, cond}
use Rattle.std.proofs.Common.{List, [], ◌∷◌, length, Some, Bool, true, false, refl}
use Rattle.std.proofs.Common.{sym, ap, ◌∙◌, subst, arith}
use Rattle.std.proofs.lemmas.Option.{same_Some}
use Rattle.sp_tree.specs.Interference.{IsMember}
use Rattle.sp_cell.specs.Frame.{HasNextFrame}
use Rattle.sp_cell.specs.Map.{Plain}
use Rattle.sp_journal.specs.Births.{Births, is_next, births_after_event}
use Rattle.sp_journal.specs.Maps.{at_key}
use Rattle.sp_journal.specs.Queue.{numbers}
use Rattle.sp_journal.specs.declared.entry.Birth.{Birth}
use Rattle.sp_journal.specs.declared.entry.Event.TheVariants as event
use Rattle.sp_code.specs.Machine.{Config, At}
use Rattle.sp_code.specs.Memory.{CodeRun, Home, Memory}
use Rattle.sp_code.specs.PlainStore.{plain}
use Rattle.sp_code.specs.System.{Condition, Absent, Working, Joins, frames_of, on_store, handing_of, child_process}
use Rattle.sp_code.specs.System.{plan_of}
use Rattle.sp_verify_rules.specs.ProcessLife.{Base, HasActivations, ForkInvariant, table_of}
use Rattle.sp_verify_rules.specs.Systems.{awaited_children, IsLive, JoinInvariant, LivesIn, Inv}
use Rattle.sp_code.proofs.Orders.{next_is, next_not, next_past, next_yes}
use Rattle.sp_code.proofs.Queues.{number_or, at_same, at_other, numbers_length}
use Rattle.sp_verify_rules.proofs.Along.{fine_alike}
use Rattle.sp_verify_rules.proofs.ForkChildren.{child_base, child_lives, joins_well}

numbers_have : (a n q : ℕ) → a ≤ q → q < a + n → IsMember q (numbers a n)
numbers_have a zero q l h = absurd (omega (arith, l, h))
numbers_have a (suc n) q l h = go (number_or q a) (λ l. numbers_have (suc a) n q l (omega (arith, h)))
  where
    go : (q ≡ a) ⊎ ((q ≢ a) × ((q == a) ≡ false)) → (suc a ≤ q → IsMember q (numbers (suc a) n))
        → IsMember q (numbers a (suc n))
    go (inl e) on = inl e
    go (inr d) on = inr (on (Rattle.std.proofs.Common.⊎_elim (λ (e : q ≡ a). absurd (d.0 e))
        (λ (g : a < q). omega (arith, g)) (above q a l)))
      where
        above : (q a : ℕ) → a ≤ q → (q ≡ a) ⊎ (a < q)
        above zero zero l = inl refl
        above zero (suc a) l = absurd (omega (arith, l))
        above (suc q) zero l = inr (omega arith)
        above (suc q) (suc a) l = ⊎_elim (λ (e : q ≡ a). inl (ap suc e)) (λ (g : a < q). inr (omega (arith, g)))
            (above q a (omega (arith, l)))

numbers_low : (a n q : ℕ) → IsMember q (numbers a n) → (a ≤ q) × (q < a + n)
numbers_low a zero q m = absurd m
numbers_low a (suc n) q (inl e) = (omega (arith, e), omega (arith, e))
numbers_low a (suc n) q (inr m) = let w = numbers_low (suc a) n q m in (omega (arith, w.0), omega (arith, w.1))

module _ (g : CodeRun) {Area : Type 0} (H : Area → List Home) (E : Area → ℕ → Type 0) (T : List Area
    → Config (Memory Plain) → Type 0) (Room Cells : ℕ → ℕ → Type 0)
    (rooms : (k n m : ℕ) → Room k n → Cells k m
    → m ≤ n) (t_store : (us : List Area) (c : Config (Memory Plain)) (f : Plain → Plain)
    → ((p : Plain) → (f p).moved ≡ p.moved) → T us c → T us (on_store f c)) where
  abbrev IsInvariant : (ℕ → Condition Plain) → Births → Type 0
  IsInvariant f b = Inv g H E T Room Cells f b

  -- ---- a fork

  module _ (f : ℕ → Condition Plain) (b : Births) (i : IsInvariant f b) (q : ℕ) (there : q < b.processes)
      (live : IsLive (f q))
      (none : awaited_children (f q) ≡ 0) (a : Area) (us : List Area) (pc : ℕ)
      (st : List Rattle.sp_code.specs.Machine.Entry)
      (n : Memory Plain)
      (l : HasActivations g H E T (i.base q) (a ∷ us) (At pc st n)) (s : T (a ∷ us) (At pc st n)) (t : ℕ) (value : ℤ)
      (count : ℕ)
      (fw : ForkInvariant g H E T a t value count (At pc st n)) (room : HasNextFrame n.store) where
    abbrev c : Config (Memory Plain)
    c = At pc st n

    abbrev P : ℕ
    P = b.processes

    abbrev young : ℕ → Config (Memory Plain)
    young r = child_process plain g c value r (r - P) (table_of g H E T t (r - P))

    abbrev joining : Config (Memory Plain)
    joining = on_store (λ m. plain.handed m (plan_of plain g c t value count)) c

    abbrev pub after_fork : ℕ → Condition Plain
    after_fork r = cond (is_next b count r) (Working (young r)) (cond (q == r) (Joins count joining) (f r))

    abbrev new_base : ℕ → Base g H E T
    new_base r = record {
      area = fw.area (r - P);
      frames = frames_of (young r);
      moved =
          (handing_of g.code.layouts n.frames value (r - P) (table_of g H E T t (r - P))).moved;
    }

    abbrev base : ℕ → Base g H E T
    base r = cond (is_next b count r) (new_base r) (i.base r)

    abbrev children : ℕ → List ℕ
    children = at_key ◌==◌ q (numbers P count) i.children

    old_base : (r : ℕ) → r < P → base r ≡ i.base r
    old_base r lt = ap (λ x. cond x (new_base r) (i.base r)) (next_not b count r lt)

    born_base : (r : ℕ) → is_next b count r ≡ true → base r ≡ new_base r
    born_base r e = ap (λ x. cond x (new_base r) (i.base r)) e

    child_is : (j : ℕ) (lt : j < count)
        → base (P + j) ≡ child_base g H E T Room Cells (i.base q) a us pc st n l value (P + j) j (table_of g H E T t j)
        (fw.area j) (fw.children j lt)
    child_is j lt = born_base (P + j) (next_yes b count (P + j) (omega arith) (omega (arith, lt)))
        ∙ ap (λ k. same k) {x = P + j - P} {y = j} (omega arith)
      where
        same : ℕ → Base g H E T
        same k = record {
          area = fw.area k;
          frames = frames_of
              (child_process plain g c value (P + j) k (table_of g H E T t k));
          moved =
              (handing_of g.code.layouts n.frames value k (table_of g H E T t k)).moved;
        }

    -- the child
    child_fine : (r : ℕ) → is_next b count r ≡ true
        → LivesIn g H E T Room Cells base (base r) (children r) (Working (young r))
    child_fine r e =
        let w = next_is b count r e in
        let lt : r - P < count = omega (arith, w.0, w.1) in (
          fw.area (r - P) ∷ [],
          subst (λ (x : Base g H E T). HasActivations g H E T x (fw.area (r - P) ∷ []) (young r)) (sym (born_base r e))
              (child_lives g H E T Room Cells (i.base q) a us pc st n l value r (r - P) (table_of g H E T t (r - P))
              (fw.area (r - P)) (fw.children (r - P) lt)),
          fw.stands (r - P) r lt,
        )

    none_here : (r x : ℕ) → IsMember x (i.children r) → base x ≡ i.base x
    none_here r x m = old_base x (i.known r x m)

    mine : children q ≡ numbers P count
    mine = at_same i.children q (numbers P count)

    parent_fine : LivesIn g H E T Room Cells base (base q) (children q) (Joins count joining)
    parent_fine =
        subst (λ xs. JoinInvariant g H E T Room Cells base (base q) xs joining) (sym mine)
        (subst (λ (x : Base g H E T). JoinInvariant g H E T Room Cells base x (numbers P count) joining)
        (sym (old_base q there))
        (joins_well g H E T Room Cells (i.base q) a us pc st n l t value count fw room P base child_is
        (t_store (a ∷ us) c (λ m. plain.handed m (plan_of plain g c t value count)) (λ m. refl) s)))

    old_fine : (r : ℕ) → is_next b count r ≡ false → q ≢ r → LivesIn g H E T Room Cells base (base r) (children r) (f r)
    old_fine r e d =
        subst (λ xs. LivesIn g H E T Room Cells base (base r) xs (f r))
        (sym (at_other i.children q r (numbers P count) d))
        (subst (λ (x : Base g H E T). LivesIn g H E T Room Cells base x (i.children r) (f r))
        (sym (ap (λ x. cond x (new_base r) (i.base r)) e))
        (fine_alike g H E T Room Cells rooms t_store i.base base (i.base r) (i.children r) (f r) (none_here r)
        (i.each r)))

    at_one : (r : ℕ) (x : Bool) → is_next b count r ≡ x → (q ≡ r) ⊎ ((q ≢ r) × ((q == r) ≡ false))
        → LivesIn g H E T Room Cells base (base r) (children r)
        (cond x (Working (young r)) (cond (q == r) (Joins count joining) (f r)))
    at_one r true e w = child_fine r e
    at_one r false e (inl o) = subst
        (λ z. LivesIn g H E T Room Cells base (base z) (children z) (cond (q == z) (Joins count joining) (f z))) o
        (subst (λ y. LivesIn g H E T Room Cells base (base q) (children q) y)
        (sym (at_same f q (Joins count joining))) parent_fine)
    at_one r false e (inr d) = subst (λ y. LivesIn g H E T Room Cells base (base r) (children r) y)
        (sym (at_other f q r (Joins count joining) d.0)) (old_fine r e d.0)

    count_one : (r : ℕ) (x : Bool) → is_next b count r ≡ x → (q ≡ r) ⊎ ((q ≢ r) × ((q == r) ≡ false))
        → length (children r)
        ≡ awaited_children (cond x (Working (young r)) (cond (q == r) (Joins count joining) (f r)))
    count_one r true e (inl o) = absurd (let w = next_is b count r e in omega (arith, w.0, there, o))
    count_one r true e (inr d) = let w = next_is b count r e in ap length
        (at_other i.children q r (numbers P count) d.0) ∙ i.count r ∙ ap awaited_children (i.young r w.0)
    count_one r false e (inl o) = subst
        (λ z. length (children z) ≡ awaited_children (cond (q == z) (Joins count joining) (f z))) o (ap length mine
        ∙ numbers_length P count ∙ ap awaited_children (sym (at_same f q (Joins count joining))))
    count_one r false e (inr d) = ap length (at_other i.children q r (numbers P count) d.0) ∙ i.count r
        ∙ ap awaited_children (sym (at_other f q r (Joins count joining) d.0))

    all_one : (r : ℕ) (y : Birth) (x : Bool) → is_next b count r ≡ x
        → cond x (Some (record { parent = q; fork = b.forks q; child = r - P })) (b.birth r) ≡ Some y
        → IsLive (cond x (Working (young r)) (cond (q == r) (Joins count joining) (f r)))
        → IsMember r (children y.parent)
    all_one r y true e o l =
        let w = next_is b count r e in
        let is : q ≡ y.parent = ap (λ (z : Birth). z.parent) (same_Some _ _ o) in
        subst (λ z. IsMember r (children z)) is (subst (IsMember r) (sym mine) (numbers_have P count r w.0 w.1))
    all_one r y false e o l = go (number_or q y.parent) (i.all r y o (was (number_or q r) l))
      where
        was : (q ≡ r) ⊎ ((q ≢ r) × ((q == r) ≡ false)) → IsLive (cond (q == r) (Joins count joining) (f r))
            → IsLive (f r)
        was (inl z) k = subst (λ v. IsLive (f v)) z live
        was (inr d) k = subst (λ v. IsLive v) (at_other f q r (Joins count joining) d.0) k

        nobody : (xs : List ℕ) → length xs ≡ 0 → IsMember r xs → ⊥
        nobody [] e m = m
        nobody (x ∷ xs) e m = omega (arith, e)

        go : (q ≡ y.parent) ⊎ ((q ≢ y.parent) × ((q == y.parent) ≡ false)) → IsMember r (i.children y.parent)
            → IsMember r (children y.parent)
        go (inl z) m = absurd (nobody (i.children q) (i.count q
            ∙ none) (subst (λ v. IsMember r (i.children v)) (sym z) m))
        go (inr d) m = subst (IsMember r) (sym (at_other i.children q y.parent (numbers P count) d.0)) m

    older_one : (r : ℕ) (y : Birth) (x : Bool) → is_next b count r ≡ x
        → cond x (Some (record { parent = q; fork = b.forks q; child = r - P })) (b.birth r) ≡ Some y → y.parent < r
    older_one r y true e o = let w = next_is b count r e in let is : q ≡ y.parent = ap (λ (z : Birth). z.parent)
        (same_Some _ _ o) in omega (arith, is, there, w.0)
    older_one r y false e o = i.older r y o

    -- after it
    pub forks_ok : IsInvariant after_fork (births_after_event b q (event.Fork count))
    forks_ok = record {
      base = base;
      children = children;
      each = λ r. at_one r (is_next b count r) refl (number_or q r);
      count = λ r. count_one r (is_next b count r) refl (number_or q r);
      all = λ r y o k. all_one r y (is_next b count r) refl o k;
      young = λ r le. not_yet r le (number_or q r);
      known = λ r x m. member r x m (number_or q r);
      older = λ r y o. older_one r y (is_next b count r) refl o;
    }
      where
        not_yet : (r : ℕ) → P + count ≤ r → (q ≡ r) ⊎ ((q ≢ r) × ((q == r) ≡ false)) → after_fork r ≡ Absent
        not_yet r le (inl o) = absurd (omega (arith, le, there, o))
        not_yet r le (inr d) = ap (λ x. cond x (Working (young r)) (cond (q == r) (Joins count joining) (f r)))
            (next_past b count r le) ∙ at_other f q r (Joins count joining) d.0 ∙ i.young r (omega (arith, le))

        member : (r x : ℕ) → IsMember x (children r) → (q ≡ r) ⊎ ((q ≢ r) × ((q == r) ≡ false)) → x < P + count
        member r x m (inl o) = let w = numbers_low P count x
            (subst (IsMember x) mine (subst (λ z. IsMember x (children z)) (sym o) m)) in w.1
        member r x m (inr d) = let w = i.known r x
            (subst (IsMember x) (at_other i.children q r (numbers P count) d.0) m) in omega (arith, w)
