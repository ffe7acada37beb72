-- A fork leaves the output with its holder, or hands it to one child.
use Rattle.std.proofs.Common.{◌≡◌, ◌≢◌, ◌⊎◌, inl, inr, ℕ, zero, suc, ◌+◌, ◌<◌, ◌==◌, ℤ, List, [], ◌∷◌, ◌++◌, Option}
use Rattle.std.proofs.Common.{Some, None, Bool, true, false, cond, refl, sym, ap, ◌∙◌, subst, arith}
use Rattle.std.specs.FinMap as map
use Rattle.std.proofs.lemmas.Option.{same_Some}
use Rattle.sp_base.proofs.Facts.{equals_itself}
use Rattle.sp_cell.specs.declared.cell.Cell.TheVariants as cell
use Rattle.sp_cell.specs.declared.spot.Spot.{Spot}
use Rattle.sp_cell.specs.declared.spot.Handing.{Handing}
use Rattle.sp_cell.specs.Map.{Map, Content, Own, Shared, Output, Away, Plain, IsOutput, IsPiece, output_spot, spot_cmp}
use Rattle.sp_cell.specs.Map.{cells_at}
use Rattle.sp_cell.specs.Fork.{with_shared, with_away, with_index, index_frame, child_map, moved_of, shared_of}
use Rattle.sp_cell.specs.Fork.{map_after_fork}
use Rattle.sp_cell.specs.Spots.{In, NotIn, IsDistinct}
use Rattle.sp_cell.proofs.Plan.{in_or, not_both, in_front, in_back, in_either, distinct_back}
use Rattle.sp_cell.proofs.Partition.{parent_moved, parent_rest, child_moved}
use Rattle.sp_journal.specs.declared.entry.Birth.{Birth}
use Rattle.sp_journal.specs.Maps.{at_key}
use Rattle.sp_code.specs.declared.code.Layout.{Layout}
use Rattle.sp_code.specs.declared.code.ForkTable.{ForkTable}
use Rattle.sp_code.specs.Tables.{child_at}
use Rattle.sp_code.specs.Machine.{Config}
use Rattle.sp_code.specs.Memory.{Memory, Frame}
use Rattle.sp_code.specs.PlainStore.{plain}
use Rattle.sp_code.specs.Sound.{CanSplit}
use Rattle.sp_code.specs.System.{Condition, Working, Joins, store_in, store_of, handing_of, child_or, plan_from}
use Rattle.sp_code.specs.OutputHolder.{Share, HoldsIt, LendsIt, LacksIt, StoreIs, IsPart, AimsIn, IsShared}
use Rattle.sp_code.proofs.Queues.{number_or, at_same, at_other}
use Rattle.sp_code.proofs.Outputs.{not_output, output_known}
use Rattle.sp_code.proofs.OutputHolder.{store_runs, store_joins, joined_lacks, hold_lend, hold_lack}

-- ---- what a plan hands to its children

pub distinct_apart : (q : Spot) (xs ys : List Spot) → IsDistinct (xs ++ ys) → In q xs → In q ys → ⊥
distinct_apart q [] ys d i j = i
distinct_apart q (x ∷ xs) ys d (inl e) j = not_both x (xs ++ ys) (in_back x xs ys (subst (λ s. In s ys) e j)) d.0
distinct_apart q (x ∷ xs) ys d (inr i) j = distinct_apart q xs ys d.1 i j

module _ (ls : List Layout) (fs : List Frame) (t : ForkTable) (v : ℤ) (q : Spot) where
  abbrev hand : ℕ → Handing
  hand k = handing_of ls fs v k (child_or (child_at t k))

  pub plan_in : (i m j : ℕ) → j < m → In q (hand (i + j)).moved → In q (moved_of (plan_from ls fs t v i m))
  plan_in i zero j l h = absurd (omega (arith, l))
  plan_in i (suc m) zero l h = let e : i + 0 ≡ i = omega arith in
      in_front q (hand i).moved (moved_of (plan_from ls fs t v (suc i) m)) (subst (λ k. In q (hand k).moved) e h)
  plan_in i (suc m) (suc j) l h =
      let e : i + suc j ≡ suc i + j = omega arith in
      in_back q (hand i).moved (moved_of (plan_from ls fs t v (suc i) m))
      (plan_in (suc i) m j (omega (arith, l)) (subst (λ k. In q (hand k).moved) e h))

  pub plan_found : (i m : ℕ) → In q (moved_of (plan_from ls fs t v i m)) → (j : ℕ) × (j < m) × In q (hand (i + j)).moved
  plan_found i zero h = absurd h
  plan_found i (suc m) h = go (in_either q (hand i).moved (moved_of (plan_from ls fs t v (suc i) m)) h)
      (λ k. plan_found (suc i) m k)
    where
      go : In q (hand i).moved ⊎ In q (moved_of (plan_from ls fs t v (suc i) m))
          → (In q (moved_of (plan_from ls fs t v (suc i) m)) → (j : ℕ) × (j < m) × In q (hand (suc i + j)).moved)
          → (j : ℕ) × (j < suc m) × In q (hand (i + j)).moved
      go (inl k) on = let e : i ≡ i + 0 = omega arith in (0, omega arith, subst (λ x. In q (hand x).moved) e k)
      go (inr k) on = let r = on k in let e : suc i + r.0 ≡ i + suc r.0 = omega arith in
          (suc r.0, omega (arith, r.1), subst (λ x. In q (hand x).moved) e r.2)

  pub plan_alone : (i m j l : ℕ) → IsDistinct (moved_of (plan_from ls fs t v i m)) → j < m → l < m
      → In q (hand (i + j)).moved → In q (hand (i + l)).moved → j ≡ l
  plan_alone i zero j l d a b h k = absurd (omega (arith, a))
  plan_alone i (suc m) zero zero d a b h k = refl
  plan_alone i (suc m) zero (suc l) d a b h k =
      let e : i + 0 ≡ i = omega arith in
      let w : i + suc l ≡ suc i + l = omega arith in
      absurd (distinct_apart q (hand i).moved (moved_of (plan_from ls fs t v (suc i) m)) d
      (subst (λ x. In q (hand x).moved) e h)
      (plan_in (suc i) m l (omega (arith, b)) (subst (λ x. In q (hand x).moved) w k)))
  plan_alone i (suc m) (suc j) zero d a b h k =
      let e : i + 0 ≡ i = omega arith in
      let w : i + suc j ≡ suc i + j = omega arith in
      absurd (distinct_apart q (hand i).moved (moved_of (plan_from ls fs t v (suc i) m)) d
      (subst (λ x. In q (hand x).moved) e k)
      (plan_in (suc i) m j (omega (arith, a)) (subst (λ x. In q (hand x).moved) w h)))
  plan_alone i (suc m) (suc j) (suc l) d a b h k =
      let w : i + suc j ≡ suc i + j = omega arith in
      let u : i + suc l ≡ suc i + l = omega arith in
      ap suc (plan_alone (suc i) m j l (distinct_back (hand i).moved (moved_of (plan_from ls fs t v (suc i) m)) d)
      (omega (arith, a)) (omega (arith, b)) (subst (λ x. In q (hand x).moved) w h)
      (subst (λ x. In q (hand x).moved) u k))

-- ---- maps without the output

lent_lacks : (m : Map) (ss : List Spot) (c : Map) → (IsOutput (map.get c output_spot) → ⊥)
    → IsOutput (map.get (with_shared m ss c) output_spot) → ⊥
lent_lacks m [] c a = a
lent_lacks m (s ∷ ss) c a = lent_lacks m ss (map.insert c s (Shared (cells_at m s)))
    (not_output c s (Shared (cells_at m s)) a (λ o. o))

away_lacks : (m : Map) (ss : List Spot) → (IsOutput (map.get m output_spot) → ⊥)
    → IsOutput (map.get (with_away m ss) output_spot) → ⊥
away_lacks m [] a = a
away_lacks m (s ∷ ss) a = away_lacks (map.insert m s Away) ss (not_output m s Away a (λ o. o))

index_lacks : (c : Map) (n : ℕ) (o : Option (ℕ × ℤ)) → (IsOutput (map.get c output_spot) → ⊥)
    → IsOutput (map.get (with_index c n o) output_spot) → ⊥
index_lacks c n None a = a
index_lacks c n (Some i) a = not_output c (record { frame = n; variable = i.0 }) (Own (cell.Ordinal i.1 ∷ [])) a
    (λ o. o)

abbrev no_map : Map
no_map = map.empty

empty_lacks : IsOutput (map.get no_map output_spot) → ⊥
empty_lacks o = subst IsOutput (map.get-empty spot_cmp output_spot) o

child_lacks : (m : Map) (h : Handing) → (In output_spot h.moved → IsOutput (map.get m output_spot) → ⊥)
    → IsOutput (map.get (child_map m h) output_spot) → ⊥
child_lacks m h b = joined_lacks m h.moved (with_index (with_shared m h.shared map.empty) (index_frame h) h.index)
    (index_lacks (with_shared m h.shared map.empty) (index_frame h) h.index
    (lent_lacks m h.shared map.empty empty_lacks)) b

handed_lacks : (m : Map) (hs : List Handing) → (IsOutput (map.get m output_spot) → ⊥)
    → IsOutput (map.get (map_after_fork m hs) output_spot) → ⊥
handed_lacks m hs a = lent_lacks m (shared_of hs) (with_away m (moved_of hs)) (away_lacks m (moved_of hs) a)

output_part : (y : Share) (p : Plain) → StoreIs y p → IsOutput (map.get p.map output_spot) → IsPart y
output_part HoldsIt p s o = tt
output_part LendsIt p s o = tt
output_part LacksIt p s o = s o

no_piece_there : (o : Option Content) → IsPiece o → (IsOutput o → ⊥) × (o ≢ Some Away)
no_piece_there None e = absurd e
no_piece_there (Some (Own cs)) e = ((λ o. o), λ w. absurd (cc w))
no_piece_there (Some (Shared cs)) e = ((λ o. o), λ w. absurd (cc w))
no_piece_there (Some (Output bs)) e = absurd e
no_piece_there (Some Away) e = absurd e

module _ (share : ℕ → Share) (holder : ℕ) (birth : ℕ → Option Birth) (f : ℕ → Condition Plain)
    (h : IsShared share holder f birth) (nx : ℕ → Bool) (q : ℕ) (child : ℕ → Config (Memory Plain)) (H : ℕ → Handing)
    (made : ℕ → Birth) (n : ℕ)
    (e : Config (Memory Plain)) (p p0 : Plain) (hs : List Handing) (not_q : nx q ≡ false)
    (there : (r : ℕ) (t : Plain) → store_in (f r) ≡ Some t → nx r ≡ false)
    (old : (r : ℕ) (d : Birth) → birth r ≡ Some d → nx d.parent ≡ false) (mine : (r : ℕ) → (made r).parent ≡ q)
    (was : store_in (f q) ≡ Some p0) (is : StoreIs (share q) p) (moved : p.moved ≡ p0.moved) (can : CanSplit p hs)
    (left : store_of e ≡ plain.handed p hs) (kids : (r : ℕ) → store_of (child r) ≡ plain.child p (H r)) where
  abbrev after_fork : ℕ → Condition Plain
  after_fork r = cond (nx r) (Working (child r)) (at_key ◌==◌ q (Joins n e) f r)

  abbrev births_then : ℕ → Option Birth
  births_then r = cond (nx r) (Some (made r)) (birth r)

  new_is : (r : ℕ) → nx r ≡ true → after_fork r ≡ Working (child r)
  new_is r w = ap (λ b. cond b (Working (child r)) (at_key ◌==◌ q (Joins n e) f r)) w

  old_is : (r : ℕ) → nx r ≡ false → after_fork r ≡ at_key ◌==◌ q (Joins n e) f r
  old_is r w = ap (λ b. cond b (Working (child r)) (at_key ◌==◌ q (Joins n e) f r)) w

  self_is : after_fork q ≡ Joins n e
  self_is = old_is q not_q ∙ at_same f q (Joins n e)

  other_is : (r : ℕ) → nx r ≡ false → q ≢ r → after_fork r ≡ f r
  other_is r w d = old_is r w ∙ at_other f q r (Joins n e) d

  new_birth : (r : ℕ) (d : Birth) → nx r ≡ true → births_then r ≡ Some d → q ≡ d.parent
  new_birth r d w k = sym (mine r) ∙ ap (λ (y : Birth). y.parent)
      (same_Some _ _ (sym (ap (λ b. cond b (Some (made r)) (birth r)) w) ∙ k))

  old_birth : (r : ℕ) (d : Birth) → nx r ≡ false → births_then r ≡ Some d → birth r ≡ Some d
  old_birth r d w k = sym (ap (λ b. cond b (Some (made r)) (birth r)) w) ∙ k

  data BirthCase (r : ℕ) : Type 0 where
    New : (w : nx r ≡ true) → BirthCase r
    Self : (w : nx r ≡ false) (k : q ≡ r) → BirthCase r
    Other : (w : nx r ≡ false) (k : q ≢ r) → BirthCase r

  who : (r : ℕ) → BirthCase r
  who r = go (nx r) refl (number_or q r)
    where
      go : (b : Bool) → nx r ≡ b → (q ≡ r) ⊎ ((q ≢ r) × (q == r ≡ false)) → BirthCase r
      go true w k = New w
      go false w (inl k) = Self w k
      go false w (inr k) = Other w k.0

  new_store : (r : ℕ) (t : Plain) → nx r ≡ true → store_in (after_fork r) ≡ Some t → plain.child p (H r) ≡ t
  new_store r t w k = same_Some _ _ (ap (λ y. Some y) (sym (kids r)) ∙ sym (store_runs (child r))
      ∙ ap store_in (sym (new_is r w)) ∙ k)

  self_store : (r : ℕ) (t : Plain) → q ≡ r → store_in (after_fork r) ≡ Some t → plain.handed p hs ≡ t
  self_store r t w k = same_Some _ _ (ap (λ y. Some y) (sym left) ∙ sym (store_joins n e) ∙ ap store_in (sym self_is)
      ∙ ap (λ y. store_in (after_fork y)) w ∙ k)

  other_store : (r : ℕ) (t : Plain) → nx r ≡ false → q ≢ r → store_in (after_fork r) ≡ Some t → store_in (f r) ≡ Some t
  other_store r t w d k = ap store_in (sym (other_is r w d)) ∙ k

  fork_aims : (r : ℕ) → AimsIn (after_fork r)
  fork_aims r = go (who r)
    where
      go : BirthCase r → AimsIn (after_fork r)
      go (New w) = subst AimsIn (sym (new_is r w)) tt
      go (Self w k) = subst (λ y. AimsIn (after_fork y)) k (subst AimsIn (sym self_is) tt)
      go (Other w k) = subst AimsIn (sym (other_is r w k)) (h.aims r)

  -- the output is not handed on
  module _ (output_stays : IsPart (share q) → In output_spot (moved_of hs) → ⊥)
      (inside : (r : ℕ) → nx r ≡ true → In output_spot (H r).moved → In output_spot (moved_of hs)) where
    abbrev kept : ℕ → Share
    kept r = cond (nx r) LacksIt (share r)

    kept_new : (r : ℕ) → nx r ≡ true → kept r ≡ LacksIt
    kept_new r w = ap (λ b. cond b LacksIt (share r)) w

    kept_old : (r : ℕ) → nx r ≡ false → kept r ≡ share r
    kept_old r w = ap (λ b. cond b LacksIt (share r)) w

    out_moved : IsPart (share q) → NotIn output_spot (moved_of hs)
    out_moved i = elim (in_or output_spot (moved_of hs)) [
      | inl k ↦ absurd (output_stays i k)
      | inr k ↦ k
    ]

    out_shared : (IsPiece (map.get p.map output_spot) → ⊥) → NotIn output_spot (shared_of hs)
    out_shared no_one = elim (in_or output_spot (shared_of hs)) [
      | inl k ↦ absurd (no_one (can.pieces output_spot k))
      | inr k ↦ k
    ]

    self_keeps : (y : Share) → share q ≡ y → StoreIs y p → StoreIs y (plain.handed p hs)
    self_keeps HoldsIt w s = (
      subst IsOutput (sym (parent_rest p.map hs output_spot (out_moved (subst IsPart (sym w) tt))
          (out_shared (λ k. (no_piece_there (map.get p.map output_spot) k).0 s.0)))) s.0,
      s.1,
    )
    self_keeps LendsIt w s = (
      parent_rest p.map hs output_spot (out_moved (subst IsPart (sym w) tt))
          (out_shared (λ k. (no_piece_there (map.get p.map output_spot) k).1 s.0)) ∙ s.0,
      s.1,
    )
    self_keeps LacksIt w s = handed_lacks p.map hs s

    pub fork_shares : IsShared kept holder after_fork births_then
    fork_shares = record {
      holds = kept_old holder (there holder h.here.0 h.here.1) ∙ h.holds;
      only = λ r k. only r k (who r);
      here = here (number_or q holder);
      stores = λ r t k. stores r t k (who r);
      up = λ r d w i. up r d w i (who r);
      siblings = λ r t b d w v k i j. one r t b d w v k i j (who r) (who t);
      had = λ r d t w k i. had r d t w k i (who r);
      not_had = λ r d t w k i j m. not_had r d t w k i j m (who r);
      aims = fork_aims;
    }
      where
        not_new : (r : ℕ) → nx r ≡ true → IsPart (kept r) → ⊥
        not_new r w i = subst IsPart (kept_new r w) i

        only : (r : ℕ) → kept r ≡ HoldsIt → BirthCase r → r ≡ holder
        only r k (New w) = absurd (hold_lack (sym k ∙ kept_new r w))
        only r k (Self w v) = h.only r (sym (kept_old r w) ∙ k)
        only r k (Other w v) = h.only r (sym (kept_old r w) ∙ k)

        here : (q ≡ holder) ⊎ ((q ≢ holder) × (q == holder ≡ false)) → (t : Plain)
            × (store_in (after_fork holder) ≡ Some t)
        here (inl w) = (store_of e, ap (λ y. store_in (after_fork y)) (sym w) ∙ ap store_in self_is ∙ store_joins n e)
        here (inr o) = (h.here.0, ap store_in (other_is holder (there holder h.here.0 h.here.1) o.0) ∙ h.here.1)

        stores : (r : ℕ) (t : Plain) → store_in (after_fork r) ≡ Some t → BirthCase r → StoreIs (kept r) t
        stores r t k (New w) =
            subst (λ y. StoreIs y t) (sym (kept_new r w))
            (subst (StoreIs LacksIt) (new_store r t w k)
            (child_lacks p.map (H r) (λ i o. output_stays (output_part (share q) p is o) (inside r w i))))
        stores r t k (Self w v) =
            subst (λ y. StoreIs y t) (sym (kept_old r w))
            (subst (λ y. StoreIs (share y) t) v
            (subst (StoreIs (share q)) (self_store r t v k) (self_keeps (share q) refl is)))
        stores r t k (Other w v) = subst (λ y. StoreIs y t) (sym (kept_old r w)) (h.stores r t (other_store r t w v k))

        up_old : (r : ℕ) (d : Birth) → births_then r ≡ Some d → IsPart (kept r) → nx r ≡ false → kept d.parent ≡ LendsIt
        up_old r d w i v = let b = old_birth r d v w in
            kept_old d.parent (old r d b) ∙ h.up r d b (subst IsPart (kept_old r v) i)

        up : (r : ℕ) (d : Birth) → births_then r ≡ Some d → IsPart (kept r) → BirthCase r → kept d.parent ≡ LendsIt
        up r d w i (New v) = absurd (not_new r v i)
        up r d w i (Self v k) = up_old r d w i v
        up r d w i (Other v k) = up_old r d w i v

        one_old : (r t : ℕ) (b d : Birth) → births_then r ≡ Some b → births_then t ≡ Some d → b.parent ≡ d.parent
            → IsPart (kept r) → IsPart (kept t) → nx r ≡ false → nx t ≡ false → r ≡ t
        one_old r t b d w v k i j x y = h.siblings r t b d (old_birth r b x w) (old_birth t d y v) k
            (subst IsPart (kept_old r x) i) (subst IsPart (kept_old t y) j)

        one : (r t : ℕ) (b d : Birth) → births_then r ≡ Some b → births_then t ≡ Some d → b.parent ≡ d.parent
            → IsPart (kept r) → IsPart (kept t) → BirthCase r → BirthCase t → r ≡ t
        one r t b d w v k i j (New x) y = absurd (not_new r x i)
        one r t b d w v k i j (Self x z) (New y) = absurd (not_new t y j)
        one r t b d w v k i j (Self x z) (Self y a) = one_old r t b d w v k i j x y
        one r t b d w v k i j (Self x z) (Other y a) = one_old r t b d w v k i j x y
        one r t b d w v k i j (Other x z) (New y) = absurd (not_new t y j)
        one r t b d w v k i j (Other x z) (Self y a) = one_old r t b d w v k i j x y
        one r t b d w v k i j (Other x z) (Other y a) = one_old r t b d w v k i j x y

        had : (r : ℕ) (d : Birth) (t : Plain) → births_then r ≡ Some d → store_in (after_fork r) ≡ Some t
            → IsPart (kept r) → BirthCase r → In output_spot t.moved
        had r d t w k i (New v) = absurd (not_new r v i)
        had r d t w k i (Self v z) =
            subst (λ (y : Plain). In output_spot y.moved) (self_store r t z k)
            (subst (In output_spot) (sym moved)
            (h.had r d p0 (old_birth r d v w) (ap (λ y. store_in (f y)) (sym z) ∙ was)
            (subst IsPart (kept_old r v) i)))
        had r d t w k i (Other v z) = h.had r d t (old_birth r d v w) (other_store r t v z k)
            (subst IsPart (kept_old r v) i)

        not_had : (r : ℕ) (d : Birth) (t : Plain) → births_then r ≡ Some d → store_in (after_fork r) ≡ Some t
            → (IsPart (kept r) → ⊥) → IsPart (kept d.parent) → In output_spot t.moved → BirthCase r → ⊥
        not_had r d t w k i j m (New v) =
            output_stays (subst IsPart (kept_old q not_q) (subst (λ y. IsPart (kept y)) (sym (new_birth r d v w)) j))
            (inside r v (subst (λ (y : Plain). In output_spot y.moved) (sym (new_store r t v k)) m))
        not_had r d t w k i j m (Self v z) =
            let b = old_birth r d v w in
            h.not_had r d p0 b (ap (λ y. store_in (f y)) (sym z) ∙ was) (λ x. i (subst IsPart (sym (kept_old r v)) x))
            (subst IsPart (kept_old d.parent (old r d b)) j)
            (subst (In output_spot) moved (subst (λ (y : Plain). In output_spot y.moved) (sym (self_store r t z k)) m))
        not_had r d t w k i j m (Other v z) =
            let b = old_birth r d v w in
            h.not_had r d t b (other_store r t v z k) (λ x. i (subst IsPart (sym (kept_old r v)) x))
            (subst IsPart (kept_old d.parent (old r d b)) j) m

  -- one child has it
  module _ (holding : share q ≡ HoldsIt) (r0 : ℕ) (new0 : nx r0 ≡ true) (has0 : In output_spot (H r0).moved)
      (all0 : In output_spot (moved_of hs)) (alone : (r : ℕ) → nx r ≡ true → In output_spot (H r).moved → r0 ≡ r) where
    abbrev lent_on : ℕ → Share
    lent_on r = cond (nx r) (cond (r0 == r) HoldsIt LacksIt) (at_key ◌==◌ q LendsIt share r)

    on_first : lent_on r0 ≡ HoldsIt
    on_first = ap (λ b. cond b (cond (r0 == r0) HoldsIt LacksIt) (at_key ◌==◌ q LendsIt share r0)) new0
        ∙ ap (λ b. cond b HoldsIt LacksIt) (equals_itself r0)

    on_new : (r : ℕ) → nx r ≡ true → r0 ≢ r → lent_on r ≡ LacksIt
    on_new r w d = ap (λ b. cond b (cond (r0 == r) HoldsIt LacksIt) (at_key ◌==◌ q LendsIt share r)) w
        ∙ go (number_or r0 r)
      where
        go : (r0 ≡ r) ⊎ ((r0 ≢ r) × (r0 == r ≡ false)) → cond (r0 == r) HoldsIt LacksIt ≡ LacksIt
        go (inl k) = absurd (d k)
        go (inr k) = ap (λ b. cond b HoldsIt LacksIt) k.1

    on_self : lent_on q ≡ LendsIt
    on_self = ap (λ b. cond b (cond (r0 == q) HoldsIt LacksIt) (at_key ◌==◌ q LendsIt share q)) not_q
        ∙ at_same share q LendsIt

    on_other : (r : ℕ) → nx r ≡ false → q ≢ r → lent_on r ≡ share r
    on_other r w d = ap (λ b. cond b (cond (r0 == r) HoldsIt LacksIt) (at_key ◌==◌ q LendsIt share r)) w
        ∙ at_other share q r LendsIt d

    -- a new one that is part is that child
    first_new : (r : ℕ) → nx r ≡ true → IsPart (lent_on r) → r0 ≡ r
    first_new r w i = go (number_or r0 r)
      where
        go : (r0 ≡ r) ⊎ ((r0 ≢ r) × (r0 == r ≡ false)) → r0 ≡ r
        go (inl k) = k
        go (inr k) = absurd (subst IsPart (on_new r w k.0) i)

    part_old : (r : ℕ) → nx r ≡ false → IsPart (lent_on r) → IsPart (share r)
    part_old r w i = go (number_or q r)
      where
        go : (q ≡ r) ⊎ ((q ≢ r) × (q == r ≡ false)) → IsPart (share r)
        go (inl k) = subst (λ y. IsPart (share y)) k (subst IsPart (sym holding) tt)
        go (inr k) = subst IsPart (on_other r w k.0) i

    out0 : IsOutput (map.get p.map output_spot)
    out0 = (subst (λ y. StoreIs y p) holding is).0

    pub fork_lends : IsShared lent_on r0 after_fork births_then
    fork_lends = record {
      holds = on_first;
      only = λ r k. only r k (who r);
      here = (store_of (child r0), ap store_in (new_is r0 new0) ∙ store_runs (child r0));
      stores = λ r t k. stores r t k (who r);
      up = λ r d w i. up r d w i (who r);
      siblings = λ r t b d w v k i j. one r t b d w v k i j (nx r) (nx t) refl refl;
      had = λ r d t w k i. had r d t w k i (who r);
      not_had = λ r d t w k i j m. not_had r d t w k i j m (who r);
      aims = fork_aims;
    }
      where
        only : (r : ℕ) → lent_on r ≡ HoldsIt → BirthCase r → r ≡ r0
        only r k (New w) = sym (first_new r w (subst IsPart (sym k) tt))
        only r k (Self w v) = absurd (hold_lend (sym k ∙ ap lent_on (sym v) ∙ on_self))
        only r k (Other w v) = absurd (v (h.only q holding ∙ sym (h.only r (sym (on_other r w v) ∙ k))))

        first_is : (r : ℕ) → r0 ≡ r → StoreIs (lent_on r) (plain.child p (H r))
        first_is r w =
            subst (λ y. StoreIs (lent_on y) (plain.child p (H y))) w
            (subst (λ y. StoreIs y (plain.child p (H r0))) (sym on_first) (
              subst IsOutput (sym (child_moved p.map (H r0) output_spot has0
                  (output_known (map.get p.map output_spot) out0))) out0,
              tt,
            ))

        later_is : (r : ℕ) → nx r ≡ true → r0 ≢ r → StoreIs (lent_on r) (plain.child p (H r))
        later_is r w d = subst (λ y. StoreIs y (plain.child p (H r))) (sym (on_new r w d))
            (child_lacks p.map (H r) (λ i o. d (alone r w i)))

        new_is_so : (r : ℕ) → nx r ≡ true → (r0 ≡ r) ⊎ ((r0 ≢ r) × (r0 == r ≡ false))
            → StoreIs (lent_on r) (plain.child p (H r))
        new_is_so r w (inl k) = first_is r k
        new_is_so r w (inr k) = later_is r w k.0

        away0 : map.get (map_after_fork p.map hs) output_spot ≡ Some Away
        away0 = parent_moved p.map hs output_spot all0 (can.apart output_spot all0)

        stores : (r : ℕ) (t : Plain) → store_in (after_fork r) ≡ Some t → BirthCase r → StoreIs (lent_on r) t
        stores r t k (New w) = subst (StoreIs (lent_on r)) (new_store r t w k) (new_is_so r w (number_or r0 r))
        stores r t k (Self w v) =
            subst (λ y. StoreIs (lent_on y) t) v
            (subst (λ y. StoreIs y t) (sym on_self)
            (subst (StoreIs LendsIt) (self_store r t v k) (away0, (subst (λ y. StoreIs y p) holding is).1)))
        stores r t k (Other w v) = subst (λ y. StoreIs y t) (sym (on_other r w v))
            (h.stores r t (other_store r t w v k))

        up_old : (r : ℕ) (d : Birth) → births_then r ≡ Some d → IsPart (lent_on r) → nx r ≡ false
            → lent_on d.parent ≡ LendsIt
        up_old r d w i v = go (number_or q d.parent)
          where
            b : birth r ≡ Some d
            b = old_birth r d v w

            u : share d.parent ≡ LendsIt
            u = h.up r d b (part_old r v i)

            go : (q ≡ d.parent) ⊎ ((q ≢ d.parent) × (q == d.parent ≡ false)) → lent_on d.parent ≡ LendsIt
            go (inl k) = absurd (hold_lend (sym holding ∙ ap share k ∙ u))
            go (inr k) = on_other d.parent (old r d b) k.0 ∙ u

        up : (r : ℕ) (d : Birth) → births_then r ≡ Some d → IsPart (lent_on r) → BirthCase r
            → lent_on d.parent ≡ LendsIt
        up r d w i (New v) = subst (λ y. lent_on y ≡ LendsIt) (new_birth r d v w) on_self
        up r d w i (Self v k) = up_old r d w i v
        up r d w i (Other v k) = up_old r d w i v

        mixed : (r t : ℕ) (b d : Birth) → births_then r ≡ Some b → births_then t ≡ Some d → b.parent ≡ d.parent
            → IsPart (lent_on t) → nx r ≡ true → nx t ≡ false → ⊥
        mixed r t b d w v k j x y = hold_lend
            (sym holding ∙ ap share (new_birth r b x w ∙ k) ∙ h.up t d (old_birth t d y v) (part_old t y j))

        one : (r t : ℕ) (b d : Birth) → births_then r ≡ Some b → births_then t ≡ Some d → b.parent ≡ d.parent
            → IsPart (lent_on r) → IsPart (lent_on t) → (x y : Bool) → nx r ≡ x → nx t ≡ y → r ≡ t
        one r t b d w v k i j true true x y = sym (first_new r x i) ∙ first_new t y j
        one r t b d w v k i j true false x y = absurd (mixed r t b d w v k j x y)
        one r t b d w v k i j false true x y = absurd (mixed t r d b v w (sym k) i y x)
        one r t b d w v k i j false false x y =
            h.siblings r t b d (old_birth r b x w) (old_birth t d y v) k (part_old r x i) (part_old t y j)

        had : (r : ℕ) (d : Birth) (t : Plain) → births_then r ≡ Some d → store_in (after_fork r) ≡ Some t
            → IsPart (lent_on r) → BirthCase r → In output_spot t.moved
        had r d t w k i (New v) = subst (λ (y : Plain). In output_spot y.moved) (new_store r t v k)
            (subst (λ y. In output_spot (H y).moved) (first_new r v i) has0)
        had r d t w k i (Self v z) =
            subst (λ (y : Plain). In output_spot y.moved) (self_store r t z k)
            (subst (In output_spot) (sym moved)
            (h.had r d p0 (old_birth r d v w) (ap (λ y. store_in (f y)) (sym z) ∙ was) (part_old r v i)))
        had r d t w k i (Other v z) = h.had r d t (old_birth r d v w) (other_store r t v z k) (part_old r v i)

        not_had : (r : ℕ) (d : Birth) (t : Plain) → births_then r ≡ Some d → store_in (after_fork r) ≡ Some t
            → (IsPart (lent_on r) → ⊥) → IsPart (lent_on d.parent) → In output_spot t.moved → BirthCase r → ⊥
        not_had r d t w k i j m (New v) =
            let first = alone r v (subst (λ (y : Plain). In output_spot y.moved) (sym (new_store r t v k)) m) in
            i (subst (λ y. IsPart (lent_on y)) first (subst IsPart (sym on_first) tt))
        not_had r d t w k i j m (Self v z) = i (subst (λ y. IsPart (lent_on y)) z (subst IsPart (sym on_self) tt))
        not_had r d t w k i j m (Other v z) =
            let b = old_birth r d v w in
            h.not_had r d t b (other_store r t v z k) (λ x. i (subst IsPart (sym (on_other r v z)) x))
            (part_old d.parent (old r d b) j) m
