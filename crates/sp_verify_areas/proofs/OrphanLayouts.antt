-- Which layouts have no home: two of one block, and those that are not led to block 0.
use Rattle.std.proofs.Common.{◌≡◌, ◌≢◌, ◌⊎◌, inl, inr, ⊎_elim, refl, ap, sym, ◌∙◌, subst, ℕ, zero, suc, ◌+◌, ◌<◌, ◌==◌}
use Rattle.std.proofs.Common.{List, [], ◌∷◌, length, Option, Some, None, Bool, true, false}
use Rattle.std.proofs.Common.{◌||◌, arith, eqb-true}
use Rattle.std.specs.Prelude.{slice_get}
use Rattle.std.proofs.lemmas.Bool.{eq-eqb, or_cases, or_left, or_right}
use Rattle.std.proofs.lemmas.Option.{slice_get_within, none-some, same_Some}
use Rattle.sp_base.proofs.Facts.{below_or_last, not_true_and_false}
use Rattle.sp_code.specs.declared.code.Layout.{Layout}
use Rattle.sp_code.specs.declared.code.Parts.{Parts}
use Rattle.sp_verify_rules.specs.Areas.{leads_by}
use Rattle.sp_verify_rules.specs.NameRules.{OrphanBlock}
use Rattle.sp_verify_areas.specs.declared.tree.Grown.{Grown}
use Rattle.sp_verify_areas.specs.Alone.{Marks, flag_at}
use Rattle.sp_verify_areas.specs.Blocks.{number_from}
use Rattle.sp_verify_areas.specs.Grown.{node_at, HaveAllBlockNodes}
use Rattle.sp_verify_areas.specs.OrphanBlock.{IsOrphanBlock, OrphanBlockAt, is_place, IsDoubled, AreDoubled}
use Rattle.sp_verify_areas.specs.LeastPlaces.{IsLeast, Upto}
use Rattle.sp_verify_areas.specs.WrongNames.{Decides}
use Rattle.sp_verify_areas.proofs.BlockNodes.{layout_block, place_there, placed_layout}
use Rattle.sp_verify_areas.proofs.Leasts.{least_of_same}

place_is : (o : Option ℕ) (j : ℕ) → is_place o j ≡ true → o ≡ Some j
place_is None j e = absurd (cc e)
place_is (Some k) j e = ap Some (eqb-true k j e)

place_not : (o : Option ℕ) (j : ℕ) → is_place o j ≡ false → o ≡ Some j → ⊥
place_not None j e s = none-some j s
place_not (Some k) j e s = not_true_and_false (k == j) (eq-eqb k j (same_Some k j s)) e

-- a flag that is there stands at a place that is there
flag_within : (fs : List Bool) (i : ℕ) → flag_at fs i ≡ true → i < length fs
flag_within [] i e = absurd (cc e)
flag_within (b ∷ fs) zero e = omega arith
flag_within (b ∷ fs) (suc i) e = let r = flag_within fs i e in omega (arith, r)

module _ (ls : List Layout) (j : ℕ) (l : Layout) (e : slice_get ls j ≡ Some l) where
  pub doubled_first : (fs : List Bool) → number_from 0 ls l.block ≡ Some j → AreDoubled ls fs j
      → AreDoubled ls fs (j + 1)
  doubled_first fs p are = record {
    size = are.size;
    yes = are.yes;
    all = λ i k m h s d q. all i k m s d q
        (below_or_last k j h);
  }
    where
      all : (i k : ℕ) (m : Layout) → slice_get ls k ≡ Some m → k ≢ i → number_from 0 ls m.block ≡ Some i → (k < j)
          ⊎ (k ≡ j) → flag_at fs i ≡ true
      all i k m s d q (inl h) = are.all i k m h s d q
      all i k m s d q (inr h) =
          let lm : l ≡ m = same_Some l m (sym e ∙ ap (slice_get ls) (sym h) ∙ s) in
          let ji : j ≡ i = same_Some j i (sym p ∙ ap (λ (x : Layout). number_from 0 ls x.block) lm ∙ q) in
          absurd (d (h ∙ ji))

  pub doubled_more : (old new : List Bool) (place : ℕ) → number_from 0 ls l.block ≡ Some place → j ≢ place
      → AreDoubled ls old j → Marks old new place → AreDoubled ls new (j + 1)
  doubled_more old new place p far are g = record {
    size = g.0
        ∙ are.size;
    yes = yes;
    all = λ i k m h s d q. all i k m s d q (below_or_last k j h);
  }
    where
      flag : (i : ℕ) → i < length old → flag_at new i ≡ (place == i) || flag_at old i
      flag i h = g.1 i h

      within : (i : ℕ) → flag_at new i ≡ true → i < length old
      within i h = let a = flag_within new i h in let b = g.0 in omega (arith, a, b)

      yes : (i : ℕ) → flag_at new i ≡ true → IsDoubled ls i
      yes i h = ⊎_elim
          (λ t. let q = eqb-true place i t in (j, l, e, (λ s. far (s ∙ sym q)), p ∙ ap Some q))
          (λ t. are.yes i t)
          (or_cases (place == i) (flag_at old i) (sym (flag i (within i h)) ∙ h))

      inside : (i k : ℕ) (m : Layout) → number_from 0 ls m.block ≡ Some i → i < length old
      inside i k m q = let x = placed_layout ls m.block i q in let a = slice_get_within ls i x.0 x.1 in
          let b = are.size in omega (arith, a, b)

      all : (i k : ℕ) (m : Layout) → slice_get ls k ≡ Some m → k ≢ i → number_from 0 ls m.block ≡ Some i → (k < j)
          ⊎ (k ≡ j) → flag_at new i ≡ true
      all i k m s d q (inl h) = flag i (inside i k m q) ∙ or_right (place == i) (flag_at old i) (are.all i k m h s d q)
      all i k m s d q (inr h) =
          let lm : l ≡ m = same_Some l m (sym e ∙ ap (slice_get ls) (sym h) ∙ s) in
          let pi : place ≡ i = same_Some place i (sym p ∙ ap (λ (x : Layout). number_from 0 ls x.block) lm ∙ q) in
          flag i (inside i k m q) ∙ or_left (place == i) (flag_at old i) (eq-eqb place i pi)

  pub note_first : (fs : List Bool) → is_place (number_from 0 ls l.block) j ≡ true → AreDoubled ls fs j
      → AreDoubled ls fs (j + 1)
  note_first fs t are = doubled_first fs (place_is (number_from 0 ls l.block) j t) are

  pub note_other : (old new : List Bool) (place : ℕ) → is_place (number_from 0 ls l.block) j ≡ false
      → number_from 0 ls l.block ≡ Some place → AreDoubled ls old j → Marks old new place → AreDoubled ls new (j + 1)
  note_other old new place t p are g = doubled_more old new place p (λ q. place_not (number_from 0 ls l.block) j t (p
      ∙ ap Some (sym q))) are g

  -- ---- one layout

  pub lacks_elsewhere : is_place (number_from 0 ls l.block) j ≡ false → Decides true (IsOrphanBlock ls j l)
  lacks_elsewhere t = record { yes = λ z. yes (number_from 0 ls l.block) refl; no = λ z. absurd (cc z) }
    where
      yes : (o : Option ℕ) → number_from 0 ls l.block ≡ o → IsOrphanBlock ls j l
      yes None p = absurd (place_there ls j l e p)
      yes (Some k) p =
          let m = placed_layout ls l.block k p in
          inl (
            k,
            m.0,
            m.1,
            (λ q. place_not (number_from 0 ls l.block) j t (p
                ∙ ap Some q)),
            layout_block ls l.block m.0 m.2,
          )

  pub lacks_twice : (fs : List Bool) → AreDoubled ls fs (length ls) → flag_at fs j ≡ true
      → Decides true (IsOrphanBlock ls j l)
  lacks_twice fs are t = record { yes = λ z. yes; no = λ z. absurd (cc z) }
    where
      yes : IsOrphanBlock ls j l
      yes =
          let (k, twin, there, apart, placed) = are.yes j t in
          let m = placed_layout ls twin.block j placed in
          let lm : m.0 ≡ l = same_Some m.0 l (sym m.1 ∙ e) in
          inl (k, twin, there, apart, sym (layout_block ls twin.block m.0 m.2) ∙ ap (λ (x : Layout). x.block) lm)

  pub lacks_none : (fs : List Bool) (g : Grown) → is_place (number_from 0 ls l.block) j ≡ true
      → AreDoubled ls fs (length ls) → flag_at fs j ≡ false → HaveAllBlockNodes ls g → node_at g.of j ≡ None
      → Decides true (IsOrphanBlock ls j l)
  lacks_none fs g t are f led n = record {
    yes = λ z. inr (go (leads_by (length ls) ls (Some l)) refl);
    no = λ z. absurd
        (cc z);
  }
    where
      go : (b : Bool) → leads_by (length ls) ls (Some l) ≡ b → leads_by (length ls) ls (Some l) ≡ false
      go false s = s
      go true s = let has = led.all j (length ls) l e s in absurd (none-some has.0 (sym n ∙ has.1))

  pub lacks_not : (fs : List Bool) (g : Grown) (n : ℕ) → is_place (number_from 0 ls l.block) j ≡ true
      → AreDoubled ls fs (length ls) → flag_at fs j ≡ false → HaveAllBlockNodes ls g → node_at g.of j ≡ Some n
      → Decides false (IsOrphanBlock ls j l)
  lacks_not fs g n t are f led s = record { yes = λ z. absurd (cc z); no = λ z. no }
    where
      no : IsOrphanBlock ls j l → ⊥
      no (inl (k, m, h, d, b)) = not_true_and_false (flag_at fs j)
          (are.all j k m (slice_get_within ls k m h) h d (ap (number_from 0 ls) b
          ∙ place_is (number_from 0 ls l.block) j t)) f
      no (inr h) =
          let was = led.led.each j n l s e in
          let a = was.0 in
          let count = led.led.count in
          not_true_and_false (leads_by (length ls) ls (Some l)) (was.1 (length ls) (omega (arith, a, count))).0 h

  pub one_orphan_block : (b : Bool) (o : Option ℕ) → Decides b (IsOrphanBlock ls j l)
      → IsLeast (λ p. (l.entry ≡ p) × (b ≡ true)) o → IsLeast (OrphanBlockAt ls j) o
  one_orphan_block b o d h = least_of_same (λ p. (l.entry ≡ p)
      × (b ≡ true)) (OrphanBlockAt ls j) o (λ p z. (l, e, z.0, d.yes z.1)) (λ p z. down p z b refl) h
    where
      down : (p : ℕ) → OrphanBlockAt ls j p → (t : Bool) → b ≡ t → (l.entry ≡ p) × (b ≡ true)
      down p (m, there, begins, orphan) t s =
          let q : m ≡ l = same_Some m l (sym there ∙ e) in
          let w : (l.entry ≡ p)
          × IsOrphanBlock ls j l = subst (λ (x : Layout). (x.entry ≡ p) × IsOrphanBlock ls j x) q (begins, orphan) in
          (w.0, go t s w.1)
        where
          go : (t : Bool) → b ≡ t → IsOrphanBlock ls j l → b ≡ true
          go true s h = s
          go false s h = absurd (d.no s h)

pub all_orphan_blocks : (c : Parts) (o : Option ℕ) → IsLeast (Upto (OrphanBlockAt c.layouts) (length c.layouts)) o
    → IsLeast (OrphanBlock c) o
all_orphan_blocks c o h = least_of_same (Upto (OrphanBlockAt c.layouts) (length c.layouts)) (OrphanBlock c) o
    (λ p u. let (l, there, begins, orphan) = u.holds in (u.item, l, there, begins, orphan))
    (λ p (j, l, there, begins, orphan).
    record { item = j; below = slice_get_within c.layouts j l there; holds = (l, there, begins, orphan) }) h
