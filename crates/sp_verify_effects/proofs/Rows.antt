-- Facts are written into rows, by their areas.
use Rattle.std.proofs.Common.{◌≡◌, ◌≢◌, ◌⊎◌, inl, inr, ⊎_elim, refl, ap, sym, ◌∙◌, subst, ℕ, zero, suc, ◌+◌, ◌<◌, List}
use Rattle.std.proofs.Common.{[], ◌∷◌, ◌++◌, length, Some, None, Bool, true, false, arith}
use Rattle.std.specs.Prelude.{slice_get, slice_set, ◌↔◌, IsTrue}
use Rattle.std.specs.BTreeSet.{BTreeSet}
use Rattle.std.proofs.lemmas.List.{length-set}
use Rattle.std.proofs.lemmas.Option.{slice_get_within, none-some, same_Some}
use Rattle.std.proofs.lemmas.Bool.{cases_eq, or_cases, or_left, or_right}
use Rattle.sp_base.proofs.Facts.{below_or_last, get_beside_set, get_where_set}
use Rattle.sp_tree.specs.Interference.{IsMember}
use Rattle.sp_code.specs.declared.code.Parts.{Parts}
use Rattle.sp_verify_rules.specs.Areas.{Area, entry}
use Rattle.sp_verify_rules.specs.Reach.{IsArea}
use Rattle.sp_verify_rules.specs.Effects.{Does, HasEffect}
use Rattle.sp_verify_rules.specs.NameRules.{BreaksV1}
use Rattle.sp_verify_effects.specs.declared.asked_areas.Asked.{Asked}
use Rattle.sp_verify_effects.specs.declared.effects.EffectRow.{EffectRow}
use Rattle.sp_verify_effects.specs.declared.facts.Fact.{Fact}
use Rattle.sp_verify_effects.specs.declared.facts.Effect.{Effect}
use Rattle.sp_verify_effects.specs.declared.facts.Effect.TheVariants as effect
use Rattle.sp_verify_effects.specs.AskedAreas.{is_asked}
use Rattle.sp_verify_effects.specs.Facts.{has_fact, fact}
use Rattle.sp_verify_effects.specs.Effects.{InRow, RowsHave, AddsEffect, WritesFact, AreRows, IsRowOf, AreFound}
use Rattle.sp_verify_effects.specs.Effects.{touches}
use Rattle.sp_verify_effects.specs.FactClosure.{IsEffectOf, AreFacts}
use Rattle.sp_verify_effects.specs.Variables.{AreOwn}
use Rattle.sp_verify_effects.proofs.FactSets.{told_place, place_told}
use Rattle.sp_verify_effects.proofs.EdgeRows.{entry_within}

-- ---- one row

in_last : (x y : ℕ) (xs : List ℕ) → IsMember x (xs ++ y ∷ []) → IsMember x xs ⊎ (x ≡ y)
in_last x y [] (inl e) = inr e
in_last x y [] (inr i) = absurd i
in_last x y (z ∷ xs) (inl e) = inl (inl e)
in_last x y (z ∷ xs) (inr i) = ⊎_elim (λ j. inl (inr j)) (λ e. inr e) (in_last x y xs i)

last_in : (x y : ℕ) (xs : List ℕ) → IsMember x xs ⊎ (x ≡ y) → IsMember x (xs ++ y ∷ [])
last_in x y [] (inl i) = absurd i
last_in x y [] (inr e) = inl e
last_in x y (z ∷ xs) (inl (inl e)) = inl e
last_in x y (z ∷ xs) (inl (inr i)) = inr (last_in x y xs (inl i))
last_in x y (z ∷ xs) (inr e) = inr (last_in x y xs (inr e))

stores_is : (x y : ℕ) → effect.Stores x ≡ effect.Stores y → x ≡ y
stores_is x y e = cc (e)

loads_is : (x y : ℕ) → effect.Loads x ≡ effect.Loads y → x ≡ y
loads_is x y e = cc (e)

pub puts_stored : (r : EffectRow) (xs : List ℕ) (y : ℕ) → xs ≡ r.stored ++ y ∷ []
    → AddsEffect r (record { stored = xs; loaded = r.loaded; stops = r.stops }) (effect.Stores y)
puts_stored r xs y s (effect.Stores x) = (
  λ i. ⊎_elim (λ j. inl j) (λ e. inr (ap effect.Stores e)) (in_last x y r.stored (subst (IsMember x) s i)),
  λ w. subst
      (IsMember x) (sym s) (last_in x y r.stored (⊎_elim (λ j. inl j) (λ e. inr (stores_is x y e)) w)),
)
puts_stored r xs y s (effect.Loads x) = (λ i. inl i, λ w. ⊎_elim (λ j. j) (λ e. absurd (cc (e))) w)
puts_stored r xs y s effect.Stops = (λ i. inl i, λ w. ⊎_elim (λ j. j) (λ e. absurd (cc (e))) w)

pub puts_loaded : (r : EffectRow) (xs : List ℕ) (y : ℕ) → xs ≡ r.loaded ++ y ∷ []
    → AddsEffect r (record { stored = r.stored; loaded = xs; stops = r.stops }) (effect.Loads y)
puts_loaded r xs y s (effect.Stores x) = (λ i. inl i, λ w. ⊎_elim (λ j. j) (λ e. absurd (cc (e))) w)
puts_loaded r xs y s (effect.Loads x) = (
  λ i. ⊎_elim (λ j. inl j) (λ e. inr (ap effect.Loads e)) (in_last x y r.loaded (subst (IsMember x) s i)),
  λ w. subst
      (IsMember x) (sym s) (last_in x y r.loaded (⊎_elim (λ j. inl j) (λ e. inr (loads_is x y e)) w)),
)
puts_loaded r xs y s effect.Stops = (λ i. inl i, λ w. ⊎_elim (λ j. j) (λ e. absurd (cc (e))) w)

pub puts_stops : (r : EffectRow) → AddsEffect r (record { stored = r.stored; loaded = r.loaded; stops = true })
    effect.Stops
puts_stops r (effect.Stores x) = (λ i. inl i, λ w. ⊎_elim (λ j. j) (λ e. absurd (cc (e))) w)
puts_stops r (effect.Loads x) = (λ i. inl i, λ w. ⊎_elim (λ j. j) (λ e. absurd (cc (e))) w)
puts_stops r effect.Stops = (λ i. inr refl, λ w. refl)

pub adds_effect : (old new : EffectRow) (d e : Effect) → d ≡ e → AddsEffect old new e → AddsEffect old new d
adds_effect old new d e s h = subst (AddsEffect old new) (sym s) h

-- ---- rows

pub writes_one : (rows : List EffectRow) (f : Fact) (r new none : EffectRow) → slice_get rows f.area ≡ Some r
    → AddsEffect r new f.effect → WritesFact rows (slice_set (slice_set rows f.area none) f.area new) f
writes_one rows f r new none at p = record { size = size; kept = kept; has = has; only = only }
  where
    m : ℕ
    m = f.area

    middle : List EffectRow
    middle = slice_set rows m none

    last : List EffectRow
    last = slice_set middle m new

    size : length last ≡ length rows
    size = length-set middle m new ∙ length-set rows m none

    here : slice_get last m ≡ Some new
    here = get_where_set middle m new (subst (λ n. m < n) (sym (length-set rows m none)) (slice_get_within rows m r at))

    there : (n : ℕ) → n ≢ m → slice_get last n ≡ slice_get rows n
    there n d = get_beside_set middle m n new (λ s. d (sym s)) ∙ get_beside_set rows m n none (λ s. d (sym s))

    kept : (n : ℕ) (d : Effect) → RowsHave rows n d → RowsHave last n d
    kept n d (s, g, i) =
        ⊎_elim (λ q. (
          new,
          ap (slice_get last) q
              ∙ here,
          (p d).1 (inl (subst (λ x. InRow x d) (same_Some s r (sym g ∙ ap (slice_get rows) q
              ∙ at)) i)),
        )) (λ o. (s, there n o ∙ g, i)) (cases_eq n m)

    has : f.area < length rows → RowsHave last m f.effect
    has l = (new, here, (p f.effect).1 (inr refl))

    only : (n : ℕ) (d : Effect) → RowsHave last n d → RowsHave rows n d ⊎ ((n ≡ f.area) × (d ≡ f.effect))
    only n d (s, g, i) =
        ⊎_elim (λ q. let z = same_Some s new (sym g ∙ ap (slice_get last) q
        ∙ here) in ⊎_elim (λ j. inl (
          r,
          ap (slice_get rows) q
              ∙ at,
          j,
        )) (λ e. inr (q, e)) ((p d).0 (subst (λ x. InRow x d) z i)))
        (λ o. inl (s, sym (there n o) ∙ g, i)) (cases_eq n m)

pub writes_none : (rows : List EffectRow) (f : Fact) → (f.area < length rows → ⊥) → WritesFact rows rows f
writes_none rows f h = record { size = refl; kept = λ m d i. i; has = λ l. absurd (h l); only = λ m d i. inl i }

pub effect_rows_more : (rows : List EffectRow) (none : EffectRow) → none.stored ≡ [] → none.loaded ≡ []
    → none.stops ≡ false
    → ((m : ℕ) (d : Effect) → RowsHave rows m d → ⊥) → (m : ℕ) (d : Effect) → RowsHave (rows ++ none ∷ []) m d → ⊥
effect_rows_more [] none es el et h zero d (r, g, i) = empty d
    (subst (λ (x : EffectRow). InRow x d) (sym (same_Some none r g)) i)
  where
    empty : (d : Effect) → InRow none d → ⊥
    empty (effect.Stores x) i = absurd (subst (IsMember x) es i)
    empty (effect.Loads x) i = absurd (subst (IsMember x) el i)
    empty effect.Stops i = let z = sym et ∙ i in cc (z)
effect_rows_more [] none es el et h (suc m) d (r, g, i) = none-some r g
effect_rows_more (x ∷ rows) none es el et h zero d w = h 0 d w
effect_rows_more (x ∷ rows) none es el et h (suc m) d w =
    effect_rows_more rows none es el et (λ n e v. h (suc n) e v) m d w

-- ---- all facts

pub no_rows : (fs : List Fact) (n : ℕ) (rows : List EffectRow) → length rows ≡ n
    → ((m : ℕ) (d : Effect) → RowsHave rows m d → ⊥) → AreRows fs 0 n rows
no_rows fs n rows s h = record {
  size = s;
  has = λ j f l e z. absurd (omega (arith, l));
  only = λ m d w. absurd
      (h m d w);
}

pub rows_more : (fs : List Fact) (i n : ℕ) (f : Fact) (a b : List EffectRow) → slice_get fs i ≡ Some f
    → AreRows fs i n a
    → WritesFact a b f → AreRows fs (i + 1) n b
rows_more fs i n f a b e h w = record { size = w.size ∙ h.size; has = has; only = only }
  where
    has : (j : ℕ) (g : Fact) → j < i + 1 → slice_get fs j ≡ Some g → g.area < n → RowsHave b g.area g.effect
    has j g l s z =
        ⊎_elim (λ q. w.kept g.area g.effect (h.has j g q s z))
        (λ q. let t : f ≡ g = same_Some f g (sym e ∙ ap (slice_get fs) (sym q)
        ∙ s) in subst (λ (x : Fact). RowsHave b x.area x.effect) t
        (w.has (subst (λ k. f.area < k) (sym h.size) (subst (λ (x : Fact). x.area < n) (sym t) z))))
        (below_or_last j i l)

    only : (m : ℕ) (d : Effect) → RowsHave b m d → has_fact fs (fact m d) ≡ true
    only m d v = ⊎_elim (λ o. h.only m d o) (λ o. place_told fs i (fact m d) (e
        ∙ ap Some (λ k. record { area = sym o.0 k; effect = sym o.1 k }))) (w.only m d v)

none_past : (fs : List Fact) (i : ℕ) → slice_get fs i ≡ None → (j : ℕ) → j < length fs → j < i
none_past [] i e j l = absurd (omega (arith, l))
none_past (f ∷ fs) zero e j l = absurd (none-some f (sym e))
none_past (f ∷ fs) (suc i) e zero l = omega arith
none_past (f ∷ fs) (suc i) e (suc j) l = let m = none_past fs i e j (omega (arith, l)) in omega (arith, m)

pub rows_end : (fs : List Fact) (i n : ℕ) (rows : List EffectRow) → slice_get fs i ≡ None → AreRows fs i n rows
    → AreRows fs (length fs) n rows
rows_end fs i n rows e h = record {
  size = h.size;
  has = λ j f l s z. h.has j f (none_past fs i e j l) s z;
  only = h.only;
}

pub rows_all : (fs : List Fact) (i n : ℕ) (rows : List EffectRow) → i ≡ length fs → AreRows fs i n rows
    → AreRows fs (length fs) n rows
rows_all fs i n rows e h = subst (λ k. AreRows fs k n rows) e h

-- ---- areas

row_at : (rows : List EffectRow) (m : ℕ) → m < length rows → (r : EffectRow) × (slice_get rows m ≡ Some r)
row_at [] m l = absurd (omega (arith, l))
row_at (r ∷ rows) zero l = (r, refl)
row_at (r ∷ rows) (suc m) l = row_at rows m (omega (arith, l))

module _ (c : Parts) (kept : (p : ℕ) → BreaksV1 c p
    → ⊥) (k : Asked) (fs : List Fact) (facts : AreFacts c k fs) (rows : List EffectRow)
    (are : AreRows fs (length fs) (length c.instrs) rows) (own : BTreeSet (ℕ × ℕ)) (are_own : AreOwn c own.keys) where
  row_is : (a : Area) (r : EffectRow) (d : Effect) → IsArea c a → is_asked k (entry c a) d ≡ true
      → slice_get rows (entry c a) ≡ Some r → InRow r d ↔ IsEffectOf c a d
  row_is a r d ia q e = (λ i. (facts a d ia q).0 (are.only (entry c a) d (r, e, i)), back)
    where
      back : IsEffectOf c a d → InRow r d
      back h =
          let t = told_place fs (fact (entry c a) d) ((facts a d ia q).1 h) in
          let w = are.has t.0 (fact (entry c a) d) (slice_get_within fs t.0 (fact (entry c a) d) t.1) t.1
          (entry_within c kept a ia) in
          subst (λ (x : EffectRow). InRow x d) (same_Some w.0 r (sym w.1 ∙ e)) w.2

  pub are_found : AreFound c (record { rows = rows; facts = fs; own = own; asked = k })
  are_found = record { rows = there; touched = touched; own = are_own }
    where
      there : (a : Area) → IsArea c a → (r : EffectRow) × (slice_get rows (entry c a) ≡ Some r) × IsRowOf c k a r
      there a ia =
          let r = row_at rows (entry c a) (subst (λ n. entry c a < n) (sym are.size) (entry_within c kept a ia)) in (
            r.0,
            r.1,
            record {
              stored = λ x q. row_is a r.0 (effect.Stores x) ia q r.1;
              loaded = λ x q. row_is a r.0
                  (effect.Loads x) ia q r.1;
              stops = λ q. row_is a r.0 effect.Stops ia q r.1;
            },
          )

      touched : (a : Area) (x : ℕ) → IsArea c a → is_asked k (entry c a) (effect.Stores x) ≡ true
          → is_asked k (entry c a) (effect.Loads x) ≡ true
          → IsTrue (touches (record { rows = rows; facts = fs; own = own; asked = k }) (entry c a) x)
          ↔ HasEffect c (Does c) a x
      touched a x ia store load = (
        λ i. ⊎_elim (λ h. inl ((facts a (effect.Stores x) ia store).0 h))
            (λ h. inr ((facts a (effect.Loads x) ia load).0 h)) (or_cases s l i),
        λ w. ⊎_elim (λ h. or_left s l ((facts a (effect.Stores x) ia store).1 h))
            (λ h. or_right s l ((facts a (effect.Loads x) ia load).1 h)) w,
      )
        where
          s : Bool
          s = has_fact fs (fact (entry c a) (effect.Stores x))

          l : Bool
          l = has_fact fs (fact (entry c a) (effect.Loads x))
