-- Which instructions name a table, one instruction after the other; and whether the table is at fault.
use Rattle.std.proofs.Common.{◌≡◌, ◌≢◌, inl, inr, ⊎_elim, refl, ap, sym, ◌∙◌, subst, ℕ, ◌+◌, ◌<◌, List, length}
use Rattle.std.proofs.Common.{Option, Some, None, Bool, true, arith}
use Rattle.std.specs.Prelude.{slice_get, slice_set}
use Rattle.std.proofs.lemmas.List.{length-set, length-replicate, get_or-replicate}
use Rattle.std.proofs.lemmas.Option.{slice_get_within, get_or_from_slice_get, none-some, same_Some}
use Rattle.std.proofs.lemmas.Bool.{cases_eq}
use Rattle.sp_base.proofs.Facts.{get_beside_set, get_where_set, item_is_not_none, less_same_or_more}
use Rattle.sp_code.specs.declared.code.ForkTable.{ForkTable}
use Rattle.sp_code.specs.declared.code.Parts.{Parts}
use Rattle.sp_verify_rules.specs.Areas.{Area, on_option, child_of}
use Rattle.sp_verify_rules.specs.NameRules.{LiesIn, Names, Unnamed}
use Rattle.sp_verify_areas.specs.declared.table_names.Namer.{Namer}
use Rattle.sp_verify_areas.specs.declared.table_names.Namer.TheVariants as namer
use Rattle.sp_verify_areas.specs.declared.owners.Owner.{Owner}
use Rattle.sp_verify_areas.specs.declared.owners.Owner.TheVariants as owner
use Rattle.sp_verify_areas.specs.Alone.{ChildFails}
use Rattle.sp_verify_areas.specs.LeastPlaces.{IsLeast, Upto}
use Rattle.sp_verify_areas.specs.Owners.{Owns, AreOwners, is_same}
use Rattle.sp_verify_areas.specs.Namers.{with_namer, with_namer_of, none_yet, is_lost, NamedBy, AreNamers, IsLost}
use Rattle.sp_verify_areas.specs.Namers.{LostAt}
use Rattle.sp_verify_areas.proofs.Leasts.{least_of_same, all}
use Rattle.sp_verify_areas.proofs.OwnerLaws.{same_is}
use Rattle.sp_verify_areas.proofs.OwnerClosure.{named_within, table_of}

module _ (c : Parts) where
  -- ---- one more instruction

  -- it names this table
  one_more : (n t : ℕ) (w : Namer) → Names c t n → NamedBy c n t w → NamedBy c (n + 1) t (with_namer w n)
  one_more n t namer.Nothing is h = (omega arith, is, only)
    where
      only : (q : ℕ) → q < n + 1 → Names c t q → q ≡ n
      only q l m = ⊎_elim (λ z. absurd (h q z m)) (λ z. ⊎_elim (λ e. e) (λ y. absurd (omega (arith, y, l))) z)
          (less_same_or_more q n)
  one_more n t (namer.One p) is h = (p, n, h.1, is, λ e. (let l = h.0 in omega (arith, l, e)))
  one_more n t namer.Several is h = h

  -- it does not
  no_more : (n t : ℕ) (w : Namer) → (Names c t n → ⊥) → NamedBy c n t w → NamedBy c (n + 1) t w
  no_more n t namer.Nothing not h = λ q l m. ⊎_elim (λ z. h q z m) (λ z. ⊎_elim (λ (e : q ≡ n). not
      (subst (Names c t) e m)) (λ y. omega (arith, y, l)) z) (less_same_or_more q n)
  no_more n t (namer.One p) not h = ((let l = h.0 in omega (arith, l)), h.1, only)
    where
      only : (q : ℕ) → q < n + 1 → Names c t q → q ≡ p
      only q l m = ⊎_elim (λ z. h.2 q z m) (λ z. ⊎_elim (λ (e : q ≡ n). absurd (not (subst (Names c t) e m)))
          (λ y. absurd (omega (arith, y, l))) z) (less_same_or_more q n)
  no_more n t namer.Several not h = h

  -- an instruction names one table at most
  one_name : (t u n : ℕ) → Names c t n → Names c u n → t ≡ u
  one_name t u n h k = same_Some t u (sym h ∙ k)

  pub begun : (n : ℕ) → n ≡ length c.forks → AreNamers c 0 (none_yet n)
  begun n e = (
    length-replicate n namer.Nothing ∙ e,
    λ t w h. subst (NamedBy c 0 t) (is t w h) (λ q s m. omega
        (arith, s)),
  )
    where
      is : (t : ℕ) (w : Namer) → slice_get (none_yet n) t ≡ Some w → namer.Nothing ≡ w
      is t w h =
          let l = slice_get_within (none_yet n) t w h in
          let m = length-replicate n namer.Nothing in
          sym (get_or-replicate n t namer.Nothing w (omega (arith, l, m))) ∙ get_or_from_slice_get (none_yet n) t w w h

  pub named_none : (n : ℕ) (ws : List Namer) → ((t : ℕ) → Names c t n → ⊥) → AreNamers c n ws → AreNamers c (n + 1) ws
  named_none n ws not h = (h.0, λ t w e. no_more n t w (not t) (h.1 t w e))

  pub named_one : (n u : ℕ) (ws : List Namer) → Names c u n → AreNamers c n ws
      → AreNamers c (n + 1) (with_namer_of ws u n)
  named_one n u ws is h = go (slice_get ws u) refl
    where
      other : (t : ℕ) → u ≢ t → Names c t n → ⊥
      other t d m = d (one_name u t n is m)

      go : (o : Option Namer) → slice_get ws u ≡ o → AreNamers c (n + 1) (on_option ws o (λ w. slice_set ws u
          (with_namer w n)))
      go None e = (
        h.0,
        λ t w f. no_more n t w (other t (λ s. none-some w (sym e ∙ ap (slice_get ws) s ∙ f)))
            (h.1 t w f),
      )
      go (Some v) e = (length-set ws u (with_namer v n) ∙ h.0, each)
        where
          each : (t : ℕ) (w : Namer) → slice_get (slice_set ws u (with_namer v n)) t ≡ Some w → NamedBy c (n + 1) t w
          each t w f = ⊎_elim
              (λ (s : u ≡ t). let r = same_Some (with_namer v n) w (sym (get_where_set ws u (with_namer v n)
              (slice_get_within ws u v e)) ∙ ap (slice_get (slice_set ws u (with_namer v n))) s ∙ f) in
              subst (NamedBy c (n + 1) t) r (subst (λ z. NamedBy c (n + 1) z (with_namer v n)) s (one_more n u v is
              (h.1 u v e))))
              (λ (d : u ≢ t). no_more n t w (other t d) (h.1 t w (sym (get_beside_set ws u t (with_namer v n) d) ∙ f)))
              (cases_eq u t)

  -- ---- whether a table is at fault

  module _ (os : List Owner) (are : AreOwners c os) where
    nobody : (p : ℕ) (o : Owner) → is_same o owner.Nobody ≡ true → Owns c p o → (a : Area) → LiesIn c p a → ⊥
    nobody p o e h = subst (Owns c p) (same_is o owner.Nobody e) h

    lost_is : (t : ℕ) (w : Namer) → NamedBy c (length c.instrs) t w → is_lost os w ≡ true → IsLost c t
    lost_is t namer.Nothing h e = inl (λ q m. h q (named_within c t q m) m)
    lost_is t (namer.One p) h e = inr (inr (p, h.1, go (slice_get os p) refl e))
      where
        go : (o : Option Owner) → slice_get os p ≡ o → on_option true o (λ v. is_same v owner.Nobody) ≡ true
            → (a : Area)
            → LiesIn c p a → ⊥
        go None s z = absurd (let l = named_within c t p h.1 in let n = are.0 in
            item_is_not_none os p (omega (arith, l, n)) s)
        go (Some v) s z = nobody p v z (are.1 p v s)
    lost_is t namer.Several h e = inr (inl h)

    none_here : (o : Owner) (p : ℕ) → Owns c p o → ((a : Area) → LiesIn c p a → ⊥) → is_same o owner.Nobody ≡ true
    none_here owner.Nobody p h none = refl
    none_here (owner.Block b) p h none = absurd (none h.area h.lies)
    none_here (owner.Child q k) p h none = absurd (none h.area h.lies)
    none_here owner.Several p h none = absurd (none h.first h.lies)

    is_so_lost : (t : ℕ) (w : Namer) → NamedBy c (length c.instrs) t w → IsLost c t → is_lost os w ≡ true
    is_so_lost t namer.Nothing h z = refl
    is_so_lost t (namer.One p) h (inl z) = absurd (z p h.1)
    is_so_lost t (namer.One p) h (inr (inl (q, r, m, n, d))) = absurd (d (h.2 q (named_within c t q m) m
        ∙ sym (h.2 r (named_within c t r n) n)))
    is_so_lost t (namer.One p) h (inr (inr (q, m, none))) = go (slice_get os p) refl
      where
        go : (o : Option Owner) → slice_get os p ≡ o → on_option true o (λ v. is_same v owner.Nobody) ≡ true
        go None s = refl
        go (Some v) s = none_here v p (are.1 p v s) (subst (λ y. (a : Area) → LiesIn c y a → ⊥)
            (h.2 q (named_within c t q m) m) none)
    is_so_lost t namer.Several h z = refl

    pub one_table : (t : ℕ) (tb : ForkTable) (w : Namer) (b : Bool) (o : Option ℕ) → slice_get c.forks t ≡ Some tb
        → NamedBy c (length c.instrs) t w → b ≡ is_lost os w
        → IsLeast (ChildFails (λ ch. b) tb.children 0) o → IsLeast (LostAt c t) o
    one_table t tb w b o e h s = least_of_same (ChildFails (λ ch. b) tb.children 0) (LostAt c t) o up down
      where
        up : (p : ℕ) → ChildFails (λ ch. b) tb.children 0 p → LostAt c t p
        up p (ch, f, at, z) = (ch, ap (λ (y : Option ForkTable). child_of y 0) e ∙ f, at, lost_is t w h (sym s ∙ z))

        down : (p : ℕ) → LostAt c t p → ChildFails (λ ch. b) tb.children 0 p
        down p (ch, f, at, z) = (
          ch,
          sym (ap (λ (y : Option ForkTable). child_of y 0) e) ∙ f,
          at,
          s
              ∙ is_so_lost t w h z,
        )

  -- all tables
  pub all_tables : (n : ℕ) (o : Option ℕ) → length c.forks ≡ n → IsLeast (Upto (LostAt c) n) o → IsLeast (Unnamed c) o
  all_tables n o e = all (LostAt c) (Unnamed c) n o
      (λ t p (ch, is_child, begins, lost). (t, ch, is_child, begins, lost)) down
    where
      down : (p : ℕ) → Unnamed c p → Upto (LostAt c) n p
      down p (t, ch, is, at, z) = record {
        item = t;
        below = (let l = table_of t 0 c.forks ch is in omega
            (arith, l, e));
        holds = (ch, is, at, z);
      }
