-- Where numbers fall along each way that passes no tick and no call, none leads back; and a search that is done has
-- come to all that a way leads to.
use Rattle.std.proofs.Common.{◌≡◌, ◌⊎◌, inl, inr, ⊎_elim, refl, ap, sym, ◌∙◌, subst, ℕ, zero, suc, ◌+◌, ◌<◌, ◌≤◌, List}
use Rattle.std.proofs.Common.{[], ◌∷◌, length, Option, Some, None, Bool, true, false, arith}
use Rattle.std.specs.Prelude.{slice_get, slice_set, not, get_or, IsTrue, ◌↔◌}
use Rattle.std.proofs.lemmas.List.{length-set}
use Rattle.std.proofs.lemmas.List.Sums.{sum_by-set}
use Rattle.std.proofs.lemmas.Option.{slice_get_within, slice_get-get_or, get_or_from_slice_get, none-some}
use Rattle.sp_base.proofs.Facts.{less_same_or_more, not_true_and_false}
use Rattle.sp_code.specs.declared.instr.Instr.{Instr}
use Rattle.sp_code.specs.declared.code.Parts.{Parts}
use Rattle.sp_verify_areas.specs.declared.owners.Owner.{Owner}
use Rattle.sp_verify_areas.specs.declared.owners.Owner.TheVariants as owner
use Rattle.sp_verify_rules.specs.Areas.{Area, on_option, instr_at}
use Rattle.sp_verify_rules.specs.Reach.{IsMember}
use Rattle.sp_verify_rules.specs.NameRules.{LiesIn}
use Rattle.sp_verify_rules.specs.Rules.{free_nexts, IsFreePath, BreaksV9, ComesBack}
use Rattle.sp_verify_rules.proofs.RankLaws.{free_in}
use Rattle.sp_verify_areas.specs.Alone.{flag_at}
use Rattle.sp_verify_areas.specs.Owners.{Owns, AreOwners, is_same, list_of_ways}
use Rattle.sp_verify_areas.specs.Rounds.{AreFlagsReached, FallsFrom, HasFreePath, HasGoneOn, IsAt, RiseNowhere, Widens}
use Rattle.sp_verify_areas.specs.Rounds.{gap, gaps, has_owner, number_at, with_flag}
use Rattle.sp_verify_areas.proofs.OwnerSteps.{way_first, way_second}
use Rattle.sp_verify_areas.proofs.OwnerLaws.{along}

-- ---- owners

module _ (c : Parts) (os : List Owner) (are : AreOwners c os) (p : ℕ) where
  pub lies_there : has_owner os p ≡ true → (a : Area) × LiesIn c p a
  lies_there e = go (slice_get os p) refl e
    where
      by : (o : Owner) → Owns c p o → on_option false (Some o) (λ w. not (is_same w owner.Nobody)) ≡ true
          → (a : Area) × LiesIn c p a
      by owner.Nobody h e = absurd (cc e)
      by (owner.Block b) h e = (h.area, h.lies)
      by (owner.Child q k) h e = (h.area, h.lies)
      by owner.Several h e = (h.first, h.lies)

      go : (w : Option Owner) → slice_get os p ≡ w → on_option false w (λ o. not (is_same o owner.Nobody)) ≡ true
          → (a : Area) × LiesIn c p a
      go None s e = absurd (cc e)
      go (Some o) s e = by o (are.1 p o s) e

  pub has_there : (a : Area) → LiesIn c p a → p < length c.instrs → has_owner os p ≡ true
  has_there a l h = go (slice_get os p) refl
    where
      there : length os ≡ length c.instrs → p < length os
      there m = omega (arith, m, h)

      by : (o : Owner) → Owns c p o → on_option false (Some o) (λ w. not (is_same w owner.Nobody)) ≡ true
      by owner.Nobody n = absurd (n a l)
      by (owner.Block b) n = refl
      by (owner.Child q k) n = refl
      by owner.Several n = refl

      go : (w : Option Owner) → slice_get os p ≡ w → has_owner os p ≡ true
      go None s = absurd (none-some (get_or os p owner.Nobody) (sym s
          ∙ slice_get-get_or os p owner.Nobody (there are.0)))
      go (Some o) s = ap (λ w. on_option false w (λ o. not (is_same o owner.Nobody))) s ∙ by o (are.1 p o s)

-- ---- ways

module _ (c : Parts) where
  -- what leads on is there
  pub leads_within : (p q : ℕ) → IsMember q (free_nexts p (instr_at c p)) → p < length c.instrs
  leads_within p q h = go (instr_at c p) refl h
    where
      go : (o : Option Instr) → instr_at c p ≡ o → IsMember q (free_nexts p o) → p < length c.instrs
      go None e h = absurd h
      go (Some x) e h = slice_get_within c.instrs p x e

  pub back_within : (n p q : ℕ) → IsFreePath c (suc n) p q → p < length c.instrs
  back_within n p q w = leads_within p w.0 w.1

  free_path_more : (n p q r : ℕ) → IsFreePath c n p q → IsMember r (free_nexts q (instr_at c q))
      → IsFreePath c (suc n) p r
  free_path_more zero p q r w m = (r, subst (λ z. IsMember r (free_nexts z (instr_at c z))) (sym w) m, refl)
  free_path_more (suc n) p q r w m = (w.0, w.1, free_path_more n w.0 q r w.2 m)

  free_path_on : (s p q : ℕ) → HasFreePath c s p → IsMember q (free_nexts p (instr_at c p)) → HasFreePath c s q
  free_path_on s p q h m = (suc h.0, free_path_more (suc h.0) s p q h.1 m)

  -- ---- numbers

  module _ (ns : List ℕ) (stay : RiseNowhere c ns) where
    stays : (n p q : ℕ) (a : Area) → LiesIn c p a → IsFreePath c n p q → number_at ns q ≤ number_at ns p
    stays zero p q a l w = let e = ap (number_at ns) w in omega (arith, e)
    stays (suc n) p q a l w =
        let on = stays n w.0 q a (along c p w.0 a l (free_in p w.0 (instr_at c p) w.1)) w.2 in
        let f = (stay p a l w.0 w.1).0 in
        omega (arith, on, f)

    -- an instruction from which they fall is on no way back
    pub no_round : (p : ℕ) → FallsFrom c ns (p + 1) p → BreaksV9 c p → ⊥
    no_round p falls (ComesBack a n l w) =
        let on = stays n w.0 p a (along c p w.0 a l (free_in p w.0 (instr_at c p) w.1)) w.2 in
        let f = (falls w.0 w.1).1 (omega arith) in
        omega (arith, on, f)

-- ---- flags

flag_old : (fs : List Bool) (q r : ℕ) → flag_at (slice_set fs q true) r ≡ true → (r ≡ q) ⊎ (flag_at fs r ≡ true)
flag_old [] q r e = inr e
flag_old (f ∷ fs) zero zero e = inl refl
flag_old (f ∷ fs) zero (suc r) e = inr e
flag_old (f ∷ fs) (suc q) zero e = inr e
flag_old (f ∷ fs) (suc q) (suc r) e = ⊎_elim (λ s. inl (ap suc s)) (λ h. inr h) (flag_old fs q r e)

-- one more flag
set_sum : (fs : List Bool) (q : ℕ) (f : Bool) → slice_get fs q ≡ Some f → gaps (slice_set fs q true) + gap f ≡ gaps fs
set_sum fs q f e =
    let s = sum_by-set gap fs q true f (slice_get_within fs q f e) in
    let g = ap gap (get_or_from_slice_get fs q f f e) in
    omega (arith, s, g)

-- where there is no place for a flag, or there is one, it changes nothing
pub set_past : (fs : List Bool) (q : ℕ) → length fs ≤ q → fs ≡ slice_set fs q true
set_past [] q h = refl
set_past (f ∷ fs) zero h = absurd (omega (arith, h))
set_past (f ∷ fs) (suc q) h = ap (λ gs. f ∷ gs) (set_past fs q (omega (arith, h)))

pub set_old : (fs : List Bool) (q : ℕ) → flag_at fs q ≡ true → fs ≡ slice_set fs q true
set_old [] q e = refl
set_old (f ∷ fs) zero e = ap (λ g. g ∷ fs) e
set_old (f ∷ fs) (suc q) e = ap (λ gs. f ∷ gs) (set_old fs q e)

fewer_set : (fs : List Bool) (q : ℕ) → gaps (slice_set fs q true) ≤ gaps fs
fewer_set fs q = go (slice_get fs q) refl
  where
    past : slice_get fs q ≡ None → length fs ≤ q
    past e = ⊎_elim
        (λ (l : q < length fs). absurd (none-some (get_or fs q true) (sym e ∙ slice_get-get_or fs q true l)))
        (λ z. ⊎_elim (λ (m : q ≡ length fs). omega (arith, m)) (λ (m : length fs < q). omega (arith, m)) z)
        (less_same_or_more q (length fs))

    go : (o : Option Bool) → slice_get fs q ≡ o → gaps (slice_set fs q true) ≤ gaps fs
    go None e = let s = ap gaps (set_past fs q (past e)) in omega (arith, s)
    go (Some f) e = let s = set_sum fs q f e in omega (arith, s)

less_set : (fs : List Bool) (q : ℕ) → q < length fs → flag_at fs q ≡ false → gaps (slice_set fs q true) < gaps fs
less_set fs q h e =
    let g = slice_get-get_or fs q true h in
    let z : gap (get_or fs q true) ≡ 1 = ap gap (sym (ap (λ (o : Option Bool). on_option false o (λ b. b)) g) ∙ e) in
    let s = set_sum fs q (get_or fs q true) g in
    omega (arith, s, z)

-- ---- the search

module _ (c : Parts) (s : ℕ) where
  pub widens_none : (fs : List Bool) → AreFlagsReached c s fs → Widens c s fs fs
  widens_none fs led = record { led = led; fewer = omega arith }

  pub widens_then : (f g h : List Bool) → Widens c s f g → Widens c s g h → Widens c s f h
  widens_then f g h x y = record { led = y.led; fewer = let a = x.fewer in let b = y.fewer in omega (arith, a, b) }

  led_set : (fs : List Bool) (q : ℕ) → AreFlagsReached c s fs → HasFreePath c s q
      → AreFlagsReached c s (slice_set fs q true)
  led_set fs q led w = record {
    size = length-set fs q true ∙ led.size;
    each = λ r e. ⊎_elim (λ h. subst (HasFreePath c s) (sym h) w) (λ h. led.each r h) (flag_old fs q r e);
  }

  pub widens_flag : (fs : List Bool) (to : Option ℕ) → AreFlagsReached c s fs
      → ((q : ℕ) → to ≡ Some q → HasFreePath c s q)
      → Widens c s fs (with_flag fs to)
  widens_flag fs None led w = widens_none fs led
  widens_flag fs (Some q) led w = record { led = led_set fs q led (w q refl); fewer = fewer_set fs q }

  -- the ways of an instruction that has a flag
  pub widens_ways : (fs : List Bool) (p : ℕ) (f t : Option ℕ) → AreFlagsReached c s fs → flag_at fs p ≡ true
      → list_of_ways f t ≡ free_nexts p (instr_at c p) → Widens c s fs (with_flag (with_flag fs f) t)
  widens_ways fs p f t led e ways =
      let here = led.each p e in
      let x = widens_flag fs f led (λ q h. free_path_on c s p q here (first f t q h ways)) in
      widens_then fs (with_flag fs f) (with_flag (with_flag fs f) t) x
      (widens_flag (with_flag fs f) t x.led (λ q h. free_path_on c s p q here (second f t q h ways)))
    where
      first : (f t : Option ℕ) (q : ℕ) → f ≡ Some q → list_of_ways f t ≡ free_nexts p (instr_at c p)
          → IsMember q (free_nexts p (instr_at c p))
      first f t q h ways = way_first q t (free_nexts p (instr_at c p)) (ap (λ (z : Option ℕ). list_of_ways z t) (sym h)
          ∙ ways)

      second : (f t : Option ℕ) (q : ℕ) → t ≡ Some q → list_of_ways f t ≡ free_nexts p (instr_at c p)
          → IsMember q (free_nexts p (instr_at c p))
      second f t q h ways = way_second q f (free_nexts p (instr_at c p)) (ap (λ (z : Option ℕ). list_of_ways f z)
          (sym h) ∙ ways)

  -- a new flag, and then a search
  pub less_flag : (fs gs : List Bool) (q : ℕ) → q < length fs → flag_at fs q ≡ false
      → Widens c s (slice_set fs q true) gs → AreFlagsReached c s gs × (gaps gs < gaps fs)
  less_flag fs gs q h e w = (w.led, let a = w.fewer in let b = less_set fs q h e in omega (arith, a, b))

  pub led_flag : (fs : List Bool) (q : ℕ) → AreFlagsReached c s fs → HasFreePath c s q
      → AreFlagsReached c s (with_flag fs (Some q))
  led_flag fs q led w = led_set fs q led w

  -- where the search is, it may go on
  pub free_path_from : (fs : List Bool) (p q : ℕ) → AreFlagsReached c s fs → IsAt s fs p
      → IsMember q (free_nexts p (instr_at c p)) → HasFreePath c s q
  free_path_from fs p q led (inl e) m = (0, (q, subst (λ z. IsMember q (free_nexts z (instr_at c z))) e m, refl))
  free_path_from fs p q led (inr e) m = free_path_on c s p q (led.each p e) m

  -- where it is done, it came to all
  all_flagged : (fs : List Bool) → length fs ≡ length c.instrs → HasGoneOn c s fs → (n p q : ℕ) → IsAt s fs p
      → IsFreePath c (suc n) p q → q < length c.instrs → flag_at fs q ≡ true
  all_flagged fs size done zero p q at w l =
      let e : w.0 ≡ q = w.2 in
      subst (λ z. flag_at fs z ≡ true) e (done p at w.0 w.1 (omega (arith, e, l, size)))
  all_flagged fs size done (suc n) p q at (next, leads, rest) l =
      let (third, leads_on, _) = rest in
      let h = leads_within c next third leads_on in
      all_flagged fs size done n next q (inr (done p at next leads (omega (arith, h, size)))) rest l

  pub flagged : (fs : List Bool) → AreFlagsReached c s fs → HasGoneOn c s fs → HasFreePath c s s → flag_at fs s ≡ true
  flagged fs led done (n, path) =
      let (next, leads, _) = path in
      all_flagged fs led.size done n s s (inl refl) path (leads_within c s next leads)

-- V9 is broken where a search from an instruction of an area comes back
pub breaks_if : (c : Parts) (p : ℕ) (a : Area) → LiesIn c p a → HasFreePath c p p → BreaksV9 c p
breaks_if c p a l w = ComesBack a w.0 l w.1

pub free_path_back : (c : Parts) (p : ℕ) → BreaksV9 c p → HasFreePath c p p
free_path_back c p (ComesBack a n l w) = (n, w)

pub lies_back : (c : Parts) (p : ℕ) → BreaksV9 c p → (p < length c.instrs) × ((a : Area) × LiesIn c p a)
lies_back c p (ComesBack a n l w) = (back_within c n p p w, (a, l))

module _ (c : Parts) (os : List Owner) (are : AreOwners c os) (p : ℕ) where
  pub not_broken : has_owner os p ≡ false → BreaksV9 c p → ⊥
  not_broken e b = let (low, (a, lies)) = lies_back c p b in
      not_true_and_false (has_owner os p) (has_there c os are p a lies low) e

  -- V9 is broken there as the search says
  pub broken_is : (fs : List Bool) (b : Bool) → has_owner os p ≡ true → AreFlagsReached c p fs → HasGoneOn c p fs
      → b ≡ flag_at fs p → IsTrue b ↔ BreaksV9 c p
  broken_is fs true e led done s = (
    λ t. let l = lies_there c os are p e in breaks_if c p l.0 l.1 (led.each p (sym s)),
    λ x. refl,
  )
  broken_is fs false e led done s = (
    λ t. absurd (cc t),
    λ x. absurd (not_true_and_false (flag_at fs p) (flagged c p fs led done (free_path_back c p x)) (sym s)),
  )
