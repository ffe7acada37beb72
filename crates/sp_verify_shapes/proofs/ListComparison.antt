-- One list that was brought is compared: what is kept stays true.
use Rattle.std.proofs.Common.{◌≡◌, ◌⊎◌, ◌≢◌, inl, inr, ⊎_elim, refl, ap, sym, ◌∙◌, subst, ℕ, ◌+◌, ◌<◌, List}
use Rattle.std.proofs.Common.{[], ◌∷◌, ◌++◌, length, Some, None, true, arith}
use Rattle.std.specs.Prelude.{slice_get, slice_set, sum_by}
use Rattle.std.proofs.lemmas.List.{length-set, length_push}
use Rattle.std.proofs.lemmas.List.Sums.{sum_by-set}
use Rattle.std.proofs.lemmas.Option.{slice_get_within, get_or_from_slice_get, none-some, same_Some}
use Rattle.std.proofs.lemmas.Bool.{cases_eq}
use Rattle.sp_base.proofs.Facts.{get_beside_set, get_where_set, item_is_not_none}
use Rattle.sp_code.specs.declared.code.Parts.{Parts}
use Rattle.sp_verify_rules.specs.Rules.{ArrivesAt}
use Rattle.sp_verify_shapes.specs.declared.steps.Arrival.{Arrival}
use Rattle.sp_verify_shapes.specs.declared.search.Search.{Search}
use Rattle.sp_verify_shapes.specs.Stacks.{IsListNumber, list_of}
use Rattle.sp_verify_shapes.specs.Search.{IsOneOf, HasAt, IsMarked, BrokenBy, DiffersBy, SomeAreaBrings, IsSound}
use Rattle.sp_verify_shapes.specs.Search.{WhileComparing, KeepsV1}
use Rattle.sp_verify_shapes.specs.Search.{Places, Past, First, Again, Other, ComparesOne, free_count, room}
use Rattle.sp_verify_shapes.proofs.ListNumbers.{one_number}
use Rattle.sp_verify_shapes.proofs.Ways.{one_area, lies, within}
use Rattle.sp_verify_shapes.proofs.SearchLaws.{Moves, among_last, among_left, among_or, covers_stay}
use Rattle.sp_verify_shapes.proofs.SearchLaws.{closed_stays}

module _ (c : Parts) (n : ℕ) (s new : Search) (h : WhileComparing c n s) (moves : Moves s new) where
  compares_moved : ((p k : ℕ) → HasAt new p k → HasAt s p k ⊎ IsOneOf p new.frontier)
      → ((p : ℕ) → IsOneOf p s.frontier → IsOneOf p new.frontier)
      → IsSound c n n new → WhileComparing c n new
  compares_moved fresh front sound = record {
    sound = sound;
    closed = closed_stays s new h.sound.held moves h.sound.carried c h.closed fresh (λ p k o f. inr (inl (front p f)));
    covers = covers_stay s new h.sound.held moves h.sound.carried c n h.covers;
  }

module _ (c : Parts) (v1 : KeepsV1 c) (n : ℕ) (s : Search) (rest : List Arrival) (x : Arrival)
    (last : s.arrivals ≡ rest ++ x ∷ []) (h : WhileComparing c n s) where
  here : IsOneOf x s.arrivals
  here = subst (IsOneOf x) (sym last) (among_last x rest)

  more : (y : Arrival) → IsOneOf y rest → IsOneOf y s.arrivals
  more y a = subst (IsOneOf y) (sym last) (among_left y rest (x ∷ []) a)

  split : (y : Arrival) → IsOneOf y s.arrivals → IsOneOf y rest ⊎ (y ≡ x)
  split y a = among_or y x rest (subst (IsOneOf y) last a)

  inside : x.at < length s.at
  inside = let z = h.sound.arrive x here in subst (λ m. x.at < m) (sym h.sound.size)
      (within c v1 x.at z.0 (lies c z.0 n x.at (list_of s.stacks x.list) z.1))

  module _ (e : slice_get s.at x.at ≡ Some None) where
    filled : Search
    filled = record s { at = slice_set s.at x.at (Some x.list); frontier = s.frontier ++ x.at ∷ []; arrivals = rest }

    first_stays : (p k : ℕ) → HasAt s p k → slice_get (slice_set s.at x.at (Some x.list)) p ≡ Some (Some k)
    first_stays p k w = go (cases_eq x.at p)
      where
        go : (x.at ≡ p) ⊎ (x.at ≢ p) → slice_get (slice_set s.at x.at (Some x.list)) p ≡ Some (Some k)
        go (inl z) = absurd (none-some k (same_Some None (Some k) (sym e ∙ ap (slice_get s.at) z ∙ w)))
        go (inr d) = get_beside_set s.at x.at p (Some x.list) d ∙ w

    first_fresh : (p k : ℕ) → slice_get (slice_set s.at x.at (Some x.list)) p ≡ Some (Some k)
        → HasAt s p k ⊎ ((p ≡ x.at) × (k ≡ x.list))
    first_fresh p k w = go (cases_eq x.at p)
      where
        go : (x.at ≡ p) ⊎ (x.at ≢ p) → HasAt s p k ⊎ ((p ≡ x.at) × (k ≡ x.list))
        go (inl z) = inr (
          sym z,
          sym
              (same_Some x.list k (same_Some (Some x.list) (Some k)
              (sym (get_where_set s.at x.at (Some x.list) inside)
              ∙ ap (slice_get (slice_set s.at x.at (Some x.list))) z ∙ w))),
        )
        go (inr d) = inl (sym (get_beside_set s.at x.at p (Some x.list) d) ∙ w)

    first_moves : (new : Search) → new ≡ filled → Moves s new
    unfolding filled
    first_moves new q = subst (Moves s) (sym q) (record {
      extends = λ m w. (w, refl);
      stays = first_stays;
      more = λ p w. w;
      waits = λ y a w. ⊎_elim (λ z. inl z)
          (λ z. inr (
            x.list,
            subst
                (λ (u : Arrival). slice_get (slice_set s.at x.at (Some x.list)) u.at ≡ Some (Some x.list)) (sym z)
                (get_where_set s.at x.at (Some x.list) inside),
            inl (ap (λ (u : Arrival). list_of s.stacks u.list) (sym z)),
          ))
          (split y a);
    })

    first_sound : IsSound c n n filled
    unfolding filled
    first_sound = record {
      stacks = h.sound.stacks;
      size = length-set s.at x.at (Some x.list) ∙ h.sound.size;
      marks = h.sound.marks;
      held = λ p k w. ⊎_elim (λ o. h.sound.held p k o)
          (λ z. subst (IsListNumber s.stacks) (sym z.1) (h.sound.carried x here))
          (first_fresh p k w);
      come = λ p k w. ⊎_elim (λ o. h.sound.come p k o)
          (λ z. subst (λ m. SomeAreaBrings c n m (list_of s.stacks k)) (sym z.0)
          (subst (λ m. SomeAreaBrings c n x.at (list_of s.stacks m)) (sym z.1) (h.sound.arrive x here)))
          (first_fresh p k w);
      marked = h.sound.marked;
      carried = λ y a. h.sound.carried y (more y a);
      arrive = λ y a. h.sound.arrive y (more y a);
    }

    first_placed : WhileComparing c n filled
    unfolding filled
    first_placed =
        compares_moved c n s filled h (first_moves filled refl)
        (λ p k w. ⊎_elim (λ o. inl o)
        (λ z. inr (subst (λ m. IsOneOf m (s.frontier ++ x.at ∷ [])) (sym z.0) (among_last x.at s.frontier)))
        (first_fresh p k w))
        (λ p f. among_left p s.frontier (x.at ∷ []) f)
        first_sound

  same_sound : IsSound c n n (record s { arrivals = rest })
  same_sound = record {
    stacks = h.sound.stacks;
    size = h.sound.size;
    marks = h.sound.marks;
    held = h.sound.held;
    come =
        h.sound.come;
    marked = h.sound.marked;
    carried = λ y a. h.sound.carried y (more y a);
    arrive =
        λ y a. h.sound.arrive y (more y a);
  }

  again_placed : HasAt s x.at x.list → WhileComparing c n (record s { arrivals = rest })
  again_placed w =
      compares_moved c n s (record s { arrivals = rest }) h
      (record {
        extends = λ m w. (w, refl);
        stays = λ p k w. w;
        more = λ p w. w;
        waits = λ y a u. ⊎_elim (λ z. inl z)
            (λ z. inr (
              x.list,
              subst (λ (u : Arrival). HasAt s u.at x.list) (sym z) w,
              inl
                  (ap (λ (u : Arrival). list_of s.stacks u.list) (sym z)),
            )) (split y a);
      })
      (λ p k w. inl w) (λ p f. f) same_sound

  module _ (k : ℕ) (has : HasAt s x.at k) (apart : k ≢ x.list) where
    short : x.at < length s.broken
    short = let l = inside in let a = h.sound.size in let b = h.sound.marks in omega (arith, l, a, b)

    marked_stays : (p : ℕ) → IsMarked s p → slice_get (slice_set s.broken x.at true) p ≡ Some true
    marked_stays p m = ⊎_elim
        (λ (z : x.at ≡ p). ap (slice_get (slice_set s.broken x.at true)) (sym z)
        ∙ get_where_set s.broken x.at true short)
        (λ (d : x.at ≢ p). get_beside_set s.broken x.at p true d ∙ m) (cases_eq x.at p)

    differs : BrokenBy c n x.at
    differs =
        let z = h.sound.come x.at k has in
        let y = h.sound.arrive x here in
        let t : y.0 ≡ z.0 = one_area c v1 x.at y.0 z.0 (lies c y.0 n x.at (list_of s.stacks x.list) y.1)
        (lies c z.0 n x.at (list_of s.stacks k) z.1) in
        DiffersBy z.0 (list_of s.stacks k) (list_of s.stacks x.list) z.1
        (subst (λ b. ArrivesAt c b n x.at (list_of s.stacks x.list)) t y.1)
        (λ e. apart (one_number s.stacks h.sound.stacks k x.list (h.sound.held x.at k has) (h.sound.carried x here) e))

    marked_new : (p : ℕ) → slice_get (slice_set s.broken x.at true) p ≡ Some true → BrokenBy c n p
    marked_new p m = ⊎_elim (λ (z : x.at ≡ p). subst (BrokenBy c n) z differs)
        (λ (d : x.at ≢ p). h.sound.marked p (sym (get_beside_set s.broken x.at p true d) ∙ m)) (cases_eq x.at p)

    other_placed : WhileComparing c n (record s { broken = slice_set s.broken x.at true; arrivals = rest })
    other_placed =
        compares_moved c n s (record s { broken = slice_set s.broken x.at true; arrivals = rest }) h
        (record {
          extends = λ m w. (w, refl);
          stays = λ p k w. w;
          more = marked_stays;
          waits = λ y a u. ⊎_elim (λ z. inl z)
              (λ z. inr (
                k,
                subst (λ (u : Arrival). HasAt s u.at k) (sym z) has,
                inr
                    (subst (λ (u : Arrival). slice_get (slice_set s.broken x.at true) u.at ≡ Some true) (sym z)
                    (get_where_set s.broken x.at true short)),
              )) (split y a);
        })
        (λ p k w. inl w) (λ p f. f)
        (record {
          stacks = h.sound.stacks;
          size = h.sound.size;
          marks = length-set s.broken x.at true ∙ h.sound.marks;
          held = h.sound.held;
          come = h.sound.come;
          marked = marked_new;
          carried = λ y a. h.sound.carried y (more y a);
          arrive = λ y a. h.sound.arrive y (more y a);
        })

  pub placed : (new : Search) → Places (record s { arrivals = rest }) new x → WhileComparing c n new
  unfolding filled
  placed new (Past e q) = absurd (item_is_not_none s.at x.at inside e)
  placed new (First e q) = subst (WhileComparing c n) (sym q) (first_placed e)
  placed new (Again w q) = subst (WhileComparing c n) (sym q) (again_placed w)
  placed new (Other k w d q) = subst (WhileComparing c n) (sym q) (other_placed k w d)

-- ---- one after the other

rest_of : (s new : Search) (rest : List Arrival) (x : Arrival) → Places (record s { arrivals = rest }) new x
    → new.arrivals ≡ rest
rest_of s new rest x (Past e q) = ap (λ (z : Search). z.arrivals) q
rest_of s new rest x (First e q) = ap (λ (z : Search). z.arrivals) q
rest_of s new rest x (Again w q) = ap (λ (z : Search). z.arrivals) q
rest_of s new rest x (Other k w d q) = ap (λ (z : Search). z.arrivals) q

abbrev room_in : Search → ℕ
room_in s = room s + length s.frontier

room_of : (s new : Search) (rest : List Arrival) (x : Arrival) → Places (record s { arrivals = rest }) new x
    → room_in new ≡ room_in s
room_of s new rest x (Past e q) = ap room_in q
room_of s new rest x (First e q) = ap room_in q ∙ same
  where
    same : sum_by free_count (slice_set s.at x.at (Some x.list)) + length (s.frontier ++ x.at ∷ [])
        ≡ sum_by free_count s.at + length s.frontier
    same =
        let a = sum_by-set free_count s.at x.at (Some x.list) None (slice_get_within s.at x.at None e) in
        let b = ap free_count (get_or_from_slice_get s.at x.at None None e) in
        let d = length_push s.frontier x.at in
        omega (arith, a, b, d)
room_of s new rest x (Again w q) = ap room_in q
room_of s new rest x (Other k w d q) = ap room_in q

pub compared : (s new : Search) (rest : List Arrival) (x : Arrival) → s.arrivals ≡ rest ++ x ∷ []
    → Places (record s { arrivals = rest }) new x → ComparesOne s new
compared s new rest x last pl = record {
  keeps = λ c v1 w. (w.0, placed c v1 w.0 s rest x last w.1 new pl);
  less = (let a = ap length last in let b = length_push rest x in let d = ap length (rest_of s new rest x pl) in
      omega (arith, a, b, d));
  room = room_of s new rest x pl;
}
