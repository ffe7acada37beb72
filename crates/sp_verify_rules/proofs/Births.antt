-- A child begins with what it is handed: that and its index stand at spots that it holds, no two at one.
use Rattle.std.proofs.Common.{◌≡◌, ◌≢◌, ◌⊎◌, inl, inr, ⊎_elim, ℕ, zero, suc, ◌≤◌, ◌<◌, ℤ, pos, List, [], ◌∷◌, length}
use Rattle.std.proofs.Common.{Some, None, refl, sym, ap, ◌∙◌, subst, arith, if◌then◌else◌}
use Rattle.std.specs.Prelude.{◌+ℤ◌}
use Rattle.std.specs.FinMap as map
use Rattle.std.proofs.lemmas.Option.{same_Some}
use Rattle.sp_base.proofs.Facts.{below_two_or_not}
use Rattle.sp_tree.specs.Interference.{IsMember, AllDifferent}
use Rattle.sp_tree.proofs.Members.{member_front, member_back, member_either}
use Rattle.sp_cell.specs.declared.cell.Cell.{Cell}
use Rattle.sp_cell.specs.declared.cell.Cell.TheVariants as cell
use Rattle.sp_cell.specs.declared.spot.Spot.{Spot}
use Rattle.sp_cell.specs.declared.spot.Handing.{Handing}
use Rattle.sp_cell.specs.Fork.{with_shared, with_index, index_frame, child_map}
use Rattle.sp_cell.specs.Frame.{least_above, frames}
use Rattle.sp_cell.proofs.FrameLaws.{is_same, is_other}
use Rattle.sp_cell.proofs.Laws.{get_here, known_of_held}
use Rattle.sp_cell.specs.Map.{Map, Own, IsOutput, output_spot}
use Rattle.sp_cell.proofs.Partition.{below_above, child_moved, child_shared}
use Rattle.sp_cell.proofs.Plan.{get_taken_out}
use Rattle.sp_cell.specs.Spots.{In, NotIn}
use Rattle.sp_code.specs.declared.code.ChildTable.{ChildTable}
use Rattle.sp_code.specs.declared.code.Layout.{Layout}
use Rattle.sp_code.specs.Memory.{Home, OfIndex, Frame, last_frames, position_in}
use Rattle.sp_code.specs.PlainStore.{piece_of}
use Rattle.sp_code.specs.System.{spot_of, handing_of, index_by, or_outward}
use Rattle.sp_verify_rules.specs.Chains.{Chain, all_variables, spot_by_homes, extent_by_homes}
use Rattle.sp_verify_rules.specs.Extents.{extent, size_in, size_at, or_further}
use Rattle.sp_verify_rules.specs.Forks.{handed_to}
use Rattle.sp_verify_rules.specs.HeldEffects.{HoldsVariable, Allowed, input_spot}
use Rattle.sp_verify_rules.proofs.Lists.{different_apart}
use Rattle.sp_verify_rules.proofs.Chains.{last_up, spot_is, size_is}
use Rattle.sp_verify_rules.proofs.ForkSteps.{cells_of_position}
use Rattle.sp_code.proofs.Plans.{spots_from, in_spots, out_of}
use Rattle.sp_code.proofs.StoreLaws.{piece_cells}

pub above_bound : (ss : List Spot) (n : ℕ) → ((q : Spot) → In q ss → q.frame < n) → least_above (frames ss) ≤ n
above_bound [] n h = omega arith
above_bound (s ∷ ss) n h = omega (arith, h s (inl refl), above_bound ss n (λ q i. h q (inr i)))

-- what a child may touch: what it is handed, and its index
abbrev pub IsRight : ChildTable → ℕ → Type 0
IsRight t x = IsMember x (handed_to t) ⊎ (t.index ≡ Some x)

module _ (ls : List Layout) (ha : List Home) (fs : List Frame) (chain : Chain ha fs) (K : Type 0) (E : ℕ
    → Type 0) (N : ℕ) (m : Map) (a : Allowed ls K E N fs m)
    (t : ChildTable) (value : ℤ) (k : ℕ)
    (effect : (x : ℕ) → IsMember x (handed_to t)
    → E x) (once : AllDifferent (handed_to t)) (no_output : IsMember 1 t.shared → ⊥)
    (around : (x : ℕ) → IsMember x (handed_to t) → 2 ≤ x → IsMember x (all_variables ls ha)) where
  abbrev h : Handing
  h = handing_of ls fs value k t

  abbrev child : Map
  child = child_map m h

  moved_at : (x : ℕ) (q : Spot) → IsMember x t.moved → spot_of ls fs x ≡ Some q → In q h.moved
  moved_at x q i e = in_spots ls fs t.moved x q i e

  shared_at : (x : ℕ) (q : Spot) → IsMember x t.shared → spot_of ls fs x ≡ Some q → In q h.shared
  shared_at x q i e = in_spots ls fs t.shared x q i e

  not_moved : (x : ℕ) (q : Spot) → IsMember x t.shared → spot_of ls fs x ≡ Some q → NotIn q h.moved
  not_moved x q i e = out_of q h.moved (λ j.
      (let v = spots_from ls fs t.moved q j in
      let same : v.0 ≡ x = a.apart v.0 x q (effect v.0 (member_front v.0 t.moved t.shared v.1))
      (effect x (member_back x t.moved t.shared i)) v.2 e in
      different_apart x t.moved t.shared once (subst (λ z. IsMember z t.moved) same v.1) i))

  -- each handed spot is below the frame of the index
  handed_below : (x : ℕ) (q : Spot) → IsMember x (handed_to t) → spot_of ls fs x ≡ Some q → q.frame < index_frame h
  handed_below x q i e = ⊎_elim
      (λ j. (let b = below_above h.moved q (moved_at x q j e) in omega (arith, b)))
      (λ j. (let b = below_above h.shared q (shared_at x q j e) in omega (arith, b)))
      (member_either x t.moved t.shared i)

  there : (x : ℕ) (q : Spot) → E x → spot_of ls fs x ≡ Some q → (q.frame < N) × HoldsVariable ls fs m x q
  there x q e at = let (_, stands, low, holds) = a.held x e in subst (λ (s : Spot). (s.frame < N)
      × HoldsVariable ls fs m x s) (same_Some _ _ (sym stands ∙ at)) (low, holds)

  index_bound : index_frame h ≤ N
  index_bound =
      let up = above_bound h.moved N (λ q i.
      (let v = spots_from ls fs t.moved q i in
      (there v.0 q (effect v.0 (member_front v.0 t.moved t.shared v.1)) v.2).0)) in
      let ups = above_bound h.shared N
      (λ q i. (let v = spots_from ls fs t.shared q i in
      (there v.0 q (effect v.0 (member_back v.0 t.moved t.shared v.1)) v.2).0)) in
      omega (arith, up, ups)

  -- what is there for the child: the same output, or a piece of the same cells
  same_cells : (x : ℕ) (q : Spot) (cs : List Cell) → IsMember x (handed_to t) → spot_of ls fs x ≡ Some q
      → piece_of (map.get m q) ≡ Some cs → piece_of (map.get child q) ≡ Some cs
  same_cells x q cs i e p = ⊎_elim
      (λ j. ap piece_of (child_moved m h q (moved_at x q j e)
      (known_of_held (map.get m q) (Rattle.sp_code.proofs.StoreLaws.held_of_cells (map.get m q) cs p))) ∙ p)
      (λ j. ap piece_of (child_shared m h q (shared_at x q j e) (not_moved x q j e))
      ∙ ap Some (piece_cells (map.get m q) cs p))
      (member_either x t.moved t.shared i)

  module _ (gs : List Frame)
      (stays : (x : ℕ) → IsMember x (handed_to t) → spot_of ls gs x ≡ spot_of ls fs x)
      (extends_on : (x : ℕ) → IsMember x (handed_to t) → 2 ≤ x → extent ls gs x ≡ extent ls fs x)
      (sized : (q : Spot) → q.frame < index_frame h → size_in ls gs q ≡ size_in ls fs q) where
    has_handed : (x : ℕ) (q : Spot) → IsMember x (handed_to t) → spot_of ls fs x ≡ Some q → HoldsVariable ls fs m x q
        → HoldsVariable ls gs child x q
    has_handed zero q i e w = let c = cells_of_position (map.get m q) w.0 w.1 in
        (w.0, ap position_in (same_cells 0 q c.0 i e c.1 ∙ sym c.1) ∙ w.1)
    has_handed (suc zero) q i e w = ⊎_elim
        (λ j. subst IsOutput (sym (child_moved m h q (moved_at 1 q j e)
        (known_of_held (map.get m q) (Rattle.sp_verify_rules.proofs.ForkSteps.held_of_output (map.get m q) w)))) w)
        (λ j. absurd (no_output j))
        (member_either 1 t.moved t.shared i)
    has_handed (suc (suc x)) q i e (cs, piece_is, extent_is, size_is) = (
      cs,
      same_cells (suc (suc x)) q cs i e piece_is,
      extends_on (suc (suc x)) i (omega arith)
          ∙ extent_is,
      sized q (handed_below (suc (suc x)) q i e) ∙ size_is,
    )

    held_handed : (x : ℕ) → IsMember x (handed_to t) → (s : Spot) × (spot_of ls gs x ≡ Some s) × (s.frame < suc N)
        × HoldsVariable ls gs child x s
    held_handed x i = let (s, stands, low, holds) = a.held x (effect x i) in (
      s,
      stays x i
          ∙ stands,
      omega (arith, low),
      has_handed x s i stands holds,
    )

    apart_handed : (x y : ℕ) (s : Spot) → IsMember x (handed_to t) → IsMember y (handed_to t) → spot_of ls gs x ≡ Some s
        → spot_of ls gs y ≡ Some s → x ≡ y
    apart_handed x y s i j d e = a.apart x y s (effect x i) (effect y j) (sym (stays x i) ∙ d) (sym (stays y j) ∙ e)

    clear_handed : IsMember 0 (handed_to t) ⊎ IsMember 1 (handed_to t) → (x : ℕ) (s : Spot) → 2 ≤ x
        → IsMember x (handed_to t) → spot_of ls gs x ≡ Some s → (s ≢ input_spot) × (s ≢ output_spot)
    clear_handed c x s r i e = a.clear (a.console (⊎_elim (λ d. inl (effect 0 d)) (λ d. inr (effect 1 d)) c)) x s r
        (effect x i) (sym (stays x i) ∙ e)

  abbrev Rights : ℕ → Type 0
  Rights x = IsRight t x

  -- a child without an index
  module _ (none : t.index ≡ None) where
    only : (x : ℕ) → Rights x → IsMember x (handed_to t)
    only x (inl i) = i
    only x (inr e) = absurd (cc (sym none ∙ e))

    pub born : Allowed ls (Rights 0 ⊎ Rights 1) Rights (suc N) fs child
    born = record {
      held = λ x r. held_handed fs (λ y i. refl) (λ y i l. refl) (λ q l. refl) x (only x r);
      apart = λ x y s r u d e. apart_handed fs (λ y i. refl) (λ y i l. refl) (λ q l. refl) x y s (only x r)
          (only y u) d e;
      console = λ c. c;
      clear = λ c x s l r e. clear_handed fs (λ y i. refl) (λ y i l. refl) (λ q l. refl)
          (⊎_elim (λ d. inl (only 0 d)) (λ d. inr (only 1 d)) c) x s l (only x r) e;
    }

  -- a child of a forall
  module _ (y : ℕ) (is : t.index ≡ Some y) (owner : ℕ) (real : 2 ≤ y) (new : IsMember y (all_variables ls ha) → ⊥) where
    abbrev pub f : Frame
    f = record { owner = owner; number = index_frame h; home = OfIndex y; link = length fs; references = [] }

    pub chain_new : Chain (OfIndex y ∷ ha) (f ∷ fs)
    chain_new = (refl, omega arith, subst (Chain ha) (sym (last_up 0 fs)) chain)

    not_index : (x : ℕ) → IsMember x (handed_to t) → 2 ≤ x → x ≢ y
    not_index x i r e = new (subst (λ z. IsMember z (all_variables ls ha)) e (around x i r))

    small : (x : ℕ) → x < 2 → (gs us : List Frame) → spot_of ls gs x ≡ spot_of ls us x
    small zero lt gs us = refl
    small (suc zero) lt gs us = refl
    small (suc (suc x)) lt gs us = absurd (omega (arith, lt))

    pub outer_stands : (x : ℕ) → IsMember x (handed_to t) → 2 ≤ x → spot_of ls (f ∷ fs) x ≡ spot_of ls fs x
    outer_stands x i r =
        spot_is ls (OfIndex y ∷ ha) (f ∷ fs) x r chain_new
        ∙ ap (λ b. or_outward (if b then Some (record { frame = index_frame h; variable = 0 }) else None)
        (spot_by_homes ls ha (last_frames (length fs) fs) x)) (is_other x y (not_index x i r))
        ∙ ap (λ gs. spot_by_homes ls ha gs x) (last_up 0 fs)
        ∙ sym (spot_is ls ha fs x r chain)

    pub outer_extent : (x : ℕ) → IsMember x (handed_to t) → 2 ≤ x → extent ls (f ∷ fs) x ≡ extent ls fs x
    outer_extent x i r =
        size_is ls (OfIndex y ∷ ha) (f ∷ fs) x r chain_new
        ∙ ap (λ b. or_further (if b then Some 1 else None) (extent_by_homes ls ha (last_frames (length fs) fs) x))
        (is_other x y (not_index x i r))
        ∙ ap (λ gs. extent_by_homes ls ha gs x) (last_up 0 fs)
        ∙ sym (size_is ls ha fs x r chain)

    pub stays : (x : ℕ) → IsMember x (handed_to t) → spot_of ls (f ∷ fs) x ≡ spot_of ls fs x
    stays x i = ⊎_elim (λ (lt : x < 2). small x lt (f ∷ fs) fs) (λ (r : 2 ≤ x). outer_stands x i r) (below_two_or_not x)

    sized : (q : Spot) → q.frame < index_frame h → size_in ls (f ∷ fs) q ≡ size_in ls fs q
    sized q lt = ap (λ b. if b then size_at ls (OfIndex y) q.variable else size_in ls fs q)
        (is_other (index_frame h) q.frame (λ e. absurd (omega (arith, lt, e))))

    abbrev index_spot : Spot
    index_spot = record { frame = index_frame h; variable = 0 }

    index_stands : spot_of ls (f ∷ fs) y ≡ Some index_spot
    index_stands =
        spot_is ls (OfIndex y ∷ ha) (f ∷ fs) y real chain_new
        ∙ ap (λ b. or_outward (if b then Some index_spot else None)
        (spot_by_homes ls ha (last_frames (length fs) fs) y))
        (is_same y y refl)

    index_extent : extent ls (f ∷ fs) y ≡ Some 1
    index_extent =
        size_is ls (OfIndex y ∷ ha) (f ∷ fs) y real chain_new
        ∙ ap (λ b. or_further (if b then Some 1 else None) (extent_by_homes ls ha (last_frames (length fs) fs) y))
        (is_same y y refl)

    index_size : size_in ls (f ∷ fs) index_spot ≡ Some 1
    index_size = ap (λ b. if b then size_at ls (OfIndex y) 0 else size_in ls fs index_spot)
        (is_same (index_frame h) (index_frame h) refl)

    index_out : NotIn index_spot h.moved
    index_out = out_of index_spot h.moved (λ i. absurd (let b = below_above h.moved index_spot i in omega (arith, b)))

    index_there : map.get child index_spot ≡ Some (Own (cell.Ordinal (value +ℤ pos k) ∷ []))
    index_there =
        get_taken_out m h.moved (with_index (with_shared m h.shared map.empty) (index_frame h) h.index) index_spot
        index_out
        ∙ ap (λ o. map.get (with_index (with_shared m h.shared map.empty) (index_frame h) (index_by value k o))
        index_spot) is
        ∙ get_here (with_shared m h.shared map.empty) index_spot (Own (cell.Ordinal (value +ℤ pos k) ∷ []))

    has_index : (x : ℕ) → x ≡ y → HoldsVariable ls (f ∷ fs) child x index_spot
    has_index zero e = absurd (omega (arith, real, e))
    has_index (suc zero) e = absurd (omega (arith, real, e))
    has_index (suc (suc x)) e = (
      cell.Ordinal (value +ℤ pos k) ∷ [],
      ap piece_of index_there,
      ap (extent ls (f ∷ fs)) e
          ∙ index_extent,
      index_size,
    )

    index_is : (x : ℕ) → t.index ≡ Some x → x ≡ y
    index_is x e = same_Some _ _ (sym e ∙ is)

    at_index : (x : ℕ) (s : Spot) → t.index ≡ Some x → spot_of ls (f ∷ fs) x ≡ Some s → s ≡ index_spot
    at_index x s e d = same_Some _ _ (sym d ∙ ap (spot_of ls (f ∷ fs)) (index_is x e) ∙ index_stands)

    not_both : (x z : ℕ) (s : Spot) → IsMember x (handed_to t) → t.index ≡ Some z → spot_of ls (f ∷ fs) x ≡ Some s
        → spot_of ls (f ∷ fs) z ≡ Some s → ⊥
    not_both x z s i e d g = absurd (let b = handed_below x s i (sym (stays x i)
        ∙ d) in let w : s.frame ≡ index_frame h = ap (λ (q : Spot). q.frame) (at_index z s e g) in omega (arith, b, w))

    -- the index is above the input and the output, where the child has one of them
    far : IsMember 0 (handed_to t) ⊎ IsMember 1 (handed_to t) → 0 < index_frame h
    far (inl i) = handed_below 0 input_spot i refl
    far (inr i) = handed_below 1 output_spot i refl

    held_new : (x : ℕ) → Rights x → (s : Spot) × (spot_of ls (f ∷ fs) x ≡ Some s) × (s.frame < suc N)
        × HoldsVariable ls (f ∷ fs) child x s
    held_new x (inl i) = held_handed (f ∷ fs) stays outer_extent sized x i
    held_new x (inr e) = (
      index_spot,
      ap (spot_of ls (f ∷ fs)) (index_is x e)
          ∙ index_stands,
      omega (arith, index_bound),
      has_index x (index_is x e),
    )

    apart_new : (x z : ℕ) (s : Spot) → Rights x → Rights z → spot_of ls (f ∷ fs) x ≡ Some s
        → spot_of ls (f ∷ fs) z ≡ Some s → x ≡ z
    apart_new x z s (inl i) (inl j) d e = apart_handed (f ∷ fs) stays outer_extent sized x z s i j d e
    apart_new x z s (inl i) (inr j) d e = absurd (not_both x z s i j d e)
    apart_new x z s (inr i) (inl j) d e = absurd (not_both z x s j i e d)
    apart_new x z s (inr i) (inr j) d e = index_is x i ∙ sym (index_is z j)

    console_handed : Rights 0 ⊎ Rights 1 → IsMember 0 (handed_to t) ⊎ IsMember 1 (handed_to t)
    console_handed (inl (inl i)) = inl i
    console_handed (inl (inr e)) = absurd (let z = index_is 0 e in omega (arith, real, z))
    console_handed (inr (inl i)) = inr i
    console_handed (inr (inr e)) = absurd (let z = index_is 1 e in omega (arith, real, z))

    clear_new : Rights 0 ⊎ Rights 1 → (x : ℕ) (s : Spot) → 2 ≤ x → Rights x → spot_of ls (f ∷ fs) x ≡ Some s
        → (s ≢ input_spot) × (s ≢ output_spot)
    clear_new c x s l (inl i) e = clear_handed (f ∷ fs) stays outer_extent sized (console_handed c) x s l i e
    clear_new c x s l (inr i) e =
        let w : s.frame ≡ index_frame h = ap (λ (q : Spot). q.frame) (at_index x s i e) in
        let b = far (console_handed c) in (
          λ z. absurd (let v : s.frame ≡ 0 = ap (λ (q : Spot). q.frame) z in omega (arith, w, b, v)),
          λ z. absurd
              (let v : s.frame ≡ 0 = ap (λ (q : Spot). q.frame) z in omega (arith, w, b, v)),
        )

    pub born_with_index : Allowed ls (Rights 0 ⊎ Rights 1) Rights (suc N) (f ∷ fs) child
    born_with_index = record { held = held_new; apart = apart_new; console = λ c. c; clear = clear_new }
