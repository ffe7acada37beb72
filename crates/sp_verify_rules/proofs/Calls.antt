-- A called block's activation holds its effects: the variables of its own frame are new, those outside it are its
-- caller's effects, and what its variable parameters stand for are different effects of its caller, none of them
-- outside the block.
use Rattle.std.proofs.Common.{◌≡◌, ◌≢◌, ◌⊎◌, inl, inr, ⊎_elim, ℕ, zero, suc, ◌+◌, ◌-◌, ◌≤◌, ◌<◌, ◌==◌, List, [], ◌∷◌}
use Rattle.std.proofs.Common.{◌++◌, length, drop, Option, Some, None, false, refl, sym, ap, ◌∙◌, subst, arith, zero-add}
use Rattle.std.proofs.Common.{if◌then◌else◌}
use Rattle.std.specs.Prelude.{slice_get}
use Rattle.std.specs.FinMap as map
use Rattle.std.proofs.lemmas.Option.{same_Some}
use Rattle.sp_base.proofs.Facts.{below_two_or_not}
use Rattle.sp_tree.specs.Interference.{IsMember, AllDifferent}
use Rattle.sp_cell.specs.declared.cell.Cell.{Cell}
use Rattle.sp_cell.specs.declared.spot.Spot.{Spot}
use Rattle.sp_cell.specs.declared.spot.Address.{Address}
use Rattle.sp_cell.proofs.FrameLaws.{is_same, is_other}
use Rattle.sp_cell.specs.Map.{Map, IsOutput, output_spot}
use Rattle.sp_code.specs.declared.code.Formal.{Formal}
use Rattle.sp_code.specs.declared.code.Formal.TheVariants as formal
use Rattle.sp_code.specs.declared.code.Layout.{Layout}
use Rattle.sp_code.specs.Machine.{layout_of}
use Rattle.sp_code.specs.Memory.{Home, OfBlock, Frame, last_frames, frames_up, reference_target, position_in}
use Rattle.sp_code.specs.PlainStore.{piece_of}
use Rattle.sp_code.specs.System.{spot_of, spot_at, spot_by, spot_of_layout, spot_of_address, or_outward, place_of}
use Rattle.sp_code.specs.System.{first_number}
use Rattle.sp_verify_rules.specs.Chains.{Chain, variables_of, variables_in, all_variables, spot_by_homes}
use Rattle.sp_verify_rules.specs.Chains.{extent_by_homes}
use Rattle.sp_verify_rules.specs.Extents.{extent, extent_at, extent_by, extent_of_layout, size_in, size_at, size_of}
use Rattle.sp_verify_rules.specs.Extents.{size_behind, or_further}
use Rattle.sp_verify_rules.specs.HeldEffects.{HoldsVariable, Allowed, input_spot}
use Rattle.sp_verify_rules.proofs.Lists.{member_or, different_apart, place_some}
use Rattle.sp_verify_rules.proofs.Chains.{last_up, up_length, not_here, no_extent, chain_up, stands_up, extends_up}
use Rattle.sp_verify_rules.proofs.Chains.{spot_is}
use Rattle.sp_verify_rules.proofs.Chains.{size_is}

-- no formal, or one by value
abbrev pub IsPlain : Option Formal → Type 0
IsPlain None = Unit {0}
IsPlain (Some (formal.Value n)) = Unit {0}
IsPlain (Some (formal.Reference n)) = ⊥

module _ (ls : List Layout) (ha : List Home) (k : ℕ) (l : Layout) (fs : List Frame) (N owner : ℕ) (refs : List (ℕ
    × Address))
    (chain : Chain ha fs) (different : AllDifferent (all_variables ls ha))
    (lay : layout_of ls l.block ≡ Some l) (inner : (l.block == 0) ≡ false) (distinct : AllDifferent (l.variables
    ++ all_variables ls (drop k ha))) where
  -- the new frame
  abbrev pub f : Frame
  f = record { owner = owner; number = N; home = OfBlock l.block; link = length (frames_up k fs); references = refs }

  abbrev pub hb : List Home
  hb = OfBlock l.block ∷ drop k ha

  pub chain_new : Chain hb (f ∷ fs)
  chain_new = (refl, up_length k fs, subst (Chain (drop k ha)) (sym (last_up k fs)) (chain_up k ha fs chain))

  not_own : (y : ℕ) → IsMember y (all_variables ls (drop k ha)) → IsMember y (variables_in ls (OfBlock l.block)) → ⊥
  not_own y m n = different_apart y l.variables (all_variables ls (drop k ha)) distinct
      (subst (λ o. IsMember y (variables_of o)) lay n) m

  -- a variable outside the block stands where it stood
  pub outer_stands : (y : ℕ) → 2 ≤ y → IsMember y (all_variables ls (drop k ha))
      → spot_of ls (f ∷ fs) y ≡ spot_of ls fs y
  outer_stands y r m =
      spot_is ls hb (f ∷ fs) y r chain_new
      ∙ ap (λ o. or_outward o (spot_by_homes ls (drop k ha) (last_frames f.link fs) y))
      (not_here ls f (OfBlock l.block) y (not_own y m))
      ∙ ap (λ gs. spot_by_homes ls (drop k ha) gs y) (last_up k fs)
      ∙ sym (stands_up ls y k ha fs chain different m)
      ∙ sym (spot_is ls ha fs y r chain)

  pub outer_extent : (y : ℕ) → 2 ≤ y → IsMember y (all_variables ls (drop k ha)) → extent ls (f ∷ fs) y ≡ extent ls fs y
  outer_extent y r m =
      size_is ls hb (f ∷ fs) y r chain_new
      ∙ ap (λ o. or_further o (extent_by_homes ls (drop k ha) (last_frames f.link fs) y))
      (no_extent ls f fs (OfBlock l.block) y (not_own y m))
      ∙ ap (λ gs. extent_by_homes ls (drop k ha) gs y) (last_up k fs)
      ∙ sym (extends_up ls y k ha fs chain different m)
      ∙ sym (size_is ls ha fs y r chain)

  -- the place of a variable of its own
  pub record OwnAt (y : ℕ) : Type 0 where
    pub place : ℕ
    pub variable_is : slice_get l.variables place ≡ Some y
    pub stands_so : (s : Spot) → spot_by f place (slice_get l.formals place) ≡ Some s → spot_of ls (f ∷ fs) y ≡ Some s
    pub extends_so : (n : ℕ) → extent_by ls f fs place (slice_get l.formals place) ≡ Some n
        → extent ls (f ∷ fs) y ≡ Some n

  pub own_at : (y : ℕ) → 2 ≤ y → IsMember y l.variables → OwnAt y
  own_at y r m = record {
    place = i;
    variable_is = w.2;
    stands_so = λ s e. spot_is ls hb (f ∷ fs) y r chain_new
        ∙ ap (λ o. or_outward o (spot_by_homes ls (drop k ha) (last_frames f.link fs) y)) (ap (spot_of_layout f y) lay
        ∙ ap (spot_at f l) place_is ∙ e);
    extends_so = λ n e. size_is ls hb (f ∷ fs) y r chain_new
        ∙ ap (λ o. or_further o (extent_by_homes ls (drop k ha) (last_frames f.link fs) y))
        (ap (extent_of_layout ls f fs y) lay
        ∙ ap (extent_at ls f fs l) place_is ∙ e);
  }
    where
      w : (i : ℕ) × (place_of y 0 l.variables ≡ Some (0 + i)) × (slice_get l.variables i ≡ Some y)
      w = place_some y 0 l.variables m

      i : ℕ
      i = w.0

      place_is : place_of y (first_number l) l.variables ≡ Some i
      place_is = ap (λ b. place_of y (if b then 2 else 0) l.variables) inner ∙ w.1 ∙ ap Some (zero-add w.0)

  -- E, D: the effects of the caller's area and of the block; actual: which variable is the operand for a reference
  -- formal
  module _ (K : Type 0) (E D : ℕ → Type 0) (actual : ℕ → ℕ → Type 0)
      (around : (y : ℕ) → D y → (y < 2) ⊎ IsMember y (l.variables ++ all_variables ls (drop k ha)))
      (real : (y : ℕ) → IsMember y l.variables → 2 ≤ y)
      (outer : (y : ℕ) → D y → (IsMember y l.variables → ⊥) → E y)
      (passed : (i x : ℕ) → actual i x → E x × (2 ≤ x))
      (once : (i j x : ℕ) → actual i x → actual j x → i ≡ j)
      (none : (i x : ℕ) → actual i x → D x → IsMember x l.variables)
      (given : (i n : ℕ) → slice_get l.formals i ≡ Some (formal.Reference n) → (x : ℕ) × actual i x
      × ((p : Address) × (reference_target i refs ≡ Some p) × (spot_of ls fs x ≡ Some p.spot)))
      (m m1 : Map) (below : (q : Spot) → q.frame < N → map.get m1 q ≡ map.get m q)
      (pieces : (i y : ℕ) → slice_get l.variables i ≡ Some y → IsPlain (slice_get l.formals i) → (c : ℕ)
      × (slice_get l.sizes i ≡ Some c)
      × ((cs : List Cell) × (piece_of (map.get m1 (record { frame = N; variable = i })) ≡ Some cs)
      × (length cs ≡ c)))
      (started : K → 0 < N)
      (caller : Allowed ls K E N fs m) where
    abbrev new_spot : ℕ → Spot
    new_spot i = record { frame = N; variable = i }

    -- what it is to the caller
    abbrev Became : ℕ → ℕ → Type 0
    Became y x = ((x ≡ y) × (IsMember y l.variables → ⊥)) ⊎ ((i : ℕ) × (slice_get l.variables i ≡ Some y) × actual i x)

    became_one : (x y z : ℕ) → D y → D z → Became y x → Became z x → y ≡ z
    became_one x y z d e (inl a) (inl b) = sym a.0 ∙ b.0
    became_one x y z d e (inl a) (inr b) = absurd
        (a.1 (subst (λ v. IsMember v l.variables) a.0 (none b.0 x b.2 (subst D (sym a.0) d))))
    became_one x y z d e (inr a) (inl b) = absurd
        (b.1 (subst (λ v. IsMember v l.variables) b.0 (none a.0 x a.2 (subst D (sym b.0) e))))
    became_one x y z d e (inr a) (inr b) = same_Some _ _
        (sym a.1 ∙ ap (slice_get l.variables) (once a.0 b.0 x a.2 b.2) ∙ b.1)

    -- a variable of the new frame
    record IsNew (y : ℕ) : Type 0 where
      pub place : ℕ
      pub variable_is : slice_get l.variables place ≡ Some y
      pub spot_is : spot_of ls (f ∷ fs) y ≡ Some (new_spot place)
      pub cells : List Cell
      pub piece : piece_of (map.get m1 (new_spot place)) ≡ Some cells
      pub whole : extent ls (f ∷ fs) y ≡ Some (length cells)
      pub size : size_at ls (OfBlock l.block) place ≡ Some (length cells)

    -- or one that was there
    record IsOld (y : ℕ) : Type 0 where
      pub was : ℕ
      pub effect : E was
      pub became : Became y was
      pub spot_is : spot_of ls (f ∷ fs) y ≡ spot_of ls fs was
      pub console : (y < 2) → was ≡ y
      pub true_one : 2 ≤ y → 2 ≤ was
      pub whole : 2 ≤ y → (s : Spot) (n : ℕ) → spot_of ls fs was ≡ Some s → extent ls fs was ≡ Some n
          → size_in ls fs s ≡ Some n → extent ls (f ∷ fs) y ≡ Some n

    own_size : (i n : ℕ) → slice_get l.sizes i ≡ Some n → size_at ls (OfBlock l.block) i ≡ Some n
    own_size i n e = ap (λ o. size_of o i) lay
        ∙ ap (λ b. if b then (if Rattle.std.specs.Prelude.nat_lt i 2 then
        (if i == 0 then Some 1 else None) else slice_get l.sizes (i - 2)) else slice_get l.sizes i) inner ∙ e

    own_one : (y : ℕ) → D y → IsMember y l.variables → IsNew y ⊎ IsOld y
    own_one y d m = go (slice_get l.formals o.place) refl
      where
        o : OwnAt y
        o = own_at y (real y m) m

        fresh : (u : Option Formal) → slice_get l.formals o.place ≡ u → IsPlain u
            → spot_by f o.place u ≡ Some (new_spot o.place)
            → ((n : ℕ) → extent_by ls f fs o.place u ≡ size_at ls (OfBlock l.block) o.place) → IsNew y
        fresh u e plain at ext =
            let (count, size_is, (cs, piece_is, length_is)) = pieces o.place y o.variable_is
            (subst IsPlain (sym e) plain) in
            let size : size_at ls (OfBlock l.block) o.place ≡ Some (length cs) = own_size o.place count size_is
            ∙ ap Some (sym length_is) in
            record {
              place = o.place;
              variable_is = o.variable_is;
              spot_is = o.stands_so (new_spot o.place) (ap (spot_by f o.place) e ∙ at);
              cells = cs;
              piece = piece_is;
              whole = o.extends_so (length cs) (ap (extent_by ls f fs o.place) e ∙ ext 0 ∙ size);
              size = size;
            }

        go : (u : Option Formal) → slice_get l.formals o.place ≡ u → IsNew y ⊎ IsOld y
        go None e = inl (fresh None e tt refl (λ n. refl))
        go (Some (formal.Value c)) e = inl (fresh (Some (formal.Value c)) e tt refl (λ n. refl))
        go (Some (formal.Reference c)) e =
            let (x, is_actual, (to, refers, stands)) = given o.place c e in
            let p = passed o.place x is_actual in
            inr (record {
              was = x;
              effect = p.0;
              became = inr (o.place, o.variable_is, is_actual);
              spot_is = o.stands_so to.spot (ap (spot_by f o.place) e ∙ ap spot_of_address refers) ∙ sym stands;
              console = λ lt. absurd (omega (arith, lt, real y m));
              true_one = λ r. p.1;
              whole = λ r s n at ext size. (let same : to.spot ≡ s = same_Some _ _ (sym stands ∙ at) in
                  o.extends_so n (ap (extent_by ls f fs o.place) e ∙ ap (size_behind ls fs) refers
                  ∙ ap (size_in ls fs) same ∙ size));
            })

    one_of : (y : ℕ) → D y → IsNew y ⊎ IsOld y
    one_of y d = ⊎_elim
        (λ m. own_one y d m)
        (λ n. inr (record {
          was = y;
          effect = outer y d n;
          became = inl (refl, n);
          spot_is = stays n (around y d);
          console = λ lt. refl;
          true_one = λ r. r;
          whole = λ r s c at ext size. extends_on n r (around y d) ∙ ext;
        }))
        (member_or y l.variables)
      where
        in_outer : (IsMember y l.variables → ⊥) → IsMember y (l.variables ++ all_variables ls (drop k ha))
            → IsMember y (all_variables ls (drop k ha))
        in_outer n h = ⊎_elim (λ a. absurd (n a)) (λ a. a)
            (Rattle.sp_tree.proofs.Members.member_either y l.variables (all_variables ls (drop k ha)) h)

        small : (y : ℕ) → y < 2 → (gs hs : List Frame) → spot_of ls gs y ≡ spot_of ls hs y
        small zero lt gs hs = refl
        small (suc zero) lt gs hs = refl
        small (suc (suc y)) lt gs hs = absurd (omega (arith, lt))

        stays : (IsMember y l.variables → ⊥) → (y < 2) ⊎ IsMember y (l.variables ++ all_variables ls (drop k ha))
            → spot_of ls (f ∷ fs) y ≡ spot_of ls fs y
        stays n (inl lt) = small y lt (f ∷ fs) fs
        stays n (inr h) = ⊎_elim (λ (lt : y < 2). small y lt (f ∷ fs) fs)
            (λ (r : 2 ≤ y). outer_stands y r (in_outer n h)) (below_two_or_not y)

        extends_on : (IsMember y l.variables → ⊥) → 2 ≤ y → (y < 2)
            ⊎ IsMember y (l.variables ++ all_variables ls (drop k ha)) → extent ls (f ∷ fs) y ≡ extent ls fs y
        extends_on n r (inl lt) = absurd (omega (arith, lt, r))
        extends_on n r (inr h) = outer_extent y r (in_outer n h)

    frame_old : (s : Spot) → s.frame < N → size_in ls (f ∷ fs) s ≡ size_in ls fs s
    frame_old s lt = ap (λ b. if b then size_at ls f.home s.variable else size_in ls fs s)
        (is_other N s.frame (λ e. absurd (omega (arith, lt, e))))

    frame_new : (i : ℕ) → size_in ls (f ∷ fs) (new_spot i) ≡ size_at ls (OfBlock l.block) i
    frame_new i = ap (λ b. if b then size_at ls (OfBlock l.block) i else size_in ls fs (new_spot i)) (is_same N N refl)

    has_new : (y : ℕ) → 2 ≤ y → (o : IsNew y) → HoldsVariable ls (f ∷ fs) m1 y (new_spot o.place)
    has_new zero r o = absurd (omega (arith, r))
    has_new (suc zero) r o = absurd (omega (arith, r))
    has_new (suc (suc y)) r o = (o.cells, o.piece, o.whole, frame_new o.place ∙ o.size)

    -- what was held of it is held
    has_old : (y x : ℕ) (s : Spot) → ((y < 2) → x ≡ y) → (2 ≤ y → 2 ≤ x)
        → (2 ≤ y → (n : ℕ) → extent ls fs x ≡ Some n → size_in ls fs s ≡ Some n → extent ls (f ∷ fs) y ≡ Some n)
        → s.frame < N → HoldsVariable ls fs m x s → HoldsVariable ls (f ∷ fs) m1 y s
    has_old zero zero s e r ext lt h = (h.0, ap (λ o. position_in (piece_of o)) (below s lt) ∙ h.1)
    has_old zero (suc x) s e r ext lt h = absurd (let z : suc x ≡ 0 = e (omega arith) in omega (arith, z))
    has_old (suc zero) zero s e r ext lt h = absurd (let z : 0 ≡ 1 = e (omega arith) in omega (arith, z))
    has_old (suc zero) (suc zero) s e r ext lt h = subst IsOutput (sym (below s lt)) h
    has_old (suc zero) (suc (suc x)) s e r ext lt h = absurd
        (let z : suc (suc x) ≡ 1 = e (omega arith) in omega (arith, z))
    has_old (suc (suc y)) zero s e r ext lt h = absurd (let z : 2 ≤ 0 = r (omega arith) in omega (arith, z))
    has_old (suc (suc y)) (suc zero) s e r ext lt h = absurd (let z : 2 ≤ 1 = r (omega arith) in omega (arith, z))
    has_old (suc (suc y)) (suc (suc x)) s e r ext lt (cs, piece_is, extent_is, size_is) = (
      cs,
      ap piece_of (below s lt)
          ∙ piece_is,
      ext (omega arith) (length cs) extent_is size_is,
      frame_old s lt ∙ size_is,
    )

    held_new : (y : ℕ) → D y → IsNew y ⊎ IsOld y → (s : Spot) × (spot_of ls (f ∷ fs) y ≡ Some s) × (s.frame < suc N)
        × HoldsVariable ls (f ∷ fs) m1 y s
    held_new y d (inl o) =
        (new_spot o.place, o.spot_is, omega arith, has_new y (real y (member o.place l.variables o.variable_is)) o)
      where
        member : (i : ℕ) (ys : List ℕ) → slice_get ys i ≡ Some y → IsMember y ys
        member i [] e = absurd (cc e)
        member zero (z ∷ ys) e = inl (sym (same_Some _ _ e))
        member (suc i) (z ∷ ys) e = inr (member i ys e)
    held_new y d (inr o) =
        let (there, stands, low, holds) = caller.held o.was o.effect in (
          there,
          o.spot_is ∙ stands,
          omega (arith, low),
          has_old y o.was there o.console o.true_one
              (λ r n a b. o.whole r there n stands a b) low holds,
        )

    old_frame : (y : ℕ) (o : IsOld y) (s : Spot) → spot_of ls (f ∷ fs) y ≡ Some s → s.frame < N
    old_frame y o s e =
        let w = caller.held o.was o.effect in
        let same : w.0 ≡ s = same_Some _ _ (sym w.1 ∙ sym o.spot_is ∙ e) in
        subst (λ (q : Spot). q.frame < N) same w.2

    new_frame : (y : ℕ) (o : IsNew y) (s : Spot) → spot_of ls (f ∷ fs) y ≡ Some s → s ≡ new_spot o.place
    new_frame y o s e = same_Some _ _ (sym e ∙ o.spot_is)

    apart_new : (y z : ℕ) (s : Spot) → D y → D z → spot_of ls (f ∷ fs) y ≡ Some s → spot_of ls (f ∷ fs) z ≡ Some s
        → IsNew y ⊎ IsOld y → IsNew z ⊎ IsOld z → y ≡ z
    apart_new y z s d e a b (inl o) (inl p) =
        let same : o.place ≡ p.place = ap (λ (q : Spot). q.variable) (sym (new_frame y o s a) ∙ new_frame z p s b) in
        same_Some _ _ (sym o.variable_is ∙ ap (slice_get l.variables) same ∙ p.variable_is)
    apart_new y z s d e a b (inl o) (inr p) = absurd
        (let lt = old_frame z p s b in let is : s.frame ≡ N = ap (λ (q : Spot). q.frame) (new_frame y o s a) in omega
        (arith, lt, is))
    apart_new y z s d e a b (inr o) (inl p) = absurd
        (let lt = old_frame y o s a in let is : s.frame ≡ N = ap (λ (q : Spot). q.frame) (new_frame z p s b) in omega
        (arith, lt, is))
    apart_new y z s d e a b (inr o) (inr p) =
        let same : o.was ≡ p.was = caller.apart o.was p.was s o.effect p.effect (sym o.spot_is ∙ a)
        (sym p.spot_is ∙ b) in
        became_one p.was y z d e (subst (Became y) same o.became) p.became

    clear_new : K → (y : ℕ) (s : Spot) → 2 ≤ y → D y → spot_of ls (f ∷ fs) y ≡ Some s → IsNew y ⊎ IsOld y
        → (s ≢ input_spot) × (s ≢ output_spot)
    clear_new c y s r d e (inl o) =
        let is : s.frame ≡ N = ap (λ (q : Spot). q.frame) (new_frame y o s e) in
        let far = started c in (
          λ i. absurd (let z : s.frame ≡ 0 = ap (λ (q : Spot). q.frame) i in omega (arith, is, far, z)),
          λ i. absurd
              (let z : s.frame ≡ 0 = ap (λ (q : Spot). q.frame) i in omega (arith, is, far, z)),
        )
    clear_new c y s r d e (inr o) = caller.clear c o.was s (o.true_one r) o.effect (sym o.spot_is ∙ e)

    -- the block's activation holds its effects
    pub callee : Allowed ls K D (suc N) (f ∷ fs) m1
    callee = record {
      held = λ y d. held_new y d (one_of y d);
      apart = λ y z s d e a b. apart_new y z s d e a b (one_of y d) (one_of z e);
      console = λ c. ⊎_elim (λ d. caller.console (inl (outer 0 d (λ m. absurd (omega (arith, real 0 m))))))
          (λ d. caller.console (inr (outer 1 d (λ m. absurd (omega (arith, real 1 m)))))) c;
      clear = λ c y s r d e. clear_new c y s r d e (one_of y d);
    }
