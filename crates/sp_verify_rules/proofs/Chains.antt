-- A variable stands where the frames along the links say, and a call's frame has the chain of its block.
use Rattle.std.proofs.Common.{◌≡◌, inl, ℕ, zero, suc, ◌+◌, ◌-◌, ◌≤◌, List, [], ◌∷◌, length, drop, Option, Some, None}
use Rattle.std.proofs.Common.{Bool, true, false, refl, sym, ap, ◌∙◌, subst, arith, if◌then◌else◌}
use Rattle.std.specs.Prelude.{nat_lt}
use Rattle.std.proofs.lemmas.Bool.{ltb-true}
use Rattle.std.proofs.lemmas.List.{length-drop, drop-drop}
use Rattle.sp_tree.specs.Interference.{IsMember, AllDifferent}
use Rattle.sp_tree.proofs.Members.{member_back}
use Rattle.sp_cell.specs.declared.spot.Spot.{Spot}
use Rattle.sp_cell.proofs.FrameLaws.{is_other}
use Rattle.sp_code.specs.declared.code.Layout.{Layout}
use Rattle.sp_code.specs.Machine.{layout_of}
use Rattle.sp_code.specs.Memory.{Home, OfBlock, OfIndex, Frame, last_frames, frames_up}
use Rattle.sp_code.specs.System.{spot_in, or_outward, spot_from, spot_of_layout, spot_at, place_of, first_number}
use Rattle.sp_code.specs.System.{spot_of}
use Rattle.sp_code.proofs.Members.{place_none}
use Rattle.sp_verify_rules.specs.Chains.{Chain, variables_of, variables_in, all_variables, first_along_links}
use Rattle.sp_verify_rules.specs.Chains.{spot_by_homes, extent_by_homes}
use Rattle.sp_verify_rules.specs.Extents.{extent, extent_in, extent_at, extent_of_layout, extent_from, or_further}
use Rattle.sp_verify_rules.proofs.Lists.{different_back, different_apart, drop_again}

pub up_is_drop : (k : ℕ) (fs : List Frame) → (j : ℕ) × (frames_up k fs ≡ drop j fs)
up_is_drop zero fs = (0, refl)
up_is_drop (suc k) [] = (0, refl)
up_is_drop (suc k) (f ∷ fs) =
    let w = up_is_drop k (last_frames f.link fs) in
    (suc ((length fs - f.link) + w.0), w.1 ∙ drop-drop w.0 (length fs - f.link) fs)

-- the frames that a new frame's link leads to
pub last_up : (k : ℕ) (fs : List Frame) → last_frames (length (frames_up k fs)) fs ≡ frames_up k fs
last_up k fs = let w = up_is_drop k fs in subst (λ gs. last_frames (length gs) fs ≡ gs) (sym w.1) (drop_again w.0 fs)

pub last_length : (n : ℕ) (fs : List Frame) → n ≤ length fs → length (last_frames n fs) ≡ n
last_length n fs l = length-drop (length fs - n) fs ∙ under (length fs) n l
  where
    under : (a b : ℕ) → b ≤ a → a - (a - b) ≡ b
    under a b l = omega (arith, l)

pub up_length : (k : ℕ) (fs : List Frame) → length (frames_up k fs) ≤ length fs
up_length k fs = let w = up_is_drop k fs in subst (λ gs. length gs ≤ length fs) (sym w.1)
    (omega (arith, length-drop w.0 fs))

-- a variable that is neither the input nor the output
real : (x : ℕ) → 2 ≤ x → nat_lt x 2 ≡ false
real x l = go (nat_lt x 2) refl
  where
    go : (b : Bool) → nat_lt x 2 ≡ b → nat_lt x 2 ≡ false
    go true e = absurd (omega (arith, l, ltb-true x 2 e))
    go false e = e

-- the chain further outward
pub chain_up : (k : ℕ) (hs : List Home) (fs : List Frame) → Chain hs fs → Chain (drop k hs) (frames_up k fs)
chain_up zero hs fs c = c
chain_up (suc k) [] [] c = tt
chain_up (suc k) [] (f ∷ fs) c = absurd c
chain_up (suc k) (h ∷ hs) [] c = absurd c
chain_up (suc k) (h ∷ hs) (f ∷ fs) (_, _, outer) = chain_up k hs (last_frames f.link fs) outer

-- ---- what the frames along the links say of a variable

-- a lookup: each frame says something of the variable, or nothing, and the nearest one that says something decides.
-- `outward` looks at n frames at most
record Lookup (ls : List Layout) (x : ℕ) (X : Type 0) : Type 0 where
  says : Frame → List Frame → Home → Option X
  or_outer : Option X → Option X → Option X
  outward : ℕ → List Frame → Option X
  absent : (f : Frame) (gs : List Frame) (h : Home) → (IsMember x (variables_in ls h) → ⊥) → says f gs h ≡ None
  or_next : (o : Option X) → or_outer None o ≡ o
  ends : (n : ℕ) → outward n [] ≡ None
  steps : (n : ℕ) (f : Frame) (fs : List Frame)
      → outward (suc n) (f ∷ fs) ≡ or_outer (says f fs f.home) (outward n (last_frames f.link fs))

module _ {X : Type 0} (ls : List Layout) (x : ℕ) (a : Lookup ls x X) where
  abbrev first : List Home → List Frame → Option X
  first hs fs = first_along_links a.or_outer a.says hs fs

  -- so it finds what the homes tell
  outward_is : (hs : List Home) (fs : List Frame) (n : ℕ) → length fs ≤ n → Chain hs fs → a.outward n fs ≡ first hs fs
  outward_is [] [] n l c = a.ends n
  outward_is [] (f ∷ fs) n l c = absurd c
  outward_is (h ∷ hs) [] n l c = absurd c
  outward_is (h ∷ hs) (f ∷ fs) zero l c = absurd (omega (arith, l))
  outward_is (h ∷ hs) (f ∷ fs) (suc n) l (home_is, below, outer) =
      let rest = last_frames f.link fs in
      let short = last_length f.link fs below in
      a.steps n f fs ∙ ap (λ k. a.or_outer (a.says f fs k) (a.outward n rest)) home_is
      ∙ ap (a.or_outer (a.says f fs h)) (outward_is hs rest n (omega (arith, l, short, below)) outer)

  all_is : (here : Option X) (hs : List Home) (fs : List Frame) → 2 ≤ x → Chain hs fs
      → (if nat_lt x 2 then here else a.outward (length fs) fs) ≡ first hs fs
  all_is here hs fs l c = ap (λ b. if b then here else a.outward (length fs) fs) (real x l)
      ∙ outward_is hs fs (length fs) (omega arith) c

  in_drop : (k : ℕ) (hs : List Home) → IsMember x (all_variables ls (drop k hs)) → IsMember x (all_variables ls hs)
  in_drop zero hs m = m
  in_drop (suc k) [] m = m
  in_drop (suc k) (h ∷ hs) m = member_back x (variables_in ls h) (all_variables ls hs) (in_drop k hs m)

  -- a variable of a frame further outward is seen there as from here
  first_up : (k : ℕ) (hs : List Home) (fs : List Frame) → Chain hs fs → AllDifferent (all_variables ls hs)
      → IsMember x (all_variables ls (drop k hs)) → first hs fs ≡ first (drop k hs) (frames_up k fs)
  first_up zero hs fs c d m = refl
  first_up (suc k) [] [] c d m = refl
  first_up (suc k) [] (f ∷ fs) c d m = absurd c
  first_up (suc k) (h ∷ hs) [] c d m = absurd c
  first_up (suc k) (h ∷ hs) (f ∷ fs) (_, _, outer) d m =
      let rest = last_frames f.link fs in
      ap (λ o. a.or_outer o (first hs rest)) (a.absent f fs h apart)
      ∙ a.or_next (first hs rest)
      ∙ first_up k hs rest outer (different_back (variables_in ls h) (all_variables ls hs) d) m
    where
      apart : IsMember x (variables_in ls h) → ⊥
      apart n = different_apart x (variables_in ls h) (all_variables ls hs) d n (in_drop k hs m)

-- ---- its spot, and how many cells it has

module _ (ls : List Layout) where
  -- a block that has not the variable has no place of it
  no_place : {X : Type 0} (of_layout : Option Layout → Option X) (x b : ℕ) → of_layout None ≡ None
      → ((l : Layout) → place_of x (first_number l) l.variables ≡ None → of_layout (Some l) ≡ None)
      → (IsMember x (variables_in ls (OfBlock b)) → ⊥) → of_layout (layout_of ls b) ≡ None
  no_place of_layout x b without none n = go (layout_of ls b) refl
    where
      go : (o : Option Layout) → layout_of ls b ≡ o → of_layout (layout_of ls b) ≡ None
      go None e = ap of_layout e ∙ without
      go (Some l) e = ap of_layout e ∙ none l (place_none x (first_number l) l.variables
          (λ m. n (subst (λ o. IsMember x (variables_of o)) (sym e) m)))

  pub not_here : (f : Frame) (h : Home) (x : ℕ) → (IsMember x (variables_in ls h) → ⊥) → spot_in ls f h x ≡ None
  not_here f (OfBlock b) x n = no_place (spot_of_layout f x) x b refl (λ l e. ap (spot_at f l) e) n
  not_here f (OfIndex y) x n = ap (λ b. if b then Some (record { frame = f.number; variable = 0 }) else None)
      (is_other x y (λ e. n (inl e)))

  pub no_extent : (f : Frame) (gs : List Frame) (h : Home) (x : ℕ) → (IsMember x (variables_in ls h) → ⊥)
      → extent_in ls f gs h x ≡ None
  no_extent f gs (OfBlock b) x n = no_place (extent_of_layout ls f gs x) x b refl (λ l e. ap (extent_at ls f gs l) e) n
  no_extent f gs (OfIndex y) x n = ap (λ b. if b then Some 1 else None) (is_other x y (λ e. n (inl e)))

  spot_ends : (n x : ℕ) → spot_from ls n [] x ≡ None
  spot_ends zero x = refl
  spot_ends (suc n) x = refl

  extent_ends : (n x : ℕ) → extent_from ls n [] x ≡ None
  extent_ends zero x = refl
  extent_ends (suc n) x = refl

  abbrev spots : (x : ℕ) → Lookup ls x Spot
  spots x = record {
    says = λ f gs h. spot_in ls f h x;
    or_outer = or_outward;
    outward = λ n fs. spot_from ls n fs x;
    absent = λ f gs h n. not_here f h x n;
    or_next = λ o. refl;
    ends = λ n. spot_ends n x;
    steps = λ n f fs. refl;
  }

  abbrev extents : (x : ℕ) → Lookup ls x ℕ
  extents x = record {
    says = λ f gs h. extent_in ls f gs h x;
    or_outer = or_further;
    outward = λ n fs. extent_from ls n fs x;
    absent = λ f gs h n. no_extent f gs h x n;
    or_next = λ o. refl;
    ends = λ n. extent_ends n x;
    steps = λ n f fs. refl;
  }

  pub stands_up : (x k : ℕ) (hs : List Home) (fs : List Frame) → Chain hs fs → AllDifferent (all_variables ls hs)
      → IsMember x (all_variables ls (drop k hs)) → spot_by_homes ls hs fs x ≡ spot_by_homes ls (drop k hs)
      (frames_up k fs) x
  stands_up x k hs fs c d m = first_up ls x (spots x) k hs fs c d m

  pub extends_up : (x k : ℕ) (hs : List Home) (fs : List Frame) → Chain hs fs → AllDifferent (all_variables ls hs)
      → IsMember x (all_variables ls (drop k hs)) → extent_by_homes ls hs fs x ≡ extent_by_homes ls (drop k hs)
      (frames_up k fs) x
  extends_up x k hs fs c d m = first_up ls x (extents x) k hs fs c d m

  pub spot_is : (hs : List Home) (fs : List Frame) (x : ℕ) → 2 ≤ x → Chain hs fs
      → spot_of ls fs x ≡ spot_by_homes ls hs fs x
  spot_is hs fs x l c = all_is ls x (spots x) (Some (record { frame = 0; variable = x })) hs fs l c

  pub size_is : (hs : List Home) (fs : List Frame) (x : ℕ) → 2 ≤ x → Chain hs fs
      → extent ls fs x ≡ extent_by_homes ls hs fs x
  size_is hs fs x l c = all_is ls x (extents x) (Some 1) hs fs l c
