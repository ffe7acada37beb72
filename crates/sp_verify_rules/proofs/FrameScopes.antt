-- Names lead to frames: where the rules hold, an address by level and number stands in the variable that is found
-- there, and a called block has the frames around it.
use Rattle.std.proofs.Common.{◌≡◌, ◌⊎◌, inl, inr, ⊎_elim, ℕ, zero, suc, ◌+◌, ◌-◌, ◌≤◌, ◌==◌, List, [], ◌∷◌, ◌++◌}
use Rattle.std.proofs.Common.{length, drop, Option, Some, None, Bool, true, false, ◌&&◌, refl, sym, ap, ◌∙◌, subst}
use Rattle.std.proofs.Common.{eqb-true, arith, if◌then◌else◌, add-zero}
use Rattle.std.specs.Prelude.{slice_get, nat_lt, not}
use Rattle.std.proofs.lemmas.Bool.{eq-eqb, and_parts}
use Rattle.std.proofs.lemmas.List.{length-drop}
use Rattle.std.proofs.lemmas.Option.{none-some, same_Some}
use Rattle.sp_base.proofs.Facts.{is_none_plus, next_goes_left}
use Rattle.sp_tree.specs.Interference.{IsMember, AllDifferent}
use Rattle.sp_tree.proofs.Members.{member_front, member_either}
use Rattle.sp_cell.specs.declared.spot.Address.{Address}
use Rattle.sp_cell.proofs.FrameLaws.{is_same, is_other}
use Rattle.sp_code.specs.declared.code.Formal.{Formal}
use Rattle.sp_code.specs.declared.code.Formal.TheVariants as formal
use Rattle.sp_code.specs.declared.code.Layout.{Layout}
use Rattle.sp_code.specs.declared.code.ChildTable.{ChildTable}
use Rattle.sp_code.specs.declared.code.Parts.{Parts}
use Rattle.sp_code.specs.Machine.{layout_of}
use Rattle.sp_code.specs.Memory.{Home, OfBlock, OfIndex, Frame, last_frames, frames_up, addr_in, deref_in, is_there}
use Rattle.sp_code.specs.Memory.{reference_target, cell_at}
use Rattle.sp_code.specs.System.{spot_in, spot_at, spot_by, spot_of_layout, place_of, first_number, spot_of_address}
use Rattle.sp_code.specs.System.{or_outward}
use Rattle.sp_verify_rules.specs.Areas.{Area, Body, Child, VariableInfo, Naming, Plainly, Never, ByReference, on_option}
use Rattle.sp_verify_rules.specs.Areas.{console}
use Rattle.sp_verify_rules.specs.Areas.{found_by, found_in, found_of, found_at, parent_of, homes_by, with_home}
use Rattle.sp_verify_rules.specs.Areas.{block_homes}
use Rattle.sp_verify_rules.specs.Areas.{homes, variable_at, instr_at, child_at, child_of, table_at, table_named}
use Rattle.sp_verify_rules.specs.Areas.{index_of_child, leads_by, around_layout, single_home}
use Rattle.sp_verify_rules.specs.Reach.{IsArea}
use Rattle.sp_verify_rules.specs.Extents.{size_of, size_at, size_behind, extent_by, extent_at, extent_of_layout}
use Rattle.sp_verify_rules.specs.Extents.{extent_in}
use Rattle.sp_verify_rules.specs.Extents.{or_further}
use Rattle.sp_verify_rules.specs.InstructionFacts.{Points, Framed, RefersWell}
use Rattle.sp_verify_rules.specs.NameRules.{is_plain, is_reference, is_block, is_none, LiesIn, Names, Declared}
use Rattle.sp_verify_rules.specs.NameRules.{InLayout}
use Rattle.sp_verify_rules.specs.NameRules.{OfChild}
use Rattle.sp_verify_rules.specs.NameRules.{declaration_at, declared_in, declared_by}
use Rattle.sp_verify_rules.specs.KeepsCodeRules.{KeepsCodeRules}
use Rattle.sp_verify_rules.specs.Chains.{Chain, variables_of, variables_in, all_variables, spot_by_homes}
use Rattle.sp_verify_rules.specs.Chains.{extent_by_homes}
use Rattle.sp_verify_rules.proofs.Lists.{place_some}
use Rattle.sp_verify_rules.proofs.Chains.{last_up, up_length, spot_is, size_is, stands_up, extends_up}
use Rattle.sp_verify_rules.proofs.Turns.{Scoped}

-- ---- lists

member_at : (x k : ℕ) (ys : List ℕ) → slice_get ys k ≡ Some x → IsMember x ys
member_at x k [] e = absurd (cc e)
member_at x zero (y ∷ ys) e = inl (sym (same_Some y x e))
member_at x (suc k) (y ∷ ys) e = inr (member_at x k ys e)

place_at : (x n k : ℕ) (ys : List ℕ) → AllDifferent ys → slice_get ys k ≡ Some x → place_of x n ys ≡ Some (n + k)
place_at x n k [] d e = absurd (cc e)
place_at x n zero (y ∷ ys) d e =
    let s : n ≡ n + zero = omega arith in
    ap (λ b. if b then Some n else place_of x (suc n) ys) (is_same x y (sym (same_Some y x e))) ∙ ap Some s
place_at x n (suc k) (y ∷ ys) d e =
    let s : suc n + k ≡ n + suc k = omega arith in
    ap (λ b. if b then Some n else place_of x (suc n) ys)
    (is_other x y (λ i. d.0 (subst (λ z. IsMember z ys) i (member_at x k ys e))))
    ∙ (place_at x (suc n) k ys d.1 e ∙ ap Some s)

pub different_join : (ys zs : List ℕ) → AllDifferent ys → AllDifferent zs
    → ((x : ℕ) → IsMember x ys → IsMember x zs → ⊥) → AllDifferent (ys ++ zs)
different_join [] zs d e h = e
different_join (y ∷ ys) zs d e h = (
  λ m. ⊎_elim (λ i. d.0 i) (λ i. h y (inl refl) i) (member_either y ys zs m),
  different_join ys zs d.1 e
      (λ x i j. h x (inr i) j),
)

drop_head : {T : Type 0} (hs : List T) (k : ℕ) (h : T) → slice_get hs k ≡ Some h → (t : List T) × (drop k hs ≡ h ∷ t)
drop_head [] k h e = absurd (cc e)
drop_head (x ∷ hs) zero h e = (hs, ap (λ z. z ∷ hs) (same_Some x h e))
drop_head (x ∷ hs) (suc k) h e = drop_head hs k h e

-- ---- layouts

pub found_layout : (ls : List Layout) (b : ℕ) (l : Layout) → layout_of ls b ≡ Some l → (l.block ≡ b)
    × ((j : ℕ) × (slice_get ls j ≡ Some l))
found_layout [] b l e = absurd (cc e)
found_layout (m ∷ ls) b l e = go (m.block == b) refl e (found_layout ls b l)
  where
    go : (t : Bool) → (m.block == b) ≡ t → (if t then Some m else layout_of ls b) ≡ Some l
        → (layout_of ls b ≡ Some l → (l.block ≡ b) × ((j : ℕ) × (slice_get ls j ≡ Some l))) → (l.block ≡ b)
        × ((j : ℕ) × (slice_get (m ∷ ls) j ≡ Some l))
    go true t e on = let s = same_Some m l e in (ap (λ z. z.block) (sym s) ∙ eqb-true m.block b t, (0, ap Some s))
    go false t e on = let (block_is, (j, there)) = on e in (block_is, (suc j, there))

no_parent : (o : Option ℕ) → is_none o ≡ true → o ≡ None
no_parent None e = refl
no_parent (Some x) e = absurd (cc e)

no_list : {T : Type 0} (xs : List T) → (length xs == 0) ≡ true → xs ≡ []
no_list [] e = refl
no_list (x ∷ xs) e = absurd (omega (arith, eqb-true (suc (length xs)) 0 e))

pub none_homes : (n : ℕ) (ls : List Layout) → homes_by n ls None ≡ []
none_homes zero ls = refl
none_homes (suc n) ls = refl

module _ (c : Parts) (k : KeepsCodeRules c) where
  -- the program has no parent and no formals
  pub programs : (b : ℕ) (l : Layout) → layout_of c.layouts b ≡ Some l → (l.block == 0) ≡ true → (l.parent ≡ None)
      × (l.formals ≡ [])
  programs b l e z =
      let at0 : layout_of c.layouts 0 ≡ Some l = subst (λ d. layout_of c.layouts d ≡ Some l)
      (sym (found_layout c.layouts b l e).0 ∙ eqb-true l.block 0 z) e in
      let p = and_parts (is_none l.parent && (length l.formals == 0)) (not l.answer) (k.program l at0) in
      let r = and_parts (is_none l.parent) (length l.formals == 0) p.0 in
      (no_parent l.parent r.0, no_list l.formals r.1)

  -- a layout that a number leads to
  abbrev pub IsFoundLayout : Option Layout → Type 0
  IsFoundLayout o = (l : Layout) → o ≡ Some l → (b : ℕ) × (layout_of c.layouts b ≡ Some l)

  found_parent : (o : Option ℕ) → IsFoundLayout (parent_of c.layouts o)
  found_parent None l e = absurd (cc e)
  found_parent (Some b) l e = (b, e)

  found_at_number : (b : ℕ) → IsFoundLayout (layout_of c.layouts b)
  found_at_number b l e = (b, e)

  -- what is around a block, its parent says
  around_is : (l : Layout) → IsFoundLayout (Some l) → around_layout c.layouts l ≡ parent_of c.layouts l.parent
  around_is l f = go (l.block == 0) refl
    where
      go : (t : Bool) → (l.block == 0) ≡ t → (if t then None else parent_of c.layouts l.parent)
          ≡ parent_of c.layouts l.parent
      go true t = let w = f l refl in sym (ap (parent_of c.layouts) (programs w.0 l w.1 t).0)
      go false t = refl

  pub homes_more : (n : ℕ) (l : Layout) → IsFoundLayout (Some l)
      → homes_by (suc n) c.layouts (Some l) ≡ OfBlock l.block ∷ homes_by n c.layouts (parent_of c.layouts l.parent)
  homes_more n l f = ap (λ o. OfBlock l.block ∷ homes_by n c.layouts o) (around_is l f)

  -- more steps find no more blocks
  pub stable : (n m : ℕ) (o : Option Layout) → IsFoundLayout o → leads_by n c.layouts o ≡ true → n ≤ m
      → homes_by m c.layouts o ≡ homes_by n c.layouts o
  stable zero m o f e h = absurd (cc e)
  stable (suc n) zero o f e h = absurd (omega (arith, h))
  stable (suc n) (suc m) None f e h = refl
  stable (suc n) (suc m) (Some l) f e h = homes_more m l f
      ∙ (go (l.block == 0) refl e (stable n m (parent_of c.layouts l.parent) (found_parent l.parent))
      ∙ sym (homes_more n l f))
    where
      go : (t : Bool) → (l.block == 0) ≡ t
          → (if t then true else leads_by n c.layouts (parent_of c.layouts l.parent)) ≡ true
          → (leads_by n c.layouts (parent_of c.layouts l.parent) ≡ true → n ≤ m
          → homes_by m c.layouts (parent_of c.layouts l.parent) ≡ homes_by n c.layouts
          (parent_of c.layouts l.parent))
          → OfBlock l.block ∷ homes_by m c.layouts (parent_of c.layouts l.parent) ≡ OfBlock l.block
          ∷ homes_by n c.layouts (parent_of c.layouts l.parent)
      go true t e on =
          let w = f l refl in
          let p : parent_of c.layouts l.parent ≡ None = ap (parent_of c.layouts) (programs w.0 l w.1 t).0 in
          ap (λ o. OfBlock l.block ∷ homes_by m c.layouts o) p
          ∙ (ap (λ hs. OfBlock l.block ∷ hs) (none_homes m c.layouts ∙ sym (none_homes n c.layouts))
          ∙ ap (λ o. OfBlock l.block ∷ homes_by n c.layouts o) (sym p))
      go false t e on = ap (λ hs. OfBlock l.block ∷ hs) (on e (omega (arith, h)))

  -- the blocks around a block around another one
  pub chain_drop : (n : ℕ) (o : Option Layout) (up d : ℕ) → IsFoundLayout o → leads_by n c.layouts o ≡ true
      → slice_get (homes_by n c.layouts o) up ≡ Some (OfBlock d)
      → (m : ℕ) × (leads_by m c.layouts (layout_of c.layouts d) ≡ true) × (m ≤ n)
      × (drop up (homes_by n c.layouts o) ≡ homes_by m c.layouts (layout_of c.layouts d))
  chain_drop zero o up d f e s = absurd (cc e)
  chain_drop (suc n) None up d f e s = absurd (cc s)
  chain_drop (suc n) (Some l) zero d f e s =
      let w = f l refl in
      let same : l.block ≡ d = ap (λ h. block_in h) (same_Some (OfBlock l.block) (OfBlock d) s) in
      let at : layout_of c.layouts d ≡ Some l = subst (λ z. layout_of c.layouts z ≡ Some l)
      (sym (found_layout c.layouts w.0 l w.1).0 ∙ same) w.1 in (
        suc n,
        subst (λ o. leads_by (suc n) c.layouts o ≡ true) (sym at) e,
        omega arith,
        ap
            (λ o. homes_by (suc n) c.layouts o) (sym at),
      )
    where
      block_in : Home → ℕ
      block_in (OfBlock b) = b
      block_in (OfIndex x) = 0
  chain_drop (suc n) (Some l) (suc up) d f e s = go (l.block == 0) refl e
      (chain_drop n (parent_of c.layouts l.parent) up d (found_parent l.parent))
    where
      s1 : slice_get (homes_by n c.layouts (parent_of c.layouts l.parent)) up ≡ Some (OfBlock d)
      s1 = ap (λ hs. slice_get hs (suc up)) (sym (homes_more n l f)) ∙ s

      go : (t : Bool) → (l.block == 0) ≡ t
          → (if t then true else leads_by n c.layouts (parent_of c.layouts l.parent)) ≡ true
          → (leads_by n c.layouts (parent_of c.layouts l.parent) ≡ true
          → slice_get (homes_by n c.layouts (parent_of c.layouts l.parent)) up ≡ Some (OfBlock d)
          → (m : ℕ) × (leads_by m c.layouts (layout_of c.layouts d) ≡ true) × (m ≤ n)
          × (drop up (homes_by n c.layouts (parent_of c.layouts l.parent)) ≡ homes_by m c.layouts
          (layout_of c.layouts d)))
          → (m : ℕ) × (leads_by m c.layouts (layout_of c.layouts d) ≡ true) × (m ≤ suc n)
          × (drop (suc up) (homes_by (suc n) c.layouts (Some l)) ≡ homes_by m c.layouts (layout_of c.layouts d))
      go true t e on =
          let w = f l refl in
          let p : homes_by n c.layouts (parent_of c.layouts l.parent) ≡ [] = ap
          (λ o. homes_by n c.layouts (parent_of c.layouts o)) (programs w.0 l w.1 t).0 ∙ none_homes n c.layouts in
          absurd (cc (subst (λ hs. slice_get hs up ≡ Some (OfBlock d)) p s1))
      go false t e on = let (m, leads, fewer, same) = on e s1 in
          (m, leads, omega (arith, fewer), ap (λ hs. drop (suc up) hs) (homes_more n l f) ∙ same)

  pub leads_of : (b : ℕ) (l : Layout) → layout_of c.layouts b ≡ Some l
      → leads_by (length c.layouts) c.layouts (layout_of c.layouts b) ≡ true
  leads_of b l e = subst (λ o. leads_by (length c.layouts) c.layouts o ≡ true) (sym e) (k.parents b l e)

  -- each block is led to the program, so the blocks around it are those that its parents lead to
  pub homes_of_block_nodes : (b : ℕ) → block_homes c b ≡ homes_by (length c.layouts) c.layouts (layout_of c.layouts b)
  homes_of_block_nodes b = go (layout_of c.layouts b) refl
    where
      none : (t : Bool) (hs : List Home) → hs ≡ [] → (if t then hs else []) ≡ hs
      none true hs e = refl
      none false hs e = sym e

      go : (o : Option Layout) → layout_of c.layouts b ≡ o
          → block_homes c b ≡ homes_by (length c.layouts) c.layouts (layout_of c.layouts b)
      go None e =
          let n = length c.layouts in
          ap (λ o. if leads_by n c.layouts o then homes_by n c.layouts o else single_home o) e
          ∙ (none (leads_by n c.layouts None) (homes_by n c.layouts None) (none_homes n c.layouts)
          ∙ ap (λ o. homes_by n c.layouts o) (sym e))
      go (Some l) e =
          let n = length c.layouts in let o = layout_of c.layouts b in
          ap (λ t. if t then homes_by n c.layouts o else single_home o) (leads_of b l e)

  pub block_drop : (b : ℕ) (l : Layout) (up d : ℕ) → layout_of c.layouts b ≡ Some l
      → slice_get (block_homes c b) up ≡ Some (OfBlock d) → drop up (block_homes c b) ≡ block_homes c d
  block_drop b l up d e s =
      let (m, leads, fewer, same) = chain_drop (length c.layouts) (layout_of c.layouts b) up d (found_at_number b)
      (leads_of b l e) (ap (λ hs. slice_get hs up) (sym (homes_of_block_nodes b)) ∙ s) in
      ap (λ hs. drop up hs) (homes_of_block_nodes b)
      ∙ (same ∙ (sym (stable m (length c.layouts) (layout_of c.layouts d) (found_at_number d) leads fewer)
      ∙ sym (homes_of_block_nodes d)))

  -- the blocks and indices around an area, from a block outward
  pub area_drop : (a : Area) (up d : ℕ) → IsArea c a → slice_get (homes c a) up ≡ Some (OfBlock d)
      → drop up (homes c a) ≡ block_homes c d
  area_drop (Body b) up d i s = block_drop b i.0 up d i.1 s
  area_drop (Child a p j) up d i s = go (index_of_child (child_at c p j)) up s (λ up s. area_drop a up d i.0 s)
    where
      go : (o : Option ℕ) (up : ℕ) → slice_get (with_home o (homes c a)) up ≡ Some (OfBlock d)
          → ((up : ℕ) → slice_get (homes c a) up ≡ Some (OfBlock d) → drop up (homes c a) ≡ block_homes c d)
          → drop up (with_home o (homes c a)) ≡ block_homes c d
      go None up s on = on up s
      go (Some x) zero s on = absurd (cc s)
      go (Some x) (suc up) s on = on up s

  -- ---- frames

  pub framed_up : (hs : List Home) (fs : List Frame) (up : ℕ) → Framed c.layouts hs fs
      → Framed c.layouts (drop up hs) (frames_up up fs)
  framed_up hs fs zero h = h
  framed_up [] [] (suc up) h = tt
  framed_up [] (f ∷ fs) (suc up) h = absurd h
  framed_up (x ∷ hs) [] (suc up) h = absurd h
  framed_up (x ∷ hs) (f ∷ fs) (suc up) (_, _, _, rest) = framed_up hs (last_frames f.link fs) up rest

  pub chained : (hs : List Home) (fs : List Frame) → Framed c.layouts hs fs → Chain hs fs
  chained [] [] h = tt
  chained [] (f ∷ fs) h = absurd h
  chained (x ∷ hs) [] h = absurd h
  chained (x ∷ hs) (f ∷ fs) (home_is, link_fits, _, rest) =
      (home_is, link_fits, chained hs (last_frames f.link fs) rest)

  some_frame : (h : Home) (hs : List Home) (fs : List Frame) → Framed c.layouts (h ∷ hs) fs → is_there fs ≡ true
  some_frame h hs [] x = absurd x
  some_frame h hs (f ∷ fs) x = refl

  pub is_block_of : (o : Option ℕ) (h : Option Home) → is_block o h ≡ true → (d : ℕ) × (o ≡ Some d)
      × (h ≡ Some (OfBlock d))
  is_block_of None h e = absurd (cc e)
  is_block_of (Some b) None e = absurd (cc e)
  is_block_of (Some b) (Some (OfBlock d)) e = (b, refl, ap (λ z. Some (OfBlock z)) (sym (eqb-true b d e)))
  is_block_of (Some b) (Some (OfIndex x)) e = absurd (cc e)

  -- a block that has one around it is not the program
  pub inner : (b : ℕ) (l : Layout) (h : Option Home) → layout_of c.layouts b ≡ Some l → is_block l.parent h ≡ true
      → (b == 0) ≡ false
  inner b l h e i = go (b == 0) refl
    where
      go : (t : Bool) → (b == 0) ≡ t → (b == 0) ≡ false
      go false t = t
      go true t =
          let w = is_block_of l.parent h i in
          let z : (l.block == 0) ≡ true = eq-eqb l.block 0 ((found_layout c.layouts b l e).0 ∙ eqb-true b 0 t) in
          absurd (none-some w.0 (sym (programs b l e z).0 ∙ w.1))

  -- those around a block: it, and those around the block around it
  pub homes_step : (b d : ℕ) (l : Layout) → layout_of c.layouts b ≡ Some l → (b == 0) ≡ false → l.parent ≡ Some d
      → block_homes c b ≡ OfBlock b ∷ block_homes c d
  homes_step b d l e nz pd = go (length c.layouts) refl (leads_of b l e)
    where
      named : l.block ≡ b
      named = (found_layout c.layouts b l e).0

      go : (n : ℕ) → length c.layouts ≡ n → leads_by (length c.layouts) c.layouts (layout_of c.layouts b) ≡ true
          → block_homes c b ≡ OfBlock b ∷ block_homes c d
      go zero s h = absurd (cc (subst (λ n. leads_by n c.layouts (layout_of c.layouts b) ≡ true) s h))
      go (suc n) s h =
          let l1 : leads_by (suc n) c.layouts (Some l) ≡ true = subst (λ o. leads_by (suc n) c.layouts o ≡ true) e
          (subst (λ n. leads_by n c.layouts (layout_of c.layouts b) ≡ true) s h) in
          let l2 : leads_by n c.layouts (parent_of c.layouts l.parent) ≡ true = subst
          (λ t. (if t then true else leads_by n c.layouts (parent_of c.layouts l.parent)) ≡ true)
          (ap (λ z. z == 0) named ∙ nz) l1 in
          let l3 : leads_by n c.layouts (layout_of c.layouts d) ≡ true = subst
          (λ o. leads_by n c.layouts (parent_of c.layouts o) ≡ true) pd l2 in
          homes_of_block_nodes b ∙ (ap (λ o. homes_by (length c.layouts) c.layouts o) e
          ∙ (ap (λ n. homes_by n c.layouts (Some l)) s ∙ (homes_more n l (λ m q. (b, e ∙ q))
          ∙ (ap (λ z. OfBlock z ∷ homes_by n c.layouts (parent_of c.layouts l.parent)) named
          ∙ (ap (λ o. OfBlock b ∷ homes_by n c.layouts (parent_of c.layouts o)) pd
          ∙ ap (λ hs. OfBlock b ∷ hs) (sym (homes_of_block_nodes d
          ∙ stable n (length c.layouts) (layout_of c.layouts d) (found_at_number d) l3 (omega (arith, s)))))))))

  pub outward : (a : Area) (fs : List Frame) (up b : ℕ) (l : Layout) → IsArea c a → Framed c.layouts (homes c a) fs
      → layout_of c.layouts b ≡ Some l → is_block l.parent (slice_get (homes c a) up) ≡ true
      → (is_there (frames_up up fs) ≡ true)
      × ((f : Frame) → f.home ≡ OfBlock b → f.link ≡ length (frames_up up fs)
      → RefersWell c.layouts f fs (OfBlock b) → Framed c.layouts (homes c (Body b)) (f ∷ fs))
  outward a fs up b l i fr e lev =
      let w = is_block_of l.parent (slice_get (homes c a) up) lev in
      let dr = area_drop a up w.0 i w.2 in
      let hd = drop_head (homes c a) up (OfBlock w.0) w.2 in
      let here = framed_up (homes c a) fs up fr in (
        some_frame (OfBlock w.0) hd.0 (frames_up up fs) (subst (λ hs. Framed c.layouts hs (frames_up up fs)) hd.1 here),
        λ f home link rf. subst (λ hs. Framed c.layouts hs (f ∷ fs))
            (sym (homes_step b w.0 l e (inner b l (slice_get (homes c a) up) e lev) w.1)) (
              home,
              subst (λ n. n ≤ length fs) (sym link) (up_length up fs),
              rf,
              subst (λ gs. Framed c.layouts (block_homes c w.0) gs) (sym (ap (λ n. last_frames n fs) link
                  ∙ last_up up fs)) (subst (λ hs. Framed c.layouts hs (frames_up up fs)) dr here),
            ),
      )

  pub newest : (b : ℕ) (l : Layout) (f : Frame) (fs : List Frame) → layout_of c.layouts b ≡ Some l
      → Framed c.layouts (homes c (Body b)) (f ∷ fs) → f.home ≡ OfBlock b
  newest b l f fs e fr = go (length c.layouts) refl (leads_of b l e)
      (subst (λ hs. Framed c.layouts hs (f ∷ fs)) (homes_of_block_nodes b) fr)
    where
      go : (n : ℕ) → length c.layouts ≡ n → leads_by n c.layouts (layout_of c.layouts b) ≡ true
          → Framed c.layouts (homes_by n c.layouts (layout_of c.layouts b)) (f ∷ fs) → f.home ≡ OfBlock b
      go zero s h fr = absurd (cc h)
      go (suc n) s h fr = (subst (λ o. Framed c.layouts (homes_by (suc n) c.layouts o) (f ∷ fs)) e fr).0
          ∙ ap OfBlock (found_layout c.layouts b l e).0

  -- ---- the variables around an area are different

  -- a variable of a home that is a block
  pub layout_variable : (b x : ℕ) → IsMember x (variables_in c.layouts (OfBlock b)) → (l : Layout)
      × (layout_of c.layouts b ≡ Some l)
      × ((j t : ℕ) × (slice_get c.layouts j ≡ Some l) × (slice_get l.variables t ≡ Some x))
  layout_variable b x m = go (layout_of c.layouts b) refl m
    where
      go : (o : Option Layout) → layout_of c.layouts b ≡ o → IsMember x (variables_of o) → (l : Layout) × (o ≡ Some l)
          × ((j t : ℕ) × (slice_get c.layouts j ≡ Some l) × (slice_get l.variables t ≡ Some x))
      go None e m = absurd m
      go (Some l) e m =
          let (_, (j, there)) = found_layout c.layouts b l e in
          let (place, _, has) = place_some x 0 l.variables m in
          (l, refl, (j, place, there, has))

  pub declared_here : (j t x : ℕ) (l : Layout) → slice_get c.layouts j ≡ Some l → slice_get l.variables t ≡ Some x
      → declaration_at c (InLayout j t) ≡ Some (x, l.entry)
  declared_here j t x l e s = ap (λ o. declared_in o t) e ∙ ap (λ o. on_option None o (λ y. Some (y, l.entry))) s

  abbrev layout_number : Declared → ℕ
  layout_number (InLayout j t) = j
  layout_number (OfChild t n) = 0

  abbrev layout_place : Declared → ℕ
  layout_place (InLayout j t) = t
  layout_place (OfChild t n) = 0

  -- two blocks that have one variable are one
  pub one_block : (b d x : ℕ) → IsMember x (variables_in c.layouts (OfBlock b))
      → IsMember x (variables_in c.layouts (OfBlock d)) → b ≡ d
  one_block b d x m n =
      let (one, one_found, (i, s, one_there, one_has)) = layout_variable b x m in
      let (two, two_found, (j, t, two_there, two_has)) = layout_variable d x n in
      let o = k.once (InLayout i s) (InLayout j t) x one.entry two.entry
      (declared_here i s x one one_there one_has) (declared_here j t x two two_there two_has) in
      let same : one ≡ two = same_Some one two (sym one_there
      ∙ (ap (λ z. slice_get c.layouts z) (ap layout_number o) ∙ two_there)) in
      sym (found_layout c.layouts b one one_found).0
      ∙ (ap (λ z. z.block) same ∙ (found_layout c.layouts d two two_found).0)

  -- the variables of a layout are different
  pub layout_different : (j : ℕ) (l : Layout) → slice_get c.layouts j ≡ Some l → AllDifferent l.variables
  layout_different j l e = go l.variables 0 (λ t x s. subst (λ i. slice_get l.variables i ≡ Some x) (is_none_plus t) s)
    where
      later : (n t : ℕ) → n ≡ n + suc t → ⊥
      later n t e = omega (arith, e)

      go : (xs : List ℕ) (n : ℕ) → ((t x : ℕ) → slice_get xs t ≡ Some x → slice_get l.variables (n + t) ≡ Some x)
          → AllDifferent xs
      go [] n h = tt
      go (x ∷ xs) n h = (
        λ m. let p = place_some x 0 xs m in twice n p.0 x
            (subst (λ i. slice_get l.variables i ≡ Some x) (add-zero n) (h 0 x refl)) (h (suc p.0) x p.2),
        go xs (suc n) (λ t y s. subst (λ i. slice_get l.variables i ≡ Some y) (next_goes_left n t) (h (suc t) y s)),
      )
        where
          twice : (n t x : ℕ) → slice_get l.variables n ≡ Some x → slice_get l.variables (n + suc t) ≡ Some x → ⊥
          twice n t x a b = later n t (ap layout_place
              (k.once (InLayout j n) (InLayout j (n + suc t)) x l.entry l.entry (declared_here j n x l e a)
              (declared_here j (n + suc t) x l e b)))

  pub home_different : (h : Home) → AllDifferent (variables_in c.layouts h)
  home_different (OfIndex x) = ((λ z. z), tt)
  home_different (OfBlock b) = go (layout_of c.layouts b) refl
    where
      go : (o : Option Layout) → layout_of c.layouts b ≡ o → AllDifferent (variables_of o)
      go None e = tt
      go (Some l) e = let (_, (j, there)) = found_layout c.layouts b l e in layout_different j l there

  -- where a variable around is
  pub member_home : (x : ℕ) (hs : List Home) → IsMember x (all_variables c.layouts hs) → (up : ℕ) × (h : Home)
      × (slice_get hs up ≡ Some h) × IsMember x (variables_in c.layouts h)
  member_home x [] m = absurd m
  member_home x (h ∷ hs) m = ⊎_elim (λ z. (0, h, refl, z))
      (λ z. let (up, home, at, has) = member_home x hs z in (suc up, home, at, has))
      (member_either x (variables_in c.layouts h) (all_variables c.layouts hs) m)

  -- no index is among the blocks around a block
  pub no_index : (n : ℕ) (o : Option Layout) (up x : ℕ) → slice_get (homes_by n c.layouts o) up ≡ Some (OfIndex x) → ⊥
  no_index zero o up x e = cc e
  no_index (suc n) None up x e = cc e
  no_index (suc n) (Some l) zero x e = cc e
  no_index (suc n) (Some l) (suc up) x e = no_index n (around_layout c.layouts l) up x e

  longer : (n : ℕ) (hs : List Home) (h : Home) → length (drop n hs) ≡ length (h ∷ hs) → ⊥
  longer n hs h e = omega (arith, length-drop n hs, e)

  pub chain_different : (n : ℕ) (o : Option Layout) → IsFoundLayout o → leads_by n c.layouts o ≡ true
      → AllDifferent (all_variables c.layouts (homes_by n c.layouts o))
  chain_different zero o f e = tt
  chain_different (suc n) None f e = tt
  chain_different (suc n) (Some l) f e = subst (λ hs. AllDifferent (all_variables c.layouts hs))
      (sym (homes_more n l f))
      (go (l.block == 0) refl e (chain_different n (parent_of c.layouts l.parent) (found_parent l.parent)))
    where
      H : List Home
      H = homes_by n c.layouts (parent_of c.layouts l.parent)

      here : layout_of c.layouts l.block ≡ Some l
      here = let w = f l refl in subst (λ d. layout_of c.layouts d ≡ Some l)
          (sym (found_layout c.layouts w.0 l w.1).0) w.1

      go : (t : Bool) → (l.block == 0) ≡ t
          → (if t then true else leads_by n c.layouts (parent_of c.layouts l.parent)) ≡ true
          → (leads_by n c.layouts (parent_of c.layouts l.parent) ≡ true
          → AllDifferent (all_variables c.layouts (homes_by n c.layouts (parent_of c.layouts l.parent))))
          → AllDifferent (variables_in c.layouts (OfBlock l.block)
          ++ all_variables c.layouts (homes_by n c.layouts (parent_of c.layouts l.parent)))
      go true t e1 on =
          let w = f l refl in
          let p : homes_by n c.layouts (parent_of c.layouts l.parent) ≡ [] = ap
          (λ o. homes_by n c.layouts (parent_of c.layouts o)) (programs w.0 l w.1 t).0 ∙ none_homes n c.layouts in
          subst (λ hs. AllDifferent (variables_in c.layouts (OfBlock l.block)
          ++ all_variables c.layouts hs)) (sym p)
          (different_join (variables_in c.layouts (OfBlock l.block)) [] (home_different (OfBlock l.block)) tt
          (λ x i j. j))
      go false t e1 on = different_join (variables_in c.layouts (OfBlock l.block))
          (all_variables c.layouts (homes_by n c.layouts (parent_of c.layouts l.parent)))
          (home_different (OfBlock l.block)) (on e1)
          (λ x i j. again x i (member_home x (homes_by n c.layouts (parent_of c.layouts l.parent)) j))
        where
          again : (x : ℕ) → IsMember x (variables_in c.layouts (OfBlock l.block)) → (up : ℕ) × (h : Home)
              × (slice_get (homes_by n c.layouts (parent_of c.layouts l.parent)) up ≡ Some h)
              × IsMember x (variables_in c.layouts h) → ⊥
          again x i (up, OfIndex y, s, m) = no_index n (parent_of c.layouts l.parent) up y s
          again x i (up, OfBlock d, s, m) =
              let same = one_block l.block d x i m in
              let (steps, leads, fewer, same_homes) = chain_drop n (parent_of c.layouts l.parent) up d
              (found_parent l.parent) e1 s in
              let at : layout_of c.layouts d ≡ Some l = subst (λ z. layout_of c.layouts z ≡ Some l) same here in
              let lead : leads_by steps c.layouts (Some l) ≡ true =
              subst (λ o. leads_by steps c.layouts o ≡ true) at leads in
              let st = stable steps (suc n) (Some l) f lead (omega (arith, fewer)) in
              longer up (homes_by n c.layouts (parent_of c.layouts l.parent)) (OfBlock l.block) (ap length (same_homes
              ∙ (ap (λ o. homes_by steps c.layouts o) at ∙ (sym st ∙ homes_more n l f))))

  -- how deep an area lies
  abbrev pub depth : Area → ℕ
  depth (Body b) = 0
  depth (Child a p j) = suc (depth a)

  -- the child whose index is among those around
  pub index_in : (a : Area) (up x : ℕ) → IsArea c a → slice_get (homes c a) up ≡ Some (OfIndex x)
      → (b : Area) × (p j : ℕ) × LiesIn c p b × (index_of_child (child_at c p j) ≡ Some x) × (suc (depth b) ≤ depth a)
  index_in (Body b) up x i s = absurd
      (no_index (length c.layouts) (layout_of c.layouts b) up x
      (ap (λ hs. slice_get hs up) (sym (homes_of_block_nodes b)) ∙ s))
  index_in (Child a p j) up x i s = go (index_of_child (child_at c p j)) refl up s (λ up s. index_in a up x i.0 s)
    where
      deeper : (b : Area) → suc (depth b) ≤ depth a → suc (depth b) ≤ depth (Child a p j)
      deeper b h = omega (arith, h)

      here : suc (depth a) ≤ depth (Child a p j)
      here = omega arith

      index_is : Home → ℕ
      index_is (OfBlock b) = 0
      index_is (OfIndex y) = y

      go : (o : Option ℕ) → index_of_child (child_at c p j) ≡ o → (up : ℕ)
          → slice_get (with_home o (homes c a)) up ≡ Some (OfIndex x)
          → ((up : ℕ) → slice_get (homes c a) up ≡ Some (OfIndex x) → (b : Area) × (p j : ℕ) × LiesIn c p b
          × (index_of_child (child_at c p j) ≡ Some x) × (suc (depth b) ≤ depth a))
          → (b : Area) × (q m : ℕ) × LiesIn c q b × (index_of_child (child_at c q m) ≡ Some x)
          × (suc (depth b) ≤ depth (Child a p j))
      go None e up s on = let (b, q, m, lies, index, deep) = on up s in (b, q, m, lies, index, deeper b deep)
      go (Some y) e zero s on = (
        a,
        p,
        j,
        (i.0, i.1),
        e
            ∙ ap Some (ap index_is (same_Some (OfIndex y) (OfIndex x) s)),
        here,
      )
      go (Some y) e (suc up) s on = let (b, q, m, lies, index, deep) = on up s in (b, q, m, lies, index, deeper b deep)

  -- what declares the index of a child
  pub index_declared : (p j x : ℕ) → index_of_child (child_at c p j) ≡ Some x → (t : ℕ) × Names c t p
      × ((e : ℕ) × (declaration_at c (OfChild t j) ≡ Some (x, e)))
  index_declared p j x s = go (table_named (instr_at c p)) refl s
    where
      by : (o : Option ChildTable) → index_of_child o ≡ Some x → (e : ℕ) × (declared_by o ≡ Some (x, e))
      by None s = absurd (cc s)
      by (Some t) s = (t.entry, ap (λ o. on_option None o (λ y. Some (y, t.entry))) s)

      go : (o : Option ℕ) → table_named (instr_at c p) ≡ o → index_of_child (child_of (table_at c.forks o) j) ≡ Some x
          → (t : ℕ) × Names c t p × ((e : ℕ) × (declaration_at c (OfChild t j) ≡ Some (x, e)))
      go None e s = absurd (cc s)
      go (Some t) e s = (t, e, by (child_of (slice_get c.forks t) j) s)

  abbrev table_number : Declared → ℕ
  table_number (InLayout j t) = 0
  table_number (OfChild t n) = t

  pub area_different : (a : Area) → IsArea c a → AllDifferent (all_variables c.layouts (homes c a))
  area_different (Body b) i = subst (λ hs. AllDifferent (all_variables c.layouts hs)) (sym (homes_of_block_nodes b))
      (chain_different (length c.layouts) (layout_of c.layouts b) (found_at_number b) (leads_of b i.0 i.1))
  area_different (Child a p j) i = go (index_of_child (child_at c p j)) refl (area_different a i.0)
    where
      again : (x : ℕ) → index_of_child (child_at c p j) ≡ Some x → (up : ℕ) × (h : Home)
          × (slice_get (homes c a) up ≡ Some h) × IsMember x (variables_in c.layouts h) → ⊥
      again x e (up, OfBlock d, s, m) =
          let (l, _, (number, place, l_there, l_has)) = layout_variable d x m in
          let (t, _, (child_entry, declared)) = index_declared p j x e in
          let o = k.once (InLayout number place) (OfChild t j) x l.entry child_entry
          (declared_here number place x l l_there l_has) declared in
          cc o
      again x e (up, OfIndex y, s, inl m) =
          let (b, q, n, lies, index, deep) = index_in a up x i.0 (s ∙ ap (λ z. Some (OfIndex z)) (sym m)) in
          let (t, t_named, (t_entry, t_declared)) = index_declared q n x index in
          let (u, u_named, (u_entry, u_declared)) = index_declared p j x e in
          let o = k.once (OfChild t n) (OfChild u j) x t_entry u_entry t_declared u_declared in
          let at : q ≡ p = k.one_name u q p (subst (λ z. Names c z q) (ap table_number o) t_named) u_named in
          let same : b ≡ a = k.apart p b a (subst (λ z. LiesIn c z b) at lies) (i.0, i.1) in
          below (depth b) (depth a) deep (ap depth same)
        where
          below : (m n : ℕ) → suc m ≤ n → m ≡ n → ⊥
          below m n h e = omega (arith, h, e)
      again x e (up, OfIndex y, s, inr m) = m

      go : (o : Option ℕ) → index_of_child (child_at c p j) ≡ o → AllDifferent (all_variables c.layouts (homes c a))
          → AllDifferent (all_variables c.layouts (with_home o (homes c a)))
      go None e on = on
      go (Some x) e on = (λ m. again x e (member_home x (homes c a) m), on)

  -- ---- a variable found is where its address leads

  -- what is found in a layout
  abbrev IsPlainly : Layout → ℕ → VariableInfo → Type 0
  IsPlainly l t f = (f.naming ≡ Plainly) × (slice_get l.sizes t ≡ Some f.cells)
      × ((slice_get l.formals t ≡ None) ⊎ ((n : ℕ) × (slice_get l.formals t ≡ Some (formal.Value n))))

  abbrev IsReferred : Layout → ℕ → VariableInfo → Type 0
  IsReferred l t f = (f.naming ≡ ByReference) × (slice_get l.formals t ≡ Some (formal.Reference f.cells))

  found_cases : (l : Layout) (t : ℕ) (f : VariableInfo) → found_in l t ≡ Some f
      → (slice_get l.variables t ≡ Some f.number)
      × (IsPlainly l t f ⊎ IsReferred l t f)
  found_cases l t f e = go (slice_get l.variables t) (slice_get l.formals t) (slice_get l.sizes t) refl refl e
    where
      go : (o : Option ℕ) (m : Option Formal) (z : Option ℕ) → slice_get l.formals t ≡ m → slice_get l.sizes t ≡ z
          → on_option None o (λ x. found_by x m z) ≡ Some f
          → (o ≡ Some f.number)
          × (((f.naming ≡ Plainly) × (z ≡ Some f.cells) × ((m ≡ None) ⊎ ((n : ℕ) × (m ≡ Some (formal.Value n)))))
          ⊎ ((f.naming ≡ ByReference) × (m ≡ Some (formal.Reference f.cells))))
      go None m z em ez h = absurd (cc h)
      go (Some x) None None em ez h = absurd (cc h)
      go (Some x) None (Some n) em ez h = let s = same_Some (record { number = x; cells = n; naming = Plainly }) f h in
          (ap (λ z. Some z.number) s, inl (ap (λ z. z.naming) (sym s), ap (λ z. Some z.cells) s, inl refl))
      go (Some x) (Some (formal.Value y)) None em ez h = absurd (cc h)
      go (Some x) (Some (formal.Value y)) (Some n) em ez h = let s = same_Some
          (record { number = x; cells = n; naming = Plainly }) f h in
          (ap (λ z. Some z.number) s, inl (ap (λ z. z.naming) (sym s), ap (λ z. Some z.cells) s, inr (y, refl)))
      go (Some x) (Some (formal.Reference n)) z em ez h = let s = same_Some
          (record { number = x; cells = n; naming = ByReference }) f h in
          (ap (λ z. Some z.number) s, inr (ap (λ z. z.naming) (sym s), ap (λ z. Some (formal.Reference z.cells)) s))

  -- and in a frame of its block
  record InFrame (l : Layout) (var : ℕ) (f : VariableInfo) : Type 0 where
    place : ℕ
    at : var ≡ first_number l + place
    found : found_in l place ≡ Some f
    size : size_of (Some l) var ≡ slice_get l.sizes place
    formals : slice_get l.formals var ≡ slice_get l.formals place

  in_frame : (b : ℕ) (l : Layout) (var : ℕ) (f : VariableInfo) → layout_of c.layouts b ≡ Some l
      → found_of (Some l) var ≡ Some f → (f.naming ≡ Never) ⊎ InFrame l var f
  in_frame b l var f e h = go (l.block == 0) refl h
    where
      no_formal : (xs : List Formal) → xs ≡ [] → (n m : ℕ) → slice_get xs n ≡ slice_get xs m
      no_formal [] z n m = refl
      no_formal (x ∷ xs) z n m = absurd (cc z)

      two : (n : ℕ) → nat_lt n 2 ≡ false → n ≡ 2 + (n - 2)
      two n z = Prim.grind (arith, z)

      go : (t : Bool) → (l.block == 0) ≡ t
          → (if t then (if nat_lt var 2 then Some (console var) else found_in l (var - 2)) else found_in l var) ≡ Some f
          → (f.naming ≡ Never) ⊎ InFrame l var f
      go false t h = inr (record {
        place = var;
        at = let z : var ≡ 0 + var = omega arith in z ∙ ap (λ (b : Bool). (if b then 2 else 0) + var) (sym t);
        found = h;
        size = ap (λ (b : Bool). if b then
            (if nat_lt var 2 then (if var == 0 then Some 1 else None) else slice_get l.sizes
            (var - 2)) else slice_get l.sizes var) t;
        formals = refl;
      })
      go true t h = low (nat_lt var 2) refl h
        where
          low : (s : Bool) → nat_lt var 2 ≡ s → (if s then Some (console var) else found_in l (var - 2)) ≡ Some f
              → (f.naming ≡ Never) ⊎ InFrame l var f
          low true s h = inl (ap (λ z. z.naming) (sym (same_Some (console var) f h)))
          low false s h = inr (record {
            place = var - 2;
            at = two var s ∙ ap (λ (b : Bool). (if b then 2 else 0) + (var - 2)) (sym t);
            found = h;
            size = ap (λ (b : Bool). if b then
                (if nat_lt var 2 then (if var == 0 then Some 1 else None) else slice_get l.sizes
                (var - 2)) else slice_get l.sizes var) t
                ∙ ap (λ (b : Bool). if b then (if var == 0 then Some 1 else None) else slice_get l.sizes (var - 2)) s;
            formals = no_formal l.formals (programs b l e t).1 var (var - 2);
          })

  -- what an address to a variable needs
  record Resolved (h : Home) (f : Frame) (gs : List Frame) (x : ℕ) (p : Address) (cells : ℕ) : Type 0 where
    real : 2 ≤ x
    member : IsMember x (variables_in c.layouts h)
    spot : spot_in c.layouts f h x ≡ Some p.spot
    size : ℕ
    extent : extent_in c.layouts f gs h x ≡ Some size
    fits : p.offset + cells ≤ size
    small : size ≤ 4294967295

  plain_naming : (n : Naming) → is_plain n ≡ true → (n ≡ Never → ⊥) × (n ≡ ByReference → ⊥)
  plain_naming Plainly e = (λ z. cc z, λ z. cc z)
  plain_naming Never e = absurd (cc e)
  plain_naming ByReference e = absurd (cc e)

  reference_naming : (n : Naming) → is_reference n ≡ true → (n ≡ Never → ⊥) × (n ≡ Plainly → ⊥)
  reference_naming Plainly e = absurd (cc e)
  reference_naming Never e = absurd (cc e)
  reference_naming ByReference e = (λ z. cc z, λ z. cc z)

  module _ (b : ℕ) (l : Layout) (le : layout_of c.layouts b ≡ Some l) (f : Frame) (gs : List Frame)
      (home : f.home ≡ OfBlock b) (var : ℕ) (v : VariableInfo) (i : InFrame l var v) where
    cases : (slice_get l.variables i.place ≡ Some v.number) × (IsPlainly l i.place v ⊎ IsReferred l i.place v)
    cases = found_cases l i.place v i.found

    is_real : 2 ≤ v.number
    is_real = let j = (found_layout c.layouts b l le).1 in k.real (InLayout j.0 i.place) v.number l.entry
        (declared_here j.0 i.place v.number l j.1 cases.0)

    is_member : IsMember v.number (variables_in c.layouts (OfBlock b))
    is_member = subst (λ o. IsMember v.number (variables_of o)) (sym le)
        (member_at v.number i.place l.variables cases.0)

    placed : place_of v.number (first_number l) l.variables ≡ Some var
    placed = let j = (found_layout c.layouts b l le).1 in place_at v.number (first_number l) i.place l.variables
        (layout_different j.0 l j.1) cases.0 ∙ ap Some (sym i.at)

    spot_here : spot_in c.layouts f (OfBlock b) v.number ≡ spot_by f var (slice_get l.formals i.place)
    spot_here = ap (λ o. spot_of_layout f v.number o) le
        ∙ (ap (λ o. spot_at f l o) placed ∙ ap (λ o. spot_by f var o) i.formals)

    extent_here : extent_in c.layouts f gs (OfBlock b) v.number ≡ extent_by c.layouts f gs var
        (slice_get l.formals i.place)
    extent_here = ap (λ o. extent_of_layout c.layouts f gs v.number o) le
        ∙ (ap (λ o. extent_at c.layouts f gs l o) placed ∙ ap (λ o. extent_by c.layouts f gs var o) i.formals)

    size_here : size_at c.layouts f.home var ≡ slice_get l.sizes i.place
    size_here = ap (λ h. size_at c.layouts h var) home ∙ (ap (λ o. size_of o var) le ∙ i.size)

    plainly : is_plain v.naming ≡ true → Resolved (OfBlock b) f gs v.number (cell_at f.number var) v.cells
    plainly pn = ⊎_elim by_plain (λ z. absurd ((plain_naming v.naming pn).1 z.0)) cases.1
      where
        by_plain : IsPlainly l i.place v → Resolved (OfBlock b) f gs v.number (cell_at f.number var) v.cells
        by_plain (n, s, inl z) = record {
          real = is_real;
          member = is_member;
          spot = spot_here
              ∙ ap (λ o. spot_by f var o) z;
          size = v.cells;
          extent = extent_here
              ∙ (ap (λ o. extent_by c.layouts f gs var o) z
              ∙ (size_here ∙ s));
          fits = omega arith;
          small = k.small b l le i.place v.cells s;
        }
        by_plain (n, s, inr z) = record {
          real = is_real;
          member = is_member;
          spot = spot_here
              ∙ ap (λ o. spot_by f var o) z.1;
          size = v.cells;
          extent = extent_here
              ∙ (ap (λ o. extent_by c.layouts f gs var o) z.1
              ∙ (size_here ∙ s));
          fits = omega arith;
          small = k.small b l le i.place v.cells s;
        }

    by_reference : is_reference v.naming ≡ true → RefersWell c.layouts f gs (OfBlock b) → (q : Address)
        × (reference_target var f.references ≡ Some q) × Resolved (OfBlock b) f gs v.number q v.cells
    by_reference rn rw1 = ⊎_elim (λ z. absurd ((reference_naming v.naming rn).1 z.0)) referring cases.1
      where
        referring : IsReferred l i.place v → (q : Address) × (reference_target var f.references ≡ Some q)
            × Resolved (OfBlock b) f gs v.number q v.cells
        referring (n, z) =
            let r = rw1 l le var v.cells (i.formals ∙ z) in (
              r.address,
              r.address_is,
              record {
                real = is_real;
                member = is_member;
                spot = spot_here ∙ (ap (λ o. spot_by f var o) z ∙ ap spot_of_address r.address_is);
                size = r.size;
                extent = extent_here ∙ (ap (λ o. extent_by c.layouts f gs var o) z
                    ∙ (ap (λ o. size_behind c.layouts gs o) r.address_is ∙ r.whole));
                fits = r.fits;
                small = r.small;
              },
            )

  -- an index that is around an area is declared
  index_real : (a : Area) (up x : ℕ) → IsArea c a → slice_get (homes c a) up ≡ Some (OfIndex x) → 2 ≤ x
  index_real a up x i s =
      let (_, p, j, _, index, _) = index_in a up x i s in
      let (t, _, (child_entry, declared)) = index_declared p j x index in
      k.real (OfChild t j) x child_entry declared

  plain_at : (h : Home) (f : Frame) (gs : List Frame) (var : ℕ) (v : VariableInfo) → f.home ≡ h
      → found_at c.layouts h var ≡ Some v → is_plain v.naming ≡ true → ((x : ℕ) → h ≡ OfIndex x → 2 ≤ x)
      → Resolved h f gs v.number (cell_at f.number var) v.cells
  plain_at (OfBlock b) f gs var v home e pn real = go (layout_of c.layouts b) refl e
    where
      go : (o : Option Layout) → layout_of c.layouts b ≡ o → found_of o var ≡ Some v
          → Resolved (OfBlock b) f gs v.number (cell_at f.number var) v.cells
      go None le h = absurd (cc h)
      go (Some l) le h = ⊎_elim (λ z. absurd ((plain_naming v.naming pn).0 z))
          (λ z. plainly b l le f gs home var v z pn) (in_frame b l var v le h)
  plain_at (OfIndex x) f gs var v home e pn real = go (var == 0) refl e
    where
      go : (t : Bool) → (var == 0) ≡ t
          → (if t then Some (record { number = x; cells = 1; naming = Plainly }) else None) ≡ Some v
          → Resolved (OfIndex x) f gs v.number (cell_at f.number var) v.cells
      go false t h = absurd (cc h)
      go true t h =
          let s = same_Some (record { number = x; cells = 1; naming = Plainly }) v h in
          let n : v.number ≡ x = ap (λ z. z.number) (sym s) in
          record {
            real = subst (λ z. 2 ≤ z) (sym n) (real x refl);
            member = inl n;
            spot = ap (λ b. if b then Some (record { frame = f.number; variable = 0 }) else None) (is_same v.number x n)
                ∙ ap (λ z. Some (record { frame = f.number; variable = z })) (sym (eqb-true var 0 t));
            size = 1;
            extent = ap (λ b. if b then Some 1 else None) (is_same v.number x n);
            fits = let m : v.cells ≡ 1 = ap (λ z. z.cells) (sym s) in omega (arith, m);
            small = omega arith;
          }

  reference_at : (h : Home) (f : Frame) (gs : List Frame) (var : ℕ) (v : VariableInfo) → f.home ≡ h
      → RefersWell c.layouts f gs h → found_at c.layouts h var ≡ Some v → is_reference v.naming ≡ true → (q : Address)
      × (reference_target var f.references ≡ Some q) × Resolved h f gs v.number q v.cells
  reference_at (OfBlock b) f gs var v home rf e rn = go (layout_of c.layouts b) refl e
    where
      go : (o : Option Layout) → layout_of c.layouts b ≡ o → found_of o var ≡ Some v → (q : Address)
          × (reference_target var f.references ≡ Some q) × Resolved (OfBlock b) f gs v.number q v.cells
      go None le h = absurd (cc h)
      go (Some l) le h = ⊎_elim (λ z. absurd ((reference_naming v.naming rn).0 z))
          (λ z. by_reference b l le f gs home var v z rn rf) (in_frame b l var v le h)
  reference_at (OfIndex x) f gs var v home rf e rn = go (var == 0) e
    where
      go : (t : Bool) → (if t then Some (record { number = x; cells = 1; naming = Plainly }) else None) ≡ Some v
          → (q : Address) × (reference_target var f.references ≡ Some q) × Resolved (OfIndex x) f gs v.number q v.cells
      go false h = absurd (cc h)
      go true h = absurd ((reference_naming v.naming rn).1
          (ap (λ z. z.naming) (sym (same_Some (record { number = x; cells = 1; naming = Plainly }) v h))))

  module _ (a : Area) (fs : List Frame) (up : ℕ) (i : IsArea c a) (fr : Framed c.layouts (homes c a) fs) (h : Home)
      (at : slice_get (homes c a) up ≡ Some h) where
    hd : (t : List Home) × (drop up (homes c a) ≡ h ∷ t)
    hd = drop_head (homes c a) up h at

    -- the frame there
    at_frame : (f : Frame) × (gs : List Frame) × (frames_up up fs ≡ f ∷ gs) × (f.home ≡ h) × RefersWell c.layouts f gs h
    at_frame = go (frames_up up fs) refl
        (subst (λ hs. Framed c.layouts hs (frames_up up fs)) hd.1 (framed_up (homes c a) fs up fr))
      where
        go : (gs : List Frame) → frames_up up fs ≡ gs → Framed c.layouts (h ∷ hd.0) gs → (f : Frame) × (gs : List Frame)
            × (frames_up up fs ≡ f ∷ gs) × (f.home ≡ h) × RefersWell c.layouts f gs h
        go [] e z = absurd z
        go (f ∷ gs) e z = (f, gs, e, z.0, z.2)

    -- an address that is resolved in that frame stands in the variable as seen from here
    pointing : (f : Frame) (gs : List Frame) (x cells : ℕ) (p : Address) → frames_up up fs ≡ f ∷ gs
        → Resolved h f gs x p cells → Points c.layouts fs x cells p
    pointing f gs x cells p e r =
        let ch = chained (homes c a) fs fr in
        let dif = area_different a i in
        let m : IsMember x (all_variables c.layouts (drop up (homes c a))) = subst
        (λ hs. IsMember x (all_variables c.layouts hs)) (sym hd.1)
        (member_front x (variables_in c.layouts h) (all_variables c.layouts hd.0) r.member) in
        record {
          real = r.real;
          stands = spot_is c.layouts (homes c a) fs x r.real ch
              ∙ (stands_up c.layouts x up (homes c a) fs ch dif m
              ∙ (ap (λ hs. spot_by_homes c.layouts hs (frames_up up fs) x) hd.1
              ∙ (ap (λ gs. spot_by_homes c.layouts (h ∷ hd.0) gs x) e
              ∙ ap (λ o. or_outward o (spot_by_homes c.layouts hd.0 (last_frames f.link gs) x)) r.spot)));
          size = r.size;
          whole = size_is c.layouts (homes c a) fs x r.real ch
              ∙ (extends_up c.layouts x up (homes c a) fs ch dif m
              ∙ (ap (λ hs. extent_by_homes c.layouts hs (frames_up up fs) x) hd.1
              ∙ (ap (λ gs. extent_by_homes c.layouts (h ∷ hd.0) gs x) e
              ∙ ap (λ o. or_further o (extent_by_homes c.layouts hd.0 (last_frames f.link gs) x)) r.extent)));
          fits = r.fits;
          small = r.small;
        }

  -- a variable that is found is found in a home
  home_of : (a : Area) (up var : ℕ) (v : VariableInfo) → variable_at c a up var ≡ Some v → (h : Home)
      × (slice_get (homes c a) up ≡ Some h) × (found_at c.layouts h var ≡ Some v)
  home_of a up var v e = go (slice_get (homes c a) up) refl e
    where
      go : (o : Option Home) → slice_get (homes c a) up ≡ o → on_option None o (λ h. found_at c.layouts h var) ≡ Some v
          → (h : Home) × (slice_get (homes c a) up ≡ Some h) × (found_at c.layouts h var ≡ Some v)
      go None s e = absurd (cc e)
      go (Some h) s e = (h, s, e)

  pub scoped : Scoped c
  scoped = record {
    plain = λ a fs up var v i fr e pn.
        let (h, at, found) = home_of a up var v e in
        let (f, gs, frames_are, home_is, _) = at_frame a fs up i fr h at in (
          cell_at f.number var,
          ap (λ z. addr_in z var) frames_are,
          pointing a fs up i fr h at f gs v.number v.cells (cell_at f.number var) frames_are
              (plain_at h f gs var v home_is found pn (λ x s. index_real a up x i (at ∙ ap Some s))),
        );
    refers = λ a fs up var v i fr e rn.
        let (h, at, found) = home_of a up var v e in
        let (f, gs, frames_are, home_is, refers_well) = at_frame a fs up i fr h at in
        let (q, target_is, resolved) = reference_at h f gs var v home_is refers_well found rn in (
          q,
          ap (λ z. deref_in z var) frames_are ∙ target_is,
          pointing a fs up i fr h at f gs v.number v.cells q frames_are resolved,
        );
    outward = outward;
    inner = inner;
    named = λ b l e. (found_layout c.layouts b l e).0;
    newest = newest;
  }
