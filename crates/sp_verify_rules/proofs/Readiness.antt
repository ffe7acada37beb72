-- A process that lives has what its next instruction needs of the memory.
use Rattle.std.proofs.Common.{◌≡◌, inr, ⊎_elim, ℕ, zero, suc, ◌+◌, ◌-◌, ◌≤◌, ◌==◌, List, [], ◌∷◌, ◌++◌}
use Rattle.std.proofs.Common.{length, Option, Some, None, true, false, refl, sym, ap, ◌∙◌, subst, arith, if◌then◌else◌}
use Rattle.std.proofs.Common.{zero-add}
use Rattle.std.specs.Prelude.{slice_get, IsSome, nat_le}
use Rattle.std.proofs.lemmas.Bool.{eqb-true, le-leb, and_parts}
use Rattle.std.specs.FinMap as map
use Rattle.std.proofs.lemmas.Option.{same_Some, slice_get_within}
use Rattle.sp_base.proofs.Facts.{item_there}
use Rattle.sp_tree.specs.Interference.{IsMember, AllDifferent}
use Rattle.sp_tree.proofs.Members.{member_at, member_either}
use Rattle.sp_cell.specs.Map.{Plain, Content, Own, Shared, Output, Away, IsOutput, output_of, output_spot}
use Rattle.sp_code.specs.declared.code.Formal.{Formal}
use Rattle.sp_code.specs.declared.code.Layout.{Layout}
use Rattle.sp_code.specs.Machine.{Config, At, Entry, layout_of}
use Rattle.sp_code.specs.Memory.{CodeRun, Home, OfBlock, Frame, Memory, memory, is_held, left_after}
use Rattle.sp_code.specs.Memory.{position_in, has_cells, last_frames, cell_at, answer_in, answer_of, answer_by}
use Rattle.sp_code.specs.PlainStore.{plain, piece_of}
use Rattle.sp_code.specs.System.{spot_of, spot_of_layout, spot_at, spot_by, or_outward, place_of, first_number}
use Rattle.sp_verify_rules.specs.Areas.{Area, Body, homes, instr_at}
use Rattle.sp_verify_rules.specs.Chains.{Chain, variables_of, spot_by_homes, extent_by_homes}
use Rattle.sp_verify_rules.specs.Effects.{Stored, Loaded, Does, May}
use Rattle.sp_verify_rules.specs.Extents.{HasWhole, extent_of_layout, extent_at, extent_by, size_of, or_further}
use Rattle.sp_verify_rules.specs.Forks.{KeepsEffects}
use Rattle.sp_verify_rules.specs.HeldEffects.{Allowed, Holding, input_spot}
use Rattle.sp_verify_rules.specs.KeepsCodeRules.{KeepsCodeRules}
use Rattle.sp_verify_rules.specs.NameRules.{Unknown, begins_with, formals_cells, answer_cells}
use Rattle.sp_verify_rules.specs.Reach.{IsArea, Reaches}
use Rattle.sp_verify_rules.specs.ProcessLife.{Base, HasConsole, HasActivations}
use Rattle.sp_verify_rules.specs.Shapes.{Shape}
use Rattle.sp_verify_rules.specs.Touches.{stored_by, loaded_by, touched_by, HasAnswer}
use Rattle.sp_verify_rules.proofs.Chains.{spot_is, size_is}
use Rattle.sp_verify_rules.proofs.Holdings.{head, next_low, may_go}
use Rattle.sp_verify_rules.proofs.Instances.{may_do}
use Rattle.sp_verify_rules.proofs.Lists.{place_some}
use Rattle.sp_verify_rules.proofs.FrameScopes.{found_layout}

-- different numbers stand at one place each
one_place : (xs : List ℕ) (n m x : ℕ) → AllDifferent xs → slice_get xs n ≡ Some x → slice_get xs m ≡ Some x → n ≡ m
one_place [] n m x d e f = absurd (cc e)
one_place (y ∷ xs) zero zero x d e f = refl
one_place (y ∷ xs) zero (suc m) x d e f = absurd
    (d.0 (subst (λ z. IsMember z xs) (sym (same_Some _ _ e)) (member_at xs m x f)))
one_place (y ∷ xs) (suc n) zero x d e f = absurd
    (d.0 (subst (λ z. IsMember z xs) (sym (same_Some _ _ f)) (member_at xs n x e)))
one_place (y ∷ xs) (suc n) (suc m) x d e f = ap suc (one_place xs n m x d.1 e f)

-- the size behind those of the formals
answer_size : (fs : List Formal) (zs : List ℕ) → begins_with (formals_cells fs ++ answer_cells true) zs ≡ true
    → slice_get zs (length fs) ≡ Some 1
answer_size [] [] b = absurd (cc b)
answer_size [] (z ∷ zs) b = ap Some (sym (eqb-true 1 z (and_parts (1 == z) true b).0))
answer_size (g ∷ fs) [] b = absurd (cc b)
answer_size (g ∷ fs) (z ∷ zs) b = answer_size fs zs
    (and_parts (Rattle.sp_verify_rules.specs.NameRules.formal_cells g == z) (begins_with (formals_cells fs
    ++ answer_cells true) zs) b).1

none_behind : {X : Type 0} (fs : List X) → slice_get fs (length fs) ≡ None
none_behind [] = refl
none_behind (g ∷ fs) = none_behind fs

module _ (g : CodeRun) (k : KeepsCodeRules g.code) (e : KeepsEffects g.code (Does g.code)) (known : (p : ℕ)
    → Unknown g.code p
    → ⊥) (T : List Area → Config (Memory Plain) → Type 0) (b : Base g (homes g.code) (May g.code) T) where
  module _ (a : Area) (us : List Area) (pc : ℕ) (st : List Entry) (n : Memory Plain)
      (l : HasActivations g (homes g.code) (May g.code) T b (a ∷ us) (At pc st n)) (area : IsArea g.code a) where
    mine : Chain (homes g.code a) n.frames
        × Allowed g.code.layouts (HasConsole g (homes g.code) (May g.code) T b.area)
        (May g.code a) l.holding.bound n.frames n.store.map
    mine = head g.code.layouts (homes g.code) (May g.code)
        (HasConsole g (homes g.code) (May g.code) T b.area) l.holding.bound a us n.frames n.store.map l.holding.allowed

    -- what it may touch is held whole
    pub whole_of : (x : ℕ) → 2 ≤ x → May g.code a x → HasWhole plain g.code.layouts n x
    whole_of zero r m = absurd (omega (arith, r))
    whole_of (suc zero) r m = absurd (omega (arith, r))
    whole_of (suc (suc x)) r m =
        let (there, stands_there, _, (cs, piece_is, extent_is, size_is)) = mine.1.held (suc (suc x)) m in
        record { spot = there; cells = cs; stands = stands_there; piece = piece_is; whole = extent_is; known = size_is }

    pub input_of : May g.code a 0 → IsSome ((memory plain g).left n)
    input_of m =
        let (there, stands, _, (v, position_is)) = mine.1.held 0 m in
        let is : there ≡ input_spot = sym (same_Some _ _ stands) in
        let at : position_in (piece_of (map.get n.store.map input_spot)) ≡ Some v = ap
        (λ q. position_in (piece_of (map.get n.store.map q))) (sym is) ∙ position_is in
        subst (λ o. IsSome (left_after g.input o)) (sym at) refl

    pub output_of_it : May g.code a 1 → (memory plain g).has_output n ≡ true
    output_of_it m =
        let (_, stands, _, is_output) = mine.1.held 1 m in
        held (map.get n.store.map output_spot)
        (subst (λ q. IsOutput (map.get n.store.map q)) (sym (same_Some _ _ stands)) is_output)
      where
        held : (o : Option Content) → IsOutput o → is_held (output_of o) ≡ true
        held None h = absurd h
        held (Some (Own cs)) h = absurd h
        held (Some (Shared cs)) h = absurd h
        held (Some (Output bs)) h = refl
        held (Some Away) h = absurd h

    -- a frame more has a number
    pub next_fits : n.depth ≤ 4294967295 → nat_le (plain.next_frame n.store) 18446744073709551615 ≡ true
    next_fits d =
        let w = next_low g.code.layouts (homes g.code) (May g.code) (HasConsole g (homes g.code) (May g.code) T b.area)
        (a ∷ us) n.frames n.depth n.store l.holding in
        le-leb (plain.next_frame n.store) 18446744073709551615 (omega (arith, w, d))

    -- at an instruction that is reached
    module _ (ss : List Shape) (r : Reaches g.code a pc ss) where
      does : (x : ℕ) → IsMember x (touched_by g.code a (instr_at g.code pc) ss) → May g.code a x
      does x m = ⊎_elim
          (λ s. may_do g.code k e known Stored a pc x ss area r s)
          (λ s. may_do g.code k e known Loaded a pc x ss area r s)
          (member_either x (stored_by g.code a (instr_at g.code pc) ss) (loaded_by g.code a (instr_at g.code pc) ss) m)

      pub whole : (x : ℕ) → IsMember x (touched_by g.code a (instr_at g.code pc) ss) → 2 ≤ x
          → HasWhole plain g.code.layouts n x
      whole x m real = whole_of x real (does x m)

      pub input : IsMember 0 (touched_by g.code a (instr_at g.code pc) ss) → IsSome ((memory plain g).left n)
      input m = input_of (does 0 m)

      pub output : IsMember 1 (touched_by g.code a (instr_at g.code pc) ss) → (memory plain g).has_output n ≡ true
      output m = output_of_it (does 1 m)

  -- ---- a return

  module _ (a d : Area) (us : List Area) (n : Memory Plain)
      (h : Holding g.code.layouts (homes g.code) (May g.code) (HasConsole g (homes g.code) (May g.code) T b.area)
      (a ∷ d ∷ us) n.frames n.depth n.store) where
    pub closes : (memory plain g).may_close n ≡ true
    closes = go n.frames h
      where
        go : (fs : List Frame)
            → Holding g.code.layouts (homes g.code) (May g.code) (HasConsole g (homes g.code) (May g.code) T b.area)
            (a ∷ d ∷ us) fs n.depth n.store → Rattle.sp_code.specs.Memory.can_pop plain g fs n.store ≡ true
        go [] h = absurd h.allowed
        go (f ∷ fs) h = may_go g.code.layouts (homes g.code) (May g.code)
            (HasConsole g (homes g.code) (May g.code) T b.area) a d us f fs n.depth n.store h

  -- a block that answers has a cell for it
  module _ (f : ℕ) (l : Layout) (at : layout_of g.code.layouts f ≡ Some l) (inner : (f == 0) ≡ false)
      (answers : l.answer ≡ true) (different : AllDifferent l.variables) (N : ℕ) (K : Type 0) where
    size_there : slice_get l.sizes (length l.formals) ≡ Some 1
    size_there =
        let w = and_parts (length l.sizes == length l.variables) (begins_with (formals_cells l.formals
        ++ answer_cells l.answer) l.sizes) (k.sizes l (found_layout g.code.layouts f l at).1) in
        answer_size l.formals l.sizes (subst (λ t. begins_with (formals_cells l.formals
        ++ answer_cells t) l.sizes ≡ true) answers w.1)

    pub variable : (y : ℕ) × (slice_get l.variables (length l.formals) ≡ Some y)
    variable =
        let w = and_parts (length l.sizes == length l.variables) (begins_with (formals_cells l.formals
        ++ answer_cells l.answer) l.sizes) (k.sizes l (found_layout g.code.layouts f l at).1) in
        let s = slice_get_within l.sizes (length l.formals) 1 size_there in
        item_there l.variables (length l.formals) (omega (arith, s, eqb-true (length l.sizes) (length l.variables) w.0))

    mine_there : IsMember variable.0 (variables_of (layout_of g.code.layouts f))
    mine_there = subst (λ o. IsMember variable.0 (variables_of o)) (sym at)
        (member_at l.variables (length l.formals) variable.0 variable.1)

    block : (l.block == 0) ≡ false
    block = ap (λ z. z == 0) (found_layout g.code.layouts f l at).0 ∙ inner

    place : place_of variable.0 (first_number l) l.variables ≡ Some (length l.formals)
    place =
        let w = place_some variable.0 0 l.variables (member_at l.variables (length l.formals) variable.0 variable.1) in
        ap (λ t. place_of variable.0 (if t then 2 else 0) l.variables) block ∙ w.1
        ∙ ap Some (zero-add w.0 ∙ one_place l.variables w.0 (length l.formals) variable.0 different w.2 variable.1)

    module _ (fr : Frame) (fs : List Frame) (m : Rattle.sp_cell.specs.Map.Map) (home : fr.home ≡ OfBlock f)
        (al : Allowed g.code.layouts K (May g.code (Body f)) N (fr ∷ fs) m) (real : 2 ≤ variable.0) where
      here : (hs : List Home) → Chain hs (fr ∷ fs)
          → (spot_of g.code.layouts (fr ∷ fs) variable.0 ≡ Some (cell_at fr.number (length l.formals)).spot)
          × (Rattle.sp_verify_rules.specs.Extents.extent g.code.layouts (fr ∷ fs) variable.0 ≡ Some 1)
      here [] c = absurd c
      here (h ∷ hs) c = (
        spot_is g.code.layouts (h ∷ hs) (fr ∷ fs) variable.0 real c
            ∙ ap (λ x. or_outward (Rattle.sp_code.specs.System.spot_in g.code.layouts fr x variable.0)
            (spot_by_homes g.code.layouts hs (last_frames fr.link fs) variable.0)) (sym c.0 ∙ home)
            ∙ ap (λ o. or_outward (spot_of_layout fr variable.0 o)
            (spot_by_homes g.code.layouts hs (last_frames fr.link fs) variable.0)) at
            ∙ ap (λ o. or_outward (spot_at fr l o)
            (spot_by_homes g.code.layouts hs (last_frames fr.link fs) variable.0)) place
            ∙ ap (λ o. or_outward (spot_by fr (length l.formals) o)
            (spot_by_homes g.code.layouts hs (last_frames fr.link fs) variable.0)) (none_behind l.formals),
        size_is g.code.layouts (h ∷ hs) (fr ∷ fs) variable.0 real c
            ∙ ap (λ x. or_further (Rattle.sp_verify_rules.specs.Extents.extent_in g.code.layouts fr fs x variable.0)
            (extent_by_homes g.code.layouts hs (last_frames fr.link fs) variable.0)) (sym c.0 ∙ home)
            ∙ ap (λ o. or_further (extent_of_layout g.code.layouts fr fs variable.0 o)
            (extent_by_homes g.code.layouts hs (last_frames fr.link fs) variable.0)) at
            ∙ ap (λ o. or_further (extent_at g.code.layouts fr fs l o)
            (extent_by_homes g.code.layouts hs (last_frames fr.link fs) variable.0)) place
            ∙ ap (λ o. or_further (extent_by g.code.layouts fr fs (length l.formals) o)
            (extent_by_homes g.code.layouts hs (last_frames fr.link fs) variable.0)) (none_behind l.formals)
            ∙ ap (λ o. or_further o (extent_by_homes g.code.layouts hs (last_frames fr.link fs) variable.0))
            size_is_one,
      )
        where
          size_is_one : Rattle.sp_verify_rules.specs.Extents.size_at g.code.layouts fr.home (length l.formals) ≡ Some 1
          size_is_one =
              ap (λ x. Rattle.sp_verify_rules.specs.Extents.size_at g.code.layouts x (length l.formals)) home
              ∙ ap (λ o. size_of o (length l.formals)) at
              ∙ ap (λ t. if t then (if Rattle.std.specs.Prelude.nat_lt (length l.formals) 2 then
              (if length l.formals == 0 then Some 1 else None) else slice_get l.sizes
              (length l.formals - 2)) else slice_get l.sizes (length l.formals)) block
              ∙ size_there

      answer_cell : (hs : List Home) → Chain hs (fr ∷ fs)
          → has_cells (piece_of (map.get m (cell_at fr.number (length l.formals)).spot)) 0 1 ≡ true
      answer_cell hs c = go variable.0 real (inr mine_there) (here hs c)
        where
          go : (y : ℕ) → 2 ≤ y → May g.code (Body f) y
              → (spot_of g.code.layouts (fr ∷ fs) y ≡ Some (cell_at fr.number (length l.formals)).spot)
              × (Rattle.sp_verify_rules.specs.Extents.extent g.code.layouts (fr ∷ fs) y ≡ Some 1)
              → has_cells (piece_of (map.get m (cell_at fr.number (length l.formals)).spot)) 0 1 ≡ true
          go zero r d w = absurd (omega (arith, r))
          go (suc zero) r d w = absurd (omega (arith, r))
          go (suc (suc y)) r d w =
              let (there, stands, _, (cs, piece_is, extent_is, _)) = al.held (suc (suc y)) d in
              let same : there ≡ (cell_at fr.number (length l.formals)).spot = same_Some _ _ (sym stands ∙ w.0) in
              let long : length cs ≡ 1 = same_Some _ _ (sym extent_is ∙ w.1) in
              ap (λ o. has_cells o 0 1) (ap (λ q. piece_of (map.get m q)) (sym same) ∙ piece_is)
              ∙ le-leb (0 + 1) (length cs) (omega (arith, long))

      pub answer_there : (n : Memory Plain) → n.frames ≡ fr ∷ fs → n.store.map ≡ m → (hs : List Home)
          → Chain hs (fr ∷ fs) → HasAnswer plain g n ((memory plain g).answer n)
      answer_there n is map_is hs c = subst (λ o. HasAnswer plain g n o) (sym found)
          (ap (λ x. has_cells (piece_of (map.get x (cell_at fr.number (length l.formals)).spot)) 0 1) map_is
          ∙ answer_cell hs c)
        where
          found : answer_in g.code.layouts n.frames ≡ Some (cell_at fr.number (length l.formals))
          found = ap (answer_in g.code.layouts) is ∙ ap (answer_of g.code.layouts fr.number) home
              ∙ ap (answer_by fr.number) at
