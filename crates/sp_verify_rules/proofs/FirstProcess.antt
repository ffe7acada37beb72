-- The first process holds all variables of the program, the input and the output.
use Rattle.std.proofs.Common.{◌≡◌, ◌≢◌, ◌⊎◌, inl, inr, ⊎_elim, ℕ, zero, suc, ◌+◌, ◌-◌, ◌<◌, ◌≤◌, ◌==◌, List, [], ◌∷◌}
use Rattle.std.proofs.Common.{◌++◌, length, Option, Some, None, true, refl, sym, ap, ◌∙◌, subst, arith, if◌then◌else◌}
use Rattle.std.specs.Prelude.{slice_get, IsSome, nat_lt, pos, replicate}
use Rattle.std.proofs.lemmas.Bool.{eqb-true, eq-eqb, le-ltb, and_parts}
use Rattle.std.proofs.lemmas.List.{length-replicate}
use Rattle.std.specs.FinMap as map
use Rattle.std.proofs.lemmas.Option.{same_Some, slice_get_within}
use Rattle.sp_base.proofs.Facts.{below_two_or_not, item_there}
use Rattle.sp_tree.specs.Interference.{IsMember}
use Rattle.sp_tree.proofs.Members.{member_either}
use Rattle.sp_cell.specs.declared.cell.Cell.TheVariants as cell
use Rattle.sp_cell.specs.declared.spot.Spot.{Spot}
use Rattle.sp_cell.specs.Frame.{root_map}
use Rattle.sp_cell.proofs.FrameLaws.{known_pieces}
use Rattle.sp_cell.proofs.Laws.{get_here, get_other, same_or, own_away, pieces_not_away}
use Rattle.sp_cell.specs.Map.{Map, Plain, Content, Own, Output, Away, IsOutput, output_spot, spot_cmp}
use Rattle.sp_code.specs.declared.code.Layout.{Layout}
use Rattle.sp_code.specs.Machine.{Config, layout_of}
use Rattle.sp_code.specs.Memory.{CodeRun, Home, OfBlock, Frame, Memory, first_process, sizes_of, position_in}
use Rattle.sp_code.specs.Memory.{last_frames}
use Rattle.sp_code.specs.PlainStore.{plain, piece_of}
use Rattle.sp_code.specs.System.{frames_of, spot_of, spot_in, spot_of_layout, spot_at, spot_by, or_outward, place_of}
use Rattle.sp_code.specs.System.{first_number}
use Rattle.sp_verify_rules.specs.Areas.{Area, Body, homes}
use Rattle.sp_verify_rules.specs.Chains.{Chain, variables_of, variables_in, all_variables, spot_by_homes}
use Rattle.sp_verify_rules.specs.Chains.{extent_by_homes}
use Rattle.sp_verify_rules.specs.Effects.{Does, May}
use Rattle.sp_verify_rules.specs.Extents.{extent, extent_in, extent_of_layout, extent_at, extent_by, size_of, size_at}
use Rattle.sp_verify_rules.specs.Extents.{size_in}
use Rattle.sp_verify_rules.specs.Extents.{or_further}
use Rattle.sp_verify_rules.specs.Forks.{KeepsEffects}
use Rattle.sp_verify_rules.specs.HeldEffects.{HoldsVariable, input_spot}
use Rattle.sp_verify_rules.specs.KeepsCodeRules.{KeepsCodeRules}
use Rattle.sp_verify_rules.specs.NameRules.{Unknown, begins_with, formals_cells, answer_cells}
use Rattle.sp_verify_rules.specs.ProcessLife.{HasActivations}
use Rattle.sp_verify_rules.proofs.Chains.{spot_is, size_is}
use Rattle.sp_verify_rules.proofs.Effects.{effects_around}
use Rattle.sp_verify_rules.proofs.Firsts.{first_stands}
use Rattle.sp_verify_rules.proofs.Lists.{place_some}
use Rattle.sp_code.proofs.Pieces.{pieces_at}
use Rattle.sp_verify_rules.proofs.FrameScopes.{found_layout, programs, chained}
use Rattle.sp_verify_rules.proofs.StoreLaws.{input_not_output}
use Rattle.sp_code.proofs.Holders.{pieces_later}

-- ---- the map

abbrev empty_map : Map
empty_map = map.empty

abbrev with_input : Map
with_input = map.insert empty_map input_spot (Own (cell.Ordinal (pos 0) ∷ []))

abbrev with_console : Map
with_console = map.insert with_input output_spot (Output [])

console_away : (q : Spot) → map.get with_console q ≢ Some Away
console_away q e = ⊎_elim
    (λ i. out_away (sym (get_here with_input output_spot (Output [])) ∙ ap (λ y. map.get with_console y) (sym i) ∙ e))
    (λ o. ⊎_elim
    (λ i. own_away (sym (get_here empty_map input_spot (Own (cell.Ordinal (pos 0) ∷ [])))
    ∙ ap (λ y. map.get with_input y) (sym i) ∙ sym (get_other with_input output_spot (Output []) q o) ∙ e))
    (λ u. absent (sym (map.get-empty spot_cmp q)
    ∙ sym (get_other empty_map input_spot (Own (cell.Ordinal (pos 0) ∷ [])) q u)
    ∙ sym (get_other with_input output_spot (Output []) q o) ∙ e))
    (same_or q input_spot))
    (same_or q output_spot)
  where
    out_away : Some (Output []) ≢ Some Away
    out_away e = cc e

    absent : None ≢ Some Away
    absent e = cc e

console_known : (q : Spot) → IsSome (map.get with_console q) → q.frame ≡ 0
console_known q k = ⊎_elim
    (λ i. ap (λ (z : Spot). z.frame) i)
    (λ o. ⊎_elim
    (λ i. ap (λ (z : Spot). z.frame) i)
    (λ u. absurd (nothing (map.get-empty spot_cmp q)
    (subst (λ z. IsSome z) (get_other empty_map input_spot (Own (cell.Ordinal (pos 0) ∷ [])) q u)
    (subst (λ z. IsSome z) (get_other with_input output_spot (Output []) q o) k))))
    (same_or q input_spot))
    (same_or q output_spot)
  where
    nothing : {o : Option Content} → o ≡ None → IsSome o → ⊥
    nothing e k = mathlib.Core.Bool.false≢true (subst (λ z. IsSome z) e k)

module _ (g : CodeRun) (k : KeepsCodeRules g.code) (e : KeepsEffects g.code (Does g.code)) (known : (p : ℕ)
    → Unknown g.code p
    → ⊥) (T : List Area → Config (Memory Plain) → Type 0) where
  abbrev l : Layout
  l = k.main.0

  at : layout_of g.code.layouts 0 ≡ Some l
  at = k.main.1

  zero_block : (l.block == 0) ≡ true
  zero_block = eq-eqb l.block 0 (found_layout g.code.layouts 0 l at).0

  no_formals : l.formals ≡ []
  no_formals = (programs g.code k 0 l at zero_block).1

  abbrev f : Frame
  f = record { owner = 0; number = 0; home = OfBlock 0; link = 0; references = [] }

  abbrev m : Map
  m = root_map (sizes_of (layout_of g.code.layouts 0))

  sizes_is : sizes_of (layout_of g.code.layouts 0) ≡ l.sizes
  sizes_is = ap sizes_of at

  chain : Chain (homes g.code (Body 0)) (f ∷ [])
  chain = chained g.code k (homes g.code (Body 0)) (f ∷ []) (first_stands plain g k).framed

  -- a variable of the program by its place
  record ProgramSpot (x : ℕ) : Type 0 where
    pub place : ℕ
    pub variable_is : slice_get l.variables place ≡ Some x
    pub stands_so : spot_of g.code.layouts (f ∷ []) x ≡ Some (record { frame = 0; variable = 2 + place })
    pub cells : ℕ
    pub size : slice_get l.sizes place ≡ Some cells
    pub extends_so : extent g.code.layouts (f ∷ []) x ≡ Some cells
    pub sized : size_in g.code.layouts (f ∷ []) (record { frame = 0; variable = 2 + place }) ≡ Some cells

  no_formal : (j : ℕ) → slice_get l.formals j ≡ None
  no_formal j = ap (λ fs. slice_get fs j) no_formals

  size_there : (j c : ℕ) → slice_get l.sizes j ≡ Some c → size_at g.code.layouts (OfBlock 0) (2 + j) ≡ Some c
  size_there j c s =
      ap (λ o. size_of o (2 + j)) at
      ∙ ap (λ t. if t then (if nat_lt (2 + j) 2 then (if (2 + j) == 0 then Some 1 else None) else slice_get l.sizes
      (2 + j - 2)) else slice_get l.sizes (2 + j)) zero_block
      ∙ ap (λ t. if t then (if (2 + j) == 0 then Some 1 else None) else slice_get l.sizes (2 + j - 2))
      (le-ltb (2 + j) 2 (omega arith))
      ∙ ap (slice_get l.sizes) {x = 2 + j - 2} {y = j} (omega arith)
      ∙ s

  stays : (x : ℕ) → 2 ≤ x → IsMember x l.variables → ProgramSpot x
  stays x real mem = go (homes g.code (Body 0)) chain
    where
      w : (j : ℕ) × (place_of x 2 l.variables ≡ Some (2 + j)) × (slice_get l.variables j ≡ Some x)
      w = place_some x 2 l.variables mem

      place_is : place_of x (first_number l) l.variables ≡ Some (2 + w.0)
      place_is = ap (λ t. place_of x (if t then 2 else 0) l.variables) zero_block ∙ w.1

      sizes_long : length l.sizes ≡ length l.variables
      sizes_long = eqb-true (length l.sizes) (length l.variables)
          (and_parts (length l.sizes == length l.variables) (begins_with (formals_cells l.formals
          ++ answer_cells l.answer) l.sizes) (k.sizes l (found_layout g.code.layouts 0 l at).1)).0

      c : (c : ℕ) × (slice_get l.sizes w.0 ≡ Some c)
      c = item_there l.sizes w.0 (let b = slice_get_within l.variables w.0 x w.2 in omega (arith, b, sizes_long))

      go : (hs : List Home) → Chain hs (f ∷ []) → ProgramSpot x
      go [] ch = absurd ch
      go (h ∷ hs) ch = record {
        place = w.0;
        variable_is = w.2;
        stands_so =
            spot_is g.code.layouts (h ∷ hs) (f ∷ []) x real ch
            ∙ ap (λ z. or_outward (spot_in g.code.layouts f z x) (spot_by_homes g.code.layouts hs (last_frames 0 []) x))
            (sym ch.0)
            ∙ ap (λ o. or_outward (spot_of_layout f x o) (spot_by_homes g.code.layouts hs (last_frames 0 []) x)) at
            ∙ ap (λ o. or_outward (spot_at f l o) (spot_by_homes g.code.layouts hs (last_frames 0 []) x)) place_is
            ∙ ap (λ o. or_outward (spot_by f (2 + w.0) o) (spot_by_homes g.code.layouts hs (last_frames 0 []) x))
            (no_formal (2 + w.0));
        cells = c.0;
        size = c.1;
        extends_so =
            size_is g.code.layouts (h ∷ hs) (f ∷ []) x real ch
            ∙ ap (λ z. or_further (extent_in g.code.layouts f [] z x)
            (extent_by_homes g.code.layouts hs (last_frames 0 []) x))
            (sym ch.0)
            ∙ ap (λ o. or_further (extent_of_layout g.code.layouts f [] x o)
            (extent_by_homes g.code.layouts hs (last_frames 0 []) x)) at
            ∙ ap (λ o. or_further (extent_at g.code.layouts f [] l o)
            (extent_by_homes g.code.layouts hs (last_frames 0 []) x)) place_is
            ∙ ap (λ o. or_further (extent_by g.code.layouts f [] (2 + w.0) o)
            (extent_by_homes g.code.layouts hs (last_frames 0 []) x)) (no_formal (2 + w.0))
            ∙ ap (λ o. or_further o (extent_by_homes g.code.layouts hs (last_frames 0 []) x)) (size_there w.0 c.0 c.1);
        sized = size_there w.0 c.0 c.1;
      }

  -- what it may touch is one of them, or the input or the output
  mine : (x : ℕ) → 2 ≤ x → May g.code (Body 0) x → IsMember x l.variables
  mine x r (inr h) = subst (λ o. IsMember x (variables_of o)) at h
  mine x r (inl h) = go (homes g.code (Body 0)) chain
      (⊎_elim (λ (s : x < 2). absurd (omega (arith, r, s))) (λ z. z)
      (effects_around g.code k e known (Body 0) x (l, at) h))
    where
      go : (hs : List Home) → Chain hs (f ∷ []) → IsMember x (all_variables g.code.layouts hs) → IsMember x l.variables
      go [] ch i = absurd i
      go (h ∷ []) ch i = subst (λ o. IsMember x (variables_of o)) at
          (subst (λ z. IsMember x (variables_in g.code.layouts z)) (sym ch.0)
          (⊎_elim (λ z. z) (λ z. absurd z) (member_either x (variables_in g.code.layouts h) [] i)))
      go (h ∷ u ∷ hs) ch i = absurd ch.2

  at_spot : (x : ℕ) (s : Spot) → 2 ≤ x → (u : ProgramSpot x) → spot_of g.code.layouts (f ∷ []) x ≡ Some s
      → s ≡ record { frame = 0; variable = 2 + u.place }
  at_spot x s r u q = same_Some _ _ (sym q ∙ u.stands_so)

  piece_there : (x : ℕ) (u : ProgramSpot x)
      → piece_of (map.get m (record { frame = 0; variable = 2 + u.place })) ≡ Some (replicate u.cells cell.Undefined)
  piece_there x u = ap piece_of (pieces_at with_console 0 2 (sizes_of (layout_of g.code.layouts 0)) u.place u.cells
      (ap (λ ss. slice_get ss u.place) sizes_is ∙ u.size))

  held : (x : ℕ) → May g.code (Body 0) x → (s : Spot) × (spot_of g.code.layouts (f ∷ []) x ≡ Some s) × (s.frame < 1)
      × HoldsVariable g.code.layouts (f ∷ []) m x s
  held zero h = (
    input_spot,
    refl,
    omega arith,
    (
      0,
      ap (λ o. position_in (piece_of o))
          (pieces_later with_console 0 2 (sizes_of (layout_of g.code.layouts 0)) input_spot (omega arith)
          ∙ get_other with_input output_spot (Output []) input_spot input_not_output
          ∙ get_here empty_map input_spot (Own (cell.Ordinal (pos 0) ∷ []))),
    ),
  )
  held (suc zero) h = (
    output_spot,
    refl,
    omega arith,
    subst IsOutput
        (sym (pieces_later with_console 0 2 (sizes_of (layout_of g.code.layouts 0)) output_spot (omega arith)
        ∙ get_here with_input output_spot (Output []))) tt,
  )
  held (suc (suc x)) h =
      let u = stays (suc (suc x)) (omega arith) (mine (suc (suc x)) (omega arith) h) in
      let long : u.cells ≡ length (replicate u.cells cell.Undefined) =
      sym (length-replicate u.cells cell.Undefined) in (
        record { frame = 0; variable = 2 + u.place },
        u.stands_so,
        omega arith,
        (
          replicate u.cells cell.Undefined,
          piece_there (suc (suc x)) u,
          u.extends_so ∙ ap Some long,
          u.sized
              ∙ ap Some long,
        ),
      )

  small_spot : (x : ℕ) (s : Spot) → x < 2 → spot_of g.code.layouts (f ∷ []) x ≡ Some s → s.variable ≡ x
  small_spot zero s lt q = ap (λ (z : Spot). z.variable) (sym (same_Some _ _ q))
  small_spot (suc zero) s lt q = ap (λ (z : Spot). z.variable) (sym (same_Some _ _ q))
  small_spot (suc (suc x)) s lt q = absurd (omega (arith, lt))

  large_spot : (x : ℕ) (s : Spot) → 2 ≤ x → May g.code (Body 0) x → spot_of g.code.layouts (f ∷ []) x ≡ Some s → (j : ℕ)
      × (slice_get l.variables j ≡ Some x) × (s.variable ≡ 2 + j)
  large_spot x s r h q = let u = stays x r (mine x r h) in
      (u.place, u.variable_is, ap (λ (z : Spot). z.variable) (at_spot x s r u q))

  apart : (x y : ℕ) (s : Spot) → May g.code (Body 0) x → May g.code (Body 0) y
      → spot_of g.code.layouts (f ∷ []) x ≡ Some s → spot_of g.code.layouts (f ∷ []) y ≡ Some s → x ≡ y
  apart x y s h i p q = go (below_two_or_not x) (below_two_or_not y)
    where
      go : (x < 2) ⊎ (2 ≤ x) → (y < 2) ⊎ (2 ≤ y) → x ≡ y
      go (inl a) (inl b) = sym (small_spot x s a p) ∙ small_spot y s b q
      go (inl a) (inr b) = absurd (let u = small_spot x s a p in let w = (large_spot y s b i q).2 in omega
          (arith, a, u, w))
      go (inr a) (inl b) = absurd (let u = small_spot y s b q in let w = (large_spot x s a h p).2 in omega
          (arith, b, u, w))
      go (inr a) (inr b) =
          let u = large_spot x s a h p in
          let w = large_spot y s b i q in
          let same : u.0 ≡ w.0 = omega (arith, u.2, w.2) in
          same_Some _ _ (sym u.1 ∙ ap (slice_get l.variables) same ∙ w.1)

  clear : (x : ℕ) (s : Spot) → 2 ≤ x → May g.code (Body 0) x → spot_of g.code.layouts (f ∷ []) x ≡ Some s
      → (s ≢ input_spot) × (s ≢ output_spot)
  clear x s r h q =
      let u = (large_spot x s r h q).2 in (
        λ z. absurd (let v : s.variable ≡ 0 = ap (λ (w : Spot). w.variable) z in omega (arith, u, v)),
        λ z. absurd
            (let v : s.variable ≡ 1 = ap (λ (w : Spot). w.variable) z in omega (arith, u, v)),
      )

  known_low : (q : Spot) → IsSome (map.get m q) → q.frame ≤ 0
  known_low q h = ⊎_elim (λ i. (let w = console_known q i in omega (arith, w))) (λ (z : q.frame ≡ 0). omega (arith, z))
      (known_pieces with_console 0 2 (sizes_of (layout_of g.code.layouts 0)) q h)

  input_known : IsSome (map.get m input_spot)
  input_known = subst (λ o. IsSome o)
      (sym (pieces_later with_console 0 2 (sizes_of (layout_of g.code.layouts 0)) input_spot (omega arith)
      ∙ get_other with_input output_spot (Output []) input_spot input_not_output
      ∙ get_here empty_map input_spot (Own (cell.Ordinal (pos 0) ∷ [])))) refl

  -- the first process lives
  pub first_lives : HasActivations g (homes g.code) (May g.code) T
      (record { area = Body 0; frames = frames_of (first_process plain g); moved = [] }) (Body 0 ∷ [])
      (first_process plain g)
  first_lives = record {
    holding = record {
      bound = 1;
      allowed = (chain, record { held = held; apart = apart; console = λ c. c; clear = λ c. clear });
      base = 0;
      own = refl;
      deep = refl;
      known = λ q h. inr (known_low q h);
      none_away = pieces_not_away with_console 0 2 (sizes_of (layout_of g.code.layouts 0)) console_away;
      moved = λ q i. absurd i;
      old = λ q i j. i;
      console = λ c. ((λ i. i), inl input_known);
    };
    last = (refl, refl);
    moved = refl;
  }
