-- What a process of verified code holds is kept by each of its instructions: along each way in which one changes the
-- memory.
use Rattle.std.proofs.Common.{◌≡◌, ◌⊎◌, inl, inr, ℕ, zero, suc, ◌+◌, ◌-◌, ◌≤◌, ◌<◌, ◌==◌, pos, List, [], ◌∷◌, ◌++◌}
use Rattle.std.proofs.Common.{length, take, drop, Option, Some, None, true, false, refl, sym, ap, ◌∙◌, subst, arith}
use Rattle.std.proofs.Common.{if◌then◌else◌}
use Rattle.std.specs.Prelude.{IsSome, slice_get, slice_set, nat_abs}
use Rattle.std.proofs.lemmas.List.{length-take, length-set}
use Rattle.std.specs.FinMap as map
use Rattle.sp_tree.specs.Interference.{IsMember}
use Rattle.sp_cell.specs.declared.cell.Cell.{Cell}
use Rattle.sp_cell.specs.declared.cell.Cell.TheVariants as cell
use Rattle.sp_cell.specs.declared.spot.Address.{Address}
use Rattle.sp_cell.specs.Frame.{next_frame}
use Rattle.sp_cell.specs.Lists.{part}
use Rattle.sp_cell.specs.Map.{Content, Own, Output, Plain, IsOutput, output_spot, bytes_of}
use Rattle.sp_code.specs.declared.instr.Instr.TheVariants as i
use Rattle.sp_code.specs.declared.code.Formal.{Formal}
use Rattle.sp_code.specs.declared.code.Formal.TheVariants as formal
use Rattle.sp_code.specs.declared.code.Layout.{Layout}
use Rattle.sp_code.specs.Machine.{Entry, Number, Chan, Pointer, Cells, Link, Reply, Config, At, layout_of}
use Rattle.sp_code.specs.Memory.{OfBlock, CodeRun, Frame, Memory, memory, with_store, without_frame, memory_after_call}
use Rattle.sp_code.specs.Memory.{references}
use Rattle.sp_code.specs.Memory.{reference_target, cells_at, cells_in, position_in, or_zero}
use Rattle.sp_code.specs.PlainStore.{plain, piece_of}
use Rattle.sp_code.specs.System.{spot_of}
use Rattle.sp_verify_rules.specs.Areas.{Area, Body, homes, block_homes, instr_at}
use Rattle.sp_verify_rules.specs.Shapes.{Shape, O, C, L, A}
use Rattle.sp_verify_rules.specs.Reach.{IsArea, Reaches}
use Rattle.sp_verify_rules.specs.Touches.{stored_by}
use Rattle.sp_verify_rules.specs.InstructionFacts.{Points, HasShape, ProcessAt}
use Rattle.sp_verify_rules.specs.Rules as rule
use Rattle.sp_verify_rules.specs.KeepsCodeRules.{KeepsCodeRules}
use Rattle.sp_verify_rules.specs.NameRules.{LiesIn, is_block, level_fits}
use Rattle.sp_verify_rules.proofs.FrameScopes.{is_block_of, homes_step, inner, area_drop, found_layout}
use Rattle.sp_verify_rules.proofs.ShapePaths.{passes}
use Rattle.sp_verify_rules.proofs.Turns.{all_fit}
use Rattle.sp_verify_rules.proofs.Pieces.{filled_keeps}
use Rattle.std.proofs.lemmas.Bool.{eq-eqb, ne_eqb, and_parts}
use Rattle.std.proofs.lemmas.Option.{slice_get_within, same_Some}
use Rattle.sp_base.proofs.Facts.{less_same_or_more}
use Rattle.sp_verify_rules.specs.Changes.{Pairs, areas, areas_of, Target, Changes, Unchanged, Ticks, PutsCell, Copies}
use Rattle.sp_verify_rules.specs.Changes.{ReadsItem, Skips}
use Rattle.sp_verify_rules.specs.Changes.{Prints, MakesOwn, Calls, Returns}
use Rattle.sp_verify_rules.specs.Effects.{IsActual}
use Rattle.sp_verify_rules.specs.HeldEffects.{Allowed, Holding, input_spot}
use Rattle.sp_verify_rules.specs.ProcessLife.{Base, HasConsole, IsLast, HasActivations, Aims}
use Rattle.sp_verify_rules.proofs.Holdings.{head, holding_set, holding_pop}
use Rattle.sp_verify_rules.proofs.StoreLaws.{keeps_input, keeps_output}
use Rattle.sp_verify_rules.proofs.Messages.{lives_with, lives_opened, lives_received, t}
use Rattle.sp_verify_rules.proofs.Pushes.{KeepsCalls, holding_push}
use Rattle.sp_code.proofs.Outputs.{output_known}

module _ (g : CodeRun) (E : Area → ℕ → Type 0) (T : List Area → Config (Memory Plain)
    → Type 0) (b : Base g (homes g.code) E T) where
  abbrev L_ : List Area → Config (Memory Plain) → Type 0
  L_ us c = HasActivations g (homes g.code) E T b us c

  abbrev K : Type 0
  K = HasConsole g (homes g.code) E T b.area

  -- elsewhere in the code
  pub elsewhere : (us : List Area) (p q : ℕ) (st s1 : List Entry) (n : Memory Plain) → L_ us (At p st n)
      → L_ us (At q s1 n)
  elsewhere us p q st s1 n l = record { holding = l.holding; last = l.last; moved = l.moved }

  module _ (a : Area) (us : List Area) (p : ℕ) (st : List Entry) (n : Memory Plain) (l : L_ (a ∷ us) (At p st n)) where
    held : Allowed g.code.layouts K (E a) l.holding.bound n.frames n.store.map
    held = (head g.code.layouts (homes g.code) E K l.holding.bound a us n.frames n.store.map l.holding.allowed).1

    -- the input moves on
    advanced : E a 0 → (k : ℕ) → L_ (a ∷ us) (At p st ((memory plain g).advance k n))
    advanced e k = record {
      holding = holding_set g.code.layouts (homes g.code) E K (a ∷ us) n.frames n.depth n.store l.holding input_spot new
          (known_input (map.get n.store.map input_spot) was.1) tt
          (keeps_input K l.holding.bound n.store.map new
          (nat_abs (pos (or_zero (position_in (piece_of (map.get n.store.map input_spot))) + k)))
          (new_position (cells_in (piece_of (map.get n.store.map input_spot)))
          (some_cell (piece_of (map.get n.store.map input_spot)) was.0 was.1))
          (λ cs e. (
            slice_set (cells_in (piece_of (map.get n.store.map input_spot))) 0
                (cell.Ordinal (pos (or_zero (position_in (piece_of (map.get n.store.map input_spot))) + k))),
            refl,
            length-set (cells_in (piece_of (map.get n.store.map input_spot))) 0
                (cell.Ordinal (pos (or_zero (position_in (piece_of (map.get n.store.map input_spot))) + k)))
                ∙ ap (λ o. length (cells_in o)) e,
          )));
      last = l.last;
      moved = l.moved;
    }
      where
        new : Content
        new = Own (slice_set (cells_in (piece_of (map.get n.store.map input_spot))) 0
            (cell.Ordinal (pos (or_zero (position_in (piece_of (map.get n.store.map input_spot))) + k))))

        was : (v : ℕ) × (position_in (piece_of (map.get n.store.map input_spot)) ≡ Some v)
        was = let (_, stands, _, (v, position_is)) = held.held 0 e in (
          v,
          ap (λ q. position_in (piece_of (map.get n.store.map q))) (same_Some _ _ stands)
              ∙ position_is,
        )

        known_input : (o : Option Content) → position_in (piece_of o) ≡ Some was.0 → IsSome o
        known_input None h = absurd (cc h)
        known_input (Some x) h = refl

        some_cell : (o : Option (List Cell)) (v : ℕ) → position_in o ≡ Some v → (c : Cell) × (cs : List Cell)
            × (cells_in o ≡ c ∷ cs)
        some_cell None v h = absurd (cc h)
        some_cell (Some []) v h = absurd (cc h)
        some_cell (Some (c ∷ cs)) v h = (c, cs, refl)

        new_position : (cs : List Cell) → (c : Cell) × (ds : List Cell) × (cs ≡ c ∷ ds)
            → position_in (Some (slice_set cs 0
            (cell.Ordinal (pos (or_zero (position_in (piece_of (map.get n.store.map input_spot))) + k))))) ≡ Some
            (nat_abs (pos (or_zero (position_in (piece_of (map.get n.store.map input_spot))) + k)))
        new_position [] w = absurd (cc w.2)
        new_position (c ∷ cs) w = refl

    -- more is printed
    printed : E a 1 → (bs : List ℕ) → L_ (a ∷ us) (At p st (with_store plain n (plain.appended n.store bs)))
    printed e bs = record {
      holding = holding_set g.code.layouts (homes g.code) E K (a ∷ us) n.frames n.depth n.store l.holding output_spot
          (Output (bytes_of (map.get n.store.map output_spot) ++ bs))
          (output_known (map.get n.store.map output_spot) was) tt
          (keeps_output K l.holding.bound n.store.map (bytes_of (map.get n.store.map output_spot)
          ++ bs) (held.console (inr e)));
      last = l.last;
      moved = l.moved;
    }
      where
        was : IsOutput (map.get n.store.map output_spot)
        was = let (_, stands, _, is_output) = held.held 1 e in
            subst (λ q. IsOutput (map.get n.store.map q)) (same_Some _ _ (sym stands)) is_output

  -- the newest frame goes
  closed : (a c : Area) (us : List Area) (p : ℕ) (st : List Entry) (n : Memory Plain) → L_ (a ∷ c ∷ us) (At p st n)
      → L_ (c ∷ us) (At p st ((memory plain g).close_frame n))
  closed a c us p st n l = go n.frames refl l.holding l.last
    where
      go : (fs : List Frame) → n.frames ≡ fs → Holding g.code.layouts (homes g.code) E K (a ∷ c ∷ us) fs n.depth n.store
          → IsLast g (homes g.code) E T (a ∷ c ∷ us) fs b → L_ (c ∷ us) (At p st ((memory plain g).close_frame n))
      go [] e h la = absurd la
      go (f ∷ fs) e h la =
          subst (λ z. L_ (c ∷ us) (At p st (without_frame plain g z n))) (sym e) (record {
            holding = holding_pop g.code.layouts (homes g.code) E K a c us f fs n.depth n.store h;
            last = la;
            moved = l.moved;
          })

-- ---- the operands of a call

lowest_length : (n : ℕ) (ss bs : List Shape) → length (rule.lowest_first n ss bs) ≤ length bs + length ss
lowest_length zero ss bs = omega arith
lowest_length (suc n) [] bs = omega arith
lowest_length (suc n) (s ∷ ss) bs = let h = lowest_length n ss (s ∷ bs) in omega (arith, h)

fit_length : (ms : List Formal) (bs : List Shape) → rule.fit_formals ms bs ≡ true → length ms ≡ length bs
fit_length [] [] e = refl
fit_length [] (s ∷ bs) e = absurd (cc e)
fit_length (m ∷ ms) [] e = absurd (cc e)
fit_length (m ∷ ms) (s ∷ bs) e = ap suc
    (fit_length ms bs (and_parts (rule.fits_formal m s) (rule.fit_formals ms bs) e).1)

-- the operands in order are the topmost ones, the last one first
after_those : (n j : ℕ) (ss bs : List Shape) → n ≤ length ss
    → slice_get (rule.lowest_first n ss bs) (n + j) ≡ slice_get bs j
after_those zero j ss bs h = let z : 0 + j ≡ j = omega arith in ap (λ x. slice_get bs x) z
after_those (suc n) j [] bs h = absurd (omega (arith, h))
after_those (suc n) j (s ∷ ss) bs h =
    let z : suc n + j ≡ n + suc j = omega arith in
    ap (λ x. slice_get (rule.lowest_first n ss (s ∷ bs)) x) z ∙ after_those n (suc j) ss (s ∷ bs) (omega (arith, h))

in_order : (n i : ℕ) (ss bs : List Shape) → i < n → n ≤ length ss
    → slice_get (rule.lowest_first n ss bs) i ≡ slice_get ss (n - 1 - i)
in_order zero i ss bs l h = absurd (omega (arith, l))
in_order (suc n) i [] bs l h = absurd (omega (arith, h))
in_order (suc n) i (s ∷ ss) bs l h = go (less_same_or_more i n) (λ k. in_order n i ss (s ∷ bs) k (omega (arith, h)))
  where
    go : (i < n) ⊎ ((i ≡ n) ⊎ (n < i))
        → (i < n → slice_get (rule.lowest_first n ss (s ∷ bs)) i ≡ slice_get ss (n - 1 - i))
        → slice_get (rule.lowest_first n ss (s ∷ bs)) i ≡ slice_get (s ∷ ss) (suc n - 1 - i)
    go (inl k) on =
        let z : suc n - 1 - i ≡ suc (n - 1 - i) = omega (arith, k) in
        on k ∙ ap (λ x. slice_get (s ∷ ss) x) (sym z)
    go (inr (inl e)) on =
        let z : suc n - 1 - i ≡ 0 = omega (arith, e) in
        let y : i ≡ n + 0 = omega (arith, e) in
        ap (λ x. slice_get (rule.lowest_first n ss (s ∷ bs)) x) y
        ∙ (after_those n 0 ss (s ∷ bs) (omega (arith, h)) ∙ ap (λ x. slice_get (s ∷ ss) x) (sym z))
    go (inr (inr k)) on = absurd (omega (arith, k, l))

-- what stands for a reference formal
record ReferenceActual (ls : List Layout) (fs : List Frame) (bs : List Shape) (k n : ℕ) (o : Option Address) : Type
    0 where
  variable : ℕ
  left : ℕ
  shape : slice_get bs k ≡ Some (A variable left)
  address : Address
  is : o ≡ Some address
  points : Points ls fs variable left address

passed_first : (ls : List Layout) (fs : List Frame) (b : Shape) (bs : List Shape) (e1 : Entry) (es : List Entry)
    (j t m : ℕ) → (t == j) ≡ true → HasShape ls fs b e1 → rule.fits_formal (formal.Reference m) b ≡ true
    → ReferenceActual ls fs (b ∷ bs) 0 m (reference_target t (references j (e1 ∷ es)))
passed_first ls fs O bs e1 es j t m e ft r = absurd (cc r)
passed_first ls fs C bs e1 es j t m e ft r = absurd (cc r)
passed_first ls fs (L n) bs e1 es j t m e ft r = absurd (cc r)
passed_first ls fs (A x n) bs (Number v) es j t m e ft r = absurd ft
passed_first ls fs (A x n) bs (Chan d) es j t m e ft r = absurd ft
passed_first ls fs (A x n) bs (Pointer q) es j t m e ft r = rw e
    (record { variable = x; left = n; shape = refl; address = q; is = refl; points = ft })
passed_first ls fs (A x n) bs (Cells cs) es j t m e ft r = absurd ft
passed_first ls fs (A x n) bs (Link d) es j t m e ft r = absurd ft
passed_first ls fs (A x n) bs (Reply d) es j t m e ft r = absurd ft

passed_later : (ls : List Layout) (fs : List Frame) (b : Shape) (bs : List Shape) (e1 : Entry) (es : List Entry)
    (j t k m : ℕ) → (t == j) ≡ false → ReferenceActual ls fs bs k m (reference_target t (references (suc j) es))
    → ReferenceActual ls fs (b ∷ bs) (suc k) m (reference_target t (references j (e1 ∷ es)))
passed_later ls fs b bs e1 es j t k m e h = record {
  variable = h.variable;
  left = h.left;
  shape = h.shape;
  address = h.address;
  is = go e1 ∙ h.is;
  points = h.points;
}
  where
    go : (e1 : Entry) → reference_target t (references j (e1 ∷ es)) ≡ reference_target t (references (suc j) es)
    go (Pointer q) = ap (λ z. if z then Some q else reference_target t (references (suc j) es)) e
    go _ = refl

passed_at : (ls : List Layout) (fs : List Frame) (ms : List Formal) (bs : List Shape) (es : List Entry) (j : ℕ)
    → Pairs ls fs bs es → rule.fit_formals ms bs ≡ true → (t k m : ℕ) → t ≡ j + k
    → slice_get ms k ≡ Some (formal.Reference m)
    → ReferenceActual ls fs bs k m (reference_target t (references j es))
passed_at ls fs [] bs es j pr r t k m e s = absurd (cc s)
passed_at ls fs (f ∷ ms) [] es j pr r t k m e s = absurd (cc r)
passed_at ls fs (f ∷ ms) (b ∷ bs) [] j pr r t k m e s = absurd pr
passed_at ls fs (f ∷ ms) (b ∷ bs) (e1 ∷ es) j pr r t zero m e s =
    passed_first ls fs b bs e1 es j t m (eq-eqb t j (omega (arith, e))) pr.0
    (subst (λ z. rule.fits_formal z b ≡ true) (same_Some _ _ s)
    (and_parts (rule.fits_formal f b) (rule.fit_formals ms bs) r).0)
passed_at ls fs (f ∷ ms) (b ∷ bs) (e1 ∷ es) j pr r t (suc k) m e s =
    passed_later ls fs b bs e1 es j t k m (ne_eqb t j (λ h. omega (arith, e, h)))
    (passed_at ls fs ms bs es (suc j) pr.1 (and_parts (rule.fits_formal f b) (rule.fit_formals ms bs) r).1 t k m
    (omega (arith, e)) s)

-- what stands for a reference formal of a called block: the variable of an operand
pub call_given : (ls : List Layout) (fs : List Frame) (lay : Layout) (ss : List Shape) (es : List Entry)
    → Pairs ls fs (rule.lowest_first (length lay.formals) ss []) es
    → rule.fit_formals lay.formals (rule.lowest_first (length lay.formals) ss []) ≡ true
    → (j m : ℕ) → slice_get lay.formals j ≡ Some (formal.Reference m) → (x : ℕ) × IsActual lay ss j x
    × ((to : Address) × (reference_target j (references 0 es) ≡ Some to) × (spot_of ls fs x ≡ Some to.spot))
call_given ls fs lay ss es pr ft j m e =
    let bs = rule.lowest_first (length lay.formals) ss [] in
    let w = passed_at ls fs lay.formals bs es 0 pr ft j j m (omega arith) e in
    let len : length lay.formals ≤ length ss =
    (let a = lowest_length (length lay.formals) ss [] in let c = fit_length lay.formals bs ft in omega (arith, a, c)) in
    let lt = slice_get_within lay.formals j (formal.Reference m) e in (
      w.variable,
      (m, w.left, e, sym (in_order (length lay.formals) j ss [] lt len) ∙ w.shape),
      (w.address, w.is, w.points.stands),
    )

-- ---- all ways

module _ (g : CodeRun) (kp : KeepsCodeRules g.code) (E : Area → ℕ → Type 0) (T : List Area → Config (Memory Plain)
    → Type 0)
    (mays : (a : Area) (p : ℕ) (ss : List Shape) (x : ℕ) → IsArea g.code a → Reaches g.code a p ss
    → IsMember x (stored_by g.code a (instr_at g.code p) ss) → E a x)
    (calls : (a : Area) (p : ℕ) (ss : List Shape) (f up : ℕ) (l : Layout) → IsArea g.code a → Reaches g.code a p ss
    → instr_at g.code p ≡ Some (i.Call f up) → layout_of g.code.layouts f ≡ Some l
    → KeepsCalls g.code.layouts (homes g.code a) up l (E a) (E (Body f)) (IsActual l ss))
    (b : Base g (homes g.code) E T) where
  abbrev Lv : List Area → Config (Memory Plain) → Type 0
  Lv us c = HasActivations g (homes g.code) E T b us c

  module _ (p q : ℕ) (st s1 : List Entry) (n : Memory Plain) (s : ProcessAt g.code p st n.frames)
      (l : Lv (areas s) (At p st n)) where
    aims : (to : Address) (k : ℕ) → Target plain g s.area (instr_at g.code p) s.shapes n to k
        → Aims g (homes g.code) E T s.area n.frames to k
    aims to k w = record {
      variable = w.variable;
      real = w.points.real;
      effect = mays s.area p s.shapes w.variable s.there s.reached w.stored;
      stands = w.points.stands;
      size = w.points.size;
      whole = w.points.whole;
      fits = let f = w.points.fits in let r = w.room in omega (arith, f, r);
    }

    there : {us : List Area} (m : Memory Plain) → us ≡ areas s → Lv (areas s) (At q s1 m) → Lv us (At q s1 m)
    there m e h = subst (λ z. Lv z (At q s1 m)) (sym e) h

    called : (f up : ℕ) (lay : Layout) (es : List Entry) → instr_at g.code p ≡ Some (i.Call f up)
        → layout_of g.code.layouts f ≡ Some lay
        → Pairs g.code.layouts n.frames (rule.lowest_first (length lay.formals) s.shapes []) es
        → rule.fit_formals lay.formals (rule.lowest_first (length lay.formals) s.shapes []) ≡ true
        → Lv (Body f ∷ areas s) (At q s1 (memory_after_call plain g lay up es n))
    called f up lay es is le pr ft = record {
      holding = holding_push g.code.layouts (homes g.code) E (HasConsole g (homes g.code) E T b.area) s.area (Body f)
          (areas_of s.callers) n.frames n.depth n.store l.holding up n.process lay es (IsActual lay s.shapes)
          around (calls s.area p s.shapes f up lay s.there s.reached is le)
          (all_fit g.code.layouts n.frames lay.formals
          (rule.lowest_first (length lay.formals) s.shapes []) es pr ft) given;
      last = l.last;
      moved = same_moved lay.sizes;
    }
      where
        lies : LiesIn g.code p s.area
        lies = (s.there, passes g.code s.area p s.shapes s.reached)

        lev : is_block lay.parent (slice_get (homes g.code s.area) up) ≡ true
        lev = subst (λ o. Rattle.sp_verify_rules.specs.Areas.on_option false o
            (λ l. is_block l.parent (slice_get (homes g.code s.area) up)) ≡ true) le
            (subst (λ o. level_fits g.code s.area o ≡ true) is (kp.levels s.area p lies))

        around : homes g.code (Body f) ≡ OfBlock lay.block ∷ drop up (homes g.code s.area)
        around =
            let w = is_block_of g.code kp lay.parent (slice_get (homes g.code s.area) up) lev in
            homes_step g.code kp f w.0 lay le (inner g.code kp f lay (slice_get (homes g.code s.area) up) le lev) w.1
            ∙ (ap (λ d. OfBlock d ∷ block_homes g.code w.0) (sym (found_layout g.code.layouts f lay le).0)
            ∙ ap (λ hs. OfBlock lay.block ∷ hs) (sym (area_drop g.code kp s.area up w.0 s.there w.2)))

        given : (j m : ℕ) → slice_get lay.formals j ≡ Some (formal.Reference m) → (x : ℕ) × IsActual lay s.shapes j x
            × ((to : Address) × (reference_target j (references 0 es) ≡ Some to)
            × (spot_of g.code.layouts n.frames x ≡ Some to.spot))
        given = call_given g.code.layouts n.frames lay s.shapes es pr ft

        same_moved : (sizes : List ℕ) → (memory_after_call plain g lay up es n).store.moved ≡ b.moved
        same_moved sizes = filled_keeps (next_frame n.store) (λ z. z.moved ≡ b.moved) (λ z j cs h. h) 0 es
            (plain.pushed n.store lay.sizes) l.moved

    pub kept : (m : Memory Plain) (t : ProcessAt g.code q s1 m.frames)
        → Changes plain g s.area (instr_at g.code p) s.shapes n (areas s) (areas t) m → Lv (areas t) (At q s1 m)
    kept m t (Unchanged e d) = there m e
        (subst (λ z. Lv (areas s) (At q s1 z)) (sym d) (elsewhere g E T b (areas s) p q st s1 n l))
    kept m t (Ticks e d) = there m e
        (subst (λ z. Lv (areas s) (At q s1 z)) (sym d) (record { holding = l.holding; last = l.last; moved = l.moved }))
    kept m t (PutsCell to c e w d) = there m e (subst (λ z. Lv (areas s) (At q s1 z)) (sym d)
        (lives_opened g (homes g.code) E T b s.area (areas_of s.callers) q s1 n to 1
        (elsewhere g E T b (areas s) p q st s1 n l) (aims to 1 w) c))
    kept m t (Copies to from k e w d) = there m e (subst (λ z. Lv (areas s) (At q s1 z)) (sym d)
        (lives_received g (homes g.code) E T b s.area (areas_of s.callers) q s1 n to k
        (elsewhere g E T b (areas s) p q st s1 n l) (aims to k w)
        (part (cells_at plain n.store from.spot) from.offset k)
        (short k (drop from.offset (cells_at plain n.store from.spot)))))
      where
        short : (k : ℕ) (xs : List Cell) → length (take k xs) ≤ k
        short k xs = let h = length-take k xs in Prim.grind (arith, h)
    kept m t (ReadsItem to c k e w z d) = there m e (subst (λ z. Lv (areas s) (At q s1 z)) (sym d)
        (lives_opened g (homes g.code) E T b s.area (areas_of s.callers) q s1 ((memory plain g).advance k n) to 1
        (advanced g E T b s.area (areas_of s.callers) q s1 n (elsewhere g E T b (areas s) p q st s1 n l)
        (mays s.area p s.shapes 0 s.there s.reached z) k) (aims_on (aims to 1 w)) c))
      where
        aims_on : Aims g (homes g.code) E T s.area n.frames to 1
            → Aims g (homes g.code) E T s.area ((memory plain g).advance k n).frames to 1
        aims_on h = h
    kept m t (Skips k e z d) = there m e
        (subst (λ z. Lv (areas s) (At q s1 z)) (sym d)
        (advanced g E T b s.area (areas_of s.callers) q s1 n (elsewhere g E T b (areas s) p q st s1 n l)
        (mays s.area p s.shapes 0 s.there s.reached z) k))
    kept m t (Prints bs e z d) = there m e
        (subst (λ z. Lv (areas s) (At q s1 z)) (sym d)
        (printed g E T b s.area (areas_of s.callers) q s1 n (elsewhere g E T b (areas s) p q st s1 n l)
        (mays s.area p s.shapes 1 s.there s.reached z) bs))
    kept m t (MakesOwn to k e w d) = there m e (subst (λ z. Lv (areas s) (At q s1 z)) (sym d)
        (lives_with g (homes g.code) E T b s.area (areas_of s.callers) q s1 n to k
        (elsewhere g E T b (areas s) p q st s1 n l) (aims to k w) (cells_at plain n.store to.spot)
        (ap (λ o. length (cells_in o)) (Rattle.sp_verify_rules.proofs.Messages.t g (homes g.code) E T b s.area
        (areas_of s.callers) q s1 n to k (elsewhere g E T b (areas s) p q st s1 n l) (aims to k w)).piece)))
    kept m t (Calls f up lay es e is le pr ft deep d) = subst (λ z. Lv z (At q s1 m)) (sym e)
        (subst (λ z. Lv (Body f ∷ areas s) (At q s1 z)) (sym d) (called f up lay es is le pr ft))
    kept m t (Returns e is d) = subst (λ z. Lv (areas t) (At q s1 z)) (sym d)
        (closed g E T b s.area t.area (areas_of t.callers) q s1 n
        (subst (λ z. Lv z (At q s1 n)) e (elsewhere g E T b (areas s) p q st s1 n l)))
