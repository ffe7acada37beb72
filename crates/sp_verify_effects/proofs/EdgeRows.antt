-- Edges are put into their rows one after the other: at one operand, at the children of a table, at each instruction,
-- and at all of them.
use Rattle.std.proofs.Common.{◌≡◌, ◌≢◌, ◌⊎◌, inl, inr, ⊎_elim, refl, ap, sym, ◌∙◌, subst, ℕ, zero, suc, ◌+◌, ◌-◌, ◌<◌}
use Rattle.std.proofs.Common.{List, [], ◌∷◌, ◌++◌, length, Option, Some, None, Bool, true, false}
use Rattle.std.proofs.Common.{arith}
use Rattle.std.specs.Prelude.{slice_get, slice_set}
use Rattle.std.proofs.lemmas.List.{length-set}
use Rattle.std.proofs.lemmas.Option.{slice_get_within, none-some, same_Some}
use Rattle.std.proofs.lemmas.Bool.{cases_eq}
use Rattle.sp_base.proofs.Facts.{below_or_last, get_beside_set, get_where_set, less_same_or_more, not_true_and_false}
use Rattle.sp_code.specs.declared.code.ChildTable.{ChildTable}
use Rattle.sp_code.specs.declared.code.ForkTable.{ForkTable}
use Rattle.sp_code.specs.declared.code.Formal.{Formal}
use Rattle.sp_code.specs.declared.code.Formal.TheVariants as formal
use Rattle.sp_code.specs.declared.code.Layout.{Layout}
use Rattle.sp_code.specs.declared.code.Parts.{Parts}
use Rattle.sp_code.specs.Machine.{layout_of}
use Rattle.sp_verify_rules.specs.Areas.{Area, Body, Child, instr_at, child_at, child_of, table_at, table_named, entry}
use Rattle.sp_verify_rules.specs.Areas.{entry_of_layout, entry_of_child}
use Rattle.sp_verify_rules.specs.Shapes.{Shape, O, C, L, A}
use Rattle.sp_verify_rules.specs.Reach.{IsArea, Reaches}
use Rattle.sp_verify_rules.specs.NameRules.{BreaksV1, NotThere, LiesIn, IsChild}
use Rattle.sp_verify_rules.specs.Rules.{ComesTo}
use Rattle.sp_verify_areas.specs.Alone.{flag_at}
use Rattle.sp_verify_areas.specs.Only.{LiesOnlyIn}
use Rattle.sp_verify_shapes.specs.declared.shapes.Shapes.{Shapes}
use Rattle.sp_verify_shapes.specs.Shapes.{AreShapes}
use Rattle.sp_verify_shapes.specs.ReachRules.{reached_at}
use Rattle.sp_verify_shapes.proofs.ReachLaws.{reached_there, stands}
use Rattle.sp_verify_shapes.proofs.CallRepeats.{called_is}
use Rattle.sp_verify_shapes.specs.Repeats.{called_block}
use Rattle.sp_verify_shapes.specs.Stacks.{list_of}
use Rattle.sp_verify_rules.proofs.ShapePaths.{passes}
use Rattle.sp_verify_areas.proofs.OwnerClosure.{layout_in, name_of}
use Rattle.sp_verify_effects.specs.declared.edges.Edge.{Edge}
use Rattle.sp_verify_effects.specs.declared.edges.Edge.TheVariants as edge
use Rattle.sp_verify_effects.specs.Edges.{InRow, HasEdge, PutsEdge, Links, passed_by, formal_at, deep_edge, IsDeep}
use Rattle.sp_verify_effects.specs.Edges.{IsDeeper}
use Rattle.sp_verify_effects.specs.Edges.{IsPassed, IsCall, IsStart, OneStarts, CalledAt, StartedAt, EdgeAt}
use Rattle.sp_verify_effects.specs.Edges.{HasEdges}

-- ---- one edge

pub links_one : (rows : List (List Edge)) (m : ℕ) (e : Edge) (r new none : List Edge) → slice_get rows m ≡ Some r
    → PutsEdge r new e → Links rows (slice_set (slice_set rows m none) m new) (λ n f. (n ≡ m) × (f ≡ e))
links_one rows m e r new none at p = record { size = size; kept = kept; has = has; only = only }
  where
    middle : List (List Edge)
    middle = slice_set rows m none

    last : List (List Edge)
    last = slice_set middle m new

    size : length last ≡ length rows
    size = length-set middle m new ∙ length-set rows m none

    here : slice_get last m ≡ Some new
    here = get_where_set middle m new (subst (λ n. m < n) (sym (length-set rows m none)) (slice_get_within rows m r at))

    there : (n : ℕ) → n ≢ m → slice_get last n ≡ slice_get rows n
    there n d = get_beside_set middle m n new (λ s. d (sym s)) ∙ get_beside_set rows m n none (λ s. d (sym s))

    kept : (n : ℕ) (f : Edge) → HasEdge rows n f → HasEdge last n f
    kept n f (s, g, i) =
        ⊎_elim (λ q. (
          new,
          ap (slice_get last) q
              ∙ here,
          p.kept f (subst (λ x. InRow x f) (same_Some s r (sym g ∙ ap (slice_get rows) q ∙ at)) i),
        ))
        (λ d. (s, there n d ∙ g, i)) (cases_eq n m)

    has : (n : ℕ) (f : Edge) → (n ≡ m) × (f ≡ e) → HasEdge last n f
    has n f (q, h) = (new, ap (slice_get last) q ∙ here, subst (InRow new) (sym h) p.has)

    only : (n : ℕ) (f : Edge) → HasEdge last n f → HasEdge rows n f ⊎ ((n ≡ m) × (f ≡ e))
    only n f (s, g, i) =
        ⊎_elim (λ q. let z = same_Some s new (sym g ∙ ap (slice_get last) q
        ∙ here) in ⊎_elim (λ j. inl (
          r,
          ap (slice_get rows) q
              ∙ at,
          j,
        )) (λ h. inr (q, h)) (p.only f (subst (λ x. InRow x f) z i)))
        (λ d. inl (s, sym (there n d) ∙ g, i)) (cases_eq n m)

-- ---- more of them

pub links_none : (a : List (List Edge)) (W : ℕ → Edge → Type 0) → ((m : ℕ) (e : Edge) → W m e → ⊥) → Links a a W
links_none a W h = record { size = refl; kept = λ m e i. i; has = λ m e w. absurd (h m e w); only = λ m e i. inl i }

pub links_as : (a b : List (List Edge)) (W V : ℕ → Edge → Type 0) → ((m : ℕ) (e : Edge) → W m e → V m e)
    → ((m : ℕ) (e : Edge) → V m e → W m e) → Links a b W → Links a b V
links_as a b W V to from t = record {
  size = t.size;
  kept = t.kept;
  has = λ m e v. t.has m e (from m e v);
  only =
      λ m e i. ⊎_elim (λ o. inl o) (λ w. inr (to m e w)) (t.only m e i);
}

pub links_then : (a b d : List (List Edge)) (W V : ℕ → Edge → Type 0) → Links a b W → Links b d V
    → Links a d (λ m e. W m e ⊎ V m e)
links_then a b d W V s t = record {
  size = t.size ∙ s.size;
  kept = λ m e i. t.kept m e (s.kept m e i);
  has = λ m e w. ⊎_elim (λ x. t.kept m e (s.has m e x)) (λ x. t.has m e x) w;
  only = λ m e i. ⊎_elim (λ o. ⊎_elim (λ x. inl x) (λ x. inr (inl x)) (s.only m e o)) (λ x. inr (inr x)) (t.only m e i);
}

-- ---- children

pub starts_more : (a b d : List (List Edge)) (ts : List ChildTable) (n k : ℕ) (t : ChildTable) → slice_get ts k ≡ Some t
    → Links a b (OneStarts ts n k) → Links b d (λ m e. (m ≡ t.entry) × (e ≡ edge.Started n t.index))
    → Links a d (OneStarts ts n (k + 1))
starts_more a b d ts n k t g u v = links_as a d (λ m e. OneStarts ts n k m e
    ⊎ IsStart t n m e) (OneStarts ts n (k + 1)) to from (links_then a b d (OneStarts ts n k) (IsStart t n) u v)
  where
    to : (m : ℕ) (e : Edge) → OneStarts ts n k m e ⊎ IsStart t n m e → OneStarts ts n (k + 1) m e
    to m e (inl (j, child, below, there, start)) = (j, child, omega (arith, below), there, start)
    to m e (inr w) = (k, t, omega arith, g, w)

    from : (m : ℕ) (e : Edge) → OneStarts ts n (k + 1) m e → OneStarts ts n k m e ⊎ IsStart t n m e
    from m e (j, child, below, there, start) =
        ⊎_elim (λ less. inl (j, child, less, there, start))
        (λ s. inr (subst (λ (y : ChildTable). IsStart y n m e) (same_Some child t (sym there ∙ ap (slice_get ts) s
        ∙ g)) start)) (below_or_last j k below)

-- ---- operands

pub deep_linked : (a b : List (List Edge)) (l : Layout) (o : Option Edge) (e : Edge) → o ≡ Some e
    → Links a b (λ m f. (m ≡ l.entry) × (f ≡ e)) → Links a b (λ m f. (m ≡ l.entry) × (o ≡ Some f))
deep_linked a b l o e s t = links_as a b (λ m f. (m ≡ l.entry) × (f ≡ e)) (λ m f. (m ≡ l.entry)
    × (o ≡ Some f)) (λ m f w. (w.0, s ∙ ap Some (sym w.1))) (λ m f w. (w.0, same_Some f e (sym w.1 ∙ s))) t

module _ (l : Layout) (n : ℕ) (ss : List Shape) where
  pub deeper_more : (a b d : List (List Edge)) (j : ℕ) (s : Shape) → slice_get ss j ≡ Some s
      → Links a b (IsDeeper l n ss j) → Links b d (λ m e. (m ≡ l.entry) × (deep_edge l n j s ≡ Some e))
      → Links a d (IsDeeper l n ss (j + 1))
  deeper_more a b d j s g u v =
      links_as a d (λ m e. IsDeeper l n ss j m e
      ⊎ ((m ≡ l.entry) × (deep_edge l n j s ≡ Some e))) (IsDeeper l n ss (j + 1)) to from
      (links_then a b d (IsDeeper l n ss j) (λ m e. (m ≡ l.entry) × (deep_edge l n j s ≡ Some e)) u v)
    where
      to : (m : ℕ) (e : Edge) → IsDeeper l n ss j m e ⊎ ((m ≡ l.entry) × (deep_edge l n j s ≡ Some e))
          → IsDeeper l n ss (j + 1) m e
      to m e (inl (h, (d, z, w))) = (h, (d, omega (arith, z), w))
      to m e (inr (h, w)) = (h, (j, omega arith, (s, g, w)))

      from : (m : ℕ) (e : Edge) → IsDeeper l n ss (j + 1) m e → IsDeeper l n ss j m e
          ⊎ ((m ≡ l.entry) × (deep_edge l n j s ≡ Some e))
      from m e (h, (d, z, (t, i, w))) =
          ⊎_elim (λ q. inl (h, (d, q, (t, i, w))))
          (λ q. inr (
            h,
            subst (λ y. deep_edge l n j y ≡ Some e) (same_Some t s (sym i ∙ ap (slice_get ss) q
                ∙ g)) (subst (λ y. deep_edge l n y t ≡ Some e) q w),
          )) (below_or_last d j z)

  -- where no operand is left, there are no more
  pub deeper_end : (a b : List (List Edge)) (j k : ℕ) → ((d : ℕ) → j < d + 1 → slice_get ss d ≡ None)
      → Links a b (IsDeeper l n ss j) → j < k + 1 → Links a b (IsDeeper l n ss k)
  deeper_end a b j k none t h = links_as a b (IsDeeper l n ss j) (IsDeeper l n ss k)
      (λ m e (q, (d, below, deep)). (q, (d, omega (arith, below, h), deep))) from t
    where
      from : (m : ℕ) (e : Edge) → IsDeeper l n ss k m e → IsDeeper l n ss j m e
      from m e (q, (d, z, (s, i, w))) =
          ⊎_elim (λ x. (q, (d, x, (s, i, w))))
          (λ x. absurd (none-some s (sym (none d
          (⊎_elim (λ y. let v : d ≡ j = y in omega (arith, v)) (λ y. omega (arith, y)) x)) ∙ i)))
          (less_same_or_more d j)

  -- where the edges of those left are there, there are no more
  pub deeper_known : (a b : List (List Edge)) (j : ℕ) (at : List Shape)
      → ((d : ℕ) → slice_get at d ≡ slice_get ss (j + d))
      → ((i : ℕ) (s : Shape) (e : Edge) → slice_get at i ≡ Some s → j + i < length l.formals
      → deep_edge l n (j + i) s ≡ Some e → HasEdge b l.entry e)
      → Links a b (IsDeeper l n ss j) → j < length l.formals + 1 → Links a b (IsDeeper l n ss (length l.formals))
  deeper_known a b j at left known t h = record { size = t.size; kept = t.kept; has = has; only = only }
    where
      known_there : (d : ℕ) (s : Shape) (e : Edge) → j < d + 1 → d < length l.formals → slice_get ss d ≡ Some s
          → deep_edge l n d s ≡ Some e → HasEdge b l.entry e
      known_there d s e low z i w = known (d - j) s e (left (d - j) ∙ ap (slice_get ss) back ∙ i)
          (subst (λ k. k < length l.formals) (sym back) z) (subst (λ k. deep_edge l n k s ≡ Some e) (sym back) w)
        where
          back : j + (d - j) ≡ d
          back = omega (arith, low)

      has : (m : ℕ) (e : Edge) → IsDeeper l n ss (length l.formals) m e → HasEdge b m e
      has m e (q, (d, z, (s, i, w))) =
          ⊎_elim (λ x. t.has m e (q, (d, x, (s, i, w))))
          (λ x. subst (λ k. HasEdge b k e) (sym q) (known_there d s e
          (⊎_elim (λ y. let v : d ≡ j = y in omega (arith, v)) (λ y. omega (arith, y)) x) z i w))
          (less_same_or_more d j)

      only : (m : ℕ) (e : Edge) → HasEdge b m e → HasEdge a m e ⊎ IsDeeper l n ss (length l.formals) m e
      only m e i = ⊎_elim (λ o. inl o) (λ (q, (d, below, deep)). inr (q, (d, omega (arith, below, h), deep)))
          (t.only m e i)

  -- the edges of all operands are those of formals and actual variables
  passed_is : (y k x left : ℕ) (v : Option ℕ) (f : Option Formal) (s : Shape) → v ≡ Some y
      → f ≡ Some (formal.Reference k) → s ≡ A x left → passed_by n v f s ≡ Some (edge.Passed n y x)
  passed_is y k x left v f s ev ef es = ap (λ (z : Option ℕ). passed_by n z f s) ev
      ∙ ap (λ (z : Option Formal). passed_by n (Some y) z s) ef
      ∙ ap (λ (z : Shape). passed_by n (Some y) (Some (formal.Reference k)) z) es

  is_passed : (v : Option ℕ) (f : Option Formal) (s : Shape) (e : Edge) → passed_by n v f s ≡ Some e
      → (y k x left : ℕ) × (v ≡ Some y) × (f ≡ Some (formal.Reference k)) × (s ≡ A x left) × (e ≡ edge.Passed n y x)
  is_passed (Some y) (Some (formal.Reference k)) (A x left) e h =
      (y, k, x, left, refl, refl, refl, sym (same_Some (edge.Passed n y x) e h))
  is_passed None f s e h = absurd (none-some e h)
  is_passed (Some y) None s e h = absurd (none-some e h)
  is_passed (Some y) (Some (formal.Value k)) s e h = absurd (none-some e h)
  is_passed (Some y) (Some (formal.Reference k)) O e h = absurd (none-some e h)
  is_passed (Some y) (Some (formal.Reference k)) C e h = absurd (none-some e h)
  is_passed (Some y) (Some (formal.Reference k)) (L m) e h = absurd (none-some e h)

  turned : (k m : ℕ) → k < m → m - 1 - (m - 1 - k) ≡ k
  turned k m h = omega (arith, h)

  deep_passed : (e : Edge) → ((d : ℕ) × (d < length l.formals) × IsDeep l n ss d e) → IsPassed l n ss e
  deep_passed e (d, z, (s, i, w)) =
      let (y, cells, x, left, number_is, formal_is, operand_is, edge_is) = is_passed
      (slice_get l.variables (formal_at l d)) (slice_get l.formals (formal_at l d)) s e w in (
        formal_at l d,
        y,
        x,
        number_is,
        (
          cells,
          left,
          formal_is,
          ap (slice_get ss) (turned d (length l.formals) z) ∙ i
              ∙ ap Some operand_is,
        ),
        edge_is,
      )

  passed_deep : (e : Edge) → IsPassed l n ss e → (d : ℕ) × (d < length l.formals) × IsDeep l n ss d e
  passed_deep e (k, y, x, num, (cells, left, ef, es), h) =
      let z : k < length l.formals = slice_get_within l.formals k (formal.Reference cells) ef in
      let q : formal_at l (formal_at l k) ≡ k = turned k (length l.formals) z in (
        formal_at l k,
        omega (arith, z),
        (
          A x left,
          es,
          passed_is y cells x left (slice_get l.variables (formal_at l (formal_at l k)))
              (slice_get l.formals (formal_at l (formal_at l k))) (A x left) (ap (slice_get l.variables) q
              ∙ num) (ap (slice_get l.formals) q ∙ ef) refl ∙ ap Some (sym h),
        ),
      )

  pub call_linked : (a b d : List (List Edge)) → Links a b (λ m e. (m ≡ l.entry) × (e ≡ edge.Called n))
      → Links b d (IsDeeper l n ss (length l.formals)) → (flag : Bool) → flag ≡ true → Links a d (IsCall flag l n ss)
  call_linked a b d u v flag on =
      links_as a d (λ m e. ((m ≡ l.entry) × (e ≡ edge.Called n))
      ⊎ IsDeeper l n ss (length l.formals) m e) (IsCall flag l n ss) to from
      (links_then a b d (λ m e. (m ≡ l.entry) × (e ≡ edge.Called n)) (IsDeeper l n ss (length l.formals)) u v)
    where
      to : (m : ℕ) (e : Edge) → ((m ≡ l.entry) × (e ≡ edge.Called n)) ⊎ IsDeeper l n ss (length l.formals) m e
          → IsCall flag l n ss m e
      to m e (inl w) = (w.0, inl w.1)
      to m e (inr w) = (w.0, inr (on, deep_passed e w.1))

      from : (m : ℕ) (e : Edge) → IsCall flag l n ss m e → ((m ≡ l.entry) × (e ≡ edge.Called n))
          ⊎ IsDeeper l n ss (length l.formals) m e
      from m e (h, inl w) = inl (h, w)
      from m e (h, inr w) = inr (h, passed_deep e w.1)

  -- a block that does nothing has none for its formals
  pub idle_linked : (a b : List (List Edge)) → Links a b (λ m e. (m ≡ l.entry) × (e ≡ edge.Called n))
      → (flag : Bool) → flag ≡ false → Links a b (IsCall flag l n ss)
  idle_linked a b u flag off =
      links_as a b (λ m e. (m ≡ l.entry) × (e ≡ edge.Called n)) (IsCall flag l n ss) (λ m e w. (w.0, inl w.1)) from u
    where
      from : (m : ℕ) (e : Edge) → IsCall flag l n ss m e → (m ≡ l.entry) × (e ≡ edge.Called n)
      from m e (h, inl w) = (h, w)
      from m e (h, inr w) = absurd (not_true_and_false flag w.0 off)

-- the operands left are those further down
pub below_more : (ss at rest : List Shape) (s : Shape) (j : ℕ) → at ≡ s ∷ rest
    → ((d : ℕ) → slice_get at d ≡ slice_get ss (j + d)) → (slice_get ss j ≡ Some s)
    × ((d : ℕ) → slice_get rest d ≡ slice_get ss (j + 1 + d))
below_more ss at rest s j e h = (
  sym (h 0 ∙ ap (slice_get ss) start)
      ∙ ap (λ (xs : List Shape). slice_get xs 0) e,
  λ d. ap (λ (xs : List Shape). slice_get xs (suc d)) (sym e)
      ∙ h (suc d) ∙ ap (slice_get ss) (next d),
)
  where
    start : j + 0 ≡ j
    start = omega arith

    next : (d : ℕ) → j + suc d ≡ j + 1 + d
    next d = omega arith

pub none_below : (ss at : List Shape) (j : ℕ) → at ≡ [] → ((d : ℕ) → slice_get at d ≡ slice_get ss (j + d)) → (d : ℕ)
    → j < d + 1 → slice_get ss d ≡ None
none_below ss at j e h d l = ap (slice_get ss) further ∙ sym (h (d - j))
    ∙ ap (λ (xs : List Shape). slice_get xs (d - j)) e
  where
    further : d ≡ j + (d - j)
    further = omega (arith, l)

-- ---- at an instruction

module _ (c : Parts) (p : ℕ) where
  module _ (acts : List Bool) (shapes : Shapes) (are : AreShapes c shapes) where
    pub no_stack : (a : List (List Edge)) → reached_at shapes p ≡ None → Links a a (CalledAt c acts p)
    no_stack a e = links_none a (CalledAt c acts p)
        (λ m g (area, _, _, ss, _, there, call, _).
        let k = are.all area p ss (there, call.reached) in none-some k.0 (sym e
        ∙ reached_there shapes p k.0 k.1))

  module _ (a : Area) (n : ℕ) (only : LiesOnlyIn c p a) (at : entry c a ≡ n) where
    pub call_at : (acts : List Bool) (x y : List (List Edge)) (shapes : Shapes) (s f : ℕ) (l : Layout)
        → AreShapes c shapes
        → reached_at shapes p ≡ Some s → called_block (instr_at c p) ≡ Some f → layout_of c.layouts f ≡ Some l
        → Links x y (IsCall (flag_at acts l.entry) l n (list_of shapes.stacks s)) → Links x y (CalledAt c acts p)
    call_at acts x y shapes s f l are e b h t = links_as x y (IsCall flag l n ss) (CalledAt c acts p) to from t
      where
        flag : Bool
        flag = flag_at acts l.entry

        ss : List Shape
        ss = list_of shapes.stacks s

        here : slice_get shapes.at p ≡ Some (Some s)
        here = stands shapes p s e

        same_area : (d : Area) (ts : List Shape) → ComesTo c d p ts → d ≡ a
        same_area d ts w = only.1 d (w.0, passes c d p ts w.1)

        comes : Reaches c a p ss
        comes = let (area, come) = are.come p s here in
            subst (λ (z : Area). Reaches c z p ss) (same_area area ss come) come.1

        to : (m : ℕ) (g : Edge) → IsCall flag l n ss m g → CalledAt c acts p m g
        to m g w =
            let u = called_is (instr_at c p) f b in
            let lies = only.0 in (
              a,
              f,
              u.0,
              ss,
              l,
              lies.0,
              record { reached = comes; call = u.1; layout = h },
              subst
                  (λ z. IsCall flag l z ss m g) (sym at) w,
            )

        from : (m : ℕ) (g : Edge) → CalledAt c acts p m g → IsCall flag l n ss m g
        from m g (d, k, up, ts, o, there, call, w) =
            let q : d ≡ a = same_area d ts (there, call.reached) in
            let r = are.all d p ts (there, call.reached) in
            let i : s ≡ r.0 = same_Some s r.0 (same_Some (Some s) (Some r.0) (sym here ∙ r.1)) in
            let es : ts ≡ ss = sym r.2 ∙ ap (list_of shapes.stacks) (sym i) in
            let ek : f ≡ k = same_Some f k (sym b ∙ ap called_block call.call) in
            let eo : o ≡ l = same_Some o l (sym call.layout ∙ ap (layout_of c.layouts) (sym ek) ∙ h) in
            subst (λ (z : Layout). IsCall (flag_at acts z.entry) z n ss m g) eo
            (subst (λ (z : List Shape). IsCall (flag_at acts o.entry) o n z m g) es
            (subst (λ z. IsCall (flag_at acts o.entry) o z ts m g) (ap (entry c) q ∙ at) w))

    pub starts_at : (x y : List (List Edge)) (tb : ForkTable) (ts : List ChildTable)
        → table_at c.forks (table_named (instr_at c p)) ≡ Some tb → ts ≡ tb.children
        → Links x y (OneStarts ts n (length ts)) → Links x y (StartedAt c p)
    starts_at x y tb ts e s t = links_as x y (OneStarts ts n (length ts)) (StartedAt c p) to from t
      where
        child_is : (k : ℕ) → child_at c p k ≡ slice_get ts k
        child_is k = ap (λ (o : Option ForkTable). child_of o k) e
            ∙ ap (λ (xs : List ChildTable). slice_get xs k) (sym s)

        to : (m : ℕ) (g : Edge) → OneStarts ts n (length ts) m g → StartedAt c p m g
        to m g (k, ch, z, h, w) = let lies = only.0 in (
          a,
          k,
          ch,
          lies.0,
          (
            lies.1,
            child_is k
                ∙ h,
          ),
          subst (λ j. IsStart ch j m g) (sym at) w,
        )

        from : (m : ℕ) (g : Edge) → StartedAt c p m g → OneStarts ts n (length ts) m g
        from m g (d, k, ch, there, st, w) =
            let q : d ≡ a = only.1 d (there, st.0) in
            let h = sym (child_is k) ∙ st.1 in
            (k, ch, slice_get_within ts k ch h, h, subst (λ j. IsStart ch j m g) (ap (entry c) q ∙ at) w)

  pub nothing_at : (acts : List Bool) (a : List (List Edge)) → ((d : Area) → LiesIn c p d → ⊥)
      → Links a a (EdgeAt c acts p)
  nothing_at acts a never =
      links_none a (EdgeAt c acts p) (λ m g w. ⊎_elim
      (λ (z : CalledAt c acts p m g). let (d, _, _, ss, _, there, call, _) = z in
      never d (there, passes c d p ss call.reached))
      (λ (z : StartedAt c p m g). let (d, _, _, there, started, _) = z in never d (there, started.0)) w)

-- ---- first instructions are there

module _ (c : Parts) (kept : (p : ℕ) → BreaksV1 c p → ⊥) where
  pub layout_within : (b : ℕ) (l : Layout) → layout_of c.layouts b ≡ Some l → l.entry < length c.instrs
  layout_within b l e = ⊎_elim (λ h. h)
      (λ z. absurd (kept l.entry (NotThere
      (inr (record {
        past = ⊎_elim (λ q. let s : l.entry ≡ length c.instrs = q in omega (arith, s))
            (λ q. omega (arith, q)) z;
        of = inl (l, (let j = layout_in c.layouts b l e in (j.0, j.1)), refl);
      })))))
      (less_same_or_more l.entry (length c.instrs))

  pub child_within : (p k : ℕ) (t : ChildTable) → child_at c p k ≡ Some t → t.entry < length c.instrs
  child_within p k t e =
      let n = name_of (table_named (instr_at c p)) k c.forks t e in
      let i : IsChild c n.0 k t = sym (ap (λ (z : Option ℕ). child_of (table_at c.forks z) k) n.1) ∙ e in
      ⊎_elim (λ h. h) (λ z. absurd (kept t.entry
      (NotThere (inr (record {
        past = ⊎_elim (λ q. let s : t.entry ≡ length c.instrs = q in omega (arith, s))
            (λ q. omega (arith, q)) z;
        of = inr (n.0, k, t, i, refl);
      }))))) (less_same_or_more t.entry (length c.instrs))

  -- each area that is there begins at an instruction that is there
  pub entry_within : (a : Area) → IsArea c a → entry c a < length c.instrs
  entry_within (Body b) (l, e) = subst (λ n. n < length c.instrs) (sym (ap entry_of_layout e)) (layout_within b l e)
  entry_within (Child a p k) (i, w, (t, e)) = subst (λ n. n < length c.instrs) (sym (ap entry_of_child e))
      (child_within p k t e)

-- ---- at all of them

module _ (c : Parts) (acts : List Bool) where
  pub no_edges : (rows : List (List Edge)) → length rows ≡ length c.instrs → ((m : ℕ) (e : Edge) → HasEdge rows m e → ⊥)
      → HasEdges c acts 0 rows
  no_edges rows s none = record {
    size = s;
    has = λ p m e l w. absurd (omega (arith, l));
    only = λ m e w. absurd
        (none m e w);
  }

  pub more_edges : (a b : List (List Edge)) (n : ℕ) → HasEdges c acts n a → Links a b (EdgeAt c acts n)
      → HasEdges c acts (n + 1) b
  more_edges a b n h t = record { size = t.size ∙ h.size; has = has; only = only }
    where
      has : (p m : ℕ) (e : Edge) → p < n + 1 → EdgeAt c acts p m e → HasEdge b m e
      has p m e l w = ⊎_elim (λ z. t.kept m e (h.has p m e z w)) (λ s. t.has m e (subst (λ q. EdgeAt c acts q m e) s w))
          (below_or_last p n l)

      only : (m : ℕ) (e : Edge) → HasEdge b m e → (p : ℕ) × EdgeAt c acts p m e
      only m e w = ⊎_elim (λ z. h.only m e z) (λ z. (n, z)) (t.only m e w)

-- rows with no edges
pub rows_more : (rows : List (List Edge)) (none : List Edge) → none ≡ [] → ((m : ℕ) (e : Edge) → HasEdge rows m e → ⊥)
    → (m : ℕ) (e : Edge) → HasEdge (rows ++ none ∷ []) m e → ⊥
rows_more [] none s h zero e (r, g, i) = none-some e
    (ap (λ (x : List Edge). slice_get x i.0) (sym (sym (same_Some none r g) ∙ s)) ∙ i.1)
rows_more [] none s h (suc m) e (r, g, i) = none-some r g
rows_more (x ∷ rows) none s h zero e w = h 0 e w
rows_more (x ∷ rows) none s h (suc m) e w = rows_more rows none s (λ n f v. h (suc n) f v) m e w
