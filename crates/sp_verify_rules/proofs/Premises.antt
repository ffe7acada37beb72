-- Where no rule is broken at any instruction, what the theorem asks for holds.
use Rattle.std.proofs.Common.{◌≡◌, ◌≢◌, ◌⊎◌, inl, inr, ℕ, zero, suc, ◌+◌, ◌≤◌, ◌<◌, ◌==◌, List, [], ◌∷◌, ◌++◌, length}
use Rattle.std.proofs.Common.{Option, Some, None, Bool, true, false, ◌&&◌, refl, sym, ap, ◌∙◌, subst, eqb-true, arith}
use Rattle.std.specs.Prelude.{slice_get}
use Rattle.std.proofs.lemmas.Bool.{eq-eqb, eqb-false, and_parts, true_from_ne_false}
use Rattle.std.proofs.lemmas.Option.{same_Some}
use Rattle.sp_base.proofs.Facts.{less_same_or_more, not_true_and_false}
use Rattle.sp_code.specs.declared.instr.Instr.{Instr}
use Rattle.sp_code.specs.declared.instr.Instr.TheVariants as i
use Rattle.sp_code.specs.declared.code.Formal.{Formal}
use Rattle.sp_code.specs.declared.code.Formal.TheVariants as formal
use Rattle.sp_code.specs.Sound.{HasDistinctBlocks}
use Rattle.sp_code.specs.declared.code.Layout.{Layout}
use Rattle.sp_code.specs.declared.code.ChildTable.{ChildTable}
use Rattle.sp_code.specs.declared.code.ForkTable.{ForkTable}
use Rattle.sp_code.specs.declared.code.Parts.{Parts}
use Rattle.sp_code.specs.Formals.{HasRoom, HaveFormals}
use Rattle.sp_code.specs.Machine.{layout_of}
use Rattle.sp_verify_rules.specs.Areas.{Area, Body, Child, instr_at, table_named, child_of, leads_by}
use Rattle.sp_verify_rules.specs.Shapes.{Shape, stays_within}
use Rattle.sp_verify_rules.specs.Reach.{IsArea, BringsShapes, Reaches, IsWhole, Arrives}
use Rattle.sp_verify_rules.specs.InstructionFacts.{IsSent, IsReceived, message_cells}
use Rattle.sp_verify_rules.specs.NameRules.{is_some, names_there, level_fits, ends_well, names_well, loops_well}
use Rattle.sp_verify_rules.specs.NameRules.{has_sizes}
use Rattle.sp_verify_rules.specs.NameRules.{is_program, begins_with, formals_cells, formal_cells, answer_cells}
use Rattle.sp_verify_rules.specs.NameRules.{Declared}
use Rattle.sp_verify_rules.specs.NameRules.{InLayout}
use Rattle.sp_verify_rules.specs.NameRules.{OfChild, IsBefore, declaration_at, IsChild, Names, LiesIn, BreaksV1}
use Rattle.sp_verify_rules.specs.NameRules.{NotThere}
use Rattle.sp_verify_rules.specs.NameRules.{BlocksApart}
use Rattle.sp_verify_rules.specs.NameRules.{WithoutProgram, Twice, SizesDiffer, TableUnnamed, TableIndexed}
use Rattle.sp_verify_rules.specs.NameRules.{LevelDiffers}
use Rattle.sp_verify_rules.specs.NameRules.{InTwo}
use Rattle.sp_verify_rules.specs.NameRules.{EndsWrong, NamedWrong, LoopsWrong}
use Rattle.sp_verify_rules.specs.Rules.{ComesTo, call_fits, BreaksV2, LacksOperand, Differs, BreaksV3, PassesLeft}
use Rattle.sp_verify_rules.specs.Rules.{BreaksV4}
use Rattle.sp_verify_rules.specs.Rules.{OtherLength, NoRoom, BreaksV5, NoFit}
use Rattle.sp_verify_rules.specs.KeepsCodeRules.{KeepsCodeRules, HaveChildren, FitsTypes}
use Rattle.sp_verify_rules.proofs.FrameScopes.{found_layout}
use Rattle.sp_verify_rules.proofs.ShapeTables.{not_different}
use Rattle.sp_verify_rules.proofs.ShapePaths.{passes}

-- two numbers, or two areas, that are not different are equal
not_other : (a b : ℕ) → (a ≢ b → ⊥) → a ≡ b
not_other a b h = go (a == b) refl
  where
    go : (t : Bool) → (a == b) ≡ t → a ≡ b
    go true e = eqb-true a b e
    go false e = absurd (h (eqb-false a b e))

same_area : Area → Area → Bool
same_area (Body b) (Body d) = b == d
same_area (Body b) (Child a p k) = false
same_area (Child a p k) (Body d) = false
same_area (Child a p k) (Child b q j) = same_area a b && ((p == q) && (k == j))

area_is : (a b : Area) → same_area a b ≡ true → a ≡ b
unfolding same_area
area_is (Body b) (Body d) e = ap Body (eqb-true b d e)
area_is (Body b) (Child a p k) e = absurd (cc e)
area_is (Child a p k) (Body d) e = absurd (cc e)
area_is (Child a p k) (Child b q j) e =
    let r = and_parts (same_area a b) ((p == q) && (k == j)) e in
    let s = and_parts (p == q) (k == j) r.1 in
    let x = area_is a b r.0 in let y = eqb-true p q s.0 in let z = eqb-true k j s.1 in λ t. Child (x t) (y t) (z t)

area_same : (a : Area) → same_area a a ≡ true
unfolding same_area
area_same (Body b) = eq-eqb b b refl
area_same (Child a p k) = rw (area_same a, eq-eqb p p refl, eq-eqb k k refl)

not_other_area : (a b : Area) → (a ≢ b → ⊥) → a ≡ b
not_other_area a b h = go (same_area a b) refl
  where
    go : (t : Bool) → same_area a b ≡ t → a ≡ b
    go true e = area_is a b e
    go false e = absurd (h (λ z. not_true_and_false (same_area a b) (subst (λ y. same_area a y ≡ true) z (area_same a))
        e))

-- of two declarations one comes first, or they are one
which_first : (d e : Declared) → IsBefore d e ⊎ ((d ≡ e) ⊎ IsBefore e d)
which_first (InLayout j k) (OfChild t m) = inl tt
which_first (OfChild t k) (InLayout l m) = inr (inr tt)
which_first (InLayout j k) (InLayout l m) = first (less_same_or_more j l) (less_same_or_more k m)
  where
    first : (j < l) ⊎ ((j ≡ l) ⊎ (l < j)) → (k < m) ⊎ ((k ≡ m) ⊎ (m < k)) → IsBefore (InLayout j k) (InLayout l m)
        ⊎ ((InLayout j k ≡ InLayout l m) ⊎ IsBefore (InLayout l m) (InLayout j k))
    first (inl h) w = inl (inl h)
    first (inr (inr h)) w = inr (inr (inl h))
    first (inr (inl e)) (inl h) = inl (inr (e, h))
    first (inr (inl e)) (inr (inl f)) = inr (inl (λ t. InLayout (e t) (f t)))
    first (inr (inl e)) (inr (inr h)) = inr (inr (inr (sym e, h)))
which_first (OfChild t k) (OfChild u m) = first (less_same_or_more t u) (less_same_or_more k m)
  where
    first : (t < u) ⊎ ((t ≡ u) ⊎ (u < t)) → (k < m) ⊎ ((k ≡ m) ⊎ (m < k)) → IsBefore (OfChild t k) (OfChild u m)
        ⊎ ((OfChild t k ≡ OfChild u m) ⊎ IsBefore (OfChild u m) (OfChild t k))
    first (inl h) w = inl (inl h)
    first (inr (inr h)) w = inr (inr (inl h))
    first (inr (inl e)) (inl h) = inl (inr (e, h))
    first (inr (inl e)) (inr (inl f)) = inr (inl (λ z. OfChild (e z) (f z)))
    first (inr (inl e)) (inr (inr h)) = inr (inr (inr (sym e, h)))

-- a fork has a first child
first_child : (ts : List ForkTable) (t : ℕ) (tb : ForkTable) → slice_get ts t ≡ Some tb → 1 ≤ length tb.children
    → (ch : ChildTable) × (child_of (slice_get ts t) 0 ≡ Some ch)
first_child ts t tb e h = go tb.children refl h
  where
    go : (cs : List ChildTable) → tb.children ≡ cs → 1 ≤ length cs → (ch : ChildTable)
        × (child_of (slice_get ts t) 0 ≡ Some ch)
    go [] s h = absurd (omega (arith, h))
    go (ch ∷ cs) s h = (ch, ap (λ o. child_of o 0) e ∙ ap (λ z. slice_get z 0) s)

-- where no instruction of an area is found broken, each is whole, and so what a way brings arrives
module _ (c : Parts) (v2 : (p : ℕ) → BreaksV2 c p → ⊥) (a : Area) (area : IsArea c a) where
  whole : (n p : ℕ) → IsWhole c a (Arrives c a n) p
  whole n p = (
    λ ss ts s t. not_different ss ts (λ d. v2 p (Differs a n ss ts (area, s) (area, t) d)),
    λ ss s e. v2 p (LacksOperand a n ss (area, s) e),
  )

  arrives : (n p : ℕ) (ss : List Shape) → BringsShapes c a n p ss → Arrives c a n p ss
  arrives zero p ss b = b
  arrives (suc n) q ts (p, ss, before, leads) = inr (p, ss, arrives n p ss before, whole n p, leads)

  longer : (m n p : ℕ) (ss : List Shape) → Arrives c a n p ss → Arrives c a (m + n) p ss
  longer zero n p ss h = let s : n ≡ 0 + n = omega arith in subst (λ k. Arrives c a k p ss) s h
  longer (suc m) n p ss h = let s : suc (m + n) ≡ suc m + n = omega arith in subst (λ k. Arrives c a k p ss) s
      (inl (longer m n p ss h))

  -- so ways of any lengths bring one list of shapes
  one_list : (p : ℕ) (ss ts : List Shape) → Reaches c a p ss → Reaches c a p ts → ss ≡ ts
  one_list p ss ts r s =
      let m = r.steps in let n = s.steps in
      let swap : m + n ≡ n + m = omega arith in
      (whole (n + m) p).0 ss ts (longer n m p ss (arrives m p ss r.way))
      (subst (λ k. Arrives c a k p ts) swap (longer m n p ts (arrives n p ts s.way)))

module _ (c : Parts) (children : HaveChildren c) (fitting : FitsTypes c) (v1 : (p : ℕ) → BreaksV1 c p → ⊥) (v2 : (p : ℕ)
    → BreaksV2 c p → ⊥) (v3 : (p : ℕ) → BreaksV3 c p → ⊥) (v4 : (p : ℕ) → BreaksV4 c p → ⊥) (v5 : (p : ℕ) → BreaksV5 c p
    → ⊥) where
  there : (p : ℕ) → names_there c (instr_at c p) ≡ true
  there p = true_from_ne_false (names_there c (instr_at c p)) (λ e. v1 p (NotThere (inl e)))

  -- the table that an instruction names
  table_of : (p t : ℕ) → Names c t p → (tb : ForkTable) × (slice_get c.forks t ≡ Some tb)
  table_of p t n = go (instr_at c p) n (there p)
    where
      found : (o : Option ForkTable) → is_some o ≡ true → (tb : ForkTable) × (o ≡ Some tb)
      found None e = absurd (cc e)
      found (Some x) e = (x, refl)

      of : (u : ℕ) → ◌≡◌ {A = Option ℕ} (Some u) (Some t) → is_some (slice_get c.forks u) ≡ true → (tb : ForkTable)
          × (slice_get c.forks t ≡ Some tb)
      of u n e = found (slice_get c.forks t) (subst (λ z. is_some (slice_get c.forks z) ≡ true) (same_Some u t n) e)

      go : (o : Option Instr) → table_named o ≡ Some t → names_there c o ≡ true → (tb : ForkTable)
          × (slice_get c.forks t ≡ Some tb)
      go (Some (i.Fork u)) n e = of u n e
      go (Some (i.Forall u)) n e = of u n e
      go _ n e = absurd (cc n)

  apart : (p : ℕ) (a b : Area) → LiesIn c p a → LiesIn c p b → a ≡ b
  apart p a b x y = not_other_area a b (λ h. v1 p (InTwo (a, x, inl (b, y, h))))

  once : (d e : Declared) (x q r : ℕ) → declaration_at c d ≡ Some (x, q) → declaration_at c e ≡ Some (x, r) → d ≡ e
  once d e x q r h k = go (which_first d e)
    where
      go : IsBefore d e ⊎ ((d ≡ e) ⊎ IsBefore e d) → d ≡ e
      go (inl b) = absurd (v1 r (Twice (e, x, k, inr (d, q, b, h))))
      go (inr (inl s)) = s
      go (inr (inr b)) = absurd (v1 q (Twice (d, x, h, inr (e, r, b, k))))

  one_name : (t p q : ℕ) → Names c t p → Names c t q → p ≡ q
  one_name t p q h k =
      let tb = table_of p t h in
      let ch = first_child c.forks t tb.0 tb.1 (children t tb.0 tb.1) in
      not_other p q (λ n. v1 ch.0.entry (TableUnnamed (t, ch.0, ch.1, refl, inr (inl (p, q, h, k, n)))))

  lengths : (k n m : ℕ) → IsSent c k n → IsSent c k m → n ≡ m
  lengths k n m s t = go (less_same_or_more s.position t.position)
    where
      sends_s : (a : Area) × (ss : List Shape) × ComesTo c a s.position ss × (instr_at c s.position ≡ Some (i.Send k))
          × (message_cells c ss ≡ Some n)
      sends_s = (s.area, s.shapes, (s.there, s.reached), s.instruction_is, s.cells)

      sends_t : (a : Area) × (ss : List Shape) × ComesTo c a t.position ss × (instr_at c t.position ≡ Some (i.Send k))
          × (message_cells c ss ≡ Some m)
      sends_t = (t.area, t.shapes, (t.there, t.reached), t.instruction_is, t.cells)

      at_one : s.position ≡ t.position → n ≡ m
      at_one e =
          let rt : Reaches c t.area s.position t.shapes = subst (λ p. Reaches c t.area p t.shapes) (sym e) t.reached in
          let same : t.area ≡ s.area = apart s.position t.area s.area (t.there, passes c t.area s.position t.shapes rt)
          (s.there, passes c s.area s.position s.shapes s.reached) in
          let one = one_list c v2 s.area s.there s.position s.shapes t.shapes s.reached
          (subst (λ a. Reaches c a s.position t.shapes) same rt) in
          same_Some n m (sym s.cells ∙ (ap (message_cells c) one ∙ t.cells))

      go : (s.position < t.position) ⊎ ((s.position ≡ t.position) ⊎ (t.position < s.position)) → n ≡ m
      go (inl l) = not_other n m (λ h. v4 t.position (OtherLength k m s.position n sends_t l sends_s h))
      go (inr (inl e)) = at_one e
      go (inr (inr l)) = not_other n m
          (λ h. v4 s.position (OtherLength k n t.position m sends_s l sends_t (λ z. h (sym z))))

  rooms : (k n m : ℕ) → IsReceived c k n → IsSent c k m → m ≤ n
  rooms k n m r s = go (less_same_or_more n m)
    where
      go : (n < m) ⊎ ((n ≡ m) ⊎ (m < n)) → m ≤ n
      go (inl l) = absurd (v4 r.position (NoRoom k n s.position m (
        r.area,
        r.shapes,
        (r.there, r.reached),
        r.instruction_is,
        r.cells,
      )
          (s.area, s.shapes, (s.there, s.reached), s.instruction_is, s.cells) l))
      go (inr (inl e)) = omega (arith, e)
      go (inr (inr l)) = omega (arith, l)

  real : (d : Declared) (x q : ℕ) → declaration_at c d ≡ Some (x, q) → 2 ≤ x
  real d x q e = go (less_same_or_more x 2)
    where
      go : (x < 2) ⊎ ((x ≡ 2) ⊎ (2 < x)) → 2 ≤ x
      go (inl l) = absurd (v1 q (Twice (d, x, e, inl l)))
      go (inr (inl s)) = omega (arith, s)
      go (inr (inr l)) = omega (arith, l)

  main : (l : Layout) × (layout_of c.layouts 0 ≡ Some l)
  main = go (layout_of c.layouts 0) refl
    where
      go : (o : Option Layout) → layout_of c.layouts 0 ≡ o → (l : Layout) × (layout_of c.layouts 0 ≡ Some l)
      go None e = absurd (v1 0 (WithoutProgram (inl (e, refl))))
      go (Some l) e = (l, e)

  -- a child of a fork has no index
  forks : (p t j : ℕ) (ch : ChildTable) → instr_at c p ≡ Some (i.Fork t) → IsChild c t j ch → ch.index ≡ None
  forks p t j ch e h = go ch.index refl
    where
      go : (o : Option ℕ) → ch.index ≡ o → ch.index ≡ None
      go None s = s
      go (Some x) s = absurd (v1 ch.entry (TableIndexed (t, p, inl (e, (j, ch, h, refl, ap is_some s)))))

  -- a forall has one child, with an index
  foralls : (p t : ℕ) → instr_at c p ≡ Some (i.Forall t) → (tb : ForkTable) × (ch : ChildTable) × (x : ℕ)
      × (slice_get c.forks t ≡ Some tb) × (tb.children ≡ ch ∷ []) × (ch.index ≡ Some x)
  foralls p t e =
      let tb = table_of p t (ap table_named e) in
      let ch = first_child c.forks t tb.0 tb.1 (children t tb.0 tb.1) in
      let ok = and_parts (length tb.0.children == 1) (is_some ch.0.index)
      (true_from_ne_false ((length tb.0.children == 1)
      && is_some ch.0.index) (λ h. v1 ch.0.entry
      (TableIndexed (t, p, inr (e, (ch.0, tb.0, ch.1, refl, tb.1, h)))))) in
      let x = index ch.0.index ok.1 in
      (tb.0, ch.0, x.0, tb.1, only tb.0.children ch.0 ok.0 (sym (ap (λ o. child_of o 0) tb.1) ∙ ch.1), x.1)
    where
      index : (o : Option ℕ) → is_some o ≡ true → (x : ℕ) × (o ≡ Some x)
      index None h = absurd (cc h)
      index (Some x) h = (x, refl)

      only : (cs : List ChildTable) (ch : ChildTable) → (length cs == 1) ≡ true → slice_get cs 0 ≡ Some ch
          → cs ≡ ch ∷ []
      only [] ch h s = absurd (cc s)
      only (x ∷ []) ch h s = ap (λ z. z ∷ []) (same_Some x ch s)
      only (x ∷ y ∷ cs) ch h s = absurd (omega (arith, eqb-true (suc (suc (length cs))) 1 h))

  pub keeps : KeepsCodeRules c
  keeps = record {
    small = fitting;
    main = main;
    forks = forks;
    foralls = foralls;
    right = λ a p ss r e. v2 p (LacksOperand a r.1.steps ss (r.0, arrives c v2 a r.0 r.1.steps p ss r.1.way) e);
    within = λ a p ss r. true_from_ne_false (stays_within (instr_at c p) ss) (λ e. v3 p (PassesLeft a ss r e));
    fits = λ a p ss r. true_from_ne_false (call_fits c (instr_at c p) ss) (λ e. v5 p (NoFit a ss r e));
    there = there;
    levels = λ a p l. true_from_ne_false (level_fits c a (instr_at c p)) (λ e. v1 p (LevelDiffers (a, l, e)));
    ends = λ a p l. true_from_ne_false (ends_well c a (instr_at c p)) (λ e. v1 p (EndsWrong (a, l, e)));
    names = λ a p l. true_from_ne_false (names_well c a (instr_at c p)) (λ e. v1 p (NamedWrong (a, l, e)));
    loops = λ a p l. true_from_ne_false (loops_well c a (instr_at c p)) (λ e. v1 p (LoopsWrong (a, l, e)));
    parents = λ b l e. let (_, (j, is)) = found_layout c.layouts b l e in true_from_ne_false
        (leads_by (length c.layouts) c.layouts (Some l)) (λ z. v1 l.entry (BlocksApart (j, l, is, refl, inr z)));
    program = λ l e. let f = found_layout c.layouts 0 l e in true_from_ne_false (is_program l)
        (λ z. v1 l.entry (WithoutProgram (inr (l, f.1, f.0, refl, z))));
    sizes = λ l h. true_from_ne_false (has_sizes l) (λ z. v1 l.entry (SizesDiffer (l, h, refl, z)));
    real = real;
    once = once;
    one_name = one_name;
    apart = apart;
    lengths = lengths;
    rooms = rooms;
  }

  -- no two layouts are of one block
  pub distinct : HasDistinctBlocks c.layouts
  distinct j k l m e f same = not_other j k
      (λ n. v1 l.entry (BlocksApart (j, l, e, refl, inl (k, m, f, (λ z. n (sym z)), sym same))))

  -- the frame of a block begins with its formals
  begins : (fs : List Formal) (a : Bool) (ns : List ℕ) → begins_with (formals_cells fs ++ answer_cells a) ns ≡ true
      → (j : ℕ) (f : Formal) → slice_get fs j ≡ Some f → slice_get ns j ≡ Some (formal_cells f)
  begins [] a ns e j f s = absurd (cc s)
  begins (g ∷ fs) a [] e j f s = absurd (cc e)
  begins (g ∷ fs) a (n ∷ ns) e zero f s = ap Some
      (sym (eqb-true (formal_cells g) n (and_parts (formal_cells g == n) (begins_with (formals_cells fs
      ++ answer_cells a) ns) e).0) ∙ ap formal_cells (same_Some g f s))
  begins (g ∷ fs) a (n ∷ ns) e (suc j) f s = begins fs a ns
      (and_parts (formal_cells g == n) (begins_with (formals_cells fs ++ answer_cells a) ns) e).1 j f s

  pub formals_have_cells : (b : ℕ) (l : Layout) → layout_of c.layouts b ≡ Some l → (j : ℕ) (f : Formal)
      → slice_get l.formals j ≡ Some f → slice_get l.sizes j ≡ Some (formal_cells f)
  formals_have_cells b l e j f s =
      let ok = and_parts (length l.sizes == length l.variables) (begins_with (formals_cells l.formals
      ++ answer_cells l.answer) l.sizes) (keeps.sizes l (found_layout c.layouts b l e).1) in
      begins l.formals l.answer l.sizes ok.1 j f s

  -- so it has room for each
  pub formals_have_room : HaveFormals c.layouts
  formals_have_room b l e j f s = subst (HasRoom f) (sym (formals_have_cells b l e j f s)) (fits f)
    where
      fits : (f : Formal) → HasRoom f (Some (formal_cells f))
      fits (formal.Value n) = omega arith
      fits (formal.Reference n) = tt
