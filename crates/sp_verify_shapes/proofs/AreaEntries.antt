-- Where ways begin is at the entries of all areas.
use Rattle.std.proofs.Common.{◌≡◌, ◌⊎◌, inl, inr, ⊎_elim, refl, ap, sym, ◌∙◌, subst, ℕ, ◌+◌, ◌<◌, List}
use Rattle.std.proofs.Common.{[], ◌∷◌, ◌++◌, length, Option, Some, None, true, false, arith}
use Rattle.std.specs.Prelude.{slice_get}
use Rattle.std.proofs.lemmas.Option.{slice_get_within, none-some, same_Some}
use Rattle.sp_base.proofs.Facts.{below_or_last}
use Rattle.sp_code.specs.declared.instr.Instr.{Instr}
use Rattle.sp_code.specs.declared.code.Layout.{Layout}
use Rattle.sp_code.specs.declared.code.ChildTable.{ChildTable}
use Rattle.sp_code.specs.declared.code.ForkTable.{ForkTable}
use Rattle.sp_code.specs.declared.code.Parts.{Parts}
use Rattle.sp_code.specs.Machine.{layout_of}
use Rattle.sp_verify_rules.specs.Areas.{Area, Body, Child, instr_at, table_named, table_at, child_of, child_at, entry}
use Rattle.sp_verify_rules.specs.Areas.{entry_of_child, entry_of_layout}
use Rattle.sp_verify_rules.specs.Reach.{IsArea}
use Rattle.sp_verify_rules.specs.NameRules.{LiesIn}
use Rattle.sp_verify_areas.specs.declared.owners.Owner.{Owner}
use Rattle.sp_verify_areas.specs.declared.owners.Owner.TheVariants as owner
use Rattle.sp_verify_areas.specs.Owners.{Owns, is_same}
use Rattle.sp_verify_areas.proofs.OwnerClosure.{layout_in}
use Rattle.sp_verify_shapes.specs.declared.steps.Arrival.{Arrival}
use Rattle.sp_verify_shapes.specs.declared.search.Search.{Search}
use Rattle.sp_verify_shapes.specs.Stacks.{IsStacks, list_of}
use Rattle.sp_verify_shapes.specs.Search.{IsOneOf, HasAt, IsMarked, WhileComparing}
use Rattle.sp_verify_shapes.specs.Starts.{start, AreAll, IsEntry, AddsStarts, IsOfLayouts, IsOfChildren, IsMadeAt}
use Rattle.sp_verify_shapes.specs.Starts.{IsMade}
use Rattle.sp_verify_shapes.proofs.SearchLaws.{among_last, among_left, among_or}

module _ (c : Parts) where
  pub adds_one : (xs : List Arrival) (q : ℕ) → IsEntry c q → AddsStarts c (λ r. r ≡ q) xs (xs ++ start q ∷ [])
  adds_one xs q h = record {
    keeps = λ x a. among_left x xs (start q ∷ []) a;
    true_of = λ x a. ⊎_elim (λ b. inl b)
        (λ e. inr (subst (λ (z : Arrival). (z ≡ start z.at) × IsEntry c z.at) (sym e) (refl, h)))
        (among_or x (start q) xs a);
    has = λ r e. subst (λ z. IsOneOf (start z) (xs ++ start q ∷ [])) (sym e) (among_last (start q) xs);
  }

  pub adds_then : (Q R S : ℕ → Type 0) (xs ys zs : List Arrival) → ((q : ℕ) → S q → Q q ⊎ R q) → AddsStarts c Q xs ys
      → AddsStarts c R ys zs → AddsStarts c S xs zs
  adds_then Q R S xs ys zs f h g = record {
    keeps = λ x a. g.keeps x (h.keeps x a);
    true_of = λ x a. ⊎_elim (λ b. h.true_of x b) (λ b. inr b) (g.true_of x a);
    has = λ q s. ⊎_elim (λ a. g.keeps (start q) (h.has q a)) (λ a. g.has q a) (f q s);
  }

  pub adds_as : (Q R : ℕ → Type 0) (xs ys : List Arrival) → ((q : ℕ) → R q → Q q) → AddsStarts c Q xs ys
      → AddsStarts c R xs ys
  adds_as Q R xs ys f h = record { keeps = h.keeps; true_of = h.true_of; has = λ q r. h.has q (f q r) }

  -- ---- blocks

  -- one more layout, which is found or not
  pub more_layouts : (n q : ℕ) (l : Layout) (o : Option Layout) → slice_get c.layouts n ≡ Some l
      → o ≡ layout_of c.layouts l.block → IsOfLayouts c (n + 1) q
      → IsOfLayouts c n q ⊎ ((m : Layout) × (o ≡ Some m) × (q ≡ m.entry))
  more_layouts n q l o e f (j, k, m, b, g, i, at) = go (below_or_last j n b)
    where
      go : (j < n) ⊎ (j ≡ n) → IsOfLayouts c n q ⊎ ((m : Layout) × (o ≡ Some m) × (q ≡ m.entry))
      go (inl a) = inl (j, k, m, a, g, i, at)
      go (inr s) =
          let z : k ≡ l = same_Some k l (sym g ∙ ap (slice_get c.layouts) s ∙ e) in
          inr (m, f ∙ ap (λ (y : Layout). layout_of c.layouts y.block) (sym z) ∙ i, sym at)

  pub one_less : (n q : ℕ) (l : Layout) (o : Option Layout) → slice_get c.layouts n ≡ Some l
      → o ≡ layout_of c.layouts l.block → IsOfLayouts c (n + 1) q
      → ((m : Layout) → o ≡ Some m → q ≡ m.entry → IsOfLayouts c n q) → IsOfLayouts c n q
  one_less n q l o e f h go = ⊎_elim (λ a. a) (λ z. go z.0 z.1 z.2) (more_layouts n q l o e f h)

  pub one_more : (n q : ℕ) (l m : Layout) → slice_get c.layouts n ≡ Some l → Some m ≡ layout_of c.layouts l.block
      → IsOfLayouts c (n + 1) q → IsOfLayouts c n q ⊎ (q ≡ m.entry)
  one_more n q l m e f h =
      ⊎_elim (λ a. inl a) (λ z. inr (z.2 ∙ ap (λ (y : Layout). y.entry) (sym (same_Some m z.0 z.1))))
      (more_layouts n q l (Some m) e f h)

  pub of_block : (b : ℕ) (m : Layout) → layout_of c.layouts b ≡ Some m → IsEntry c m.entry
  of_block b m e = (Body b, (m, e), ap entry_of_layout e)

  -- ---- children

  pub more_children : (ts : List ChildTable) (n q : ℕ) (ch : ChildTable) → slice_get ts n ≡ Some ch
      → IsOfChildren ts (n + 1) q → IsOfChildren ts n q ⊎ (q ≡ ch.entry)
  more_children ts n q ch e (k, d, l, g, at) = go (below_or_last k n l)
    where
      go : (k < n) ⊎ (k ≡ n) → IsOfChildren ts n q ⊎ (q ≡ ch.entry)
      go (inl a) = inl (k, d, a, g, at)
      go (inr s) = inr (sym at ∙ ap (λ (y : ChildTable). y.entry) (same_Some d ch (sym g ∙ ap (slice_get ts) s ∙ e)))

  someone : (p : ℕ) (o : Owner) → Owns c p o → is_same o owner.Nobody ≡ false → (a : Area) × LiesIn c p a
  someone p owner.Nobody h e = absurd (cc e)
  someone p (owner.Block b) h e = (h.area, h.lies)
  someone p (owner.Child q k) h e = (h.area, h.lies)
  someone p owner.Several h e = (h.first, h.lies)

  module _ (p t : ℕ) (tb : ForkTable) (e : table_named (instr_at c p) ≡ Some t) (g : slice_get c.forks t ≡ Some tb)
    where
      child_is : (k : ℕ) → child_at c p k ≡ slice_get tb.children k
      child_is k = ap (λ (o : Option ℕ). child_of (table_at c.forks o) k) e
          ∙ ap (λ (o : Option ForkTable). child_of o k) g

      pub of_child : (o : Owner) → Owns c p o → is_same o owner.Nobody ≡ false → (k : ℕ) (ch : ChildTable)
          → slice_get tb.children k ≡ Some ch → IsEntry c ch.entry
      of_child o h s k ch w =
          let (parent, (there, passes)) = someone p o h s in
          let at : child_at c p k ≡ Some ch = child_is k ∙ w in
          (Child parent p k, (there, passes, (ch, at)), ap entry_of_child at)

      pub made_is : (q : ℕ) → IsMadeAt c p q → IsOfChildren tb.children (length tb.children) q
      made_is q (k, ch, w, at, a) = let z = sym (child_is k) ∙ w in (k, ch, slice_get_within tb.children k ch z, z, at)

  pub more_made : (n q : ℕ) → IsMade c (n + 1) q → IsMade c n q ⊎ IsMadeAt c n q
  more_made n q (p, l, m) = ⊎_elim (λ a. inl (p, a, m)) (λ s. inr (subst (λ z. IsMadeAt c z q) s m))
      (below_or_last p n l)

  -- ---- all

  within_instrs : (p k : ℕ) (ch : ChildTable) → child_at c p k ≡ Some ch → p < length c.instrs
  within_instrs p k ch e = go (instr_at c p) refl
    where
      go : (o : Option Instr) → instr_at c p ≡ o → p < length c.instrs
      go None z = absurd (none-some ch
          (sym (ap (λ (o : Option Instr). child_of (table_at c.forks (table_named o)) k) z) ∙ e))
      go (Some i) z = slice_get_within c.instrs p i z

  module _ (xs ys zs : List Arrival) (none : xs ≡ []) (blocks : AddsStarts c (IsOfLayouts c (length c.layouts)) xs ys)
      (forks : AddsStarts c (IsMade c (length c.instrs)) ys zs) where
    all_true : (x : Arrival) → IsOneOf x zs → (x ≡ start x.at) × IsEntry c x.at
    all_true x a = ⊎_elim (λ b. ⊎_elim (λ d. absurd (subst (IsOneOf x) none d)) (λ z. z) (blocks.true_of x b)) (λ z. z)
        (forks.true_of x a)

    all_there : (a : Area) → IsArea c a → IsOneOf (start (entry c a)) zs
    all_there (Body b) (l, e) =
        let z = layout_in c.layouts b l e in
        forks.keeps (start (entry c (Body b)))
        (blocks.has (entry c (Body b)) (
          z.0,
          l,
          l,
          slice_get_within c.layouts z.0 l z.1,
          z.1,
          ap (layout_of c.layouts) z.2
              ∙ e,
          sym (ap entry_of_layout e),
        ))
    all_there (Child a p k) (there, passes, (ch, e)) =
        forks.has (entry c (Child a p k))
        (p, within_instrs p k ch e, (k, ch, e, sym (ap entry_of_child e), (a, (there, passes))))

    pub begun : (s : Search) → s.arrivals ≡ zs → IsStacks s.stacks → length s.at ≡ length c.instrs
        → length s.broken ≡ length c.instrs → ((p k : ℕ) → HasAt s p k → ⊥) → ((p : ℕ) → IsMarked s p → ⊥)
        → WhileComparing c 0 s
    begun s e stacks size marks bare unmarked = record {
      sound = record {
        stacks = stacks;
        size = size;
        marks = marks;
        held = λ p k h. absurd (bare p k h);
        come = λ p k h. absurd (bare p k h);
        marked = λ p m. absurd (unmarked p m);
        carried = λ x a. (let z = ap (λ (y : Arrival). y.list) (true_at x a).0 in omega (arith, z));
        arrive = λ x a. (let (is_start, (area, there, begins)) = true_at x a in
            (area, (there, (sym begins, ap (λ (y : Arrival). list_of s.stacks y.list) is_start))));
      };
      closed = λ p k h. absurd (bare p k h);
      covers = λ a p ss (there, (begins, empty)). inr
          (start (entry c a), subst (IsOneOf (start (entry c a))) (sym e) (all_there a there), sym begins, sym empty);
    }
      where
        true_at : (x : Arrival) → IsOneOf x s.arrivals → (x ≡ start x.at) × IsEntry c x.at
        true_at x a = all_true x (subst (IsOneOf x) e a)

pub bare_at : (s : Search) (n : ℕ) → AreAll None n s.at → (p k : ℕ) → HasAt s p k → ⊥
bare_at s n h p k e = none-some k (sym (h.1 p (Some k) e))

pub unmarked_at : (s : Search) (n : ℕ) → AreAll false n s.broken → (p : ℕ) → IsMarked s p → ⊥
unmarked_at s n h p e = let z = h.1 p true e in cc z
