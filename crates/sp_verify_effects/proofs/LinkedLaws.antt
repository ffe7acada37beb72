-- Operands of calls whose edges are there: what is kept of lists of shapes stays true, and one more is true.
use Rattle.std.proofs.Common.{◌≡◌, refl, sym, ap, subst, ◌∙◌, ℕ, suc, ◌+◌, ◌<◌, List, [], ◌∷◌, length, Some, Bool, true}
use Rattle.std.proofs.Common.{false, arith}
use Rattle.std.specs.Prelude.{cond, slice_get}
use Rattle.std.specs.List.{list_any}
use Rattle.std.specs.Ordering.{is_eq, nat_cmp}
use Rattle.std.specs.BTreeMap.{is_at}
use Rattle.std.specs.BTreeSet.{BTreeSet, contains}
use Rattle.std.proofs.lemmas.Bool.{and_parts}
use Rattle.std.proofs.lemmas.Option.{same_Some}
use Rattle.sp_base.proofs.Facts.{tie_of_both}
use Rattle.sp_code.specs.declared.code.Layout.{Layout}
use Rattle.sp_code.specs.Machine.{layout_of}
use Rattle.sp_verify_rules.specs.Shapes.{Shape}
use Rattle.sp_verify_shapes.specs.declared.stacks.Stacks.{Stacks}
use Rattle.sp_verify_shapes.specs.Stacks.{list_of}
use Rattle.sp_verify_effects.specs.declared.edges.Edge.{Edge}
use Rattle.sp_verify_effects.specs.Edges.{HasEdge, IsDeeper, deep_edge}
use Rattle.sp_verify_effects.specs.Facts.{pair_cmp}
use Rattle.sp_verify_effects.specs.Linked.{AreLinked, IsLinked, has_link, link_cmp}
use Rattle.sp_verify_effects.proofs.Members.{nat_exact}

-- ---- what the order does not tell apart is the same

one_pair : (p q : ℕ × ℕ) → is_eq (pair_cmp p q) ≡ true → (p.0 ≡ q.0) × (p.1 ≡ q.1)
one_pair p q e =
    let a = and_parts (is_eq (nat_cmp p.0 q.0)) (is_eq (nat_cmp p.1 q.1))
    (sym (tie_of_both (nat_cmp p.0 q.0) (nat_cmp p.1 q.1)) ∙ e) in
    (nat_exact p.0 q.0 a.0, nat_exact p.1 q.1 a.1)

one_link : (x y : (ℕ × ℕ) × (ℕ × ℕ)) → is_eq (link_cmp x y) ≡ true
    → ((x.0.0 ≡ y.0.0) × (x.0.1 ≡ y.0.1)) × ((x.1.0 ≡ y.1.0) × (x.1.1 ≡ y.1.1))
one_link x y e =
    let a = and_parts (is_eq (pair_cmp x.0 y.0)) (is_eq (pair_cmp x.1 y.1))
    (sym (tie_of_both (pair_cmp x.0 y.0) (pair_cmp x.1 y.1)) ∙ e) in
    (one_pair x.0 y.0 a.0, one_pair x.1 y.1 a.1)

module _ (ls : List Layout) (st : Stacks) where
  -- ---- where edges are added

  pub linked_kept : (a b : List (List Edge)) (ks : BTreeSet ((ℕ × ℕ) × (ℕ × ℕ)))
      → ((m : ℕ) (e : Edge) → HasEdge a m e → HasEdge b m e) → AreLinked ls st a ks → AreLinked ls st b ks
  linked_kept a b ks kept h f t l is n d g i s e at within edge = kept l.entry e (h f t l is n d g i s e at within edge)

  module _ (rows : List (List Edge)) where
    -- ---- what is kept

    pub none_linked : (ks : BTreeSet ((ℕ × ℕ) × (ℕ × ℕ))) → ks.keys ≡ [] → AreLinked ls st rows ks
    none_linked ks empty b t l is n d g =
        let f : false ≡ true = sym (ap (list_any (is_at (link_cmp ((b, t), (n, d))))) empty) ∙ g in absurd (cc f)

    pub link_put : (old new : BTreeSet ((ℕ × ℕ) × (ℕ × ℕ))) (b t n d : ℕ) (l : Layout)
        → ((q : (ℕ × ℕ) × (ℕ × ℕ)) → contains link_cmp new q
        ≡ cond (is_at (link_cmp ((b, t), (n, d))) q) true (contains link_cmp old q))
        → layout_of ls b ≡ Some l → IsLinked st rows l t n d → AreLinked ls st rows old → AreLinked ls st rows new
    link_put old new b t n d l now is linked h c u m at p j g =
        go (is_eq (link_cmp ((b, t), (n, d)) ((c, u), (p, j)))) refl (sym (now ((c, u), (p, j))) ∙ g)
      where
        go : (z : Bool) → is_eq (link_cmp ((b, t), (n, d)) ((c, u), (p, j))) ≡ z
            → cond z true (has_link old c u p j) ≡ true → IsLinked st rows m u p j
        go true e f =
            let w = one_link ((b, t), (n, d)) ((c, u), (p, j)) e in
            let same : l ≡ m = same_Some l m (sym is ∙ ap (layout_of ls) w.0.0 ∙ at) in
            let here = subst (λ (z : Layout). IsLinked st rows z t n d) same linked in
            subst (λ z. IsLinked st rows m u p z) w.1.1 (subst (λ z. IsLinked st rows m u z d) w.1.0
            (subst (λ z. IsLinked st rows m z n d) w.0.1 here))
        go false e f = h c u m at p j f

-- ---- on the way down

module _ (st : Stacks) (rows : List (List Edge)) (l : Layout) (t : ℕ) where
  pub linked_rest : (n below d : ℕ) (s : Shape) → list_of st n ≡ s ∷ list_of st below → IsLinked st rows l t n d
      → IsLinked st rows l t below (d + 1)
  linked_rest n below d s is h i z e at within edge =
      h (suc i) z e (ap (λ (xs : List Shape). slice_get xs (suc i)) is ∙ at)
      (subst (λ k. k < length l.formals) next within)
      (subst (λ k. deep_edge l t k z ≡ Some e) next edge)
    where
      next : d + 1 + i ≡ d + suc i
      next = omega arith

  -- of a call whose edges are put
  pub linked_all : (n : ℕ)
      → ((m : ℕ) (e : Edge) → IsDeeper l t (list_of st n) (length l.formals) m e → HasEdge rows m e)
      → IsLinked st rows l t n 0
  linked_all n has i s e at within edge =
      has l.entry e (refl, (0 + i, within, (s, ap (slice_get (list_of st n)) start ∙ at, edge)))
    where
      start : 0 + i ≡ i
      start = omega arith
