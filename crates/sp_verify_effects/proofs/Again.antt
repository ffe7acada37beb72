-- What a call does that repeats an earlier one, and the edges that it makes, are those of the earlier one.
use Rattle.std.proofs.Common.{◌≡◌, inl, inr, ⊎_elim, refl, ap, sym, ◌∙◌, subst, ℕ, ◌+◌, ◌<◌, List, length, Option}
use Rattle.std.proofs.Common.{Some, None, arith}
use Rattle.std.specs.Prelude.{Bool, false, slice_get}
use Rattle.std.proofs.lemmas.Option.{slice_get_within, none-some, same_Some}
use Rattle.sp_base.proofs.Facts.{below_or_last}
use Rattle.sp_tree.specs.Interference.{IsMember}
use Rattle.sp_code.specs.declared.instr.Instr.TheVariants as i
use Rattle.sp_code.specs.declared.code.ChildTable.{ChildTable}
use Rattle.sp_code.specs.declared.code.Parts.{Parts}
use Rattle.sp_code.specs.Machine.{layout_of}
use Rattle.sp_verify_rules.specs.Areas.{Area, on_option, instr_at, child_at, table_named, entry}
use Rattle.sp_verify_rules.specs.Shapes.{Shape}
use Rattle.sp_verify_rules.specs.Touches.{stored_by, loaded_by}
use Rattle.sp_verify_rules.specs.Verdict.{is_stop}
use Rattle.sp_verify_rules.specs.NameRules.{BreaksV1, LiesIn}
use Rattle.sp_verify_rules.specs.Rules.{ComesTo}
use Rattle.sp_verify_rules.proofs.ShapePaths.{passes}
use Rattle.sp_verify_areas.specs.declared.owners.Owner.{Owner}
use Rattle.sp_verify_areas.specs.Alone.{flag_at}
use Rattle.sp_verify_areas.specs.Owners.{AreOwners}
use Rattle.sp_verify_areas.proofs.OwnerClosure.{name_of}
use Rattle.sp_verify_shapes.specs.declared.shapes.Shapes.{Shapes}
use Rattle.sp_verify_shapes.specs.Shapes.{AreShapes}
use Rattle.sp_verify_shapes.specs.Stacks.{list_of}
use Rattle.sp_verify_shapes.specs.ReachRules.{reached_at}
use Rattle.sp_verify_shapes.specs.Repeats.{Repeats, called_block}
use Rattle.sp_verify_shapes.proofs.ReachLaws.{reached_there, stands}
use Rattle.sp_verify_shapes.proofs.CallRepeats.{called_is}
use Rattle.sp_verify_effects.specs.declared.asked_areas.Asked.{Asked}
use Rattle.sp_verify_effects.specs.declared.edges.Edge.{Edge}
use Rattle.sp_verify_effects.specs.declared.effects.Effects.{Effects}
use Rattle.sp_verify_effects.specs.declared.facts.Fact.{Fact}
use Rattle.sp_verify_effects.specs.declared.facts.Effect.{Effect}
use Rattle.sp_verify_effects.specs.declared.facts.Effect.TheVariants as effect
use Rattle.sp_verify_effects.specs.AskedCalls.{lacks_at, lacks_by, lacks_operands}
use Rattle.sp_verify_effects.specs.Calls.{call_clashes, clashes_at, fails_at}
use Rattle.sp_verify_effects.specs.Edges.{EdgeAt, HasEdge, HasEdges, IsCall}
use Rattle.sp_verify_effects.specs.Facts.{Tells}
use Rattle.sp_verify_effects.specs.Own.{AskedAt, DoesBy, OwnAt, OwnBefore}
use Rattle.sp_verify_effects.proofs.OneArea.{one_entry, owner_there}
use Rattle.sp_verify_effects.proofs.FactSets.{tells_as}

module _ (c : Parts) (os : List Owner) (s : Shapes) (kept : (x : ℕ) → BreaksV1 c x → ⊥) (owned : AreOwners c os)
    (are : AreShapes c s) (p q : ℕ) (h : Repeats c os s p q) where
  here : (up : ℕ) × (instr_at c p ≡ Some (i.Call h.block up))
  here = called_is (instr_at c p) h.block h.calls

  before : (up : ℕ) × (instr_at c q ≡ Some (i.Call h.block up))
  before = called_is (instr_at c q) h.block h.called

  -- the areas in which both lie begin at one instruction
  same_entry : (a b : Area) → LiesIn c p a → LiesIn c q b → entry c a ≡ entry c b
  same_entry a b l m = go (slice_get os p) refl
    where
      within : p < length c.instrs
      within = slice_get_within c.instrs p (i.Call h.block here.0) here.1

      go : (o : Option Owner) → slice_get os p ≡ o → entry c a ≡ entry c b
      go None e = absurd (owner_there c os p owned within e)
      go (Some o) e = one_entry c p q a b o kept (owned.1 p o e) (owned.1 q o (sym h.owner ∙ e)) l m

  -- the same shapes come to both, in areas that begin at one instruction
  earlier : (a : Area) (ss : List Shape) → ComesTo c a p ss → (b : Area) × ComesTo c b q ss × (entry c b ≡ entry c a)
  earlier a ss w =
      let k = are.all a p ss w in
      let n : h.list ≡ k.0 = same_Some h.list k.0 (sym h.comes ∙ reached_there s p k.0 k.1) in
      let r = are.come q h.list (stands s q h.list h.came) in
      let e : list_of s.stacks h.list ≡ ss = ap (list_of s.stacks) n ∙ k.2 in
      let there : ComesTo c r.0 q ss = subst (ComesTo c r.0 q) e r.1 in (
        r.0,
        there,
        sym (same_entry a r.0 (w.0, passes c a p ss w.1) (there.0, passes c r.0 q ss there.1)),
      )

  does_again : (a b : Area) (ss : List Shape) (d : Effect) → DoesBy c a p ss d → DoesBy c b q ss d
  does_again a b ss (effect.Stores x) w = subst (IsMember x) (ap (λ o. stored_by c a o ss) here.1
      ∙ ap (λ o. stored_by c b o ss) (sym before.1)) w
  does_again a b ss (effect.Loads x) w = subst (IsMember x) (ap (λ o. loaded_by c a o ss) here.1
      ∙ ap (λ o. loaded_by c b o ss) (sym before.1)) w
  does_again a b ss effect.Stops w = ap is_stop before.1 ∙ ap is_stop (sym here.1) ∙ w

  -- a call starts no child
  no_child : (k : ℕ) (t : ChildTable) → child_at c p k ≡ Some t → ⊥
  no_child k t e =
      let n = name_of (table_named (instr_at c p)) k c.forks t e in
      none-some n.0 (ap table_named (sym here.1) ∙ n.1)

  own_again : (f : Fact) → OwnAt c p f → OwnAt c q f
  own_again f (a, l, e, inl (ss, r, d)) =
      let (b, (is_area, comes), same) = earlier a ss (l.0, r) in (
        b,
        (is_area, passes c b q ss comes),
        e ∙ sym same,
        inl (ss, comes, does_again a b ss f.effect d),
      )
  own_again f (a, l, e, inr (k, t, st, d)) = absurd (no_child k t st.1)

  edge_again : (acts : List Bool) (m : ℕ) (e : Edge) → EdgeAt c acts p m e → EdgeAt c acts q m e
  edge_again acts m e (inl (a, f, up, ss, l, there, call, w)) =
      let (b, (is_area, comes), same) = earlier a ss (there, call.reached) in
      let g : h.block ≡ f = same_Some h.block f (sym h.calls ∙ ap called_block call.call) in
      inl (
        b,
        f,
        before.0,
        ss,
        l,
        is_area,
        record { reached = comes; call = before.1 ∙ ap (λ z. Some (i.Call z before.0)) g; layout = call.layout },
        subst (λ n. IsCall (flag_at acts l.entry) l n ss m e) (sym same) w,
      )
  edge_again acts m e (inr (a, k, t, there, st, w)) = absurd (no_child k t st.1)

  -- ---- so nothing is new there

  pub before_again : (k : Asked) (f g : List Fact) → Tells f g (OwnBefore c k p) → Tells f g (OwnBefore c k (p + 1))
  before_again k f g t = tells_as f g (OwnBefore c k p) (OwnBefore c k (p + 1))
      (λ z w. (w.0, (let l = w.1 in omega (arith, l)), w.2)) from t
    where
      from : (z : Fact) → OwnBefore c k (p + 1) z → OwnBefore c k p z
      from z w = ⊎_elim (λ l. (w.0, l, w.2))
          (λ e. let v = subst (λ n. AskedAt c k n z) e w.2 in (q, h.earlier, (own_again z v.0, v.1)))
          (below_or_last w.0 p w.1)

  pub edges_again : (acts : List Bool) (rows : List (List Edge)) → HasEdges c acts p rows
      → HasEdges c acts (p + 1) rows
  edges_again acts rows r = record { size = r.size; has = has; only = r.only }
    where
      has : (n m : ℕ) (e : Edge) → n < p + 1 → EdgeAt c acts n m e → HasEdge rows m e
      has n m e l w = ⊎_elim (λ z. r.has n m e z w)
          (λ z. r.has q m e h.earlier (edge_again acts m e (subst (λ x. EdgeAt c acts x m e) z w)))
          (below_or_last n p l)

-- a call clashes by its block and its list
clashes_is : (c : Parts) (e : Effects) (s : Shapes) (p b n : ℕ) → called_block (instr_at c p) ≡ Some b
    → reached_at s p ≡ Some n
    → fails_at c e s p
    ≡ on_option false (layout_of c.layouts b) (λ l. call_clashes e l (list_of s.stacks n))
clashes_is c e s p b n is r =
    ap (λ o. clashes_at e c.layouts s.stacks o (instr_at c p)) r
    ∙ ap (λ o. on_option false o
    (λ d. on_option false (layout_of c.layouts d) (λ l. call_clashes e l (list_of s.stacks n)))) is

-- so is something missing
lacks_is : (c : Parts) (k : Asked) (ks : List (ℕ × ℕ)) (s : Shapes) (p b n : ℕ) → called_block (instr_at c p) ≡ Some b
    → reached_at s p ≡ Some n
    → lacks_at c k ks s p ≡ on_option false (layout_of c.layouts b) (λ l. lacks_operands k ks l (list_of s.stacks n))
lacks_is c k ks s p b n is r =
    ap (λ o. lacks_by k ks c.layouts s.stacks o (instr_at c p)) r
    ∙ ap (λ o. on_option false o
    (λ d. on_option false (layout_of c.layouts d) (λ l. lacks_operands k ks l (list_of s.stacks n)))) is

pub lacks_again : (c : Parts) (k : Asked) (ks : List (ℕ × ℕ)) (os : List Owner) (s : Shapes) (p q : ℕ)
    → Repeats c os s p q → lacks_at c k ks s p ≡ lacks_at c k ks s q
lacks_again c k ks os s p q h = lacks_is c k ks s p h.block h.list h.calls h.comes
    ∙ sym (lacks_is c k ks s q h.block h.list h.called h.came)

pub clashes_again : (c : Parts) (e : Effects) (os : List Owner) (s : Shapes) (p q : ℕ) → Repeats c os s p q
    → fails_at c e s p ≡ fails_at c e s q
clashes_again c e os s p q h = clashes_is c e s p h.block h.list h.calls h.comes
    ∙ sym (clashes_is c e s q h.block h.list h.called h.came)
