-- Where nothing is left to be done, the marks are where V2 is broken; and where there is none, the lists are what is
-- reached.
use Rattle.std.proofs.Common.{◌≡◌, ◌⊎◌, inl, inr, ⊎_elim, ap, sym, ◌∙◌, subst, ℕ, zero, suc, ◌+◌, List, Option, arith}
use Rattle.sp_code.specs.declared.code.Parts.{Parts}
use Rattle.sp_verify_rules.specs.Areas.{Area, instr_at}
use Rattle.sp_verify_rules.specs.Shapes.{Shape, Wrong, instr_shapes}
use Rattle.sp_verify_rules.specs.Reach.{IsArea, BringsShapes, LeadsWith}
use Rattle.sp_verify_rules.specs.Rules.{ArrivesAt, BreaksV2, LacksOperand, Differs}
use Rattle.sp_verify_rules.proofs.Rows.{arrived}
use Rattle.sp_verify_areas.specs.LeastPlaces.{IsLeast}
use Rattle.sp_verify_areas.proofs.Leasts.{least_of_same}
use Rattle.sp_verify_shapes.specs.declared.asks.Ask.{Ask}
use Rattle.sp_verify_shapes.specs.declared.search.Search.{Search}
use Rattle.sp_verify_shapes.specs.Asks.{AreAsked}
use Rattle.sp_verify_shapes.specs.Stacks.{list_of}
use Rattle.sp_verify_shapes.specs.Search.{IsOneOf, HasAt, IsMarked, InTable, KnowsShapes, BrokenBy, LacksBy, DiffersBy}
use Rattle.sp_verify_shapes.specs.Search.{IsStepped}
use Rattle.sp_verify_shapes.specs.Search.{CoversTable, WhileComparing, IsDoneSearch, KeepsV1}
use Rattle.sp_verify_shapes.specs.Shapes.{AreShapes}
use Rattle.sp_verify_shapes.proofs.Ways.{lies, way_in}
use Rattle.sp_verify_shapes.proofs.SearchLaws.{one_list, longer, broken_longer, cover_next}

module _ (c : Parts) (v1 : KeepsV1 c) (s : Search) (done : IsDoneSearch c s) where
  abbrev level : ℕ
  level = done.true_so_far.0

  abbrev kept : WhileComparing c level s
  kept = done.true_so_far.1

  in_table : (p : ℕ) (ss : List Shape) → KnowsShapes s p ss → InTable s p ss
  in_table p ss (inl t) = t
  in_table p ss (inr (x, a, e, f)) = absurd (subst (IsOneOf x) done.none a)

  marked_by : (k p : ℕ) → IsMarked s p → BrokenBy c (k + level) p
  marked_by zero p m = let e : level ≡ 0 + level = omega arith in subst (λ j. BrokenBy c j p) e (kept.sound.marked p m)
  marked_by (suc k) p m = let e : suc (k + level) ≡ suc k + level = omega arith in
      subst (λ j. BrokenBy c j p) e (broken_longer c (k + level) p (marked_by k p m))

  -- the table has what all longer ways bring
  covered : (k : ℕ) → CoversTable c (k + level) s
  covered zero a p ss h = let e : 0 + level ≡ level = omega arith in
      in_table p ss (kept.covers a p ss (subst (λ j. ArrivesAt c a j p ss) e h))
  covered (suc k) a p ss h =
      let e : suc k + level ≡ suc (k + level) = omega arith in
      in_table p ss (cover_next c v1 (k + level) s (λ q m. marked_by k q m) (covered k) kept.closed done.still a p ss
      (subst (λ j. ArrivesAt c a j p ss) e h))

  later : (n k p : ℕ) (ss : List Shape) (a : Area) → ArrivesAt c a n p ss → ArrivesAt c a (n + k) p ss
  later n zero p ss a h = let e : n ≡ n + 0 = omega arith in subst (λ j. ArrivesAt c a j p ss) e h
  later n (suc k) p ss a h = let e : suc (n + k) ≡ n + suc k = omega arith in
      subst (λ j. ArrivesAt c a j p ss) e (longer c (n + k) p ss a (later n k p ss a h))

  -- and of all ways
  found : (n : ℕ) (a : Area) (p : ℕ) (ss : List Shape) → ArrivesAt c a n p ss → InTable s p ss
  found n a p ss h = covered n a p ss (later n level p ss a h)

  stepped : (p k : ℕ) → HasAt s p k → IsMarked s p ⊎ IsStepped c s p (list_of s.stacks k)
  stepped p k h = ⊎_elim (λ m. inl m) (λ z. ⊎_elim (λ f. absurd (subst (IsOneOf p) done.still f)) (λ t. inr t) z)
      (kept.closed p k h)

  broken_marked : (p : ℕ) → BreaksV2 c p → IsMarked s p
  broken_marked p (LacksOperand a n ss h e) = go (found n a p ss h)
    where
      go : InTable s p ss → IsMarked s p
      go (k, has, inr m) = m
      go (k, has, inl z) = ⊎_elim (λ m. m)
          (λ t. absurd ((t a (lies c a n p ss h)).0
          (subst (λ (w : List Shape). instr_shapes c a (instr_at c p) p w ≡ Wrong) (sym z) e))) (stepped p k has)
  broken_marked p (Differs a n ss ts h g d) = go (found n a p ss h) (found n a p ts g)
    where
      go : InTable s p ss → InTable s p ts → IsMarked s p
      go (k, has, inr m) t = m
      go (k, has, inl y) (j, had, inr m) = m
      go (k, has, inl y) (j, had, inl z) = absurd (d (sym y ∙ ap (list_of s.stacks) (one_list s p k j has had) ∙ z))

  marked_broken : (p : ℕ) → IsMarked s p → BreaksV2 c p
  marked_broken p m = go (kept.sound.marked p m)
    where
      go : BrokenBy c level p → BreaksV2 c p
      go (LacksBy a ss h e) = LacksOperand a level ss h e
      go (DiffersBy a ss ts h g d) = Differs a level ss ts h g d

  pub least_broken : (o : Option ℕ) → IsLeast (IsMarked s) o → IsLeast (BreaksV2 c) o
  least_broken o h = least_of_same (IsMarked s) (BreaksV2 c) o marked_broken broken_marked h

  module _ (unmarked : (p : ℕ) → IsMarked s p → ⊥) where
    abbrev HasList : ℕ → List Shape → Type 0
    HasList p ss = (k : ℕ) × HasAt s p k × (list_of s.stacks k ≡ ss)

    surely : (p : ℕ) (ss : List Shape) → InTable s p ss → HasList p ss
    surely p ss (k, has, inl e) = (k, has, e)
    surely p ss (k, has, inr m) = absurd (unmarked p m)

    brought : (n : ℕ) (a : Area) (p : ℕ) (ss : List Shape) → IsArea c a → BringsShapes c a n p ss → HasList p ss
    brought zero a p ss there h = surely p ss (found 0 a p ss (there, h))
    brought (suc n) a q ts there (p, ss, h, leads) = go (brought n a p ss there h)
      where
        go : HasList p ss → HasList q ts
        go (k, has, e) = ⊎_elim (λ m. absurd (unmarked p m)) (λ t. on t) (stepped p k has)
          where
            on : IsStepped c s p (list_of s.stacks k) → HasList q ts
            on t = surely q ts (in_table q ts
                ((t a (way_in c a n p ss there h)).1 q ts
                (subst (λ (w : List Shape). LeadsWith (instr_shapes c a (instr_at c p) p w) q ts) (sym e) leads)))

    pub are_shapes : (rows : List (List Ask)) → AreAsked c.layouts rows
        → AreShapes c (record { stacks = s.stacks; at = s.at; asked = rows })
    are_shapes rows asked = record {
      stacks = kept.sound.stacks;
      size = kept.sound.size;
      held = kept.sound.held;
      come = λ p k h. (let (area, (there, arrives)) = kept.sound.come p k h in
          (area, (there, arrived c area level p (list_of s.stacks k) arrives)));
      all = λ a p ss h. brought h.1.steps a p ss h.0 h.1.way;
      asked = asked;
    }
