-- One child or table is at fault where its test says so.
use Rattle.std.proofs.Common.{◌≡◌, inl, inr, ⊎_elim, sym, subst, ◌∙◌, ℕ, List, Option, Some, None, Bool, true}
use Rattle.std.specs.Prelude.{slice_get, ◌↔◌, length}
use Rattle.std.proofs.lemmas.Bool.{or_cases, or_left, or_right}
use Rattle.std.proofs.lemmas.Option.{same_Some}
use Rattle.sp_code.specs.declared.code.ChildTable.{ChildTable}
use Rattle.sp_code.specs.declared.code.ForkTable.{ForkTable}
use Rattle.sp_verify_areas.specs.LeastPlaces.{IsLeast, Upto}
use Rattle.sp_verify_areas.proofs.Leasts.{least_of_same}
use Rattle.sp_verify_effects.specs.declared.effects.EffectRow.{EffectRow}
use Rattle.sp_verify_effects.specs.declared.effects.Effects.{Effects}
use Rattle.sp_verify_effects.specs.declared.child_effects.Before.{Before}
use Rattle.sp_verify_effects.specs.Befores.{IsBefore}
use Rattle.sp_verify_effects.specs.ChildEffects.{ChildFails, FailsAs, TableFails, clashes, fails_alone, fails_by}
use Rattle.sp_verify_effects.proofs.Alone.{alone_is, alone_from, clash_is, clash_from}

-- a child, by what it does
pub fails_as : (o : Option EffectRow) (b : Before) (t : ChildTable) (ts : List ChildTable) (n : ℕ) → IsBefore ts n b
    → (fails_by o b.moved.keys b.handed.keys t ≡ true) ↔ FailsAs o ts n t
fails_as None b t ts n before = (λ e. absurd (cc e), λ f. absurd f)
fails_as (Some d) b t ts n before = (
  λ e. ⊎_elim (λ h. inl (alone_is d.stored d.loaded t h)) (λ h. inr (clash_is ts n b before t h))
      (or_cases (fails_alone d.stored d.loaded t) (clashes b.moved.keys b.handed.keys t) e),
  λ f. ⊎_elim (λ h. or_left (fails_alone d.stored d.loaded t) (clashes b.moved.keys b.handed.keys t)
      (alone_from d.stored d.loaded t h))
      (λ h. or_right (fails_alone d.stored d.loaded t) (clashes b.moved.keys b.handed.keys t)
      (clash_from ts n b before t h)) f,
)

-- the place of a child, if it fails
pub one_child : (e : Effects) (ts : List ChildTable) (k : ℕ) (t : ChildTable) (before : Before) (b : Bool)
    (o : Option ℕ) → slice_get ts k ≡ Some t
    → IsBefore ts k before → b ≡ fails_by (slice_get e.rows t.entry) before.moved.keys before.handed.keys t
    → IsLeast (λ p. (t.entry ≡ p) × (b ≡ true)) o
    → IsLeast (ChildFails e ts k) o
one_child e ts k t before b o is befores by = least_of_same (λ p. (t.entry ≡ p)
    × (b ≡ true)) (ChildFails e ts k) o (λ p h. (t, is, h.0, f.0 h.1)) back
  where
    f : (b ≡ true) ↔ FailsAs (slice_get e.rows t.entry) ts k t
    f = let g = fails_as (slice_get e.rows t.entry) before t ts k befores in (λ h. g.0 (sym by ∙ h), λ h. by ∙ g.1 h)

    at : (p : ℕ) (s : ChildTable) → s ≡ t → s.entry ≡ p → FailsAs (slice_get e.rows s.entry) ts k s → (t.entry ≡ p)
        × (b ≡ true)
    at p s i h g = subst (λ (z : ChildTable). z.entry ≡ p → FailsAs (slice_get e.rows z.entry) ts k z → (t.entry ≡ p)
        × (b ≡ true)) (sym i) (λ x y. (x, f.1 y)) h g

    back : (p : ℕ) → ChildFails e ts k p → (t.entry ≡ p) × (b ≡ true)
    back p (s, j, h, g) = at p s (same_Some s t (sym j ∙ is)) h g

-- a table's children
pub one_table : (e : Effects) (fs : List ForkTable) (t : ℕ) (tb : ForkTable) (o : Option ℕ) → slice_get fs t ≡ Some tb
    → IsLeast (Upto (ChildFails e tb.children) (length tb.children)) o → IsLeast (TableFails e fs t) o
one_table e fs t tb o is = least_of_same (Upto (ChildFails e tb.children) (length tb.children)) (TableFails e fs t) o
    (λ p h. (tb, is, h)) back
  where
    back : (p : ℕ) → TableFails e fs t p → Upto (ChildFails e tb.children) (length tb.children) p
    back p (s, j, h) = subst (λ (z : ForkTable). Upto (ChildFails e z.children) (length z.children) p)
        (same_Some s tb (sym j ∙ is)) h
