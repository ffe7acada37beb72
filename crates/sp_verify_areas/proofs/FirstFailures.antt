-- One layout or child that fails a test, among others.
use Rattle.std.proofs.Common.{◌≡◌, sym, ◌∙◌, ap, subst, ℕ, List, Option, Some, Bool, true}
use Rattle.std.specs.Prelude.{slice_get}
use Rattle.std.proofs.lemmas.Option.{same_Some}
use Rattle.sp_code.specs.declared.code.Layout.{Layout}
use Rattle.sp_code.specs.declared.code.ChildTable.{ChildTable}
use Rattle.sp_code.specs.declared.code.ForkTable.{ForkTable}
use Rattle.sp_verify_areas.specs.Alone.{LayoutFails, ChildFails, ChildrenFail, TableFails, flag_at}
use Rattle.sp_verify_areas.specs.LeastPlaces.{IsLeast}
use Rattle.sp_verify_areas.proofs.Leasts.{least_of_same}

pub one_layout : (fails : Layout → Bool) (ls : List Layout) (j : ℕ) (l : Layout) (b : Bool) (o : Option ℕ)
    → slice_get ls j ≡ Some l → b ≡ fails l
    → IsLeast (λ p. (l.entry ≡ p) × (b ≡ true)) o → IsLeast (LayoutFails fails ls j) o
one_layout fails ls j l b o e f = least_of_same (λ p. (l.entry ≡ p) × (b ≡ true)) (LayoutFails fails ls j) o up down
  where
    up : (p : ℕ) → (l.entry ≡ p) × (b ≡ true) → LayoutFails fails ls j p
    up p h = (l, e, h.0, sym f ∙ h.1)

    down : (p : ℕ) → LayoutFails fails ls j p → (l.entry ≡ p) × (b ≡ true)
    down p (m, there, begins, failing) =
        let s : m ≡ l = same_Some m l (sym there ∙ e) in
        (ap (λ (z : Layout). z.entry) (sym s) ∙ begins, f ∙ ap fails (sym s) ∙ failing)

pub one_child : (fails : ChildTable → Bool) (ts : List ChildTable) (k : ℕ) (t : ChildTable) (b : Bool) (o : Option ℕ)
    → slice_get ts k ≡ Some t → b ≡ fails t
    → IsLeast (λ p. (t.entry ≡ p) × (b ≡ true)) o → IsLeast (ChildFails fails ts k) o
one_child fails ts k t b o e f = least_of_same (λ p. (t.entry ≡ p) × (b ≡ true)) (ChildFails fails ts k) o up down
  where
    up : (p : ℕ) → (t.entry ≡ p) × (b ≡ true) → ChildFails fails ts k p
    up p h = (t, e, h.0, sym f ∙ h.1)

    down : (p : ℕ) → ChildFails fails ts k p → (t.entry ≡ p) × (b ≡ true)
    down p (m, there, begins, failing) =
        let s : m ≡ t = same_Some m t (sym there ∙ e) in
        (ap (λ (z : ChildTable). z.entry) (sym s) ∙ begins, f ∙ ap fails (sym s) ∙ failing)

pub one_table : (n : ℕ) (forked foralled : List Bool) (fs : List ForkTable) (t : ℕ) (tb : ForkTable) (o : Option ℕ)
    → slice_get fs t ≡ Some tb
    → IsLeast (ChildrenFail n (flag_at forked t) (flag_at foralled t) tb.children) o
    → IsLeast (TableFails n forked foralled fs t) o
one_table n forked foralled fs t tb o e = least_of_same (C tb) (TableFails n forked foralled fs t) o
    (λ p h. (tb, e, h)) down
  where
    C : ForkTable → ℕ → Type 0
    C x p = ChildrenFail n (flag_at forked t) (flag_at foralled t) x.children p

    down : (p : ℕ) → TableFails n forked foralled fs t p
        → ChildrenFail n (flag_at forked t) (flag_at foralled t) tb.children p
    down p h =
        let s : h.0 ≡ tb = same_Some h.0 tb (sym h.1 ∙ e) in
        subst (λ (x : ForkTable). ChildrenFail n (flag_at forked t) (flag_at foralled t) x.children p) s h.2
