-- A code with a fork that keeps V6 and V7. Its areas are the program and the two children, and each child stores what
-- moves to it alone.
use Rattle.std.proofs.Common.{◌≡◌, ◌≢◌, ◌⊎◌, inl, inr, ⊎_elim, ℕ, zero, suc, ◌+◌, ◌≤◌, ◌==◌, List, [], ◌∷◌, drop}
use Rattle.std.proofs.Common.{Option, Some, None, Bool, true, false, ◌&&◌, if◌then◌else◌, refl, sym, ap, ◌∙◌, subst}
use Rattle.std.proofs.Common.{eqb-true, arith}
use Rattle.std.specs.Prelude.{IsSome}
use Rattle.std.proofs.lemmas.Bool.{and_parts}
use Rattle.std.proofs.lemmas.Option.{same_Some}
use Rattle.sp_base.proofs.Facts.{not_true_and_false}
use Rattle.sp_tree.specs.Interference.{IsMember, AllDifferent}
use Rattle.sp_code.specs.declared.code.Layout.{Layout}
use Rattle.sp_code.specs.declared.code.ChildTable.{ChildTable}
use Rattle.sp_code.specs.declared.instr.Instr.{Instr}
use Rattle.sp_code.specs.declared.instr.Instr.TheVariants as i
use Rattle.sp_verify_rules.specs.Areas.{Area, Body, Child, child_at, instr_at, child_of, table_at, table_named, entry}
use Rattle.sp_verify_rules.specs.EffectRows.{doubly_moved}
use Rattle.sp_verify_rules.specs.Effects.{EffectKind, Stored, Loaded, CountsAsEffect, IsStarted, IsCalled, Becomes}
use Rattle.sp_verify_rules.specs.Effects.{Does}
use Rattle.sp_verify_rules.specs.Effects.{IsEffect, does_at}
use Rattle.sp_verify_rules.specs.Effects.{handed_to}
use Rattle.sp_verify_rules.specs.Forks.{KeepsEffects}
use Rattle.sp_verify_rules.specs.Reach.{IsArea, IsInCodeOf, LeadsInSteps, nexts}
use Rattle.sp_verify_rules.specs.Shapes.{Shape, O, A}
use Rattle.sp_verify_rules.proofs.AnswerRow.{each_instr}
use Rattle.sp_verify_rules.proofs.EffectLaws.{effects_within}
use Rattle.sp_verify_rules.proofs.ShapeTables.{is_closed, each_row, reached_passes}

abbrev first : ChildTable
first = record { entry = 2; moved = 2 ∷ []; shared = []; index = None }

abbrev second : ChildTable
second = record { entry = 6; moved = 3 ∷ []; shared = []; index = None }

abbrev main : Layout
main = record {
  block = 0;
  entry = 0;
  parent = None;
  answer = false;
  sizes = 1 ∷ 1 ∷ [];
  variables = 2 ∷ 3 ∷ [];
  formals = [];
}

-- ---- what its instructions do

-- calls no block, starts no child, and goes on to the next instruction or nowhere
abbrev is_simple : Option Instr → Bool
is_simple None = true
is_simple (Some (i.Addr up var)) = true
is_simple (Some (i.Const v)) = true
is_simple (Some i.Store) = true
is_simple (Some i.End) = true
is_simple (Some o) = false

-- each instruction but the first one is so
simple : (p : ℕ) → is_simple (instr_at doubly_moved (suc p)) ≡ true
simple p = each_instr is_simple (drop 1 doubly_moved.instrs) refl p

names_no_table : (o : Option Instr) → is_simple o ≡ true → table_named o ≡ None
names_no_table None e = refl
names_no_table (Some (i.Addr up var)) e = refl
names_no_table (Some (i.Const v)) e = refl
names_no_table (Some i.Store) e = refl
names_no_table (Some i.End) e = refl
names_no_table (Some o) e = absurd (cc e)

goes_next : (p q : ℕ) (o : Option Instr) → is_simple o ≡ true → IsMember q (nexts p o) → q ≡ p + 1
goes_next p q None e m = absurd m
goes_next p q (Some (i.Addr up var)) e m = ⊎_elim (λ s. s) (λ z. absurd z) m
goes_next p q (Some (i.Const v)) e m = ⊎_elim (λ s. s) (λ z. absurd z) m
goes_next p q (Some i.Store) e m = ⊎_elim (λ s. s) (λ z. absurd z) m
goes_next p q (Some i.End) e m = absurd m
goes_next p q (Some o) e m = absurd (cc e)

no_call : (p f up : ℕ) → instr_at doubly_moved p ≡ Some (i.Call f up) → ⊥
no_call zero f up e = cc e
no_call (suc p) f up e = not_true_and_false (is_simple (instr_at doubly_moved (suc p))) (simple p) (ap is_simple e)

-- the only fork is the first instruction, and has two children
at_fork : (p k : ℕ) (t : ChildTable) → child_at doubly_moved p k ≡ Some t → (p ≡ 0)
    × ((k ≡ 0) × (t ≡ first) ⊎ (k ≡ 1) × (t ≡ second))
at_fork zero zero t e = (refl, inl (refl, sym (same_Some _ _ e)))
at_fork zero (suc zero) t e = (refl, inr (refl, sym (same_Some _ _ e)))
at_fork zero (suc (suc k)) t e = absurd (cc e)
at_fork (suc p) k t e = absurd
    (nothing (table_named (instr_at doubly_moved (suc p)))
    (names_no_table (instr_at doubly_moved (suc p)) (simple p)) e)
  where
    nothing : (o : Option ℕ) → o ≡ None → child_of (table_at doubly_moved.forks o) k ≡ Some t → ⊥
    nothing None is e = cc e
    nothing (Some n) is e = cc is

-- a way that begins behind the fork does not come to it
stays_behind : (n p q : ℕ) → LeadsInSteps doubly_moved n p q → 1 ≤ p → 1 ≤ q
stays_behind zero p q w h = let same : p ≡ q = w in omega (arith, h, same)
stays_behind (suc n) zero q w h = absurd (omega (arith, h))
stays_behind (suc n) (suc p) q (r, m, w) h = stays_behind n r q w
    (let next = goes_next (suc p) r (instr_at doubly_moved (suc p)) (simple p) m in omega (arith, next))

-- ---- what a child does

-- the shapes in a child whose code begins at n and stores variable x
abbrev shapes : ℕ → ℕ → List (ℕ × List Shape)
shapes n x = (n, []) ∷ (suc n, A x 1 ∷ []) ∷ (suc (suc n), O ∷ A x 1 ∷ []) ∷ (suc (suc (suc n)), []) ∷ []

abbrev are_all : ℕ → List ℕ → Bool
are_all x [] = true
are_all x (y ∷ ys) = (y == x) && are_all x ys

all_are : (x y : ℕ) (ys : List ℕ) → are_all x ys ≡ true → IsMember y ys → y ≡ x
all_are x y [] e m = absurd m
all_are x y (z ∷ zs) e (inl s) = s ∙ eqb-true z x (and_parts (z == x) (are_all x zs) e).0
all_are x y (z ∷ zs) e (inr m) = all_are x y zs (and_parts (z == x) (are_all x zs) e).1 m

abbrev is_nothing : List ℕ → Bool
is_nothing [] = true
is_nothing (x ∷ xs) = false

none_in : (x : ℕ) (xs : List ℕ) → is_nothing xs ≡ true → IsMember x xs → ⊥
none_in x [] e m = m
none_in x (y ∷ ys) e m = cc e

module _ (k : ℕ) (begins : 1 ≤ entry doubly_moved (Child (Body 0) 0 k)) where
  -- the fork is not in its code, so it starts nothing
  without_fork : IsInCodeOf doubly_moved (Child (Body 0) 0 k) 0 → ⊥
  without_fork z =
      let behind = stays_behind z.steps (entry doubly_moved (Child (Body 0) 0 k)) 0 z.way begins in
      omega (arith, behind)

  starts_none : (p j : ℕ) (t : ChildTable) → IsStarted doubly_moved (Child (Body 0) 0 k) p j t → ⊥
  starts_none p j t (way, there) = without_fork
      (subst (IsInCodeOf doubly_moved (Child (Body 0) 0 k)) (at_fork p j t there).0 way)

  module _ (n v : ℕ) (closed : is_closed doubly_moved (Child (Body 0) 0 k) (shapes n v) ≡ true) where
    stores : each_row (λ p ss. are_all v (does_at doubly_moved Stored (Child (Body 0) 0 k) p ss)) (shapes n v) ≡ true
        → (x : ℕ) → Does doubly_moved Stored (Child (Body 0) 0 k) x → x ≡ v
    stores e x (inl (p, ss, reached, touches)) = all_are v x (does_at doubly_moved Stored (Child (Body 0) 0 k) p ss)
        (reached_passes doubly_moved (Child (Body 0) 0 k) (shapes n v) closed
        (λ p ss. are_all v (does_at doubly_moved Stored (Child (Body 0) 0 k) p ss)) e p ss reached) touches
    stores e x (inr (p, j, t, started, _)) = absurd (starts_none p j t started)

    loads : each_row (λ p ss. is_nothing (does_at doubly_moved Loaded (Child (Body 0) 0 k) p ss)) (shapes n v) ≡ true
        → (x : ℕ) → Does doubly_moved Loaded (Child (Body 0) 0 k) x → ⊥
    loads e x (inl (p, ss, reached, touches)) = none_in x (does_at doubly_moved Loaded (Child (Body 0) 0 k) p ss)
        (reached_passes doubly_moved (Child (Body 0) 0 k) (shapes n v) closed
        (λ p ss. is_nothing (does_at doubly_moved Loaded (Child (Body 0) 0 k) p ss)) e p ss reached) touches
    loads e x (inr (p, j, t, started, _)) = starts_none p j t started

first_begins : 1 ≤ entry doubly_moved (Child (Body 0) 0 0)
first_begins = let low : 1 ≤ 2 = omega arith in low

second_begins : 1 ≤ entry doubly_moved (Child (Body 0) 0 1)
second_begins = let low : 1 ≤ 6 = omega arith in low

-- a closed set: the first child stores variable 2 alone, the second one variable 3 alone, and they load nothing
abbrev Set : EffectKind → Area → ℕ → Type 0
Set Stored (Child (Body zero) zero zero) x = x ≡ 2
Set Stored (Child (Body zero) zero (suc zero)) x = x ≡ 3
Set Loaded (Child (Body zero) zero zero) x = ⊥
Set Loaded (Child (Body zero) zero (suc zero)) x = ⊥
Set u a x = Unit {0}

set_does : (u : EffectKind) (a : Area) (x : ℕ) → Does doubly_moved u a x → Set u a x
set_does Stored (Child (Body zero) zero zero) x d = stores 0 first_begins 2 2 refl refl x d
set_does Stored (Child (Body zero) zero (suc zero)) x d = stores 1 second_begins 6 3 refl refl x d
set_does Loaded (Child (Body zero) zero zero) x d = loads 0 first_begins 2 2 refl refl x d
set_does Loaded (Child (Body zero) zero (suc zero)) x d = loads 1 second_begins 6 3 refl refl x d
set_does u a x d = tt

set_child : (u : EffectKind) (a : Area) (p k x : ℕ) (t : ChildTable) → IsStarted doubly_moved a p k t
    → CountsAsEffect u t.index x
    → Set u (Child a p k) x → Set u a x
set_child Stored (Child (Body zero) zero zero) p k x t s o h = absurd (starts_none 0 first_begins p k t s)
set_child Stored (Child (Body zero) zero (suc zero)) p k x t s o h = absurd (starts_none 1 second_begins p k t s)
set_child Loaded (Child (Body zero) zero zero) p k x t s o h = starts_none 0 first_begins p k t s
set_child Loaded (Child (Body zero) zero (suc zero)) p k x t s o h = starts_none 1 second_begins p k t s
set_child u a p k x t s o h = tt

set_called : (u : EffectKind) (a : Area) (p f up x y : ℕ) (ss : List Shape) (l : Layout)
    → IsCalled doubly_moved a p f up ss l
    → Becomes l ss y x → Set u (Body f) y → Set u a x
set_called u a p f up x y ss l c b h = absurd (no_call p f up c.call)

in_set : (u : EffectKind) (a : Area) (x : ℕ) → IsEffect doubly_moved (Does doubly_moved) u a x → Set u a x
in_set = effects_within doubly_moved (Does doubly_moved) Set set_does set_child set_called

-- ---- its areas are the program and the two children

passes_start : (a : Area) → IsArea doubly_moved a → IsInCodeOf doubly_moved a 0 → a ≡ Body 0
passes_start (Body zero) i w = refl
passes_start (Body (suc b)) i w = absurd (other (0 == suc b) refl i.1)
  where
    other : (t : Bool) → (0 == suc b) ≡ t → (if t then Some main else None) ≡ Some i.0 → ⊥
    other true e s = absurd (omega (arith, eqb-true 0 (suc b) e))
    other false e s = cc s
passes_start (Child a p k) (area, way, (t, there)) w = absurd
    (go (at_fork p k t there) (λ e. passes_start a area (subst (IsInCodeOf doubly_moved a) e way)))
  where
    in_child : (j : ℕ) → k ≡ j → p ≡ 0 → a ≡ Body 0 → IsInCodeOf doubly_moved (Child (Body 0) 0 j) 0
    in_child j k_is p_is a_is = subst (λ z. IsInCodeOf doubly_moved (Child (Body 0) 0 z) 0) k_is
        (subst (λ q. IsInCodeOf doubly_moved (Child (Body 0) q k) 0) p_is
        (subst (λ b. IsInCodeOf doubly_moved (Child b p k) 0) a_is w))

    go : (p ≡ 0) × ((k ≡ 0) × (t ≡ first) ⊎ (k ≡ 1) × (t ≡ second)) → (p ≡ 0 → a ≡ Body 0) → ⊥
    go (e, inl z) on = without_fork 0 first_begins (in_child 0 z.0 e (on e))
    go (e, inr z) on = without_fork 1 second_begins (in_child 1 z.0 e (on e))

by_child : (P : Area → ℕ → ℕ → ChildTable → Type 0) → P (Body 0) 0 0 first → P (Body 0) 0 1 second
    → (a : Area) (p k : ℕ) (t : ChildTable) → IsArea doubly_moved (Child a p k) → child_at doubly_moved p k ≡ Some t
    → P a p k t
by_child P x y a p k t i at = go (at_fork p k t at)
  where
    is_one : (j : ℕ) (u : ChildTable) → P (Body 0) 0 j u → p ≡ 0 → k ≡ j → t ≡ u → P a p k t
    is_one j u h p_is k_is t_is =
        let a_is = passes_start a i.0 (subst (IsInCodeOf doubly_moved a) p_is i.1) in
        subst (λ b. P b p k t) (sym a_is)
        (subst (λ q. P (Body 0) q k t) (sym p_is)
        (subst (λ z. P (Body 0) 0 z t) (sym k_is) (subst (λ z. P (Body 0) 0 j z) (sym t_is) h)))

    go : (p ≡ 0) × ((k ≡ 0) × (t ≡ first) ⊎ (k ≡ 1) × (t ≡ second)) → P a p k t
    go (e, inl z) = is_one 0 first x e z.0 z.1
    go (e, inr z) = is_one 1 second y e z.0 z.1

no_moves : {X : Type 0} → IsSome {T = ℕ} None → X
no_moves e = absurd (mathlib.Core.Bool.false≢true e)

-- V6 and V7 are kept
pub moving_keeps : KeepsEffects doubly_moved (Does doubly_moved)
moving_keeps = record {
  stored = λ a p k x t i e f. by_child (λ a p k t. IsEffect doubly_moved (Does doubly_moved) Stored (Child a p k) x
      → IsMember x t.moved) (λ f. inl (in_set Stored (Child (Body 0) 0 0) x f))
      (λ f. inl (in_set Stored (Child (Body 0) 0 1) x f)) a p k t i e f;
  loaded = λ a p k x t i e f o. by_child (λ a p k t. IsEffect doubly_moved (Does doubly_moved) Loaded (Child a p k) x
      → IsMember x (handed_to t)) (λ f. absurd (in_set Loaded (Child (Body 0) 0 0) x f))
      (λ f. absurd (in_set Loaded (Child (Body 0) 0 1) x f)) a p k t i e f;
  once = by_child (λ a p k t. AllDifferent (handed_to t)) ((λ m. m), tt) ((λ m. m), tt);
  no_output = by_child (λ a p k t. IsMember 1 t.shared → ⊥) (λ m. m) (λ m. m);
  no_moves = by_child (λ a p k t. IsSome t.index → t.moved ≡ []) (λ e. no_moves e) (λ e. no_moves e);
  clear = λ a p j k x s t i o e f d m n. by_child (λ a p j s. j ≢ k → child_at doubly_moved p k ≡ Some t
      → IsMember x s.moved
      → IsMember x (handed_to t) → ⊥)
      (λ d f m n. second_of d (at_fork 0 k t f).1 m n)
      (λ d f m n. first_of d (at_fork 0 k t f).1 m n)
      a p j s i e d f m n;
  actual_once = λ a p b up ss l i c u v x m n. absurd (no_call p b up c.call);
  actual_none = λ a p b up ss l i c u x m f. absurd (no_call p b up c.call);
}
  where
    other : (x y z : ℕ) → IsMember x (y ∷ []) → IsMember x (z ∷ []) → y ≡ z
    other x y z (inl e) (inl f) = sym e ∙ f
    other x y z (inr e) n = absurd e
    other x y z (inl e) (inr n) = absurd n

    second_of : {x k : ℕ} {t : ChildTable} → 0 ≢ k → ((k ≡ 0) × (t ≡ first) ⊎ (k ≡ 1) × (t ≡ second))
        → IsMember x (2 ∷ []) → IsMember x (handed_to t) → ⊥
    second_of d (inl z) m n = d (sym z.0)
    second_of {x} d (inr z) m n = absurd
        (let e = other x 2 3 m (subst (λ (u : ChildTable). IsMember x (handed_to u)) z.1 n) in omega (arith, e))

    first_of : {x k : ℕ} {t : ChildTable} → 1 ≢ k → ((k ≡ 0) × (t ≡ first) ⊎ (k ≡ 1) × (t ≡ second))
        → IsMember x (3 ∷ []) → IsMember x (handed_to t) → ⊥
    first_of d (inr z) m n = d (sym z.0)
    first_of {x} d (inl z) m n = absurd
        (let e = other x 3 2 m (subst (λ (u : ChildTable). IsMember x (handed_to u)) z.1 n) in omega (arith, e))
