-- The table of shapes has, at each instruction, the shapes that ways bring there.
use Rattle.std.proofs.Common.{◌≡◌, ◌⊎◌, inl, inr, ⊎_elim, refl, ◌∙◌, ap, subst, ℕ, ◌<◌, ◌≤◌, List, length, Option, Some}
use Rattle.std.proofs.Common.{None, Bool, true, false, arith}
use Rattle.std.specs.Prelude.{slice_get, not}
use Rattle.std.proofs.lemmas.Option.{slice_get_within, slice_get_cases, none-some, same_Some}
use Rattle.std.proofs.lemmas.Bool.{and_from, and_parts, not-true}
use Rattle.sp_base.proofs.Facts.{not_true_and_false}
use Rattle.sp_code.specs.declared.instr.Instr.{Instr}
use Rattle.sp_code.specs.declared.code.Parts.{Parts}
use Rattle.sp_verify_rules.specs.Areas.{Area, on_option, instr_at}
use Rattle.sp_verify_rules.specs.Shapes.{Shape, stays_within}
use Rattle.sp_verify_rules.specs.Rules.{ComesTo, BreaksV3, PassesLeft, BreaksV5, NoFit, AnswersByReference, call_fits}
use Rattle.sp_verify_rules.specs.Rules.{some_reference}
use Rattle.sp_verify_areas.specs.Alone.{LayoutFails}
use Rattle.sp_verify_areas.specs.LeastPlaces.{IsLeast, Upto, earlier_of}
use Rattle.sp_verify_areas.proofs.Leasts.{least_of_same, both}
use Rattle.sp_verify_shapes.specs.declared.shapes.Shapes.{Shapes}
use Rattle.sp_verify_shapes.specs.Stacks.{IsListNumber, list_of}
use Rattle.sp_verify_shapes.specs.Shapes.{AreShapes}
use Rattle.sp_verify_shapes.specs.ReachRules.{reached_at, shapes_at, fails_at, answers_by_reference}

-- a number that is there stands in the table
pub stands : (s : Shapes) (p n : ℕ) → reached_at s p ≡ Some n → slice_get s.at p ≡ Some (Some n)
stands s p n e = go (slice_get s.at p) refl e
  where
    go : (o : Option (Option ℕ)) → slice_get s.at p ≡ o → on_option None o (λ w. w) ≡ Some n
        → slice_get s.at p ≡ Some (Some n)
    go None f g = absurd (none-some n g)
    go (Some w) f g = f ∙ ap Some g

pub reached_there : (s : Shapes) (p n : ℕ) → slice_get s.at p ≡ Some (Some n) → reached_at s p ≡ Some n
reached_there s p n e = ap (λ (o : Option (Option ℕ)). on_option None o (λ w. w)) e

pub holds : (c : Parts) (s : Shapes) → AreShapes c s → (p n : ℕ) → reached_at s p ≡ Some n → IsListNumber s.stacks n
holds c s h p n e = h.held p n (stands s p n e)

-- an instruction that is reached has some way to it
pub some_way : (c : Parts) (s : Shapes) → AreShapes c s → (p : ℕ) (ss : List Shape) → shapes_at s p ≡ Some ss
    → (a : Area) × ComesTo c a p ss
some_way c s h p ss e = go (reached_at s p) refl e
  where
    go : (o : Option ℕ) → reached_at s p ≡ o → on_option None o (λ n. Some (list_of s.stacks n)) ≡ Some ss
        → (a : Area) × ComesTo c a p ss
    go None f g = absurd (none-some ss g)
    go (Some n) f g =
        let r = h.come p n (stands s p n f) in
        (r.0, subst (ComesTo c r.0 p) (same_Some (list_of s.stacks n) ss g) r.1)

-- what a way brings is in the table
pub brought : (c : Parts) (s : Shapes) → AreShapes c s → (a : Area) (p : ℕ) (ss : List Shape) → ComesTo c a p ss
    → shapes_at s p ≡ Some ss
brought c s h a p ss w =
    let r = h.all a p ss w in
    ap (λ o. on_option None (on_option None o (λ w. w)) (λ n. Some (list_of s.stacks n))) r.1 ∙ ap Some r.2

-- an instruction fails a test where a way brings shapes with which it does
pub fails_by : (c : Parts) (s : Shapes) → AreShapes c s → (well : Option Instr → List Shape → Bool) (p : ℕ)
    → fails_at well c s p ≡ true
    → (a : Area) × (ss : List Shape) × ComesTo c a p ss × (well (instr_at c p) ss ≡ false)
fails_by c s h well p e = go (shapes_at s p) refl e
  where
    go : (o : Option (List Shape)) → shapes_at s p ≡ o → on_option false o (λ ss. not (well (instr_at c p) ss)) ≡ true
        → (a : Area) × (ss : List Shape) × ComesTo c a p ss × (well (instr_at c p) ss ≡ false)
    go None f g = absurd (cc g)
    go (Some ss) f g = let r = some_way c s h p ss f in (r.0, ss, r.1, not-true (well (instr_at c p) ss) g)

pub fails_so : (c : Parts) (s : Shapes) → AreShapes c s → (well : Option Instr → List Shape → Bool) (a : Area) (p : ℕ)
    (ss : List Shape)
    → ComesTo c a p ss → well (instr_at c p) ss ≡ false → fails_at well c s p ≡ true
fails_so c s h well a p ss w e = ap (λ o. on_option false o (λ ts. not (well (instr_at c p) ts)))
    (brought c s h a p ss w)
    ∙ ap not e

-- past the code nothing fails
pub nothing_past : (c : Parts) (s : Shapes) → AreShapes c s → (well : Option Instr → List Shape → Bool) (p : ℕ)
    → fails_at well c s p ≡ true → p < length c.instrs
nothing_past c s h well p e = ⊎_elim (λ r. let l = r.1 in let z = h.size in omega (arith, l, z))
    (λ r. absurd (not_true_and_false (fails_at well c s p) e (past r.1))) (slice_get_cases s.at p).1
  where
    past : slice_get s.at p ≡ None → fails_at well c s p ≡ false
    past f = ap (λ o. on_option false (on_option None (on_option None o (λ w. w)) (λ n. Some (list_of s.stacks n)))
        (λ ts. not (well (instr_at c p) ts))) f

-- ---- the least instruction that fails

pub first_one : (P : ℕ → Bool) (n : ℕ) → P n ≡ true → ((k : ℕ) → k < n → P k ≡ false)
    → IsLeast (λ p. P p ≡ true) (Some n)
first_one P n e none = (e, λ p l f. not_true_and_false (P p) f (none p l))

pub no_one : (c : Parts) (s : Shapes) → AreShapes c s → (well : Option Instr → List Shape → Bool) (n : ℕ)
    → length c.instrs ≤ n
    → ((k : ℕ) → k < n → fails_at well c s k ≡ false) → IsLeast (λ p. fails_at well c s p ≡ true) None
no_one c s h well n e none = λ p f. not_true_and_false (fails_at well c s p) f
    (none p (let l = nothing_past c s h well p f in omega (arith, l, e)))

pub least_passing : (c : Parts) (s : Shapes) → AreShapes c s → (o : Option ℕ)
    → IsLeast (λ p. fails_at stays_within c s p ≡ true) o → IsLeast (BreaksV3 c) o
least_passing c s h o = least_of_same (λ p. fails_at stays_within c s p ≡ true) (BreaksV3 c) o up down
  where
    up : (p : ℕ) → fails_at stays_within c s p ≡ true → BreaksV3 c p
    up p e = let (a, ss, comes, passes) = fails_by c s h stays_within p e in PassesLeft a ss comes passes

    down : (p : ℕ) → BreaksV3 c p → fails_at stays_within c s p ≡ true
    down p (PassesLeft a ss w e) = fails_so c s h stays_within a p ss w e

pub least_unfit : (c : Parts) (s : Shapes) → AreShapes c s → (m n : Option ℕ)
    → IsLeast (λ p. fails_at (call_fits c) c s p ≡ true) m
    → IsLeast (Upto (LayoutFails answers_by_reference c.layouts) (length c.layouts)) n
    → IsLeast (BreaksV5 c) (earlier_of m n)
least_unfit c s h m n f g = least_of_same (λ p. P p ⊎ Q p) (BreaksV5 c) (earlier_of m n) up down (both P Q m n f g)
  where
    P : ℕ → Type 0
    P p = fails_at (call_fits c) c s p ≡ true

    Q : ℕ → Type 0
    Q p = Upto (LayoutFails answers_by_reference c.layouts) (length c.layouts) p

    up : (p : ℕ) → P p ⊎ Q p → BreaksV5 c p
    up p (inl e) = let (a, ss, comes, unfit) = fails_by c s h (call_fits c) p e in NoFit a ss comes unfit
    up p (inr u) =
        let (l, there, begins, answers) = u.holds in
        let b = and_parts l.answer (some_reference l.formals) answers in
        AnswersByReference l (u.item, there) begins b.0 b.1

    down : (p : ℕ) → BreaksV5 c p → P p ⊎ Q p
    down p (NoFit a ss w e) = inl (fails_so c s h (call_fits c) a p ss w e)
    down p (AnswersByReference l there e a r) =
        inr (record {
          item = there.0;
          below = slice_get_within c.layouts there.0 l there.1;
          holds =
              (l, there.1, e, and_from l.answer (some_reference l.formals) a r);
        })
