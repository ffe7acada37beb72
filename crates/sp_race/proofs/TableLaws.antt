-- The clocks of all processes after one of them has changed.
use Rattle.std.proofs.Common.{◌≡◌, ◌≢◌, ⊎_elim, ℕ, zero, suc, ◌+◌, ◌<◌, Bool, true, false, cond, max, ◌&&◌, ◌==◌}
use Rattle.std.proofs.Common.{nat_le, nat_lt, List, [], ◌∷◌, length, get_or, Some, slice_get, slice_set, refl, sym, ap}
use Rattle.std.proofs.Common.{◌∙◌, subst, arith, eq-eqb}
use Rattle.std.proofs.lemmas.Option.{slice_get-get_or}
use Rattle.std.proofs.lemmas.Bool.Decides.{nat_tests}
use Rattle.std.proofs.Math.Nat.{max-zero, max-eq_left, max_comm, le-max_right}
use Rattle.std.proofs.lemmas.Bool.{eqb-false, ne_eqb}
use Rattle.std.proofs.lemmas.List.{length-set}
use Rattle.sp_base.proofs.Facts.{get_where_set}
use Rattle.sp_journal.proofs.Facts.{below}
use Rattle.sp_race.specs.declared.clock.Clock.{Clock}
use Rattle.sp_race.specs.Clocks.{count_of, count_at, clock_at, with_own, clocks_after_meeting}
use Rattle.sp_race.proofs.Tallies.{index_or_not}

pub set_other : {X : Type 0} (xs : List X) (l : ℕ) (x : X) (p : ℕ) → l ≢ p
    → slice_get (slice_set xs l x) p ≡ slice_get xs p
set_other [] l x p d = refl
set_other (y ∷ xs) zero x zero d = absurd (d refl)
set_other (y ∷ xs) zero x (suc p) d = refl
set_other (y ∷ xs) (suc l) x zero d = refl
set_other (y ∷ xs) (suc l) x (suc p) d = set_other xs l x p (λ e. d (ap suc e))

pub get_set : {X : Type 0} (xs : List X) (l : ℕ) (x : X) (p : ℕ) → l < length xs
    → slice_get (slice_set xs l x) p ≡ cond (l == p) (Some x) (slice_get xs p)
get_set xs l x p h = ⊎_elim
    (λ (e : l ≡ p). subst (λ r. slice_get (slice_set xs l x) r ≡ Some x) e (get_where_set xs l x h)
    ∙ sym (ap (λ b. cond b (Some x) (slice_get xs p)) (eq-eqb l p e)))
    (λ (d : l == p ≡ false). set_other xs l x p (eqb-false l p d) ∙ sym (ap (λ b. cond b (Some x) (slice_get xs p)) d))
    (index_or_not l p)

pub clock_is : (cs : List Clock) (p : ℕ) (d : Clock) (q : ℕ) → p < length cs
    → count_of (get_or cs p d) q ≡ clock_at cs p q
clock_is cs p d q l = sym (ap (λ o. count_at o q) (slice_get-get_or cs p d l))

set_clock : (cs : List Clock) (l : ℕ) (c : Clock) (p q : ℕ) → l < length cs
    → clock_at (slice_set cs l c) p q ≡ cond (l == p) (count_of c q) (clock_at cs p q)
set_clock cs l c p q h = ap (λ o. count_at o q) (get_set cs l c p h) ∙ by (l == p)
  where
    by : (b : Bool) → count_at (cond b (Some c) (slice_get cs p)) q ≡ cond b (count_of c q) (clock_at cs p q)
    by true = refl
    by false = refl

-- the learner's clock was taken out, merged with the teacher's and put back
pub learned : (cs : List Clock) (l t : ℕ) (none merged : Clock) → l < length cs → ((q : ℕ) → count_of none q ≡ 0)
    → ((q : ℕ) → count_of merged q ≡ max (clock_at cs l q) (clock_at (slice_set cs l none) t q))
    → (p q : ℕ) → clock_at (slice_set (slice_set cs l none) l merged) p q
    ≡ cond (l == p) (max (clock_at cs l q) (clock_at cs t q)) (clock_at cs p q)
learned cs l t none merged h empty is p q =
    set_clock (slice_set cs l none) l merged p q (subst (λ n. l < n) (sym (length-set cs l none)) h)
    ∙ ⊎_elim
    (λ (e : l ≡ p).
    let b = eq-eqb l p e in
    ap (λ x. cond x (count_of merged q) (clock_at (slice_set cs l none) p q)) b ∙ is q ∙ teacher
    ∙ sym (ap (λ x. cond x (max (clock_at cs l q) (clock_at cs t q)) (clock_at cs p q)) b))
    (λ (d : l == p ≡ false).
    ap (λ x. cond x (count_of merged q) (clock_at (slice_set cs l none) p q)) d ∙ set_clock cs l none p q h
    ∙ ap (λ x. cond x (count_of none q) (clock_at cs p q)) d
    ∙ sym (ap (λ x. cond x (max (clock_at cs l q) (clock_at cs t q)) (clock_at cs p q)) d))
    (index_or_not l p)
  where
    teacher : max (clock_at cs l q) (clock_at (slice_set cs l none) t q) ≡ max (clock_at cs l q) (clock_at cs t q)
    teacher = ⊎_elim
        (λ (e : l ≡ t).
        let a : clock_at (slice_set cs l none) t q ≡ 0 = set_clock cs l none t q h
        ∙ ap (λ x. cond x (count_of none q) (clock_at cs t q)) (eq-eqb l t e) ∙ empty q in
        ap (max (clock_at cs l q)) a ∙ max-zero (clock_at cs l q)
        ∙ sym (ap (λ r. max (clock_at cs l q) (clock_at cs r q)) (sym e) ∙ max-eq_left (omega arith)))
        (λ (d : l == t ≡ false). ap (max (clock_at cs l q))
        (set_clock cs l none t q h ∙ ap (λ x. cond x (count_of none q) (clock_at cs t q)) d))
        (index_or_not l t)

-- the teacher's clock says nothing
pub nothing_learned : (cs : List Clock) (l t : ℕ) → ((q : ℕ) → clock_at cs t q ≡ 0) → (p q : ℕ)
    → clock_at cs p q ≡ cond (l == p) (max (clock_at cs l q) (clock_at cs t q)) (clock_at cs p q)
nothing_learned cs l t none p q = sym (⊎_elim
    (λ (e : l ≡ p).
    ap (λ x. cond x (max (clock_at cs l q) (clock_at cs t q)) (clock_at cs p q)) (eq-eqb l p e)
    ∙ ap (max (clock_at cs l q)) (none q) ∙ max-zero (clock_at cs l q) ∙ ap (λ r. clock_at cs r q) e)
    (λ (d : l == p ≡ false).
    ap (λ x. cond x (max (clock_at cs l q) (clock_at cs t q)) (clock_at cs p q)) d)
    (index_or_not l p))

-- the process's own count was raised
pub own_raised : (cs : List Clock) (l n : ℕ) (old new : Clock) (A : ℕ → Type 0) → l < length cs
    → ((q : ℕ) → count_of old q ≡ clock_at cs l q)
    → ((q : ℕ) → A q → count_of new q ≡ cond (l == q) (max (count_of old q) n) (count_of old q))
    → (p q : ℕ) → A q → clock_at (slice_set cs l new) p q
    ≡ cond (l == p) (with_own (clock_at cs) l n q) (clock_at cs p q)
own_raised cs l n old new A h is raised p q a = set_clock cs l new p q h
    ∙ ap (λ x. cond (l == p) x (clock_at cs p q)) (raised q a ∙ ap (λ x. cond (l == q) (max x n) x) (is q))

-- one more child has learned
pub one_more_child : (first child count : ℕ) (parent : ℕ) (c0 c1 c2 : ℕ → ℕ → ℕ) → parent < first
    → ((p q : ℕ) → c1 p q ≡ cond (nat_le first p && nat_lt p (first + child)) (max (c0 p q) (c0 parent q)) (c0 p q))
    → ((p q : ℕ) → c2 p q ≡ cond (first + child == p) (max (c1 (first + child) q) (c1 parent q)) (c1 p q))
    → (p q : ℕ) → c2 p q ≡ cond (nat_le first p && nat_lt p (first + (child + 1))) (max (c0 p q) (c0 parent q)) (c0 p q)
one_more_child first child count parent c0 c1 c2 before was is p q = is p q ∙ ⊎_elim
    (λ (e : first + child ≡ p).
    let a : c1 (first + child) q ≡ c0 p q = was (first + child) q
    ∙ ap (λ b. cond b (max (c0 (first + child) q) (c0 parent q)) (c0 (first + child) q)) (not_yet first child)
    ∙ ap (λ r. c0 r q) e in
    let b : c1 parent q ≡ c0 parent q = was parent q
    ∙ ap (λ b. cond b (max (c0 parent q) (c0 parent q)) (c0 parent q))
    (below first parent (first + child) before) in
    ap (λ x. cond x (max (c1 (first + child) q) (c1 parent q)) (c1 p q)) (eq-eqb (first + child) p e)
    ∙ (λ i. max (a i) (b i))
    ∙ sym (ap (λ x. cond x (max (c0 p q) (c0 parent q)) (c0 p q)) (at first child p e)))
    (λ (d : first + child == p ≡ false).
    ap (λ x. cond x (max (c1 (first + child) q) (c1 parent q)) (c1 p q)) d ∙ was p q
    ∙ ap (λ x. cond x (max (c0 p q) (c0 parent q)) (c0 p q)) (other first child p (eqb-false (first + child) p d)))
    (index_or_not (first + child) p)
  where
    not_yet : (first child : ℕ) → nat_le first (first + child) && nat_lt (first + child) (first + child) ≡ false
    not_yet first child = grind (arith, nat_tests)

    at : (first child p : ℕ) → first + child ≡ p → nat_le first p && nat_lt p (first + (child + 1)) ≡ true
    at first child p e = grind (arith, nat_tests)

    other : (first child p : ℕ) → first + child ≢ p
        → nat_le first p && nat_lt p (first + child) ≡ nat_le first p && nat_lt p (first + (child + 1))
    other first child p d = grind (arith, nat_tests)

pub child_learned : (first child at count parent : ℕ) (c0 c1 c2 : ℕ → ℕ → ℕ) → at ≡ first + child → parent < first
    → ((p q : ℕ) → c1 p q ≡ cond (nat_le first p && nat_lt p (first + child)) (max (c0 p q) (c0 parent q)) (c0 p q))
    → ((p q : ℕ) → c2 p q ≡ cond (at == p) (max (c1 at q) (c1 parent q)) (c1 p q))
    → (p q : ℕ) → c2 p q ≡ cond (nat_le first p && nat_lt p (first + (child + 1))) (max (c0 p q) (c0 parent q)) (c0 p q)
child_learned first child at count parent c0 c1 c2 e before was is =
    one_more_child first child count parent c0 c1 c2 before was
    (subst (λ x. (p q : ℕ) → c2 p q ≡ cond (x == p) (max (c1 x q) (c1 parent q)) (c1 p q)) e is)

-- two processes met, step by step
pub both_met : (A : ℕ → Type 0) (p n z m : ℕ) (c0 c1 c2 c3 c4 : ℕ → ℕ → ℕ) → p ≢ z
    → ((r q : ℕ) → A q → c1 r q ≡ cond (p == r) (with_own c0 p n q) (c0 r q))
    → ((r q : ℕ) → A q → c2 r q ≡ cond (z == r) (with_own c1 z m q) (c1 r q))
    → ((r q : ℕ) → c3 r q ≡ cond (p == r) (max (c2 p q) (c2 z q)) (c2 r q))
    → ((r q : ℕ) → c4 r q ≡ cond (z == r) (max (c3 z q) (c3 p q)) (c3 r q))
    → (r q : ℕ) → A q → c4 r q ≡ clocks_after_meeting c0 p n z m r q
both_met A p n z m c0 c1 c2 c3 c4 d e1 e2 e3 e4 r q asked = e4 r q ∙ ⊎_elim
    (λ (e : z ≡ r).
    let b = eq-eqb z r e in
    let a : p == r ≡ false = ne_eqb p r (λ f. d (f ∙ sym e)) in
    ap (λ x. cond x (max (c3 z q) (c3 p q)) (c3 r q)) b ∙ (λ i. max (z3 i) (p3 i))
    ∙ absorbs (with_own c0 p n q) (with_own c0 z m q)
    ∙ sym (ap (λ x. cond x whole (cond (z == r) whole (c0 r q))) a ∙ ap (λ x. cond x whole (c0 r q)) b))
    (λ (b : z == r ≡ false). ap (λ x. cond x (max (c3 z q) (c3 p q)) (c3 r q)) b ∙ e3 r q ∙ ⊎_elim
    (λ (e : p ≡ r).
    let a = eq-eqb p r e in
    ap (λ x. cond x (max (c2 p q) (c2 z q)) (c2 r q)) a ∙ (λ i. max (p2 i) (z2 i))
    ∙ sym (ap (λ x. cond x whole (cond (z == r) whole (c0 r q))) a))
    (λ (a : p == r ≡ false).
    ap (λ x. cond x (max (c2 p q) (c2 z q)) (c2 r q)) a ∙ e2 r q asked
    ∙ ap (λ x. cond x (cond (z == q) (max (c1 z q) m) (c1 z q)) (c1 r q)) b ∙ e1 r q asked
    ∙ ap (λ x. cond x (cond (p == q) (max (c0 p q) n) (c0 p q)) (c0 r q)) a
    ∙ sym (ap (λ x. cond x whole (cond (z == r) whole (c0 r q))) a ∙ ap (λ x. cond x whole (c0 r q)) b))
    (index_or_not p r))
    (index_or_not z r)
  where
    whole : ℕ
    whole = max (with_own c0 p n q) (with_own c0 z m q)

    pz : p == z ≡ false
    pz = ne_eqb p z d

    zp : z == p ≡ false
    zp = ne_eqb z p (λ e. d (sym e))

    z1 : c1 z q ≡ c0 z q
    z1 = e1 z q asked ∙ ap (λ x. cond x (cond (p == q) (max (c0 p q) n) (c0 p q)) (c0 z q)) pz

    p1 : c1 p q ≡ with_own c0 p n q
    p1 = e1 p q asked ∙ ap (λ x. cond x (cond (p == q) (max (c0 p q) n) (c0 p q)) (c0 p q)) (eq-eqb p p refl)

    z2 : c2 z q ≡ with_own c0 z m q
    z2 = e2 z q asked ∙ ap (λ x. cond x (cond (z == q) (max (c1 z q) m) (c1 z q)) (c1 z q)) (eq-eqb z z refl)
        ∙ ap (λ x. cond (z == q) (max x m) x) z1

    p2 : c2 p q ≡ with_own c0 p n q
    p2 = e2 p q asked ∙ ap (λ x. cond x (cond (z == q) (max (c1 z q) m) (c1 z q)) (c1 p q)) zp ∙ p1

    p3 : c3 p q ≡ whole
    p3 = e3 p q ∙ ap (λ x. cond x (max (c2 p q) (c2 z q)) (c2 p q)) (eq-eqb p p refl) ∙ (λ i. max (p2 i) (z2 i))

    z3 : c3 z q ≡ with_own c0 z m q
    z3 = e3 z q ∙ ap (λ x. cond x (max (c2 p q) (c2 z q)) (c2 z q)) pz ∙ z2

    absorbs : (a b : ℕ) → max b (max a b) ≡ max a b
    absorbs a b = max_comm b (max a b) ∙ max-eq_left (le-max_right a b)
