-- The order of refusals, and that the first broken rule is one.
use Rattle.std.proofs.Common.{◌≡◌, ℕ, zero, suc, ◌+◌, ◌<◌, ◌≤◌, Bool, true, false, List, [], ◌∷◌, length, take, cond}
use Rattle.std.proofs.Common.{◌==◌, Some, ◌⊎◌, inl, inr, refl, sym as back_of, ap, ◌∙◌, subst, arith}
use Rattle.std.specs.Prelude.{T, slice_get}
use Rattle.std.proofs.lemmas.Bool.{cases_lt}
use Rattle.std.specs.Ordering.{nat_cmp, ordering_then, ordering_reverse, is_lt}
use Rattle.std.specs.declared.cmp.Ordering.{Ordering}
use Rattle.std.specs.declared.cmp.Ordering.TheVariants.{Less, Equal, Greater}
use Rattle.std.specs.Cmp.{IsTotalOrder, then_total, on_total, nat_cmp_total, nat_cmp_is}
use Rattle.std.specs.FinMap.{nat_cmp-IsAntisymmetric}
use Rattle.sp_base.specs.declared.place.Place.{Place}
use Rattle.sp_base.specs.declared.halt.Refusal.{Refusal}
use Rattle.sp_base.specs.declared.rule.Rule.{Rule}
use Rattle.sp_base.specs.declared.rule.Rule.TheVariants as rule
use Rattle.sp_base.proofs.Facts.{one_value}
use Rattle.sp_base.specs.Order.{both_tie}
use Rattle.sp_tree.specs.First.{row, refusal_cmp, refusal_before, IsFirst}
use Rattle.sp_tree.specs.Places.{next_place, place_behind}
use Rattle.sp_tree.proofs.Earlier.{Earlier, earlier_then}

pub refusal_total : IsTotalOrder refusal_cmp
refusal_total = then_total (on_total (λ r. r.at.line) nat_cmp_total)
    (then_total (on_total (λ r. r.at.column) nat_cmp_total) (on_total (λ r. row r.rule) nat_cmp_total))

-- the rules in the order of the table
abbrev table : List Rule
table = rule.L1 ∷ rule.S1 ∷ rule.S2 ∷ rule.S3 ∷ rule.S4 ∷ rule.S5 ∷ rule.U1 ∷ rule.U2 ∷ rule.G1 ∷ rule.L2 ∷ rule.G2
    ∷ rule.N1 ∷ rule.N2 ∷ rule.N3 ∷ rule.N4 ∷ rule.N5 ∷ rule.N6 ∷ rule.N7 ∷ rule.N8 ∷ rule.L4 ∷ rule.Y1 ∷ rule.Y2
    ∷ rule.Y3 ∷ rule.Y4 ∷ rule.Y5 ∷ rule.Y6 ∷ rule.Y7 ∷ rule.Y8 ∷ rule.Y9 ∷ rule.Y10 ∷ rule.Y11 ∷ rule.Y12 ∷ rule.Y13
    ∷ rule.Y14 ∷ rule.L3 ∷ rule.L6 ∷ rule.I1 ∷ rule.I2 ∷ rule.I3 ∷ rule.I4 ∷ rule.I5 ∷ rule.I6 ∷ rule.I7 ∷ rule.I8
    ∷ rule.I9 ∷ rule.L5 ∷ []

-- two rules of one row are one
at_row : (r : Rule) → slice_get table (row r) ≡ Some r
at_row rule.L1 = refl
at_row _ = refl

same_rule : (r s : Rule) → row r ≡ row s → r ≡ s
same_rule r s e = one_value (slice_get table (row s)) (ap (slice_get table) (back_of e) ∙ at_row r) (at_row s)

-- only equal refusals tie
pub same_refusal : (a b : Refusal) → refusal_cmp a b ≡ Equal → a ≡ b
same_refusal a b e =
    let x = both_tie (nat_cmp a.at.line b.at.line)
    (ordering_then (nat_cmp a.at.column b.at.column) (nat_cmp (row a.rule) (row b.rule))) e in
    let y = both_tie (nat_cmp a.at.column b.at.column) (nat_cmp (row a.rule) (row b.rule)) x.1 in
    let l = nat_cmp-IsAntisymmetric a.at.line b.at.line x.0 in
    let c = nat_cmp-IsAntisymmetric a.at.column b.at.column y.0 in
    let r = same_rule a.rule b.rule (nat_cmp-IsAntisymmetric (row a.rule) (row b.rule) y.1) in
    λ i. record { rule = r i; at = record { line = l i; column = c i } }

neither : (r : Ordering) → is_lt r ≡ false → is_lt (ordering_reverse r) ≡ false → r ≡ Equal
neither Less p q = absurd (subst T p tt)
neither Equal p q = refl
neither Greater p q = absurd (subst T q tt)

-- The first broken rule is one.
pub one_first : (Breaks : Rule → Place → Type 0) (a b : Refusal) → IsFirst Breaks a → IsFirst Breaks b → a ≡ b
one_first Breaks a b x y =
    same_refusal a b (neither (refusal_cmp a b) (y.first a x.breaks)
    (ap is_lt (back_of (refusal_total.antisymm b a)) ∙ x.first b y.breaks))

-- what stands later is not before
pub later : (a b : Refusal) → Earlier b.at a.at → refusal_before a b ≡ false
later a b (inl h) = ap (λ o. is_lt (ordering_then o
    (ordering_then (nat_cmp a.at.column b.at.column) (nat_cmp (row a.rule) (row b.rule)))))
    (back_of (nat_cmp_is a.at.line b.at.line Greater h))
later a b (inr (e, h)) =
    ap (λ o. is_lt (ordering_then o (ordering_then (nat_cmp a.at.column b.at.column)
    (nat_cmp (row a.rule) (row b.rule))))) (back_of (nat_cmp_is a.at.line b.at.line Equal (back_of e)))
    ∙ ap (λ o. is_lt (ordering_then o (nat_cmp (row a.rule) (row b.rule))))
    (back_of (nat_cmp_is a.at.column b.at.column Greater h))

rows_by : (m n : ℕ) → n ≤ m → (n < m) ⊎ (m ≤ n) → is_lt (nat_cmp m n) ≡ false
rows_by m n h (inl g) = ap is_lt (back_of (nat_cmp_is m n Greater g))
rows_by m n h (inr e) = ap is_lt (back_of (nat_cmp_is m n Equal (omega arith)))

rows_not : (m n : ℕ) → n ≤ m → is_lt (nat_cmp m n) ≡ false
rows_not m n h = rows_by m n h (cases_lt n m)

-- nor is what stands at the same place in the same row or in a later one
pub no_sooner : (a b : Refusal) → a.at ≡ b.at → row b.rule ≤ row a.rule → refusal_before a b ≡ false
no_sooner a b e h =
    ap (λ o. is_lt (ordering_then o (ordering_then (nat_cmp a.at.column b.at.column)
    (nat_cmp (row a.rule) (row b.rule))))) (back_of (nat_cmp_is a.at.line b.at.line Equal (ap (λ p. p.line) e)))
    ∙ ap (λ o. is_lt (ordering_then o (nat_cmp (row a.rule) (row b.rule))))
    (back_of (nat_cmp_is a.at.column b.at.column Equal (ap (λ p. p.column) e)))
    ∙ rows_not (row a.rule) (row b.rule) h

step_by : (p : Place) (c : Bool) → (p.line < cond c (p.line + 1) p.line)
    ⊎ ((p.line ≡ cond c (p.line + 1) p.line) × (p.column < cond c 1 (p.column + 1)))
step_by p true = inl (omega arith)
step_by p false = inr (refl, omega arith)

step : (p : Place) (b : ℕ) → Earlier p (next_place p b)
step p b = step_by p (b == 10)

-- each byte leads to a later place
grows : (p : Place) (b : ℕ) (bs : List ℕ) → Earlier p (place_behind p (b ∷ bs))
grows p b [] = step p b
grows p b (c ∷ bs) = earlier_then p (next_place p b) (place_behind p (b ∷ c ∷ bs)) (step p b)
    (grows (next_place p b) c bs)

pub rises : (text : List ℕ) (p : Place) (i j : ℕ) → i < j → j ≤ length text
    → Earlier (place_behind p (take i text)) (place_behind p (take j text))
rises [] p i j h g = absurd (omega arith)
rises (b ∷ bs) p i zero h g = absurd (omega arith)
rises (b ∷ bs) p zero (suc j) h g = grows p b (take j bs)
rises (b ∷ bs) p (suc i) (suc j) h g = rises bs (next_place p b) i j (omega arith) (omega arith)
