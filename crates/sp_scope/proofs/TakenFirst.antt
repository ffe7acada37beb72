-- The first of a list of broken rules: it stands in the list, and none of the list is before it.
use Rattle.std.proofs.Common.{◌≡◌, inl, inr, refl, ap, sym, ◌∙◌, subst, List, [], ◌∷◌, if◌then◌else◌, Some}
use Rattle.std.proofs.Common.{None, Bool, true, false}
use Rattle.std.specs.declared.cmp.Ordering.{Ordering}
use Rattle.std.specs.declared.cmp.Ordering.TheVariants.{Less, Equal, Greater}
use Rattle.std.specs.Ordering.{is_lt, is_gt, ordering_reverse}
use Rattle.std.specs.Cmp.{IsTotalOrder, then_total, on_total, nat_cmp_total, upto, tied_itself}
use Rattle.sp_base.specs.declared.halt.Refusal.{Refusal}
use Rattle.sp_tree.specs.First.{row, refusal_cmp, refusal_before}
use Rattle.sp_tree.specs.PhaseResults.{first_of_refusals}
use Rattle.sp_scope.specs.Laws.{Among, IsFirstOf}

refusal_total : IsTotalOrder refusal_cmp
refusal_total = then_total (on_total (λ r. r.at.line) nat_cmp_total)
    (then_total (on_total (λ r. r.at.column) nat_cmp_total) (on_total (λ r. row r.rule) nat_cmp_total))

-- x stands no later than y
abbrev UpTo : Refusal → Refusal → Type 0
UpTo x y = is_gt (refusal_cmp x y) ≡ false

abbrev UpToAll : Refusal → List Refusal → Type 0
UpToAll r [] = Unit {0}
UpToAll r (s ∷ rs) = UpTo r s × UpToAll r rs

not_both : (r : Ordering) → is_lt r ≡ true → is_gt r ≡ false
not_both Less e = refl
not_both Equal e = refl
not_both Greater e = sym e

turned : (r : Ordering) → is_lt r ≡ false → is_gt (ordering_reverse r) ≡ false
turned Less e = e
turned Equal e = refl
turned Greater e = refl

turned_back : (r : Ordering) → is_gt r ≡ false → is_lt (ordering_reverse r) ≡ false
turned_back Less e = refl
turned_back Equal e = refl
turned_back Greater e = e

after : (x y : Refusal) → refusal_before y x ≡ false → UpTo x y
after x y e = ap is_gt (refusal_total.antisymm x y) ∙ turned (refusal_cmp y x) e

not_before : (x y : Refusal) → UpTo x y → refusal_before y x ≡ false
not_before x y e = ap is_lt (refusal_total.antisymm y x) ∙ turned_back (refusal_cmp x y) e

second : (r x y : Refusal) (rs : List Refusal) → Among r (x ∷ rs) → Among r (x ∷ y ∷ rs)
second r x y rs (inl e) = inl e
second r x y rs (inr m) = inr (inr m)

-- the first of x and the list
record HasLeast (x : Refusal) (rs : List Refusal) : Type 0 where
  it : Refusal
  is : first_of_refusals rs (Some x) ≡ Some it
  among : Among it (x ∷ rs)
  least : UpToAll it (x ∷ rs)

chosen : (rs : List Refusal) (x y : Refusal) (b : Bool) → refusal_before y x ≡ b → HasLeast y rs → HasLeast x rs
    → HasLeast x (y ∷ rs)
chosen rs x y true e k l = record {
  it = k.it;
  is = ap (λ c. first_of_refusals rs (if c then Some y else Some x)) e ∙ k.is;
  among = inr k.among;
  least = (upto refusal_total k.it y x k.least.0 (not_both (refusal_cmp y x) e), k.least);
}
chosen rs x y false e k l = record {
  it = l.it;
  is = ap (λ c. first_of_refusals rs (if c then Some y else Some x)) e ∙ l.is;
  among = second l.it x y rs l.among;
  least = (l.least.0, (upto refusal_total l.it x y l.least.0 (after x y e), l.least.1));
}

kept : (rs : List Refusal) (x : Refusal) → HasLeast x rs
kept [] x = record { it = x; is = refl; among = inl refl; least = (ap is_gt (tied_itself refusal_total x), tt) }
kept (y ∷ rs) x = chosen rs x y (refusal_before y x) refl (kept rs y) (kept rs x)

of_all : (r : Refusal) (rs : List Refusal) → UpToAll r rs → (other : Refusal) → Among other rs
    → refusal_before other r ≡ false
of_all r [] u other m = elim m [ ]
of_all r (s ∷ rs) u other (inl e) = ap (λ o. refusal_before o r) e ∙ not_before r s u.0
of_all r (s ∷ rs) u other (inr m) = of_all r rs u.1 other m

first_from : (r : Refusal) (rs : List Refusal) → HasLeast r rs → IsFirstOf (r ∷ rs) (first_of_refusals rs (Some r))
first_from r rs k = subst (IsFirstOf (r ∷ rs)) (sym k.is)
    (record { breaks = k.among; first = of_all k.it (r ∷ rs) k.least })

-- what is taken from a list is its first
pub taken_first : (rs : List Refusal) → IsFirstOf rs (first_of_refusals rs None)
taken_first [] = refl
taken_first (r ∷ rs) = first_from r rs (kept rs r)
