use Rattle.std.proofs.Common.{◌≡◌, ◌≢◌, ◌∙◌, ◌+◌, ◌≤◌, ◌<◌, ◌&&◌, ◌==◌, ⊎_elim, ℕ, Bool, cond, nat_le}
use Rattle.std.proofs.Common.{nat_lt, sym, ap, arith}
use Rattle.std.proofs.lemmas.Bool.{cases_eq, ne_eqb}
use Rattle.std.proofs.lemmas.Bool.Decides.{nat_tests}
use Rattle.sp_journal.proofs.Facts.{between, here}
use Rattle.sp_report.specs.declared.condition.Condition.{Condition}
use Rattle.sp_report.specs.declared.condition.Condition.TheVariants as condition
use Rattle.sp_report.specs.Conditions.{Conditions}
use Rattle.sp_report.proofs.table.Table.fork.Goals as goal

same_test : (first q child : ℕ) → child ≢ q → nat_le first q && nat_lt q child ≡ nat_le first q && nat_lt q (child + 1)
same_test first q child n = grind (arith, nat_tests)

-- one child more runs
one_runs : (first child q : ℕ) (old x : Condition) → first ≤ child
    → old ≡ cond (nat_le first q && nat_lt q child) condition.Running x
    → cond (child == q) condition.Running old ≡ cond (nat_le first q && nat_lt q (child + 1)) condition.Running x
one_runs first child q old x l e = ⊎_elim
    (λ (f : child ≡ q).
    let a : first ≤ q = omega arith in
    let b : q < child + 1 = omega arith in
    ap (λ (t : Bool). cond t condition.Running old) (here child q f)
    ∙ ap (λ (t : Bool). cond t condition.Running x) (sym (between first q (child + 1) a b)))
    (λ (n : child ≢ q). ap (λ (t : Bool). cond t condition.Running old) (ne_eqb child q n) ∙ e
    ∙ ap (λ (t : Bool). cond t condition.Running x) (same_test first q child n))
    (cases_eq child q)

pub loop-child-preserved : goal.loop-child-preserved
loop-child-preserved c = λ kept.
    let one = c.becomes-in-loop-child.ensures kept in
    let all = c.loop-child.invariant one.0 in (
      all.0,
      λ i. record {
        of = λ (q : ℕ).
            (ap (λ (t : Conditions). t.of q) one.1
            ∙ one_runs _ c.loop-child.child q _ _ c.loop-child.auto.child (ap (λ (t : Conditions). t.of q) all.1)) i;
        pending = (ap (λ (t : Conditions). t.pending) one.1 ∙ ap (λ (t : Conditions). t.pending) all.1) i;
        faulted = (ap (λ (t : Conditions). t.faulted) one.1 ∙ ap (λ (t : Conditions). t.faulted) all.1) i;
      },
    )
