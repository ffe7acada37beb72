-- Operands and formals that were seen to fit.
use Rattle.std.proofs.Common.{◌≡◌, ◌⊎◌, inl, inr, ⊎_elim, refl, sym, ◌∙◌, ap, ℕ, ◌≤◌, List, [], Bool}
use Rattle.std.proofs.Common.{true, false, arith, eqb-true}
use Rattle.std.specs.Prelude.{cond}
use Rattle.std.specs.List.{list_any}
use Rattle.std.specs.Ordering.{nat_cmp, is_eq, ordering_then}
use Rattle.std.specs.Cmp.{unsigned_tied}
use Rattle.std.specs.BTreeMap.{is_at}
use Rattle.std.specs.BTreeSet.{contains}
use Rattle.std.proofs.lemmas.Bool.{and_parts}
use Rattle.sp_base.proofs.Facts.{tie_of_both}
use Rattle.sp_code.specs.declared.code.Formal.{Formal}
use Rattle.sp_verify_shapes.specs.declared.memo.Memo.{Memo}
use Rattle.sp_verify_shapes.specs.declared.stacks.Stacks.{Stacks}
use Rattle.sp_verify_shapes.specs.Memos.{AddsFit, AddsFits, fit_cmp, has_fit}

-- ---- one more

same_number : (m n : ℕ) → is_eq (nat_cmp m n) ≡ true → n ≡ m
same_number m n e = sym (eqb-true m n (sym (unsigned_tied m n) ∙ e))

-- what the order does not tell apart is the same
one_fit : (p k n q i m : ℕ) → is_eq (fit_cmp (p, k, n) (q, i, m)) ≡ true → (q ≡ p) × (i ≡ k) × (m ≡ n)
one_fit p k n q i m e =
    let a = and_parts (is_eq (ordering_then (nat_cmp p q) (nat_cmp k i))) (is_eq (nat_cmp n m))
    (sym (tie_of_both (ordering_then (nat_cmp p q) (nat_cmp k i)) (nat_cmp n m)) ∙ e) in
    let b = and_parts (is_eq (nat_cmp p q)) (is_eq (nat_cmp k i))
    (sym (tie_of_both (nat_cmp p q) (nat_cmp k i)) ∙ a.0) in
    (same_number p q b.0, same_number k i b.1, same_number n m a.1)

pub adds_fit : (old new : Memo) (p k n : ℕ)
    → ((x : ℕ × ℕ × ℕ) → contains fit_cmp new.fits x
    ≡ cond (is_at (fit_cmp (p, k, n)) x) true (contains fit_cmp old.fits x))
    → AddsFit old new p k n
adds_fit old new p k n now q i m e = go (is_eq (fit_cmp (p, k, n) (q, i, m))) refl
  where
    go : (t : Bool) → is_eq (fit_cmp (p, k, n) (q, i, m)) ≡ t
        → (has_fit old q i m ≡ true) ⊎ ((q ≡ p) × (i ≡ k) × (m ≡ n))
    go true f = inr (one_fit p k n q i m f)
    go false f = inl (sym (now (q, i, m) ∙ ap (λ t. cond t true (has_fit old q i m)) f) ∙ e)

-- where nothing was seen
pub none_kept : (memo : Memo) → memo.fits.keys ≡ [] → (p k n : ℕ) → has_fit memo p k n ≡ true → ⊥
none_kept memo empty p k n e = let f : false ≡ true = sym (ap (list_any (is_at (fit_cmp (p, k, n)))) empty) ∙ e in cc f

-- where memory was refused
pub adds_none : (old new : Memo) (p k n : ℕ) → new.fits.keys ≡ old.fits.keys → AddsFit old new p k n
adds_none old new p k n e q i m h = inl (ap (list_any (is_at (fit_cmp (q, i, m)))) (sym e) ∙ h)

-- ---- while operands are compared

-- those with at least so many formals
pub adds_fewer : (st : Stacks) (fs : List Formal) (p j k : ℕ) (b : Bool) (old new : Memo) → j ≤ k
    → AddsFits st fs p k b old new → AddsFits st fs p j b old new
adds_fewer st fs p j k b old new l before q i n e =
    ⊎_elim (λ o. inl o) (λ w. inr (w.0, (let x = w.1 in omega (arith, l, x)), w.2)) (before q i n e)
