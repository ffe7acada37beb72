-- Operands against formals, the last ones first.
use Rattle.std.proofs.Common.{◌≡◌, refl, sym, ◌∙◌, ap, subst, ℕ, zero, suc, ◌-◌, ◌<◌, ◌≤◌, List, [], ◌∷◌, ◌++◌}
use Rattle.std.proofs.Common.{length, take, get_or, Some, None, Bool, true, false, ◌&&◌, append_assoc, arith}
use Rattle.std.specs.Prelude.{slice_get}
use Rattle.std.proofs.Math.Seq.{take-suc}
use Rattle.std.proofs.Math.Bool.{and_assoc}
use Rattle.std.proofs.lemmas.Option.{slice_get_within, get_or_from_slice_get, slice_get-get_or}
use Rattle.sp_base.proofs.Facts.{and_with_false, and_with_true}
use Rattle.sp_code.specs.declared.code.Formal.{Formal}
use Rattle.sp_code.specs.declared.code.Formal.TheVariants as formal
use Rattle.sp_verify_rules.specs.Shapes.{Shape}
use Rattle.sp_verify_rules.specs.Rules.{fits_formal, fit_formals, lowest_first}
use Rattle.sp_verify_shapes.specs.declared.stacks.Jump.{Jump}
use Rattle.sp_verify_shapes.specs.declared.stacks.Stacks.{Stacks}
use Rattle.sp_verify_shapes.specs.Asks.{AllFit, CoversAll}
use Rattle.sp_verify_shapes.specs.Fits.{PassesTo, first_fit}
use Rattle.sp_verify_shapes.specs.Stacks.{IsJump, IsListNumber, list_of}

pub lowest_before : (m : ℕ) (ss ts : List Shape) → lowest_first m ss ts ≡ lowest_first m ss [] ++ ts
lowest_before zero ss ts = refl
lowest_before (suc m) [] ts = refl
lowest_before (suc m) (s ∷ ss) ts =
    lowest_before m ss (s ∷ ts) ∙ sym (append_assoc (lowest_first m ss []) (s ∷ []) ts)
    ∙ ap (λ us. us ++ ts) (sym (lowest_before m ss (s ∷ [])))

pub fits_last : (fs : List Formal) (f : Formal) (xs : List Shape) (s : Shape)
    → fit_formals (fs ++ f ∷ []) (xs ++ s ∷ []) ≡ (fit_formals fs xs && fits_formal f s)
fits_last [] f [] s = and_with_true (fits_formal f s)
fits_last [] f (x ∷ []) s = and_with_false (fits_formal f x)
fits_last [] f (x ∷ y ∷ xs) s = and_with_false (fits_formal f x)
fits_last (e ∷ []) f [] s = and_with_false (fits_formal e s)
fits_last (e ∷ d ∷ fs) f [] s = and_with_false (fits_formal e s)
fits_last (e ∷ fs) f (x ∷ xs) s = ap (λ b. fits_formal e x && b) (fits_last fs f xs s)
    ∙ sym (and_assoc (fits_formal e x) (fit_formals fs xs) (fits_formal f s))

-- the topmost operand goes with the last formal
pub one_formal : (fs : List Formal) (m : ℕ) (f : Formal) (s : Shape) (ss : List Shape) → slice_get fs m ≡ Some f
    → fit_formals (take (suc m) fs) (lowest_first (suc m) (s ∷ ss) [])
    ≡ (fit_formals (take m fs) (lowest_first m ss []) && fits_formal f s)
one_formal fs m f s ss e =
    ap (λ gs. fit_formals gs (lowest_first m ss (s ∷ [])))
    (take-suc fs m f (slice_get_within fs m f e) ∙ ap (λ g. take m fs ++ g ∷ []) (get_or_from_slice_get fs m f f e))
    ∙ ap (fit_formals (take m fs ++ f ∷ [])) (lowest_before m ss (s ∷ []))
    ∙ fits_last (take m fs) f (lowest_first m ss []) s

pub all_fit : (b t : Bool) → t ≡ true → (b && t) ≡ b
all_fit true t e = e
all_fit false t e = refl

-- ---- down the operands

-- operands that fit a formal, by formals that it covers
passes_all : (fs : List Formal) (f : Formal) (us ts : List Shape) (k : ℕ) → k ≤ length fs → length us ≤ k → AllFit f us
    → CoversAll f fs (k - length us) k
    → first_fit fs k (us ++ ts) ≡ first_fit fs (k - length us) ts
passes_all fs f [] ts k within l a c = let e : k ≡ k - 0 = omega arith in ap (λ n. first_fit fs n ts) e
passes_all fs f (u ∷ us) ts zero within l a c = absurd (omega (arith, l))
passes_all fs f (u ∷ us) ts (suc m) within l a c =
    let d = formal.Value 0 in
    let at = slice_get-get_or fs m d (omega (arith, within)) in
    let n : m - length us ≡ suc m - length (u ∷ us) = omega arith in
    one_formal fs m (get_or fs m d) u (us ++ ts) at
    ∙ all_fit (first_fit fs m (us ++ ts)) (fits_formal (get_or fs m d) u)
    (c m (get_or fs m d) (omega (arith, l)) (omega arith) at u a.0)
    ∙ passes_all fs f us ts m (omega (arith, within)) (omega (arith, l)) a.1
    (λ q g i j e. c q g (omega (arith, i)) (omega (arith, j)) e)
    ∙ ap (λ i. first_fit fs i ts) n

-- those that a jump passes
pub passes_jump : (st : Stacks) (fs : List Formal) (k n : ℕ) (j : Jump) (f : Formal) → k ≤ length fs
    → IsJump st (list_of st n) j → 0 < j.far → j.far ≤ k → j.fits ≡ Some f → CoversAll f fs (k - j.far) k
    → PassesTo st fs k n j
passes_jump st fs k n j f within i some far e c = record {
  some = some;
  within = far;
  held = i.held;
  same = ap (first_fit fs k) i.lands.whole
      ∙ passes_all fs f i.lands.before (list_of st j.to) k within (let many = i.lands.many in omega (arith, many, far))
      (i.fits f e) (subst (λ m. CoversAll f fs (k - m) k) (sym i.lands.many) c)
      ∙ ap (λ m. first_fit fs (k - m) (list_of st j.to)) i.lands.many;
}

-- one operand that fits, or does not
pub passes_one : (st : Stacks) (fs : List Formal) (k n below : ℕ) (g : Formal) (s : Shape) → 0 < k
    → slice_get fs (k - 1) ≡ Some g → list_of st n ≡ s ∷ list_of st below → IsListNumber st below
    → fits_formal g s ≡ true
    → PassesTo st fs k n (record { to = below; far = 1; fits = None })
passes_one st fs zero n below g s some at e held fit = absurd (omega (arith, some))
passes_one st fs (suc m) n below g s some at e held fit = record {
  some = omega arith;
  within = omega arith;
  held = held;
  same = let n : m ≡ suc m - 1 = omega arith in
      ap (first_fit fs (suc m)) e ∙ one_formal fs m g s (list_of st below) (ap (slice_get fs) n ∙ at)
      ∙ all_fit (first_fit fs m (list_of st below)) (fits_formal g s) fit
      ∙ ap (λ i. first_fit fs i (list_of st below)) n;
}

pub fits_not : (st : Stacks) (fs : List Formal) (k n below : ℕ) (g : Formal) (s : Shape) → 0 < k
    → slice_get fs (k - 1) ≡ Some g → list_of st n ≡ s ∷ list_of st below → fits_formal g s ≡ false
    → first_fit fs k (list_of st n) ≡ false
fits_not st fs zero n below g s some at e f = absurd (omega (arith, some))
fits_not st fs (suc m) n below g s some at e f = let i : m ≡ suc m - 1 = omega arith in
    ap (first_fit fs (suc m)) e ∙ one_formal fs m g s (list_of st below) (ap (slice_get fs) i ∙ at)
    ∙ ap (λ b. first_fit fs m (list_of st below) && b) f
    ∙ and_with_false (first_fit fs m (list_of st below))
