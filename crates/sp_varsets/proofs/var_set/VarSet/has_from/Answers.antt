use Rattle.std.proofs.Common.{◌≡◌, ◌≤◌, ◌<◌, ◌^◌, true, false, ℕ, arith, refl, inl, inr}
use Rattle.std.proofs.lemmas.Bool.{cases_lt}
use Rattle.sp_varsets.specs.declared.var_set.VarSet.{VarSet}
use Rattle.sp_varsets.specs.Members.{has}
use Rattle.sp_varsets.proofs.var_set.VarSet.has_from.Goals as goal

pub returns-in-Some : goal.returns-in-Some
returns-in-Some c = (λ h. (c.in-Some.field-0, c.in-Some.ensures.0, c.in-Some.ensures.1), λ h. refl)

either : (s : VarSet) (from x : ℕ) → ((x : ℕ) → from ≤ x → x < 2 ^ 32 → has s x ≡ false) → from ≤ x → has s x ≡ true
    → 2 ^ 32 ≤ x
either s from x none low m = elim (cases_lt x (2 ^ 32))
    [ inl h ↦ absurd (let n = none x low h in cc (m, n)) | inr h ↦ h ]

pub returns-in-None : goal.returns-in-None
returns-in-None c = (
  λ h. let y = c.has_past.ensures.0 h in let low : 2 ^ 32 ≤ y.0 = y.1 in (y.0, omega arith, y.2),
  λ (x, low, m). c.has_past.ensures.1 (x, either c.args.self.now c.args.from x c.in-None.ensures low m, m),
)
