-- The code of the first of several parts, and of the rest.
use Rattle.std.proofs.Common.{◌≡◌, ℕ, List, [], ◌∷◌, ◌++◌, true, false, true≢false, refl, sym, ap, ◌∙◌, append_assoc}
use Rattle.std.proofs.Common.{append-nil}
use Rattle.sp_tree.specs.PlainChecked as c
use Rattle.sp_tree.specs.Plain.{Program, ExprForm}
use Rattle.sp_tree.specs.Bare.{bare_expression, bare_variable, bare_selectors, bare_actuals}
use Rattle.sp_tree.specs.Around.{Scope}
use Rattle.sp_code.specs.declared.instr.Instr.{Instr}
use Rattle.sp_code.specs.Scopes.{Sort, Ordinals, Channels, Many, NoSort, kind_at, size, element_type, selected_type}
use Rattle.sp_code.specs.TreeCode.{value_code, form_code, right_code, var_code, index_instr, selectors_code}
use Rattle.sp_code.specs.TreeCode.{actuals_code}
use Rattle.sp_generate.specs.Sorts.{is_many}

pub select_type : (p : Program) (k : ℕ) (s : c.Selector) (rest : c.Selectors)
    → selected_type p (selected_type p k (bare_selectors (c.Select s c.Whole))) (bare_selectors rest)
    ≡ selected_type p k (bare_selectors (c.Select s rest))
select_type p k (c.Index e) rest = refl
select_type p k (c.Field f) rest = refl

-- behind what stands there
behind : (base a b whole : List Instr) → a ++ b ≡ whole → (base ++ a) ++ b ≡ base ++ whole
behind base a b whole e = append_assoc base a b ∙ ap (λ (xs : List Instr). base ++ xs) e

pub select_code : (p : Program) (sc : List Scope) (base : List Instr) (k : ℕ) (s : c.Selector) (rest : c.Selectors)
    → (base ++ selectors_code p sc k (bare_selectors (c.Select s c.Whole)))
    ++ selectors_code p sc (selected_type p k (bare_selectors (c.Select s c.Whole))) (bare_selectors rest) ≡ base
    ++ selectors_code p sc k (bare_selectors (c.Select s rest))
select_code p sc base k (c.Index e) rest = behind base _ _ _
    (append_assoc (value_code p sc (bare_expression e))
    (index_instr (kind_at p k) (size p (element_type k (kind_at p k))) ∷ []) _)
select_code p sc base k (c.Field f) rest = behind base _ _ _ refl

pub pass_code : (p : Program) (sc : List Scope) (base : List Instr) (a : c.Actual) (rest : c.Actuals)
    → (base ++ actuals_code p sc (bare_actuals (c.Pass a c.Nothing))) ++ actuals_code p sc (bare_actuals rest) ≡ base
    ++ actuals_code p sc (bare_actuals (c.Pass a rest))
pass_code p sc base (c.ByValue e) rest = behind base _ _ _
    (ap (λ (xs : List Instr). xs ++ actuals_code p sc (bare_actuals rest))
    (append-nil (value_code p sc (bare_expression e))))
pass_code p sc base (c.ByReference v) rest =
    behind base _ _ _ (ap (λ (xs : List Instr). xs ++ actuals_code p sc (bare_actuals rest))
    (append-nil (var_code p sc (bare_variable v))))

-- the right side of an assignment, of one cell and of many
pub one_cell : (p : Program) (sc : List Scope) (base : List Instr) (k : ℕ) (z : Sort) (form : ExprForm)
    → is_many z ≡ false → base ++ form_code p sc k form ≡ base ++ right_code p sc k z form
one_cell p sc base k Ordinals form e = refl
one_cell p sc base k Channels form e = refl
one_cell p sc base k Many form e = absurd (true≢false e)
one_cell p sc base k NoSort form e = refl

pub many_cells : (p : Program) (sc : List Scope) (base : List Instr) (k : ℕ) (z : Sort) (form : ExprForm)
    → is_many z ≡ true → base ++ right_code p sc k Many form ≡ base ++ right_code p sc k z form
many_cells p sc base k Ordinals form e = absurd (true≢false (sym e))
many_cells p sc base k Channels form e = absurd (true≢false (sym e))
many_cells p sc base k Many form e = refl
many_cells p sc base k NoSort form e = absurd (true≢false (sym e))
