-- None of this belongs to what the program promises: it is for contracts between crates.
-- Operands against the first formals of a list.
use Rattle.std.specs.Prelude.{◌≡◌, ℕ, ◌-◌, ◌<◌, ◌≤◌, List, [], Option, Bool, false, length, take, MatchOption}
use Rattle.sp_code.specs.declared.code.Formal.{Formal}
use Rattle.sp_code.specs.declared.code.Layout.{Layout}
use Rattle.sp_verify_rules.specs.Areas.{on_option}
use Rattle.sp_verify_rules.specs.Shapes.{Shape}
use Rattle.sp_verify_rules.specs.Rules.{fit_formals, lowest_first}
use Rattle.sp_verify_shapes.specs.declared.stacks.Jump.{Jump}
use Rattle.sp_verify_shapes.specs.declared.stacks.Stacks.{Stacks}
use Rattle.sp_verify_shapes.specs.Stacks.{IsListNumber, list_of}

-- the topmost of these shapes fit the first k formals
abbrev pub first_fit : List Formal → ℕ → List Shape → Bool
first_fit fs k ss = fit_formals (take k fs) (lowest_first k ss [])

-- they fit all formals of a layout, if it is there
abbrev pub layout_fits : Option Layout → List Shape → Bool
layout_fits o ss = on_option false o (λ l. fit_formals l.formals (lowest_first (length l.formals) ss []))

-- behind a jump fewer formals are left, and all fit where they do
pub record PassesTo (st : Stacks) (fs : List Formal) (k n : ℕ) (j : Jump) : Type 0 where
  pub some : 0 < j.far
  pub within : j.far ≤ k
  pub held : IsListNumber st j.to
  pub same : first_fit fs k (list_of st n) ≡ first_fit fs (k - j.far) (list_of st j.to)

-- a jump is so; where there is none, they do not fit
abbrev pub Passes : Stacks → List Formal → ℕ → ℕ → Option Jump → Type 0
Passes st fs k n o = MatchOption o (first_fit fs k (list_of st n) ≡ false) (PassesTo st fs k n)
