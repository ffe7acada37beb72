-- Single statements on one channel have no lines; and the lines of a first part.
use Rattle.std.proofs.Common.{◌≡◌, ℕ, ◌+◌, List, [], ◌∷◌, refl}
use Rattle.sp_base.specs.declared.place.Place.{Place}
use Rattle.sp_tree.specs.CheckedOf.{sends, receives}
use Rattle.sp_tree.specs.PlainChecked.{Expression, Variable}
use Rattle.sp_varsets.specs.LineForks.{statements_lines}

pub no_sends : (n : ℕ) (at : Place) (c : Expression) (es : List Expression) → statements_lines (sends n at c es) ≡ []
no_sends n at c [] = refl
no_sends n at c (e ∷ es) = no_sends (n + 1) at c es

pub no_receives : (n : ℕ) (at : Place) (c : Expression) (vs : List Variable)
    → statements_lines (receives n at c vs) ≡ []
no_receives n at c [] = refl
no_receives n at c (v ∷ vs) = no_receives (n + 1) at c vs
