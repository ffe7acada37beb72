-- The single statements of a `send` or `receive` of several, without their numbers and places.
use Rattle.std.proofs.Common.{◌≡◌, ℕ, ◌+◌, List, [], ◌∷◌, map, refl, ap}
use Rattle.sp_base.specs.declared.place.Place.{Place}
use Rattle.sp_tree.specs.declared.checked.Expr.{Expr}
use Rattle.sp_tree.specs.declared.checked.Var.{Var}
use Rattle.sp_tree.specs.Plain.{And, Send, Receive}
use Rattle.sp_tree.specs.PlainOf.{expr_of, var_of, sends, receives}
use Rattle.sp_tree.specs.CheckedOf as placed
use Rattle.sp_tree.specs.Bare.{bare_statements}

pub sends_bare : (n : ℕ) (at : Place) (c : Expr) (es : List Expr)
    → bare_statements (placed.sends n at (placed.expression_of c) (map placed.expression_of es))
    ≡ sends (expr_of c) (map expr_of es)
sends_bare n at c [] = refl
sends_bare n at c (e ∷ es) = ap (And (Send (expr_of c) (expr_of e))) (sends_bare (n + 1) at c es)

pub receives_bare : (n : ℕ) (at : Place) (c : Expr) (vs : List Var)
    → bare_statements (placed.receives n at (placed.expression_of c) (map placed.variable_of vs))
    ≡ receives (expr_of c) (map var_of vs)
receives_bare n at c [] = refl
receives_bare n at c (v ∷ vs) = ap (And (Receive (expr_of c) (var_of v))) (receives_bare (n + 1) at c vs)
