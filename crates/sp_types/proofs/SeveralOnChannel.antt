-- Several values, or variables, on one channel: the single statements that stand for them.
use Rattle.std.proofs.Common.{◌≡◌, ℕ, ◌+◌, List, [], ◌∷◌, length, map, refl, sym, ap, ◌∙◌, arith}
use Rattle.std.specs.Prelude.{◌≢◌}
use Rattle.sp_base.specs.declared.place.Place.{Place}
use Rattle.sp_tree.specs.declared.checked.Expr.{Expr}
use Rattle.sp_tree.specs.declared.checked.Var.{Var}
use Rattle.sp_tree.specs.declared.checked.Form as Form
use Rattle.sp_tree.specs.declared.checked.Form.TheVariants as form
use Rattle.sp_tree.specs.PlainChecked as c
use Rattle.sp_tree.specs.CheckedOf as checked
use Rattle.sp_types.specs.CheckedTree.{numbered_statements, expanded_form}

pub sends_are : (n : ℕ) (at : Place) (d : c.Expression) (es : List c.Expression)
    → checked.statements (numbered_statements n at (map (λ (e : c.Expression). c.Send d e) es))
    ≡ checked.sends n at d es
sends_are n at d [] = refl
sends_are n at d (e ∷ es) = ap (λ (z : c.Statements). c.AndThen (c.Does n at (c.Send d e)) z)
    (sends_are (n + 1) at d es)

pub receives_are : (n : ℕ) (at : Place) (d : c.Expression) (vs : List c.Variable)
    → checked.statements (numbered_statements n at (map (λ (v : c.Variable). c.Receive d v) vs))
    ≡ checked.receives n at d vs
receives_are n at d [] = refl
receives_are n at d (v ∷ vs) = ap (λ (z : c.Statements). c.AndThen (c.Does n at (c.Receive d v)) z)
    (receives_are (n + 1) at d vs)

-- forms are one sequence, unless one stands alone
pub several_of : {A : Type 0} (n : ℕ) (at : Place) (f : A → c.Form) (xs : List A) → length xs ≢ 1
    → expanded_form n at (map f xs) ≡ c.Sequence (checked.statements (numbered_statements n at (map f xs)))
several_of n at f [] h = refl
several_of n at f (x ∷ []) h = absurd (h refl)
several_of n at f (x ∷ y ∷ rest) h = refl

same_length : {A B : Type 0} (f : A → B) (xs : List A) → length xs ≢ 1 → length (map f xs) ≢ 1
same_length f [] h e = h e
same_length f (x ∷ []) h e = h e
same_length f (x ∷ y ∷ rest) h e = absurd (omega (arith, e))

-- values, all on one channel, as they stand in memory
pub each_sent : (n : ℕ) (at : Place) (channel : Expr) (values : List Expr) → length values ≢ 1
    → expanded_form n at (map (λ (e : c.Expression). c.Send (checked.expression_of channel) e)
    (map checked.expression_of values)) ≡ checked.statement_form_of (form.SendEach at n channel values)
each_sent n at channel values h =
    several_of n at (λ (e : c.Expression). c.Send (checked.expression_of channel) e)
    (map checked.expression_of values) (same_length checked.expression_of values h)
    ∙ ap c.Sequence (sends_are n at (checked.expression_of channel) (map checked.expression_of values))
    ∙ sym (send_each_is at n channel values)
  where
    send_each_is : (at : Place) (n : ℕ) (channel : Expr) (values : List Expr)
        → checked.statement_form_of (form.SendEach at n channel values)
        ≡ c.Sequence (checked.sends n at (checked.expression_of channel) (map checked.expression_of values))
    send_each_is at n channel values = search Form.the_lemmas

-- the same of variables
pub each_received : (n : ℕ) (at : Place) (channel : Expr) (variables : List Var) → length variables ≢ 1
    → expanded_form n at (map (λ (v : c.Variable). c.Receive (checked.expression_of channel) v)
    (map checked.variable_of variables)) ≡ checked.statement_form_of (form.ReceiveEach at n channel variables)
each_received n at channel variables h =
    several_of n at (λ (v : c.Variable). c.Receive (checked.expression_of channel) v)
    (map checked.variable_of variables) (same_length checked.variable_of variables h)
    ∙ ap c.Sequence (receives_are n at (checked.expression_of channel) (map checked.variable_of variables))
    ∙ sym (receive_each_is at n channel variables)
  where
    receive_each_is : (at : Place) (n : ℕ) (channel : Expr) (variables : List Var)
        → checked.statement_form_of (form.ReceiveEach at n channel variables)
        ≡ c.Sequence (checked.receives n at (checked.expression_of channel) (map checked.variable_of variables))
    receive_each_is at n channel variables = search Form.the_lemmas
