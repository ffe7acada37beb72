-- Worked programs that keep the rules of interference, by computing, and some that break them.
use Rattle.std.proofs.Common.{inl, inr, ℕ, [], ◌∷◌, Some, None, refl}
use Rattle.std.specs.Prelude.{pos}
use Rattle.sp_tree.specs.declared.checked.KindOf.TheVariants as kind
use Rattle.sp_tree.specs.declared.checked.Role.{Role}
use Rattle.sp_tree.specs.declared.checked.Role.TheVariants as role
use Rattle.sp_tree.specs.declared.operators.BinaryOp.TheVariants as op
use Rattle.sp_tree.specs.Plain.{Expr, Typed, Number, Read, Binary, Apply, Var, Entire, Whole, Index, Select, ByValue}
use Rattle.sp_tree.specs.Plain.{ByReference, Actuals, Nothing, Pass, Program, Variable, Block, Stmt, Assign, Call}
use Rattle.sp_tree.specs.Plain.{Sequence, IfElse, Parallel, Forall, WriteValue, Open, Send, Receive, No, And}
use Rattle.sp_tree.specs.Interference.{KeepsI1, KeepsI2, KeepsI4, IsFreeOfInterference}
use Rattle.sp_tree.proofs.SetCertificates.{Claim, certified}

abbrev num : ℕ → Expr
num n = Typed 0 (Number (pos n))

abbrev var : ℕ → Var
var x = Entire x Whole

abbrev at : ℕ → Expr → Var
at x e = Entire x (Select (Index e) Whole)

abbrev get : ℕ → Expr
get x = Typed 0 (Read (var x))

abbrev get_at : ℕ → Expr → Expr
get_at x e = Typed 0 (Read (at x e))

abbrev plus : Expr → ℕ → Expr
plus a n = Typed 0 (Binary op.Add a (num n))

abbrev minus : Expr → ℕ → Expr
minus a n = Typed 0 (Binary op.Sub a (num n))

abbrev declared : ℕ → ℕ → Role → Variable
declared k b r = record { kind = k; block = b; role = r }

abbrev console : Variable
console = declared 0 0 role.Console

abbrev nothing : Claim
nothing = record { targets = []; seen = [] }

abbrev the_program : Stmt → Block
the_program s = record { parent = None; formals = []; answer = None; body = s }

-- two assignments to different variables
abbrev two : Program
two = record {
  kinds = kind.Integer ∷ [];
  variables = console ∷ console ∷ declared 0 0 role.Local ∷ declared 0 0 role.Local ∷ [];
  blocks = the_program (Parallel (And (Assign (var 2) (num 1)) (And (Assign (var 3) (num 2)) No))) ∷ [];
}

pub two_keeps : IsFreeOfInterference two
two_keeps = certified two [] refl

-- two variable parameters that a procedure sets in parallel, called with two variables
abbrev by_reference : ℕ → ℕ → Actuals
by_reference x y = Pass (ByReference (var x)) (Pass (ByReference (var y)) Nothing)

abbrev sets_both : Block
sets_both = record {
  parent = Some 0;
  formals = 4 ∷ 5 ∷ [];
  answer = None;
  body = Parallel (And (Assign (var 4) (num 1)) (And (Assign (var 5) (num 2)) No));
}

abbrev parameters : Program
parameters = record {
  kinds = kind.Integer ∷ [];
  variables = console ∷ console ∷ declared 0 0 role.Local ∷ declared 0 0 role.Local ∷ declared 0 1 role.Reference
      ∷ declared 0 1 role.Reference ∷ [];
  blocks = the_program (Sequence (And (Call 1 (by_reference 2 3))
      (And (WriteValue (get 2) None) (And (WriteValue (get 3) None) No)))) ∷ sets_both ∷ [];
}

pub parameters_keep : IsFreeOfInterference parameters
parameters_keep = certified parameters [] refl

-- with one variable for both parameters
pub one_for_both_refused : KeepsI4 parameters (by_reference 2 2) → ⊥
one_for_both_refused h = h.0 (inl refl)

-- a recursive function
abbrev factorial : Program
factorial = record {
  kinds = kind.Integer ∷ [];
  variables = console ∷ console ∷ declared 0 1 role.Value ∷ declared 0 1 role.Answer ∷ [];
  blocks = the_program (WriteValue (Typed 0 (Apply 1 (Pass (ByValue (num 5)) Nothing))) None)
      ∷ record {
        parent = Some 0;
        formals = 2 ∷ [];
        answer = Some 3;
        body = IfElse (Typed 0 (Binary op.Eq (get 2) (num 0))) (Assign (var 3) (num 1))
            (Assign (var 3) (Typed 0 (Binary op.Mul (get 2)
            (Typed 0 (Apply 1 (Pass (ByValue (minus (get 2) 1)) Nothing))))));
      } ∷ [];
}

pub factorial_keeps : IsFreeOfInterference factorial
factorial_keeps = certified factorial [] refl

-- a pipeline of nodes
abbrev node : Block
node = record {
  parent = Some 0;
  formals = 4 ∷ 5 ∷ [];
  answer = None;
  body = Sequence (And (Receive (get 4) (var 6)) (And (Send (get 5) (plus (get 6) 1)) No));
}

abbrev pipeline : Program
pipeline = record {
  kinds = kind.Integer ∷ kind.Channel (0 ∷ []) ∷ kind.Array (pos 0) (pos 3) 0 1 ∷ [];
  variables = console ∷ console ∷ declared 2 0 role.Local ∷ declared 0 0 role.Local ∷ declared 1 1 role.Value
      ∷ declared 1 1 role.Value ∷ declared 0 1 role.Local ∷ declared 0 0 role.Index ∷ [];
  blocks = the_program (Sequence (And (Open (at 2 (num 0)))
      (And (Open (at 2 (num 1))) (And (Open (at 2 (num 2))) (And (Open (at 2 (num 3)))
      (And (Parallel (And (Send (get_at 2 (num 0)) (num 10))
      (And (Forall 7 (num 1) (num 3) (Call 1
      (Pass (ByValue (get_at 2 (minus (get 7) 1))) (Pass (ByValue (get_at 2 (get 7))) Nothing))))
      (And (Receive (get_at 2 (num 3)) (var 3)) No))))
      (And (WriteValue (get 3) None) No))))))) ∷ node ∷ [];
}

pub pipeline_keeps : IsFreeOfInterference pipeline
pipeline_keeps = certified pipeline [] refl

-- a tree of processes: a recursive procedure that forks itself twice
abbrev tree : Program
tree = record {
  kinds = kind.Integer ∷ kind.Channel (0 ∷ []) ∷ [];
  variables = console ∷ console ∷ declared 1 0 role.Local ∷ declared 0 0 role.Local
      ∷ declared 0 1 role.Value ∷ declared 1 1 role.Value ∷ declared 1 1 role.Local ∷ declared 1 1 role.Local
      ∷ declared 0 1 role.Local ∷ declared 0 1 role.Local ∷ [];
  blocks = the_program (Sequence (And (Open (var 2))
      (And (Parallel (And (Call 1 (Pass (ByValue (num 4)) (Pass (ByValue (get 2)) Nothing)))
      (And (Receive (get 2) (var 3)) No))) (And (WriteValue (get 3) None) No))))
      ∷ record {
        parent = Some 0;
        formals = 4 ∷ 5 ∷ [];
        answer = None;
        body = IfElse (Typed 0 (Binary op.Eq (get 4) (num 0))) (Send (get 5) (num 1))
            (Sequence (And (Open (var 6)) (And (Open (var 7)) (And (Parallel
            (And (Call 1 (Pass (ByValue (minus (get 4) 1)) (Pass (ByValue (get 6)) Nothing)))
            (And (Call 1 (Pass (ByValue (minus (get 4) 1)) (Pass (ByValue (get 7)) Nothing)))
            (And (Sequence (And (Receive (get 6) (var 8))
            (And (Receive (get 7) (var 9)) (And (Send (get 5) (Typed 0 (Binary op.Add (get 8) (get 9)))) No))))
            No)))) No))));
      } ∷ [];
}

pub tree_keeps : IsFreeOfInterference tree
tree_keeps = certified tree [] refl

-- Programs that break a rule

-- a target of one process statement is an expression variable of another
pub seen_and_aimed_refused : KeepsI1 two (And (Assign (var 2) (num 1)) (And (Assign (var 3) (get 2)) No)) → ⊥
seen_and_aimed_refused h = h.0 2 ([], inl (inl refl)) (inr ([], inl (inr (inl refl))))

-- both write the output
pub both_write_refused : KeepsI1 two (And (WriteValue (num 1) None) (And (WriteValue (num 2) None) No)) → ⊥
both_write_refused h = h.0 1 ([], inl refl) (inl ([], inl (inl refl)))

-- a component counts as its entire variable
pub components_refused : KeepsI1 pipeline (And (Assign (at 2 (num 1)) (num 1)) (And (Assign (at 2 (num 2)) (num 2)) No))
    → ⊥
components_refused h = h.0 2 ([], inl (inl refl)) (inl ([], inl (inl (inl refl))))

-- an element statement with a target
pub element_target_refused : KeepsI2 pipeline (Assign (var 3) (get 7)) → ⊥
element_target_refused h = h 3 ([], inl (inl refl))
