-- Programs run by their meaning alone.
use Rattle.std.proofs.Common.{◌≡◌, ℕ, false, [], ◌∷◌, Some, None, refl}
use Rattle.std.specs.Prelude.{pos, codes}
use Rattle.sp_tree.specs.declared.checked.KindOf.TheVariants as kind
use Rattle.sp_tree.specs.declared.checked.Role.{Role}
use Rattle.sp_tree.specs.declared.checked.Role.TheVariants as role
use Rattle.sp_tree.specs.declared.operators.BinaryOp.TheVariants as binary
use Rattle.sp_tree.specs.declared.operators.StandardFn.TheVariants as standard
use Rattle.sp_tree.specs.Plain.{Program, Variable, Expr, Typed, Number, Read, Binary, Apply, Standard, Var, Entire}
use Rattle.sp_tree.specs.Plain.{Whole, Index, Select, Nothing, Pass, ByValue, ByReference, Assign, Call, Sequence}
use Rattle.sp_tree.specs.Plain.{IfElse, For, Parallel, Forall, Assume, WriteValue, Open, Send, Receive, No, And}
use Rattle.sp_meaning.proofs.Faults.{of, ample, prints, console, read, child, num, root}

abbrev char : ℕ → Expr → Expr
char k e = Typed k (Standard standard.Chr e)

abbrev variable : ℕ → Variable
variable k = record { kind = k; block = 0; role = role.Local }

-- type t = *(integer); var c: t; x: integer; begin open(c); parallel send(c, 42) | receive(c, x) end; write(chr(x))
-- end.
abbrev passing : Program
passing = record {
  kinds = kind.Integer ∷ kind.Channel (0 ∷ []) ∷ kind.Char ∷ [];
  variables = console ∷ console ∷ variable 1 ∷ variable 0 ∷ [];
  blocks = record {
    parent = None;
    formals = [];
    answer = None;
    body =
        Sequence (And (Open (Entire 2 Whole))
        (And (Parallel (And (Send (read 1 2) (Typed 0 (Number (pos 42))))
        (And (Receive (read 1 2) (Entire 3 Whole)) No))) (And (WriteValue (char 2 (read 0 3)) None) No)));
  } ∷ [];
}

passed_on : prints (of passing ample) ([] ∷ [] ∷ child 0 ∷ child 1 ∷ child 0 ∷ child 1 ∷ [] ∷ [] ∷ []) ≡ codes "*"
passed_on = refl

-- function f(n: integer): integer; begin if n = 0 then f := 1 else f := n * f(n - 1) end; the program writes chr(f(5)),
-- 120 as a char
abbrev local_of : ℕ → Role → Variable
local_of b r = record { kind = 0; block = b; role = r }

abbrev factorial : Program
factorial = record {
  kinds = kind.Integer ∷ kind.Boolean ∷ kind.Char ∷ [];
  variables = console ∷ console ∷ local_of 1 role.Value ∷ local_of 1 role.Answer ∷ [];
  blocks =
      record {
        parent = None;
        formals = [];
        answer = None;
        body = WriteValue (char 2 (Typed 0 (Apply 1 (Pass (ByValue (num 5)) Nothing)))) None;
      }
      ∷ record {
        parent = Some 0;
        formals = 2 ∷ [];
        answer = Some 3;
        body =
            IfElse (Typed 1 (Binary binary.Eq (read 0 2) (num 0))) (Assign (Entire 3 Whole) (num 1))
            (Assign (Entire 3 Whole) (Typed 0
            (Binary binary.Mul (read 0 2)
            (Typed 0 (Apply 1 (Pass (ByValue (Typed 0 (Binary binary.Sub (read 0 2) (num 1)))) Nothing))))));
      } ∷ [];
}

factorial_runs : prints (of factorial ample) ([] ∷ [] ∷ []) ≡ codes "x"
factorial_runs = refl

-- procedure p(var y: integer); var i: integer; begin for i := 1 to 3 do y := y + i end;
-- begin a[2] := 10; p(a[2]); forall j := 1 to 2 do assume j > 0; write(chr(a[2] + 32)) end.
abbrev looping : Program
looping = record {
  kinds = kind.Integer ∷ kind.Array (pos 1) (pos 3) 0 0 ∷ kind.Char ∷ kind.Boolean ∷ [];
  variables = console ∷ console ∷ variable 1 ∷ local_of 1 role.Reference ∷ local_of 1 role.Local ∷ local_of 0 role.Index
      ∷ [];
  blocks =
      record {
        parent = None;
        formals = [];
        answer = None;
        body =
            Sequence (And (Assign second (num 10))
            (And (Call 1 (Pass (ByReference second) Nothing))
            (And (Forall 5 (num 1) (num 2) (Assume (Typed 3 (Binary binary.Gt (read 0 5) (num 0)))))
            (And (WriteValue (char 2 (Typed 0 (Binary binary.Add (Typed 0 (Read second)) (num 32)))) None) No))));
      }
      ∷ record {
        parent = Some 0;
        formals = 3 ∷ [];
        answer = None;
        body =
            For 4 (num 1) false (num 3) (Assign (Entire 3 Whole) (Typed 0 (Binary binary.Add (read 0 3) (read 0 4))));
      } ∷ [];
}
  where
    second : Var
    second = Entire 2 (Select (Index (num 2)) Whole)

-- a[2] is 10; the call; both limits; three turns of two steps; the return; the fork
looping_runs : prints (of looping ample) (root ∷ root ∷ root ∷ root ∷ root ∷ root ∷ root ∷ root ∷ root ∷ root ∷ root
    ∷ child 1 ∷ child 1 ∷ child 0 ∷ child 0 ∷ root ∷ root ∷ []) ≡ codes "0"
looping_runs = refl
