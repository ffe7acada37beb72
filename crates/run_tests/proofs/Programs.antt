-- The programs of the rows, as the meaning takes them. Above each stands its text; `Trees` has the tree of the text.
use Rattle.std.specs.Prelude.{ℕ, pos, List, [], ◌∷◌, None, Some}
use Rattle.sp_tree.specs.declared.checked.KindOf.{KindOf}
use Rattle.sp_tree.specs.declared.checked.KindOf.TheVariants as kind
use Rattle.sp_tree.specs.declared.checked.Role.{Role}
use Rattle.sp_tree.specs.declared.checked.Role.TheVariants as role
use Rattle.sp_tree.specs.declared.operators.BinaryOp.TheVariants as binary
use Rattle.sp_tree.specs.declared.operators.UnaryOp.TheVariants as unary
use Rattle.sp_tree.specs.Plain.{Program, Block, Variable, Expr, Typed, Number, Read, Unary, Binary, Apply, Var, Entire}
use Rattle.sp_tree.specs.Plain.{Index}
use Rattle.sp_tree.specs.Plain.{Whole, Select, Nothing, Pass, ByValue, Stmt, Empty, Assign, Sequence, While, Parallel}
use Rattle.sp_tree.specs.Plain.{Forall, WriteValue, Open, Send, Receive, No, And}
use Rattle.sp_tree.specs.PlainOf.{stmts}

abbrev variable : ℕ → ℕ → Role → Variable
variable kind block role = record { kind = kind; block = block; role = role }

abbrev local : ℕ → Variable
local kind = variable kind 0 role.Local

abbrev pub whole : ℕ → Var
whole x = Entire x Whole

abbrev pub read : ℕ → ℕ → Expr
read kind x = Typed kind (Read (whole x))

abbrev pub num : ℕ → Expr
num n = Typed 0 (Number (pos n))

-- a process statement
abbrev branch : List Stmt → Stmt
branch ss = Sequence (stmts ss)

-- these types behind the three standard ones, these variables behind both consoles, and these statements
abbrev program : List KindOf → List Variable → List Stmt → Program
program more variables ss = record {
  kinds = kind.Integer ∷ kind.Boolean ∷ kind.Char ∷ more;
  variables = variable 2 0 role.Console ∷ variable 2 0 role.Console ∷ variables;
  blocks = record { parent = None; formals = []; answer = None; body = Sequence (stmts ss) } ∷ [];
}

-- program a; var x: integer; begin x := 6; write(x * 7) end.
abbrev pub product : Program
product = program [] (local 0 ∷ [])
    (Assign (whole 2) (num 6) ∷ WriteValue (Typed 0 (Binary binary.Mul (read 0 2) (num 7))) None ∷ [])

-- program f; var x, y: integer; begin x := y end.
abbrev pub undefined : Program
undefined = program [] (local 0 ∷ local 0 ∷ []) (Assign (whole 2) (read 0 3) ∷ [])

-- program f; type row = array [1..3] of integer; var a: row; x: integer; begin x := a[4] end.
abbrev pub outside : Program
outside = program (kind.Array (pos 1) (pos 3) 0 0 ∷ []) (local 3 ∷ local 0 ∷ [])
    (Assign (whole 3) (Typed 0 (Read (Entire 2 (Select (Index (num 4)) Whole)))) ∷ [])

-- program f; var x: integer; begin x := 1 div 0 end.
abbrev pub by_zero : Program
by_zero = program [] (local 0 ∷ []) (Assign (whole 2) (Typed 0 (Binary binary.Div (num 1) (num 0))) ∷ [])

-- program f; begin write('a': WIDTH) end.
abbrev pub writes_wide : ℕ → Program
writes_wide n = program [] [] (WriteValue (Typed 2 (Number (pos 97))) (Some (num n)) ∷ [])

-- -maxint
abbrev pub least : Expr
least = Typed 0 (Unary unary.Minus (num 9223372036854775807))

-- program f; begin forall i := FROM to TO do end.
abbrev pub forks : Expr → ℕ → Program
forks from n = program [] (variable 0 0 role.Index ∷ []) (Forall 2 from (num n) Empty ∷ [])

-- program f; begin while true do end.
abbrev pub endless : Program
endless = program [] [] (While (Typed 1 (Number (pos 1))) Empty ∷ [])

-- type ch = *(integer)
abbrev channel : KindOf
channel = kind.Channel (0 ∷ [])

abbrev c : Expr
c = read 3 2

abbrev opens : Stmt
opens = Open (whole 2)

-- program s; type ch = *(integer); var c: ch; x, y: integer; begin open(c); parallel send(c, 1) | send(c, 2) | begin
-- receive(c, x); receive(c, y) end end; write(x); write(y) end.
abbrev pub two_sends : Program
two_sends = program (channel ∷ []) (local 3 ∷ local 0 ∷ local 0 ∷ [])
    (opens
    ∷ Parallel (stmts (branch (Send c (num 1) ∷ []) ∷ branch (Send c (num 2) ∷ [])
    ∷ branch (Sequence (stmts (Receive c (whole 3) ∷ Receive c (whole 4) ∷ [])) ∷ []) ∷ []))
    ∷ WriteValue (read 0 3) None ∷ WriteValue (read 0 4) None ∷ [])

-- program r; type ch = *(integer); var c: ch; x: integer; begin open(c); receive(c, x) end.
abbrev pub receives_alone : Program
receives_alone = program (channel ∷ []) (local 3 ∷ local 0 ∷ []) (opens ∷ Receive c (whole 3) ∷ [])

-- program j; type ch = *(integer); var c: ch; x, y: integer; begin open(c); parallel send(c, 1) | receive(c, x) end;
-- parallel send(c, 2) | receive(c, y) end end.
abbrev pub joins : Program
joins = program (channel ∷ []) (local 3 ∷ local 0 ∷ local 0 ∷ [])
    (opens ∷ Parallel (stmts (branch (Send c (num 1) ∷ []) ∷ branch (Receive c (whole 3) ∷ []) ∷ []))
    ∷ Parallel (stmts (branch (Send c (num 2) ∷ []) ∷ branch (Receive c (whole 4) ∷ []) ∷ [])) ∷ [])

-- program n; type ch = *(integer); var c: ch; begin forall i := 1 to 0 do; open(c) end.
abbrev pub forks_nobody : Program
forks_nobody = program (channel ∷ []) (local 3 ∷ variable 0 0 role.Index ∷ [])
    (Forall 3 (num 1) (num 0) Empty ∷ opens ∷ [])

-- f(e)
abbrev pub calls : Expr → Expr
calls e = Typed 0 (Apply 1 (Pass (ByValue e) Nothing))

-- function f(n: integer): integer; begin f := f(n) end;
abbrev pub itself : Block
itself = record {
  parent = Some 0;
  formals = 3 ∷ [];
  answer = Some 4;
  body = Sequence (And (Assign (whole 4) (calls (read 0 3))) No);
}

-- program d; var x: integer; function f(n: integer): integer; begin f := f(n) end; begin x := f(1) end.
abbrev pub calls_itself : Program
calls_itself = record {
  kinds = kind.Integer ∷ kind.Boolean ∷ kind.Char ∷ [];
  variables = variable 2 0 role.Console ∷ variable 2 0 role.Console ∷ local 0 ∷ variable 0 1 role.Value
      ∷ variable 0 1 role.Answer ∷ [];
  blocks = record {
    parent = None;
    formals = [];
    answer = None;
    body = Sequence (And (Assign (whole 2) (calls (num 1))) No);
  } ∷ itself ∷ [];
}
