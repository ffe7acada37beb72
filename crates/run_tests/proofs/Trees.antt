-- The programs of the rows, as trees of their texts. Above each stands its text, by whose columns the places are.
use Rattle.std.specs.Prelude.{ℕ, ◌+◌, List, [], ◌∷◌, None, Some, false, codes}
use Rattle.sp_base.specs.declared.place.Place.{Place}
use Rattle.sp_tree.specs.declared.operators.BinaryOp.TheVariants as binary
use Rattle.sp_tree.specs.declared.operators.UnaryOp.TheVariants as unary
use Rattle.sp_tree.specs.declared.syntax.Name.{Name}
use Rattle.sp_tree.specs.declared.syntax.SynConst.{SynConst}
use Rattle.sp_tree.specs.declared.syntax.SynKind.TheVariants as kinds
use Rattle.sp_tree.specs.declared.syntax.SynValue.TheVariants as value
use Rattle.sp_tree.specs.PlainSyntax.{Expression, ExpressionAt, ExpressionForm, Number, Quoted, Read, Apply, Unary}
use Rattle.sp_tree.specs.PlainSyntax.{Binary, Variable, Entire, Index, Whole, Select, Argument, Pass, NoWidth}
use Rattle.sp_tree.specs.PlainSyntax.{WithWidth}
use Rattle.sp_tree.specs.PlainSyntax.{Statement, Does, Form, Empty, Assign, Call, Sequence, While, Parallel, Forall}
use Rattle.sp_tree.specs.PlainSyntax.{Part}
use Rattle.sp_tree.specs.PlainSyntax.{Kind, Var, Proc, NoPart, Program}
use Rattle.sp_tree.specs.SyntaxOf.{arguments, branches, parts, statements}

-- on the first line
abbrev at : ℕ → Place
at column = record { line = 1; column = column }

abbrev name : List ℕ → ℕ → Name
name text column = record { text = text; at = at column }

abbrev integer : ℕ → Name
integer column = name (codes "integer") column

abbrev number : ℕ → ℕ → SynConst
number n column = record { at = at column; negative = None; value = value.Number n }

abbrev expression : ℕ → ExpressionForm → Expression
expression column form = ExpressionAt (at column) form

abbrev whole : List ℕ → ℕ → Variable
whole text column = Entire (name text column) Whole

abbrev read : List ℕ → ℕ → Expression
read text column = expression column (Read (whole text column))

abbrev num : ℕ → ℕ → Expression
num n column = expression column (Number n)

-- an argument without a width
abbrev given : Expression → Argument
given e = Pass e NoWidth

abbrev does : ℕ → Form → Statement
does column form = Does (at column) form

abbrev assign : List ℕ → ℕ → Expression → Statement
assign text column e = does column (Assign (whole text column) e)

abbrev call : List ℕ → ℕ → List Argument → Statement
call text column args = does column (Call (name text column) (arguments args))

-- program NAME; DECLARATIONS begin STATEMENTS end.
abbrev program : List ℕ → List Part → ℕ → List Statement → Program
program text declared column ss = record {
  name = name text 9;
  heading = [];
  block = record { parts = parts declared; body = does column (Sequence (statements ss)) };
}

-- program a; var x: integer; begin x := 6; write(x * 7) end.
abbrev pub product : Program
product = program (codes "a") (Var (name (codes "x") 16 ∷ []) (integer 19) ∷ []) 28
    (assign (codes "x") 34 (num 6 39)
    ∷ call (codes "write") 42
    (given (expression 48 (Binary binary.Mul (read (codes "x") 48) (num 7 52))) ∷ []) ∷ [])

-- program f; var x, y: integer; begin x := y end.
abbrev pub undefined : Program
undefined = program (codes "f") (Var (name (codes "x") 16 ∷ name (codes "y") 19 ∷ []) (integer 22) ∷ []) 31
    (assign (codes "x") 37 (read (codes "y") 42) ∷ [])

-- program f; type row = array [1..3] of integer; var a: row; x: integer; begin x := a[4] end.
abbrev pub outside : Program
outside = program (codes "f")
    (Kind (name (codes "row") 17) (kinds.Array (number 1 30) (number 3 33) (integer 39))
    ∷ Var (name (codes "a") 52 ∷ []) (name (codes "row") 55) ∷ Var (name (codes "x") 60 ∷ []) (integer 63) ∷ []) 72
    (assign (codes "x") 78
    (expression 83 (Read (Entire (name (codes "a") 83) (Select (Index (num 4 85)) Whole)))) ∷ [])

-- program f; var x: integer; begin x := 1 div 0 end.
abbrev pub by_zero : Program
by_zero = program (codes "f") (Var (name (codes "x") 16 ∷ []) (integer 19) ∷ []) 28
    (assign (codes "x") 34 (expression 39 (Binary binary.Div (num 1 39) (num 0 45))) ∷ [])

-- program f; begin write('a': WIDTH) end.
abbrev writes_wide : Expression → Program
writes_wide width = program (codes "f") [] 12
    (call (codes "write") 18 (Pass (expression 24 (Quoted (codes "a"))) (WithWidth width) ∷ []) ∷ [])

-- program f; begin write('a': 0) end.
abbrev pub no_width : Program
no_width = writes_wide (num 0 29)

-- program f; begin write('a': maxint) end.
abbrev pub widest : Program
widest = writes_wide (read (codes "maxint") 29)

-- program f; begin forall i := -maxint to maxint do end.
abbrev pub too_many : Program
too_many = program (codes "f") [] 12
    (does 18 (Forall (name (codes "i") 25) (expression 30 (Unary unary.Minus (read (codes "maxint") 31)))
    (read (codes "maxint") 41) (does 51 Empty)) ∷ [])

-- program f; begin while true do end.
abbrev pub endless : Program
endless = program (codes "f") [] 12 (does 18 (While (read (codes "true") 24) (does 32 Empty)) ∷ [])

-- program d; var x: integer; function f(n: integer): integer; begin f := f(n) end; begin x := f(1) end.
abbrev pub calls_itself : Program
calls_itself = program (codes "d")
    (Var (name (codes "x") 16 ∷ []) (integer 19)
    ∷ Proc (name (codes "f") 37)
    (record { by_reference = false; names = name (codes "n") 39 ∷ []; kind = integer 42 } ∷ [])
    (Some (integer 52)) NoPart
    (does 61 (Sequence (statements (assign (codes "f") 67 (apply 72 (read (codes "n") 74)) ∷ [])))) ∷ []) 82
    (assign (codes "x") 88 (apply 93 (num 1 95)) ∷ [])
  where
    apply : ℕ → Expression → Expression
    apply column e = expression column (Apply (name (codes "f") column) (arguments (given e ∷ [])))

-- type ch = *(integer); var c: ch; and more
abbrev with_channel : List Part → List Part
with_channel more = Kind (name (codes "ch") 17) (kinds.Channel (integer 24 ∷ []))
    ∷ Var (name (codes "c") 38 ∷ []) (name (codes "ch") 41) ∷ more

-- x, y: integer;
abbrev two_integers : List Part
two_integers = Var (name (codes "x") 45 ∷ name (codes "y") 48 ∷ []) (integer 51) ∷ []

abbrev opens : ℕ → Statement
opens column = call (codes "open") column (given (read (codes "c") (column + 5)) ∷ [])

abbrev sends : ℕ → ℕ → Statement
sends n column = call (codes "send") column (given (read (codes "c") (column + 5)) ∷ given (num n (column + 8)) ∷ [])

abbrev receives : List ℕ → ℕ → Statement
receives text column =
    call (codes "receive") column (given (read (codes "c") (column + 8)) ∷ given (read text (column + 11)) ∷ [])

abbrev writes : List ℕ → ℕ → Statement
writes text column = call (codes "write") column (given (read text (column + 6)) ∷ [])

-- program s; type ch = *(integer); var c: ch; x, y: integer; begin open(c); parallel send(c, 1) | send(c, 2) | begin
-- receive(c, x); receive(c, y) end end; write(x); write(y) end.
abbrev pub two_sends : Program
two_sends = program (codes "s") (with_channel two_integers) 60
    (opens 66
    ∷ does 75 (Parallel (branches (
    statements (sends 1 84 ∷ []) ∷ statements (sends 2 97 ∷ [])
    ∷ statements (does 110 (Sequence (statements (receives (codes "x") 116 ∷ receives (codes "y") 131 ∷ []))) ∷ [])
    ∷ [])))
    ∷ writes (codes "x") 154 ∷ writes (codes "y") 164 ∷ [])

-- program r; type ch = *(integer); var c: ch; x: integer; begin open(c); receive(c, x) end.
abbrev pub receives_alone : Program
receives_alone = program (codes "r") (with_channel (Var (name (codes "x") 45 ∷ []) (integer 48) ∷ [])) 57
    (opens 63 ∷ receives (codes "x") 72 ∷ [])

-- program j; type ch = *(integer); var c: ch; x, y: integer; begin open(c); parallel send(c, 1) | receive(c, x) end;
-- parallel send(c, 2) | receive(c, y) end end.
abbrev pub joins : Program
joins = program (codes "j") (with_channel two_integers) 60
    (opens 66
    ∷ does 75 (Parallel (branches (
    statements (sends 1 84 ∷ []) ∷ statements (receives (codes "x") 97 ∷ []) ∷ [])))
    ∷ does 116 (Parallel (branches (
    statements (sends 2 125 ∷ []) ∷ statements (receives (codes "y") 138 ∷ []) ∷ []))) ∷ [])

-- program n; type ch = *(integer); var c: ch; begin forall i := 1 to 0 do; open(c) end.
abbrev pub forks_nobody : Program
forks_nobody = program (codes "n") (with_channel []) 45
    (does 51 (Forall (name (codes "i") 58) (num 1 63) (num 0 68) (does 72 Empty)) ∷ opens 74 ∷ [])
