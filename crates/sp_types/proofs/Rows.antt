-- Worked rows of the rules of types, by computing: for each rule a statement or declaration that breaks it, with the
-- place, and beside it the nearest one that does not.
use Rattle.std.proofs.Common.{◌≡◌, ℕ, List, [], ◌∷◌, ◌++◌, Option, Some, None, true, false, refl}
use Rattle.std.specs.Prelude.{codes}
use Rattle.sp_base.specs.declared.place.Place.{Place}
use Rattle.sp_base.specs.declared.rule.Rule.TheVariants as rule
use Rattle.sp_tree.specs.declared.checked.Role.{Role}
use Rattle.sp_tree.specs.declared.checked.Role.TheVariants as role
use Rattle.sp_tree.specs.declared.checked.Variable as checked
use Rattle.sp_tree.specs.declared.operators.UnaryOp.TheVariants as unary
use Rattle.sp_tree.specs.declared.operators.BinaryOp.{BinaryOp}
use Rattle.sp_tree.specs.declared.operators.BinaryOp.TheVariants as binary
use Rattle.sp_tree.specs.declared.operators.StandardFn.{StandardFn}
use Rattle.sp_tree.specs.declared.operators.StandardFn.TheVariants as fn
use Rattle.sp_tree.specs.declared.meaning.StandardProcedure.{StandardProcedure}
use Rattle.sp_tree.specs.declared.meaning.StandardProcedure.TheVariants as procedure
use Rattle.sp_tree.specs.declared.named.NamedConstant.{NamedConstant}
use Rattle.sp_tree.specs.declared.named.NamedConstant.TheVariants as constant
use Rattle.sp_tree.specs.declared.named.NamedConst.{NamedConst}
use Rattle.sp_tree.specs.declared.named.NamedValue.{NamedValue}
use Rattle.sp_tree.specs.declared.named.NamedValue.TheVariants as given
use Rattle.sp_tree.specs.declared.named.NamedKind.{NamedKind}
use Rattle.sp_tree.specs.declared.named.NamedKindForm.{NamedKindForm}
use Rattle.sp_tree.specs.declared.named.NamedKindForm.TheVariants as form
use Rattle.sp_tree.specs.declared.named.NamedAnswer.{NamedAnswer}
use Rattle.sp_tree.specs.PhaseResults.{FirstRefusal, refusal_at}
use Rattle.sp_tree.specs.NamedTree.{standard_constants, standard_kinds, consoles}
use Rattle.sp_tree.specs.NamedOf.{arguments, selectors, statements, arms}
use Rattle.sp_tree.specs.PlainNamed.{Expression, ExpressionAt, Number, Quoted, Constant, Read, Standard, Unary, Binary}
use Rattle.sp_tree.specs.PlainNamed.{Variable}
use Rattle.sp_tree.specs.PlainNamed.{Entire, Selector, Index, Field, Argument, Pass, NoWidth, WithWidth, Statement}
use Rattle.sp_tree.specs.PlainNamed.{Does}
use Rattle.sp_tree.specs.PlainNamed.{Form, Empty, Assign, Call, Perform, Sequence, If, While, Repeat, Case, For, Forall}
use Rattle.sp_tree.specs.PlainNamed.{Assume, NoElse, Arm, On, Block, Program}
use Rattle.sp_types.specs.TypeFirst.{types_first}

-- a place of the first line
abbrev pub col : ℕ → Place
col n = record { line = 1; column = n }

abbrev pub given_const : ℕ → NamedValue → NamedConst
given_const n v = record { at = col n; negative = None; value = v }

abbrev pub minus_const : ℕ → NamedValue → NamedConst
minus_const n v = record { at = col n; negative = Some true; value = v }

abbrev pub type_at : ℕ → NamedKindForm → NamedKind
type_at n f = record { at = col n; form = f }

abbrev pub variable : ℕ → ℕ → Role → checked.Variable
variable k b r = record { name = codes "x"; kind = k; block = b; role = r; at = col 30 }

-- type colour = (red, green); row = array [1..3] of integer; pair = record a: integer; b: char end; line = *(integer);
-- other = (blue); t = colour; stream = *(char)
abbrev pub types : List NamedKind
types =
    type_at 11 (form.Enumeration 2) ∷ type_at 12
    (form.Array (given_const 1 (given.Number 1)) (given_const 2 (given.Number 3)) 0) ∷
    type_at 13 (form.Fields ((codes "a", 0) ∷ (codes "b", 2) ∷ [])) ∷ type_at 14 (form.Channel (0 ∷ []))
    ∷ type_at 15 (form.Enumeration 1) ∷
    type_at 16 (form.Alias 3) ∷ type_at 17 (form.Channel (2 ∷ [])) ∷ []

-- red, green, blue
abbrev pub constants : List NamedConstant
constants = constant.Enumerated 3 0 ∷ constant.Enumerated 3 1 ∷ constant.Enumerated 7 0 ∷ []

-- i: integer; b: boolean; k: colour; v: row; r: pair; c: line; t: t; d: other; s: stream; ch: char; a forall's index;
-- p's x: integer and var y: colour; f's result: integer
abbrev pub variables : List checked.Variable
variables =
    variable 0 0 role.Local ∷ variable 1 0 role.Local ∷ variable 3 0 role.Local ∷ variable 4 0 role.Local
    ∷ variable 5 0 role.Local ∷
    variable 6 0 role.Local ∷ variable 8 0 role.Local ∷ variable 7 0 role.Local ∷ variable 9 0 role.Local
    ∷ variable 2 0 role.Local ∷
    variable 0 0 role.Index ∷ variable 0 1 role.Value ∷ variable 3 1 role.Reference ∷ variable 0 2 role.Answer ∷ []

-- a statement at column 3, whose parts have places of their own
abbrev pub does : Form → Statement
does f = Does (col 3) f

abbrev pub block : Option ℕ → List ℕ → Option NamedAnswer → Statement → Block
block parent formals answer body = record {
  name = codes "p";
  parent = parent;
  formals = formals;
  answer = answer;
  body = body;
  at = col 20;
}

-- a program with this statement, a procedure p(x: integer; var y: colour), block 1, and a function f: integer, block 2
abbrev pub with_statement : Form → Program
with_statement f = record {
  constants = standard_constants (col 9) ++ constants;
  kinds = standard_kinds (col 9) ++ types;
  variables = consoles (col 9) ++ variables;
  blocks =
      block None [] None (does f) ∷ block (Some 0) (13 ∷ 14 ∷ []) None (does Empty) ∷
      block (Some 0) [] (Some (record { variable = 15; at = col 25 })) (does Empty) ∷ [];
}

-- the first broken rule of the statement
abbrev pub first : Form → FirstRefusal
first f = types_first (with_statement f)

-- expressions at a column
abbrev pub num : ℕ → ℕ → Expression
num at n = ExpressionAt (col at) (Number n)

abbrev pub constant_at : ℕ → ℕ → Expression
constant_at at k = ExpressionAt (col at) (Constant k)

abbrev pub text : ℕ → List ℕ → Expression
text at t = ExpressionAt (col at) (Quoted t)

abbrev pub var : ℕ → ℕ → Variable
var at x = Entire x (col at) (selectors [])

abbrev pub get : ℕ → ℕ → Expression
get at x = ExpressionAt (col at) (Read (var at x))

abbrev pub select : ℕ → ℕ → List Selector → Variable
select at x ss = Entire x (col at) (selectors ss)

abbrev pub get_from : ℕ → ℕ → List Selector → Expression
get_from at x ss = ExpressionAt (col at) (Read (select at x ss))

abbrev pub op : BinaryOp → Expression → ℕ → Expression → Expression
op o a at b = ExpressionAt (col at) (Binary o a b)

abbrev pub standard : ℕ → StandardFn → List Argument → Expression
standard at f args = ExpressionAt (col at) (Standard f (arguments args))

abbrev pub pass : Expression → Argument
pass e = Pass e NoWidth

abbrev pub perform : StandardProcedure → List Argument → Form
perform p args = Perform p (arguments args)

-- b := E
abbrev pub sets : Expression → Form
sets e = Assign (var 4 3) e

-- i := E
abbrev pub counts : Expression → Form
counts e = Assign (var 4 2) e

-- the variables
abbrev i : ℕ
i = 2

abbrev b : ℕ
b = 3

abbrev k : ℕ
k = 4

abbrev v : ℕ
v = 5

abbrev r : ℕ
r = 6

abbrev c : ℕ
c = 7

abbrev t : ℕ
t = 8

abbrev d : ℕ
d = 9

abbrev s : ℕ
s = 10

abbrev ch : ℕ
ch = 11

abbrev index : ℕ
index = 12

-- Y1. i := i + b, at b; i := i + i
y1_right : first (counts (op binary.Add (get 9 i) 9 (get 13 b))) ≡ refusal_at rule.Y1 (col 13)
y1_right = refl

y1_kept : first (counts (op binary.Add (get 9 i) 9 (get 13 i))) ≡ None
y1_kept = refl

-- i := b + i, at b
y1_left : first (counts (op binary.Add (get 9 b) 9 (get 13 i))) ≡ refusal_at rule.Y1 (col 9)
y1_left = refl

-- b := not i; b := not b
y1_not : first (sets (ExpressionAt (col 9) (Unary unary.Not (get 13 i)))) ≡ refusal_at rule.Y1 (col 13)
y1_not = refl

y1_not_kept : first (sets (ExpressionAt (col 9) (Unary unary.Not (get 13 b)))) ≡ None
y1_not_kept = refl

-- b := k = d, two enumerations; b := k = t, another name of the type; b := c = c; b := c = s; b := c < c
y1_types : first (sets (op binary.Eq (get 9 k) 9 (get 13 d))) ≡ refusal_at rule.Y1 (col 13)
y1_types = refl

y1_alias : first (sets (op binary.Eq (get 9 k) 9 (get 13 t))) ≡ None
y1_alias = refl

y1_channels : first (sets (op binary.Eq (get 9 c) 9 (get 13 c))) ≡ None
y1_channels = refl

y1_two_channels : first (sets (op binary.Eq (get 9 c) 9 (get 13 s))) ≡ refusal_at rule.Y1 (col 13)
y1_two_channels = refl

y1_channel_order : first (sets (op binary.Lt (get 9 c) 9 (get 13 c))) ≡ refusal_at rule.Y1 (col 9)
y1_channel_order = refl

-- b := v = v, arrays
y1_arrays : first (sets (op binary.Eq (get 9 v) 9 (get 13 v))) ≡ refusal_at rule.Y1 (col 9)
y1_arrays = refl

-- Y2. i := i[1], at i; i := v[1]; i := v[b], at b
y2_no_array : first (counts (get_from 9 i (Index (num 11 1) ∷ []))) ≡ refusal_at rule.Y2 (col 9)
y2_no_array = refl

y2_kept : first (counts (get_from 9 v (Index (num 11 1) ∷ []))) ≡ None
y2_kept = refl

y2_index : first (counts (get_from 9 v (Index (get 11 b) ∷ []))) ≡ refusal_at rule.Y2 (col 11)
y2_index = refl

-- b := v[i[1]], where the index has no type: the element's type is known, and Y5 at v comes first
y2_untyped_index : first (sets (get_from 9 v (Index (get_from 11 i (Index (num 13 1) ∷ [])) ∷ [])))
    ≡ refusal_at rule.Y5 (col 9)
y2_untyped_index = refl

-- Y3. i := i.a; i := r.c; i := r.a; i := r.b
y3_no_record : first (counts (get_from 9 i (Field (codes "a") ∷ []))) ≡ refusal_at rule.Y3 (col 9)
y3_no_record = refl

y3_no_field : first (counts (get_from 9 r (Field (codes "c") ∷ []))) ≡ refusal_at rule.Y3 (col 9)
y3_no_field = refl

y3_kept : first (counts (get_from 9 r (Field (codes "a") ∷ []))) ≡ None
y3_kept = refl

y3_other_field : first (counts (get_from 9 r (Field (codes "b") ∷ []))) ≡ refusal_at rule.Y5 (col 9)
y3_other_field = refl

-- Y4. if i then; while i do; repeat until i; assume i; and with b
y4_if : first (If (get 9 i) (does Empty) NoElse) ≡ refusal_at rule.Y4 (col 9)
y4_if = refl

y4_while : first (While (get 9 i) (does Empty)) ≡ refusal_at rule.Y4 (col 9)
y4_while = refl

y4_until : first (Repeat (statements (does Empty ∷ [])) (get 9 i)) ≡ refusal_at rule.Y4 (col 9)
y4_until = refl

y4_assume : first (Assume (get 9 i)) ≡ refusal_at rule.Y4 (col 9)
y4_assume = refl

y4_kept : first (Sequence (statements (does (If (get 9 b) (does Empty) NoElse) ∷ does (While (get 9 b) (does Empty))
    ∷ does (Repeat (statements (does Empty ∷ [])) (get 9 b)) ∷ does (Assume (get 9 b)) ∷ []))) ≡ None
y4_kept = refl

-- Y5. i := b; i := i; i := -b, whose type is integer all the same
y5_refused : first (counts (get 9 b)) ≡ refusal_at rule.Y5 (col 9)
y5_refused = refl

y5_kept : first (counts (get 9 i)) ≡ None
y5_kept = refl

y5_silent : first (sets (ExpressionAt (col 9) (Unary unary.Minus (get 10 b)))) ≡ refusal_at rule.Y5 (col 9)
y5_silent = refl

-- Y6, Y7. p(b, k); p(i, k); p(i, t); p(i, d); p(i, (k)), in parentheses; p(i, 1)
y6_refused : first (Call 1 (arguments (pass (get 9 b) ∷ pass (get 12 k) ∷ []))) ≡ refusal_at rule.Y6 (col 9)
y6_refused = refl

y6_kept : first (Call 1 (arguments (pass (get 9 i) ∷ pass (get 12 k) ∷ []))) ≡ None
y6_kept = refl

y7_alias : first (Call 1 (arguments (pass (get 9 i) ∷ pass (get 12 t) ∷ []))) ≡ None
y7_alias = refl

y7_type : first (Call 1 (arguments (pass (get 9 i) ∷ pass (get 12 d) ∷ []))) ≡ refusal_at rule.Y7 (col 12)
y7_type = refl

y7_parentheses : first (Call 1 (arguments (pass (get 9 i) ∷ pass (ExpressionAt (col 12) (Read (var 13 k))) ∷ [])))
    ≡ refusal_at rule.Y7 (col 12)
y7_parentheses = refl

y7_value : first (Call 1 (arguments (pass (get 9 i) ∷ pass (num 12 1) ∷ []))) ≡ refusal_at rule.Y7 (col 12)
y7_value = refl

-- Y8. i := ord(v); i := ord(k); i := abs(k); k := succ(k); read(k); read(i, ch); write(k); write(i, ch, b, 'ab');
-- write(i: b), at i; open(i); open(c); send(i, 1)
y8_ord : first (counts (standard 9 fn.Ord (pass (get 13 v) ∷ []))) ≡ refusal_at rule.Y8 (col 13)
y8_ord = refl

y8_ord_kept : first (counts (standard 9 fn.Ord (pass (get 13 k) ∷ []))) ≡ None
y8_ord_kept = refl

y8_abs : first (counts (standard 9 fn.Abs (pass (get 13 k) ∷ []))) ≡ refusal_at rule.Y8 (col 13)
y8_abs = refl

y8_succ : first (Assign (var 4 k) (standard 9 fn.Succ (pass (get 13 k) ∷ []))) ≡ None
y8_succ = refl

-- i := succ(v): succ has no type, and Y5 is silent
y8_untyped : first (counts (standard 9 fn.Succ (pass (get 13 v) ∷ []))) ≡ refusal_at rule.Y8 (col 13)
y8_untyped = refl

y8_read : first (perform procedure.Read (pass (get 9 k) ∷ [])) ≡ refusal_at rule.Y8 (col 9)
y8_read = refl

y8_read_kept : first (perform procedure.Read (pass (get 9 i) ∷ pass (get 12 ch) ∷ [])) ≡ None
y8_read_kept = refl

y8_write : first (perform procedure.Write (pass (get 9 k) ∷ [])) ≡ refusal_at rule.Y8 (col 9)
y8_write = refl

y8_write_kept : first (perform procedure.Write
    (pass (get 9 i) ∷ pass (get 12 ch) ∷ pass (get 15 b) ∷ pass (text 18 (codes "ab")) ∷ [])) ≡ None
y8_write_kept = refl

y8_width : first (perform procedure.Write (Pass (get 9 i) (WithWidth (get 12 b)) ∷ [])) ≡ refusal_at rule.Y8 (col 9)
y8_width = refl

y8_width_kept : first (perform procedure.Write (Pass (get 9 i) (WithWidth (get 12 i)) ∷ [])) ≡ None
y8_width_kept = refl

y8_open : first (perform procedure.Open (pass (get 9 i) ∷ [])) ≡ refusal_at rule.Y8 (col 9)
y8_open = refl

y8_open_kept : first (perform procedure.Open (pass (get 9 c) ∷ [])) ≡ None
y8_open_kept = refl

y8_send : first (perform procedure.Send (pass (get 9 i) ∷ pass (num 12 1) ∷ [])) ≡ refusal_at rule.Y8 (col 9)
y8_send = refl

-- Y9. send(c, b); send(c, 1, 2); receive(c, ch); receive(s, ch)
y9_send : first (perform procedure.Send (pass (get 9 c) ∷ pass (get 12 b) ∷ [])) ≡ refusal_at rule.Y9 (col 12)
y9_send = refl

y9_send_kept : first (perform procedure.Send (pass (get 9 c) ∷ pass (num 12 1) ∷ pass (num 15 2) ∷ [])) ≡ None
y9_send_kept = refl

y9_receive : first (perform procedure.Receive (pass (get 9 c) ∷ pass (get 12 ch) ∷ [])) ≡ refusal_at rule.Y9 (col 12)
y9_receive = refl

y9_receive_kept : first (perform procedure.Receive (pass (get 9 s) ∷ pass (get 12 ch) ∷ [])) ≡ None
y9_receive_kept = refl

-- Y10. for v := 1 to 2; for i := b to 2; for i := 1 to b; for i := 1 to 2
y10_variable : first (For v (col 5) (num 9 1) false (num 14 2) (does Empty)) ≡ refusal_at rule.Y10 (col 5)
y10_variable = refl

y10_from : first (For i (col 5) (get 9 b) false (num 14 2) (does Empty)) ≡ refusal_at rule.Y10 (col 9)
y10_from = refl

y10_to : first (For i (col 5) (num 9 1) false (get 14 b) (does Empty)) ≡ refusal_at rule.Y10 (col 14)
y10_to = refl

y10_kept : first (For i (col 5) (num 9 1) false (num 14 2) (does Empty)) ≡ None
y10_kept = refl

-- forall x := v to v; forall x := k to i; forall x := red to k do t := x
y10_first_limit : first (Forall index (get 9 v) (get 14 v) (does Empty)) ≡ refusal_at rule.Y10 (col 9)
y10_first_limit = refl

y10_second_limit : first (Forall index (get 9 k) (get 14 i) (does Empty)) ≡ refusal_at rule.Y10 (col 14)
y10_second_limit = refl

y10_index : first (Forall index (constant_at 9 3) (get 14 k) (does (Assign (var 18 t) (get 23 index)))) ≡ None
y10_index = refl

y10_index_type : first (Forall index (constant_at 9 3) (get 14 k) (does (Assign (var 18 i) (get 23 index))))
    ≡ refusal_at rule.Y5 (col 23)
y10_index_type = refl

-- one choice of a `case` statement
abbrev on : List NamedConst → Arm
on cs = On cs (does Empty)

-- Y11. case v of; case i of true:; case k of red:
y11_selector : first (Case (get 8 v) (arms (on (given_const 13 (given.Number 1) ∷ []) ∷ [])))
    ≡ refusal_at rule.Y11 (col 8)
y11_selector = refl

y11_constant : first (Case (get 8 i) (arms (on (given_const 13 (given.Constant 1) ∷ []) ∷ [])))
    ≡ refusal_at rule.Y11 (col 13)
y11_constant = refl

y11_kept : first (Case (get 8 k) (arms (on (given_const 13 (given.Constant 3) ∷ []) ∷ []))) ≡ None
y11_kept = refl

-- Y12. case i of 1: ; 1: ; the same in one list; case i of 1: ; -1:
y12_arms : first (Case (get 8 i) (arms (on (given_const 13 (given.Number 1) ∷ [])
    ∷ on (given_const 18 (given.Number 1) ∷ []) ∷ []))) ≡ refusal_at rule.Y12 (col 18)
y12_arms = refl

y12_list : first (Case (get 8 i) (arms (on (given_const 13 (given.Number 1) ∷ given_const 16 (given.Number 2)
    ∷ given_const 19 (given.Number 1) ∷ []) ∷ []))) ≡ refusal_at rule.Y12 (col 19)
y12_list = refl

y12_kept : first (Case (get 8 i) (arms (on (given_const 13 (given.Number 1) ∷ [])
    ∷ on (minus_const 18 (given.Number 1) ∷ []) ∷ []))) ≡ None
y12_kept = refl

-- case b of true: ; -true: keeps the name's type and number, so the repeat comes before the sign
y12_sign : first (Case (get 8 b) (arms (on (given_const 13 (given.Constant 1) ∷ [])
    ∷ on (minus_const 18 (given.Constant 1) ∷ []) ∷ []))) ≡ refusal_at rule.Y12 (col 18)
y12_sign = refl

-- Y14. case b of -true: ; case ch of 'ab': has no type; i := 'ab'; ch := 'a'; write('ab' + 1)
y14_sign : first (Case (get 8 b) (arms (on (minus_const 13 (given.Constant 1) ∷ []) ∷ [])))
    ≡ refusal_at rule.Y14 (col 13)
y14_sign = refl

y14_choice : first (Case (get 8 ch) (arms (on (given_const 13 (given.Quoted (codes "ab")) ∷ []) ∷ [])))
    ≡ refusal_at rule.Y14 (col 13)
y14_choice = refl

y14_text : first (counts (text 9 (codes "ab"))) ≡ refusal_at rule.Y14 (col 9)
y14_text = refl

y14_char : first (Assign (var 4 ch) (text 9 (codes "a"))) ≡ None
y14_char = refl

y14_empty : first (Assign (var 4 ch) (text 9 [])) ≡ refusal_at rule.Y14 (col 9)
y14_empty = refl

y14_operand : first (perform procedure.Write (pass (op binary.Add (text 9 (codes "ab")) 9 (num 16 1)) ∷ []))
    ≡ refusal_at rule.Y14 (col 9)
y14_operand = refl
