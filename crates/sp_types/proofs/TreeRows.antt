-- Worked checked trees, by computing: types, numbers of statements and single statements.
use Rattle.std.proofs.Common.{◌≡◌, ℕ, List, [], ◌∷◌, ◌++◌, Some, None, refl, pos}
use Rattle.std.specs.Prelude.{codes, Ok, Err, negsuc}
use Rattle.sp_base.specs.declared.rule.Rule.TheVariants as rule
use Rattle.sp_tree.specs.declared.checked.KindOf.TheVariants as kind
use Rattle.sp_tree.specs.declared.checked.Role.TheVariants as role
use Rattle.sp_tree.specs.declared.operators.BinaryOp.TheVariants as binary
use Rattle.sp_tree.specs.declared.meaning.StandardProcedure.TheVariants as procedure
use Rattle.sp_tree.specs.declared.named.NamedValue.TheVariants as given
use Rattle.sp_tree.specs.NamedOf.{statements, arms, branches, arguments}
use Rattle.sp_tree.specs.NamedTree.{standard_constants, standard_kinds, consoles}
use Rattle.sp_tree.specs.PlainNamed as n
use Rattle.sp_tree.specs.PlainChecked as c
use Rattle.sp_tree.specs.CheckedOf as of_
use Rattle.sp_types.specs.Tables.{env_of}
use Rattle.sp_types.specs.TypeWalk.{with_first_number, starts_of}
use Rattle.sp_types.specs.CheckedTree.{program_checked, checked_statement}
use Rattle.sp_types.specs.TypeFirst.{types_outcome}
use Rattle.sp_types.proofs.Rows.{col, given_const, minus_const, with_statement, does, num, constant_at, text, var, get}
use Rattle.sp_types.proofs.Rows.{get_from, op, pass, perform}

-- the tree of a statement at column 3, numbered from 0
abbrev tree : n.Form → c.Statement
tree f = checked_statement (with_first_number (env_of (with_statement f)) 0) (does f)

abbrev whole : ℕ → ℕ → c.Variable
whole at x = c.Entire x (col at) c.Whole

-- the types: another name of a type has none of its own
types_of_program : (program_checked (with_statement n.Empty)).kinds ≡
    kind.Integer ∷ kind.Boolean ∷ kind.Char ∷ kind.Enumeration 2 ∷ kind.Array (pos 1) (pos 3) 0 0
    ∷ kind.Fields ((codes "a", 0) ∷ (codes "b", 2) ∷ []) ∷
    kind.Channel (0 ∷ []) ∷ kind.Enumeration 1 ∷ kind.Channel (2 ∷ []) ∷ []
types_of_program = refl

-- i := v[i] + 1
sum : tree (n.Assign (var 4 2) (op binary.Add (get_from 9 5 (n.Index (get 11 2) ∷ [])) 9 (num 16 1))) ≡
    c.Does 0 (col 3) (c.Assign (whole 4 2)
    (c.ExpressionAt (col 9) 0 (c.Binary binary.Add
    (c.ExpressionAt (col 9) 0
    (c.Read (c.Entire 5 (col 9) (c.Select (c.Index (c.ExpressionAt (col 11) 0 (c.Read (whole 11 2)))) c.Whole))))
    (c.ExpressionAt (col 16) 0 (c.Number (pos 1))))))
sum = refl

-- ch := r.b: the field has number 1
field : tree (n.Assign (var 4 11) (get_from 9 6 (n.Field (codes "b") ∷ []))) ≡
    c.Does 0 (col 3) (c.Assign (whole 4 11) (c.ExpressionAt (col 9) 2
    (c.Read (c.Entire 6 (col 9) (c.Select (c.Field 1) c.Whole)))))
field = refl

-- b := k = green
constant : tree (n.Assign (var 4 3) (op binary.Eq (get 9 4) 9 (constant_at 13 4))) ≡
    c.Does 0 (col 3) (c.Assign (whole 4 3) (c.ExpressionAt (col 9) 1
    (c.Binary binary.Eq (c.ExpressionAt (col 9) 3 (c.Read (whole 9 4)))
    (c.ExpressionAt (col 13) 3 (c.Number (pos 1))))))
constant = refl

-- p(i, t): by value and by reference
call : tree (n.Call 1 (arguments (pass (get 9 2) ∷ pass (get 12 8) ∷ []))) ≡
    c.Does 0 (col 3) (c.Call 1 (c.Pass (c.ByValue (c.ExpressionAt (col 9) 0 (c.Read (whole 9 2))))
    (c.Pass (c.ByReference (whole 12 8)) c.Nothing)))
call = refl

-- read(i); read(i, ch); readln; readln(i)
one_read : tree (perform procedure.Read (pass (get 9 2) ∷ [])) ≡ c.Does 0 (col 3) (c.ReadValue (whole 9 2))
one_read = refl

two_reads : tree (perform procedure.Read (pass (get 9 2) ∷ pass (get 12 11) ∷ [])) ≡
    c.Does 0 (col 3) (c.Sequence (of_.statements
    (c.Does 1 (col 3) (c.ReadValue (whole 9 2)) ∷ c.Does 2 (col 3) (c.ReadValue (whole 12 11)) ∷ [])))
two_reads = refl

read_line : tree (perform procedure.Readln []) ≡ c.Does 0 (col 3) c.ReadLine
read_line = refl

read_and_line : tree (perform procedure.Readln (pass (get 9 2) ∷ [])) ≡
    c.Does 0 (col 3) (c.Sequence (of_.statements
    (c.Does 1 (col 3) (c.ReadValue (whole 9 2)) ∷ c.Does 2 (col 3) c.ReadLine ∷ [])))
read_and_line = refl

-- writeln('ab', 'c': 3, ''): a text of length 1 is a char
written : tree (perform procedure.Writeln (pass (text 9 (codes "ab"))
    ∷ n.Pass (text 15 (codes "c")) (n.WithWidth (num 20 3)) ∷ pass (text 23 []) ∷ [])) ≡
    c.Does 0 (col 3) (c.Sequence (of_.statements (
    c.Does 1 (col 3) (c.WriteText (codes "ab") None) ∷
    c.Does 2 (col 3) (c.WriteValue (c.ExpressionAt (col 15) 2 (c.Number (pos 99)))
    (Some (c.ExpressionAt (col 20) 0 (c.Number (pos 3))))) ∷
    c.Does 3 (col 3) (c.WriteText [] None) ∷
    c.Does 4 (col 3) c.WriteLine ∷ [])))
written = refl

-- send(c, 1, 2): the channel stands in both; receive(c, i); open(c, s)
sent : tree (perform procedure.Send (pass (get 9 7) ∷ pass (num 12 1) ∷ pass (num 15 2) ∷ [])) ≡
    c.Does 0 (col 3) (c.Sequence (of_.statements (
    c.Does 1 (col 3) (c.Send (c.ExpressionAt (col 9) 6 (c.Read (whole 9 7)))
    (c.ExpressionAt (col 12) 0 (c.Number (pos 1)))) ∷
    c.Does 2 (col 3) (c.Send (c.ExpressionAt (col 9) 6 (c.Read (whole 9 7)))
    (c.ExpressionAt (col 15) 0 (c.Number (pos 2)))) ∷ [])))
sent = refl

received : tree (perform procedure.Receive (pass (get 9 7) ∷ pass (get 12 2) ∷ []))
    ≡ c.Does 0 (col 3) (c.Receive (c.ExpressionAt (col 9) 6 (c.Read (whole 9 7))) (whole 12 2))
received = refl

opened : tree (perform procedure.Open (pass (get 9 7) ∷ pass (get 12 10) ∷ [])) ≡
    c.Does 0 (col 3) (c.Sequence (of_.statements
    (c.Does 1 (col 3) (c.Open (whole 9 7)) ∷ c.Does 2 (col 3) (c.Open (whole 12 10)) ∷ [])))
opened = refl

-- a statement of two at its own columns
abbrev at : ℕ → n.Form → n.Statement
at k f = n.Does (col k) f

abbrev truth : ℕ → c.Expression
truth k = c.ExpressionAt (col k) 1 (c.Read (whole k 3))

-- repeat ; readln(i) until b; if b then else : numbers go on, and the repeated statements are one sequence at the first
numbered : tree (n.Sequence (statements (at 9
    (n.Repeat (statements (at 16 n.Empty ∷ at 18 (perform procedure.Readln (pass (get 25 2) ∷ [])) ∷ [])) (get 34 3))
    ∷ at 37 (n.If (get 40 3) (at 47 n.Empty) (n.Else (at 52 n.Empty))) ∷ []))) ≡
    c.Does 0 (col 3) (c.Sequence (of_.statements (
    c.Does 1 (col 9) (c.Repeat
    (c.Does 2 (col 16) (c.Sequence (of_.statements (
    c.Does 3 (col 16) c.Empty ∷
    c.Does 4 (col 18) (c.Sequence (of_.statements
    (c.Does 5 (col 18) (c.ReadValue (whole 25 2)) ∷ c.Does 6 (col 18) c.ReadLine ∷ []))) ∷ []))))
    (truth 34)) ∷
    c.Does 7 (col 37) (c.If (truth 40) (c.Does 8 (col 47) c.Empty) (c.Else (c.Does 9 (col 52) c.Empty))) ∷ [])))
numbered = refl

-- parallel | ; end: each process statement is one sequence
processes : tree (n.Parallel (branches (statements (at 12 n.Empty ∷ [])
    ∷ statements (at 14 n.Empty ∷ at 16 n.Empty ∷ []) ∷ []))) ≡
    c.Does 0 (col 3) (c.Parallel (of_.statements (
    c.Does 1 (col 12) (c.Sequence (of_.statements (c.Does 2 (col 12) c.Empty ∷ []))) ∷
    c.Does 3 (col 14) (c.Sequence (of_.statements (c.Does 4 (col 14) c.Empty ∷ c.Does 5 (col 16) c.Empty ∷ []))) ∷ [])))
processes = refl

-- case i of -1: ; 2, 3: end
chosen : tree (n.Case (get 8 2) (arms (n.On (minus_const 13 (given.Number 1) ∷ []) (at 17 n.Empty)
    ∷ n.On (given_const 19 (given.Number 2) ∷ given_const 22 (given.Number 3) ∷ []) (at 25 n.Empty) ∷ []))) ≡
    c.Does 0 (col 3) (c.Case (c.ExpressionAt (col 8) 0 (c.Read (whole 8 2)))
    (of_.arms (c.On (negsuc 0 ∷ []) (c.Does 1 (col 17) c.Empty)
    ∷ c.On (pos 2 ∷ pos 3 ∷ []) (c.Does 2 (col 25) c.Empty) ∷ [])))
chosen = refl

-- forall x := red to k: the index has the type of its first limit
abbrev each : n.Form
each = n.Forall 12 (constant_at 9 3) (get 14 4) (at 20 (n.Assign (var 20 4) (get 25 12)))

forall_tree : tree each ≡
    c.Does 0 (col 3) (c.Forall 12 (c.ExpressionAt (col 9) 3 (c.Number (pos 0)))
    (c.ExpressionAt (col 14) 3 (c.Read (whole 14 4)))
    (c.Does 1 (col 20) (c.Assign (whole 20 4) (c.ExpressionAt (col 25) 3 (c.Read (whole 25 12))))))
forall_tree = refl

-- numbers go by the order of the text: the bodies of the blocks inside stand before the program's own
abbrev nest : List n.Block
nest =
    record { name = codes "g"; parent = None; formals = []; answer = None; body = at 90 n.Empty; at = col 9 } ∷
    record {
      name = codes "p";
      parent = Some 0;
      formals = [];
      answer = None;
      body = at 60 (n.Sequence (statements (at 66 n.Empty ∷ [])));
      at = col 20;
    } ∷
    record {
      name = codes "q";
      parent = Some 1;
      formals = [];
      answer = None;
      body = at 40 (n.Sequence (statements (at 46 n.Empty ∷ at 48 n.Empty ∷ [])));
      at = col 30;
    } ∷
    record { name = codes "s"; parent = Some 0; formals = []; answer = None; body = at 80 n.Empty; at = col 70 } ∷ []

text_order : starts_of nest ≡ 6 ∷ 3 ∷ 0 ∷ 5 ∷ []
text_order = refl

-- a whole program: forall x := false to true do ; its index, variable 2, gets the type of booleans
abbrev small : n.Form → n.Program
small f = record {
  constants = standard_constants (col 9);
  kinds = standard_kinds (col 9);
  variables = consoles (col 9) ++ record { name = codes "x"; kind = 0; block = 0; role = role.Index; at = col 25 } ∷ [];
  blocks = record { name = codes "g"; parent = None; formals = []; answer = None; body = at 12 f; at = col 9 } ∷ [];
}

whole_program : types_outcome (small (n.Forall 2 (constant_at 30 0) (constant_at 35 1) (at 40 n.Empty))) ≡ Ok (record {
  kinds = kind.Integer ∷ kind.Boolean ∷ kind.Char ∷ [];
  variables = consoles (col 9) ++ record { name = codes "x"; kind = 1; block = 0; role = role.Index; at = col 25 } ∷ [];
  blocks = record {
    name = codes "g";
    parent = None;
    formals = [];
    answer = None;
    body = c.Does 0 (col 12)
        (c.Forall 2 (c.ExpressionAt (col 30) 1 (c.Number (pos 0))) (c.ExpressionAt (col 35) 1 (c.Number (pos 1)))
        (c.Does 1 (col 40) c.Empty));
    at = col 9;
  } ∷ [];
})
whole_program = refl

refused_program : types_outcome (small (n.Forall 2 (constant_at 30 0) (num 35 1) (at 40 n.Empty)))
    ≡ Err (record { rule = rule.Y10; at = col 35 })
refused_program = refl
