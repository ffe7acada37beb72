-- Each rule of names on a small program that breaks it, beside one that does not.
use Rattle.std.proofs.Common.{◌+◌, ◌≡◌, refl, ℕ, List, [], ◌∷◌, Option, Some, None, Bool, true, false, codes}
use Rattle.sp_base.specs.declared.place.Place.{Place}
use Rattle.sp_base.specs.declared.rule.Rule.{Rule}
use Rattle.sp_base.specs.declared.rule.Rule.TheVariants as rule
use Rattle.sp_tree.specs.declared.syntax.Name.{Name}
use Rattle.sp_tree.specs.declared.syntax.SynConst.{SynConst}
use Rattle.sp_tree.specs.declared.syntax.SynValue.TheVariants as value
use Rattle.sp_tree.specs.declared.syntax.SynKind.TheVariants as kinds
use Rattle.sp_tree.specs.declared.syntax.SynFormal.{SynFormal}
use Rattle.sp_tree.specs.PhaseResults.{refusal_at}
use Rattle.sp_tree.specs.NameFirst.{names_first}
use Rattle.sp_tree.specs.PlainSyntax.{Expression, ExpressionAt, Number, Read, Apply}
use Rattle.sp_tree.specs.PlainSyntax.{Entire, Index, Whole, Select}
use Rattle.sp_tree.specs.PlainSyntax.{Pass, NoWidth, WithWidth, Arguments, NoArgument, AndArgument, Does}
use Rattle.sp_tree.specs.PlainSyntax.{Form, Empty, Assign, Call, Sequence, Case, For}
use Rattle.sp_tree.specs.PlainSyntax.{Forall, Assume, Statements, NoStatement, AndThen, On}
use Rattle.sp_tree.specs.PlainSyntax.{NoArm, Or, Part, Const, Kind, Var, Proc, Parts}
use Rattle.sp_tree.specs.PlainSyntax.{NoPart, Declare, Program}

-- on the first line
abbrev at : ℕ → Place
at c = record { line = 1; column = c }

abbrev name : List ℕ → ℕ → Name
name t c = record { text = t; at = at c }

-- program g; .. begin .. end.
abbrev program : Parts → Statements → Program
program ps ss = record {
  name = name (codes "g") 9;
  heading = [];
  block = record { parts = ps; body = Does (at 90) (Sequence ss) };
}

abbrev declares : Parts → Program
declares ps = program ps NoStatement

abbrev one : Part → Parts
one p = Declare p NoPart

abbrev does : Form → Statements
does f = AndThen (Does (at 90) f) NoStatement

abbrev integer : ℕ → Name
integer c = name (codes "integer") c

abbrev vars : List ℕ → ℕ → Part
vars t c = Var (name t c ∷ []) (integer (c + 5))

abbrev number : ℕ → Expression
number c = ExpressionAt (at c) (Number 1)

abbrev read : List ℕ → ℕ → Expression
read t c = ExpressionAt (at c) (Read (Entire (name t c) Whole))

abbrev args : Expression → Arguments
args e = AndArgument (Pass e NoWidth) NoArgument

abbrev constant : ℕ → SynConst
constant c = record { at = at c; negative = None; value = value.Number 1 }

abbrev named : List ℕ → ℕ → SynConst
named t c = record { at = at c; negative = None; value = value.Named (name t c) }

abbrev formal : Bool → List ℕ → ℕ → List ℕ → SynFormal
formal r t c k = record { by_reference = r; names = name t c ∷ []; kind = name k (c + 3) }

-- procedure q(..); begin .. end;
abbrev procedure : List SynFormal → Option Name → Statements → Part
procedure fs r ss = Proc (name (codes "q") 20) fs r NoPart (Does (at 80) (Sequence ss))

abbrev array_of : ℕ → Name → Part
array_of c t = Kind (name (codes "t") c) (kinds.Array (constant (c + 11)) (constant (c + 14)) t)

abbrev formal_var : List ℕ → ℕ → SynFormal
formal_var t c = record { by_reference = true; names = name t c ∷ []; kind = integer (c + 3) }

abbrev function : List ℕ → ℕ → Parts → Statements → Part
function f c parts ss = Proc (name f c) [] (Some (integer (c + 4))) parts (Does (at 80) (Sequence ss))

abbrev assign : List ℕ → ℕ → Form
assign t c = Assign (Entire (name t c) Whole) (number (c + 5))

abbrev call : List ℕ → ℕ → Arguments → Form
call t c as_ = Call (name t c) as_

abbrev loop : List ℕ → ℕ → Form
loop t c = For (name t c) (number (c + 5)) false (number (c + 10)) (Does (at (c + 15)) Empty)

abbrev forall_ : List ℕ → ℕ → Form → Form
forall_ t c f = Forall (name t c) (number (c + 5)) (number (c + 10)) (Does (at (c + 15)) f)

abbrev reads : List ℕ → ℕ → Form
reads t c = Assume (read t c)

abbrev selected : List ℕ → ℕ → Expression
selected t c = ExpressionAt (at c) (Read (Entire (name t c) (Select (Index (number (c + 2))) Whole)))

-- the variable in parentheses
abbrev within : List ℕ → ℕ → Expression
within t c = ExpressionAt (at c) (Read (Entire (name t (c + 1)) Whole))

abbrev widened : Expression → Arguments
widened e = AndArgument (Pass e (WithWidth (number 50))) NoArgument

abbrev two : Expression → Expression → Arguments
two a b = AndArgument (Pass a NoWidth) (args b)

abbrev heads : List Name → Program
heads xs = record {
  name = name (codes "g") 9;
  heading = xs;
  block = record { parts = NoPart; body = Does (at 90) (Sequence NoStatement) };
}

abbrev BreaksNameRule : Program → Rule → ℕ → Type 0
BreaksNameRule p r c = names_first p ≡ refusal_at r (at c)

abbrev KeepsNameRules : Program → Type 0
KeepsNameRules p = names_first p ≡ None

-- N1: not declared
undeclared : BreaksNameRule (program NoPart (does (reads (codes "x") 30))) rule.N1 30
undeclared = refl

declared : KeepsNameRules (program (one (vars (codes "x") 12)) (does (reads (codes "x") 30)))
declared = refl

in_itself : BreaksNameRule (declares (one (Const (name (codes "a") 18) (named (codes "a") 22)))) rule.N1 22
in_itself = refl

of_the_outer : KeepsNameRules (declares (one (Const (name (codes "maxint") 18) (named (codes "maxint") 27))))
of_the_outer = refl

in_its_heading : BreaksNameRule
    (declares (one (procedure (formal false (codes "x") 22 (codes "q") ∷ []) None NoStatement)))
    rule.N1 25
in_its_heading = refl

in_its_block : KeepsNameRules (declares (one (procedure [] None (does (call (codes "q") 40 NoArgument)))))
in_its_block = refl

before_its_declaration : BreaksNameRule (declares (Declare (Const (name (codes "a") 18) (named (codes "b") 22))
    (one (Const (name (codes "b") 25) (constant 29))))) rule.N1 22
before_its_declaration = refl

behind_its_declaration : KeepsNameRules (declares (Declare (Const (name (codes "b") 18) (constant 22))
    (one (Const (name (codes "a") 25) (named (codes "b") 29)))))
behind_its_declaration = refl

outside_its_procedure : BreaksNameRule (program (one
    (procedure (formal false (codes "x") 22 (codes "integer") ∷ []) None NoStatement)) (does (reads (codes "x") 85)))
    rule.N1 85
outside_its_procedure = refl

outside_its_forall : BreaksNameRule (program NoPart (AndThen (Does (at 20) (forall_ (codes "i") 27 Empty))
    (does (reads (codes "i") 60)))) rule.N1 60
outside_its_forall = refl

inside_its_forall : KeepsNameRules (program NoPart (does (forall_ (codes "i") 27 (reads (codes "i") 60))))
inside_its_forall = refl

in_a_limit_of_its_forall : BreaksNameRule (program NoPart
    (does (Forall (name (codes "i") 27) (number 32) (read (codes "i") 37) (Does (at 42) Empty)))) rule.N1 37
in_a_limit_of_its_forall = refl

of_the_heading : BreaksNameRule (heads (name (codes "x") 11 ∷ [])) rule.N1 11
of_the_heading = refl

the_output : KeepsNameRules (heads (name (codes "output") 11 ∷ []))
the_output = refl

-- N2: declared twice
twice : BreaksNameRule (declares (one (Var (name (codes "x") 16 ∷ name (codes "x") 19 ∷ []) (integer 22)))) rule.N2 19
twice = refl

once : KeepsNameRules (declares (one (Var (name (codes "x") 16 ∷ name (codes "y") 19 ∷ []) (integer 22))))
once = refl

of_itself : BreaksNameRule (declares (one (Kind (name (codes "t") 17)
    (kinds.Enumeration (name (codes "t") 22 ∷ name (codes "u") 25 ∷ []))))) rule.N2 22
of_itself = refl

in_a_record : BreaksNameRule (declares (one (Kind (name (codes "t") 17)
    (kinds.Record (record { names = name (codes "a") 28 ∷ []; kind = integer 31 }
    ∷ record { names = name (codes "a") 40 ∷ []; kind = integer 43 } ∷ []))))) rule.N2 40
in_a_record = refl

in_two_records : KeepsNameRules (declares (Declare (Kind (name (codes "t") 17)
    (kinds.Record (record { names = name (codes "a") 28 ∷ []; kind = integer 31 } ∷ [])))
    (one (Kind (name (codes "u") 50) (kinds.Record
    (record { names = name (codes "a") 60 ∷ []; kind = integer 63 } ∷ []))))))
in_two_records = refl

a_local_as_a_parameter : BreaksNameRule (declares (one
    (Proc (name (codes "q") 20) (formal false (codes "x") 22 (codes "integer") ∷ []) None (one (vars (codes "x") 40))
    (Does (at 80) Empty)))) rule.N2 40
a_local_as_a_parameter = refl

a_local_as_a_variable_around : KeepsNameRules (declares
    (Declare (vars (codes "x") 10) (one (Proc (name (codes "q") 20) [] None (one (vars (codes "x") 40))
    (Does (at 80) Empty)))))
a_local_as_a_variable_around = refl

in_the_heading : BreaksNameRule (heads (name (codes "input") 11 ∷ name (codes "input") 18 ∷ [])) rule.N2 18
in_the_heading = refl

both_in_the_heading : KeepsNameRules (heads (name (codes "output") 11 ∷ name (codes "input") 19 ∷ []))
both_in_the_heading = refl

-- N3: of the wrong kind
a_type_in_an_expression : BreaksNameRule (program NoPart (does (reads (codes "integer") 30))) rule.N3 30
a_type_in_an_expression = refl

a_variable_as_a_type : BreaksNameRule (declares (Declare (vars (codes "x") 12)
    (one (Var (name (codes "y") 30 ∷ []) (name (codes "x") 33))))) rule.N3 33
a_variable_as_a_type = refl

a_procedure_in_an_expression : BreaksNameRule
    (program (one (procedure [] None NoStatement)) (does (reads (codes "q") 85)))
    rule.N3 85
a_procedure_in_an_expression = refl

a_function_in_an_expression : KeepsNameRules (program (one (procedure [] (Some (integer 24)) NoStatement))
    (does (reads (codes "q") 85)))
a_function_in_an_expression = refl

a_function_as_a_statement : BreaksNameRule (program (one (procedure [] (Some (integer 24)) NoStatement))
    (does (call (codes "q") 85 NoArgument))) rule.N3 85
a_function_as_a_statement = refl

a_procedure_as_a_statement : KeepsNameRules (program (one (procedure [] None NoStatement))
    (does (call (codes "q") 85 NoArgument)))
a_procedure_as_a_statement = refl

a_selector_on_a_constant : BreaksNameRule (program NoPart (does (Assume (selected (codes "true") 30)))) rule.N3 30
a_selector_on_a_constant = refl

a_selector_on_a_variable : KeepsNameRules
    (program (one (vars (codes "x") 12)) (does (Assume (selected (codes "x") 30))))
a_selector_on_a_variable = refl

a_type_as_a_target : BreaksNameRule (program NoPart (does (assign (codes "char") 30))) rule.N3 30
a_type_as_a_target = refl

a_variable_in_a_case : BreaksNameRule (program (one (vars (codes "x") 12))
    (does (Case (number 30) (Or (On (named (codes "x") 35 ∷ []) (Does (at 38) Empty)) NoArm)))) rule.N3 35
a_variable_in_a_case = refl

a_constant_in_a_case : KeepsNameRules (program NoPart
    (does (Case (number 30) (Or (On (named (codes "maxint") 35 ∷ []) (Does (at 38) Empty)) NoArm))))
a_constant_in_a_case = refl

-- N4: in its own definition, whatever it means outside
own_element : BreaksNameRule (declares (one (array_of 17 (name (codes "t") 40)))) rule.N4 40
own_element = refl

another_element : KeepsNameRules (declares (one (array_of 17 (integer 40))))
another_element = refl

own_bound : BreaksNameRule (declares (one (Kind (name (codes "t") 17)
    (kinds.Array (constant 28) (named (codes "t") 31) (name (codes "char") 37))))) rule.N4 31
own_bound = refl

own_bound_declared_outside : BreaksNameRule (declares
    (Declare (Const (name (codes "t") 5) (constant 9))
    (one (Proc (name (codes "q") 12) [] None
    (one (Kind (name (codes "t") 17) (kinds.Array (constant 28) (named (codes "t") 31) (name (codes "char") 37))))
    (Does (at 80) Empty))))) rule.N4 31
own_bound_declared_outside = refl

own_field : BreaksNameRule (declares (one (Kind (name (codes "t") 17)
    (kinds.Record (record { names = name (codes "a") 28 ∷ []; kind = name (codes "t") 31 } ∷ []))))) rule.N4 31
own_field = refl

a_field_of_its_name : KeepsNameRules (declares (one (Kind (name (codes "t") 17)
    (kinds.Record (record { names = name (codes "t") 28 ∷ []; kind = integer 31 } ∷ [])))))
a_field_of_its_name = refl

-- N5: a width, or what is written as no variable
a_width_in_a_function : BreaksNameRule (program NoPart
    (does (Assume (ExpressionAt (at 30) (Apply (name (codes "odd") 30) (widened (number 34))))))) rule.N5 34
a_width_in_a_function = refl

a_width_in_write : KeepsNameRules (program NoPart (does (call (codes "write") 30 (widened (number 36)))))
a_width_in_write = refl

a_number_read : BreaksNameRule (program NoPart (does (call (codes "read") 30 (args (number 35))))) rule.N5 35
a_number_read = refl

a_variable_read : KeepsNameRules (program (one (vars (codes "x") 12))
    (does (call (codes "read") 30 (args (read (codes "x") 35)))))
a_variable_read = refl

in_parentheses : BreaksNameRule (program (one (vars (codes "x") 12))
    (does (call (codes "read") 30 (args (within (codes "x") 35))))) rule.N5 35
in_parentheses = refl

a_number_received : BreaksNameRule (program (one (vars (codes "c") 12))
    (does (call (codes "receive") 30 (two (read (codes "c") 38) (number 41))))) rule.N5 41
a_number_received = refl

a_number_sent : KeepsNameRules (program (one (vars (codes "c") 12))
    (does (call (codes "send") 30 (two (read (codes "c") 38) (number 41)))))
a_number_sent = refl

-- N6: the number of parameters
too_few : BreaksNameRule (program NoPart (does (Assume (read (codes "odd") 30)))) rule.N6 30
too_few = refl

none_of_eof : KeepsNameRules (program NoPart (does (Assume (read (codes "eof") 30))))
none_of_eof = refl

too_many : BreaksNameRule (program NoPart (does (Assume
    (ExpressionAt (at 30) (Apply (name (codes "odd") 30) (two (number 34) (number 37))))))) rule.N6 30
too_many = refl

one_of_odd : KeepsNameRules
    (program NoPart (does (Assume (ExpressionAt (at 30) (Apply (name (codes "odd") 30) (args (number 34)))))))
one_of_odd = refl

one_sent : BreaksNameRule
    (program (one (vars (codes "c") 12)) (does (call (codes "send") 30 (args (read (codes "c") 35)))))
    rule.N6 30
one_sent = refl

nothing_read : BreaksNameRule (program NoPart (does (call (codes "read") 30 NoArgument))) rule.N6 30
nothing_read = refl

no_line_read : KeepsNameRules (program NoPart (does (call (codes "readln") 30 NoArgument)))
no_line_read = refl

of_a_procedure : BreaksNameRule
    (program (one (procedure (formal false (codes "x") 22 (codes "integer") ∷ []) None NoStatement))
    (does (call (codes "q") 85 NoArgument))) rule.N6 85
of_a_procedure = refl

-- N7: no variable in a target position
a_constant_assigned : BreaksNameRule (program NoPart (does (assign (codes "maxint") 18))) rule.N7 18
a_constant_assigned = refl

an_index_assigned : BreaksNameRule (program NoPart (does (forall_ (codes "i") 27 (assign (codes "i") 60)))) rule.N7 60
an_index_assigned = refl

a_function_outside_itself : BreaksNameRule (program (one (function (codes "f") 20 NoPart NoStatement))
    (does (assign (codes "f") 85))) rule.N7 85
a_function_outside_itself = refl

a_function_in_itself : KeepsNameRules (declares (one (function (codes "f") 20 NoPart (does (assign (codes "f") 40)))))
a_function_in_itself = refl

a_function_in_its_forall : KeepsNameRules (declares (one
    (function (codes "f") 20 NoPart (does (forall_ (codes "i") 40 (assign (codes "f") 60))))))
a_function_in_its_forall = refl

a_function_in_one_inside : BreaksNameRule (declares (one
    (function (codes "f") 20 (one (function (codes "g") 30 NoPart (does (assign (codes "f") 50)))) NoStatement)))
    rule.N7 50
a_function_in_one_inside = refl

a_function_with_selectors : BreaksNameRule (declares
    (one (function (codes "f") 20 NoPart (does
    (Assign (Entire (name (codes "f") 40) (Select (Index (number 42)) Whole)) (number 48)))))) rule.N7 40
a_function_with_selectors = refl

a_constant_read : BreaksNameRule (program NoPart (does (call (codes "read") 30 (args (read (codes "maxint") 35)))))
    rule.N7 35
a_constant_read = refl

a_constant_read_with_a_width : BreaksNameRule (program NoPart
    (does (call (codes "read") 30 (widened (read (codes "maxint") 35))))) rule.N5 35
a_constant_read_with_a_width = refl

a_constant_as_a_variable_parameter : BreaksNameRule
    (program (one (procedure (formal_var (codes "x") 22 ∷ []) None NoStatement))
    (does (call (codes "q") 85 (args (read (codes "maxint") 87))))) rule.N7 87
a_constant_as_a_variable_parameter = refl

a_constant_as_a_value_parameter : KeepsNameRules (program
    (one (procedure (formal false (codes "x") 22 (codes "integer") ∷ []) None NoStatement))
    (does (call (codes "q") 85 (args (read (codes "maxint") 87)))))
a_constant_as_a_value_parameter = refl

-- a function with parameters, as a variable parameter
a_function_as_a_variable_parameter : BreaksNameRule
    (program (one (procedure (formal_var (codes "x") 22 ∷ []) None NoStatement))
    (does (call (codes "q") 85 (args (read (codes "odd") 87))))) rule.N7 87
a_function_as_a_variable_parameter = refl

-- N8: a variable of a `var` part of the innermost block
a_parameter_of_a_loop : BreaksNameRule (declares (one
    (procedure (formal false (codes "i") 22 (codes "integer") ∷ []) None (does (loop (codes "i") 47))))) rule.N8 47
a_parameter_of_a_loop = refl

a_variable_of_a_loop : KeepsNameRules (program (one (vars (codes "i") 16)) (does (loop (codes "i") 47)))
a_variable_of_a_loop = refl

a_variable_around_of_a_loop : BreaksNameRule (declares
    (Declare (vars (codes "i") 10) (one (procedure [] None (does (loop (codes "i") 47)))))) rule.N8 47
a_variable_around_of_a_loop = refl

a_loop_in_a_forall : KeepsNameRules
    (program (one (vars (codes "i") 16)) (does (forall_ (codes "j") 27 (loop (codes "i") 47))))
a_loop_in_a_forall = refl

a_constant_of_a_loop : BreaksNameRule (program NoPart (does (loop (codes "maxint") 47))) rule.N7 47
a_constant_of_a_loop = refl

-- standard names may be declared anew
a_standard_type_anew : BreaksNameRule (declares (Declare (Const (name (codes "integer") 12) (constant 22))
    (one (Var (name (codes "x") 30 ∷ []) (integer 33))))) rule.N3 33
a_standard_type_anew = refl

a_standard_procedure_anew : KeepsNameRules (program (one (vars (codes "read") 12)) (does (assign (codes "read") 30)))
a_standard_procedure_anew = refl
