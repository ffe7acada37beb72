-- Each form of statement and of type in a program, and texts that are none, by running the machine.
use Rattle.std.proofs.Common.{◌≡◌, ℕ, zero, suc, List, [], ◌∷◌, ◌++◌, Some, None, map, replicate, refl}
use Rattle.sp_tree.specs.declared.token.Token.{Token}
use Rattle.sp_tree.specs.declared.token.Kind.{Kind}
use Rattle.sp_tree.specs.declared.token.Kind.TheVariants as kind
use Rattle.sp_tree.specs.Words as w
use Rattle.sp_tree.specs.Places.{start}
use Rattle.sp_tree.specs.PlainSyntax.{Program}
use Rattle.sp_tree.specs.Viable.{Any, Spells}
use Rattle.sp_tree.specs.Symbols.{AProgram}
use Rattle.sp_tree.specs.SymbolMachine.{Why, Bad, Deep, Done, StuckAt, run}
use Rattle.sp_tree.proofs.Existence.{spelled}

-- tokens that the machine takes whole spell a program
pub is_program : (text : List ℕ) (ts : List Token) → run None ts (AProgram ∷ []) ≡ Done → (p : Program)
    × Spells text ts p
is_program text ts e = spelled text Any None (λ d t us h. tt) ts e

-- tokens of these kinds
abbrev tokens : List Kind → List Token
tokens = map (λ k. record { kind = k; from = 0; to = 0; at = start })

-- a program with these statements, and one with these declarations
abbrev states : List Kind → List Kind
states ks = w.Program ∷ kind.Name ∷ w.Semicolon ∷ w.Begin ∷ ks ++ w.End ∷ w.Dot ∷ []

abbrev declares : List Kind → List Kind
declares ks = w.Program ∷ kind.Name ∷ w.Semicolon ∷ ks ++ w.Begin ∷ w.End ∷ w.Dot ∷ []

abbrev Accepted : List Kind → Type 0
Accepted ks = run (Some 200) (tokens ks) (AProgram ∷ []) ≡ Done

-- the machine gets stuck where these are left
abbrev Refused : Why → List Kind → List Kind → Type 0
Refused why ks rest = run (Some 200) (tokens ks) (AProgram ∷ []) ≡ StuckAt why (tokens rest)

-- program a; var x: integer; begin x := 6; write(x * 7) end.
whole_program : Accepted (w.Program ∷ kind.Name ∷ w.Semicolon ∷ w.Var ∷ kind.Name ∷ w.Colon ∷ kind.Name ∷ w.Semicolon
    ∷ w.Begin ∷ kind.Name ∷ w.Becomes ∷ kind.Number ∷ w.Semicolon ∷ kind.Name ∷ w.Open ∷ kind.Name ∷ w.Times
    ∷ kind.Number ∷ w.Close ∷ w.End ∷ w.Dot ∷ [])
whole_program = refl

-- its tree, whatever the text
pub whole_program_is_one : (text : List ℕ) → (p : Program)
    × Spells text (tokens (w.Program ∷ kind.Name ∷ w.Semicolon ∷ w.Var ∷ kind.Name ∷ w.Colon ∷ kind.Name ∷ w.Semicolon
    ∷ w.Begin ∷ kind.Name ∷ w.Becomes ∷ kind.Number ∷ w.Semicolon ∷ kind.Name ∷ w.Open ∷ kind.Name ∷ w.Times
    ∷ kind.Number ∷ w.Close ∷ w.End ∷ w.Dot ∷ [])) p
whole_program_is_one text = is_program text _ refl

-- the same without its end, and the empty text
no_end : Refused Bad (w.Program ∷ kind.Name ∷ w.Semicolon ∷ w.Var ∷ kind.Name ∷ w.Colon ∷ kind.Name ∷ w.Semicolon
    ∷ w.Begin ∷ kind.Name ∷ w.Becomes ∷ kind.Number ∷ w.Semicolon ∷ kind.Name ∷ w.Open ∷ kind.Name ∷ w.Times
    ∷ kind.Number ∷ w.Close ∷ []) []
no_end = refl

empty_text : Refused Bad [] []
empty_text = refl

nothing : Accepted (states ([]))
nothing = refl

assignment : Accepted (states (kind.Name ∷ w.Becomes ∷ kind.Number ∷ []))
assignment = refl

assignment_to_elements : Accepted (states (kind.Name ∷ w.OpenIndex ∷ kind.Number ∷ w.Comma ∷ kind.Number ∷ w.CloseIndex
    ∷ w.Dot ∷ kind.Name ∷ w.Becomes ∷ w.Minus ∷ kind.Name ∷ w.Plus ∷ kind.Number ∷ []))
assignment_to_elements = refl

assignment_to_a_field : Accepted (states (kind.Name ∷ w.Dot ∷ kind.Name ∷ w.Becomes ∷ w.Not ∷ kind.Name ∷ w.And ∷ w.Open
    ∷ kind.Name ∷ w.Or ∷ kind.Name ∷ w.Close ∷ []))
assignment_to_a_field = refl

plain_call : Accepted (states (kind.Name ∷ w.Semicolon ∷ kind.Name ∷ []))
plain_call = refl

call_with_width : Accepted (states (kind.Name ∷ w.Open ∷ kind.Name ∷ w.Colon ∷ kind.Number ∷ w.Comma ∷ kind.Text
    ∷ w.Close ∷ []))
call_with_width = refl

compound : Accepted (states (w.Begin ∷ w.Begin ∷ w.End ∷ w.Semicolon ∷ w.End ∷ []))
compound = refl

choice : Accepted (states (w.If ∷ kind.Name ∷ w.Then ∷ kind.Name ∷ []))
choice = refl

nearest_else : Accepted (states (w.If ∷ kind.Name ∷ w.Then ∷ w.If ∷ kind.Name ∷ w.Then ∷ kind.Name ∷ w.Else ∷ kind.Name
    ∷ w.Else ∷ kind.Name ∷ []))
nearest_else = refl

while_loop : Accepted (states (w.While ∷ kind.Name ∷ w.Less ∷ kind.Number ∷ w.Do ∷ kind.Name ∷ []))
while_loop = refl

repeat_loop : Accepted (states (w.Repeat ∷ kind.Name ∷ w.Semicolon ∷ w.Until ∷ kind.Name ∷ []))
repeat_loop = refl

for_upward : Accepted (states (w.For ∷ kind.Name ∷ w.Becomes ∷ kind.Number ∷ w.To ∷ kind.Number ∷ w.Do ∷ kind.Name
    ∷ []))
for_upward = refl

for_downward : Accepted (states (w.For ∷ kind.Name ∷ w.Becomes ∷ kind.Number ∷ w.Downto ∷ kind.Number ∷ w.Do ∷ kind.Name
    ∷ []))
for_downward = refl

case_choice : Accepted (states (w.Case ∷ kind.Name ∷ w.Of ∷ kind.Number ∷ w.Comma ∷ w.Minus ∷ kind.Name ∷ w.Colon
    ∷ kind.Name ∷ w.Semicolon ∷ kind.Text ∷ w.Colon ∷ w.Semicolon ∷ w.End ∷ []))
case_choice = refl

parallel : Accepted (states (w.Parallel ∷ kind.Name ∷ w.Semicolon ∷ kind.Name ∷ w.Bar ∷ w.Bar ∷ kind.Name ∷ w.End ∷ []))
parallel = refl

forall : Accepted (states (w.Forall ∷ kind.Name ∷ w.Becomes ∷ kind.Number ∷ w.To ∷ kind.Number ∷ w.Do ∷ kind.Name ∷ []))
forall = refl

assume : Accepted (states (w.Assume ∷ kind.Name ∷ w.Open ∷ kind.Number ∷ w.Close ∷ w.Equal ∷ kind.Name ∷ w.OpenIndex
    ∷ kind.Number ∷ w.CloseIndex ∷ w.Dot ∷ kind.Name ∷ []))
assume = refl

alias_part : Accepted (declares (w.Type' ∷ kind.Name ∷ w.Equal ∷ kind.Name ∷ w.Semicolon ∷ kind.Name ∷ w.Equal
    ∷ kind.Name ∷ w.Semicolon ∷ []))
alias_part = refl

enumeration_part : Accepted (declares (w.Type' ∷ kind.Name ∷ w.Equal ∷ w.Open ∷ kind.Name ∷ w.Comma ∷ kind.Name
    ∷ w.Close ∷ w.Semicolon ∷ []))
enumeration_part = refl

array_part : Accepted (declares (w.Type' ∷ kind.Name ∷ w.Equal ∷ w.Array ∷ w.OpenIndex ∷ w.Minus ∷ kind.Number ∷ w.Range
    ∷ kind.Name ∷ w.CloseIndex ∷ w.Of ∷ kind.Name ∷ w.Semicolon ∷ []))
array_part = refl

record_part : Accepted (declares (w.Type' ∷ kind.Name ∷ w.Equal ∷ w.Record ∷ kind.Name ∷ w.Comma ∷ kind.Name ∷ w.Colon
    ∷ kind.Name ∷ w.Semicolon ∷ kind.Name ∷ w.Colon ∷ kind.Name ∷ w.Semicolon ∷ w.End ∷ w.Semicolon ∷ []))
record_part = refl

record_without_last_semicolon_part : Accepted
    (declares (w.Type' ∷ kind.Name ∷ w.Equal ∷ w.Record ∷ kind.Name ∷ w.Colon ∷ kind.Name ∷ w.End ∷ w.Semicolon ∷ []))
record_without_last_semicolon_part = refl

channel_part : Accepted (declares (w.Type' ∷ kind.Name ∷ w.Equal ∷ w.Times ∷ w.Open ∷ kind.Name ∷ w.Comma ∷ kind.Name
    ∷ w.Close ∷ w.Semicolon ∷ []))
channel_part = refl

constants_part : Accepted (declares (w.Const ∷ kind.Name ∷ w.Equal ∷ kind.Number ∷ w.Semicolon ∷ kind.Name ∷ w.Equal
    ∷ kind.Text ∷ w.Semicolon ∷ []))
constants_part = refl

variables_part : Accepted (declares (w.Var ∷ kind.Name ∷ w.Comma ∷ kind.Name ∷ w.Colon ∷ kind.Name ∷ w.Semicolon
    ∷ kind.Name ∷ w.Colon ∷ kind.Name ∷ w.Semicolon ∷ []))
variables_part = refl

procedure_part : Accepted (declares (w.Procedure ∷ kind.Name ∷ w.Open ∷ kind.Name ∷ w.Comma ∷ kind.Name ∷ w.Colon
    ∷ kind.Name ∷ w.Semicolon ∷ w.Var ∷ kind.Name ∷ w.Colon ∷ kind.Name ∷ w.Close ∷ w.Semicolon ∷ w.Var ∷ kind.Name
    ∷ w.Colon ∷ kind.Name ∷ w.Semicolon ∷ w.Begin ∷ kind.Name ∷ w.End ∷ w.Semicolon ∷ []))
procedure_part = refl

function_part : Accepted (declares (w.Function ∷ kind.Name ∷ w.Colon ∷ kind.Name ∷ w.Semicolon ∷ w.Begin ∷ kind.Name
    ∷ w.Becomes ∷ kind.Number ∷ w.End ∷ w.Semicolon ∷ []))
function_part = refl

no_comparison_statement : Refused Bad (states (kind.Name ∷ w.Equal ∷ kind.Number ∷ []))
    (w.Equal ∷ kind.Number ∷ w.End ∷ w.Dot ∷ [])
no_comparison_statement = refl

no_empty_arguments : Refused Bad (states (kind.Name ∷ w.Open ∷ w.Close ∷ [])) (w.Close ∷ w.End ∷ w.Dot ∷ [])
no_empty_arguments = refl

no_choice_without_then : Refused Bad (states (w.If ∷ kind.Name ∷ kind.Name ∷ [])) (kind.Name ∷ w.End ∷ w.Dot ∷ [])
no_choice_without_then = refl

no_second_else : Refused Bad (states (w.If ∷ kind.Name ∷ w.Then ∷ kind.Name ∷ w.Else ∷ kind.Name ∷ w.Else ∷ kind.Name
    ∷ [])) (w.Else ∷ kind.Name ∷ w.End ∷ w.Dot ∷ [])
no_second_else = refl

no_while_without_do : Refused Bad (states (w.While ∷ kind.Name ∷ w.Semicolon ∷ [])) (w.Semicolon ∷ w.End ∷ w.Dot ∷ [])
no_while_without_do = refl

no_repeat_without_until : Refused Bad (states (w.Repeat ∷ kind.Name ∷ [])) (w.End ∷ w.Dot ∷ [])
no_repeat_without_until = refl

no_for_without_limit : Refused Bad (states (w.For ∷ kind.Name ∷ w.Becomes ∷ kind.Number ∷ w.Do ∷ kind.Name ∷ []))
    (w.Do ∷ kind.Name ∷ w.End ∷ w.Dot ∷ [])
no_for_without_limit = refl

no_case_without_arm : Refused Bad (states (w.Case ∷ kind.Name ∷ w.Of ∷ [])) (w.End ∷ w.Dot ∷ [])
no_case_without_arm = refl

no_two_semicolons_in_case : Refused Bad (states
    (w.Case ∷ kind.Name ∷ w.Of ∷ kind.Number ∷ w.Colon ∷ kind.Name ∷ w.Semicolon ∷ w.Semicolon ∷ w.End ∷ []))
    (w.Semicolon ∷ w.End ∷ w.End ∷ w.Dot ∷ [])
no_two_semicolons_in_case = refl

no_parallel_with_until : Refused Bad (states (w.Parallel ∷ kind.Name ∷ w.Until ∷ [])) (w.Until ∷ w.End ∷ w.Dot ∷ [])
no_parallel_with_until = refl

no_forall_downward : Refused Bad (states (w.Forall ∷ kind.Name ∷ w.Becomes ∷ kind.Number ∷ w.Downto ∷ kind.Number ∷ w.Do
    ∷ kind.Name ∷ [])) (w.Downto ∷ kind.Number ∷ w.Do ∷ kind.Name ∷ w.End ∷ w.Dot ∷ [])
no_forall_downward = refl

no_assume_without_expression : Refused Bad (states (w.Assume ∷ w.Semicolon ∷ kind.Name ∷ []))
    (w.Semicolon ∷ kind.Name ∷ w.End ∷ w.Dot ∷ [])
no_assume_without_expression = refl

no_target_of_a_call : Refused Bad (states (kind.Name ∷ w.Open ∷ kind.Name ∷ w.Close ∷ w.Becomes ∷ kind.Number ∷ []))
    (w.Becomes ∷ kind.Number ∷ w.End ∷ w.Dot ∷ [])
no_target_of_a_call = refl

no_chain_of_relations : Refused Bad (states (kind.Name ∷ w.Becomes ∷ kind.Name ∷ w.Less ∷ kind.Name ∷ w.Less ∷ kind.Name
    ∷ [])) (w.Less ∷ kind.Name ∷ w.End ∷ w.Dot ∷ [])
no_chain_of_relations = refl

no_sign_after_an_operator : Refused Bad (states
    (kind.Name ∷ w.Becomes ∷ kind.Name ∷ w.Times ∷ w.Minus ∷ kind.Name ∷ [])) (w.Minus ∷ kind.Name ∷ w.End ∷ w.Dot ∷ [])
no_sign_after_an_operator = refl

no_array_without_of : Refused Bad (declares (w.Type' ∷ kind.Name ∷ w.Equal ∷ w.Array ∷ w.OpenIndex ∷ kind.Number
    ∷ w.Range ∷ kind.Number ∷ w.CloseIndex ∷ kind.Name ∷ w.Semicolon ∷ []))
    (kind.Name ∷ w.Semicolon ∷ w.Begin ∷ w.End ∷ w.Dot ∷ [])
no_array_without_of = refl

no_empty_record : Refused Bad (declares (w.Type' ∷ kind.Name ∷ w.Equal ∷ w.Record ∷ w.End ∷ w.Semicolon ∷ []))
    (w.End ∷ w.Semicolon ∷ w.Begin ∷ w.End ∷ w.Dot ∷ [])
no_empty_record = refl

no_channel_without_types : Refused Bad (declares (w.Type' ∷ kind.Name ∷ w.Equal ∷ w.Times ∷ w.Semicolon ∷ []))
    (w.Semicolon ∷ w.Begin ∷ w.End ∷ w.Dot ∷ [])
no_channel_without_types = refl

no_empty_enumeration : Refused Bad (declares (w.Type' ∷ kind.Name ∷ w.Equal ∷ w.Open ∷ w.Close ∷ w.Semicolon ∷ []))
    (w.Close ∷ w.Semicolon ∷ w.Begin ∷ w.End ∷ w.Dot ∷ [])
no_empty_enumeration = refl

no_negative_text : Refused Bad (declares (w.Const ∷ kind.Name ∷ w.Equal ∷ w.Minus ∷ kind.Text ∷ w.Semicolon ∷ []))
    (kind.Text ∷ w.Semicolon ∷ w.Begin ∷ w.End ∷ w.Dot ∷ [])
no_negative_text = refl

no_function_without_type : Refused Bad (declares
    (w.Function ∷ kind.Name ∷ w.Semicolon ∷ w.Begin ∷ w.End ∷ w.Semicolon ∷ []))
    (w.Semicolon ∷ w.Begin ∷ w.End ∷ w.Semicolon ∷ w.Begin ∷ w.End ∷ w.Dot ∷ [])
no_function_without_type = refl

nothing_behind_the_last_dot : Refused Bad (states [] ++ w.Semicolon ∷ []) (w.Semicolon ∷ [])
nothing_behind_the_last_dot = refl

-- 199 compounds inside the program's own, and one more
deep_enough : Accepted (states (replicate 199 w.Begin ++ replicate 199 w.End))
deep_enough = refl

too_deep : Refused Deep (states (replicate 200 w.Begin ++ replicate 200 w.End))
    (w.Begin ∷ replicate 201 w.End ++ w.Dot ∷ [])
too_deep = refl

-- so many times the same
abbrev repeated : ℕ → List Kind → List Kind
repeated zero ks = []
repeated (suc n) ks = ks ++ repeated n ks

-- 197 factors after `not`, and one more
negated_enough : Accepted (states (kind.Name ∷ w.Becomes ∷ replicate 197 w.Not ++ kind.Name ∷ []))
negated_enough = refl

negated_too_deep : Refused Deep (states (kind.Name ∷ w.Becomes ∷ replicate 198 w.Not ++ kind.Name ∷ []))
    (kind.Name ∷ w.End ∷ w.Dot ∷ [])
negated_too_deep = refl

-- 197 expressions in parentheses, and one more
expressions_enough : Accepted (states (kind.Name ∷ w.Becomes ∷ replicate 197 w.Open
    ++ kind.Name ∷ replicate 197 w.Close))
expressions_enough = refl

expressions_too_deep : Refused Deep (states (kind.Name ∷ w.Becomes ∷ replicate 198 w.Open
    ++ kind.Name ∷ replicate 198 w.Close)) (kind.Name ∷ replicate 198 w.Close ++ w.End ∷ w.Dot ∷ [])
expressions_too_deep = refl

-- 199 blocks inside the program's own, and one more
blocks_enough : Accepted (declares (repeated 199 (w.Procedure ∷ kind.Name ∷ w.Semicolon ∷ [])
    ++ repeated 199 (w.Begin ∷ w.End ∷ w.Semicolon ∷ [])))
blocks_enough = refl

blocks_too_deep : Refused Deep (declares (repeated 200 (w.Procedure ∷ kind.Name ∷ w.Semicolon ∷ [])
    ++ repeated 200 (w.Begin ∷ w.End ∷ w.Semicolon ∷ [])))
    (repeated 200 (w.Begin ∷ w.End ∷ w.Semicolon ∷ []) ++ w.Begin ∷ w.End ∷ w.Dot ∷ [])
blocks_too_deep = refl
