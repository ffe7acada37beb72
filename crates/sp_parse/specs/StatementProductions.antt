-- None of this belongs to what the program promises: it is for contracts between crates.
-- The productions of statements, for the contracts of the parser of statements: under each line of the grammar its
-- symbols and the statement that they make. `d` says inside how many parts what stands in the statement lies, and `at`
-- is the place of the statement's first token, which is read before.
use Rattle.std.specs.Prelude.{ℕ, List, [], ◌∷◌}
use Rattle.sp_base.specs.declared.place.Place.{Place}
use Rattle.sp_tree.specs.declared.syntax.Name.{Name}
use Rattle.sp_tree.specs.declared.syntax.SynConst.{SynConst}
use Rattle.sp_tree.specs.Words as w
use Rattle.sp_tree.specs.PlainSyntax.{Statement, Statements, Arms, Does}
use Rattle.sp_tree.specs.PlainSyntax.{If, While, Repeat, Case, For, Parallel, Forall, AndThen, On, Or}
use Rattle.sp_tree.specs.PlainSyntax.{Beside}
use Rattle.sp_tree.specs.Symbols.{AToken, AName, AConstant, AStatement, AfterName, AnElse, MoreStatements}
use Rattle.sp_tree.specs.Symbols.{MoreBranches, MoreLabels, MoreArms, ADirection, AnExpression}
use Rattle.sp_parse.specs.Productions.{Production, production}

-- sequence = statement { ";" statement }
abbrev pub sequence : ℕ → Production Statements
sequence d = production (AStatement d ∷ MoreStatements d ∷ []) (λ (first, (more, _)). AndThen first more)

-- compound = "begin" sequence "end"
abbrev pub compound : ℕ → Production Statements
compound d = production (AStatement d ∷ MoreStatements d ∷ AToken w.End ∷ []) (λ (first, (more, _)). AndThen first more)

-- what stands behind the name that a statement begins with: `:=` and an expression, arguments, selectors, or nothing
abbrev pub after_name : ℕ → Place → Name → Production Statement
after_name d at name = production (AfterName d ∷ []) (λ (form_of, _). Does at (form_of name))

-- if = "if" expression "then" statement [ "else" statement ]
abbrev pub if_statement : ℕ → Place → Production Statement
if_statement d at = production (AnExpression d ∷ AToken w.Then ∷ AStatement d ∷ AnElse d ∷ [])
    (λ (test, (_, (body, (other, _)))). Does at (If test body other))

-- while = "while" expression "do" statement
abbrev pub while_statement : ℕ → Place → Production Statement
while_statement d at = production (AnExpression d ∷ AToken w.Do ∷ AStatement d ∷ [])
    (λ (test, (_, (body, _))). Does at (While test body))

-- repeat = "repeat" sequence "until" expression
abbrev pub repeat_statement : ℕ → Place → Production Statement
repeat_statement d at = production (AStatement d ∷ MoreStatements d ∷ AToken w.Until ∷ AnExpression d ∷ [])
    (λ (first, (more, (_, (test, _)))). Does at (Repeat (AndThen first more) test))

-- for = "for" name ":=" expression ( "to" | "downto" ) expression "do" statement
abbrev pub for_statement : ℕ → Place → Production Statement
for_statement d at = production
    (AName ∷ AToken w.Becomes ∷ AnExpression d ∷ ADirection ∷ AnExpression d ∷ AToken w.Do ∷ AStatement d ∷ [])
    (λ (name, (_, (from, (down, (to, (_, (body, _))))))). Does at (For name from down to body))

-- forall = "forall" name ":=" expression "to" expression "do" statement
abbrev pub forall_statement : ℕ → Place → Production Statement
forall_statement d at = production
    (AName ∷ AToken w.Becomes ∷ AnExpression d ∷ AToken w.To ∷ AnExpression d ∷ AToken w.Do ∷ AStatement d ∷ [])
    (λ (name, (_, (from, (_, (to, (_, (body, _))))))). Does at (Forall name from to body))

-- case = "case" expression "of" arm { ";" arm } [ ";" ] "end"
abbrev pub case_statement : ℕ → Place → Production Statement
case_statement d at = production
    (AnExpression d ∷ AToken w.Of ∷ AConstant ∷ MoreLabels ∷ AStatement d ∷ MoreArms d ∷ [])
    (λ (test, (_, (label, (labels, (body, (more, _)))))). Does at (Case test (Or (On (label ∷ labels) body) more)))

-- the arms of it, up to the `end`
abbrev pub arms : ℕ → Production Arms
arms d = production (AConstant ∷ MoreLabels ∷ AStatement d ∷ MoreArms d ∷ [])
    (λ (label, (labels, (body, (more, _)))). Or (On (label ∷ labels) body) more)

-- the constants of it, up to the colon
abbrev pub labels : Production (List SynConst)
labels = production (AConstant ∷ MoreLabels ∷ []) (λ (label, (labels, _)). label ∷ labels)

-- parallel = "parallel" sequence { "|" sequence } "end"
abbrev pub parallel_statement : ℕ → Place → Production Statement
parallel_statement d at = production (AStatement d ∷ MoreStatements d ∷ MoreBranches d ∷ [])
    (λ (first, (statements, (more, _))). Does at (Parallel (Beside (AndThen first statements) more)))
