-- None of this belongs to what the program promises: it is for contracts between crates.
-- The productions of expressions, for the contracts of the parser of expressions: under each line of the grammar its
-- symbols and the tree that they make. `d` says inside how many parts an expression lies. What goes on with something
-- that is read before takes it as an argument: the place `at` of a first token, a name, or the selectors so far.
use Rattle.std.specs.Prelude.{ℕ, List, [], ◌∷◌}
use Rattle.sp_base.specs.declared.place.Place.{Place}
use Rattle.sp_tree.specs.declared.operators.UnaryOp.TheVariants as unary
use Rattle.sp_tree.specs.declared.syntax.Name.{Name}
use Rattle.sp_tree.specs.declared.syntax.SynExpr.{SynExpr}
use Rattle.sp_tree.specs.declared.syntax.SynSelector.{SynSelector}
use Rattle.sp_tree.specs.PlainSyntax as tree
use Rattle.sp_tree.specs.SyntaxOf.{expression_of}
use Rattle.sp_tree.specs.Symbols.{AnExpression, MoreFactors, AFactor, ANegated, AReference, MoreIndices}
use Rattle.sp_tree.specs.Symbols.{MoreArguments, AWidth}
use Rattle.sp_parse.specs.Productions.{Production, production}
use Rattle.sp_parse.specs.Trees.{and_selectors}

-- simple = [ "+" | "-" ] term { ( "+" | "-" | "or" ) term }, where this much is read and the terms behind it are
-- pending
abbrev pub continued_expression : SynExpr → (tree.Expression → tree.Expression) → tree.Expression
continued_expression sum terms = terms (expression_of sum)

-- term = factor { ( "*" | "div" | "mod" | "and" ) factor }
abbrev pub term : ℕ → Production tree.Expression
term d = production (AFactor d ∷ MoreFactors d ∷ []) (λ (first, (factors, _)). factors first)

-- factor = "not" factor
abbrev pub negation : ℕ → Place → Production tree.Expression
negation d at = production (ANegated d ∷ []) (λ (inner, _). tree.ExpressionAt at (tree.Unary unary.Not inner))

-- factor = variable | call, behind the name that either begins with
abbrev pub reference : ℕ → Place → Name → Production tree.Expression
reference d at name = production (AReference d ∷ []) (λ (form_of, _). tree.ExpressionAt at (form_of name))

-- variable = name { "[" expression { "," expression } "]" | "." name }, the indices behind one "["
abbrev pub indices : ℕ → List SynSelector → Production tree.Selectors
indices d before = production (AnExpression d ∷ MoreIndices d ∷ [])
    (λ (index, (more, _)). and_selectors before (tree.Select (tree.Index index) more))

-- call = name [ "(" argument { "," argument } ")" ], the arguments behind the "("
abbrev pub arguments : ℕ → Production tree.Arguments
arguments d = production (AnExpression d ∷ AWidth d ∷ MoreArguments d ∷ [])
    (λ (value, (width, (more, _))). tree.AndArgument (tree.Pass value width) more)
