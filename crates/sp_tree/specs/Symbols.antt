-- None of this belongs to what the program promises: it is for contracts between crates.
-- The symbols of the grammar: what may be pending while the tokens are taken one by one, and what each stands for.
-- The table, the machine and the parser's contracts speak of them. A symbol is a line of the grammar, or a place
-- inside a line where the next token decides how it goes on: the rest of a list (More..), what may be missing
-- (AnElse, AWidth, Formals, AHeading), what follows a name (AfterName, AReference). They are cut so that one token is
-- always enough to decide, which makes the table a function of symbol and token. The rest of a sum or product is a
-- function of what is before it, since operators group to the left.
use Rattle.std.specs.Prelude.{ℕ, Bool, List, [], ◌∷◌, ◌++◌, Option, Some, None}
use Rattle.sp_tree.specs.declared.token.Kind.{Kind}
use Rattle.sp_tree.specs.declared.syntax.Name.{Name}
use Rattle.sp_tree.specs.declared.syntax.SynConst.{SynConst}
use Rattle.sp_tree.specs.declared.syntax.SynValue.{SynValue}
use Rattle.sp_tree.specs.declared.syntax.SynKind.{SynKind}
use Rattle.sp_tree.specs.declared.syntax.SynFormal.{SynFormal}
use Rattle.sp_tree.specs.declared.syntax.SynGroup.{SynGroup}
use Rattle.sp_tree.specs.PlainSyntax as tree

-- a number says inside how many parts a symbol lies; a program lies in none, and in the others without one stands no
-- part
pub data Symbol : Type 0 where
  AToken : Kind → Symbol
  AName : Symbol
  AProgram : Symbol
  AHeading : Symbol
  MoreNames : Symbol
  AConstant : Symbol
  AValue : Symbol
  AType : Symbol
  MoreFields : Symbol
  FieldOrEnd : Symbol
  AFormal : Symbol
  MoreFormals : Symbol
  Formals : Symbol
  ABlock : ℕ → Symbol
  Parts : ℕ → Symbol
  MoreConstants : ℕ → Symbol
  MoreTypes : ℕ → Symbol
  MoreVariables : ℕ → Symbol
  AStatement : ℕ → Symbol
  AfterName : ℕ → Symbol
  AnElse : ℕ → Symbol
  MoreStatements : ℕ → Symbol
  MoreBranches : ℕ → Symbol
  MoreLabels : Symbol
  MoreArms : ℕ → Symbol
  ArmOrEnd : ℕ → Symbol
  ADirection : Symbol
  AnExpression : ℕ → Symbol
  ARelation : ℕ → Symbol
  ASimple : ℕ → Symbol
  MoreTerms : ℕ → Symbol
  ATerm : ℕ → Symbol
  MoreFactors : ℕ → Symbol
  AFactor : ℕ → Symbol
  ANegated : ℕ → Symbol
  AReference : ℕ → Symbol
  Selectors : ℕ → Symbol
  MoreIndices : ℕ → Symbol
  MoreArguments : ℕ → Symbol
  AWidth : ℕ → Symbol

-- what a symbol stands for; one that goes on with something is a function of it: with a name, or with a left operand
abbrev pub Value : Symbol → Type 0
Value (AToken k) = Unit {0}
Value AName = Name
Value AProgram = tree.Program
Value AHeading = List Name
Value MoreNames = List Name
Value AConstant = SynConst
Value AValue = SynValue
Value AType = SynKind
Value MoreFields = List SynGroup
Value FieldOrEnd = List SynGroup
Value AFormal = SynFormal
Value MoreFormals = List SynFormal
Value Formals = List SynFormal
Value (AStatement d) = tree.Statement
Value (AfterName d) = Name → tree.Form
Value (AnElse d) = tree.ElsePart
Value (MoreStatements d) = tree.Statements
Value (MoreBranches d) = tree.Branches
Value MoreLabels = List SynConst
Value (MoreArms d) = tree.Arms
Value (ArmOrEnd d) = tree.Arms
Value ADirection = Bool
Value (AnExpression d) = tree.Expression
Value (ARelation d) = tree.Expression → tree.Expression
Value (ASimple d) = tree.Expression
Value (MoreTerms d) = tree.Expression → tree.Expression
Value (ATerm d) = tree.Expression
Value (MoreFactors d) = tree.Expression → tree.Expression
Value (AFactor d) = tree.Expression
Value (ANegated d) = tree.Expression
Value (AReference d) = Name → tree.ExpressionForm
Value (Selectors d) = tree.Selectors
Value (MoreIndices d) = tree.Selectors
Value (MoreArguments d) = tree.Arguments
Value (AWidth d) = tree.Width
Value _ = tree.Block

-- what symbols one after another stand for: a pair of the first one's value and the others, and an empty value at the
-- end
abbrev pub Values : List Symbol → Type 0
Values [] = Unit {0}
Values (s ∷ l) = Value s × Values l

-- the values of two lists of symbols in a row, taken apart
abbrev pub split : (l m : List Symbol) → Values (l ++ m) → Values l × Values m
split [] m vs = (tt, vs)
split (s ∷ l) m vs = ((vs.0, (split l m vs.1).0), (split l m vs.1).1)

-- the symbols at which a part begins, with how many others it lies inside; none for every other symbol
abbrev pub part : Symbol → Option ℕ
part (ABlock d) = Some d
part (AStatement d) = Some d
part (AnExpression d) = Some d
part (ANegated d) = Some d
part s = None
