-- None of this belongs to what the program promises: it is for contracts between crates.
-- What each symbol is in the grammar of `sp_tree`, for the proofs that the table derives what the grammar says and
-- nothing else. One clause for each symbol, with the family of the grammar that it names. Where a symbol begins in
-- the middle of a line, the clause adds what is before it: the name before AfterName, the `;` before ArmOrEnd and
-- FieldOrEnd, the left operand before a relation, more terms or more factors. So every promise about symbols is one
-- about lines of the grammar.
use Rattle.std.specs.Prelude.{ℕ, suc, List, [], ◌∷◌}
use Rattle.sp_tree.specs.declared.token.Token.{Token}
use Rattle.sp_tree.specs.declared.syntax.Name.{Name}
use Rattle.sp_tree.specs.Words as w
use Rattle.sp_tree.specs.PlainSyntax as tree
use Rattle.sp_tree.specs.Grammar as g
use Rattle.sp_tree.specs.Symbols.{Symbol, AToken, AName, AProgram, AHeading, MoreNames, AConstant, AValue, AType}
use Rattle.sp_tree.specs.Symbols.{MoreFields, FieldOrEnd, AFormal, MoreFormals, Formals, ABlock, Parts}
use Rattle.sp_tree.specs.Symbols.{MoreConstants, MoreTypes, MoreVariables, AStatement, AfterName, AnElse}
use Rattle.sp_tree.specs.Symbols.{MoreStatements, MoreBranches, MoreLabels, MoreArms, ArmOrEnd, ADirection}
use Rattle.sp_tree.specs.Symbols.{AnExpression, ARelation, ASimple, MoreTerms, ATerm, MoreFactors, AFactor, ANegated}
use Rattle.sp_tree.specs.Symbols.{AReference, Selectors, MoreIndices, MoreArguments, AWidth, Value, Values}

module _ (text : List ℕ) (Ok : ℕ → List Token → Type 0) where
  -- a symbol is this value from the first tokens to the second
  abbrev pub Means : (s : Symbol) → List Token → List Token → Value s → Type 0
  Means (AToken k) ts r v = g.Is k ts r
  Means AName ts r v = g.IsName text ts r v
  Means AProgram ts r v = g.IsProgram text Ok ts r v
  Means AHeading ts r v = g.IsHeading text ts r v
  Means MoreNames ts r v = g.IsMoreNames text ts r v
  Means AConstant ts r v = g.IsConstant text ts r v
  Means AValue ts r v = g.IsValue text ts r v
  Means AType ts r v = g.IsType text ts r v
  Means MoreFields ts r v = g.IsMoreFields text ts r v
  Means FieldOrEnd ts r v = (us : List Token) → g.Is w.Semicolon us ts → g.IsMoreFields text us r v
  Means AFormal ts r v = g.IsFormal text ts r v
  Means MoreFormals ts r v = g.IsMoreFormals text ts r v
  Means Formals ts r v = g.IsFormals text ts r v
  Means (ABlock d) ts r v = g.IsBlock text Ok d ts r v
  Means (Parts d) ts r v = g.IsParts text Ok d ts r v
  Means (MoreConstants d) ts r v = g.IsMoreConstants text Ok d ts r v
  Means (MoreTypes d) ts r v = g.IsMoreTypes text Ok d ts r v
  Means (MoreVariables d) ts r v = g.IsMoreVariables text Ok d ts r v
  Means (AStatement d) ts r v = g.IsStatement text Ok d ts r v
  Means (AfterName d) ts r v = (us : List Token) (n : Name) → g.IsName text us ts n → g.IsForm text Ok d us r (v n)
  Means (AnElse d) ts r v = g.IsElse text Ok d ts r v
  Means (MoreStatements d) ts r v = g.IsMoreStatements text Ok d ts r v
  Means (MoreBranches d) ts r v = g.IsMoreBranches text Ok d ts r v
  Means MoreLabels ts r v = g.IsMoreLabels text Ok ts r v
  Means (MoreArms d) ts r v = g.IsMoreArms text Ok d ts r v
  Means (ArmOrEnd d) ts r v = (us : List Token) → g.Is w.Semicolon us ts → g.IsMoreArms text Ok d us r v
  Means ADirection ts r v = g.IsDirection text Ok ts r v
  Means (AnExpression d) ts r v = g.IsExpression text Ok d ts r v
  Means (ARelation d) ts r v = (a : tree.Expression) → g.IsRelation text Ok d a ts r (v a)
  Means (ASimple d) ts r v = g.IsSimple text Ok d ts r v
  Means (MoreTerms d) ts r v = (a : tree.Expression) → g.IsMoreTerms text Ok d a ts r (v a)
  Means (ATerm d) ts r v = g.IsTerm text Ok d ts r v
  Means (MoreFactors d) ts r v = (a : tree.Expression) → g.IsMoreFactors text Ok d a ts r (v a)
  Means (AFactor d) ts r v = g.IsFactor text Ok d ts r v
  Means (ANegated d) ts r v = Ok d ts × g.IsFactor text Ok (suc d) ts r v
  Means (AReference d) ts r v = (t : Token) (us : List Token) (n : Name) → g.IsName text (t ∷ us) ts n
      → g.IsFactor text Ok d (t ∷ us) r (tree.ExpressionAt t.at (v n))
  Means (Selectors d) ts r v = g.IsSelectors text Ok d ts r v
  Means (MoreIndices d) ts r v = g.IsMoreIndices text Ok d ts r v
  Means (MoreArguments d) ts r v = g.IsMoreArguments text Ok d ts r v
  Means (AWidth d) ts r v = g.IsWidth text Ok d ts r v

  -- one symbol after another
  pub data MeansAll : (l : List Symbol) → List Token → List Token → Values l → Type 0 where
    none : {r : List Token} → MeansAll [] r r tt
    and : {s : Symbol} {l : List Symbol} {ts u r : List Token} {v : Value s} {vs : Values l} → Means s ts u v
        → MeansAll l u r vs → MeansAll (s ∷ l) ts r (v, vs)
