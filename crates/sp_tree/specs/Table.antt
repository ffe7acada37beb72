-- None of this belongs to what the program promises: it is for contracts between crates.
-- The table of the grammar: what each symbol leaves behind a token that it takes, and what it then stands for. A
-- symbol that takes none of its tokens may stand for nothing. Derives and the machine are both read off it, which
-- makes them agree. A row is first a member of a family (`Row s k l`: at a token of kind k the symbol s leaves the
-- symbols l), so that a proof goes by its cases and the type of what it builds is known; `rows` then lists the rows
-- of each symbol, so that a row can be looked up by a token. What several symbols begin with (the parts of a block,
-- the forms of a statement, selectors, factors) is a family of its own, and stands once.
use Rattle.std.specs.Prelude.{ℕ, suc, Bool, true, false, ◌==◌, cond, List, [], ◌∷◌, ◌++◌, map, Option, Some, None}
use Rattle.sp_tree.specs.declared.token.Token.{Token}
use Rattle.sp_tree.specs.declared.token.Kind.{Kind}
use Rattle.sp_tree.specs.declared.token.Kind.TheVariants as kind
use Rattle.sp_tree.specs.declared.operators.UnaryOp.TheVariants as unary
use Rattle.sp_tree.specs.declared.operators.BinaryOp.{BinaryOp}
use Rattle.sp_tree.specs.declared.syntax.SynConst.{SynConst}
use Rattle.sp_tree.specs.declared.syntax.SynValue.TheVariants as value
use Rattle.sp_tree.specs.declared.syntax.SynKind.TheVariants as kinds
use Rattle.sp_tree.specs.Words as w
use Rattle.sp_tree.specs.Spelling.{name_of, number_of, quoted_of}
use Rattle.sp_tree.specs.PlainSyntax as tree
use Rattle.sp_tree.specs.Grammar.{IsRelational, equal, unequal, less, at_most, greater, at_least, IsAdding, plus, minus}
use Rattle.sp_tree.specs.Grammar.{or, IsMultiplying, times, quotient, modulo, and, binary_at_left, with_place}
use Rattle.sp_tree.specs.Grammar.{with_part_first}
use Rattle.sp_tree.specs.Symbols.{Symbol, AToken, AName, AProgram, AHeading, MoreNames, AConstant, AValue, AType}
use Rattle.sp_tree.specs.Symbols.{MoreFields, FieldOrEnd, AFormal, MoreFormals, Formals, ABlock, Parts}
use Rattle.sp_tree.specs.Symbols.{MoreConstants, MoreTypes, MoreVariables, AStatement, AfterName, AnElse}
use Rattle.sp_tree.specs.Symbols.{MoreStatements, MoreBranches, MoreLabels, MoreArms, ArmOrEnd, ADirection}
use Rattle.sp_tree.specs.Symbols.{AnExpression, ARelation, ASimple, MoreTerms, ATerm, MoreFactors, AFactor, ANegated}
use Rattle.sp_tree.specs.Symbols.{AReference, Selectors, MoreIndices, MoreArguments, AWidth, Value, Values, split}

-- a constant
pub data ConstantRow : Kind → List Symbol → Type 0 where
  constant_number : ConstantRow kind.Number []
  constant_name : ConstantRow kind.Name []
  constant_text : ConstantRow kind.Text []
  constant_plus : ConstantRow w.Plus (AValue ∷ [])
  constant_minus : ConstantRow w.Minus (AValue ∷ [])

-- the declarations and the statement part of a block
pub data PartsRow : ℕ → Kind → List Symbol → Type 0 where
  parts_begin : {d : ℕ} → PartsRow d w.Begin (AStatement d ∷ MoreStatements d ∷ AToken w.End ∷ [])
  parts_const : {d : ℕ} → PartsRow d w.Const
      (AName ∷ AToken w.Equal ∷ AConstant ∷ AToken w.Semicolon ∷ MoreConstants d ∷ [])
  parts_type : {d : ℕ} → PartsRow d w.Type' (AName ∷ AToken w.Equal ∷ AType ∷ AToken w.Semicolon ∷ MoreTypes d ∷ [])
  parts_var : {d : ℕ} → PartsRow d w.Var (AName ∷ MoreNames ∷ AToken w.Colon ∷ AName ∷ AToken w.Semicolon
      ∷ MoreVariables d ∷ [])
  parts_procedure : {d : ℕ} → PartsRow d w.Procedure
      (AName ∷ Formals ∷ AToken w.Semicolon ∷ ABlock d ∷ AToken w.Semicolon ∷ Parts d ∷ [])
  parts_function : {d : ℕ} → PartsRow d w.Function
      (AName ∷ Formals ∷ AToken w.Colon ∷ AName ∷ AToken w.Semicolon ∷ ABlock d ∷ AToken w.Semicolon ∷ Parts d ∷ [])

-- a statement that is not empty
pub data FormRow : ℕ → Kind → List Symbol → Type 0 where
  form_name : {d : ℕ} → FormRow d kind.Name (AfterName d ∷ [])
  form_begin : {d : ℕ} → FormRow d w.Begin (AStatement d ∷ MoreStatements d ∷ AToken w.End ∷ [])
  form_if : {d : ℕ} → FormRow d w.If (AnExpression d ∷ AToken w.Then ∷ AStatement d ∷ AnElse d ∷ [])
  form_while : {d : ℕ} → FormRow d w.While (AnExpression d ∷ AToken w.Do ∷ AStatement d ∷ [])
  form_repeat : {d : ℕ} → FormRow d w.Repeat (AStatement d ∷ MoreStatements d ∷ AToken w.Until ∷ AnExpression d ∷ [])
  form_for : {d : ℕ} → FormRow d w.For (AName ∷ AToken w.Becomes ∷ AnExpression d ∷ ADirection ∷ AnExpression d
      ∷ AToken w.Do ∷ AStatement d ∷ [])
  form_case : {d : ℕ} → FormRow d w.Case (AnExpression d ∷ AToken w.Of ∷ AConstant ∷ MoreLabels ∷ AStatement d
      ∷ MoreArms d ∷ [])
  form_parallel : {d : ℕ} → FormRow d w.Parallel (AStatement d ∷ MoreStatements d ∷ MoreBranches d ∷ [])
  form_forall : {d : ℕ} → FormRow d w.Forall
      (AName ∷ AToken w.Becomes ∷ AnExpression d ∷ AToken w.To ∷ AnExpression d ∷ AToken w.Do ∷ AStatement d ∷ [])
  form_assume : {d : ℕ} → FormRow d w.Assume (AnExpression d ∷ [])

-- a selector
pub data SelectorRow : ℕ → Kind → List Symbol → Type 0 where
  selector_index : {d : ℕ} → SelectorRow d w.OpenIndex (AnExpression d ∷ MoreIndices d ∷ [])
  selector_field : {d : ℕ} → SelectorRow d w.Dot (AName ∷ Selectors d ∷ [])

-- a factor
pub data FactorRow : ℕ → Kind → List Symbol → Type 0 where
  factor_number : {d : ℕ} → FactorRow d kind.Number []
  factor_text : {d : ℕ} → FactorRow d kind.Text []
  factor_name : {d : ℕ} → FactorRow d kind.Name (AReference d ∷ [])
  factor_open : {d : ℕ} → FactorRow d w.Open (AnExpression d ∷ AToken w.Close ∷ [])
  factor_not : {d : ℕ} → FactorRow d w.Not (ANegated d ∷ [])

-- a simple expression
pub data SimpleRow : ℕ → Kind → List Symbol → Type 0 where
  simple_factor : {d : ℕ} {k : Kind} {l : List Symbol} → FactorRow d k l
      → SimpleRow d k (l ++ MoreFactors d ∷ MoreTerms d ∷ [])
  simple_plus : {d : ℕ} → SimpleRow d w.Plus (ATerm d ∷ MoreTerms d ∷ [])
  simple_minus : {d : ℕ} → SimpleRow d w.Minus (ATerm d ∷ MoreTerms d ∷ [])

-- a symbol takes a token of this kind, and leaves these
pub data Row : Symbol → Kind → List Symbol → Type 0 where
  token : {k : Kind} → Row (AToken k) k []
  name : Row AName kind.Name []
  program : Row AProgram w.Program (AName ∷ AHeading ∷ AToken w.Semicolon ∷ ABlock 0 ∷ AToken w.Dot ∷ [])
  heading : Row AHeading w.Open (AName ∷ MoreNames ∷ AToken w.Close ∷ [])
  next_name : Row MoreNames w.Comma (AName ∷ MoreNames ∷ [])
  constant : {k : Kind} {l : List Symbol} → ConstantRow k l → Row AConstant k l
  value_number : Row AValue kind.Number []
  value_name : Row AValue kind.Name []
  alias : Row AType kind.Name []
  enumeration : Row AType w.Open (AName ∷ MoreNames ∷ AToken w.Close ∷ [])
  array : Row AType w.Array (AToken w.OpenIndex ∷ AConstant ∷ AToken w.Range ∷ AConstant ∷ AToken w.CloseIndex
      ∷ AToken w.Of ∷ AName ∷ [])
  fields : Row AType w.Record (AName ∷ MoreNames ∷ AToken w.Colon ∷ AName ∷ MoreFields ∷ [])
  channel : Row AType w.Times (AToken w.Open ∷ AName ∷ MoreNames ∷ AToken w.Close ∷ [])
  fields_end : Row MoreFields w.End []
  fields_go_on : Row MoreFields w.Semicolon (FieldOrEnd ∷ [])
  no_field : Row FieldOrEnd w.End []
  next_field : Row FieldOrEnd kind.Name (MoreNames ∷ AToken w.Colon ∷ AName ∷ MoreFields ∷ [])
  by_value : Row AFormal kind.Name (MoreNames ∷ AToken w.Colon ∷ AName ∷ [])
  by_reference : Row AFormal w.Var (AName ∷ MoreNames ∷ AToken w.Colon ∷ AName ∷ [])
  formals_end : Row MoreFormals w.Close []
  next_formal : Row MoreFormals w.Semicolon (AFormal ∷ MoreFormals ∷ [])
  formals : Row Formals w.Open (AFormal ∷ MoreFormals ∷ [])
  block : {d : ℕ} {k : Kind} {l : List Symbol} → PartsRow (suc d) k l → Row (ABlock d) k l
  parts : {d : ℕ} {k : Kind} {l : List Symbol} → PartsRow d k l → Row (Parts d) k l
  after_constants : {d : ℕ} {k : Kind} {l : List Symbol} → PartsRow d k l → Row (MoreConstants d) k l
  next_constant : {d : ℕ} → Row (MoreConstants d) kind.Name
      (AToken w.Equal ∷ AConstant ∷ AToken w.Semicolon ∷ MoreConstants d ∷ [])
  after_types : {d : ℕ} {k : Kind} {l : List Symbol} → PartsRow d k l → Row (MoreTypes d) k l
  next_type : {d : ℕ} → Row (MoreTypes d) kind.Name (AToken w.Equal ∷ AType ∷ AToken w.Semicolon ∷ MoreTypes d ∷ [])
  after_variables : {d : ℕ} {k : Kind} {l : List Symbol} → PartsRow d k l → Row (MoreVariables d) k l
  next_variable : {d : ℕ} → Row (MoreVariables d) kind.Name
      (MoreNames ∷ AToken w.Colon ∷ AName ∷ AToken w.Semicolon ∷ MoreVariables d ∷ [])
  statement : {d : ℕ} {k : Kind} {l : List Symbol} → FormRow (suc d) k l → Row (AStatement d) k l
  becomes : {d : ℕ} → Row (AfterName d) w.Becomes (AnExpression d ∷ [])
  target : {d : ℕ} {k : Kind} {l : List Symbol} → SelectorRow d k l
      → Row (AfterName d) k (l ++ AToken w.Becomes ∷ AnExpression d ∷ [])
  call : {d : ℕ} → Row (AfterName d) w.Open (AnExpression d ∷ AWidth d ∷ MoreArguments d ∷ [])
  other : {d : ℕ} → Row (AnElse d) w.Else (AStatement d ∷ [])
  next_statement : {d : ℕ} → Row (MoreStatements d) w.Semicolon (AStatement d ∷ MoreStatements d ∷ [])
  branches_end : {d : ℕ} → Row (MoreBranches d) w.End []
  next_branch : {d : ℕ} → Row (MoreBranches d) w.Bar (AStatement d ∷ MoreStatements d ∷ MoreBranches d ∷ [])
  labels_end : Row MoreLabels w.Colon []
  next_label : Row MoreLabels w.Comma (AConstant ∷ MoreLabels ∷ [])
  arms_end : {d : ℕ} → Row (MoreArms d) w.End []
  arms_go_on : {d : ℕ} → Row (MoreArms d) w.Semicolon (ArmOrEnd d ∷ [])
  no_arm : {d : ℕ} → Row (ArmOrEnd d) w.End []
  next_arm : {d : ℕ} {k : Kind} {l : List Symbol} → ConstantRow k l
      → Row (ArmOrEnd d) k (l ++ MoreLabels ∷ AStatement d ∷ MoreArms d ∷ [])
  upward : Row ADirection w.To []
  downward : Row ADirection w.Downto []
  expression : {d : ℕ} {k : Kind} {l : List Symbol} → SimpleRow (suc d) k l
      → Row (AnExpression d) k (l ++ ARelation (suc d) ∷ [])
  relation : {d : ℕ} {k : Kind} {o : BinaryOp} → IsRelational k o → Row (ARelation d) k (ASimple d ∷ [])
  simple : {d : ℕ} {k : Kind} {l : List Symbol} → SimpleRow d k l → Row (ASimple d) k l
  next_term : {d : ℕ} {k : Kind} {o : BinaryOp} → IsAdding k o → Row (MoreTerms d) k (ATerm d ∷ MoreTerms d ∷ [])
  term : {d : ℕ} {k : Kind} {l : List Symbol} → FactorRow d k l → Row (ATerm d) k (l ++ MoreFactors d ∷ [])
  next_factor : {d : ℕ} {k : Kind} {o : BinaryOp} → IsMultiplying k o
      → Row (MoreFactors d) k (AFactor d ∷ MoreFactors d ∷ [])
  factor : {d : ℕ} {k : Kind} {l : List Symbol} → FactorRow d k l → Row (AFactor d) k l
  negated : {d : ℕ} {k : Kind} {l : List Symbol} → FactorRow (suc d) k l → Row (ANegated d) k l
  arguments : {d : ℕ} → Row (AReference d) w.Open (AnExpression d ∷ AWidth d ∷ MoreArguments d ∷ [])
  reference : {d : ℕ} {k : Kind} {l : List Symbol} → SelectorRow d k l → Row (AReference d) k l
  selector : {d : ℕ} {k : Kind} {l : List Symbol} → SelectorRow d k l → Row (Selectors d) k l
  indices_end : {d : ℕ} → Row (MoreIndices d) w.CloseIndex (Selectors d ∷ [])
  next_index : {d : ℕ} → Row (MoreIndices d) w.Comma (AnExpression d ∷ MoreIndices d ∷ [])
  arguments_end : {d : ℕ} → Row (MoreArguments d) w.Close []
  next_argument : {d : ℕ} → Row (MoreArguments d) w.Comma (AnExpression d ∷ AWidth d ∷ MoreArguments d ∷ [])
  width : {d : ℕ} → Row (AWidth d) w.Colon (AnExpression d ∷ [])

-- a row with its token and what it leaves
pub record RowEntry (R : Kind → List Symbol → Type 0) : Type 0 where
  pub key : Kind
  pub left : List Symbol
  pub row : R key left

-- such an entry from its row
abbrev pub row_entry : {R : Kind → List Symbol → Type 0} (k : Kind) (l : List Symbol) → R k l → RowEntry R
row_entry k l row = record { key = k; left = l; row = row }

-- the rows that several symbols share
abbrev pub constant_rows : List (RowEntry ConstantRow)
constant_rows = row_entry _ _ constant_number ∷ row_entry _ _ constant_name ∷ row_entry _ _ constant_text
    ∷ row_entry _ _ constant_plus
    ∷ row_entry _ _ constant_minus ∷ []

abbrev pub parts_rows : (d : ℕ) → List (RowEntry (PartsRow d))
parts_rows d = row_entry _ _ parts_begin ∷ row_entry _ _ parts_const ∷ row_entry _ _ parts_type
    ∷ row_entry _ _ parts_var
    ∷ row_entry _ _ parts_procedure ∷ row_entry _ _ parts_function ∷ []

abbrev pub form_rows : (d : ℕ) → List (RowEntry (FormRow d))
form_rows d = row_entry _ _ form_name ∷ row_entry _ _ form_begin ∷ row_entry _ _ form_if ∷ row_entry _ _ form_while
    ∷ row_entry _ _ form_repeat ∷ row_entry _ _ form_for ∷ row_entry _ _ form_case ∷ row_entry _ _ form_parallel
    ∷ row_entry _ _ form_forall
    ∷ row_entry _ _ form_assume ∷ []

abbrev pub selector_rows : (d : ℕ) → List (RowEntry (SelectorRow d))
selector_rows d = row_entry _ _ selector_index ∷ row_entry _ _ selector_field ∷ []

abbrev pub factor_rows : (d : ℕ) → List (RowEntry (FactorRow d))
factor_rows d = row_entry _ _ factor_number ∷ row_entry _ _ factor_text ∷ row_entry _ _ factor_name
    ∷ row_entry _ _ factor_open
    ∷ row_entry _ _ factor_not ∷ []

abbrev pub simple_rows : (d : ℕ) → List (RowEntry (SimpleRow d))
simple_rows d = row_entry _ _ simple_plus ∷ row_entry _ _ simple_minus
    ∷ map (λ e. row_entry _ _ (simple_factor e.row)) (factor_rows d)

-- the rows of each symbol, in the order in which they are looked up
abbrev pub rows : (s : Symbol) → List (RowEntry (Row s))
rows (AToken k) = row_entry _ _ token ∷ []
rows AName = row_entry _ _ name ∷ []
rows AProgram = row_entry _ _ program ∷ []
rows AHeading = row_entry _ _ heading ∷ []
rows MoreNames = row_entry _ _ next_name ∷ []
rows AConstant = map (λ e. row_entry _ _ (constant e.row)) constant_rows
rows AValue = row_entry _ _ value_number ∷ row_entry _ _ value_name ∷ []
rows AType = row_entry _ _ alias ∷ row_entry _ _ enumeration ∷ row_entry _ _ array ∷ row_entry _ _ fields
    ∷ row_entry _ _ channel ∷ []
rows MoreFields = row_entry _ _ fields_end ∷ row_entry _ _ fields_go_on ∷ []
rows FieldOrEnd = row_entry _ _ no_field ∷ row_entry _ _ next_field ∷ []
rows AFormal = row_entry _ _ by_value ∷ row_entry _ _ by_reference ∷ []
rows MoreFormals = row_entry _ _ formals_end ∷ row_entry _ _ next_formal ∷ []
rows Formals = row_entry _ _ formals ∷ []
rows (ABlock d) = map (λ e. row_entry _ _ (block e.row)) (parts_rows (suc d))
rows (Parts d) = map (λ e. row_entry _ _ (parts e.row)) (parts_rows d)
rows (MoreConstants d) = row_entry _ _ next_constant ∷ map (λ e. row_entry _ _ (after_constants e.row)) (parts_rows d)
rows (MoreTypes d) = row_entry _ _ next_type ∷ map (λ e. row_entry _ _ (after_types e.row)) (parts_rows d)
rows (MoreVariables d) = row_entry _ _ next_variable ∷ map (λ e. row_entry _ _ (after_variables e.row)) (parts_rows d)
rows (AStatement d) = map (λ e. row_entry _ _ (statement e.row)) (form_rows (suc d))
rows (AfterName d) = row_entry _ _ becomes ∷ row_entry _ _ call ∷ map (λ e. row_entry _ _ (target e.row))
    (selector_rows d)
rows (AnElse d) = row_entry _ _ other ∷ []
rows (MoreStatements d) = row_entry _ _ next_statement ∷ []
rows (MoreBranches d) = row_entry _ _ branches_end ∷ row_entry _ _ next_branch ∷ []
rows MoreLabels = row_entry _ _ labels_end ∷ row_entry _ _ next_label ∷ []
rows (MoreArms d) = row_entry _ _ arms_end ∷ row_entry _ _ arms_go_on ∷ []
rows (ArmOrEnd d) = row_entry _ _ no_arm ∷ map (λ e. row_entry _ _ (next_arm e.row)) constant_rows
rows ADirection = row_entry _ _ upward ∷ row_entry _ _ downward ∷ []
rows (AnExpression d) = map (λ e. row_entry _ _ (expression e.row)) (simple_rows (suc d))
rows (ARelation d) = row_entry _ _ (relation equal) ∷ row_entry _ _ (relation unequal) ∷ row_entry _ _ (relation less)
    ∷ row_entry _ _ (relation at_most) ∷ row_entry _ _ (relation greater) ∷ row_entry _ _ (relation at_least) ∷ []
rows (ASimple d) = map (λ e. row_entry _ _ (simple e.row)) (simple_rows d)
rows (MoreTerms d) = row_entry _ _ (next_term plus) ∷ row_entry _ _ (next_term minus)
    ∷ row_entry _ _ (next_term or) ∷ []
rows (ATerm d) = map (λ e. row_entry _ _ (term e.row)) (factor_rows d)
rows (MoreFactors d) = row_entry _ _ (next_factor times) ∷ row_entry _ _ (next_factor quotient)
    ∷ row_entry _ _ (next_factor modulo)
    ∷ row_entry _ _ (next_factor and) ∷ []
rows (AFactor d) = map (λ e. row_entry _ _ (factor e.row)) (factor_rows d)
rows (ANegated d) = map (λ e. row_entry _ _ (negated e.row)) (factor_rows (suc d))
rows (AReference d) = row_entry _ _ arguments ∷ map (λ e. row_entry _ _ (reference e.row)) (selector_rows d)
rows (Selectors d) = map (λ e. row_entry _ _ (selector e.row)) (selector_rows d)
rows (MoreIndices d) = row_entry _ _ indices_end ∷ row_entry _ _ next_index ∷ []
rows (MoreArguments d) = row_entry _ _ arguments_end ∷ row_entry _ _ next_argument ∷ []
rows (AWidth d) = row_entry _ _ width ∷ []

-- whether two kinds are the same
abbrev pub kind_is : Kind → Kind → Bool
kind_is kind.Name kind.Name = true
kind_is kind.Number kind.Number = true
kind_is kind.Text kind.Text = true
kind_is (kind.Word a) (kind.Word b) = a == b
kind_is (kind.Sign a) (kind.Sign b) = a == b
kind_is a b = false

-- the first of these rows whose token is of this kind
abbrev pub look : {R : Kind → List Symbol → Type 0} → List (RowEntry R) → Kind → Option (RowEntry R)
look [] k = None
look (e ∷ es) k = cond (kind_is e.key k) (Some e) (look es k)

-- what a symbol stands for where it takes none of its tokens, and the next token is this one
abbrev pub gap : (s : Symbol) → Token → Option (Value s)
gap AHeading t = Some []
gap MoreNames t = Some []
gap Formals t = Some []
gap (AStatement d) t = Some (tree.Does t.at tree.Empty)
gap (AfterName d) t = Some (λ n. tree.Call n tree.NoArgument)
gap (AnElse d) t = Some tree.NoElse
gap (MoreStatements d) t = Some tree.NoStatement
gap (ARelation d) t = Some (λ a. a)
gap (MoreTerms d) t = Some (λ a. a)
gap (MoreFactors d) t = Some (λ a. a)
gap (AReference d) t = Some (λ n. tree.Read (tree.Entire n tree.Whole))
gap (Selectors d) t = Some tree.Whole
gap (AWidth d) t = Some tree.NoWidth
gap s t = None

-- What a symbol stands for that takes a token, by what the symbols stand for that it leaves: a clause for each row. The
-- text is where names, numbers and quoted texts are read.
module _ (text : List ℕ) where
  abbrev pub constant_value : {k : Kind} {l : List Symbol} → ConstantRow k l → Token → Values l → SynConst
  constant_value constant_number t vs = record { at = t.at; negative = None; value = value.Number (number_of text t) }
  constant_value constant_name t vs = record { at = t.at; negative = None; value = value.Named (name_of text t) }
  constant_value constant_text t vs = record { at = t.at; negative = None; value = value.Quoted (quoted_of text t) }
  constant_value constant_plus t vs = record { at = t.at; negative = Some false; value = vs.0 }
  constant_value constant_minus t vs = record { at = t.at; negative = Some true; value = vs.0 }

  abbrev pub parts_value : {d : ℕ} {k : Kind} {l : List Symbol} → PartsRow d k l → Token → Values l → tree.Block
  parts_value parts_begin t (s, (ss, e)) = record {
    parts = tree.NoPart;
    body = tree.Does t.at (tree.Sequence (tree.AndThen s ss));
  }
  parts_value parts_const t (n, (e, (c, (s, (b, u))))) = with_part_first (tree.Const n c) b
  parts_value parts_type t (n, (e, (c, (s, (b, u))))) = with_part_first (tree.Kind n c) b
  parts_value parts_var t (n, (ns, (c, (k, (s, (b, u)))))) = with_part_first (tree.Var (n ∷ ns) k) b
  parts_value parts_procedure t (n, (fs, (c, (b, (s, (m, u)))))) =
      with_part_first (tree.Proc n fs None b.parts b.body) m
  parts_value parts_function t (n, (fs, (c, (a, (e, (b, (s, (m, u)))))))) =
      with_part_first (tree.Proc n fs (Some a) b.parts b.body) m

  abbrev pub form_value : {d : ℕ} {k : Kind} {l : List Symbol} → FormRow d k l → Token → Values l → tree.Form
  form_value form_name t (f, u) = f (name_of text t)
  form_value form_begin t (s, (ss, u)) = tree.Sequence (tree.AndThen s ss)
  form_value form_if t (e, (h, (s, (o, u)))) = tree.If e s o
  form_value form_while t (e, (h, (s, u))) = tree.While e s
  form_value form_repeat t (s, (ss, (h, (e, u)))) = tree.Repeat (tree.AndThen s ss) e
  form_value form_for t (n, (b, (x, (down, (y, (h, (s, u))))))) = tree.For n x down y s
  form_value form_case t (e, (h, (c, (cs, (s, (rest, u)))))) = tree.Case e (tree.Or (tree.On (c ∷ cs) s) rest)
  form_value form_parallel t (s, (ss, (bs, u))) = tree.Parallel (tree.Beside (tree.AndThen s ss) bs)
  form_value form_forall t (n, (b, (x, (h, (y, (i, (s, u))))))) = tree.Forall n x y s
  form_value form_assume t (e, u) = tree.Assume e

  abbrev pub selector_value : {d : ℕ} {k : Kind} {l : List Symbol} → SelectorRow d k l → Token → Values l
      → tree.Selectors
  selector_value selector_index t (e, (ss, u)) = tree.Select (tree.Index e) ss
  selector_value selector_field t (n, (ss, u)) = tree.Select (tree.Field n) ss

  abbrev pub factor_value : {d : ℕ} {k : Kind} {l : List Symbol} → FactorRow d k l → Token → Values l → tree.Expression
  factor_value factor_number t vs = tree.ExpressionAt t.at (tree.Number (number_of text t))
  factor_value factor_text t vs = tree.ExpressionAt t.at (tree.Quoted (quoted_of text t))
  factor_value factor_name t (f, u) = tree.ExpressionAt t.at (f (name_of text t))
  factor_value factor_open t (e, u) = with_place t.at e
  factor_value factor_not t (e, u) = tree.ExpressionAt t.at (tree.Unary unary.Not e)

  abbrev pub simple_value : {d : ℕ} {k : Kind} {l : List Symbol} → SimpleRow d k l → Token → Values l → tree.Expression
  simple_value (simple_factor {l = l} row) t vs =
      let (own, (factors, (terms, _))) = split l (MoreFactors _ ∷ MoreTerms _ ∷ []) vs in
      terms (factors (factor_value row t own))
  simple_value simple_plus t (a, (f, u)) = f (tree.ExpressionAt t.at (tree.Unary unary.Plus a))
  simple_value simple_minus t (a, (f, u)) = f (tree.ExpressionAt t.at (tree.Unary unary.Minus a))

  abbrev pub build : {s : Symbol} {k : Kind} {l : List Symbol} → Row s k l → Token → Values l → Value s
  build token t vs = tt
  build name t vs = name_of text t
  build program t (n, (h, (s, (b, u)))) = record { name = n; heading = h; block = b }
  build heading t (n, (ns, u)) = n ∷ ns
  build next_name t (n, (ns, u)) = n ∷ ns
  build (constant row) t vs = constant_value row t vs
  build value_number t vs = value.Number (number_of text t)
  build value_name t vs = value.Named (name_of text t)
  build alias t vs = kinds.Alias (name_of text t)
  build enumeration t (n, (ns, u)) = kinds.Enumeration (n ∷ ns)
  build array t (o, (low, (p, (high, (c, (h, (n, u))))))) = kinds.Array low high n
  build fields t (n, (ns, (c, (k, (gs, u))))) = kinds.Record (record { names = n ∷ ns; kind = k } ∷ gs)
  build channel t (o, (n, (ns, u))) = kinds.Channel (n ∷ ns)
  build fields_end t vs = []
  build fields_go_on t (gs, u) = gs
  build no_field t vs = []
  build next_field t (ns, (c, (k, (gs, u)))) = record { names = name_of text t ∷ ns; kind = k } ∷ gs
  build by_value t (ns, (c, (k, u))) = record { by_reference = false; names = name_of text t ∷ ns; kind = k }
  build by_reference t (n, (ns, (c, (k, u)))) = record { by_reference = true; names = n ∷ ns; kind = k }
  build formals_end t vs = []
  build next_formal t (f, (fs, u)) = f ∷ fs
  build formals t (f, (fs, u)) = f ∷ fs
  build (block row) t vs = parts_value row t vs
  build (parts row) t vs = parts_value row t vs
  build (after_constants row) t vs = parts_value row t vs
  build next_constant t (e, (c, (s, (b, u)))) = with_part_first (tree.Const (name_of text t) c) b
  build (after_types row) t vs = parts_value row t vs
  build next_type t (e, (c, (s, (b, u)))) = with_part_first (tree.Kind (name_of text t) c) b
  build (after_variables row) t vs = parts_value row t vs
  build next_variable t (ns, (c, (k, (s, (b, u))))) = with_part_first (tree.Var (name_of text t ∷ ns) k) b
  build (statement row) t vs = tree.Does t.at (form_value row t vs)
  build becomes t (e, u) = λ n. tree.Assign (tree.Entire n tree.Whole) e
  build (target {d = d} {l = l} row) t vs =
      let (own, (_, (e, _))) = split l (AToken w.Becomes ∷ AnExpression d ∷ []) vs in
      λ n. tree.Assign (tree.Entire n (selector_value row t own)) e
  build call t (e, (m, (rest, u))) = λ n. tree.Call n (tree.AndArgument (tree.Pass e m) rest)
  build other t (s, u) = tree.Else s
  build next_statement t (s, (ss, u)) = tree.AndThen s ss
  build branches_end t vs = tree.NoBranch
  build next_branch t (s, (ss, (bs, u))) = tree.Beside (tree.AndThen s ss) bs
  build labels_end t vs = []
  build next_label t (c, (cs, u)) = c ∷ cs
  build arms_end t vs = tree.NoArm
  build arms_go_on t (rest, u) = rest
  build no_arm t vs = tree.NoArm
  build (next_arm {d = d} {l = l} row) t vs =
      let (own, (cs, (s, (arms, _)))) = split l (MoreLabels ∷ AStatement d ∷ MoreArms d ∷ []) vs in
      tree.Or (tree.On (constant_value row t own ∷ cs) s) arms
  build upward t vs = false
  build downward t vs = true
  build (expression {d = d} {l = l} row) t vs =
      let (own, (comparison, _)) = split l (ARelation (suc d) ∷ []) vs in
      comparison (simple_value row t own)
  build (relation {o = o} row) t (b, u) = λ a. binary_at_left o a b
  build (simple row) t vs = simple_value row t vs
  build (next_term {o = o} row) t (b, (f, u)) = λ a. f (binary_at_left o a b)
  build (term {d = d} {l = l} row) t vs =
      let (own, (factors, _)) = split l (MoreFactors d ∷ []) vs in
      factors (factor_value row t own)
  build (next_factor {o = o} row) t (b, (f, u)) = λ a. f (binary_at_left o a b)
  build (factor row) t vs = factor_value row t vs
  build (negated row) t vs = factor_value row t vs
  build arguments t (e, (m, (rest, u))) = λ n. tree.Apply n (tree.AndArgument (tree.Pass e m) rest)
  build (reference row) t vs = λ n. tree.Read (tree.Entire n (selector_value row t vs))
  build (selector row) t vs = selector_value row t vs
  build indices_end t (ss, u) = ss
  build next_index t (e, (ss, u)) = tree.Select (tree.Index e) ss
  build arguments_end t vs = tree.NoArgument
  build next_argument t (e, (m, (rest, u))) = tree.AndArgument (tree.Pass e m) rest
  build width t (e, u) = tree.WithWidth e
