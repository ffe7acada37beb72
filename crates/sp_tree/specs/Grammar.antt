-- All of this belongs to what the program promises (docs/promise.txt).
-- The grammar, a family for each of its lines and a case for each form of a line. The tokens begin with a part, and
-- what is left is the second list. `d` says inside how many parts a part lies, and Ok is asked of each part (a block,
-- a statement that is not empty, an expression, a factor after `not`), at that number and the tokens from its first
-- one on. The parser's contracts and the laws of the grammar cite it: a relation, so that it knows no way of
-- parsing.
use Rattle.std.specs.Prelude.{◌≡◌, ◌≢◌, ℕ, suc, Bool, true, false, List, [], ◌∷◌, Some, None}
use Rattle.sp_base.specs.declared.place.Place.{Place}
use Rattle.sp_tree.specs.declared.token.Token.{Token}
use Rattle.sp_tree.specs.declared.token.Kind.{Kind}
use Rattle.sp_tree.specs.declared.token.Kind.TheVariants as kind
use Rattle.sp_tree.specs.declared.operators.UnaryOp.TheVariants as unary
use Rattle.sp_tree.specs.declared.operators.BinaryOp.{BinaryOp}
use Rattle.sp_tree.specs.declared.operators.BinaryOp.TheVariants as op
use Rattle.sp_tree.specs.declared.syntax.Name.{Name}
use Rattle.sp_tree.specs.declared.syntax.SynConst.{SynConst}
use Rattle.sp_tree.specs.declared.syntax.SynValue.{SynValue}
use Rattle.sp_tree.specs.declared.syntax.SynValue.TheVariants as value
use Rattle.sp_tree.specs.declared.syntax.SynKind.{SynKind}
use Rattle.sp_tree.specs.declared.syntax.SynKind.TheVariants as kinds
use Rattle.sp_tree.specs.declared.syntax.SynFormal.{SynFormal}
use Rattle.sp_tree.specs.declared.syntax.SynGroup.{SynGroup}
use Rattle.sp_tree.specs.Words as w
use Rattle.sp_tree.specs.Spelling.{name_of, number_of, quoted_of}
use Rattle.sp_tree.specs.PlainSyntax as tree

-- one token of this kind
pub data Is (k : Kind) : List Token → List Token → Type 0 where
  it_is : {r : List Token} → (t : Token) → t.kind ≡ k → Is k (t ∷ r) r

-- the tokens do not begin with this kind
abbrev pub Lacks : Kind → List Token → Type 0
Lacks k [] = Unit {0}
Lacks k (t ∷ ts) = t.kind ≢ k

-- the signs and words between two operands
pub data IsRelational : Kind → BinaryOp → Type 0 where
  equal : IsRelational w.Equal op.Eq
  unequal : IsRelational w.Unequal op.Ne
  less : IsRelational w.Less op.Lt
  at_most : IsRelational w.AtMost op.Le
  greater : IsRelational w.Greater op.Gt
  at_least : IsRelational w.AtLeast op.Ge

pub data IsAdding : Kind → BinaryOp → Type 0 where
  plus : IsAdding w.Plus op.Add
  minus : IsAdding w.Minus op.Sub
  or : IsAdding w.Or op.Or

pub data IsMultiplying : Kind → BinaryOp → Type 0 where
  times : IsMultiplying w.Times op.Mul
  quotient : IsMultiplying w.Div op.Div
  modulo : IsMultiplying w.Mod op.Mod
  and : IsMultiplying w.And op.And

-- an operator between two operands stands at the place of the left one
abbrev pub binary_at_left : BinaryOp → tree.Expression → tree.Expression → tree.Expression
binary_at_left o (tree.ExpressionAt p f) b = tree.ExpressionAt p (tree.Binary o (tree.ExpressionAt p f) b)

-- an expression in parentheses is itself, at the place of the opening one
abbrev pub with_place : Place → tree.Expression → tree.Expression
with_place p (tree.ExpressionAt q f) = tree.ExpressionAt p f

-- a declaration before others
abbrev pub with_part_first : tree.Part → tree.Block → tree.Block
with_part_first p b = record { parts = tree.Declare p b.parts; body = b.body }

module _ (text : List ℕ) where
  -- name
  pub data IsName : List Token → List Token → Name → Type 0 where
    name : {r : List Token} → (t : Token) → t.kind ≡ kind.Name → IsName (t ∷ r) r (name_of text t)

  -- names = name { "," name }
  mutual
    pub data IsNames : List Token → List Token → List Name → Type 0 where
      names : {ts u r : List Token} {n : Name} {ns : List Name} → IsName ts u n → IsMoreNames u r ns
          → IsNames ts r (n ∷ ns)

    pub data IsMoreNames : List Token → List Token → List Name → Type 0 where
      names_end : {r : List Token} → IsMoreNames r r []
      names_go_on : {ts u r : List Token} {ns : List Name} → Is w.Comma ts u → IsNames u r ns → IsMoreNames ts r ns

  -- number | name
  pub data IsValue : List Token → List Token → SynValue → Type 0 where
    number_value : {r : List Token} → (t : Token) → t.kind ≡ kind.Number
        → IsValue (t ∷ r) r (value.Number (number_of text t))
    name_value : {r : List Token} → (t : Token) → t.kind ≡ kind.Name → IsValue (t ∷ r) r (value.Named (name_of text t))

  -- constant = [ "+" | "-" ] ( number | name ) | text
  pub data IsConstant : List Token → List Token → SynConst → Type 0 where
    unsigned : {t : Token} {ts r : List Token} {v : SynValue} → IsValue (t ∷ ts) r v
        → IsConstant (t ∷ ts) r (record { at = t.at; negative = None; value = v })
    positive : {ts r : List Token} {v : SynValue} → (t : Token) → t.kind ≡ w.Plus → IsValue ts r v
        → IsConstant (t ∷ ts) r (record { at = t.at; negative = Some false; value = v })
    negative : {ts r : List Token} {v : SynValue} → (t : Token) → t.kind ≡ w.Minus → IsValue ts r v
        → IsConstant (t ∷ ts) r (record { at = t.at; negative = Some true; value = v })
    quoted : {r : List Token} → (t : Token) → t.kind ≡ kind.Text
        → IsConstant (t ∷ r) r (record { at = t.at; negative = None; value = value.Quoted (quoted_of text t) })

  -- names ":" name
  pub data IsGroup : List Token → List Token → SynGroup → Type 0 where
    group : {ts u v r : List Token} {ns : List Name} {n : Name} → IsNames ts u ns → Is w.Colon u v → IsName v r n
        → IsGroup ts r (record { names = ns; kind = n })

  -- fields = names ":" name { ";" names ":" name } [ ";" ], and "end"
  pub data IsMoreFields : List Token → List Token → List SynGroup → Type 0 where
    fields_end : {ts r : List Token} → Is w.End ts r → IsMoreFields ts r []
    last_field : {ts u r : List Token} → Is w.Semicolon ts u → Is w.End u r → IsMoreFields ts r []
    fields_go_on : {ts u v r : List Token} {g : SynGroup} {gs : List SynGroup} → Is w.Semicolon ts u → IsGroup u v g
        → IsMoreFields v r gs → IsMoreFields ts r (g ∷ gs)

  -- type = name | "(" names ")" | "array" "[" constant ".." constant "]" "of" name | "record" fields "end" | "*" "("
  -- names ")"
  pub data IsType : List Token → List Token → SynKind → Type 0 where
    alias : {ts r : List Token} {n : Name} → IsName ts r n → IsType ts r (kinds.Alias n)
    enumeration : {ts u v r : List Token} {ns : List Name} → Is w.Open ts u → IsNames u v ns → Is w.Close v r
        → IsType ts r (kinds.Enumeration ns)
    array : {ts a b c e f g h r : List Token} {low high : SynConst} {n : Name} → Is w.Array ts a → Is w.OpenIndex a b
        → IsConstant b c low → Is w.Range c e → IsConstant e f high → Is w.CloseIndex f g → Is w.Of g h → IsName h r n
        → IsType ts r (kinds.Array low high n)
    fields : {ts u v r : List Token} {g : SynGroup} {gs : List SynGroup} → Is w.Record ts u → IsGroup u v g
        → IsMoreFields v r gs → IsType ts r (kinds.Record (g ∷ gs))
    channel : {ts u v x r : List Token} {ns : List Name} → Is w.Times ts u → Is w.Open u v → IsNames v x ns
        → Is w.Close x r → IsType ts r (kinds.Channel ns)

  -- formal = [ "var" ] names ":" name
  pub data IsFormal : List Token → List Token → SynFormal → Type 0 where
    by_value : {ts r : List Token} {g : SynGroup} → IsGroup ts r g
        → IsFormal ts r (record { by_reference = false; names = g.names; kind = g.kind })
    by_reference : {ts u r : List Token} {g : SynGroup} → Is w.Var ts u → IsGroup u r g
        → IsFormal ts r (record { by_reference = true; names = g.names; kind = g.kind })

  -- { ";" formal } ")"
  pub data IsMoreFormals : List Token → List Token → List SynFormal → Type 0 where
    formals_end : {ts r : List Token} → Is w.Close ts r → IsMoreFormals ts r []
    formals_go_on : {ts u v r : List Token} {f : SynFormal} {fs : List SynFormal} → Is w.Semicolon ts u → IsFormal u v f
        → IsMoreFormals v r fs → IsMoreFormals ts r (f ∷ fs)

  -- [ formals ], formals = "(" formal { ";" formal } ")"
  pub data IsFormals : List Token → List Token → List SynFormal → Type 0 where
    no_formals : {r : List Token} → IsFormals r r []
    formals : {ts u v r : List Token} {f : SynFormal} {fs : List SynFormal} → Is w.Open ts u → IsFormal u v f
        → IsMoreFormals v r fs → IsFormals ts r (f ∷ fs)

  -- [ "(" names ")" ]
  pub data IsHeading : List Token → List Token → List Name → Type 0 where
    no_heading : {r : List Token} → IsHeading r r []
    heading : {ts u v r : List Token} {ns : List Name} → Is w.Open ts u → IsNames u v ns → Is w.Close v r
        → IsHeading ts r ns

  -- name "=" constant ";"
  pub data IsConstantPart : List Token → List Token → tree.Part → Type 0 where
    constant_part : {ts u v x r : List Token} {n : Name} {c : SynConst} → IsName ts u n → Is w.Equal u v
        → IsConstant v x c → Is w.Semicolon x r → IsConstantPart ts r (tree.Const n c)

  -- name "=" type ";"
  pub data IsTypePart : List Token → List Token → tree.Part → Type 0 where
    type_part : {ts u v x r : List Token} {n : Name} {k : SynKind} → IsName ts u n → Is w.Equal u v → IsType v x k
        → Is w.Semicolon x r → IsTypePart ts r (tree.Kind n k)

  -- names ":" name ";"
  pub data IsVariablePart : List Token → List Token → tree.Part → Type 0 where
    variable_part : {ts u r : List Token} {g : SynGroup} → IsGroup ts u g → Is w.Semicolon u r
        → IsVariablePart ts r (tree.Var g.names g.kind)

  module _ (Ok : ℕ → List Token → Type 0) where
    mutual
      -- expression = simple [ ( "=" | "<>" | "<" | "<=" | ">" | ">=" ) simple ]
      pub data IsExpression : ℕ → List Token → List Token → tree.Expression → Type 0 where
        expression : {d : ℕ} {ts u r : List Token} {a x : tree.Expression} → Ok d ts → IsSimple (suc d) ts u a
            → IsRelation (suc d) a u r x → IsExpression d ts r x

      -- the relation, after its left operand
      pub data IsRelation : ℕ → tree.Expression → List Token → List Token → tree.Expression → Type 0 where
        no_relation : {d : ℕ} {r : List Token} {a : tree.Expression} → IsRelation d a r r a
        relation : {d : ℕ} {ts u r : List Token} {a b : tree.Expression} {k : Kind} {o : BinaryOp} → IsRelational k o
            → Is k ts u → IsSimple d u r b → IsRelation d a ts r (binary_at_left o a b)

      -- simple = [ "+" | "-" ] term { ( "+" | "-" | "or" ) term }
      pub data IsSimple : ℕ → List Token → List Token → tree.Expression → Type 0 where
        simple : {d : ℕ} {ts u r : List Token} {a x : tree.Expression} → IsTerm d ts u a → IsMoreTerms d a u r x
            → IsSimple d ts r x
        after_plus : {d : ℕ} {ts u r : List Token} {a x : tree.Expression} → (t : Token) → t.kind ≡ w.Plus
            → IsTerm d ts u a → IsMoreTerms d (tree.ExpressionAt t.at (tree.Unary unary.Plus a)) u r x
            → IsSimple d (t ∷ ts) r x
        after_minus : {d : ℕ} {ts u r : List Token} {a x : tree.Expression} → (t : Token) → t.kind ≡ w.Minus
            → IsTerm d ts u a → IsMoreTerms d (tree.ExpressionAt t.at (tree.Unary unary.Minus a)) u r x
            → IsSimple d (t ∷ ts) r x

      -- the further terms, after what stands before them
      pub data IsMoreTerms : ℕ → tree.Expression → List Token → List Token → tree.Expression → Type 0 where
        terms_end : {d : ℕ} {r : List Token} {a : tree.Expression} → IsMoreTerms d a r r a
        terms_go_on : {d : ℕ} {ts u v r : List Token} {a b x : tree.Expression} {k : Kind} {o : BinaryOp} → IsAdding k o
            → Is k ts u → IsTerm d u v b → IsMoreTerms d (binary_at_left o a b) v r x → IsMoreTerms d a ts r x

      -- term = factor { ( "*" | "div" | "mod" | "and" ) factor }
      pub data IsTerm : ℕ → List Token → List Token → tree.Expression → Type 0 where
        term : {d : ℕ} {ts u r : List Token} {a x : tree.Expression} → IsFactor d ts u a → IsMoreFactors d a u r x
            → IsTerm d ts r x

      -- the further factors, after what stands before them
      pub data IsMoreFactors : ℕ → tree.Expression → List Token → List Token → tree.Expression → Type 0 where
        factors_end : {d : ℕ} {r : List Token} {a : tree.Expression} → IsMoreFactors d a r r a
        factors_go_on : {d : ℕ} {ts u v r : List Token} {a b x : tree.Expression} {k : Kind} {o : BinaryOp}
            → IsMultiplying k o → Is k ts u → IsFactor d u v b → IsMoreFactors d (binary_at_left o a b) v r x
            → IsMoreFactors d a ts r x

      -- factor = number | text | variable | call | "(" expression ")" | "not" factor
      pub data IsFactor : ℕ → List Token → List Token → tree.Expression → Type 0 where
        number : {d : ℕ} {r : List Token} → (t : Token) → t.kind ≡ kind.Number
            → IsFactor d (t ∷ r) r (tree.ExpressionAt t.at (tree.Number (number_of text t)))
        text_factor : {d : ℕ} {r : List Token} → (t : Token) → t.kind ≡ kind.Text
            → IsFactor d (t ∷ r) r (tree.ExpressionAt t.at (tree.Quoted (quoted_of text t)))
        variable_factor : {d : ℕ} {t : Token} {ts r : List Token} {v : tree.Variable} → IsVariable d (t ∷ ts) r v
            → IsFactor d (t ∷ ts) r (tree.ExpressionAt t.at (tree.Read v))
        call_factor : {d : ℕ} {t : Token} {ts u r : List Token} {n : Name} {args : tree.Arguments} → IsName (t ∷ ts) u n
            → IsArguments d u r args → IsFactor d (t ∷ ts) r (tree.ExpressionAt t.at (tree.Apply n args))
        in_parentheses : {d : ℕ} {ts u r : List Token} {x : tree.Expression} → (t : Token) → t.kind ≡ w.Open
            → IsExpression d ts u x → Is w.Close u r → IsFactor d (t ∷ ts) r (with_place t.at x)
        negated : {d : ℕ} {ts r : List Token} {x : tree.Expression} → (t : Token) → t.kind ≡ w.Not → Ok d ts
            → IsFactor (suc d) ts r x → IsFactor d (t ∷ ts) r (tree.ExpressionAt t.at (tree.Unary unary.Not x))

      -- variable = name { "[" expression { "," expression } "]" | "." name }
      pub data IsVariable : ℕ → List Token → List Token → tree.Variable → Type 0 where
        variable : {d : ℕ} {ts u r : List Token} {n : Name} {ss : tree.Selectors} → IsName ts u n → IsSelectors d u r ss
            → IsVariable d ts r (tree.Entire n ss)

      pub data IsSelectors : ℕ → List Token → List Token → tree.Selectors → Type 0 where
        selectors_end : {d : ℕ} {r : List Token} → IsSelectors d r r tree.Whole
        index : {d : ℕ} {ts u v r : List Token} {x : tree.Expression} {ss : tree.Selectors} → Is w.OpenIndex ts u
            → IsExpression d u v x → IsMoreIndices d v r ss → IsSelectors d ts r (tree.Select (tree.Index x) ss)
        field : {d : ℕ} {ts u v r : List Token} {n : Name} {ss : tree.Selectors} → Is w.Dot ts u → IsName u v n
            → IsSelectors d v r ss → IsSelectors d ts r (tree.Select (tree.Field n) ss)

      -- { "," expression } "]", and the further selectors
      pub data IsMoreIndices : ℕ → List Token → List Token → tree.Selectors → Type 0 where
        indices_end : {d : ℕ} {ts u r : List Token} {ss : tree.Selectors} → Is w.CloseIndex ts u → IsSelectors d u r ss
            → IsMoreIndices d ts r ss
        indices_go_on : {d : ℕ} {ts u v r : List Token} {x : tree.Expression} {ss : tree.Selectors} → Is w.Comma ts u
            → IsExpression d u v x → IsMoreIndices d v r ss → IsMoreIndices d ts r (tree.Select (tree.Index x) ss)

      -- "(" argument { "," argument } ")"
      pub data IsArguments : ℕ → List Token → List Token → tree.Arguments → Type 0 where
        arguments : {d : ℕ} {ts u v r : List Token} {a : tree.Argument} {rest : tree.Arguments} → Is w.Open ts u
            → IsArgument d u v a → IsMoreArguments d v r rest → IsArguments d ts r (tree.AndArgument a rest)

      pub data IsMoreArguments : ℕ → List Token → List Token → tree.Arguments → Type 0 where
        arguments_end : {d : ℕ} {ts r : List Token} → Is w.Close ts r → IsMoreArguments d ts r tree.NoArgument
        arguments_go_on : {d : ℕ} {ts u v r : List Token} {a : tree.Argument} {rest : tree.Arguments} → Is w.Comma ts u
            → IsArgument d u v a → IsMoreArguments d v r rest → IsMoreArguments d ts r (tree.AndArgument a rest)

      -- argument = expression [ ":" expression ]
      pub data IsArgument : ℕ → List Token → List Token → tree.Argument → Type 0 where
        argument : {d : ℕ} {ts u r : List Token} {x : tree.Expression} {m : tree.Width} → IsExpression d ts u x
            → IsWidth d u r m → IsArgument d ts r (tree.Pass x m)

      pub data IsWidth : ℕ → List Token → List Token → tree.Width → Type 0 where
        no_width : {d : ℕ} {r : List Token} → IsWidth d r r tree.NoWidth
        width : {d : ℕ} {ts u r : List Token} {x : tree.Expression} → Is w.Colon ts u → IsExpression d u r x
            → IsWidth d ts r (tree.WithWidth x)

    -- constant { "," constant } ":"
    mutual
      pub data IsLabels : List Token → List Token → List SynConst → Type 0 where
        labels : {ts u r : List Token} {c : SynConst} {cs : List SynConst} → IsConstant ts u c → IsMoreLabels u r cs
            → IsLabels ts r (c ∷ cs)

      pub data IsMoreLabels : List Token → List Token → List SynConst → Type 0 where
        labels_end : {ts r : List Token} → Is w.Colon ts r → IsMoreLabels ts r []
        labels_go_on : {ts u r : List Token} {cs : List SynConst} → Is w.Comma ts u → IsLabels u r cs
            → IsMoreLabels ts r cs

    -- "to" | "downto"
    pub data IsDirection : List Token → List Token → Bool → Type 0 where
      upward : {ts r : List Token} → Is w.To ts r → IsDirection ts r false
      downward : {ts r : List Token} → Is w.Downto ts r → IsDirection ts r true

    mutual
      -- a statement, which may be empty; an empty one is no part
      pub data IsStatement : ℕ → List Token → List Token → tree.Statement → Type 0 where
        empty : {d : ℕ} {r : List Token} → (t : Token) → IsStatement d (t ∷ r) (t ∷ r) (tree.Does t.at tree.Empty)
        statement : {d : ℕ} {ts r : List Token} {f : tree.Form} → (t : Token) → Ok d (t ∷ ts)
            → IsForm (suc d) (t ∷ ts) r f → IsStatement d (t ∷ ts) r (tree.Does t.at f)

      -- assignment | call | compound | if | while | repeat | for | case | parallel | forall | assume
      pub data IsForm : ℕ → List Token → List Token → tree.Form → Type 0 where
        assignment : {d : ℕ} {ts u x r : List Token} {v : tree.Variable} {e : tree.Expression} → IsVariable d ts u v
            → Is w.Becomes u x → IsExpression d x r e → IsForm d ts r (tree.Assign v e)
        plain_call : {d : ℕ} {ts r : List Token} {n : Name} → IsName ts r n
            → IsForm d ts r (tree.Call n tree.NoArgument)
        call : {d : ℕ} {ts u r : List Token} {n : Name} {args : tree.Arguments} → IsName ts u n → IsArguments d u r args
            → IsForm d ts r (tree.Call n args)
        compound_form : {d : ℕ} {ts r : List Token} {ss : tree.Statements} → IsCompound d ts r ss
            → IsForm d ts r (tree.Sequence ss)
        choice : {d : ℕ} {ts u v x y r : List Token} {e : tree.Expression} {s : tree.Statement} {o : tree.ElsePart}
            → Is w.If ts u → IsExpression d u v e → Is w.Then v x → IsStatement d x y s → IsElse d y r o
            → IsForm d ts r (tree.If e s o)
        while_loop : {d : ℕ} {ts u v x r : List Token} {e : tree.Expression} {s : tree.Statement} → Is w.While ts u
            → IsExpression d u v e → Is w.Do v x → IsStatement d x r s → IsForm d ts r (tree.While e s)
        repeat_loop : {d : ℕ} {ts u v x r : List Token} {e : tree.Expression} {ss : tree.Statements} → Is w.Repeat ts u
            → IsSequence d u v ss → Is w.Until v x → IsExpression d x r e → IsForm d ts r (tree.Repeat ss e)
        for_loop : {d : ℕ} {ts a b c e f g h r : List Token} {n : Name} {x y : tree.Expression} {down : Bool}
            {s : tree.Statement} → Is w.For ts a → IsName a b n → Is w.Becomes b c → IsExpression d c e x
            → IsDirection e f down → IsExpression d f g y → Is w.Do g h → IsStatement d h r s
            → IsForm d ts r (tree.For n x down y s)
        case_choice : {d : ℕ} {ts u v x y r : List Token} {e : tree.Expression} {a : tree.Arm} {rest : tree.Arms}
            → Is w.Case ts u → IsExpression d u v e → Is w.Of v x → IsArm d x y a → IsMoreArms d y r rest
            → IsForm d ts r (tree.Case e (tree.Or a rest))
        parallel : {d : ℕ} {ts u r : List Token} {bs : tree.Branches} → Is w.Parallel ts u → IsBranches d u r bs
            → IsForm d ts r (tree.Parallel bs)
        forall : {d : ℕ} {ts a b c e f g h r : List Token} {n : Name} {x y : tree.Expression} {s : tree.Statement}
            → Is w.Forall ts a → IsName a b n → Is w.Becomes b c → IsExpression d c e x → Is w.To e f
            → IsExpression d f g y → Is w.Do g h → IsStatement d h r s → IsForm d ts r (tree.Forall n x y s)
        assume : {d : ℕ} {ts u r : List Token} {e : tree.Expression} → Is w.Assume ts u → IsExpression d u r e
            → IsForm d ts r (tree.Assume e)

      -- [ "else" statement ]; an `else` belongs to the nearest `if` that has none
      pub data IsElse : ℕ → List Token → List Token → tree.ElsePart → Type 0 where
        no_else : {d : ℕ} {r : List Token} → Lacks w.Else r → IsElse d r r tree.NoElse
        other : {d : ℕ} {ts u r : List Token} {s : tree.Statement} → Is w.Else ts u → IsStatement d u r s
            → IsElse d ts r (tree.Else s)

      -- compound = "begin" sequence "end"
      pub data IsCompound : ℕ → List Token → List Token → tree.Statements → Type 0 where
        compound : {d : ℕ} {ts u v r : List Token} {ss : tree.Statements} → Is w.Begin ts u → IsSequence d u v ss
            → Is w.End v r → IsCompound d ts r ss

      -- sequence = statement { ";" statement }
      pub data IsSequence : ℕ → List Token → List Token → tree.Statements → Type 0 where
        sequence : {d : ℕ} {ts u r : List Token} {s : tree.Statement} {ss : tree.Statements} → IsStatement d ts u s
            → IsMoreStatements d u r ss → IsSequence d ts r (tree.AndThen s ss)

      pub data IsMoreStatements : ℕ → List Token → List Token → tree.Statements → Type 0 where
        statements_end : {d : ℕ} {r : List Token} → IsMoreStatements d r r tree.NoStatement
        statements_go_on : {d : ℕ} {ts u r : List Token} {ss : tree.Statements} → Is w.Semicolon ts u
            → IsSequence d u r ss → IsMoreStatements d ts r ss

      -- arm = constant { "," constant } ":" statement
      pub data IsArm : ℕ → List Token → List Token → tree.Arm → Type 0 where
        arm : {d : ℕ} {ts u r : List Token} {cs : List SynConst} {s : tree.Statement} → IsLabels ts u cs
            → IsStatement d u r s → IsArm d ts r (tree.On cs s)

      -- { ";" arm } [ ";" ] "end"
      pub data IsMoreArms : ℕ → List Token → List Token → tree.Arms → Type 0 where
        arms_end : {d : ℕ} {ts r : List Token} → Is w.End ts r → IsMoreArms d ts r tree.NoArm
        last_arm : {d : ℕ} {ts u r : List Token} → Is w.Semicolon ts u → Is w.End u r → IsMoreArms d ts r tree.NoArm
        arms_go_on : {d : ℕ} {ts u v r : List Token} {a : tree.Arm} {rest : tree.Arms} → Is w.Semicolon ts u
            → IsArm d u v a → IsMoreArms d v r rest → IsMoreArms d ts r (tree.Or a rest)

      -- sequence { "|" sequence } "end"
      pub data IsBranches : ℕ → List Token → List Token → tree.Branches → Type 0 where
        branches : {d : ℕ} {ts u r : List Token} {ss : tree.Statements} {bs : tree.Branches} → IsSequence d ts u ss
            → IsMoreBranches d u r bs → IsBranches d ts r (tree.Beside ss bs)

      pub data IsMoreBranches : ℕ → List Token → List Token → tree.Branches → Type 0 where
        branches_end : {d : ℕ} {ts r : List Token} → Is w.End ts r → IsMoreBranches d ts r tree.NoBranch
        branches_go_on : {d : ℕ} {ts u r : List Token} {bs : tree.Branches} → Is w.Bar ts u → IsBranches d u r bs
            → IsMoreBranches d ts r bs

    mutual
      -- block = { constants | types | variables | procedure | function } compound
      pub data IsBlock : ℕ → List Token → List Token → tree.Block → Type 0 where
        block : {d : ℕ} {ts r : List Token} {b : tree.Block} → Ok d ts → IsParts (suc d) ts r b → IsBlock d ts r b

      pub data IsParts : ℕ → List Token → List Token → tree.Block → Type 0 where
        body : {d : ℕ} {t : Token} {ts r : List Token} {ss : tree.Statements} → IsCompound d (t ∷ ts) r ss
            → IsParts d (t ∷ ts) r (record { parts = tree.NoPart; body = tree.Does t.at (tree.Sequence ss) })
        constants : {d : ℕ} {ts u v r : List Token} {p : tree.Part} {b : tree.Block} → Is w.Const ts u
            → IsConstantPart u v p → IsMoreConstants d v r b → IsParts d ts r (with_part_first p b)
        types : {d : ℕ} {ts u v r : List Token} {p : tree.Part} {b : tree.Block} → Is w.Type' ts u → IsTypePart u v p
            → IsMoreTypes d v r b → IsParts d ts r (with_part_first p b)
        variables : {d : ℕ} {ts u v r : List Token} {p : tree.Part} {b : tree.Block} → Is w.Var ts u
            → IsVariablePart u v p → IsMoreVariables d v r b → IsParts d ts r (with_part_first p b)
        procedure : {d : ℕ} {ts a b c e f g r : List Token} {n : Name} {fs : List SynFormal} {k m : tree.Block}
            → Is w.Procedure ts a → IsName a b n → IsFormals b c fs → Is w.Semicolon c e → IsBlock d e f k
            → Is w.Semicolon f g → IsParts d g r m
            → IsParts d ts r (with_part_first (tree.Proc n fs None k.parts k.body) m)
        function : {d : ℕ} {ts a b c e f g h i r : List Token} {n : Name} {fs : List SynFormal} {answer : Name}
            {k m : tree.Block} → Is w.Function ts a → IsName a b n → IsFormals b c fs → Is w.Colon c e
            → IsName e f answer → Is w.Semicolon f g → IsBlock d g h k → Is w.Semicolon h i → IsParts d i r m
            → IsParts d ts r (with_part_first (tree.Proc n fs (Some answer) k.parts k.body) m)

      -- constants = "const" name "=" constant ";" { name "=" constant ";" }: the further ones, and the rest of the
      -- block
      pub data IsMoreConstants : ℕ → List Token → List Token → tree.Block → Type 0 where
        constants_end : {d : ℕ} {ts r : List Token} {b : tree.Block} → IsParts d ts r b → IsMoreConstants d ts r b
        constants_go_on : {d : ℕ} {ts u r : List Token} {p : tree.Part} {b : tree.Block} → IsConstantPart ts u p
            → IsMoreConstants d u r b → IsMoreConstants d ts r (with_part_first p b)

      -- types = "type" name "=" type ";" { name "=" type ";" }: the further ones, and the rest of the block
      pub data IsMoreTypes : ℕ → List Token → List Token → tree.Block → Type 0 where
        types_end : {d : ℕ} {ts r : List Token} {b : tree.Block} → IsParts d ts r b → IsMoreTypes d ts r b
        types_go_on : {d : ℕ} {ts u r : List Token} {p : tree.Part} {b : tree.Block} → IsTypePart ts u p
            → IsMoreTypes d u r b → IsMoreTypes d ts r (with_part_first p b)

      -- variables = "var" names ":" name ";" { names ":" name ";" }: the further ones, and the rest of the block
      pub data IsMoreVariables : ℕ → List Token → List Token → tree.Block → Type 0 where
        variables_end : {d : ℕ} {ts r : List Token} {b : tree.Block} → IsParts d ts r b → IsMoreVariables d ts r b
        variables_go_on : {d : ℕ} {ts u r : List Token} {p : tree.Part} {b : tree.Block} → IsVariablePart ts u p
            → IsMoreVariables d u r b → IsMoreVariables d ts r (with_part_first p b)

    -- program = "program" name [ "(" names ")" ] ";" block "."
    pub data IsProgram : List Token → List Token → tree.Program → Type 0 where
      program : {ts a b c e f r : List Token} {n : Name} {ns : List Name} {k : tree.Block} → Is w.Program ts a
          → IsName a b n → IsHeading b c ns → Is w.Semicolon c e → IsBlock 0 e f k → Is w.Dot f r
          → IsProgram ts r (record { name = n; heading = ns; block = k })
