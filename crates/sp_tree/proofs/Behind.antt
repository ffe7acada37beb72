-- What is behind does not go on with what is before: which tokens no symbol of it takes.
use Rattle.std.proofs.Common.{◌≡◌, ℕ, List, [], ◌∷◌, None, refl, ap, ◌∙◌}
use Rattle.sp_tree.specs.declared.token.Token.{Token}
use Rattle.sp_tree.specs.declared.token.Kind.{Kind}
use Rattle.sp_tree.specs.declared.operators.BinaryOp.{BinaryOp}
use Rattle.sp_tree.specs.Words as w
use Rattle.sp_tree.specs.Grammar as g
use Rattle.sp_tree.specs.Symbols as sym
use Rattle.sp_tree.specs.Symbols.{Symbol}
use Rattle.sp_tree.specs.Table.{rows, look}

-- a symbol that takes none of its tokens here
abbrev pub TakesNone : Symbol → List Token → Type 0
TakesNone s [] = ⊥
TakesNone s (t ∷ ts) = look (rows s) t.kind ≡ None

pub ends : (s : Symbol) (k : Kind) → look (rows s) k ≡ None → {ts r : List Token} → g.Is k ts r → TakesNone s ts
ends s k h (g.it_is t p) = ap (look (rows s)) p ∙ h

-- what is behind does not go on with a factor, a term, a simple expression, an expression, at any depth
pub record EndsFactor (r : List Token) : Type 0 where
  pub reference : (d : ℕ) → TakesNone (sym.AReference d) r
  pub selectors : (d : ℕ) → TakesNone (sym.Selectors d) r

pub record EndsTerm (r : List Token) : Type 0 where
  pub factors : (d : ℕ) → TakesNone (sym.MoreFactors d) r
  pub factor : EndsFactor r

pub record EndsSimple (r : List Token) : Type 0 where
  pub terms : (d : ℕ) → TakesNone (sym.MoreTerms d) r
  pub term : EndsTerm r

pub record EndsExpression (r : List Token) : Type 0 where
  pub relation : (d : ℕ) → TakesNone (sym.ARelation d) r
  pub simple : EndsSimple r

-- what is behind does not go on with a statement
pub record EndsStatement (r : List Token) : Type 0 where
  pub statement : (d : ℕ) → TakesNone (sym.AStatement d) r
  pub name : (d : ℕ) → TakesNone (sym.AfterName d) r
  pub expression : EndsExpression r

factor_ends_at : (k : Kind) → ((d : ℕ) → look (rows (sym.AReference d)) k ≡ None)
    → ((d : ℕ) → look (rows (sym.Selectors d)) k ≡ None) → {ts r : List Token} → g.Is k ts r → EndsFactor ts
factor_ends_at k a b i = record {
  reference = λ d. ends (sym.AReference d) k (a d) i;
  selectors = λ d. ends (sym.Selectors d) k (b d) i;
}

term_ends_at : (k : Kind) → ((d : ℕ) → look (rows (sym.MoreFactors d)) k ≡ None) → {ts r : List Token} → g.Is k ts r
    → EndsFactor ts → EndsTerm ts
term_ends_at k c i q = record { factors = λ d. ends (sym.MoreFactors d) k (c d) i; factor = q }

simple_ends_at : (k : Kind) → ((d : ℕ) → look (rows (sym.MoreTerms d)) k ≡ None) → {ts r : List Token} → g.Is k ts r
    → EndsTerm ts → EndsSimple ts
simple_ends_at k c i q = record { terms = λ d. ends (sym.MoreTerms d) k (c d) i; term = q }

expression_ends_at : (k : Kind) → ((d : ℕ) → look (rows (sym.ARelation d)) k ≡ None) → {ts r : List Token} → g.Is k ts r
    → EndsSimple ts → EndsExpression ts
expression_ends_at k c i q = record { relation = λ d. ends (sym.ARelation d) k (c d) i; simple = q }

ended : (k : Kind) → ((d : ℕ) → look (rows (sym.AStatement d)) k ≡ None)
    → ((d : ℕ) → look (rows (sym.AfterName d)) k ≡ None) → {ts r : List Token} → g.Is k ts r → EndsExpression ts
    → EndsStatement ts
ended k a b i q = record {
  statement = λ d. ends (sym.AStatement d) k (a d) i;
  name = λ d. ends (sym.AfterName d) k (b d) i;
  expression = q;
}

-- the tokens behind which an expression, or a statement, may end
pub ends_by_then : {ts r : List Token} → g.Is w.Then ts r → EndsExpression ts
ends_by_then i = expression_ends_at w.Then (λ d. refl) i (simple_ends_at w.Then (λ d. refl) i
    (term_ends_at w.Then (λ d. refl) i (factor_ends_at w.Then (λ d. refl) (λ d. refl) i)))

pub ends_by_do : {ts r : List Token} → g.Is w.Do ts r → EndsExpression ts
ends_by_do i = expression_ends_at w.Do (λ d. refl) i (simple_ends_at w.Do (λ d. refl) i
    (term_ends_at w.Do (λ d. refl) i (factor_ends_at w.Do (λ d. refl) (λ d. refl) i)))

pub ends_by_of : {ts r : List Token} → g.Is w.Of ts r → EndsExpression ts
ends_by_of i = expression_ends_at w.Of (λ d. refl) i (simple_ends_at w.Of (λ d. refl) i
    (term_ends_at w.Of (λ d. refl) i (factor_ends_at w.Of (λ d. refl) (λ d. refl) i)))

pub ends_by_to : {ts r : List Token} → g.Is w.To ts r → EndsExpression ts
ends_by_to i = expression_ends_at w.To (λ d. refl) i (simple_ends_at w.To (λ d. refl) i
    (term_ends_at w.To (λ d. refl) i (factor_ends_at w.To (λ d. refl) (λ d. refl) i)))

pub ends_by_downto : {ts r : List Token} → g.Is w.Downto ts r → EndsExpression ts
ends_by_downto i = expression_ends_at w.Downto (λ d. refl) i
    (simple_ends_at w.Downto (λ d. refl) i (term_ends_at w.Downto (λ d. refl) i
    (factor_ends_at w.Downto (λ d. refl) (λ d. refl) i)))

ends_by_end : {ts r : List Token} → g.Is w.End ts r → EndsExpression ts
ends_by_end i = expression_ends_at w.End (λ d. refl) i (simple_ends_at w.End (λ d. refl) i
    (term_ends_at w.End (λ d. refl) i (factor_ends_at w.End (λ d. refl) (λ d. refl) i)))

ends_by_until : {ts r : List Token} → g.Is w.Until ts r → EndsExpression ts
ends_by_until i = expression_ends_at w.Until (λ d. refl) i (simple_ends_at w.Until (λ d. refl) i
    (term_ends_at w.Until (λ d. refl) i (factor_ends_at w.Until (λ d. refl) (λ d. refl) i)))

ends_by_else : {ts r : List Token} → g.Is w.Else ts r → EndsExpression ts
ends_by_else i = expression_ends_at w.Else (λ d. refl) i (simple_ends_at w.Else (λ d. refl) i
    (term_ends_at w.Else (λ d. refl) i (factor_ends_at w.Else (λ d. refl) (λ d. refl) i)))

ends_by_bar : {ts r : List Token} → g.Is w.Bar ts r → EndsExpression ts
ends_by_bar i = expression_ends_at w.Bar (λ d. refl) i (simple_ends_at w.Bar (λ d. refl) i
    (term_ends_at w.Bar (λ d. refl) i (factor_ends_at w.Bar (λ d. refl) (λ d. refl) i)))

ends_by_semicolon : {ts r : List Token} → g.Is w.Semicolon ts r → EndsExpression ts
ends_by_semicolon i = expression_ends_at w.Semicolon (λ d. refl) i
    (simple_ends_at w.Semicolon (λ d. refl) i (term_ends_at w.Semicolon (λ d. refl) i
    (factor_ends_at w.Semicolon (λ d. refl) (λ d. refl) i)))

pub ends_by_comma : {ts r : List Token} → g.Is w.Comma ts r → EndsExpression ts
ends_by_comma i = expression_ends_at w.Comma (λ d. refl) i (simple_ends_at w.Comma (λ d. refl) i
    (term_ends_at w.Comma (λ d. refl) i (factor_ends_at w.Comma (λ d. refl) (λ d. refl) i)))

pub ends_by_close : {ts r : List Token} → g.Is w.Close ts r → EndsExpression ts
ends_by_close i = expression_ends_at w.Close (λ d. refl) i (simple_ends_at w.Close (λ d. refl) i
    (term_ends_at w.Close (λ d. refl) i (factor_ends_at w.Close (λ d. refl) (λ d. refl) i)))

pub ends_by_closeindex : {ts r : List Token} → g.Is w.CloseIndex ts r → EndsExpression ts
ends_by_closeindex i = expression_ends_at w.CloseIndex (λ d. refl) i
    (simple_ends_at w.CloseIndex (λ d. refl) i
    (term_ends_at w.CloseIndex (λ d. refl) i (factor_ends_at w.CloseIndex (λ d. refl) (λ d. refl) i)))

pub ends_by_colon : {ts r : List Token} → g.Is w.Colon ts r → EndsExpression ts
ends_by_colon i = expression_ends_at w.Colon (λ d. refl) i (simple_ends_at w.Colon (λ d. refl) i
    (term_ends_at w.Colon (λ d. refl) i (factor_ends_at w.Colon (λ d. refl) (λ d. refl) i)))

pub ended_end : {ts r : List Token} → g.Is w.End ts r → EndsStatement ts
ended_end i = ended w.End (λ d. refl) (λ d. refl) i (ends_by_end i)

pub ended_until : {ts r : List Token} → g.Is w.Until ts r → EndsStatement ts
ended_until i = ended w.Until (λ d. refl) (λ d. refl) i (ends_by_until i)

pub ended_else : {ts r : List Token} → g.Is w.Else ts r → EndsStatement ts
ended_else i = ended w.Else (λ d. refl) (λ d. refl) i (ends_by_else i)

pub ended_bar : {ts r : List Token} → g.Is w.Bar ts r → EndsStatement ts
ended_bar i = ended w.Bar (λ d. refl) (λ d. refl) i (ends_by_bar i)

pub ended_semicolon : {ts r : List Token} → g.Is w.Semicolon ts r → EndsStatement ts
ended_semicolon i = ended w.Semicolon (λ d. refl) (λ d. refl) i (ends_by_semicolon i)

pub simple_ends_by_relational : {k : Kind} {o : BinaryOp} → g.IsRelational k o → {ts r : List Token} → g.Is k ts r
    → EndsSimple ts
simple_ends_by_relational g.equal i = simple_ends_at w.Equal (λ d. refl) i
    (term_ends_at w.Equal (λ d. refl) i (factor_ends_at w.Equal (λ d. refl) (λ d. refl) i))
simple_ends_by_relational g.unequal i = simple_ends_at w.Unequal (λ d. refl) i
    (term_ends_at w.Unequal (λ d. refl) i (factor_ends_at w.Unequal (λ d. refl) (λ d. refl) i))
simple_ends_by_relational g.less i = simple_ends_at w.Less (λ d. refl) i
    (term_ends_at w.Less (λ d. refl) i (factor_ends_at w.Less (λ d. refl) (λ d. refl) i))
simple_ends_by_relational g.at_most i = simple_ends_at w.AtMost (λ d. refl) i
    (term_ends_at w.AtMost (λ d. refl) i (factor_ends_at w.AtMost (λ d. refl) (λ d. refl) i))
simple_ends_by_relational g.greater i = simple_ends_at w.Greater (λ d. refl) i
    (term_ends_at w.Greater (λ d. refl) i (factor_ends_at w.Greater (λ d. refl) (λ d. refl) i))
simple_ends_by_relational g.at_least i = simple_ends_at w.AtLeast (λ d. refl) i
    (term_ends_at w.AtLeast (λ d. refl) i (factor_ends_at w.AtLeast (λ d. refl) (λ d. refl) i))

pub term_ends_by_adding : {k : Kind} {o : BinaryOp} → g.IsAdding k o → {ts r : List Token} → g.Is k ts r → EndsTerm ts
term_ends_by_adding g.plus i = term_ends_at w.Plus (λ d. refl) i (factor_ends_at w.Plus (λ d. refl) (λ d. refl) i)
term_ends_by_adding g.minus i = term_ends_at w.Minus (λ d. refl) i (factor_ends_at w.Minus (λ d. refl) (λ d. refl) i)
term_ends_by_adding g.or i = term_ends_at w.Or (λ d. refl) i (factor_ends_at w.Or (λ d. refl) (λ d. refl) i)

pub factor_ends_by_multiplying : {k : Kind} {o : BinaryOp} → g.IsMultiplying k o → {ts r : List Token} → g.Is k ts r
    → EndsFactor ts
factor_ends_by_multiplying g.times i = factor_ends_at w.Times (λ d. refl) (λ d. refl) i
factor_ends_by_multiplying g.quotient i = factor_ends_at w.Div (λ d. refl) (λ d. refl) i
factor_ends_by_multiplying g.modulo i = factor_ends_at w.Mod (λ d. refl) (λ d. refl) i
factor_ends_by_multiplying g.and i = factor_ends_at w.And (λ d. refl) (λ d. refl) i
