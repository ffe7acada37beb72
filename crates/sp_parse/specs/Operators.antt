-- None of this belongs to what the program promises: it is for contracts between crates.
-- Which tokens stand between operands, and which begin a part, for the functions that look at one token and decide how
-- to go on. Operators are said by the families of the grammar (IsRelational, IsAdding, IsMultiplying), so that the
-- operator of the tree is the one of the token. What begins a part is said by the table of the grammar, at any depth:
-- whether it has a row for the token. A list that ends says in its contract that the table has no row for what follows.
use Rattle.std.specs.Prelude.{◌≡◌, ℕ, Bool, true, false, Option, Some, None}
use Rattle.sp_tree.specs.declared.token.Token.{Token}
use Rattle.sp_tree.specs.declared.token.Kind.{Kind}
use Rattle.sp_tree.specs.declared.operators.UnaryOp.{UnaryOp}
use Rattle.sp_tree.specs.declared.operators.UnaryOp.TheVariants as unary
use Rattle.sp_tree.specs.declared.operators.BinaryOp.{BinaryOp}
use Rattle.sp_tree.specs.Words as w
use Rattle.sp_tree.specs.Grammar.{IsRelational, IsAdding, IsMultiplying}
use Rattle.sp_tree.specs.Symbols.{Symbol, ARelation, MoreTerms, MoreFactors}
use Rattle.sp_tree.specs.Table.{kind_is, look, rows, factor_rows, simple_rows, selector_rows, form_rows, parts_rows}

-- a sign before a term
abbrev pub IsSign : Token → Option UnaryOp → Type 0
IsSign t None = (kind_is w.Plus t.kind ≡ false) × (kind_is w.Minus t.kind ≡ false)
IsSign t (Some unary.Plus) = t.kind ≡ w.Plus
IsSign t (Some unary.Minus) = t.kind ≡ w.Minus
IsSign t (Some o) = ⊥

-- the token is an operator of a family, or none of those that go on with an operand
abbrev pub IsOperator : (Kind → BinaryOp → Type 0) → (ℕ → Symbol) → Token → Option BinaryOp → Type 0
IsOperator Is tail t None = (d : ℕ) → look (rows (tail d)) t.kind ≡ None
IsOperator Is tail t (Some o) = (k : Kind) × Is k o × (t.kind ≡ k)

-- the same for relations, for operators between terms, and for those between factors
abbrev pub IsRelation : Token → Option BinaryOp → Type 0
IsRelation = IsOperator IsRelational ARelation

abbrev pub IsAddition : Token → Option BinaryOp → Type 0
IsAddition = IsOperator IsAdding MoreTerms

abbrev pub IsMultiplication : Token → Option BinaryOp → Type 0
IsMultiplication = IsOperator IsMultiplying MoreFactors

-- whether there is one
abbrev pub is_some : {A : Type 0} → Option A → Bool
is_some None = false
is_some (Some x) = true

-- whether a factor begins with the token
abbrev pub BeginsFactor : Token → Bool → Type 0
BeginsFactor t b = (d : ℕ) → is_some (look (factor_rows d) t.kind) ≡ b

-- whether an expression begins with the token
abbrev pub BeginsSimple : Token → Bool → Type 0
BeginsSimple t b = (d : ℕ) → is_some (look (simple_rows d) t.kind) ≡ b

-- whether a selector begins with the token
abbrev pub BeginsSelector : Token → Bool → Type 0
BeginsSelector t b = (d : ℕ) → is_some (look (selector_rows d) t.kind) ≡ b

-- whether a statement that is not empty begins with the token
abbrev pub BeginsForm : Token → Bool → Type 0
BeginsForm t b = (d : ℕ) → is_some (look (form_rows d) t.kind) ≡ b

-- whether a block begins with the token
abbrev pub BeginsBlock : Token → Bool → Type 0
BeginsBlock t b = (d : ℕ) → is_some (look (parts_rows d) t.kind) ≡ b
