-- Some of this belongs to what the program promises (docs/promise.txt).
-- Which tokens spell a program, and which are the beginning of some program. The first bad token is defined by it,
-- for the parser's refusal. Where the grammar asks `Ok` of a part, `Any` asks nothing, and `Shallow` that a part
-- which begins in the tokens so far lies inside fewer parts than the limit.
use Rattle.std.specs.Prelude.{◌≡◌, ℕ, ◌<◌, List, [], ◌∷◌, ◌++◌, length}
use Rattle.sp_tree.specs.declared.token.Token.{Token}
use Rattle.sp_tree.specs.PlainSyntax.{Program}
use Rattle.sp_tree.specs.Grammar.{IsProgram}

-- any depth
abbrev pub Any : ℕ → List Token → Type 0
Any d ts = Unit {0}

-- A part that begins where more than k tokens are left lies inside fewer than limit others.
abbrev pub Shallow : ℕ → ℕ → ℕ → List Token → Type 0
Shallow limit k d ts = k < length ts → d < limit

-- The tokens spell the program, whatever its depth. Nothing follows its last dot.
abbrev pub Spells : List ℕ → List Token → Program → Type 0
Spells text ts p = IsProgram text Any ts [] p

-- The tokens are a prefix of some list that spells a program.
abbrev pub IsViable : List ℕ → List Token → Type 0
IsViable text ts = (rest : List Token) × (p : Program) × Spells text (ts ++ rest) p

-- The same, and no part that begins in these tokens lies inside limit others.
abbrev pub IsShallow : List ℕ → ℕ → List Token → Type 0
IsShallow text limit ts = (rest : List Token) × (p : Program)
    × IsProgram text (Shallow limit (length rest)) (ts ++ rest) [] p

-- This is the first token with which the tokens are not viable.
pub record IsFirstBad (text : List ℕ) (ts : List Token) (front : List Token) (token : Token) : Type 0 where
  pub rest : List Token
  pub all : ts ≡ front ++ token ∷ rest
  pub viable : IsViable text front
  pub bad : IsViable text (front ++ token ∷ []) → ⊥
