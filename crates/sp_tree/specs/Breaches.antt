-- All of this belongs to what the program promises (docs/promise.txt).
-- The rules of the grammar that a list of tokens breaks, and the first rule that a text breaks. The contracts of the
-- parser, the formatter and the front cite it. It asks which tokens could go on, and not what a parser does. G1 and
-- L2 hold of a token and of all behind it; the first of them, by place and then by row, is the one that is reported.
use Rattle.std.specs.Prelude.{◌≡◌, ℕ, List, [], ◌∷◌, ◌++◌, length, ◌⊎◌}
use Rattle.sp_base.specs.declared.place.Place.{Place}
use Rattle.sp_base.specs.declared.halt.Refusal.{Refusal}
use Rattle.sp_base.specs.declared.rule.Rule.{Rule}
use Rattle.sp_base.specs.declared.rule.Rule.TheVariants as rule
use Rattle.sp_tree.specs.declared.token.Token.{Token}
use Rattle.sp_tree.specs.PlainSyntax.{Program}
use Rattle.sp_tree.specs.Places.{place_at}
use Rattle.sp_tree.specs.Scans.{BreaksLexis, IsTokens}
use Rattle.sp_tree.specs.Viable.{Spells, IsViable, IsShallow}
use Rattle.sp_tree.specs.First.{IsFirst}

-- inside so many parts no part may lie
abbrev pub nesting : ℕ
nesting = 200

-- The tokens up to and with the one at this place are no prefix of a program.
pub record NotViable (text : List ℕ) (ts : List Token) (at : Place) : Type 0 where
  pub front : List Token
  pub token : Token
  pub rest : List Token
  pub all : ts ≡ front ++ token ∷ rest
  pub place : at ≡ token.at
  pub bad : IsViable text (front ++ token ∷ []) → ⊥

-- The tokens up to and with the one at this place are a prefix of a program, and a part that begins in them lies inside
-- 200 others. The first such token is the first one of such a part.
pub record TooDeep (text : List ℕ) (ts : List Token) (at : Place) : Type 0 where
  pub front : List Token
  pub token : Token
  pub rest : List Token
  pub all : ts ≡ front ++ token ∷ rest
  pub place : at ≡ token.at
  pub viable : IsViable text (front ++ token ∷ [])
  pub deep : IsShallow text nesting (front ++ token ∷ []) → ⊥

-- All tokens are a prefix of a program and no program. The place is the end of the text.
pub record Unfinished (text : List ℕ) (ts : List Token) (at : Place) : Type 0 where
  pub viable : IsViable text ts
  pub no_program : (p : Program) → Spells text ts p → ⊥
  pub place : at ≡ place_at text (length text)

-- The rule is broken by the tokens.
abbrev pub BreaksGrammar : List ℕ → List Token → Rule → Place → Type 0
BreaksGrammar text ts rule.G1 at = NotViable text ts at
BreaksGrammar text ts rule.L2 at = TooDeep text ts at
BreaksGrammar text ts rule.G2 at = Unfinished text ts at
BreaksGrammar text ts r at = ⊥

-- The first rule of the first two phases that the text breaks: of its characters, or of its tokens where it has them.
abbrev pub IsFirstBroken : List ℕ → Refusal → Type 0
IsFirstBroken text r = IsFirst (BreaksLexis text) r
    ⊎ ((ts : List Token) × IsTokens text ts × IsFirst (BreaksGrammar text ts) r)

-- The tree of a text that breaks no rule of these phases.
pub record IsTree (text : List ℕ) (p : Program) : Type 0 where
  pub tokens : List Token
  pub are_tokens : IsTokens text tokens
  pub spells : Spells text tokens p
  pub kept : (r : Rule) (at : Place) → BreaksGrammar text tokens r at → ⊥
