-- None of this belongs to what the program promises: it is for contracts between crates.
-- When two texts spell one tree but for places: the law that a canonical text means what its text means is said by it.
use Rattle.std.specs.Prelude.{◌≡◌, ℕ, List, [], ◌∷◌, length}
use Rattle.sp_tree.specs.declared.token.Token.{Token}
use Rattle.sp_tree.specs.PlainSyntax.{Program}
use Rattle.sp_tree.specs.Scans.{IsTokens}
use Rattle.sp_tree.specs.Viable.{Spells}

-- tokens at the places of others
abbrev pub at_places : List Token → List Token → List Token
at_places [] ts = []
at_places (u ∷ us) [] = u ∷ us
at_places (u ∷ us) (t ∷ ts) = record u { at = t.at } ∷ at_places us ts

-- The other text has as many tokens, which at the places of the text's tokens spell the very tree of the text.
pub record SpellsAlike (text other : List ℕ) (p : Program) : Type 0 where
  pub tokens : List Token
  pub others : List Token
  pub are_tokens : IsTokens text tokens
  pub are_others : IsTokens other others
  pub as_many : length others ≡ length tokens
  pub alike : Spells other (at_places others tokens) p
