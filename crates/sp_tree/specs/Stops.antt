-- None of this belongs to what the program promises: it is for contracts between crates.
-- The rule that is broken where the machine gets stuck, for the parser, which names it as its refusal, and for the
-- proof that it is the first broken rule of the grammar. A rule follows from the machine's end alone: G2 where the
-- tokens ended, G1 or L2 at the token that it could not take. So whoever runs the machine knows the rule and its
-- place.
use Rattle.std.specs.Prelude.{◌≡◌, ℕ, List, [], ◌∷◌, length, Some}
use Rattle.sp_base.specs.declared.halt.Refusal.{Refusal}
use Rattle.sp_base.specs.declared.rule.Rule.TheVariants as rule
use Rattle.sp_tree.specs.declared.token.Token.{Token}
use Rattle.sp_tree.specs.Places.{place_at}
use Rattle.sp_tree.specs.Breaches.{nesting}
use Rattle.sp_tree.specs.Symbols.{Symbol}
use Rattle.sp_tree.specs.SymbolMachine.{Why, Bad, Deep, StuckAt, run}

-- the rule and its place, by why the machine got stuck and the tokens that were left
abbrev pub refusal_of : List ℕ → Why → List Token → Refusal
refusal_of text w [] = record { rule = rule.G2; at = place_at text (length text) }
refusal_of text Bad (t ∷ ts) = record { rule = rule.G1; at = t.at }
refusal_of text Deep (t ∷ ts) = record { rule = rule.L2; at = t.at }

-- From these tokens and this stack the machine gets stuck, and this rule is broken there.
pub record GetsStuck (text : List ℕ) (ts : List Token) (stack : List Symbol) (r : Refusal) : Type 0 where
  pub why : Why
  pub rest : List Token
  pub proof : run (Some nesting) ts stack ≡ StuckAt why rest
  pub refusal_is : refusal_of text why rest ≡ r
