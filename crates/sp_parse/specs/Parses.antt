-- None of this belongs to what the program promises: it is for contracts between crates.
-- What the tokens of a text are: a tree, or the first of the grammar's rules that they break. It is the promise of the
-- parser's one public function, for the crates above. It names the grammar and its rules of sp_tree and nothing of the
-- parser's own: no production, symbol or machine, so that whoever calls the parser need not know how it reads.
use Rattle.std.specs.Prelude.{ℕ, List, Result, Ok, Err}
use Rattle.sp_base.specs.declared.place.Place.{Place}
use Rattle.sp_base.specs.declared.rule.Rule.{Rule}
use Rattle.sp_base.specs.declared.halt.Halt.{Halt}
use Rattle.sp_base.specs.declared.halt.Halt.TheVariants as halt
use Rattle.sp_tree.specs.declared.token.Token.{Token}
use Rattle.sp_tree.specs.declared.syntax.Syntax.{Syntax}
use Rattle.sp_tree.specs.PlainSyntax.{Program}
use Rattle.sp_tree.specs.SyntaxOf.{program_of}
use Rattle.sp_tree.specs.Viable.{Spells}
use Rattle.sp_tree.specs.First.{IsFirst}
use Rattle.sp_tree.specs.Breaches.{BreaksGrammar}

-- The tokens spell the program, and they break no rule of the grammar.
pub record SpellsWell (text : List ℕ) (ts : List Token) (p : Program) : Type 0 where
  pub spells : Spells text ts p
  pub kept : (r : Rule) (at : Place) → BreaksGrammar text ts r at → ⊥

-- The tree that the tokens spell, or the first rule of the grammar that they break.
abbrev pub Parsed : List ℕ → List Token → Result Syntax Halt → Type 0
Parsed text ts (Ok tree) = SpellsWell text ts (program_of tree)
Parsed text ts (Err (halt.Refused r)) = IsFirst (BreaksGrammar text ts) r
Parsed text ts (Err halt.Memory) = Unit {0}
