-- None of this belongs to what the program promises: it is for contracts between crates.
-- What a production of the grammar is: the symbols that stand one after another, and what they make of what each of
-- them stands for. The contract of each function of the parser names the production that the function reads. The
-- productions themselves stand by subject in BlockProductions, ExpressionProductions and StatementProductions, each
-- under its line of the grammar; one that begins with a word of its own is that line without the word, since the
-- function that finds the word calls the one that reads what is behind it. What is made has names for the parts of the
-- line and `_` for its tokens. A production is a record, and each one unfolds, so that proofs see the symbols and the
-- tree that they make.
use Rattle.std.specs.Prelude.{List, [], ◌∷◌}
use Rattle.sp_tree.specs.Symbols.{Symbol, Value, Values}

pub record Production (V : Type 0) : Type 0 where
  pub symbols : List Symbol
  pub makes : Values symbols → V

abbrev pub production : {V : Type 0} (symbols : List Symbol) → (Values symbols → V) → Production V
production l of = record { symbols = l; makes = of }

-- one symbol, which makes what it stands for
abbrev pub single : (s : Symbol) → Production (Value s)
single s = production (s ∷ []) (λ vs. vs.0)

-- the answer of the parser is the very thing that stands in the tree
abbrev pub itself : {A : Type 0} → A → A
itself a = a
