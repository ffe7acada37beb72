-- None of this belongs to what the program promises: it is for contracts between crates.
-- What a symbol takes of the tokens, and what it then stands for, as the table has it: by the row of the next token,
-- or nothing where there is no row. It stands between two others: the grammar of `sp_tree`, a family for each line,
-- in which promises are written, and the machine, which takes one token at a time. Proofs show that it is the same as
-- each of them, and the parser's contracts speak of it, since it goes by symbols as the parser does. It is a family
-- of derivations and no function, so that it needs no measure and a proof goes by its two cases. `Ok` is asked of
-- each part at its depth and its tokens, as in the grammar.
use Rattle.std.specs.Prelude.{◌≡◌, ℕ, List, [], ◌∷◌, Option, Some, None}
use Rattle.sp_tree.specs.declared.token.Token.{Token}
use Rattle.sp_tree.specs.Symbols.{Symbol, Value, Values, part}
use Rattle.sp_tree.specs.Table.{RowEntry, Row, rows, look, gap, build}

-- a part may begin here, if it is one: with nothing in place of a depth it is none
abbrev pub PartMayBegin : (ℕ → List Token → Type 0) → Option ℕ → List Token → Type 0
PartMayBegin Ok None ts = Unit {0}
PartMayBegin Ok (Some d) ts = Ok d ts

module _ (text : List ℕ) (Ok : ℕ → List Token → Type 0) where
  mutual
    -- from the first tokens on, a symbol stands for the value, and the second tokens are left
    pub data Derives : (s : Symbol) → List Token → List Token → Value s → Type 0 where
      takes : {s : Symbol} {ts r : List Token} (t : Token) (e : RowEntry (Row s)) {vs : Values e.left}
          → look (rows s) t.kind ≡ Some e → PartMayBegin Ok (part s) (t ∷ ts) → DerivesAll e.left ts r vs
          → Derives s (t ∷ ts) r (build text e.row t vs)
      skips : {s : Symbol} {r : List Token} (t : Token) {v : Value s} → look (rows s) t.kind ≡ None → gap s t ≡ Some v
          → Derives s (t ∷ r) (t ∷ r) v

    -- one symbol after another
    pub data DerivesAll : (l : List Symbol) → List Token → List Token → Values l → Type 0 where
      none : {r : List Token} → DerivesAll [] r r tt
      and : {s : Symbol} {l : List Symbol} {ts u r : List Token} {v : Value s} {vs : Values l} → Derives s ts u v
          → DerivesAll l u r vs → DerivesAll (s ∷ l) ts r (v, vs)
