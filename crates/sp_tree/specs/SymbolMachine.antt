-- None of this belongs to what the program promises: it is for contracts between crates.
-- A machine on a stack of symbols that takes one token at a time, and gets stuck at the first token with which no
-- program goes on. It is how proofs find that place: the grammar says which tokens are a program, and the machine
-- where others cease to be the beginning of one. The parser's contracts say that it stops where the machine does, and
-- a law of this crate runs it to show that each text has a tree or a first broken rule. It is made of functions that
-- compute on the tokens, so that a run over known tokens reduces. A limit is how many parts a part may lie inside;
-- with none, the tokens alone count.
use Rattle.std.specs.Prelude.{◌≡◌, ℕ, ◌<◌, Bool, true, false, nat_lt, List, [], ◌∷◌, ◌++◌, Option, Some, None, length}
use Rattle.std.specs.Prelude.{◌⊎◌}
use Rattle.sp_tree.specs.declared.token.Token.{Token}
use Rattle.sp_tree.specs.Symbols.{Symbol, Value, part}
use Rattle.sp_tree.specs.Table.{RowEntry, Row, rows, look, gap}

-- why it cannot go on: no program goes on so, or a part would lie too deep
pub data Why : Type 0 where
  Bad : Why
  Deep : Why

-- what a symbol does at a token: it takes it and leaves others, or it stands for nothing, or neither
pub data Act : Type 0 where
  Take : List Symbol → Act
  Skip : Act
  Fail : Why → Act

-- whether a part may lie inside so many others; none: it is no part, or there is no limit
abbrev pub allows : Option ℕ → Option ℕ → Bool
allows None d = true
allows (Some limit) None = true
allows (Some limit) (Some d) = nat_lt d limit

-- the token is taken, if the part that begins with it may lie so deep
abbrev pub takes_if : Bool → List Symbol → Act
takes_if true l = Take l
takes_if false l = Fail Deep

-- the symbol is left out, if it may stand for nothing
abbrev pub skips_if : {V : Type 0} → Option V → Act
skips_if None = Fail Bad
skips_if (Some v) = Skip

-- the act by the row of the token, if there is one
abbrev pub acts : {s : Symbol} → Bool → Option (RowEntry (Row s)) → Option (Value s) → Act
acts b None g = skips_if g
acts b (Some e) g = takes_if b e.left

-- the act of a symbol at a token, under a limit
abbrev pub act : Option ℕ → Symbol → Token → Act
act reach s t = acts (allows reach (part s)) (look (rows s) t.kind) (gap s t)

-- a stack after a token, or why not
pub data NextStack : Type 0 where
  On : List Symbol → NextStack
  No : Why → NextStack

-- the stack behind an act of its first symbol; the others act in turn where that one is left out
abbrev pub next_of_act : Act → List Symbol → NextStack → NextStack
next_of_act (Take l) stack o = On (l ++ stack)
next_of_act Skip stack o = o
next_of_act (Fail w) stack o = No w

-- the stack behind a token
abbrev pub next_behind : Option ℕ → List Symbol → Token → NextStack
next_behind reach [] t = No Bad
next_behind reach (s ∷ stack) t = next_of_act (act reach s t) stack (next_behind reach stack t)

-- how a run ends: all is taken and nothing is pending; or why it cannot go on, and the tokens that are left
pub data RunEnd : Type 0 where
  Done : RunEnd
  StuckAt : Why → List Token → RunEnd

-- the run goes on with the stack behind the first of these tokens, or ends there
abbrev pub end_from : NextStack → List Token → (List Symbol → RunEnd) → RunEnd
end_from (No w) ts go = StuckAt w ts
end_from (On stack) ts go = go stack

-- the end of a run over these tokens, with these symbols pending
abbrev pub run : Option ℕ → List Token → List Symbol → RunEnd
run reach [] [] = Done
run reach [] (s ∷ stack) = StuckAt Bad []
run reach (t ∷ ts) stack = end_from (next_behind reach stack t) (t ∷ ts) (run reach ts)

-- From these tokens and this stack the machine comes to those, or it gets stuck with fewer than k tokens left.
pub record RunContinues (reach : Option ℕ) (k : ℕ) (ts : List Token) (j : List Symbol) (r : List Token)
    (l : List Symbol) :
    Type 0 where
  pub proof : (run reach ts j ≡ run reach r l) ⊎ ((w : Why) × (us : List Token) × (length us < k)
      × (run reach ts j ≡ StuckAt w us))
