-- None of this belongs to what the program promises: it is for contracts between crates.
-- The index of each forall has in the tree the type of its first limit. The phase of types gives it, and the code of a
-- forall needs it.
use Rattle.std.specs.Prelude.{ℕ, List, [], ◌∷◌}
use Rattle.sp_tree.specs.Plain.{Program}
use Rattle.sp_tree.specs.PlainNamed as n
use Rattle.sp_types.specs.Tables.{Env}
use Rattle.sp_types.specs.TypeWalk.{with_first_number, statement_after}
use Rattle.sp_front.specs.MatchingTables.{IsTyped}

abbrev pub AreBlocksTyped : Program → Env → List ℕ → List n.Block → Type 0
AreBlocksTyped p env starts [] = Unit {0}
AreBlocksTyped p env [] (b ∷ bs) = Unit {0}
AreBlocksTyped p env (k ∷ starts) (b ∷ bs) = IsTyped p (with_first_number env k) b.body
    × AreBlocksTyped p (statement_after (with_first_number env k) b.body) starts bs
