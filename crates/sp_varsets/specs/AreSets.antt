-- Some of this belongs to what the program promises (docs/promise.txt).
-- What the sets of a tree are: exactly the variables that paths of calls reach. The contract of the computation of
-- sets promises it, and interference, code and the text of the sets rest on it alone.
use Rattle.std.specs.Prelude.{◌≡◌, ◌↔◌, ℕ, zero, suc, ◌<◌, Bool, true, false, List, get_or, Option, Some, None}
use Rattle.std.specs.Prelude.{slice_get}
use Rattle.sp_tree.specs.PlainChecked as p
use Rattle.sp_tree.specs.Bare.{bare_statement, without_places}
use Rattle.sp_tree.specs.Plain.{Program, Block}
use Rattle.sp_tree.specs.Uses.{In_stmt}
use Rattle.sp_tree.specs.Sets.{IsFree, IsTarget, IsSeen, ImplicitTarget, LeadsToStop}
use Rattle.sp_varsets.specs.declared.sets.Entry.{Entry}
use Rattle.sp_varsets.specs.declared.sets.Sets.{Sets}
use Rattle.sp_varsets.specs.declared.var_set.VarSet.{VarSet}
use Rattle.sp_varsets.specs.Members.{has}
use Rattle.sp_varsets.specs.Parts.{number_of, IsPart}

-- 0 names the empty set, n + 1 the set of place n in the pool
abbrev pub set_of_index : List VarSet → VarSet → ℕ → VarSet
set_of_index pool nothing zero = nothing
set_of_index pool nothing (suc i) = get_or pool i nothing

-- where the targets of an entry stand in the pool
abbrev pub target_index : Option Entry → ℕ
target_index None = 0
target_index (Some e) = e.targets

-- where its expression variables stand
abbrev pub expression_index : Option Entry → ℕ
expression_index None = 0
expression_index (Some e) = e.expressions

-- the targets and the expression variables of a statement, by its number
unfoldable pub targets_of : Sets → ℕ → VarSet
targets_of s n = set_of_index s.pool s.nothing (target_index (slice_get s.statements n))

unfoldable pub expressions_of : Sets → ℕ → VarSet
expressions_of s n = set_of_index s.pool s.nothing (expression_index (slice_get s.statements n))

-- the implicit ones of a block
unfoldable pub implicit_targets_of : Sets → ℕ → VarSet
implicit_targets_of s b = set_of_index s.pool s.nothing (target_index (slice_get s.blocks b))

unfoldable pub implicit_expressions_of : Sets → ℕ → VarSet
implicit_expressions_of s b = set_of_index s.pool s.nothing (expression_index (slice_get s.blocks b))

-- a call of the block leads to a statement that a function may not have
unfoldable pub stops_of : Sets → ℕ → Bool
stops_of s b = get_or s.stops b false

-- an expression variable of a block's statement part that neither the block nor one inside it declares
abbrev pub ImplicitSeen : Program → ℕ → ℕ → Type 0
ImplicitSeen g b x = (k : Block) × (slice_get g.blocks b ≡ Some k) × IsFree g b x × IsSeen g (In_stmt k.body) x

-- the sets of one statement
pub record OfStatement (g : Program) (s : Sets) (t : p.Statement) : Type 0 where
  pub targets : (x : ℕ) → (has (targets_of s (number_of t)) x ≡ true) ↔ IsTarget g (In_stmt (bare_statement t)) x
  pub expressions : (x : ℕ) → (has (expressions_of s (number_of t)) x ≡ true) ↔ IsSeen g (In_stmt (bare_statement t)) x

-- the implicit sets of one block, and whether it stops
pub record OfBlock (g : Program) (s : Sets) (b : ℕ) : Type 0 where
  pub targets : (x : ℕ) → (has (implicit_targets_of s b) x ≡ true) ↔ ImplicitTarget g b x
  pub expressions : (x : ℕ) → (has (implicit_expressions_of s b) x ≡ true) ↔ ImplicitSeen g b x
  pub stops : (stops_of s b ≡ true) ↔ LeadsToStop g b

-- the sets are those of the tree: of every statement in each block's statement part, and of every block
pub record AreSets (c : p.Program) (s : Sets) : Type 0 where
  pub statements : (b : ℕ) (k : p.Block) → slice_get c.blocks b ≡ Some k → (t : p.Statement) → IsPart t k.body
      → OfStatement (without_places c) s t
  pub blocks : (b : ℕ) (k : p.Block) → slice_get c.blocks b ≡ Some k → OfBlock (without_places c) s b

-- two statements with one number are one
abbrev pub HaveOwnNumbers : p.Program → Type 0
HaveOwnNumbers c = (b d : ℕ) (k m : p.Block) → slice_get c.blocks b ≡ Some k → slice_get c.blocks d ≡ Some m
    → (s t : p.Statement) → IsPart s k.body → IsPart t m.body → number_of s ≡ number_of t → s ≡ t

-- a block stands after the one around it
abbrev pub HaveEarlierParents : p.Program → Type 0
HaveEarlierParents c = (b : ℕ) (k : p.Block) (q : ℕ) → slice_get c.blocks b ≡ Some k → k.parent ≡ Some q → q < b
