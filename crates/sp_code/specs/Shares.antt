-- All of this belongs to what the program promises (docs/promise.txt).
-- What the children of a fork take over: for each process statement the variables that move to its process, and those
-- that it shares. The code of forks is given by it, and the facts of interference say which choices are right.
use Rattle.std.specs.Prelude.{◌⊎◌, ℕ, List}
use Rattle.sp_tree.specs.Plain.{Program, Stmt}
use Rattle.sp_tree.specs.Uses.{In_stmt}
use Rattle.sp_tree.specs.Sets.{IsTarget, IsUsed}
use Rattle.sp_tree.specs.Interference.{IsMember, AllDifferent}

-- moves: exactly the targets of a statement; shares: exactly what it uses besides; each variable once
pub record SetsAre (p : Program) (moves shares : Stmt → List ℕ) : Type 0 where
  pub moved : (s : Stmt) (x : ℕ) → IsTarget p (In_stmt s) x → IsMember x (moves s)
  pub moved_only : (s : Stmt) (x : ℕ) → IsMember x (moves s) → IsTarget p (In_stmt s) x
  pub shared : (s : Stmt) (x : ℕ) → IsUsed p (In_stmt s) x → IsMember x (moves s) ⊎ IsMember x (shares s)
  pub shared_only : (s : Stmt) (x : ℕ) → IsMember x (shares s) → IsUsed p (In_stmt s) x
  pub apart : (s : Stmt) (x : ℕ) → IsMember x (moves s) → IsMember x (shares s) → ⊥
  pub moved_once : (s : Stmt) → AllDifferent (moves s)
  pub shared_once : (s : Stmt) → AllDifferent (shares s)
