-- How much stands between two ticks of what is left to do: no more than in the statement that it comes from.
use Rattle.std.proofs.Common.{ℕ, zero, suc, ◌+◌, ◌≤◌, Bool, true, false, List, [], ◌∷◌, Option, Some, None, arith}
use Rattle.std.proofs.Common.{if◌then◌else◌}
use Rattle.std.specs.Prelude.{ℤ, pos, ◌+ℤ◌}
use Rattle.sp_tree.specs.Plain.{Block, Stmt, Empty, Sequence}
use Rattle.sp_tree.specs.Plain.{Stmts, No, And, On, Arms, NoArm, Or}
use Rattle.sp_meaning.specs.LocalWork.{Item, Do, First, Again, Test, Leave, Break}
use Rattle.sp_meaning.specs.Actions.{Birth, push, push_all, has_constant, arm_for, children, indexed_children}
use Rattle.sp_meaning.specs.SuperPascal.{weight, weight_all, weight_arms}

abbrev pub weight_item : Item → ℕ
weight_item (Do s) = weight s
weight_item (Test s e) = weight s + 4
weight_item _ = 1

abbrev pub weights : List Item → ℕ
weights [] = 0
weights (i ∷ todo) = weight_item i + weights todo

-- what is left to do is light
abbrev pub IsLight : ℕ → Item → Type 0
IsLight k (Do s) = weight s ≤ k
IsLight k (First x m n down s) = weight s + 3 ≤ k
IsLight k (Again x n down s) = weight s + 3 ≤ k
IsLight k (Test s e) = weight s + 3 ≤ k
IsLight k Leave = Unit {0}
IsLight k (Break f) = Unit {0}

abbrev pub AreLight : ℕ → List Item → Type 0
AreLight k [] = Unit {0}
AreLight k (i ∷ todo) = IsLight k i × AreLight k todo

-- and so is what each child is to do
abbrev pub AllBorn : ℕ → List Birth → Type 0
AllBorn k [] = Unit {0}
AllBorn k (b ∷ bs) = AreLight k b.todo × AllBorn k bs

mutual
  pub push_weight : (s : Stmt) (todo : List Item) → weights (push s todo) ≤ weight s + weights todo
  push_weight (Sequence ss) todo = omega (arith, push_all_weight ss todo)
  push_weight _ _ = omega arith

  pub push_all_weight : (ss : Stmts) (todo : List Item) → weights (push_all ss todo) ≤ weight_all ss + weights todo
  push_all_weight No todo = omega arith
  push_all_weight (And s rest) todo = omega (arith, push_weight s (push_all rest todo), push_all_weight rest todo)

mutual
  pub push_fit : (k : ℕ) (s : Stmt) (todo : List Item) → weight s ≤ k → AreLight k todo → AreLight k (push s todo)
  push_fit k Empty todo h f = f
  push_fit k (Sequence ss) todo h f = push_all_fit k ss todo (omega arith) f
  push_fit _ _ _ h f = (h, f)

  pub push_all_fit : (k : ℕ) (ss : Stmts) (todo : List Item) → weight_all ss ≤ k → AreLight k todo
      → AreLight k (push_all ss todo)
  push_all_fit k No todo h f = f
  push_all_fit k (And s rest) todo h f = push_fit k s (push_all rest todo) (omega arith)
      (push_all_fit k rest todo (omega arith) f)

pub children_born : (k : ℕ) (ss : Stmts) → weight_all ss ≤ k → AllBorn k (children ss)
children_born k No h = tt
children_born k (And s rest) h = (push_fit k s [] (omega arith) tt, children_born k rest (omega arith))

pub indexed_born : (k x : ℕ) (s : Stmt) (low : ℤ) (n : ℕ) → weight s ≤ k → AllBorn k (indexed_children x s low n)
indexed_born k x s low zero h = tt
indexed_born k x s low (suc n) h = (push_fit k s [] h tt, indexed_born k x s (low +ℤ pos 1) n h)

abbrev pub LightStmt : ℕ → Option Stmt → Type 0
LightStmt w None = Unit {0}
LightStmt w (Some s) = weight s ≤ w

pub arm_light : (n : ℤ) (arms : Arms) → LightStmt (weight_arms arms) (arm_for n arms)
arm_light n NoArm = tt
arm_light n (Or (On ms s) rest) = go (has_constant n ms) (arm_for n rest) (arm_light n rest)
  where
    go : (b : Bool) (o : Option Stmt) → LightStmt (weight_arms rest) o
        → LightStmt (weight s + weight_arms rest) (if b then Some s else o)
    go true o h = omega arith
    go false None h = tt
    go false (Some r) h = omega arith

abbrev pub LightBlock : ℕ → Option Block → Type 0
LightBlock k None = Unit {0}
LightBlock k (Some b) = weight b.body ≤ k
