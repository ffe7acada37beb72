-- None of this belongs to what the program promises: it is for contracts between crates.
-- A tree of homes that grows: items get a node one by one, until none is left that may get one.
use Rattle.std.specs.Prelude.{◌≡◌, ℕ, ◌+◌, ◌<◌, ◌==◌, if◌then◌else◌, List, ◌∷◌, Option, Some, None, Bool}
use Rattle.std.specs.Prelude.{true, false, slice_get, slice_set, length, sum_by}
use Rattle.sp_code.specs.declared.code.Layout.{Layout}
use Rattle.sp_code.specs.Memory.{Home}
use Rattle.sp_verify_rules.specs.Areas.{on_option, leads_by, homes_by}
use Rattle.sp_verify_areas.specs.declared.tree.Frame.{Frame}
use Rattle.sp_verify_areas.specs.declared.tree.Grown.{Grown}
use Rattle.sp_verify_areas.specs.declared.tree.Node.{Node}
use Rattle.sp_verify_areas.specs.Blocks.{number_from}
use Rattle.sp_verify_areas.specs.Tree.{AreLists, IsAround, IsFrame, around_list, home_of, with_list}

-- the node of an item, if it has one
abbrev pub node_at : List (Option ℕ) → ℕ → Option ℕ
node_at os j = on_option None (slice_get os j) (λ o. o)

-- how many items have none
abbrev pub one_if_none : Option ℕ → ℕ
one_if_none None = 1
one_if_none (Some n) = 0

abbrev pub none_count : List (Option ℕ) → ℕ
none_count os = sum_by one_if_none os

-- a node is put last, which stands for this list wherever those around it stand for theirs
pub record PutsNode (old new : List Node) (frame : Frame) (around : Option ℕ) : Type 0 where
  pub more : length new ≡ length old + 1
  pub lists : (ls : List Layout) (lists : ℕ → List Home) → AreLists ls old lists → IsFrame ls frame
      → IsAround (length old) around
      → AreLists ls new (with_list lists (length old) (home_of frame ∷ around_list lists around))

-- an item gets a new node
pub record GetsNode (old new : Grown) (j : ℕ) (frame : Frame) (around : Option ℕ) : Type 0 where
  pub of : new.of ≡ slice_set old.of j (Some (length old.nodes))
  pub puts : PutsNode old.nodes new.nodes frame around

-- one step, by which all stays true; where it changed nothing, this is closed
pub record GrowthStep (Just : Grown → Type 0) (old new : Grown) (Closed : Grown → Type 0) (changed : Bool) : Type
    0 where
  pub just : Just new
  pub less : changed ≡ true → none_count new.of < none_count old.of
  pub unchanged : changed ≡ false → (new ≡ old) × Closed new

-- what holds of the first items
abbrev pub EachItem : (ℕ → Grown → Type 0) → ℕ → Grown → Type 0
EachItem P n g = (j : ℕ) → j < n → P j g

-- ---- layouts

-- the parents of a layout lead to block 0, and the node stands for the blocks around it, whatever the fuel above so
-- many
abbrev pub HasBlockNode : List Layout → (ℕ → List Home) → Layout → ℕ → Type 0
HasBlockNode ls lists l n = (k : ℕ) → n < k → (leads_by k ls (Some l) ≡ true)
    × (lists n ≡ homes_by k ls (Some l))

-- layouts that have a node are led, and no fewer nodes are left than layouts
pub record HaveBlockNodes (ls : List Layout) (g : Grown) : Type 0 where
  pub lists : ℕ → List Home
  pub tree : AreLists ls g.nodes lists
  pub long : length g.of ≡ length ls
  pub count : length g.nodes + none_count g.of ≡ length ls
  pub each : (j n : ℕ) (l : Layout) → node_at g.of j ≡ Some n → slice_get ls j ≡ Some l → (n < length g.nodes)
      × HasBlockNode ls lists l n

-- the node of a layout's parent
abbrev pub parent_node : List Layout → List (Option ℕ) → Layout → Option ℕ
parent_node ls os l = on_option None l.parent (λ b. on_option None (number_from 0 ls b) (λ k. node_at os k))

-- the node around that of a layout, if it may get one: none for block 0, else that of its parent
abbrev pub inside_of : List Layout → List (Option ℕ) → Layout → Option (Option ℕ)
inside_of ls os l = if l.block == 0 then Some None else on_option None (parent_node ls os l) (λ n. Some (Some n))

-- a layout that may get a node has one
abbrev pub IsTried : List Layout → ℕ → Grown → Type 0
IsTried ls j g = (l : Layout) (o : Option ℕ) → slice_get ls j ≡ Some l → inside_of ls g.of l ≡ Some o → (n : ℕ)
    × (node_at g.of j ≡ Some n)

-- exactly the layouts that are led have a node
pub record HaveAllBlockNodes (ls : List Layout) (g : Grown) : Type 0 where
  pub led : HaveBlockNodes ls g
  pub all : (j k : ℕ) (l : Layout) → slice_get ls j ≡ Some l → leads_by k ls (Some l) ≡ true → (n : ℕ)
      × (node_at g.of j ≡ Some n)
