-- None of this belongs to what the program promises: it is for contracts between crates.
-- How a verifier finds what is around each instruction: first the blocks, then the children of each table, once the
-- instruction that names the table has a node.
use Rattle.std.specs.Prelude.{◌≡◌, ℕ, ◌+◌, ◌<◌, if◌then◌else◌, List, Option, Some, None, false, slice_get}
use Rattle.std.specs.Prelude.{slice_set, length, nat_lt}
use Rattle.sp_code.specs.declared.code.Layout.{Layout}
use Rattle.sp_code.specs.declared.code.ChildTable.{ChildTable}
use Rattle.sp_code.specs.declared.code.Parts.{Parts}
use Rattle.sp_code.specs.Machine.{layout_of}
use Rattle.sp_code.specs.Memory.{Home}
use Rattle.sp_verify_rules.specs.Areas.{Area, Child, on_option, instr_at, table_named, is_led, with_home, block_homes}
use Rattle.sp_verify_rules.specs.Areas.{homes}
use Rattle.sp_verify_rules.specs.NameRules.{Names, IsChild}
use Rattle.sp_verify_areas.specs.declared.owners.Owner.{Owner}
use Rattle.sp_verify_areas.specs.declared.owners.Owner.TheVariants as owner
use Rattle.sp_verify_areas.specs.declared.tree.Grown.{Grown}
use Rattle.sp_verify_areas.specs.declared.tree.Node.{Node}
use Rattle.sp_verify_areas.specs.Blocks.{number_from}
use Rattle.sp_verify_areas.specs.Grown.{node_at}
use Rattle.sp_verify_areas.specs.Only.{LiesOnlyIn}
use Rattle.sp_verify_areas.specs.Tree.{AreLists, with_list}

-- ---- blocks

-- the first n layouts have nodes; those of first layouts stand for what is around their blocks; a layout that has none
-- yet is not led
pub record AreFilled (c : Parts) (n : ℕ) (g : Grown) : Type 0 where
  pub lists : ℕ → List Home
  pub tree : AreLists c.layouts g.nodes lists
  pub long : length g.of ≡ length c.layouts
  pub each : (j k : ℕ) (l : Layout) → node_at g.of j ≡ Some k → slice_get c.layouts j ≡ Some l
      → (k < length g.nodes) × (layout_of c.layouts l.block ≡ Some l → lists k ≡ block_homes c l.block)
  pub alone : (j : ℕ) (l : Layout) → node_at g.of j ≡ None → slice_get c.layouts j ≡ Some l
      → layout_of c.layouts l.block ≡ Some l → is_led c l.block ≡ false
  pub full : (j : ℕ) → j < n → (k : ℕ) × (node_at g.of j ≡ Some k)

-- ---- children

-- a node is put last, for a child of a fork whose own node is given: its index with what is around, or the same again
pub record PutsChild (old new : List Node) (around : ℕ) (index : Option ℕ) : Type 0 where
  pub more : length new ≡ length old + 1
  pub lists : (ls : List Layout) (lists : ℕ → List Home) → AreLists ls old lists → around < length old
      → AreLists ls new (with_list lists (length old) (with_home index (lists around)))

-- nodes stand for the same as before, and those put last for the first n of these children
pub record IsExtended (ls : List Layout) (lists : ℕ
    → List Home) (size : ℕ) (new : List Node) (around : ℕ) (ts : List ChildTable) (n : ℕ) : Type 0 where
  pub after : ℕ → List Home
  pub tree : AreLists ls new after
  pub unchanged : (k : ℕ) → k < size → after k ≡ lists k
  pub each : (k : ℕ) (ch : ChildTable) → k < n → slice_get ts k ≡ Some ch
      → after (size + k) ≡ with_home ch.index (lists around)

pub record PutsChildren (old new : List Node) (around : ℕ) (ts : List ChildTable) (n : ℕ) : Type 0 where
  pub more : length new ≡ length old + n
  pub lists : (ls : List Layout) (lists : ℕ → List Home) → AreLists ls old lists → around < length old
      → IsExtended ls lists (length old) new around ts n

-- a table gets the first of its children's nodes, which are new
pub record AttachesChildren (old new : Grown) (t around : ℕ) (ts : List ChildTable) : Type 0 where
  pub of : new.of ≡ slice_set old.of t (Some (length old.nodes))
  pub puts : PutsChildren old.nodes new.nodes around ts (length ts)

-- the node of a child, by the first one of its table, if it is one of so many
abbrev pub child_node : ℕ → ℕ → ℕ → Option ℕ
child_node size base k = if nat_lt (base + k) size then Some (base + k) else None

-- the node of an owner, by those of layouts and the first ones of tables
abbrev pub node_of : Parts → ℕ → List (Option ℕ) → List (Option ℕ) → Owner → Option ℕ
node_of c size blocks tables owner.Nobody = None
node_of c size blocks tables (owner.Block b) = on_option None (number_from 0 c.layouts b) (λ k. node_at blocks k)
node_of c size blocks tables (owner.Child p k) = on_option None (table_named (instr_at c p))
    (λ t. on_option None (node_at tables t) (λ base. child_node size base k))
node_of c size blocks tables owner.Several = None

-- the owner of an instruction
abbrev pub owner_in : List Owner → ℕ → Owner
owner_in os p = on_option owner.Nobody (slice_get os p) (λ o. o)

-- nodes of blocks, and of tables' children where a table has them, stand for what is around them
pub record AreAttached (c : Parts) (blocks : List (Option ℕ)) (g : Grown) : Type 0 where
  pub lists : ℕ → List Home
  pub tree : AreLists c.layouts g.nodes lists
  pub long : length g.of ≡ length c.forks
  pub block : (b k n : ℕ) → number_from 0 c.layouts b ≡ Some k → node_at blocks k ≡ Some n → (n < length g.nodes)
      × (lists n ≡ block_homes c b)
  pub child : (t base k : ℕ) (ch : ChildTable) → node_at g.of t ≡ Some base → IsChild c t k ch
      → (base + k < length g.nodes)
      × ((q : ℕ) (a : Area) → Names c t q → LiesOnlyIn c ch.entry (Child a q k)
      → lists (base + k) ≡ homes c (Child a q k))

-- the table that an instruction names has nodes, if the instruction has one
abbrev pub IsAttachedBy : Parts → List Owner → List (Option ℕ) → ℕ → Grown → Type 0
IsAttachedBy c os blocks q g = (t n : ℕ) → Names c t q → t < length c.forks
    → node_of c (length g.nodes) blocks g.of (owner_in os q) ≡ Some n
    → (base : ℕ) × (node_at g.of t ≡ Some base)

-- each first layout has a node
abbrev pub IsFull : List Layout → List (Option ℕ) → Type 0
IsFull ls blocks = (j : ℕ) → j < length ls → (k : ℕ) × (node_at blocks j ≡ Some k)

-- all tables have nodes that instructions with nodes name
pub record AreAllAttached (c : Parts) (os : List Owner) (blocks : List (Option ℕ)) (g : Grown) : Type 0 where
  pub attached : AreAttached c blocks g
  pub all : (q : ℕ) → IsAttachedBy c os blocks q g

-- a list has the nodes of the first n owners
pub record AreNodes (c : Parts) (os : List Owner) (blocks : List (Option ℕ)) (g : Grown) (at : List (Option ℕ))
    (n : ℕ) : Type 0 where
  pub size : length at ≡ n
  pub each : (p : ℕ) → p < n → slice_get at p ≡ Some (node_of c (length g.nodes) blocks g.of (owner_in os p))
