-- All of this belongs to what the program promises (docs/promise.txt).
-- Areas of code: the code of a block, or of a child of a fork that lies in an area. Each has its first instruction, and
-- the blocks and forall indices around it, whose frames its instructions count by levels. The rules of code files are
-- said of areas.
use Rattle.std.specs.Prelude.{ℕ, zero, suc, ◌-◌, ◌==◌, List, [], ◌∷◌, Option, Some, None, Bool, true, false}
use Rattle.std.specs.Prelude.{if◌then◌else◌, slice_get, length, nat_lt}
use Rattle.sp_code.specs.declared.instr.Instr.{Instr}
use Rattle.sp_code.specs.declared.instr.Instr.TheVariants as i
use Rattle.sp_code.specs.declared.code.Formal.{Formal}
use Rattle.sp_code.specs.declared.code.Formal.TheVariants as formal
use Rattle.sp_code.specs.declared.code.Layout.{Layout}
use Rattle.sp_code.specs.declared.code.ChildTable.{ChildTable}
use Rattle.sp_code.specs.declared.code.ForkTable.{ForkTable}
use Rattle.sp_code.specs.declared.code.Parts.{Parts}
use Rattle.sp_code.specs.Machine.{layout_of}
use Rattle.sp_code.specs.Memory.{Home, OfBlock, OfIndex}

-- the code of a block; that of child k of the fork or forall at an instruction of an area
pub data Area : Type 0 where
  Body : (block : ℕ) → Area
  Child : (around : Area) (at k : ℕ) → Area

-- on with what is there, or another answer
abbrev pub on_option : {A B : Type 0} → B → Option A → (A → B) → B
on_option other None go = other
on_option other (Some x) go = go x

-- ---- children

-- the table that an instruction names
abbrev pub table_named : Option Instr → Option ℕ
table_named (Some (i.Fork t)) = Some t
table_named (Some (i.Forall t)) = Some t
table_named _ = None

-- a child of a table, if both are there
abbrev pub child_of : Option ForkTable → ℕ → Option ChildTable
child_of None k = None
child_of (Some t) k = slice_get t.children k

abbrev pub index_of_child : Option ChildTable → Option ℕ
index_of_child None = None
index_of_child (Some t) = t.index

abbrev pub entry_of_child : Option ChildTable → ℕ
entry_of_child None = 0
entry_of_child (Some t) = t.entry

abbrev pub entry_of_layout : Option Layout → ℕ
entry_of_layout None = 0
entry_of_layout (Some l) = l.entry

-- the table of a number, if there is one
abbrev pub table_at : List ForkTable → Option ℕ → Option ForkTable
table_at ts None = None
table_at ts (Some t) = slice_get ts t

-- ---- what is around

-- the layout of the block around
abbrev pub parent_of : List Layout → Option ℕ → Option Layout
parent_of ls None = None
parent_of ls (Some b) = layout_of ls b

-- the parents of a layout lead to block 0, in no more than n steps
abbrev pub leads_by : ℕ → List Layout → Option Layout → Bool
leads_by zero ls o = false
leads_by (suc n) ls None = false
leads_by (suc n) ls (Some l) = if l.block == 0 then true else leads_by n ls (parent_of ls l.parent)

-- the layout of the block around that of a layout. Around the program is none, whatever parent it has
abbrev pub around_layout : List Layout → Layout → Option Layout
around_layout ls l = if l.block == 0 then None else parent_of ls l.parent

-- a layout's block alone
abbrev pub single_home : Option Layout → List Home
single_home None = []
single_home (Some l) = OfBlock l.block ∷ []

-- a block and those around it, the innermost first: no more than n
abbrev pub homes_by : ℕ → List Layout → Option Layout → List Home
homes_by zero ls l = []
homes_by (suc n) ls None = []
homes_by (suc n) ls (Some l) = OfBlock l.block ∷ homes_by n ls (around_layout ls l)

-- with the index of a forall, if it is one's child
abbrev pub with_home : Option ℕ → List Home → List Home
with_home None hs = hs
with_home (Some x) hs = OfIndex x ∷ hs

-- ---- variables

-- how a variable is named: by `addr`, not at all since it is the input or the output, or by `deref`
pub data Naming : Type 0 where
  Plainly : Naming
  Never : Naming
  ByReference : Naming

-- a variable: its number in the tree, its cells, and how it is named. A reference formal has the cells of its type
pub record VariableInfo : Type 0 where
  pub number : ℕ
  pub cells : ℕ
  pub naming : Naming

-- a variable by its formal, if it is one, and its size
abbrev pub found_by : ℕ → Option Formal → Option ℕ → Option VariableInfo
found_by x None None = None
found_by x None (Some n) = Some (record { number = x; cells = n; naming = Plainly })
found_by x (Some (formal.Value k)) None = None
found_by x (Some (formal.Value k)) (Some n) = Some (record { number = x; cells = n; naming = Plainly })
found_by x (Some (formal.Reference k)) n = Some (record { number = x; cells = k; naming = ByReference })

-- the variable of a layout at a place
abbrev pub found_in : Layout → ℕ → Option VariableInfo
found_in l k = on_option None (slice_get l.variables k) (λ x. found_by x (slice_get l.formals k) (slice_get l.sizes k))

-- the input and the output of the program
abbrev pub console : ℕ → VariableInfo
console x = record { number = x; cells = 1; naming = Never }

-- a variable of a block's frame, by its number there: that of the program has the input and the output first
abbrev pub found_of : Option Layout → ℕ → Option VariableInfo
found_of None var = None
found_of (Some l) var = if l.block == 0 then
    (if nat_lt var 2 then Some (console var) else found_in l (var - 2)) else found_in l var

-- a variable of a frame
abbrev pub found_at : List Layout → Home → ℕ → Option VariableInfo
found_at ls (OfBlock b) var = found_of (layout_of ls b) var
found_at ls (OfIndex x) var = if var == 0 then Some (record { number = x; cells = 1; naming = Plainly }) else None

module _ (c : Parts) where
  abbrev pub instr_at : ℕ → Option Instr
  instr_at p = slice_get c.instrs p

  -- the k-th child that the fork or forall at an instruction makes
  abbrev pub child_at : ℕ → ℕ → Option ChildTable
  child_at p k = child_of (table_at c.forks (table_named (instr_at p))) k

  -- the first instruction of an area
  abbrev pub entry : Area → ℕ
  entry (Body b) = entry_of_layout (layout_of c.layouts b)
  entry (Child a p k) = entry_of_child (child_at p k)

  -- the parents of a block lead to the program
  abbrev pub is_led : ℕ → Bool
  is_led b = leads_by (length c.layouts) c.layouts (layout_of c.layouts b)

  -- the blocks around a block, the innermost first; a block that is not led to the program is alone
  abbrev pub block_homes : ℕ → List Home
  block_homes b = if is_led b then homes_by (length c.layouts) c.layouts (layout_of c.layouts b) else single_home
      (layout_of c.layouts b)

  -- the blocks and forall indices around an area, the innermost first
  abbrev pub homes : Area → List Home
  homes (Body b) = block_homes b
  homes (Child a p k) = with_home (index_of_child (child_at p k)) (homes a)

  -- a variable so many levels outward
  abbrev pub variable_at : Area → (up var : ℕ) → Option VariableInfo
  variable_at a up var = on_option None (slice_get (homes a) up) (λ h. found_at c.layouts h var)

  -- the block whose code an area lies in
  abbrev pub block_of : Area → ℕ
  block_of (Body b) = b
  block_of (Child a p k) = block_of a
