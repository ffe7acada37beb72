-- None of this belongs to what the program promises: it is for contracts between crates.
-- The points of rule V1 that can be seen without following any way through the code: operands and entries that are not
-- there, the program's layout, the sizes of layouts, and indices of children.
use Rattle.std.specs.Prelude.{◌≡◌, ◌⊎◌, ℕ, ◌==◌, ◌<◌, List, [], ◌∷◌, Option, Some, None, Bool, true, false, ◌&&◌, ◌||◌}
use Rattle.std.specs.Prelude.{not, slice_get, length, nat_le}
use Rattle.sp_code.specs.declared.instr.Instr.{Instr}
use Rattle.sp_code.specs.declared.instr.Instr.TheVariants as i
use Rattle.sp_code.specs.declared.code.Layout.{Layout}
use Rattle.sp_code.specs.declared.code.ChildTable.{ChildTable}
use Rattle.sp_code.specs.declared.code.ForkTable.{ForkTable}
use Rattle.sp_code.specs.declared.code.Parts.{Parts}
use Rattle.sp_verify_rules.specs.Areas.{on_option}
use Rattle.sp_verify_areas.specs.LeastPlaces.{Upto}
use Rattle.sp_verify_rules.specs.NameRules.{Missing, NoProgram, Sized, Indexed, is_some, has_sizes, is_program}

-- code names what is not there, or a layout or a table is wrong in itself
abbrev pub BreaksAlone : Parts → ℕ → Type 0
BreaksAlone c p = Missing c p ⊎ (NoProgram c p ⊎ (Sized c p ⊎ Indexed c p))

-- a layout, at place j, fails a test, and has its first instruction there
abbrev pub LayoutFails : (Layout → Bool) → List Layout → ℕ → ℕ → Type 0
LayoutFails fails ls j p = (l : Layout) × (slice_get ls j ≡ Some l) × (l.entry ≡ p) × (fails l ≡ true)

-- and so for a child
abbrev pub ChildFails : (ChildTable → Bool) → List ChildTable → ℕ → ℕ → Type 0
ChildFails fails ts k p = (t : ChildTable) × (slice_get ts k ≡ Some t) × (t.entry ≡ p) × (fails t ≡ true)

-- a layout begins past so many instructions, has wrong sizes, or is that of the program and has a parent, formals or an
-- answer
abbrev pub layout_fails : ℕ → Layout → Bool
layout_fails n l = nat_le n l.entry || (not (has_sizes l) || ((l.block == 0) && not (is_program l)))

-- ---- tables

-- the table of a fork, or that of a forall
abbrev pub table_by : Bool → Instr → Option ℕ
table_by false (i.Fork t) = Some t
table_by true (i.Forall t) = Some t
table_by forall o = None

abbrev pub is_table : ℕ → Option ℕ → Bool
is_table t None = false
is_table t (Some u) = u == t

-- a fork, or a forall, among instructions names a table
abbrev pub named_in : Bool → ℕ → List Instr → Bool
named_in forall t [] = false
named_in forall t (o ∷ os) = is_table t (table_by forall o) || named_in forall t os

-- a flag that is there
abbrev pub flag_at : List Bool → ℕ → Bool
flag_at fs t = on_option false (slice_get fs t) (λ b. b)

-- so many flags, which say of each table whether one of the instructions names it so
abbrev pub AreFlags : Bool → List Instr → ℕ → List Bool → Type 0
AreFlags forall os n fs = (length fs ≡ n) × ((t : ℕ) → t < n → flag_at fs t ≡ named_in forall t os)

-- a table's flag is set; all others are as before
abbrev pub Marks : List Bool → List Bool → ℕ → Type 0
Marks old new t = (length new ≡ length old) × ((u : ℕ) → u < length old → flag_at new u ≡ (t == u) || flag_at old u)

-- a child begins past so many instructions, or has an index although a fork makes it
abbrev pub child_fails : ℕ → Bool → ChildTable → Bool
child_fails n forked t = nat_le n t.entry || (forked && is_some t.index)

-- a forall makes more than this first one of so many children, or this one has no index
abbrev pub first_fails : Bool → ℕ → ChildTable → Bool
first_fails foralled n t = foralled && not ((n == 1) && is_some t.index)

-- a child of these fails, where a fork, or a forall, makes them
abbrev pub ChildrenFail : ℕ → (forked foralled : Bool) → List ChildTable → ℕ → Type 0
ChildrenFail n forked foralled ts p = Upto (ChildFails (child_fails n forked) ts) (length ts) p
    ⊎ ChildFails (first_fails foralled (length ts)) ts 0 p

-- one of table t does, where flags say which tables forks and foralls name
abbrev pub TableFails : ℕ → (forked foralled : List Bool) → List ForkTable → ℕ → ℕ → Type 0
TableFails n forked foralled fs t p = (tb : ForkTable) × (slice_get fs t ≡ Some tb)
    × ChildrenFail n (flag_at forked t) (flag_at foralled t) tb.children p
