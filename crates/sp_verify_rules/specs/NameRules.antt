-- All of this belongs to what the program promises (docs/promise.txt).
-- Rule V1 of code files, point by point: what code names is there, layouts and tables are sound in themselves, and each
-- instruction stands where it may. Each point says at which instruction it is broken.
pub use Rattle.std.specs.Option.{is_some, is_none}
use Rattle.std.specs.Prelude.{◌≡◌, ◌⊎◌, ◌≢◌, ℕ, ◌+◌, ◌≤◌, ◌<◌, ◌==◌, List, [], ◌∷◌, ◌++◌, Option, Some, None, Bool}
use Rattle.std.specs.Prelude.{true, false, ◌&&◌, ◌||◌, not, slice_get, length, nat_lt}
use Rattle.sp_tree.specs.Interference.{IsMember}
use Rattle.sp_code.specs.declared.instr.Instr.{Instr}
use Rattle.sp_code.specs.declared.instr.Instr.TheVariants as i
use Rattle.sp_code.specs.declared.code.Formal.{Formal}
use Rattle.sp_code.specs.declared.code.Formal.TheVariants as formal
use Rattle.sp_code.specs.declared.code.Layout.{Layout}
use Rattle.sp_code.specs.declared.code.ChildTable.{ChildTable}
use Rattle.sp_code.specs.declared.code.ForkTable.{ForkTable}
use Rattle.sp_code.specs.declared.code.Parts.{Parts}
use Rattle.sp_code.specs.Machine.{layout_of}
use Rattle.sp_code.specs.Memory.{Home, OfBlock, OfIndex}
use Rattle.sp_verify_rules.specs.Areas.{Area, Body, Child, VariableInfo, Naming, Plainly, ByReference, on_option}
use Rattle.sp_verify_rules.specs.Areas.{instr_at}
use Rattle.sp_verify_rules.specs.Areas.{table_named, child_of, homes, variable_at, leads_by}
use Rattle.sp_verify_rules.specs.Reach.{IsArea, IsInCodeOf, nexts}

abbrev pub is_in : ℕ → List ℕ → Bool
is_in x [] = false
is_in x (y ∷ ys) = (x == y) || is_in x ys

-- ---- layouts

-- the cells of a formal in the frame
abbrev pub formal_cells : Formal → ℕ
formal_cells (formal.Value n) = n
formal_cells (formal.Reference n) = 1

-- those of each formal, in order
abbrev pub formals_cells : List Formal → List ℕ
formals_cells [] = []
formals_cells (f ∷ fs) = formal_cells f ∷ formals_cells fs

-- the answer has one cell, after the formals
abbrev pub answer_cells : Bool → List ℕ
answer_cells true = 1 ∷ []
answer_cells false = []

abbrev pub begins_with : List ℕ → List ℕ → Bool
begins_with [] ns = true
begins_with (m ∷ ms) [] = false
begins_with (m ∷ ms) (n ∷ ns) = (m == n) && begins_with ms ns

-- a layout has a size for each variable, and begins with its formals and its answer
abbrev pub has_sizes : Layout → Bool
has_sizes l = (length l.sizes == length l.variables)
    && begins_with (formals_cells l.formals ++ answer_cells l.answer) l.sizes

-- the program has no parent, no formals and no answer
abbrev pub is_program : Layout → Bool
is_program l = is_none l.parent && (length l.formals == 0) && not l.answer

-- ---- declarations: a variable is declared by a layout, at a place among its variables, or by a child of a table, as
-- its index

pub data Declared : Type 0 where
  InLayout : (layout place : ℕ) → Declared
  OfChild : (table child : ℕ) → Declared

-- layouts come first, then tables, each in order
abbrev pub IsBefore : Declared → Declared → Type 0
IsBefore (InLayout j k) (InLayout l m) = (j < l) ⊎ ((j ≡ l) × (k < m))
IsBefore (InLayout j k) (OfChild t m) = Unit {0}
IsBefore (OfChild t k) (InLayout l m) = ⊥
IsBefore (OfChild t k) (OfChild u m) = (t < u) ⊎ ((t ≡ u) × (k < m))

-- the variable of a layout at a place, and the index of a child, each with the first instruction of what it belongs to
abbrev pub declared_in : Option Layout → ℕ → Option (ℕ × ℕ)
declared_in None k = None
declared_in (Some l) k = on_option None (slice_get l.variables k) (λ x. Some (x, l.entry))

abbrev pub declared_by : Option ChildTable → Option (ℕ × ℕ)
declared_by None = None
declared_by (Some t) = on_option None t.index (λ x. Some (x, t.entry))

abbrev pub declaration_at : Parts → Declared → Option (ℕ × ℕ)
declaration_at c (InLayout j k) = declared_in (slice_get c.layouts j) k
declaration_at c (OfChild t k) = declared_by (child_of (slice_get c.forks t) k)

-- ---- instructions

-- a home is that of a block
abbrev pub is_block : Option ℕ → Option Home → Bool
is_block (Some b) (Some (OfBlock d)) = b == d
is_block _ _ = false

abbrev pub is_plain : Naming → Bool
is_plain Plainly = true
is_plain _ = false

abbrev pub is_reference : Naming → Bool
is_reference ByReference = true
is_reference _ = false

-- can be the control variable of a `for`: it is named plainly and has one cell
abbrev pub is_loop_variable : Option VariableInfo → Bool
is_loop_variable None = false
is_loop_variable (Some f) = is_plain f.naming && (f.cells == 1)

-- a home has a variable
abbrev pub has_variable : List Layout → ℕ → Home → Bool
has_variable ls x (OfBlock b) = on_option false (layout_of ls b) (λ l. is_in x l.variables)
has_variable ls x (OfIndex y) = x == y

abbrev pub some_has : List Layout → ℕ → List Home → Bool
some_has ls x [] = false
some_has ls x (h ∷ hs) = has_variable ls x h || some_has ls x hs

module _ (c : Parts) where
  -- what the instruction names is there
  abbrev pub names_there : Option Instr → Bool
  names_there (Some (i.Jump to)) = nat_lt to (length c.instrs)
  names_there (Some (i.Jumpf to)) = nat_lt to (length c.instrs)
  names_there (Some (i.Casej v to)) = nat_lt to (length c.instrs)
  names_there (Some (i.Forup var to)) = nat_lt to (length c.instrs)
  names_there (Some (i.Fordown var to)) = nat_lt to (length c.instrs)
  names_there (Some (i.Nextup var to)) = nat_lt to (length c.instrs)
  names_there (Some (i.Nextdown var to)) = nat_lt to (length c.instrs)
  names_there (Some (i.Call b up)) = is_some (layout_of c.layouts b)
  names_there (Some (i.WriteText k)) = is_some (slice_get c.texts k)
  names_there (Some (i.WritewText k)) = is_some (slice_get c.texts k)
  names_there (Some (i.Fork t)) = is_some (slice_get c.forks t)
  names_there (Some (i.Forall t)) = is_some (slice_get c.forks t)
  names_there _ = true

  module _ (a : Area) where
    -- the level of a call is that of its block's parent
    abbrev pub level_fits : Option Instr → Bool
    level_fits (Some (i.Call b up)) = on_option false (layout_of c.layouts b)
        (λ l. is_block l.parent (slice_get (homes c a) up))
    level_fits _ = true

    -- a variable that is named is there
    abbrev pub in_range : Option Instr → Bool
    in_range (Some (i.Addr up var)) = is_some (variable_at c a up var)
    in_range (Some (i.Deref up var)) = is_some (variable_at c a up var)
    in_range (Some (i.Forup var to)) = is_some (variable_at c a 0 var)
    in_range (Some (i.Fordown var to)) = is_some (variable_at c a 0 var)
    in_range (Some (i.Nextup var to)) = is_some (variable_at c a 0 var)
    in_range (Some (i.Nextdown var to)) = is_some (variable_at c a 0 var)
    in_range _ = true

    -- and may be named so
    abbrev pub names_well : Option Instr → Bool
    names_well (Some (i.Addr up var)) = on_option false (variable_at c a up var) (λ f. is_plain f.naming)
    names_well (Some (i.Deref up var)) = on_option false (variable_at c a up var) (λ f. is_reference f.naming)
    names_well _ = true

    abbrev pub loops_well : Option Instr → Bool
    loops_well (Some (i.Forup var to)) = is_loop_variable (variable_at c a 0 var)
    loops_well (Some (i.Fordown var to)) = is_loop_variable (variable_at c a 0 var)
    loops_well (Some (i.Nextup var to)) = is_loop_variable (variable_at c a 0 var)
    loops_well (Some (i.Nextdown var to)) = is_loop_variable (variable_at c a 0 var)
    loops_well _ = true

  -- `return` is not in the program or a child, and `end` not in another block
  abbrev pub ends_well : Area → Option Instr → Bool
  ends_well (Body b) (Some i.Return) = not (b == 0)
  ends_well (Child a p k) (Some i.Return) = false
  ends_well (Body b) (Some i.End) = b == 0
  ends_well a o = true

  -- ---- the points

  abbrev pub IsLayout : Layout → Type 0
  IsLayout l = (j : ℕ) × (slice_get c.layouts j ≡ Some l)

  abbrev pub IsChild : ℕ → ℕ → ChildTable → Type 0
  IsChild t k ch = child_of (slice_get c.forks t) k ≡ Some ch

  -- the instruction at p names the table
  abbrev pub Names : ℕ → ℕ → Type 0
  Names t p = table_named (instr_at c p) ≡ Some t

  -- an instruction is in the code of an area that is there
  abbrev pub LiesIn : ℕ → Area → Type 0
  LiesIn p a = IsArea c a × IsInCodeOf c a p

  -- a layout's entry that is not there, or a child's
  pub record MissesEntry (p : ℕ) : Type 0 where
    pub past : length c.instrs ≤ p
    pub of : ((l : Layout) × IsLayout l × (l.entry ≡ p))
        ⊎ ((t k : ℕ) × (ch : ChildTable) × IsChild t k ch × (ch.entry ≡ p))

  -- 1: what an instruction or an entry names is not there
  abbrev pub Missing : ℕ → Type 0
  Missing p = (names_there (instr_at c p) ≡ false) ⊎ MissesEntry p

  -- 2: two layouts have one block, or the parents of one do not lead to block 0
  abbrev pub OrphanBlock : ℕ → Type 0
  OrphanBlock p = (j : ℕ) × (l : Layout) × (slice_get c.layouts j ≡ Some l) × (l.entry ≡ p)
      × (((k : ℕ) × (m : Layout) × (slice_get c.layouts k ≡ Some m) × (k ≢ j) × (m.block ≡ l.block))
      ⊎ (leads_by (length c.layouts) c.layouts (Some l) ≡ false))

  -- 3: there is no program, or it has a parent, formals or an answer
  abbrev pub NoProgram : ℕ → Type 0
  NoProgram p = ((layout_of c.layouts 0 ≡ None) × (p ≡ 0))
      ⊎ ((l : Layout) × IsLayout l × (l.block ≡ 0) × (l.entry ≡ p) × (is_program l ≡ false))

  -- 4: a variable is declared a second time, or is the input or the output
  abbrev pub DeclaredTwice : ℕ → Type 0
  DeclaredTwice p = (d : Declared) × (x : ℕ) × (declaration_at c d ≡ Some (x, p))
      × ((x < 2) ⊎ ((e : Declared) × (q : ℕ) × IsBefore e d × (declaration_at c e ≡ Some (x, q))))

  -- 5: a layout's sizes are not as they should be
  abbrev pub Sized : ℕ → Type 0
  Sized p = (l : Layout) × IsLayout l × (l.entry ≡ p) × (has_sizes l ≡ false)

  -- 6: a table is named by no instruction or by two, or by one that lies in no area
  abbrev pub Unnamed : ℕ → Type 0
  Unnamed p = (t : ℕ) × (ch : ChildTable) × IsChild t 0 ch × (ch.entry ≡ p)
      × (((q : ℕ) → Names t q → ⊥)
      ⊎ (((q r : ℕ) × Names t q × Names t r × (q ≢ r)) ⊎ ((q : ℕ) × Names t q × ((a : Area) → LiesIn q a → ⊥))))

  -- 7: a child of a fork has an index; or a forall has another number of children than one, or its child has no index
  abbrev pub Indexed : ℕ → Type 0
  Indexed p = (t q : ℕ)
      × ((instr_at c q ≡ Some (i.Fork t))
      × ((k : ℕ) × (ch : ChildTable) × IsChild t k ch × (ch.entry ≡ p) × (is_some ch.index ≡ true))
      ⊎ (instr_at c q ≡ Some (i.Forall t))
      × ((ch : ChildTable) × (tb : ForkTable) × IsChild t 0 ch × (ch.entry ≡ p) × (slice_get c.forks t ≡ Some tb)
      × (((length tb.children == 1) && is_some ch.index) ≡ false)))

  -- 8: an instruction of an area names a table, a child of which gets a variable that nothing around the area has
  pub record Unknown (p : ℕ) : Type 0 where
    pub instruction : ℕ
    pub area : Area
    pub table : ℕ
    pub number : ℕ
    pub child : ChildTable
    pub variable : ℕ
    pub names_table : Names table instruction
    pub lies_there : LiesIn instruction area
    pub is_child : IsChild table number child
    pub begins : child.entry ≡ p
    pub is_handed : IsMember variable (child.moved ++ child.shared)
    pub is_real : 2 ≤ variable
    pub is_absent : some_has c.layouts variable (homes c area) ≡ false

  -- 10: an instruction is in two areas, or goes on past the last one
  abbrev pub Shared : ℕ → Type 0
  Shared p = (a : Area) × LiesIn p a
      × (((b : Area) × LiesIn p b × (a ≢ b)) ⊎ (IsMember (p + 1) (nexts p (instr_at c p)) × (length c.instrs ≤ p + 1)))

  -- 9, 11, 12, 13, 14: an instruction of an area may not stand there
  abbrev pub Misplaced : (Area → Option Instr → Bool) → ℕ → Type 0
  Misplaced well p = (a : Area) × LiesIn p a × (well a (instr_at c p) ≡ false)

  -- V1 is broken at p
  pub data BreaksV1 (p : ℕ) : Type 0 where
    NotThere : Missing p → BreaksV1 p
    BlocksApart : OrphanBlock p → BreaksV1 p
    WithoutProgram : NoProgram p → BreaksV1 p
    Twice : DeclaredTwice p → BreaksV1 p
    SizesDiffer : Sized p → BreaksV1 p
    TableUnnamed : Unnamed p → BreaksV1 p
    TableIndexed : Indexed p → BreaksV1 p
    TableUnknown : Unknown p → BreaksV1 p
    LevelDiffers : Misplaced level_fits p → BreaksV1 p
    InTwo : Shared p → BreaksV1 p
    EndsWrong : Misplaced ends_well p → BreaksV1 p
    OutOfRange : Misplaced in_range p → BreaksV1 p
    NamedWrong : Misplaced names_well p → BreaksV1 p
    LoopsWrong : Misplaced loops_well p → BreaksV1 p
