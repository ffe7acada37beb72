-- All of this belongs to what the program promises (docs/promise.txt).
-- The code of each part of a tree, as a list of instructions; its fork tables and texts. The generator promises it,
-- and the proof of generated code reads it: it is said in lists, with no labels to be filled in later.
use Rattle.std.specs.Option.{option_map_or, unwrap_or}
use Rattle.std.specs.Prelude.{ℕ, suc, ◌+◌, ◌==◌, ℤ, pos, List, [], ◌∷◌, ◌++◌, Option, Some, None, Bool, if◌then◌else◌}
use Rattle.std.specs.Prelude.{slice_get, map, length}
use Rattle.sp_tree.specs.Cells.{cells_by, sizes}
use Rattle.sp_tree.specs.declared.checked.KindOf.{KindOf}
use Rattle.sp_tree.specs.declared.checked.KindOf.TheVariants as kind
use Rattle.sp_tree.specs.declared.checked.Role.{Role}
use Rattle.sp_tree.specs.declared.checked.Role.TheVariants as role
use Rattle.sp_tree.specs.declared.operators.UnaryOp.{UnaryOp}
use Rattle.sp_tree.specs.declared.operators.UnaryOp.TheVariants as unary
use Rattle.sp_tree.specs.declared.operators.BinaryOp.{BinaryOp}
use Rattle.sp_tree.specs.declared.operators.BinaryOp.TheVariants as binary
use Rattle.sp_tree.specs.declared.operators.StandardFn.{StandardFn}
use Rattle.sp_tree.specs.declared.operators.StandardFn.TheVariants as standard
use Rattle.sp_tree.specs.Operators.{least_ordinal, greatest_ordinal}
use Rattle.sp_tree.specs.Plain.{Expr, Typed, ExprForm, Number, Read, Unary, Binary, Apply, Standard, AtInput, Var}
use Rattle.sp_tree.specs.Plain.{Entire, Index, Field, Selectors, Whole, Select, ByValue, ByReference, Actuals, Nothing}
use Rattle.sp_tree.specs.Plain.{Pass, Program, Variable, Block, Stmt, Empty, Assign, Call, Sequence, If, IfElse, While}
use Rattle.sp_tree.specs.Plain.{Repeat, For, Case, Parallel, Forall, Assume, ReadValue, ReadLine, WriteValue, WriteText}
use Rattle.sp_tree.specs.Plain.{WriteLine, Open, Send, Receive, Stmts, No, And, On, Arms, NoArm, Or}
use Rattle.sp_code.specs.declared.instr.Instr.{Instr}
use Rattle.sp_code.specs.declared.instr.Instr.TheVariants as i
use Rattle.sp_code.specs.declared.code.Formal.{Formal}
use Rattle.sp_code.specs.declared.code.Formal.TheVariants as formal
use Rattle.sp_code.specs.declared.code.Layout.{Layout}
use Rattle.sp_code.specs.declared.code.ChildTable.{ChildTable}
use Rattle.sp_code.specs.declared.code.ForkTable.{ForkTable}
use Rattle.sp_code.specs.declared.code.Parts.{Parts}
use Rattle.sp_code.specs.Scopes.{Sort, Ordinals, Channels, Many, NoSort, kind_of, Scope, OfIndex, is_block, is_index}
use Rattle.sp_code.specs.Scopes.{level, is_given, frame_of, kind_at, sort, size, slot, field_offset, field_type}
use Rattle.sp_code.specs.Scopes.{element_type, type_by, type_of, scopes_of}
use Rattle.sp_code.specs.Places.{after_value, after_tests, after_statement, after_children, after_arms, after_block}

-- a level, where there is one; 0 stands for a level that no accepted tree asks for
abbrev pub or_none : Option ℕ → ℕ
or_none n = unwrap_or n 0

-- an operator, where it has an instruction
abbrev pub unary_code : UnaryOp → List Instr
unary_code unary.Plus = []
unary_code unary.Minus = i.Neg ∷ []
unary_code unary.Not = i.Not ∷ []

abbrev pub binary_instr : BinaryOp → Instr
binary_instr binary.Eq = i.Eq
binary_instr binary.Ne = i.Ne
binary_instr binary.Lt = i.Lt
binary_instr binary.Le = i.Le
binary_instr binary.Gt = i.Gt
binary_instr binary.Ge = i.Ge
binary_instr binary.Add = i.Add
binary_instr binary.Sub = i.Sub
binary_instr binary.Or = i.Or
binary_instr binary.Mul = i.Mul
binary_instr binary.Div = i.Div
binary_instr binary.Mod = i.Mod
binary_instr binary.And = i.And

-- a standard function with a result of a type
abbrev pub least_of : Option KindOf → ℤ
least_of t = option_map_or least_ordinal t (pos 0)

-- the greatest number of an ordinal type
abbrev pub greatest_of : Option KindOf → ℤ
greatest_of t = option_map_or greatest_ordinal t (pos 0)

abbrev pub standard_code : StandardFn → Option KindOf → List Instr
standard_code standard.Abs t = i.Abs ∷ []
standard_code standard.Sqr t = i.Sqr ∷ []
standard_code standard.Odd t = i.Odd ∷ []
standard_code standard.Chr t = i.Range (pos 0) (pos 255) ∷ []
standard_code standard.Succ t = i.Succ (greatest_of t) ∷ []
standard_code standard.Pred t = i.Pred (least_of t) ∷ []
standard_code _ _ = []

-- `eof` and `eoln`; `nocase` stands where no accepted tree comes
abbrev pub input_instr : StandardFn → Instr
input_instr standard.Eof = i.Eof
input_instr standard.Eoln = i.Eoln
input_instr _ = i.Nocase

-- what an address is replaced by
abbrev pub read_instr : Sort → (cells : ℕ) → Instr
read_instr Ordinals n = i.Load
read_instr Channels n = i.Loadc
read_instr Many n = i.Pack n
read_instr NoSort n = i.Nocase

abbrev pub index_instr : Option KindOf → (element_cells : ℕ) → Instr
index_instr (Some (kind.Array low high index element)) n = i.Index low high n
index_instr _ _ = i.Nocase

-- an item written, in a width or not; read
abbrev pub write_instr : Option KindOf → Bool → Instr
write_instr (Some kind.Integer) w = if w then i.WritewInt else i.WriteInt
write_instr (Some kind.Boolean) w = if w then i.WritewBool else i.WriteBool
write_instr (Some kind.Char) w = if w then i.WritewChar else i.WriteChar
write_instr _ _ = i.Nocase

abbrev pub reading_instr : Option KindOf → Instr
reading_instr (Some kind.Integer) = i.ReadInt
reading_instr (Some kind.Char) = i.ReadChar
reading_instr _ = i.Nocase

-- the instruction that assigns
abbrev pub assign_instr : Sort → (cells : ℕ) → Instr
assign_instr Many n = i.Copy n
assign_instr NoSort n = i.Nocase
assign_instr _ _ = i.Store

-- the address of an entire variable
abbrev pub addr_by : List Scope → ℕ → ℕ → Variable → Role → Instr
addr_by sc x slot v role.Console = i.Nocase
addr_by sc x slot v role.Reference = i.Deref (or_none (level (is_block v.block) sc)) slot
addr_by sc x slot v role.Index = i.Addr (or_none (level (is_index x) sc)) 0
addr_by sc _ slot v _ = i.Addr (or_none (level (is_block v.block) sc)) slot

-- the instruction that gives a variable's address, by its role
abbrev pub addr_of : List Scope → ℕ → ℕ → Option Variable → Instr
addr_of sc x slot v = option_map_or (λ v. addr_by sc x slot v v.role) v i.Nocase

-- a call of block f: the level of the block around it
abbrev pub call_up : List Scope → Option ℕ → ℕ
call_up sc b = option_map_or (λ b. or_none (level (is_block b) sc)) b 0

-- the call of a block, so many static levels outward
abbrev pub call_instr : List Scope → ℕ → Option Block → Instr
call_instr sc f None = i.Call f 0
call_instr sc f (Some b) = i.Call f (call_up sc b.parent)

-- tests of a case, which lead to the statement at b
abbrev pub test_code : List ℤ → ℕ → List Instr
test_code [] b = []
test_code (m ∷ ms) b = i.Casej m b ∷ test_code ms b

-- how many fork tables a statement has
abbrev mutual
  pub tables_in : Stmt → ℕ
  tables_in (Sequence ss) = tables_in_all ss
  tables_in (If e a) = tables_in a
  tables_in (IfElse e a b) = tables_in a + tables_in b
  tables_in (While e s) = tables_in s
  tables_in (Repeat s e) = tables_in s
  tables_in (For x from down to s) = tables_in s
  tables_in (Case e arms) = tables_in_arms arms
  tables_in (Parallel ss) = tables_in_all ss + 1
  tables_in (Forall x from to s) = tables_in s + 1
  tables_in _ = 0

  pub tables_in_all : Stmts → ℕ
  tables_in_all No = 0
  tables_in_all (And s rest) = tables_in s + tables_in_all rest

  pub tables_in_arms : Arms → ℕ
  tables_in_arms NoArm = 0
  tables_in_arms (Or (On ms s) rest) = tables_in s + tables_in_arms rest

-- the written texts of a statement, in order, and how many there are
abbrev mutual
  pub texts_of : Stmt → List (List ℕ)
  texts_of (Sequence ss) = texts_of_all ss
  texts_of (If e a) = texts_of a
  texts_of (IfElse e a b) = texts_of a ++ texts_of b
  texts_of (While e s) = texts_of s
  texts_of (Repeat s e) = texts_of s
  texts_of (For x from down to s) = texts_of s
  texts_of (Case e arms) = texts_of_arms arms
  texts_of (Parallel ss) = texts_of_all ss
  texts_of (Forall x from to s) = texts_of s
  texts_of (WriteText t w) = t ∷ []
  texts_of _ = []

  pub texts_of_all : Stmts → List (List ℕ)
  texts_of_all No = []
  texts_of_all (And s rest) = texts_of s ++ texts_of_all rest

  pub texts_of_arms : Arms → List (List ℕ)
  texts_of_arms NoArm = []
  texts_of_arms (Or (On ms s) rest) = texts_of s ++ texts_of_arms rest

abbrev pub texts_in : Stmt → ℕ
texts_in s = length (texts_of s)

-- at the end of a block: the program ends, any other returns
abbrev pub end_instr : ℕ → Instr
end_instr b = if b == 0 then i.End else i.Return

abbrev pub blocks_texts : List Block → List (List ℕ)
blocks_texts [] = []
blocks_texts (k ∷ ks) = texts_of k.body ++ blocks_texts ks

-- a parameter of a role, whose type has so many cells
abbrev pub formal_of : Role → ℕ → Formal
formal_of role.Reference n = formal.Reference n
formal_of _ n = formal.Value n

-- what a process shares of what its statement only uses: all but the index of its own forall, which is its own from the
-- start
abbrev pub but_index : Option ℕ → List ℕ → List ℕ
but_index None xs = xs
but_index (Some x) [] = []
but_index (Some x) (y ∷ ys) = if y == x then but_index (Some x) ys else y ∷ but_index (Some x) ys

module _ (p : Program) where
  abbrev pub addr_code : List Scope → ℕ → Instr
  addr_code sc x = addr_of sc x (slot p x) (slice_get p.variables x)

  abbrev pub field_instr : ℕ → Option KindOf → Instr
  field_instr f (Some (kind.Fields fs)) = i.Field (field_offset p fs f)
  field_instr _ _ = i.Nocase

  abbrev mutual
    -- an expression: its operands in order, and then its operator
    pub value_code : List Scope → Expr → List Instr
    value_code sc (Typed k form) = form_code sc k form

    pub form_code : List Scope → ℕ → ExprForm → List Instr
    form_code sc k (Number n) = i.Const n ∷ []
    form_code sc k (Read v) = var_code sc v ++ read_instr (sort p k) (size p k) ∷ []
    form_code sc k (Unary op a) = value_code sc a ++ unary_code op
    form_code sc k (Binary op a b) = value_code sc a ++ (value_code sc b ++ binary_instr op ∷ [])
    form_code sc k (Apply f args) = actuals_code sc args ++ call_instr sc f (slice_get p.blocks f) ∷ []
    form_code sc k (Standard f a) = value_code sc a ++ standard_code f (kind_at p k)
    form_code sc k (AtInput f) = input_instr f ∷ []

    -- the address of a variable with its selectors
    pub var_code : List Scope → Var → List Instr
    var_code sc (Entire x ss) = addr_code sc x ∷ selectors_code sc (type_by (slice_get p.variables x)) ss

    pub selectors_code : List Scope → ℕ → Selectors → List Instr
    selectors_code sc k Whole = []
    selectors_code sc k (Select (Index e) rest) =
        value_code sc e ++ (index_instr (kind_at p k) (size p (element_type k (kind_at p k)))
        ∷ selectors_code sc (element_type k (kind_at p k)) rest)
    selectors_code sc k (Select (Field f) rest) = field_instr f (kind_at p k)
        ∷ selectors_code sc (field_type k (kind_at p k) f) rest

    pub actuals_code : List Scope → Actuals → List Instr
    actuals_code sc Nothing = []
    actuals_code sc (Pass (ByValue e) rest) = value_code sc e ++ actuals_code sc rest
    actuals_code sc (Pass (ByReference v) rest) = var_code sc v ++ actuals_code sc rest

  abbrev pub width_code : List Scope → Option Expr → List Instr
  width_code sc e = option_map_or (value_code sc) e []

  -- the right side of an assignment
  abbrev pub right_code : List Scope → ℕ → Sort → ExprForm → List Instr
  right_code sc k Many (Read v) = var_code sc v
  right_code sc k _ form = form_code sc k form

  -- the tests of all arms, whose statements stand from b on
  abbrev pub tests_code : Arms → ℕ → List Instr
  tests_code NoArm b = []
  tests_code (Or (On ms s) rest) b = test_code ms b ++ tests_code rest (after_statement p b s + 1)

  -- a statement that stands at q, whose next fork table has the number t and whose next text the number n
  abbrev mutual
    pub code : List Scope → (t n q : ℕ) → Stmt → List Instr
    code sc t n q Empty = []
    code sc t n q (Assign v (Typed k form)) = var_code sc v
        ++ (right_code sc k (sort p k) form ++ assign_instr (sort p k) (size p k) ∷ [])
    code sc t n q (Call f args) = actuals_code sc args ++ call_instr sc f (slice_get p.blocks f) ∷ []
    code sc t n q (Sequence ss) = code_all sc t n q ss
    code sc t n q (If e a) =
        let u = after_value q e in
        value_code sc e ++ (i.Jumpf (after_statement p (u + 1) a) ∷ code sc t n (u + 1) a)
    code sc t n q (IfElse e a b) =
        let u = after_value q e in
        let j = after_statement p (u + 1) a in
        value_code sc e ++ (i.Jumpf (j + 1) ∷ (code sc t n (u + 1) a
        ++ (i.Jump (after_statement p (j + 1) b) ∷ code sc (t + tables_in a) (n + texts_in a) (j + 1) b)))
    code sc t n q (While e s) =
        let u = after_value q e in
        let j = after_statement p (u + 1 + 1) s in
        value_code sc e ++ (i.Jumpf (j + 1) ∷ i.Tick ∷ (code sc t n (u + 1 + 1) s ++ i.Jump q ∷ []))
    code sc t n q (Repeat s e) = i.Tick ∷ (code sc t n (q + 1) s ++ (value_code sc e ++ i.Jumpf q ∷ []))
    code sc t n q (For x from down to s) =
        let u = after_value (after_value q from) to in
        let j = after_statement p (u + 1 + 1) s in
        value_code sc from ++ (value_code sc to
        ++ ((if down then i.Fordown (slot p x) (j + 1) else i.Forup (slot p x) (j + 1)) ∷ i.Tick
        ∷ (code sc t n (u + 1 + 1) s ++ (if down then i.Nextdown (slot p x) (u + 1) else i.Nextup (slot p x) (u + 1))
        ∷ [])))
    code sc t n q (Case e arms) =
        let b = after_tests (after_value q e) arms in
        value_code sc e ++ (tests_code arms (b + 1)
        ++ (i.Nocase ∷ code_arms sc t n (b + 1) arms (after_arms p (b + 1) arms)))
    code sc t n q (Parallel ss) = i.Fork t ∷ i.Jump (after_children p (q + 1 + 1) ss)
        ∷ code_children sc (t + 1) n (q + 1 + 1) ss
    code sc t n q (Forall x from to s) =
        let b = after_value (after_value q from) to in
        value_code sc from ++ (value_code sc to
        ++ (i.Forall t ∷ i.Jump (after_statement p (b + 1 + 1) s + 1)
        ∷ (code (OfIndex x ∷ sc) (t + 1) n (b + 1 + 1) s ++ i.End ∷ [])))
    code sc t n q (Assume e) = value_code sc e ++ i.Assume ∷ []
    code sc t n q (ReadValue v) = var_code sc v ++ reading_instr (kind_at p (type_of p v)) ∷ []
    code sc t n q ReadLine = i.Readln ∷ []
    code sc t n q (WriteValue e w) = value_code sc e
        ++ (width_code sc w ++ write_instr (kind_at p (kind_of e)) (is_given w) ∷ [])
    code sc t n q (WriteText s w) = width_code sc w ++ (if is_given w then i.WritewText n else i.WriteText n) ∷ []
    code sc t n q WriteLine = i.Writeln ∷ []
    code sc t n q (Open v) = var_code sc v ++ i.Open ∷ []
    code sc t n q (Send c e) = value_code sc c ++ (value_code sc e ++ i.Send (kind_of e) ∷ [])
    code sc t n q (Receive c v) = value_code sc c ++ (var_code sc v ++ i.Receive (type_of p v) ∷ [])

    pub code_all : List Scope → (t n q : ℕ) → Stmts → List Instr
    code_all sc t n q No = []
    code_all sc t n q (And s rest) = code sc t n q s
        ++ code_all sc (t + tables_in s) (n + texts_in s) (after_statement p q s) rest

    pub code_children : List Scope → (t n q : ℕ) → Stmts → List Instr
    code_children sc t n q No = []
    code_children sc t n q (And s rest) = code sc t n q s
        ++ (i.End ∷ code_children sc (t + tables_in s) (n + texts_in s) (after_statement p q s + 1) rest)

    pub code_arms : List Scope → (t n q : ℕ) → Arms → (end : ℕ) → List Instr
    code_arms sc t n q NoArm end = []
    code_arms sc t n q (Or (On ms s) rest) end = code sc t n q s
        ++ (i.Jump end ∷ code_arms sc (t + tables_in s) (n + texts_in s) (after_statement p q s + 1) rest end)

  -- a block's code: its body, and its end
  abbrev pub block_code : ℕ → (t n q : ℕ) → Block → List Instr
  block_code b t n q k = code (scopes_of p b) t n q k.body ++ end_instr b ∷ []

  -- the blocks in order, from block b on
  abbrev pub blocks_code : (b t n q : ℕ) → List Block → List Instr
  blocks_code b t n q [] = []
  blocks_code b t n q (k ∷ ks) = block_code b t n q k
      ++ blocks_code (suc b) (t + tables_in k.body) (n + texts_in k.body) (after_block p q k) ks

  -- ---- layouts

  abbrev pub cells_of : Option Variable → ℕ
  cells_of v = option_map_or (λ v. cells_by (sizes p.kinds) v.role v.kind) v 0

  -- a parameter as a formal
  abbrev pub formal_by : Option Variable → Formal
  formal_by v = option_map_or (λ v. formal_of v.role (size p v.kind)) v (formal.Value 0)

  -- the layout of block b, whose code stands at q
  abbrev pub layout_of : (b q : ℕ) → Block → Layout
  layout_of b q k = record {
    block = b;
    entry = q;
    parent = k.parent;
    answer = is_given k.answer;
    sizes = map (λ x. cells_of (slice_get p.variables x)) (frame_of p b);
    variables = frame_of p b;
    formals = map (λ x. formal_by (slice_get p.variables x)) k.formals;
  }

  -- the layouts of blocks, whose code begins at q
  abbrev pub layouts_from : (b q : ℕ) → List Block → List Layout
  layouts_from b q [] = []
  layouts_from b q (k ∷ ks) = layout_of b q k ∷ layouts_from (suc b) (after_block p q k) ks

  -- ---- fork tables, by what a process statement may change and only reads

  module _ (moves shares : Stmt → List ℕ) where
    -- a child, whose code begins at q
    abbrev pub child_table : ℕ → Option ℕ → Stmt → ChildTable
    child_table q index s = record { entry = q; moved = moves s; shared = but_index index (shares s); index = index }

    abbrev pub children_tables : ℕ → Stmts → List ChildTable
    children_tables q No = []
    children_tables q (And s rest) = child_table q None s ∷ children_tables (after_statement p q s + 1) rest

    abbrev mutual
      -- the fork tables of a statement that stands at q, in order: a table before those inside
      pub tables : ℕ → Stmt → List ForkTable
      tables q (Sequence ss) = tables_all q ss
      tables q (If e a) = tables (after_value q e + 1) a
      tables q (IfElse e a b) =
          tables (after_value q e + 1) a ++ tables (after_statement p (after_value q e + 1) a + 1) b
      tables q (While e s) = tables (after_value q e + 1 + 1) s
      tables q (Repeat s e) = tables (q + 1) s
      tables q (For x from down to s) = tables (after_value (after_value q from) to + 1 + 1) s
      tables q (Case e arms) = tables_arms (after_tests (after_value q e) arms + 1) arms
      tables q (Parallel ss) = record { children = children_tables (q + 1 + 1) ss } ∷ tables_children (q + 1 + 1) ss
      tables q (Forall x from to s) =
          let b = after_value (after_value q from) to in
          record { children = child_table (b + 1 + 1) (Some x) s ∷ [] } ∷ tables (b + 1 + 1) s
      tables _ _ = []

      pub tables_all : ℕ → Stmts → List ForkTable
      tables_all q No = []
      tables_all q (And s rest) = tables q s ++ tables_all (after_statement p q s) rest

      pub tables_children : ℕ → Stmts → List ForkTable
      tables_children q No = []
      tables_children q (And s rest) = tables q s ++ tables_children (after_statement p q s + 1) rest

      pub tables_arms : ℕ → Arms → List ForkTable
      tables_arms q NoArm = []
      tables_arms q (Or (On ms s) rest) = tables q s ++ tables_arms (after_statement p q s + 1) rest

    abbrev pub blocks_tables : ℕ → List Block → List ForkTable
    blocks_tables q [] = []
    blocks_tables q (k ∷ ks) = tables q k.body ++ blocks_tables (after_block p q k) ks

    -- the code of the program: its blocks in order, a layout for each, and all fork tables and texts in the order of
    -- the tree
    abbrev pub program_code : Parts
    program_code = record {
      instrs = blocks_code 0 0 0 0 p.blocks;
      layouts = layouts_from 0 0 p.blocks;
      forks = blocks_tables 0 p.blocks;
      texts = blocks_texts p.blocks;
    }
