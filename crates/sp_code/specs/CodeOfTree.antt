-- None of this belongs to what the program promises: it is for contracts between crates.
-- The code of a tree stands: which instruction stands at which place, and what the rules of names, types and variables
-- give there. The simulation of generated code starts from it, statement by statement, and sp_front gives the facts.
use Rattle.std.specs.Prelude.{◌≡◌, ℕ, ◌+◌, ℤ, pos, List, [], ◌∷◌, Option, Some, None, Bool, true, false}
use Rattle.std.specs.Prelude.{if◌then◌else◌, slice_get, drop}
use Rattle.sp_tree.specs.declared.checked.KindOf.{KindOf}
use Rattle.sp_tree.specs.declared.checked.KindOf.TheVariants as kind
use Rattle.sp_tree.specs.declared.checked.Role.{Role}
use Rattle.sp_tree.specs.declared.checked.Role.TheVariants as role
use Rattle.sp_tree.specs.declared.operators.UnaryOp.{UnaryOp}
use Rattle.sp_tree.specs.declared.operators.UnaryOp.TheVariants as unary
use Rattle.sp_tree.specs.declared.operators.BinaryOp.{BinaryOp}
use Rattle.sp_tree.specs.declared.operators.BinaryOp.TheVariants as binary
use Rattle.sp_tree.specs.declared.operators.StandardFn.{StandardFn}
use Rattle.sp_tree.specs.declared.operators.StandardFn.TheVariants as standard
use Rattle.sp_tree.specs.Operators.{least_ordinal, greatest_ordinal}
use Rattle.sp_tree.specs.Plain.{Expr, Typed, ExprForm, Number, Read, Unary, Binary, Apply, Standard, AtInput, Var}
use Rattle.sp_tree.specs.Plain.{Entire, Index, Field, Selectors, Whole, Select, ByValue, ByReference, Actuals, Nothing}
use Rattle.sp_tree.specs.Plain.{Pass, Program, Variable, Block, Stmt, Empty, Assign, Call, Sequence, If, IfElse, While}
use Rattle.sp_tree.specs.Plain.{Repeat, For, Case, Parallel, Forall, Assume, ReadValue, ReadLine, WriteValue, WriteText}
use Rattle.sp_tree.specs.Plain.{WriteLine, Open, Send, Receive, Stmts, No, And, On, Arms, NoArm, Or}
use Rattle.sp_code.specs.declared.instr.Instr.{Instr}
use Rattle.sp_code.specs.declared.instr.Instr.TheVariants as i
use Rattle.sp_code.specs.declared.code.Layout.{Layout}
use Rattle.sp_code.specs.declared.code.ForkTable.{ForkTable}
use Rattle.sp_code.specs.declared.code.Parts.{Parts}
use Rattle.sp_code.specs.Scopes.{Sort, Ordinals, Channels, Many, NoSort, kind_of, Scope, OfBlock, OfIndex, is_block}
use Rattle.sp_code.specs.Scopes.{is_index, level, is_given, kind_at, sort, size, slot, field_offset, scopes_of}
use Rattle.sp_code.specs.Places.{after_value, after_form, after_var, after_actuals, after_width, after_test}
use Rattle.sp_code.specs.Places.{after_tests, after_statement, after_children, after_arms}
use Rattle.sp_code.specs.TreeCode.{binary_instr, write_instr, children_tables, child_table, end_instr, layout_of}

-- no index of a forall
abbrev pub NoIndex : Role → Type 0
NoIndex role.Index = ⊥
NoIndex _ = Unit {0}

-- the operator may stand between channels
abbrev pub TakesChannels : BinaryOp → Type 0
TakesChannels binary.Eq = Unit {0}
TakesChannels binary.Ne = Unit {0}
TakesChannels _ = ⊥

-- the sorts of operands
abbrev pub Operands : BinaryOp → Sort → Sort → Type 0
Operands op Ordinals Ordinals = Unit {0}
Operands op Ordinals Channels = ⊥
Operands op Ordinals Many = ⊥
Operands op Ordinals NoSort = ⊥
Operands op Channels Ordinals = ⊥
Operands op Channels Channels = TakesChannels op
Operands op Channels Many = ⊥
Operands op Channels NoSort = ⊥
Operands op Many b = ⊥
Operands op NoSort b = ⊥

-- a type whose items can be written
abbrev pub IsWritten : KindOf → Type 0
IsWritten kind.Integer = Unit {0}
IsWritten kind.Boolean = Unit {0}
IsWritten kind.Char = Unit {0}
IsWritten _ = ⊥

-- what may be called while a function is being called: blocks that lead to no kernel statement
abbrev pub IsCallable : (ℕ → Type 0) → Bool → ℕ → Type 0
IsCallable callable true f = Unit {0}
IsCallable callable false f = callable f

-- p: the program; moves, shares: what a process statement may change and only reads; Is: this instruction stands at a
-- place; HasTable, HasText: this fork table, this text has a number; callable: a block that leads to no kernel
-- statement
module _ (p : Program) (moves shares : Stmt → List ℕ) (Is : ℕ → Instr → Type 0) (HasTable : ℕ → ForkTable → Type 0)
    (HasText : ℕ → List ℕ → Type 0) (callable : ℕ → Type 0) where
  -- an entire variable with this role
  abbrev pub VarRole : List Scope → ℕ → ℕ → Variable → Role → Type 0
  VarRole sc q x v role.Console = ⊥
  VarRole sc q x v role.Reference = (up : ℕ) × (level (is_block v.block) sc ≡ Some up) × Is q (i.Deref up (slot p x))
  VarRole sc q x v role.Index = (up : ℕ) × (level (is_index x) sc ≡ Some up) × Is q (i.Addr up 0)
      × (sort p v.kind ≡ Ordinals)
  VarRole sc q x v _ = (up : ℕ) × (level (is_block v.block) sc ≡ Some up) × Is q (i.Addr up (slot p x))

  -- an entire variable of type k, which the process holds
  abbrev pub VarAt : List Scope → ℕ → ℕ → ℕ → Type 0
  VarAt sc q x k = (v : Variable) × (slice_get p.variables x ≡ Some v) × (v.kind ≡ k) × VarRole sc q x v v.role

  -- a variable that is changed
  abbrev pub IsTarget : Var → Type 0
  IsTarget (Entire x ss) = (v : Variable) × (slice_get p.variables x ≡ Some v) × NoIndex v.role

  -- a for variable is a local one of the innermost block
  abbrev pub ForVar : List Scope → ℕ → Type 0
  ForVar sc x =
      (v : Variable) × (slice_get p.variables x ≡ Some v) × (v.role ≡ role.Local)
      × (level (is_block v.block) sc ≡ Some 0) × (sort p v.kind ≡ Ordinals)

  abbrev pub ReadAt : ℕ → ℕ → Sort → Type 0
  ReadAt q k Ordinals = Is q i.Load
  ReadAt q k Channels = Is q i.Loadc
  ReadAt q k Many = Is q (i.Pack (size p k))
  ReadAt q k NoSort = ⊥

  abbrev pub UnaryAt : ℕ → UnaryOp → Type 0
  UnaryAt q unary.Plus = Unit {0}
  UnaryAt q unary.Minus = Is q i.Neg
  UnaryAt q unary.Not = Is q i.Not

  -- a standard function with a result of type t
  abbrev pub StandardAt : ℕ → StandardFn → KindOf → Type 0
  StandardAt q standard.Abs t = Is q i.Abs
  StandardAt q standard.Sqr t = Is q i.Sqr
  StandardAt q standard.Odd t = Is q i.Odd
  StandardAt q standard.Ord t = Unit {0}
  StandardAt q standard.Chr t = Is q (i.Range (pos 0) (pos 255))
  StandardAt q standard.Succ t = Is q (i.Succ (greatest_ordinal t))
  StandardAt q standard.Pred t = Is q (i.Pred (least_ordinal t))
  StandardAt q standard.Eof t = ⊥
  StandardAt q standard.Eoln t = ⊥

  abbrev pub InputAt : ℕ → StandardFn → Type 0
  InputAt q standard.Eof = Is q i.Eof
  InputAt q standard.Eoln = Is q i.Eoln
  InputAt _ _ = ⊥

  -- the level of the block around a called one
  abbrev pub Around : List Scope → ℕ → Option ℕ → ℕ → Type 0
  Around sc f None up = ⊥
  Around sc f (Some b) up = (level (is_block b) sc ≡ Some up) × (scopes_of p f ≡ OfBlock f ∷ drop up sc)

  -- a call of block f stands here
  abbrev pub CallAt : List Scope → ℕ → ℕ → Block → Type 0
  CallAt sc q f b = (up : ℕ) × (slice_get p.blocks f ≡ Some b) × Around sc f b.parent up × Is q (i.Call f up)

  -- a parameter of type k, by value or by reference
  abbrev pub Formal : ℕ → ℕ → Role → Type 0
  Formal x k r = (v : Variable) × (slice_get p.variables x ≡ Some v) × (v.kind ≡ k) × (v.role ≡ r)

  abbrev mutual
    pub ValueAt : List Scope → ℕ → Expr → Type 0
    ValueAt sc q (Typed k form) = FormAt sc q k form

    pub FormAt : List Scope → ℕ → ℕ → ExprForm → Type 0
    FormAt sc q k (Number n) = Is q (i.Const n) × (sort p k ≡ Ordinals)
    FormAt sc q k (Read v) = PlaceAt sc q v k × ReadAt (after_var q v) k (sort p k)
    FormAt sc q k (Unary op a) = ValueAt sc q a × (sort p (kind_of a) ≡ Ordinals) × (sort p k ≡ Ordinals)
        × UnaryAt (after_value q a) op
    FormAt sc q k (Binary op a b) =
        ValueAt sc q a × ValueAt sc (after_value q a) b × Is (after_value (after_value q a) b) (binary_instr op)
        × Operands op (sort p (kind_of a)) (sort p (kind_of b)) × (sort p k ≡ Ordinals)
    FormAt sc q k (Apply f args) =
        (b : Block) × ActualsAt sc q args b.formals × CallAt sc (after_actuals q args) f b
        × ((x : ℕ) × (b.answer ≡ Some x)) × (sort p k ≡ Ordinals)
    FormAt sc q k (Standard f a) =
        (t : KindOf) × (kind_at p k ≡ Some t) × ValueAt sc q a × (sort p (kind_of a) ≡ Ordinals) × (sort p k ≡ Ordinals)
        × StandardAt (after_value q a) f t
    FormAt sc q k (AtInput f) = InputAt q f × (sort p k ≡ Ordinals)

    pub PlaceAt : List Scope → ℕ → Var → ℕ → Type 0
    PlaceAt sc q (Entire x ss) k = (k1 : ℕ) × VarAt sc q x k1 × SelectedAt sc (q + 1) ss k1 k

    -- selectors lead from a type to a type
    pub SelectedAt : List Scope → ℕ → Selectors → ℕ → ℕ → Type 0
    SelectedAt sc q Whole k k2 = k ≡ k2
    SelectedAt sc q (Select (Index e) rest) k k2 =
        (low high : ℤ) × (index element : ℕ) × (kind_at p k ≡ Some (kind.Array low high index element)) × ValueAt sc q e
        × (sort p (kind_of e) ≡ Ordinals) × Is (after_value q e) (i.Index low high (size p element))
        × SelectedAt sc (after_value q e + 1) rest element k2
    SelectedAt sc q (Select (Field f) rest) k k2 =
        (fs : List (List ℕ × ℕ)) × (name : List ℕ) × (t : ℕ) × (kind_at p k ≡ Some (kind.Fields fs))
        × (slice_get fs f ≡ Some (name, t)) × Is q (i.Field (field_offset p fs f)) × SelectedAt sc (q + 1) rest t k2

    pub ActualsAt : List Scope → ℕ → Actuals → List ℕ → Type 0
    ActualsAt sc q Nothing [] = Unit {0}
    ActualsAt sc q Nothing (x ∷ xs) = ⊥
    ActualsAt sc q (Pass a rest) [] = ⊥
    ActualsAt sc q (Pass (ByValue e) rest) (x ∷ xs) = ValueAt sc q e × Formal x (kind_of e) role.Value
        × ActualsAt sc (after_value q e) rest xs
    ActualsAt sc q (Pass (ByReference v) rest) (x ∷ xs) = (k : ℕ) × PlaceAt sc q v k × IsTarget v
        × Formal x k role.Reference × ActualsAt sc (after_var q v) rest xs

  -- an expression that is an ordinal
  abbrev pub OrdinalAt : List Scope → ℕ → Expr → Type 0
  OrdinalAt sc q e = ValueAt sc q e × (sort p (kind_of e) ≡ Ordinals)

  abbrev pub WidthAt : List Scope → ℕ → Option Expr → Type 0
  WidthAt sc q None = Unit {0}
  WidthAt sc q (Some e) = OrdinalAt sc q e

  abbrev pub ReadsAt : ℕ → KindOf → Type 0
  ReadsAt q kind.Integer = Is q i.ReadInt
  ReadsAt q kind.Char = Is q i.ReadChar
  ReadsAt _ _ = ⊥

  -- the right side of an assignment, and the instruction that assigns
  abbrev pub RightAt : List Scope → ℕ → ℕ → Sort → ExprForm → Type 0
  RightAt sc q k Ordinals form = FormAt sc q k form × Is (after_form q form) i.Store
  RightAt sc q k Channels form = FormAt sc q k form × Is (after_form q form) i.Store
  RightAt sc q k Many (Read v) = PlaceAt sc q v k × Is (after_var q v) (i.Copy (size p k))
  RightAt sc q k Many (Number n) = ⊥
  RightAt sc q k Many (Unary op a) = ⊥
  RightAt sc q k Many (Binary op a b) = ⊥
  RightAt sc q k Many (Apply f args) = ⊥
  RightAt sc q k Many (Standard f a) = ⊥
  RightAt sc q k Many (AtInput f) = ⊥
  RightAt sc q k NoSort form = ⊥

  -- the turns of a for loop, whose first instruction stands at q and whose last one at j
  abbrev pub TurnsAt : List Scope → ℕ → ℕ → Bool → ℕ → Type 0 → Type 0
  TurnsAt sc q x down j body =
      ForVar sc x × Is q (if down then i.Fordown (slot p x) (j + 1) else i.Forup (slot p x) (j + 1)) × Is (q + 1) i.Tick
      × body × Is j (if down then i.Nextdown (slot p x) (q + 1) else i.Nextup (slot p x) (q + 1))

  -- the tests of an arm of a case, with its statement at b
  abbrev pub TestAt : ℕ → List ℤ → ℕ → Type 0
  TestAt q [] b = Unit {0}
  TestAt q (m ∷ ms) b = Is q (i.Casej m b) × TestAt (q + 1) ms b

  -- the tests of a `case` stand here
  abbrev pub TestsAt : ℕ → Arms → ℕ → Type 0
  TestsAt q NoArm b = Unit {0}
  TestsAt q (Or (On ms s) rest) b = TestAt q ms b × TestsAt (after_test q ms) rest (after_statement p b s + 1)

  abbrev mutual
    -- a statement that stands at q; free: no function is being called
    pub StatementAt : (free : Bool) → List Scope → ℕ → Stmt → Type 0
    StatementAt free sc q Empty = Unit {0}
    StatementAt free sc q (Assign v (Typed k form)) = PlaceAt sc q v k × IsTarget v
        × RightAt sc (after_var q v) k (sort p k) form
    StatementAt free sc q (Call f args) =
        (b : Block) × ActualsAt sc q args b.formals × CallAt sc (after_actuals q args) f b × (b.answer ≡ None)
        × IsCallable callable free f
    StatementAt free sc q (Sequence ss) = AllAt free sc q ss
    StatementAt free sc q (If e a) =
        let t = after_value q e in
        OrdinalAt sc q e × Is t (i.Jumpf (after_statement p (t + 1) a)) × StatementAt free sc (t + 1) a
    StatementAt free sc q (IfElse e a b) =
        let t = after_value q e in
        let j = after_statement p (t + 1) a in
        OrdinalAt sc q e × Is t (i.Jumpf (j + 1)) × StatementAt free sc (t + 1) a
        × Is j (i.Jump (after_statement p (j + 1) b))
        × StatementAt free sc (j + 1) b
    StatementAt free sc q (While e s) =
        let t = after_value q e in
        let j = after_statement p (t + 1 + 1) s in
        OrdinalAt sc q e × Is t (i.Jumpf (j + 1)) × Is (t + 1) i.Tick × StatementAt free sc (t + 1 + 1) s
        × Is j (i.Jump q)
    StatementAt free sc q (Repeat s e) =
        let t = after_statement p (q + 1) s in
        Is q i.Tick × StatementAt free sc (q + 1) s × OrdinalAt sc t e × Is (after_value t e) (i.Jumpf q)
    StatementAt free sc q (For x from down to s) =
        let t = after_value (after_value q from) to in
        OrdinalAt sc q from × OrdinalAt sc (after_value q from) to
        × TurnsAt sc t x down (after_statement p (t + 1 + 1) s) (StatementAt free sc (t + 1 + 1) s)
    StatementAt free sc q (Case e arms) =
        let t = after_value q e in
        let b = after_tests t arms in
        OrdinalAt sc q e × TestsAt t arms (b + 1) × Is b i.Nocase
        × ArmsAt free sc (b + 1) arms (after_arms p (b + 1) arms)
    StatementAt free sc q (Parallel ss) =
        (t : ℕ) × HasTable t (record { children = children_tables p moves shares (q + 1 + 1) ss }) × Is q (i.Fork t)
        × Is (q + 1) (i.Jump (after_children p (q + 1 + 1) ss)) × ChildrenAt free sc (q + 1 + 1) ss × (free ≡ true)
    StatementAt free sc q (Forall x from to s) =
        let b = after_value (after_value q from) to in
        (t : ℕ) × HasTable t (record { children = child_table p moves shares (b + 1 + 1) (Some x) s ∷ [] })
        × OrdinalAt sc q from × OrdinalAt sc (after_value q from) to × Is b (i.Forall t)
        × Is (b + 1) (i.Jump (after_statement p (b + 1 + 1) s + 1))
        × StatementAt free (OfIndex x ∷ sc) (b + 1 + 1) s × Is (after_statement p (b + 1 + 1) s) i.End × (free ≡ true)
    StatementAt free sc q (Assume e) = OrdinalAt sc q e × Is (after_value q e) i.Assume
    StatementAt free sc q (ReadValue v) = (k : ℕ) × (t : KindOf) × PlaceAt sc q v k × IsTarget v
        × (kind_at p k ≡ Some t)
        × ReadsAt (after_var q v) t
    StatementAt free sc q ReadLine = Is q i.Readln
    StatementAt free sc q (WriteValue e w) =
        (t : KindOf) × OrdinalAt sc q e × (kind_at p (kind_of e) ≡ Some t) × WidthAt sc (after_value q e) w
        × Is (after_width (after_value q e) w) (write_instr (Some t) (is_given w)) × IsWritten t
    StatementAt free sc q (WriteText t w) = (n : ℕ) × HasText n t × WidthAt sc q w
        × Is (after_width q w) (if is_given w then i.WritewText n else i.WriteText n)
    StatementAt free sc q WriteLine = Is q i.Writeln
    StatementAt free sc q (Open v) = (k : ℕ) × PlaceAt sc q v k × IsTarget v × (sort p k ≡ Channels)
        × Is (after_var q v) i.Open × (free ≡ true)
    StatementAt free sc q (Send c e) =
        ValueAt sc q c × (sort p (kind_of c) ≡ Channels) × ValueAt sc (after_value q c) e
        × Is (after_value (after_value q c) e) (i.Send (kind_of e)) × (free ≡ true)
    StatementAt free sc q (Receive c v) =
        (k : ℕ) × ValueAt sc q c × (sort p (kind_of c) ≡ Channels) × PlaceAt sc (after_value q c) v k × IsTarget v
        × Is (after_var (after_value q c) v) (i.Receive k) × (free ≡ true)

    pub AllAt : Bool → List Scope → ℕ → Stmts → Type 0
    AllAt free sc q No = Unit {0}
    AllAt free sc q (And s rest) = StatementAt free sc q s × AllAt free sc (after_statement p q s) rest

    -- the children of a fork, each with what it is handed
    pub ChildrenAt : Bool → List Scope → ℕ → Stmts → Type 0
    ChildrenAt free sc q No = Unit {0}
    ChildrenAt free sc q (And s rest) =
        StatementAt free sc q s × Is (after_statement p q s) i.End × ChildrenAt free sc (after_statement p q s + 1) rest

    pub ArmsAt : Bool → List Scope → ℕ → Arms → (end : ℕ) → Type 0
    ArmsAt free sc q NoArm end = Unit {0}
    ArmsAt free sc q (Or (On ms s) rest) end = StatementAt free sc q s × Is (after_statement p q s) (i.Jump end)
        × ArmsAt free sc (after_statement p q s + 1) rest end

  -- the code of block f stands at q
  pub record BlockStands (f q : ℕ) (b : Block) : Type 0 where
    pub body : (free : Bool) → IsCallable callable free f → StatementAt free (scopes_of p f) q b.body
    pub end : Is (after_statement p q b.body) (end_instr f)
    -- a function leads to no kernel statement, and its result is an ordinal of its own frame
    pub callable_function : (x : ℕ) → b.answer ≡ Some x → callable f
    pub answer : (x : ℕ) → b.answer ≡ Some x → (v : Variable) × (slice_get p.variables x ≡ Some v)
        × (v.role ≡ role.Answer) × (v.block ≡ f) × (sort p v.kind ≡ Ordinals)

-- ---- in a code

abbrev pub CodeAt : Parts → ℕ → Instr → Type 0
CodeAt code q instr = slice_get code.instrs q ≡ Some instr

-- the fork table of a number
abbrev pub HasFork : Parts → ℕ → ForkTable → Type 0
HasFork code t table = slice_get code.forks t ≡ Some table

-- the text of a number
abbrev pub HasWords : Parts → ℕ → List ℕ → Type 0
HasWords code n text = slice_get code.texts n ≡ Some text

-- a block's layout is the one that it has in the tree, and its code stands at the entry
pub record BlockAt (p : Program) (moves shares : Stmt → List ℕ) (code : Parts) (callable : ℕ → Type 0) (f : ℕ)
    (b : Block) :
    Type 0 where
  pub layout : Layout
  pub layout_at : slice_get code.layouts f ≡ Some layout
  pub layout_is : layout ≡ layout_of p f layout.entry b
  pub stands : BlockStands p moves shares (CodeAt code) (HasFork code) (HasWords code) callable f layout.entry b

-- the code of all blocks of the program stands
abbrev pub BlocksAt : (p : Program) (moves shares : Stmt → List ℕ) (code : Parts) (callable : ℕ → Type 0) → Type 0
BlocksAt p moves shares code callable = (f : ℕ) (b : Block) → slice_get p.blocks f ≡ Some b
    → BlockAt p moves shares code callable f b

-- nothing is said of the code: what the rules of names, types and variables give alone
abbrev pub AnyInstr : ℕ → Instr → Type 0
AnyInstr q instr = Unit {0}

-- no table is asked for
abbrev pub AnyTable : ℕ → ForkTable → Type 0
AnyTable t table = Unit {0}

-- no text is asked for
abbrev pub AnyText : ℕ → List ℕ → Type 0
AnyText n text = Unit {0}

-- a tree that keeps the rules, at its block f
abbrev pub IsSoundBlock : (p : Program) (moves shares : Stmt → List ℕ) (callable : ℕ → Type 0) → (f q : ℕ) → Block
    → Type 0
IsSoundBlock p moves shares callable f q b = BlockStands p moves shares AnyInstr AnyTable AnyText callable f q b

-- these items stand in a list from place q on
abbrev pub HasAt : {X : Type 0} → List X → ℕ → List X → Type 0
HasAt xs q [] = Unit {0}
HasAt xs q (y ∷ ys) = (slice_get xs q ≡ Some y) × HasAt xs (q + 1) ys
