-- None of this belongs to what the program promises: it is for contracts between crates.
-- What the tables of the phase of types say of the plain tree without places. The proofs of the facts of types keep it
-- along the walk.
use Rattle.std.specs.Prelude.{◌≡◌, ◌⊎◌, ℕ, suc, ◌≤◌, ℤ, List, [], ◌∷◌, Some, true, length, slice_get}
use Rattle.sp_tree.specs.declared.checked.KindOf.{KindOf}
use Rattle.sp_tree.specs.declared.checked.KindOf.TheVariants as kind
use Rattle.sp_tree.specs.declared.checked.Role.TheVariants as role
use Rattle.sp_tree.specs.Plain.{Program, Variable, Block}
use Rattle.sp_code.specs.Scopes.{Scope, is_index, level}
use Rattle.sp_types.specs.declared.tables.Ordinal.{Ordinal}
use Rattle.sp_types.specs.Tables.{Env, variable_kind, with_next_number, with_index_type}
use Rattle.sp_types.specs.TypeRules.{is_ordinal}
use Rattle.sp_types.specs.Kinds.{expression_kind}
use Rattle.sp_types.specs.TypeWalk.{statement_after, statements_after}
use Rattle.sp_tree.specs.PlainNamed as n
use Rattle.sp_code.specs.CodeOfTree.{NoIndex}

-- a type that there is
abbrev pub IsKind : Program → ℕ → Type 0
IsKind p k = (t : KindOf) × (slice_get p.kinds k ≡ Some t)

-- parameters have one of two roles
abbrev pub IsFormal : Program → ℕ → Type 0
IsFormal p x = (v : Variable) × (slice_get p.variables x ≡ Some v) × ((v.role ≡ role.Value) ⊎ (v.role ≡ role.Reference))

-- so for each parameter
abbrev pub AreFormals : Program → List ℕ → Type 0
AreFormals p [] = Unit {0}
AreFormals p (x ∷ xs) = IsFormal p x × AreFormals p xs

-- constants: how many constants there are
pub record TablesMatch (p : Program) (constants : ℕ) (env : Env) : Type 0 where
  pub kinds : env.kinds ≡ p.kinds
  pub integer : slice_get p.kinds 0 ≡ Some kind.Integer
  pub boolean : slice_get p.kinds 1 ≡ Some kind.Boolean
  pub char : slice_get p.kinds 2 ≡ Some kind.Char
  -- a declared constant is an ordinal
  pub given : (k : ℕ) → suc k ≤ constants → (o : Ordinal) × (slice_get env.constants k ≡ Some (Some o))
      × (is_ordinal (slice_get p.kinds o.kind) ≡ true)
  -- all variables but indices have their types
  pub variables : (x : ℕ) (v : Variable) → slice_get p.variables x ≡ Some v → NoIndex v.role
      → (variable_kind env x ≡ Some v.kind) × IsKind p v.kind
  -- there is room for the types of indices
  pub room : (x : ℕ) (v : Variable) → slice_get p.variables x ≡ Some v → suc x ≤ length env.variables
  pub roles : (x : ℕ) (v : Variable) → slice_get p.variables x ≡ Some v → slice_get env.roles x ≡ Some v.role
  pub blocks : (f : ℕ) (b : Block) → slice_get p.blocks f ≡ Some b
      → slice_get env.blocks f ≡ Some (record { formals = b.formals; answer = b.answer })
  pub formals : (f : ℕ) (b : Block) → slice_get p.blocks f ≡ Some b → AreFormals p b.formals
  pub answers : (f : ℕ) (b : Block) (x : ℕ) → slice_get p.blocks f ≡ Some b → b.answer ≡ Some x → (v : Variable)
      × (slice_get p.variables x ≡ Some v) × (v.role ≡ role.Answer) × (v.block ≡ f)
      × (is_ordinal (slice_get p.kinds v.kind) ≡ true)
  -- components have types that there are
  pub elements : (k : ℕ) (low high : ℤ) (index element : ℕ)
      → slice_get p.kinds k ≡ Some (kind.Array low high index element) → IsKind p element
      × (is_ordinal (slice_get p.kinds index) ≡ true)
  pub fields : (k : ℕ) (fs : List (List ℕ × ℕ)) (f : ℕ) (name : List ℕ) (t : ℕ)
      → slice_get p.kinds k ≡ Some (kind.Fields fs) → slice_get fs f ≡ Some (name, t) → IsKind p t

-- the indices of the foralls around have their types
abbrev pub HasIndices : Program → Env → List Scope → Type 0
HasIndices p env sc = (x up : ℕ) (v : Variable) → level (is_index x) sc ≡ Some up → slice_get p.variables x ≡ Some v
    → (variable_kind env x ≡ Some v.kind) × (is_ordinal (slice_get p.kinds v.kind) ≡ true)

-- the index of a forall has the type in the tree that its first limit has
module _ (p : Program) where
  abbrev mutual
    pub IsTyped : Env → n.Statement → Type 0
    IsTyped env (n.Does at form) = IsTypedForm (with_next_number env) form

    pub IsTypedForm : Env → n.Form → Type 0
    IsTypedForm env (n.Sequence ss) = AreTyped env ss
    IsTypedForm env (n.If e a o) = IsTyped env a × IsTypedOther (statement_after env a) o
    IsTypedForm env (n.While e a) = IsTyped env a
    IsTypedForm env (n.Repeat ss e) = AreTyped (with_next_number env) ss
    IsTypedForm env (n.Case e arms) = AreTypedArms env arms
    IsTypedForm env (n.For x at from down to a) = IsTyped env a
    IsTypedForm env (n.Parallel bs) = AreTypedBranches env bs
    IsTypedForm env (n.Forall x from to a) =
        ((v : Variable) → slice_get p.variables x ≡ Some v → (k : ℕ) → expression_kind env from ≡ Some k → v.kind ≡ k)
        × IsTyped (with_index_type env x (expression_kind env from)) a
    IsTypedForm _ _ = Unit {0}

    pub IsTypedOther : Env → n.ElsePart → Type 0
    IsTypedOther env n.NoElse = Unit {0}
    IsTypedOther env (n.Else a) = IsTyped env a

    pub AreTyped : Env → n.Statements → Type 0
    AreTyped env n.NoStatement = Unit {0}
    AreTyped env (n.AndThen a rest) = IsTyped env a × AreTyped (statement_after env a) rest

    pub AreTypedArms : Env → n.Arms → Type 0
    AreTypedArms env n.NoArm = Unit {0}
    AreTypedArms env (n.Or (n.On cs a) rest) = IsTyped env a × AreTypedArms (statement_after env a) rest

    pub AreTypedBranches : Env → n.Branches → Type 0
    AreTypedBranches env n.NoBranch = Unit {0}
    AreTypedBranches env (n.Beside ss rest) = AreTyped (with_next_number env) ss
        × AreTypedBranches (statements_after (with_next_number env) ss) rest
