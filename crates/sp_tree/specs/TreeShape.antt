-- Some of this belongs to what the program promises (docs/promise.txt).
-- What the phases of names and types give of every accepted tree beyond its use of names: its types are built of
-- earlier ones, its blocks and variables fit together, and what stands in a statement is of the kinds that it should
-- be. The code of a tree rests on it.
use Rattle.std.specs.Option.{option_map_or}
use Rattle.std.specs.Prelude.{◌≡◌, ◌≢◌, ℕ, suc, ◌≤◌, ℤ, int_le, List, [], ◌∷◌, Option, Some, None, Bool, true, false}
use Rattle.std.specs.Prelude.{if◌then◌else◌, length, slice_get}
use Rattle.sp_tree.specs.declared.checked.KindOf.TheVariants as kind
use Rattle.sp_tree.specs.declared.checked.Role.{Role}
use Rattle.sp_tree.specs.declared.checked.Role.TheVariants as role
use Rattle.sp_tree.specs.Cells.{variables_of}
use Rattle.sp_tree.specs.Plain.{Program, Variable, Block, No}
use Rattle.sp_tree.specs.Uses.{Use, Target, Seen, ParallelOf, In_stmt}

-- value and variable parameters
abbrev pub is_parameter : Role → Bool
is_parameter role.Value = true
is_parameter role.Reference = true
is_parameter _ = false

-- the result of a function
abbrev pub is_answer : Role → Bool
is_answer role.Answer = true
is_answer _ = false

-- the numbers of those with such a role
abbrev pub numbers_with_role : (Role → Bool) → List (ℕ × Variable) → List ℕ
numbers_with_role fits [] = []
numbers_with_role fits (x ∷ xs) = if fits x.1.role then x.0 ∷ numbers_with_role fits xs else numbers_with_role fits xs

-- none or one, as a list
abbrev pub as_list : Option ℕ → List ℕ
as_list x = option_map_or (λ x. x ∷ []) x []

-- the types of a record's fields come before type k
abbrev pub AreBefore : ℕ → List (List ℕ × ℕ) → Type 0
AreBefore k [] = Unit {0}
AreBefore k (f ∷ fs) = (suc f.1 ≤ k) × AreBefore k fs

-- a target is a variable that there is, and no index of a forall; the output is not read; a parallel statement has a
-- part
abbrev pub IsFormedUse : Program → Use → Type 0
IsFormedUse p (Target x) = (v : Variable) × (slice_get p.variables x ≡ Some v) × (v.role ≢ role.Index)
IsFormedUse p (Seen x) = x ≢ 1
IsFormedUse p (ParallelOf ss) = ss ≢ No
IsFormedUse _ _ = Unit {0}

-- all of it
pub record IsFormed (p : Program) : Type 0 where
  -- an array or record is of earlier types, and has a component
  pub arrays : (k : ℕ) (low high : ℤ) (index element : ℕ)
      → slice_get p.kinds k ≡ Some (kind.Array low high index element) → (suc element ≤ k) × (int_le low high ≡ true)
  pub fields : (k : ℕ) (fs : List (List ℕ × ℕ)) → slice_get p.kinds k ≡ Some (kind.Fields fs) → AreBefore k fs
      × (1 ≤ length fs)
  -- a block's parameters and its result are its variables with these roles, in order
  pub formals : (f : ℕ) (b : Block) → slice_get p.blocks f ≡ Some b
      → b.formals ≡ numbers_with_role is_parameter (variables_of f 0 p.variables)
  pub answers : (f : ℕ) (b : Block) → slice_get p.blocks f ≡ Some b
      → as_list b.answer ≡ numbers_with_role is_answer (variables_of f 0 p.variables)
  -- a variable is of a type and of a block that there are
  pub kinds : (x : ℕ) (v : Variable) → slice_get p.variables x ≡ Some v → suc v.kind ≤ length p.kinds
  pub homes : (x : ℕ) (v : Variable) → slice_get p.variables x ≡ Some v → (b : Block)
      × (slice_get p.blocks v.block ≡ Some b)
  -- the program's block stands in none, and has no parameters and no result
  pub program : (b : Block) → slice_get p.blocks 0 ≡ Some b → (b.parent ≡ None) × (b.formals ≡ []) × (b.answer ≡ None)
  -- what stands in a block's statement
  pub uses : (f : ℕ) (b : Block) → slice_get p.blocks f ≡ Some b → (u : Use) → In_stmt b.body u → IsFormedUse p u
