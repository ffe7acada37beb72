-- All of this belongs to what the program promises (docs/promise.txt).
-- Types, frames and scopes of a checked tree, as code needs them: sizes, offsets, slots and levels. The definition of
-- code, its lengths and the generator's contracts share it.
use Rattle.std.specs.Option.{option_map_or}
use Rattle.std.specs.Prelude.{ℕ, suc, ◌==◌, List, [], ◌∷◌, ◌++◌, Option, Some, None, Bool, true, false}
use Rattle.std.specs.Prelude.{if◌then◌else◌, slice_get, map, sum, take}
use Rattle.sp_tree.specs.declared.checked.KindOf.{KindOf}
use Rattle.sp_tree.specs.declared.checked.KindOf.TheVariants as kind
use Rattle.sp_tree.specs.declared.checked.Role.{Role}
use Rattle.sp_tree.specs.declared.checked.Role.TheVariants as role
pub use Rattle.sp_tree.specs.Around.{Scope, OfBlock, OfIndex, is_block, is_index, one_more, level, parent_of, scopes_by}
pub use Rattle.sp_tree.specs.Around.{scopes_of}
pub use Rattle.sp_tree.specs.TreeShape.{as_list}
use Rattle.sp_tree.specs.Cells.{sizes, first_or, variables_of}
use Rattle.sp_tree.specs.Plain.{Expr, Typed, Var, Entire, Selectors, Whole, Select, Index, Field, Program, Variable}
use Rattle.sp_tree.specs.Plain.{Block}

-- what values of a type are on the stack: an ordinal, a channel, or many cells
pub data Sort : Type 0 where
  Ordinals : Sort
  Channels : Sort
  Many : Sort
  NoSort : Sort

-- how many cells a type has, and of what
abbrev pub sort_by : Option KindOf → Sort
sort_by None = NoSort
sort_by (Some (kind.Array low high index element)) = Many
sort_by (Some (kind.Fields fs)) = Many
sort_by (Some (kind.Channel ks)) = Channels
sort_by _ = Ordinals

-- the type of an expression
abbrev pub kind_of : Expr → ℕ
kind_of (Typed k form) = k

abbrev pub is_given : {A : Type 0} → Option A → Bool
is_given None = false
is_given (Some x) = true

-- variables of a role, by their numbers
abbrev pub is_local : Role → Bool
is_local role.Local = true
is_local _ = false

-- those that are no parameters
abbrev pub locals_among : List (ℕ × Variable) → List ℕ
locals_among [] = []
locals_among (x ∷ xs) = if is_local x.1.role then x.0 ∷ locals_among xs else locals_among xs

-- the place of x among these, counted from n
abbrev pub index_among : ℕ → ℕ → List ℕ → ℕ
index_among x n [] = n
index_among x n (y ∷ ys) = if x == y then n else index_among x (suc n) ys

-- the type of a field
abbrev pub second_or : ℕ → Option (List ℕ × ℕ) → ℕ
second_or k x = option_map_or (λ x. x.1) x k

-- the type that a field has, and that an element has
abbrev pub field_type : ℕ → Option KindOf → ℕ → ℕ
field_type k (Some (kind.Fields fs)) f = second_or k (slice_get fs f)
field_type k _ _ = k

-- the type of an array's elements
abbrev pub element_type : ℕ → Option KindOf → ℕ
element_type k (Some (kind.Array low high index element)) = element
element_type k _ = k

abbrev pub parameters_of : Option Block → List ℕ
parameters_of b = option_map_or (λ b. b.formals ++ as_list b.answer) b []

abbrev pub type_by : Option Variable → ℕ
type_by v = option_map_or (λ v. v.kind) v 0

module _ (p : Program) where
  abbrev pub kind_at : ℕ → Option KindOf
  kind_at k = slice_get p.kinds k

  abbrev pub sort : ℕ → Sort
  sort k = sort_by (kind_at k)

  -- the cells of a type
  abbrev pub size : ℕ → ℕ
  size k = first_or 0 (slice_get (sizes p.kinds) k)

  -- the cells of a record before one of its fields
  abbrev pub field_offset : List (List ℕ × ℕ) → ℕ → ℕ
  field_offset fs f = sum (map (λ x. size x.1) (take f fs))

  -- the variables of a block's frame: the parameters, the result, the local variables
  abbrev pub frame_of : ℕ → List ℕ
  frame_of b = parameters_of (slice_get p.blocks b) ++ locals_among (variables_of b 0 p.variables)

  -- the number of a variable in its frame. The program's frame has the input and the output first
  abbrev pub slot_in : ℕ → ℕ → ℕ
  slot_in b x = index_among x (if b == 0 then 2 else 0) (frame_of b)

  -- a variable's number in its frame
  abbrev pub slot_by : ℕ → Option Variable → ℕ
  slot_by x v = option_map_or (λ v. slot_in v.block x) v 0

  abbrev pub slot : ℕ → ℕ
  slot x = slot_by x (slice_get p.variables x)

  -- the type behind selectors
  abbrev pub selected_type : ℕ → Selectors → ℕ
  selected_type k Whole = k
  selected_type k (Select (Index e) rest) = selected_type (element_type k (kind_at k)) rest
  selected_type k (Select (Field f) rest) = selected_type (field_type k (kind_at k) f) rest

  -- the type of a variable with its selectors
  abbrev pub type_of : Var → ℕ
  type_of (Entire x ss) = selected_type (type_by (slice_get p.variables x)) ss
