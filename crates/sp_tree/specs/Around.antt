-- All of this belongs to what the program promises (docs/promise.txt).
-- What stands around a place in a program: the scopes, the innermost first, and what variable parameters stand for.
-- The meaning, the definition of code and the generator count static levels by it, so that all three count alike.
use Rattle.std.specs.Prelude.{option_and_then, option_map}
use Rattle.std.specs.Prelude.{ℕ, zero, suc, ◌==◌, List, [], ◌∷◌, Option, Some, None, Bool, false, if◌then◌else◌}
use Rattle.std.specs.Prelude.{slice_get, length}
use Rattle.sp_tree.specs.Plain.{Program, Block}

-- a scope: a block, or the element statement of a forall
pub data Scope : Type 0 where
  OfBlock : (b : ℕ) → Scope
  OfIndex : (x : ℕ) → Scope

-- the scope is that of block b
abbrev pub is_block : ℕ → Scope → Bool
is_block b (OfBlock c) = b == c
is_block b (OfIndex x) = false

-- the scope is that of index x
abbrev pub is_index : ℕ → Scope → Bool
is_index x (OfBlock c) = false
is_index x (OfIndex y) = x == y

abbrev pub one_more : Option ℕ → Option ℕ
one_more n = option_map suc n

-- how many levels outward the first scope is that fits
abbrev pub level : (Scope → Bool) → List Scope → Option ℕ
level fits [] = None
level fits (s ∷ sc) = if fits s then Some 0 else one_more (level fits sc)

-- the block around a block
abbrev pub parent_of : Option Block → Option ℕ
parent_of k = option_and_then (λ k. k.parent) k

module _ (p : Program) where
  -- the scopes of a block's statement part: it, and those around it, no more than n
  abbrev pub scopes_by : ℕ → Option ℕ → List Scope
  scopes_by zero b = []
  scopes_by (suc n) None = []
  scopes_by (suc n) (Some b) = OfBlock b ∷ scopes_by n (parent_of (slice_get p.blocks b))

  -- the scopes of a block's body, the innermost first
  abbrev pub scopes_of : ℕ → List Scope
  scopes_of b = scopes_by (length p.blocks) (Some b)

-- what the variable parameter of this number stands for
abbrev pub reference_target : {A : Type 0} → ℕ → List (ℕ × A) → Option A
reference_target x [] = None
reference_target x (r ∷ rs) = if x == r.0 then Some r.1 else reference_target x rs
