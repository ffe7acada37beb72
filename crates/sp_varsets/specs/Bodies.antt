-- None of this belongs to what the program promises: it is for contracts between crates.
-- What stands in the statement parts of blocks, and what blocks declare: the rows from which the closure over calls
-- starts. The contracts of `bodies` promise it.
use Rattle.std.specs.Prelude.{◌≡◌, ◌↔◌, ◌⊎◌, ℕ, ◌<◌, true, false, List, [], ◌∷◌, ◌++◌, length, Some}
use Rattle.std.specs.Prelude.{slice_get}
use Rattle.sp_tree.specs.PlainChecked as p
use Rattle.sp_tree.specs.Bare.{bare_statement}
use Rattle.sp_tree.specs.Plain.{Actuals, Program, Variable}
use Rattle.sp_tree.specs.Uses.{Use, Target, Seen, CallOf, Stop, In_stmt}
use Rattle.sp_tree.specs.Sets.{IsBelow}
use Rattle.sp_varsets.specs.declared.bodies.Bodies.{Bodies}
use Rattle.sp_varsets.specs.declared.uses.Uses.{Uses}
use Rattle.sp_varsets.specs.declared.var_set.VarSet.{VarSet}
use Rattle.sp_varsets.specs.declared.walk.Walk.{Walk}
use Rattle.sp_varsets.specs.AddedUses.{AreEmpty}
use Rattle.sp_varsets.specs.Parts.{IsPart}
use Rattle.sp_varsets.specs.Paths.{member}
use Rattle.sp_varsets.specs.Walks.{WalksStatement}

-- the statement stands in the statement part of one of the blocks
abbrev pub IsInBlocks : List p.Block → p.Statement → Type 0
IsInBlocks [] t = ⊥
IsInBlocks (k ∷ ks) t = IsPart t k.body ⊎ IsInBlocks ks t

-- the rows of this block have what stands here
pub record BodyAt (bodies : Bodies) (b : ℕ) (Here : Use → Type 0) : Type 0 where
  pub targets : (x : ℕ) → (member bodies.targets b x ≡ true) ↔ Here (Target x)
  pub expressions : (x : ℕ) → (member bodies.expressions b x ≡ true) ↔ Here (Seen x)
  pub calls : (f : ℕ) → (member bodies.calls b f ≡ true) ↔ ((args : Actuals) × Here (CallOf f args))
  pub stops : (member bodies.stops b 0 ≡ true) ↔ Here Stop

-- there is a row for each of the first n blocks
pub record AreBodies (blocks : List p.Block) (bodies : Bodies) (n : ℕ) : Type 0 where
  pub targets : length bodies.targets ≡ n
  pub expressions : length bodies.expressions ≡ n
  pub calls : length bodies.calls ≡ n
  pub stops : length bodies.stops ≡ n
  pub each : (b : ℕ) (k : p.Block) → b < n → slice_get blocks b ≡ Some k
      → BodyAt bodies b (In_stmt (bare_statement k.body))

-- if the new bodies are not lost, neither were the old ones and these sets, and the sets are the last rows
pub record AppendsRows (old new : Bodies) (uses : Uses) : Type 0 where
  pub kept : new.is_lost ≡ false → (old.is_lost ≡ false) × (uses.is_lost ≡ false)
  pub targets : new.is_lost ≡ false → new.targets ≡ old.targets ++ uses.targets ∷ []
  pub expressions : new.is_lost ≡ false → new.expressions ≡ old.expressions ++ uses.expressions ∷ []
  pub calls : new.is_lost ≡ false → new.calls ≡ old.calls ++ uses.calls ∷ []
  pub stops : new.is_lost ≡ false → new.stops ≡ old.stops ++ uses.stops ∷ []

-- what stands in this block's statement part is in the last rows, and was recorded
abbrev pub AppendsBody : (old new : Bodies) → (before after : Walk) → p.Block → Type 0
AppendsBody old new before after k = (uses : Uses) × AppendsRows old new uses
    × ((start : Uses) × AreEmpty start × WalksStatement before after start uses k.body)

-- the variable is declared in the block or in one inside it
abbrev pub IsDeclaredIn : Program → ℕ → ℕ → Type 0
IsDeclaredIn g b x = (i : Variable) × (slice_get g.variables x ≡ Some i) × (n : ℕ) × IsBelow g n i.block b

-- a variable of one block was put into the rows of it and of those around it
pub record Declares (g : Program) (old new : List VarSet) (x c : ℕ) : Type 0 where
  pub rows : length new ≡ length old
  pub members : (b y : ℕ) → (member new b y ≡ true)
      ↔ ((member old b y ≡ true) ⊎ ((y ≡ x) × (b < length old) × (n : ℕ) × IsBelow g n c b))

-- each row has what its block declares, of the variables below a number
pub record AreDeclared (g : Program) (rows : List VarSet) (n : ℕ) : Type 0 where
  pub count : length rows ≡ length g.blocks
  pub members : (b x : ℕ) → b < length g.blocks → (member rows b x ≡ true) ↔ ((x < n) × IsDeclaredIn g b x)
