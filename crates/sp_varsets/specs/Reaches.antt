-- None of this belongs to what the program promises: it is for contracts between crates.
-- What paths of calls lead to from all blocks, and the sets that are made of it. The contracts of `find` promise it.
use Rattle.std.specs.Prelude.{◌≡◌, ℕ, false, not, ◌&&◌, List, length, get_or}
use Rattle.sp_tree.specs.PlainChecked as p
use Rattle.sp_tree.specs.Bare.{without_places}
use Rattle.sp_varsets.specs.declared.bodies.Bodies.{Bodies}
use Rattle.sp_varsets.specs.declared.find.Reach.{Reach}
use Rattle.sp_varsets.specs.declared.sets.Sets.{Sets}
use Rattle.sp_varsets.specs.declared.var_set.VarSet.{VarSet}
use Rattle.sp_varsets.specs.declared.walk.Walk.{Walk}
use Rattle.sp_varsets.specs.Bodies.{AreDeclared}
use Rattle.sp_varsets.specs.Members.{has}
use Rattle.sp_varsets.specs.Paths.{member, Closes}
use Rattle.sp_varsets.specs.Totals.{AreEntries, AreRowEntries}

-- the rows but for what is hidden
abbrev pub AreShown : (own hidden rows : List VarSet) → Type 0
AreShown own hidden rows = (b x : ℕ) → member rows b x ≡ member own b x && not (member hidden b x)

-- the new rows are the closure of what is shown of a block's own
pub record IsClosureOfShown (calls hidden own new : List VarSet) : Type 0 where
  pub rows : length new ≡ length own
  pub closes : (first : List VarSet) × AreShown own hidden first × Closes calls hidden first new

-- so for all three kinds; statements that stop are hidden nowhere
pub record Reaches (c : p.Program) (bodies : Bodies) (reach : Reach) : Type 0 where
  pub declared : (hidden : List VarSet) × AreDeclared (without_places c) hidden (length (without_places c).variables)
      × IsClosureOfShown bodies.calls hidden bodies.targets reach.targets
      × IsClosureOfShown bodies.calls hidden bodies.expressions reach.seen
  pub free : (free : List VarSet) × ((b x : ℕ) → member free b x ≡ false)
      × IsClosureOfShown bodies.calls free bodies.stops reach.stops

-- the entries name sets of the pool that have what was recorded and what the rows have; the middle pool is the one
-- before the blocks' sets
pub record ArePooled (walk : Walk) (reach : Reach) (s : Sets) : Type 0 where
  pub entries : (middle : List VarSet) × AreEntries walk.pool middle walk.slots reach.targets reach.seen s.statements
      (length walk.slots) × AreRowEntries middle s.pool reach.targets reach.seen s.blocks (length reach.targets)
  pub flags : (b : ℕ) → get_or s.stops b false ≡ member reach.stops b 0
  pub none : (x : ℕ) → has s.nothing x ≡ false
