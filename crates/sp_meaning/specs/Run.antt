-- None of this belongs to what the program promises: it is for contracts between crates.
-- A computation run on a store, and what it meets: the form in which code is compared with it. `sp_codegen`'s
-- contracts speak so, since a machine has one store and a computation a tree.
use Rattle.sp_meaning.specs.EffectTree.{run_tree}
use Rattle.sp_meaning.specs.LocalWork.{Loc, LocationContent, LocalState, Identity, WorkOutcome}
use Rattle.sp_meaning.specs.LocalWork.{Work, same_loc}

-- what stands at each location
abbrev pub Store : Type 0
Store = Loc → LocationContent

-- the answer in this store, and the store afterwards
abbrev pub run : {A : Type 0} → Work A → Identity → LocalState → Store → WorkOutcome A × Store
run h w o m = run_tree same_loc (h w o) m
