-- None of this belongs to what the program promises: it is for contracts between crates.
-- Whose code each instruction is, as a verifier finds it: it goes through the code of all areas at once, and hands on
-- to each instruction and to each table whose it is, until nothing is new.
use Rattle.std.specs.Prelude.{◌≡◌, ◌⊎◌, ◌≢◌, ℕ, ◌+◌, ◌<◌, ◌==◌, List, [], ◌∷◌, Option, Some, None, Bool, true, false}
use Rattle.std.specs.Prelude.{◌&&◌, if◌then◌else◌, slice_get, slice_set, length, sum_by}
use Rattle.sp_code.specs.declared.code.Layout.{Layout}
use Rattle.sp_code.specs.declared.code.ChildTable.{ChildTable}
use Rattle.sp_code.specs.declared.code.Parts.{Parts}
use Rattle.sp_code.specs.Machine.{layout_of}
use Rattle.sp_verify_areas.specs.declared.owners.Owner.{Owner}
use Rattle.sp_verify_areas.specs.declared.owners.Owner.TheVariants as owner
use Rattle.sp_verify_rules.specs.Areas.{Area, Body, Child, on_option, instr_at}
use Rattle.sp_verify_rules.specs.Reach.{IsMember, nexts}
use Rattle.sp_verify_rules.specs.NameRules.{LiesIn, Names, IsChild}

-- an area by its last step: its block, or the fork and the child
abbrev pub owner_of : Area → Owner
owner_of (Body b) = owner.Block b
owner_of (Child a p k) = owner.Child p k

-- the instruction lies in one area alone, which is this one
pub record IsOnly (c : Parts) (p : ℕ) (o : Owner) : Type 0 where
  pub area : Area
  pub lies : LiesIn c p area
  pub owner_is : owner_of area ≡ o
  pub only : (b : Area) → LiesIn c p b → b ≡ area

-- it lies in two
pub record IsShared (c : Parts) (p : ℕ) : Type 0 where
  pub first : Area
  pub second : Area
  pub lies : LiesIn c p first
  pub too : LiesIn c p second
  pub apart : first ≢ second

-- this is whose it is
abbrev pub Owns : Parts → ℕ → Owner → Type 0
Owns c p owner.Nobody = (a : Area) → LiesIn c p a → ⊥
Owns c p (owner.Block b) = IsOnly c p (owner.Block b)
Owns c p (owner.Child q k) = IsOnly c p (owner.Child q k)
Owns c p owner.Several = IsShared c p

-- of each instruction
abbrev pub AreOwners : Parts → List Owner → Type 0
AreOwners c os = (length os ≡ length c.instrs) × ((p : ℕ) (o : Owner) → slice_get os p ≡ Some o → Owns c p o)

-- ---- what the search keeps: an owner for each instruction, and behind them one for each table, as of its first child

-- the area has the instruction in its code, or makes the table's children, if it is as of the first of them
abbrev pub AreaHas : Parts → ℕ → Area → Type 0
AreaHas c x a = ((x < length c.instrs) × LiesIn c x a)
    ⊎ ((t q : ℕ) × (b : Area) × (x ≡ length c.instrs + t) × Names c t q × LiesIn c q b × (a ≡ Child b q 0))

pub record HasOne (c : Parts) (x : ℕ) (o : Owner) : Type 0 where
  pub area : Area
  pub has : AreaHas c x area
  pub owner_is : owner_of area ≡ o

pub record HasTwo (c : Parts) (x : ℕ) : Type 0 where
  pub first : Area
  pub second : Area
  pub has : AreaHas c x first
  pub too : AreaHas c x second
  pub apart : first ≢ second

-- what an owner says is true, so far as it goes
abbrev pub IsTrueOf : Parts → ℕ → Owner → Type 0
IsTrueOf c x owner.Nobody = Unit {0}
IsTrueOf c x (owner.Block b) = HasOne c x (owner.Block b)
IsTrueOf c x (owner.Child q k) = HasOne c x (owner.Child q k)
IsTrueOf c x owner.Several = HasTwo c x

pub record AreTrue (c : Parts) (os : List Owner) : Type 0 where
  pub size : length os ≡ length c.instrs + length c.forks
  pub each : (x : ℕ) (o : Owner) → slice_get os x ≡ Some o → IsTrueOf c x o

abbrev pub is_same : Owner → Owner → Bool
is_same owner.Nobody owner.Nobody = true
is_same (owner.Block b) (owner.Block d) = b == d
is_same (owner.Child p k) (owner.Child q j) = (p == q) && (k == j)
is_same owner.Several owner.Several = true
is_same w o = false

-- there is one
abbrev pub IsOwner : Owner → Type 0
IsOwner o = o ≢ owner.Nobody

-- of two owners, what is known by both
abbrev pub common_owner : Owner → Owner → Owner
common_owner owner.Nobody o = o
common_owner (owner.Block b) o = if is_same (owner.Block b) o then owner.Block b else owner.Several
common_owner (owner.Child p k) o = if is_same (owner.Child p k) o then owner.Child p k else owner.Several
common_owner owner.Several o = owner.Several

-- how often an owner can still change
abbrev pub changes_left : Owner → ℕ
changes_left owner.Nobody = 2
changes_left (owner.Block b) = 1
changes_left (owner.Child p k) = 1
changes_left owner.Several = 0

abbrev pub room : List Owner → ℕ
room os = sum_by changes_left os

-- the owner of a child, by that of its fork, and by that of its table
abbrev pub as_child : ℕ → Owner → Owner
as_child p owner.Nobody = owner.Nobody
as_child p (owner.Block b) = owner.Child p 0
as_child p (owner.Child q k) = owner.Child p 0
as_child p owner.Several = owner.Several

abbrev pub of_child : ℕ → Owner → Owner
of_child k owner.Nobody = owner.Nobody
of_child k (owner.Block b) = owner.Block b
of_child k (owner.Child q j) = owner.Child q k
of_child k owner.Several = owner.Several

-- it is known there that this is an owner
pub record KnowsOwner (os : List Owner) (x : ℕ) (o : Owner) : Type 0 where
  pub found : Owner
  pub found_is : slice_get os x ≡ Some found
  pub above : (found ≡ owner.Several) ⊎ (found ≡ o)

-- an owner is handed there; changed says whether that was new
pub record HandsOwner (old new : List Owner) (x : ℕ) (o : Owner) (changed : Bool) : Type 0 where
  pub now : new ≡ on_option old (slice_get old x) (λ w. slice_set old x (common_owner w o))
  pub less : changed ≡ true → room new < room old
  pub unchanged : changed ≡ false → new ≡ old

-- one step of the search, by which all stays true; where it changed nothing, this is closed
pub record Propagates (c : Parts) (old new : List Owner) (Closed : List Owner → Type 0) (changed : Bool) : Type 0 where
  pub just : AreTrue c new
  pub less : changed ≡ true → room new < room old
  pub unchanged : changed ≡ false → (new ≡ old) × Closed new

-- somewhere, if there is an instruction, an owner is known
abbrev pub KnowsAt : Parts → Option ℕ → Owner → List Owner → Type 0
KnowsAt c to o os = (q : ℕ) → to ≡ Some q → q < length c.instrs → KnowsOwner os q o

-- an instruction has handed its owner on to the next ones, and to the table that it names
abbrev pub IsSpread : Parts → ℕ → List Owner → Type 0
IsSpread c p os = (o : Owner) → slice_get os p ≡ Some o → IsOwner o
    → ((q : ℕ) → IsMember q (nexts p (instr_at c p)) → q < length c.instrs → KnowsOwner os q o)
    × ((t : ℕ) → Names c t p → t < length c.forks → KnowsOwner os (length c.instrs + t) (as_child p o))

-- a table has, to so many of these children
abbrev pub IsHanded : Parts → Owner → List ChildTable → ℕ → List Owner → Type 0
IsHanded c o ts n os = (k : ℕ) (ch : ChildTable) → k < n → slice_get ts k ≡ Some ch → ch.entry < length c.instrs
    → KnowsOwner os ch.entry (of_child k o)

abbrev pub IsSpreadBy : Parts → ℕ → List Owner → Type 0
IsSpreadBy c t os = (o : Owner) → slice_get os (length c.instrs + t) ≡ Some o → IsOwner o
    → (k : ℕ) (ch : ChildTable) → IsChild c t k ch → ch.entry < length c.instrs → KnowsOwner os ch.entry (of_child k o)

-- each block is known at its entry, of the first layouts
abbrev pub AreBegun : Parts → ℕ → List Owner → Type 0
AreBegun c n os = (j : ℕ) (l m : Layout) → j < n → slice_get c.layouts j ≡ Some l → layout_of c.layouts l.block ≡ Some m
    → m.entry < length c.instrs
    → KnowsOwner os m.entry (owner.Block l.block)

-- what holds of the first ones
abbrev pub EachFirst : (ℕ → List Owner → Type 0) → ℕ → List Owner → Type 0
EachFirst P n os = (x : ℕ) → x < n → P x os

-- nothing is left to be handed on
pub record IsAllSpread (c : Parts) (os : List Owner) : Type 0 where
  pub begun : AreBegun c (length c.layouts) os
  pub spread : EachFirst (IsSpread c) (length c.instrs) os
  pub tables : EachFirst (IsSpreadBy c) (length c.forks) os

-- the ways on from an instruction
abbrev pub list_of_ways : Option ℕ → Option ℕ → List ℕ
list_of_ways None None = []
list_of_ways None (Some q) = q ∷ []
list_of_ways (Some p) None = p ∷ []
list_of_ways (Some p) (Some q) = p ∷ q ∷ []

-- where a layout begins, if there is one
abbrev pub entry_at : Option Layout → Option ℕ
entry_at None = None
entry_at (Some l) = Some l.entry
