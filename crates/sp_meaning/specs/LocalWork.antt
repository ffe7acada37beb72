-- All of this belongs to what the program promises (docs/promise.txt).
-- What a process has of its own, and its local work as a tree of reads and writes. Expressions and statements are
-- written in these words, as `bind` and `give`, so that order of evaluation is seen.
use Rattle.std.specs.Option.{option_map_or}
use Rattle.std.specs.Prelude.{ℕ, ◌+◌, ◌==◌, ℤ, List, [], ◌∷◌, Option, Some, None, Bool, true, false, ◌&&◌}
use Rattle.std.specs.Prelude.{if◌then◌else◌, nat_lt, length}
use Rattle.sp_base.specs.declared.fault.Fault.{Fault}
use Rattle.sp_base.specs.declared.fault.Fault.TheVariants as fault
use Rattle.sp_base.specs.declared.limits.Limits.{Limits}
use Rattle.sp_tree.specs.Plain.{Expr, Stmt, Program}
pub use Rattle.sp_tree.specs.Around.{reference_target}
use Rattle.sp_meaning.specs.Model.{Name, same_name}
use Rattle.sp_meaning.specs.EffectTree.{EffectTree, Leaf, ReadThen, WriteThen, and_then}
use Rattle.sp_meaning.specs.Values.{Value, Undefined, get_at, set_at}

-- what a run is of: a program, its input and its limits
pub record RunInput : Type 0 where
  pub program : Program
  pub input : List ℕ
  pub limits : Limits

-- a variable in a frame of a process; the input, and the output
pub data Loc : Type 0 where
  Cell : (owner : Name) (frame variable : ℕ) → Loc
  Input : Loc
  Output : Loc

-- what stands at a location: a value, the input's position, the output's bytes
pub data LocationContent : Type 0 where
  Tree : (v : Value) → LocationContent
  Position : (n : ℕ) → LocationContent
  Written : (bytes : List ℕ) → LocationContent

-- an entire variable or a component of it, and the number of its type
pub record Address : Type 0 where
  pub spot : Loc
  pub path : List ℕ
  pub kind : ℕ

-- a frame is that of a block, or of a forall's index, whose value never changes
pub data Home : Type 0 where
  OfBlock : (block : ℕ) → Home
  OfIndex : (variable : ℕ) (value : ℤ) → Home

-- number is how many frames stand below it; link is how long the list of frames is that begins with the enclosing
-- block's, 0 where there is none; references are what the variable parameters stand for
pub record Frame : Type 0 where
  pub owner : Name
  pub number : ℕ
  pub home : Home
  pub link : ℕ
  pub references : List (ℕ × Address)

-- the frames are the live ones, the newest first; a child has its parent's below its own
pub record LocalState : Type 0 where
  pub frames : List Frame
  pub depth : ℕ
  pub ticks : ℕ
  pub cells : ℕ

-- what an evaluation reads and never changes: the process's name, and how many forks and opens it has made
pub record Identity : Type 0 where
  pub name : Name
  pub forks : ℕ
  pub opens : ℕ

-- what is left to do
pub data Item : Type 0 where
  Do : (s : Stmt) → Item
  First : (x : ℕ) (low high : ℤ) (down : Bool) (s : Stmt) → Item  -- the first value of a for loop
  Again : (x : ℕ) (limit : ℤ) (down : Bool) (s : Stmt) → Item  -- its next value, if there is one
  Test : (s : Stmt) (e : Expr) → Item  -- the test of a repeat loop
  Leave : Item  -- a procedure's return
  Break : (fault : Fault) → Item  -- a fault at the start of the root

-- a process: what is left to do, who it is, and its own part
pub record Process : Type 0 where
  pub todo : List Item
  pub who : Identity
  pub own : LocalState

-- what comes of a computation: a value and the own part after it, a fault, or neither: the tree breaks a rule
-- (IllFormed), or the bound of the computation ran out (OutOfFuel)
pub data WorkOutcome (A : Type 0) : Type 0 where
  Computed : (a : A) (own : LocalState) → WorkOutcome A
  EndsInFault : (fault : Fault) → WorkOutcome A
  IllFormed : WorkOutcome A
  OutOfFuel : WorkOutcome A

-- a computation of a process: a tree of reads and writes
abbrev pub Work : Type 0 → Type 0
Work A = Identity → LocalState → EffectTree Loc LocationContent (WorkOutcome A)

-- on with a value, or the same end
abbrev pub go_on : {A B : Type 0} → (A → Work B) → Identity → WorkOutcome A
    → EffectTree Loc LocationContent (WorkOutcome B)
go_on g w (Computed a o) = g a w o
go_on g w (EndsInFault f) = Leaf (EndsInFault f)
go_on g w IllFormed = Leaf IllFormed
go_on g w OutOfFuel = Leaf OutOfFuel

-- one after the other
abbrev pub bind : {A B : Type 0} → Work A → (A → Work B) → Work B
bind h g w o = and_then (h w o) (λ r. go_on g w r)

-- a value
abbrev pub give : {A : Type 0} → A → Work A
give a w o = Leaf (Computed a o)

-- a fault
abbrev pub fail : {A : Type 0} → Fault → Work A
fail f w o = Leaf (EndsInFault f)

-- what no accepted program comes to
abbrev pub ill_formed : {A : Type 0} → Work A
ill_formed w o = Leaf IllFormed

-- the bound is used up
abbrev pub out_of_fuel : {A : Type 0} → Work A
out_of_fuel w o = Leaf OutOfFuel

-- the own part
abbrev pub local_state : Work LocalState
local_state w o = Leaf (Computed o o)

abbrev pub who : Work Identity
who w o = Leaf (Computed w o)

-- another own part
abbrev pub set_local_state : LocalState → Work (Unit {0})
set_local_state o1 w o = Leaf (Computed tt o1)

-- a location is read
abbrev pub read_location : Loc → Work LocationContent
read_location l w o = ReadThen l (λ h. Leaf (Computed h o))

-- a location is written
abbrev pub write_location : Loc → LocationContent → Work (Unit {0})
write_location l h w o = WriteThen l h (Leaf (Computed tt o))

-- a value that has to be there
abbrev pub or_ill_formed : {A : Type 0} → Option A → Work A
or_ill_formed a = option_map_or give a ill_formed

abbrev pub value_in : LocationContent → Value
value_in (Tree v) = v
value_in _ = Undefined

abbrev pub position_in : LocationContent → ℕ
position_in (Position n) = n
position_in _ = 0

abbrev pub bytes_in : LocationContent → List ℕ
bytes_in (Written bytes) = bytes
bytes_in _ = []

-- a component is read or written by way of its whole location
abbrev pub fetch : Address → Work Value
fetch a = bind (read_location a.spot) (λ h. give (get_at a.path (value_in h)))

-- what stands at a location once a part of it was assigned
abbrev pub content_with : Address → LocationContent → LocationContent → LocationContent
content_with a old new = Tree (set_at a.path (value_in new) (value_in old))

abbrev pub assign : Address → Value → Work (Unit {0})
assign a v = bind (read_location a.spot) (λ h. write_location a.spot (content_with a h (Tree v)))

abbrev pub same_loc : Loc → Loc → Bool
same_loc (Cell p f x) (Cell q g y) = same_name p q && ((f == g) && (x == y))
same_loc Input Input = true
same_loc Output Output = true
same_loc _ _ = false

-- frames

abbrev pub is_block : ℕ → Home → Bool
is_block b (OfBlock c) = b == c
is_block b (OfIndex x v) = false

abbrev pub is_index : ℕ → Home → Bool
is_index x (OfBlock c) = false
is_index x (OfIndex y v) = x == y

-- from where the list is so long outward along the links, the frames that begin with the first one that fits
abbrev pub seek : (Home → Bool) → ℕ → List Frame → List Frame
seek fits n [] = []
seek fits n (f ∷ fs) = if length (f ∷ fs) == n then (if fits f.home then f ∷ fs else seek fits f.link fs) else
    seek fits n fs

-- the newest frame
abbrev pub top_frame : List Frame → Option Frame
top_frame [] = None
top_frame (f ∷ fs) = Some f

-- the frame that is visible from the newest one
abbrev pub find_visible : (Home → Bool) → List Frame → Option Frame
find_visible fits fs = top_frame (seek fits (length fs) fs)

-- the frame that is seen from here
abbrev pub visible_frame : (Home → Bool) → Work Frame
visible_frame fits w o = or_ill_formed (find_visible fits o.frames) w o

-- how many frames there are
abbrev pub frame_link : List Frame → Work ℕ
frame_link [] = ill_formed
frame_link (f ∷ fs) = give (length (f ∷ fs))

-- how long the list is that begins with it
abbrev pub link_to : (Home → Bool) → Work ℕ
link_to fits w o = frame_link (seek fits (length o.frames) o.frames) w o

-- a tick, or F10
abbrev pub tick : Limits → Work (Unit {0})
tick lim w o = if nat_lt o.ticks lim.ticks then set_local_state (record o { ticks = o.ticks + 1 }) w o else fail
    fault.F10 w o

-- one level deeper, or F11
abbrev pub deepen : Limits → Work (Unit {0})
deepen lim w o = if nat_lt o.depth lim.depth then set_local_state (record o { depth = o.depth + 1 }) w o else fail
    fault.F11 w o

-- so many cells more, or F12
abbrev pub widen : Limits → ℕ → Work (Unit {0})
widen lim n w o = if nat_lt lim.cells (o.cells + n) then fail fault.F12 w o else
    set_local_state (record o { cells = o.cells + n }) w o
