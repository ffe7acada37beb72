-- None of this belongs to what the program promises: it is for contracts between crates.
-- What a process may read and write, and that what it has left to do keeps to it (the invariant behind disjointness).
-- The proof for programs without interference keeps it, and so does the comparison of generated code.
use Rattle.std.specs.Prelude.{◌≡◌, ◌≢◌, ℕ, zero, suc, ◌<◌, ◌==◌, Bool, if◌then◌else◌, List, [], ◌∷◌, length, Option}
use Rattle.std.specs.Prelude.{Some, None, slice_get}
use Rattle.sp_tree.specs.declared.checked.Role.{Role}
use Rattle.sp_tree.specs.declared.checked.Role.TheVariants as role
use Rattle.sp_tree.specs.Plain.{Program, Variable, Entire, ByValue, ByReference, Actuals, Nothing, Pass, Stmt, Repeat}
use Rattle.sp_meaning.specs.Model.{Payload, Message, Takes}
use Rattle.sp_meaning.specs.LocalWork.{LocationContent, Loc, Cell, Input, Output, Address, Home, OfBlock, OfIndex}
use Rattle.sp_meaning.specs.LocalWork.{Frame, Item, Do}
use Rattle.sp_meaning.specs.LocalWork.{First, Again, Test, Leave, Break, is_block, reference_target}
use Rattle.sp_meaning.specs.Actions.{Birth, Action, Stepped, Ticked, Opened, Forked, Offered, Ended, push}
use Rattle.sp_meaning.specs.Eval.{ArgumentValue, ValueOf, PlaceOf}
use Rattle.sp_tree.specs.Uses.{Use, Target, Seen, In_stmt, In_loop}
use Rattle.sp_tree.specs.Sets.{IsTarget, IsUsed, Reach}
use Rattle.sp_tree.specs.Interference.{IsFreeUse}

-- from where the list is so long outward along the links, the first frame that fits
abbrev pub frame_found : (Home → Bool) → ℕ → List Frame → Option Frame
frame_found fits n [] = None
frame_found fits n (f ∷ fs) =
    if length (f ∷ fs) == n then (if fits f.home then Some f else frame_found fits f.link fs) else
    frame_found fits n fs

-- the entire location that a variable stands for in these frames

abbrev pub cell_of : ℕ → Option Frame → Option Loc
cell_of x None = None
cell_of x (Some f) = Some (Cell f.owner f.number x)

abbrev pub spot_of : Option Address → Option Loc
spot_of None = None
spot_of (Some a) = Some a.spot

abbrev pub reference_of : ℕ → Option Frame → Option Loc
reference_of x None = None
reference_of x (Some f) = spot_of (reference_target x f.references)

abbrev pub console : ℕ → Loc
console zero = Input
console (suc n) = Output

abbrev pub location_by : List Frame → ℕ → Variable → Role → Option Loc
location_by fs x i role.Console = Some (console x)
location_by fs x i role.Reference = reference_of x (frame_found (is_block i.block) (length fs) fs)
location_by fs x i role.Index = None
location_by fs x i _ = cell_of x (frame_found (is_block i.block) (length fs) fs)

-- where variable x stands, by its declaration
abbrev pub location_at : List Frame → ℕ → Option Variable → Option Loc
location_at fs x None = None
location_at fs x (Some i) = location_by fs x i i.role

-- Frames: numbered from below; outward along the static links the numbers of the blocks fall; what a variable parameter
-- stands for is older than its frame

-- a location in an older frame
abbrev pub IsOlder : ℕ → Loc → Type 0
IsOlder n (Cell q m x) = m < n
IsOlder n Input = Unit
IsOlder n Output = Unit

-- so for each reference
abbrev pub AreOlder : ℕ → List (ℕ × Address) → Type 0
AreOlder n [] = Unit
AreOlder n (r ∷ rs) = IsOlder n r.1.spot × AreOlder n rs

abbrev pub IsInside : Home → ℕ → List Frame → Type 0
IsInside (OfBlock b) link fs = (c : ℕ) (f : Frame) → frame_found (is_block c) link fs ≡ Some f → c < b
IsInside (OfIndex x n) link fs = link ≡ length fs

-- each frame is linked to one around it
abbrev pub Linked : List Frame → Type 0
Linked [] = Unit
Linked (f ∷ fs) = (f.number ≡ length fs) × IsInside f.home f.link fs × AreOlder (length fs) f.references × Linked fs

-- the frames that one was pushed on
abbrev pub frames_below : List Frame → List Frame
frames_below [] = []
frames_below (f ∷ fs) = fs

-- the frames that are left when all items are done
abbrev pub last_of : List Frame → List Item → List Frame
last_of fs [] = fs
last_of fs (Do s ∷ todo) = last_of fs todo
last_of fs (First x m n down s ∷ todo) = last_of fs todo
last_of fs (Again x n down s ∷ todo) = last_of fs todo
last_of fs (Test s e ∷ todo) = last_of fs todo
last_of fs (Leave ∷ todo) = last_of (frames_below fs) todo
last_of fs (Break f ∷ todo) = last_of fs todo

module _ (p : Program) where
  abbrev pub location_of : List Frame → ℕ → Option Loc
  location_of fs x = location_at fs x (slice_get p.variables x)

  -- this use is of variable x, which stands for l
  abbrev pub Touches : List Frame → Use → ℕ → Loc → Type 0
  Touches fs (Target y) x l = (y ≡ x) × (location_of fs x ≡ Some l)
  Touches fs (Seen y) x l = (y ≡ x) × (location_of fs x ≡ Some l)
  Touches _ _ _ _ = ⊥

  -- the evaluated arguments are those of a call in these frames
  abbrev pub AreArgumentsOf : List Frame → Actuals → List ArgumentValue → Type 0
  AreArgumentsOf fs Nothing [] = Unit
  AreArgumentsOf fs Nothing (g ∷ gs) = ⊥
  AreArgumentsOf fs (Pass a rest) [] = ⊥
  AreArgumentsOf fs (Pass (ByValue e) rest) (ValueOf v ∷ gs) = AreArgumentsOf fs rest gs
  AreArgumentsOf fs (Pass (ByValue e) rest) (PlaceOf a ∷ gs) = ⊥
  AreArgumentsOf fs (Pass (ByReference (Entire x ss)) rest) (ValueOf v ∷ gs) = ⊥
  AreArgumentsOf fs (Pass (ByReference (Entire x ss)) rest) (PlaceOf a ∷ gs) = (location_of fs x ≡ Some a.spot)
      × AreArgumentsOf fs rest gs

  -- some target of it, or some variable of it, stands for l
  abbrev pub Aimed : List Frame → Stmt → Loc → Type 0
  Aimed fs s l = (x : ℕ) × IsTarget p (In_stmt s) x × (location_of fs x ≡ Some l)

  -- the statement uses the variable that stands there
  abbrev pub Used : List Frame → Stmt → Loc → Type 0
  Used fs s l = (x : ℕ) × IsUsed p (In_stmt s) x × (location_of fs x ≡ Some l)

  -- what one writes the other does not use
  abbrev pub AreClear : List Frame → Stmt → Stmt → Type 0
  AreClear fs s t = (l : Loc) → (Aimed fs s l → Used fs t l → ⊥) × (Used fs s l → Aimed fs t l → ⊥)

  abbrev pub IsClearOf : List Frame → Stmt → List Stmt → Type 0
  IsClearOf fs s [] = Unit
  IsClearOf fs s (t ∷ ts) = AreClear fs s t × IsClearOf fs s ts

  module _ (W R : Loc → Type 0) where
    -- a use of what the process holds
    abbrev pub Right : Use → Loc → Type 0
    Right (Target x) l = W l
    Right (Seen x) l = R l
    Right _ _ = Unit

    -- what stands there may be done in these frames: the locations are the process's to write or read, no two variables
    -- are one location, and the rules are kept
    pub record Sound (fs : List Frame) (Here : Use → Type 0) : Type 0 where
      pub allowed : (bs : List ℕ) (u : Use) → Reach p Here bs u → (x : ℕ) (l : Loc) → Touches fs u x l → Right u l
      pub apart : (bs cs : List ℕ) (u v : Use) → Reach p Here bs u → Reach p Here cs v → (x y : ℕ) (l : Loc) → x ≢ y
          → Touches fs u x l → Touches fs v y l → ⊥
      pub kept : (u : Use) → Here u → IsFreeUse p u

    -- each item in the frames in which it will be done
    abbrev pub ItemsAreSound : List Frame → List Item → Type 0
    ItemsAreSound fs [] = Unit
    ItemsAreSound fs (Do s ∷ todo) = Sound fs (In_stmt s) × ItemsAreSound fs todo
    ItemsAreSound fs (First x m n down s ∷ todo) = Sound fs (In_loop x s) × ItemsAreSound fs todo
    ItemsAreSound fs (Again x n down s ∷ todo) = Sound fs (In_loop x s) × ItemsAreSound fs todo
    ItemsAreSound fs (Test s e ∷ todo) = Sound fs (In_stmt (Repeat s e)) × ItemsAreSound fs todo
    ItemsAreSound fs (Leave ∷ todo) = ItemsAreSound (frames_below fs) todo
    ItemsAreSound fs (Break f ∷ todo) = ItemsAreSound fs todo

    -- a process's items and frames, which come to z in the end
    pub record Fit (z fs : List Frame) (todo : List Item) : Type 0 where
      pub linked : Linked fs
      pub ready : ItemsAreSound fs todo
      pub ends : last_of fs todo ≡ z

    -- the children that are to be born do these statements
    abbrev pub Born : List Frame → List Stmt → List Birth → Type 0
    Born fs [] [] = Unit
    Born fs [] (b ∷ bs) = ⊥
    Born fs (s ∷ ss) [] = ⊥
    Born fs (s ∷ ss) (b ∷ bs) = (b.todo ≡ push s []) × Sound fs (In_stmt s) × IsClearOf fs s ss × Born fs ss bs

    -- a target that the process may write
    abbrev pub MayTake : Payload LocationContent Address → Type 0
    MayTake (Message v) = Unit
    MayTake (Takes a) = W a.spot

    -- what a step of such a process comes to
    abbrev pub Fair : List Frame → Action → List Frame → Type 0
    Fair z (Stepped todo) fs = Fit z fs todo
    Fair z (Ticked todo) fs = Fit z fs todo
    Fair z (Opened todo) fs = Fit z fs todo
    Fair z (Forked bs todo) fs = (ss : List Stmt) × Born fs ss bs × Fit z fs todo
    Fair z (Offered c k g todo) fs = MayTake g × Fit z fs todo
    Fair z Ended fs = Unit
