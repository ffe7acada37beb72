-- None of this belongs to what the program promises: it is for contracts between crates.
-- How many cells there are where a variable stands, as seen from the frames of a process. The shapes of addresses speak
-- of it, and what a process holds is said by it.
use Rattle.std.specs.Prelude.{◌≡◌, ℕ, zero, suc, ◌-◌, ◌==◌, List, [], ◌∷◌, Option, Some, None, if◌then◌else◌, slice_get}
use Rattle.std.specs.Prelude.{length, nat_lt}
use Rattle.sp_cell.specs.declared.cell.Cell.{Cell}
use Rattle.sp_cell.specs.declared.spot.Spot.{Spot}
use Rattle.sp_cell.specs.declared.spot.Address.{Address}
use Rattle.sp_code.specs.declared.code.Formal.{Formal}
use Rattle.sp_code.specs.declared.code.Formal.TheVariants as formal
use Rattle.sp_code.specs.declared.code.Layout.{Layout}
use Rattle.sp_code.specs.Machine.{layout_of}
use Rattle.sp_code.specs.Memory.{Home, OfBlock, OfIndex, Frame, Memory, Stores, last_frames, reference_target}
use Rattle.sp_code.specs.System.{place_of, first_number, spot_of}

-- the cells of a variable of a block's frame, by its number there. The input has one, its position
abbrev pub size_of : Option Layout → ℕ → Option ℕ
size_of None var = None
size_of (Some l) var = if l.block == 0 then
    (if nat_lt var 2 then (if var == 0 then Some 1 else None) else slice_get l.sizes
    (var - 2)) else slice_get l.sizes var

-- the cells of a variable of a frame
abbrev pub size_at : List Layout → Home → ℕ → Option ℕ
size_at ls (OfBlock b) var = size_of (layout_of ls b) var
size_at ls (OfIndex x) var = if var == 0 then Some 1 else None

-- the cells at a spot, by the newest frame that has its number
abbrev pub size_in : List Layout → List Frame → Spot → Option ℕ
size_in ls [] s = None
size_in ls (f ∷ fs) s = if f.number == s.frame then size_at ls f.home s.variable else size_in ls fs s

-- the cells of the entire variable that an address is in
abbrev pub size_behind : List Layout → List Frame → Option Address → Option ℕ
size_behind ls fs None = None
size_behind ls fs (Some a) = size_in ls fs a.spot

-- the cells of the entire variable for which variable k of a frame stands, by its formal if it is a parameter. What a
-- variable parameter stands for lies in the frames below
abbrev pub extent_by : List Layout → Frame → List Frame → ℕ → Option Formal → Option ℕ
extent_by ls f fs k None = size_at ls f.home k
extent_by ls f fs k (Some (formal.Value n)) = size_at ls f.home k
extent_by ls f fs k (Some (formal.Reference n)) = size_behind ls fs (reference_target k f.references)

abbrev pub extent_at : List Layout → Frame → List Frame → Layout → Option ℕ → Option ℕ
extent_at ls f fs l None = None
extent_at ls f fs l (Some k) = extent_by ls f fs k (slice_get l.formals k)

abbrev pub extent_of_layout : List Layout → Frame → List Frame → ℕ → Option Layout → Option ℕ
extent_of_layout ls f fs x None = None
extent_of_layout ls f fs x (Some l) = extent_at ls f fs l (place_of x (first_number l) l.variables)

-- the same of variable x of the tree, if it is one of the frame's
abbrev pub extent_in : List Layout → Frame → List Frame → Home → ℕ → Option ℕ
extent_in ls f fs (OfBlock b) x = extent_of_layout ls f fs x (layout_of ls b)
extent_in ls f fs (OfIndex y) x = if x == y then Some 1 else None

-- here, or further outward
abbrev pub or_further : Option ℕ → Option ℕ → Option ℕ
or_further (Some n) o = Some n
or_further None o = o

-- outward from the first of these frames: no more than n levels
abbrev pub extent_from : List Layout → ℕ → List Frame → ℕ → Option ℕ
extent_from ls zero fs x = None
extent_from ls (suc n) [] x = None
extent_from ls (suc n) (f ∷ fs) x = or_further (extent_in ls f fs f.home x) (extent_from ls n (last_frames f.link fs) x)

-- how many cells the entire variable has for which variable x of the tree stands
abbrev pub extent : List Layout → List Frame → ℕ → Option ℕ
extent ls fs x = if nat_lt x 2 then Some 1 else extent_from ls (length fs) fs x

-- a process holds the whole of variable x: a piece is held where it stands, of its cells, and the newest frame of that
-- number is the variable's
pub record HasWhole {S : Type 0} (stores : Stores S) (ls : List Layout) (n : Memory S) (x : ℕ) : Type 0 where
  pub spot : Spot
  pub cells : List Cell
  pub stands : spot_of ls n.frames x ≡ Some spot
  pub piece : stores.piece n.store spot ≡ Some cells
  pub whole : extent ls n.frames x ≡ Some (length cells)
  pub known : size_in ls n.frames spot ≡ Some (length cells)
