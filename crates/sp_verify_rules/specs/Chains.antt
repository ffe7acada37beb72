-- None of this belongs to what the program promises: it is for contracts between crates.
-- Frames along their links, as an area has the blocks and indices around it. Where a variable stands is told by them.
use Rattle.std.specs.Prelude.{◌≡◌, ◌≤◌, ℕ, List, [], ◌∷◌, ◌++◌, length, Option, Some, None}
use Rattle.sp_cell.specs.declared.spot.Spot.{Spot}
use Rattle.sp_code.specs.declared.code.Layout.{Layout}
use Rattle.sp_code.specs.Machine.{layout_of}
use Rattle.sp_code.specs.Memory.{Home, OfBlock, OfIndex, Frame, last_frames}
use Rattle.sp_code.specs.System.{spot_in, or_outward}
use Rattle.sp_verify_rules.specs.Extents.{extent_in, or_further}

-- outward along the links the frames are of these homes, and no further one is there
abbrev pub Chain : List Home → List Frame → Type 0
Chain [] [] = Unit {0}
Chain [] (f ∷ fs) = ⊥
Chain (h ∷ hs) [] = ⊥
Chain (h ∷ hs) (f ∷ fs) = (f.home ≡ h) × (f.link ≤ length fs) × Chain hs (last_frames f.link fs)

abbrev pub variables_of : Option Layout → List ℕ
variables_of None = []
variables_of (Some l) = l.variables

-- the variables of a frame
abbrev pub variables_in : List Layout → Home → List ℕ
variables_in ls (OfBlock b) = variables_of (layout_of ls b)
variables_in ls (OfIndex x) = x ∷ []

-- those of all frames
abbrev pub all_variables : List Layout → List Home → List ℕ
all_variables ls [] = []
all_variables ls (h ∷ hs) = variables_in ls h ++ all_variables ls hs

-- what the first frame that has it says, outward along the links
abbrev pub first_along_links : {X : Type 0} → (Option X → Option X → Option X) → (Frame → List Frame → Home → Option X)
    → List Home
    → List Frame → Option X
first_along_links or at [] fs = None
first_along_links or at (h ∷ hs) [] = None
first_along_links or at (h ∷ hs) (f ∷ fs) = or (at f fs h) (first_along_links or at hs (last_frames f.link fs))

-- where a variable stands
abbrev pub spot_by_homes : List Layout → List Home → List Frame → ℕ → Option Spot
spot_by_homes ls hs fs x = first_along_links or_outward (λ f gs h. spot_in ls f h x) hs fs

-- how many cells it has
abbrev pub extent_by_homes : List Layout → List Home → List Frame → ℕ → Option ℕ
extent_by_homes ls hs fs x = first_along_links or_further (λ f gs h. extent_in ls f gs h x) hs fs
