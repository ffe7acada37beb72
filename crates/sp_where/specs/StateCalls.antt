-- All of this belongs to what the program promises (docs/promise.txt).
-- The live calls of a process as `where` writes them, the innermost first: the block that is called and the place of
-- the call, and under each its variables. Behind them stand the frames of ancestors of which something moved to the
-- process.
use Rattle.std.specs.Prelude.{ℕ, ◌-◌, ◌==◌, nat_le, ◌&&◌, not, List, [], ◌∷◌, ◌++◌, Option, Bool, true}
use Rattle.std.specs.Prelude.{false, if◌then◌else◌, slice_get, drop, filter, codes, length}
use Rattle.std.specs.List.{list_any}
use Rattle.std.specs.Option.{option_map_or}
use Rattle.sp_cell.specs.declared.spot.Spot.{Spot}
use Rattle.sp_cell.specs.Map.{Plain}
use Rattle.sp_code.specs.declared.code.Layout.{Layout}
use Rattle.sp_code.specs.Machine.{layout_of}
use Rattle.sp_code.specs.Memory.{Home, OfBlock, OfIndex, Frame}
use Rattle.sp_base.specs.Places.{place_text}
use Rattle.sp_where.specs.Places.{part_at}
use Rattle.sp_where.specs.StateVariables.{Known, first_variable, own_variables, moved_variables}

-- what a frame is of: a block, or the index of a `forall`
abbrev pub home_text : Known → Home → List ℕ
home_text w (OfBlock b) = codes "  " ++ option_map_or (λ b. b.name) (slice_get w.tree.blocks b) []
home_text w (OfIndex x) = codes "  forall"

-- the place of the call that returns first of these: its instruction stands before the one at which it returns
abbrev pub call_place : Known → List ℕ → List ℕ
call_place w [] = []
call_place w (r ∷ rs) = codes " " ++ place_text (part_at w.marks (r - 1))

-- every block but the program is called
abbrev pub is_called : Home → Bool
is_called (OfBlock b) = not (b == 0)
is_called (OfIndex x) = false

abbrev pub has_variables : Option Layout → Bool
has_variables l = option_map_or (λ l. not (length l.variables == 0)) l false

-- a call and an index are always shown, the program's frame if the program has variables
abbrev pub is_shown : Known → Home → Bool
is_shown w (OfBlock b) = if b == 0 then has_variables (layout_of w.code.layouts b) else true
is_shown w (OfIndex x) = true

abbrev pub shown_frame : Known → Plain → List ℕ → Frame → List ℕ
shown_frame w m rs f = home_text w f.home ++ (if is_called f.home then call_place w rs else []) ++ codes "\n"
    ++ own_variables w m f f.home

-- a process's own frame; the calls return to rs
abbrev pub own_frame : Known → Plain → List ℕ → Frame → List ℕ
own_frame w m rs f = if is_shown w f.home then shown_frame w m rs f else []

-- where the calls return that stand below a frame
abbrev pub returns_below : List ℕ → Home → List ℕ
returns_below rs h = if is_called h then drop 1 rs else rs

-- a variable of this frame stands at the spot
abbrev pub is_of : Frame → Spot → Bool
is_of f s = (s.frame == f.number) && nat_le (first_variable f.home) s.variable

-- a frame of an ancestor, if something of it moved to the process
abbrev pub moved_frame : Known → Plain → List Spot → Frame → List ℕ
moved_frame w m ss f = if list_any (is_of f) ss then
    home_text w f.home ++ codes "\n" ++ moved_variables w m ss f f.home else []

-- what moved to the process but for what is of this frame. A frame further out may have the same number: nothing of it
-- moved to the process, since who made the newer frame did not know the older one
abbrev pub but_of : Frame → List Spot → List Spot
but_of f ss = filter (λ s. not (is_of f s)) ss

-- the frames of the ancestors; ss moved from them
abbrev pub moved_frames : Known → Plain → List Spot → List Frame → List ℕ
moved_frames w m ss [] = []
moved_frames w m ss (f ∷ fs) = moved_frame w m ss f ++ moved_frames w m (but_of f ss) fs

-- the frames of process q: its own, and then those of its ancestors
abbrev pub frames_text : Known → (q : ℕ) → Plain → List ℕ → List Frame → List ℕ
frames_text w q m rs [] = []
frames_text w q m rs (f ∷ fs) = if f.owner == q then
    own_frame w m rs f ++ frames_text w q m (returns_below rs f.home) fs else moved_frames w m m.moved (f ∷ fs)
