-- None of this belongs to what the program promises: it is for contracts between crates.
-- Homes as a tree: each node has a frame, the node around it, and a jump to a node farther out. A node stands for its
-- frame and all those around it, the innermost first.
use Rattle.std.specs.Prelude.{◌≡◌, ℕ, ◌<◌, ◌≤◌, ◌==◌, if◌then◌else◌, List, [], ◌∷◌, Option, Some, None, drop}
use Rattle.std.specs.Prelude.{slice_get, length}
use Rattle.sp_code.specs.declared.code.Layout.{Layout}
use Rattle.sp_code.specs.Machine.{layout_of}
use Rattle.sp_code.specs.Memory.{Home, OfBlock, OfIndex}
use Rattle.sp_verify_areas.specs.declared.tree.Frame.{Frame}
use Rattle.sp_verify_areas.specs.declared.tree.Frame.TheVariants as frame
use Rattle.sp_verify_areas.specs.declared.tree.Jump.{Jump}
use Rattle.sp_verify_areas.specs.declared.tree.Node.{Node}

abbrev pub home_of : Frame → Home
home_of (frame.Block b place) = OfBlock b
home_of (frame.Index x) = OfIndex x

abbrev pub home_at : Option Frame → Option Home
home_at None = None
home_at (Some f) = Some (home_of f)

-- a block's frame names the place of its first layout
abbrev pub IsFrame : List Layout → Frame → Type 0
IsFrame ls (frame.Block b place) = slice_get ls place ≡ layout_of ls b
IsFrame ls (frame.Index x) = Unit {0}

-- what the node around stands for, if there is one
abbrev pub around_list : (ℕ → List Home) → Option ℕ → List Home
around_list lists None = []
around_list lists (Some n) = lists n

-- the node around is one of so many
abbrev pub IsAround : ℕ → Option ℕ → Type 0
IsAround size None = Unit {0}
IsAround size (Some n) = n < size

-- a jump from a list of homes leads to the node, of so many, that stands for what is left behind so many of them
pub record IsJump (lists : ℕ → List Home) (size : ℕ) (hs : List Home) (j : Jump) : Type 0 where
  pub within : j.to < size
  pub lands : drop j.far hs ≡ lists j.to

-- one of so many nodes stands for this list
pub record IsNode (ls : List Layout) (lists : ℕ → List Home) (size : ℕ) (hs : List Home) (n : Node) : Type 0 where
  pub frame : IsFrame ls n.frame
  pub around : IsAround size n.around
  pub stands : hs ≡ home_of n.frame ∷ around_list lists n.around
  pub jump : IsJump lists size hs n.jump
  pub short : length hs ≤ size

-- these are the lists for which the nodes stand
abbrev pub AreLists : List Layout → List Node → (ℕ → List Home) → Type 0
AreLists ls ns lists = (k : ℕ) (n : Node) → slice_get ns k ≡ Some n → IsNode ls lists (length ns) (lists k) n

-- the lists with one more
abbrev pub with_list : (ℕ → List Home) → ℕ → List Home → ℕ → List Home
with_list lists size hs k = if k == size then hs else lists k

-- this is the frame of a home, if there is one
pub record IsFrameOfHome (ls : List Layout) (h : Option Home) (o : Option Frame) : Type 0 where
  pub home_is : home_at o ≡ h
  pub frame : (f : Frame) → o ≡ Some f → IsFrame ls f
