-- Some of this belongs to what the program promises (docs/promise.txt).
-- What is known of a process of verified code at an instruction: its operands have the shapes that some way brings
-- there, its frames are those of the area, and below its operands lie those of its callers. Nothing of it speaks of the
-- store.
use Rattle.std.specs.Prelude.{◌≡◌, ◌⊎◌, ℕ, ◌+◌, ◌≤◌, ◌==◌, List, [], ◌∷◌, Option, Some, None, Bool, true, false, length}
use Rattle.std.specs.Prelude.{slice_get}
use Rattle.sp_tree.specs.Interference.{IsMember}
use Rattle.sp_cell.specs.declared.spot.Address.{Address}
use Rattle.sp_code.specs.declared.instr.Instr.TheVariants as i
use Rattle.sp_code.specs.declared.code.Formal.TheVariants as formal
use Rattle.sp_code.specs.declared.code.Layout.{Layout}
use Rattle.sp_code.specs.declared.code.ForkTable.{ForkTable}
use Rattle.sp_code.specs.declared.code.Parts.{Parts}
use Rattle.sp_code.specs.Machine.{Entry, Number, Chan, Pointer, Cells, Link, Reply, Stop, Forks, Opens, Sends, Receives}
use Rattle.sp_code.specs.Machine.{Ends, Pauses, Config, At, layout_of}
use Rattle.sp_code.specs.Memory.{Home, OfBlock, OfIndex, Frame, Memory, last_frames, reference_target}
use Rattle.sp_code.specs.System.{spot_of}
use Rattle.sp_verify_rules.specs.Areas.{Area, Body, Child, homes, instr_at}
use Rattle.sp_verify_rules.specs.Shapes.{Shape, O, C, L, A, with_answer}
use Rattle.sp_verify_rules.specs.Reach.{IsArea, Reaches}
use Rattle.sp_verify_rules.specs.Extents.{extent, size_in}
use Rattle.sp_verify_rules.specs.Touches.{stored_by}

-- ---- operands

-- an address stands in variable x, with so many cells left from there on
pub record Points (ls : List Layout) (fs : List Frame) (x left : ℕ) (p : Address) : Type 0 where
  pub real : 2 ≤ x
  pub stands : spot_of ls fs x ≡ Some p.spot
  pub size : ℕ
  pub whole : extent ls fs x ≡ Some size
  pub fits : p.offset + left ≤ size
  pub small : size ≤ 4294967295

-- an entry is of a shape
abbrev pub HasShape : List Layout → List Frame → Shape → Entry → Type 0
HasShape ls fs O (Number v) = Unit {0}
HasShape ls fs C (Chan ch) = Unit {0}
HasShape ls fs (L n) (Cells cs) = length cs ≡ n
HasShape ls fs (A x n) (Pointer p) = Points ls fs x n p
HasShape ls fs s e = ⊥

-- the topmost entries are of these shapes, and what lies below them is the rest
abbrev pub Operands : List Layout → List Frame → List Shape → List Entry → List Entry → Type 0
Operands ls fs [] st rest = st ≡ rest
Operands ls fs (s ∷ ss) [] rest = ⊥
Operands ls fs (s ∷ ss) (e ∷ st) rest = HasShape ls fs s e × Operands ls fs ss st rest

-- ---- frames

-- what a variable parameter of so many cells stands for has them: it lies in the frames below
pub record Refers (ls : List Layout) (fs : List Frame) (o : Option Address) (cells : ℕ) : Type 0 where
  pub address : Address
  pub address_is : o ≡ Some address
  pub size : ℕ
  pub whole : size_in ls fs address.spot ≡ Some size
  pub fits : address.offset + cells ≤ size
  pub small : size ≤ 4294967295

-- each variable parameter of a frame stands for something
abbrev pub RefersWell : List Layout → Frame → List Frame → Home → Type 0
RefersWell ls f fs (OfIndex x) = Unit {0}
RefersWell ls f fs (OfBlock b) =
    (l : Layout) → layout_of ls b ≡ Some l → (k n : ℕ) → slice_get l.formals k ≡ Some (formal.Reference n)
    → Refers ls fs (reference_target k f.references) n

-- the frames of a process are those of these blocks and indices, outward along the links from the newest, and no others
abbrev pub Framed : List Layout → List Home → List Frame → Type 0
Framed ls [] [] = Unit {0}
Framed ls [] (f ∷ fs) = ⊥
Framed ls (h ∷ hs) [] = ⊥
Framed ls (h ∷ hs) (f ∷ fs) = (f.home ≡ h) × (f.link ≤ length fs) × RefersWell ls f fs h
    × Framed ls hs (last_frames f.link fs)

-- ---- callers

-- a caller: its area, where it goes on, and the shapes of its operands below the answer
pub record Caller : Type 0 where
  pub area : Area
  pub position : ℕ
  pub shapes : List Shape

-- where a caller goes on, as it lies on the stack
abbrev pub link_of : Bool → ℕ → Entry
link_of true r = Reply r
link_of false r = Link r

-- the program, or a child, has no caller
abbrev pub IsBottom : Area → Type 0
IsBottom (Body b) = b ≡ 0
IsBottom (Child a p k) = Unit {0}

module _ (c : Parts) where
  -- the area is that of a called block, and below its operands it has the link to this caller, which has these frames
  pub record LiesOnCaller (k : Caller) (a : Area) (fs : List Frame) (st : List Entry) : Type 0 where
    pub block : ℕ
    pub layout : Layout
    pub below_link : List Entry
    pub rest : List Entry
    pub is_body : a ≡ Body block
    pub not_program : (block == 0) ≡ false
    pub layout_is : layout_of c.layouts block ≡ Some layout
    pub link_is : st ≡ link_of layout.answer k.position ∷ below_link
    pub there : IsArea c k.area
    pub reached : Reaches c k.area k.position (with_answer layout.answer k.shapes)
    pub framed : Framed c.layouts (homes c k.area) fs
    pub operands : Operands c.layouts fs k.shapes below_link rest

  -- what lies below the operands of an area with these frames, by the callers, the newest first
  abbrev pub Under : List Caller → Area → List Frame → List Entry → Type 0
  Under [] a fs st = (st ≡ []) × IsBottom a
  Under (k ∷ ks) a [] st = ⊥
  Under (k ∷ ks) a (f ∷ fs) st = (h : LiesOnCaller k a fs st) × Under ks k.area fs h.rest

  -- a process stands at p with this stack and these frames
  pub record ProcessAt (p : ℕ) (st : List Entry) (fs : List Frame) : Type 0 where
    pub area : Area
    pub shapes : List Shape
    pub callers : List Caller
    pub rest : List Entry
    pub there : IsArea c area
    pub reached : Reaches c area p shapes
    pub framed : Framed c.layouts (homes c area) fs
    pub operands : Operands c.layouts fs shapes st rest
    pub under : Under callers area fs rest

  -- a process stands
  abbrev pub ProcessStands : {S : Type 0} → Config (Memory S) → Type 0
  ProcessStands (At p st n) = ProcessAt p st n.frames

  -- ---- at a stop

  -- how many cells the topmost operand is, as a message
  abbrev pub message_cells : List Shape → Option ℕ
  message_cells [] = None
  message_cells (O ∷ ss) = Some 1
  message_cells (C ∷ ss) = Some 1
  message_cells (L n ∷ ss) = Some n
  message_cells (A x n ∷ ss) = None

  -- the cells left of the topmost address
  abbrev pub cells_left : List Shape → Option ℕ
  cells_left (A x n ∷ ss) = Some n
  cells_left _ = None

  -- somewhere a message of this type has so many cells, and somewhere one is received where so many are left
  pub record IsSent (k n : ℕ) : Type 0 where
    pub area : Area
    pub position : ℕ
    pub shapes : List Shape
    pub there : IsArea c area
    pub reached : Reaches c area position shapes
    pub instruction_is : instr_at c position ≡ Some (i.Send k)
    pub cells : message_cells shapes ≡ Some n

  pub record IsReceived (k n : ℕ) : Type 0 where
    pub area : Area
    pub position : ℕ
    pub shapes : List Shape
    pub there : IsArea c area
    pub reached : Reaches c area position shapes
    pub instruction_is : instr_at c position ≡ Some (i.Receive k)
    pub cells : cells_left shapes ≡ Some n

  -- the fork or forall at p makes so many children of this table
  abbrev pub ForksAt : ℕ → ℕ → ℕ → Type 0
  ForksAt p t n = ((tb : ForkTable) × (instr_at c p ≡ Some (i.Fork t)) × (slice_get c.forks t ≡ Some tb)
      × (n ≡ length tb.children)) ⊎ (instr_at c p ≡ Some (i.Forall t))

  -- what is known of a stop of the area at p, with these shapes there, these frames and callers: an address is that of
  -- a variable which the instruction stores
  abbrev pub StopsSo : Stop → Area → ℕ → List Shape → List Frame → List Caller → Type 0
  StopsSo (Forks t v n) a p ss fs ks = ForksAt p t n
  StopsSo (Opens q) a p ss fs ks = (x : ℕ) × (n : ℕ) × Points c.layouts fs x n q × (1 ≤ n)
      × IsMember x (stored_by c a (instr_at c p) ss)
  StopsSo (Sends ch k cs) a p ss fs ks = IsSent k (length cs)
  StopsSo (Receives ch k q) a p ss fs ks = (x : ℕ) × (n : ℕ) × Points c.layouts fs x n q × IsReceived k n
      × IsMember x (stored_by c a (instr_at c p) ss)
  StopsSo Ends a p ss fs ks = (ks ≡ []) × IsBottom a
  StopsSo Pauses a p ss fs ks = Unit {0}

  -- a process that stopped stands where it will go on; at p it stopped so, with these shapes there. One that ended goes
  -- on no more
  pub record StoppedAt (stop : Stop) (q : ℕ) (st : List Entry) (fs : List Frame) : Type 0 where
    pub area : Area
    pub position : ℕ
    pub shapes : List Shape
    pub callers : List Caller
    pub there : IsArea c area
    pub reached : Reaches c area position shapes
    pub so : StopsSo stop area position shapes fs callers
