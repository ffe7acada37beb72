-- None of this belongs to what the program promises: it is for contracts between crates.
-- The ways on which effects go from area to area: from a child to the area that starts it, and from a block to one that
-- calls it.
use Rattle.std.specs.Prelude.{◌≡◌, ◌⊎◌, ℕ, ◌-◌, ◌<◌, List, Bool, Option, Some, None, true, length, slice_get}
use Rattle.sp_code.specs.declared.code.ChildTable.{ChildTable}
use Rattle.sp_code.specs.declared.code.Formal.{Formal}
use Rattle.sp_code.specs.declared.code.Formal.TheVariants as formal
use Rattle.sp_code.specs.declared.code.Layout.{Layout}
use Rattle.sp_code.specs.declared.code.Parts.{Parts}
use Rattle.sp_verify_rules.specs.Areas.{Area, child_at, entry}
use Rattle.sp_verify_rules.specs.Shapes.{Shape, A}
use Rattle.sp_verify_rules.specs.Reach.{IsArea}
use Rattle.sp_verify_rules.specs.Effects.{IsNumber, IsActual, IsStarted, IsCalled}
use Rattle.sp_verify_areas.specs.Alone.{flag_at}
use Rattle.sp_verify_effects.specs.declared.edges.Edge.{Edge}
use Rattle.sp_verify_effects.specs.declared.edges.Edge.TheVariants as edge
use Rattle.sp_verify_effects.specs.Acts.{AreActs}

-- among the edges of an area
abbrev pub InRow : List Edge → Edge → Type 0
InRow r e = (i : ℕ) × (slice_get r i ≡ Some e)

-- among those of the area with this first instruction
abbrev pub HasEdge : List (List Edge) → ℕ → Edge → Type 0
HasEdge rows m e = (r : List Edge) × (slice_get rows m ≡ Some r) × InRow r e

-- one edge is among those of the row, and no other new one
pub record PutsEdge (old new : List Edge) (e : Edge) : Type 0 where
  pub kept : (g : Edge) → InRow old g → InRow new g
  pub has : InRow new e
  pub only : (g : Edge) → InRow new g → InRow old g ⊎ (g ≡ e)

-- these edges are added, and no others
pub record Links (old new : List (List Edge)) (W : ℕ → Edge → Type 0) : Type 0 where
  pub size : length new ≡ length old
  pub kept : (m : ℕ) (e : Edge) → HasEdge old m e → HasEdge new m e
  pub has : (m : ℕ) (e : Edge) → W m e → HasEdge new m e
  pub only : (m : ℕ) (e : Edge) → HasEdge new m e → HasEdge old m e ⊎ W m e

-- the edge of a variable, a formal and an operand, if that is the address of its actual variable
abbrev pub passed_by : ℕ → Option ℕ → Option Formal → Shape → Option Edge
passed_by n (Some y) (Some (formal.Reference k)) (A x left) = Some (edge.Passed n y x)
passed_by n v f s = None

-- the formal of the operand so deep
abbrev pub formal_at : Layout → ℕ → ℕ
formal_at l d = length l.formals - 1 - d

-- the edge of that operand
abbrev pub deep_edge : Layout → ℕ → ℕ → Shape → Option Edge
deep_edge l n d s = passed_by n (slice_get l.variables (formal_at l d)) (slice_get l.formals (formal_at l d)) s

abbrev pub IsDeep : Layout → ℕ → List Shape → ℕ → Edge → Type 0
IsDeep l n ss d e = (s : Shape) × (slice_get ss d ≡ Some s) × (deep_edge l n d s ≡ Some e)

-- of those of the first so many operands
abbrev pub IsDeeper : Layout → ℕ → List Shape → ℕ → ℕ → Edge → Type 0
IsDeeper l n ss j m e = (m ≡ l.entry) × ((d : ℕ) × (d < j) × IsDeep l n ss d e)

-- the edge of a formal and its actual variable
abbrev pub IsPassed : Layout → ℕ → List Shape → Edge → Type 0
IsPassed l n ss e = (k y x : ℕ) × IsNumber l k y × IsActual l ss k x × (e ≡ edge.Passed n y x)

-- those of a call; those of formals only where the flag is set, which says that the block does something
abbrev pub IsCall : Bool → Layout → ℕ → List Shape → ℕ → Edge → Type 0
IsCall flag l n ss m e = (m ≡ l.entry) × ((e ≡ edge.Called n) ⊎ ((flag ≡ true) × IsPassed l n ss e))

-- that of a child
abbrev pub IsStart : ChildTable → ℕ → ℕ → Edge → Type 0
IsStart t n m e = (m ≡ t.entry) × (e ≡ edge.Started n t.index)

abbrev pub OneStarts : List ChildTable → ℕ → ℕ → ℕ → Edge → Type 0
OneStarts ts n j m e = (k : ℕ) × (t : ChildTable) × (k < j) × (slice_get ts k ≡ Some t) × IsStart t n m e

module _ (c : Parts) where
  -- that of a child that starts at p
  abbrev pub StartedAt : ℕ → ℕ → Edge → Type 0
  StartedAt p m e = (a : Area) × (k : ℕ) × (t : ChildTable) × IsArea c a × IsStarted c a p k t
      × IsStart t (entry c a) m e

  -- the children that start at p begin within so many instructions
  abbrev pub StartWithin : ℕ → ℕ → Type 0
  StartWithin p n = (k : ℕ) (t : ChildTable) → child_at c p k ≡ Some t → t.entry < n

  module _ (acts : List Bool) where
    -- those of a call at p, and of a fork or forall there
    abbrev pub CalledAt : ℕ → ℕ → Edge → Type 0
    CalledAt p m e = (a : Area) × (f up : ℕ) × (ss : List Shape) × (l : Layout) × IsArea c a × IsCalled c a p f up ss l
        × IsCall (flag_at acts l.entry) l (entry c a) ss m e

    abbrev pub EdgeAt : ℕ → ℕ → Edge → Type 0
    EdgeAt p m e = CalledAt p m e ⊎ StartedAt p m e

    -- those of the first so many instructions, and no others
    pub record HasEdges (n : ℕ) (rows : List (List Edge)) : Type 0 where
      pub size : length rows ≡ length c.instrs
      pub has : (p m : ℕ) (e : Edge) → p < n → EdgeAt p m e → HasEdge rows m e
      pub only : (m : ℕ) (e : Edge) → HasEdge rows m e → (p : ℕ) × EdgeAt p m e

  -- all of them, by the first instructions of the areas from which they lead; those of formals only from blocks that do
  -- something, by their flags
  abbrev pub AreEdges : List (List Edge) → Type 0
  AreEdges rows = (acts : List Bool) × AreActs c acts × HasEdges acts (length c.instrs) rows
