-- None of this belongs to what the program promises: it is for contracts between crates.
-- Where a process of verified code writes: what an activation may store stands in frames that the process made, or
-- moved to it. It is what V6 is for, and it says nothing of the store.
use Rattle.std.specs.Prelude.{◌≡◌, ◌⊎◌, ℕ, List, [], ◌∷◌, Option, Some, None}
use Rattle.sp_tree.specs.Interference.{IsMember}
use Rattle.sp_cell.specs.declared.spot.Spot.{Spot}
use Rattle.sp_cell.specs.Map.{Plain}
use Rattle.sp_cell.specs.Spots.{In}
use Rattle.sp_code.specs.declared.code.ChildTable.{ChildTable}
use Rattle.sp_code.specs.declared.code.Parts.{Parts}
use Rattle.sp_code.specs.Machine.{layout_of}
use Rattle.sp_code.specs.Memory.{Frame, Memory}
use Rattle.sp_code.specs.Sound.{identity, means}
use Rattle.sp_code.specs.System.{spot_of}
use Rattle.sp_verify_rules.specs.Areas.{Area, Body, Child, child_at}
use Rattle.sp_verify_rules.specs.Chains.{variables_of}
use Rattle.sp_verify_rules.specs.Effects.{Stored, IsEffect, Does}

-- x moves to a child of this table
abbrev pub MovesTo : Option ChildTable → ℕ → Type 0
MovesTo None x = ⊥
MovesTo (Some t) x = IsMember x t.moved

-- the frame of the spot is one that process r made, or the spot moved to it, as these did
abbrev pub IsWritable : (r : ℕ) → List Spot → List Frame → Spot → Type 0
IsWritable r ss fs s = (means fs s.frame ≡ identity r s.frame) ⊎ In s ss

module _ (c : Parts) where
  -- what an activation of an area may store: what a block stores, and its own variables; what moves to a child
  abbrev pub MayStore : Area → ℕ → Type 0
  MayStore (Body b) x = IsEffect c (Does c) Stored (Body b) x ⊎ IsMember x (variables_of (layout_of c.layouts b))
  MayStore (Child a p k) x = MovesTo (child_at c p k) x

  module _ (r : ℕ) (ss : List Spot) where
    -- an activation of the area with these frames
    abbrev pub WritesWithin : Area → List Frame → Type 0
    WritesWithin a fs = (x : ℕ) (s : Spot) → MayStore a x → spot_of c.layouts fs x ≡ Some s → IsWritable r ss fs s

    -- all activations, the newest first, each with its frame on those below
    abbrev pub AllWriteWithin : List Area → List Frame → Type 0
    AllWriteWithin [] fs = ⊥
    AllWriteWithin (a ∷ []) fs = WritesWithin a fs
    AllWriteWithin (a ∷ b ∷ us) [] = ⊥
    AllWriteWithin (a ∷ b ∷ us) (f ∷ fs) = WritesWithin a (f ∷ fs) × AllWriteWithin (b ∷ us) fs

  -- those of a process
  abbrev pub MayWrite : List Area → Memory Plain → Type 0
  MayWrite us n = AllWriteWithin n.process n.store.moved us n.frames
