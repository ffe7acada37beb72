-- All of this belongs to what the program promises (docs/promise.txt).
-- Ways through the code of an area: which instructions it has, and which shapes of operands some way brings to one.
-- `Reaches` takes all ways, `Arrives` those of at most so many instructions that go on only from instructions at which
-- V2 is kept.
use Rattle.std.specs.Prelude.{◌≡◌, ◌≢◌, ◌⊎◌, ℕ, zero, suc, ◌+◌, List, [], ◌∷◌, Option, Some, None}
pub use Rattle.sp_tree.specs.Interference.{IsMember}
use Rattle.sp_code.specs.declared.instr.Instr.{Instr}
use Rattle.sp_code.specs.declared.instr.Instr.TheVariants as i
use Rattle.sp_code.specs.declared.code.ChildTable.{ChildTable}
use Rattle.sp_code.specs.declared.code.Layout.{Layout}
use Rattle.sp_code.specs.declared.code.Parts.{Parts}
use Rattle.sp_code.specs.Machine.{layout_of}
use Rattle.sp_verify_rules.specs.Areas.{Area, Body, Child, instr_at, child_at, entry}
use Rattle.sp_verify_rules.specs.Shapes.{Shape, Shaped, Wrong, To, instr_shapes}

-- the instructions to which one goes by a jump or by going on. `nocase` counts as going on, by what it takes and leaves
abbrev pub nexts : ℕ → Option Instr → List ℕ
nexts p None = []
nexts p (Some (i.Jump to)) = to ∷ []
nexts p (Some (i.Jumpf to)) = (p + 1) ∷ to ∷ []
nexts p (Some (i.Casej v to)) = (p + 1) ∷ to ∷ []
nexts p (Some (i.Forup var to)) = (p + 1) ∷ to ∷ []
nexts p (Some (i.Fordown var to)) = (p + 1) ∷ to ∷ []
nexts p (Some (i.Nextup var to)) = to ∷ (p + 1) ∷ []
nexts p (Some (i.Nextdown var to)) = to ∷ (p + 1) ∷ []
nexts p (Some i.Return) = []
nexts p (Some i.End) = []
nexts p _ = (p + 1) ∷ []

-- these shapes are brought there
abbrev pub IsBrought : ℕ → List Shape → List (ℕ × List Shape) → Type 0
IsBrought q ts [] = ⊥
IsBrought q ts (w ∷ ws) = ((q ≡ w.0) × (ts ≡ w.1)) ⊎ IsBrought q ts ws

-- an instruction leads there with these shapes
abbrev pub LeadsWith : Shaped → ℕ → List Shape → Type 0
LeadsWith Wrong q ts = ⊥
LeadsWith (To ws) q ts = IsBrought q ts ws

module _ (c : Parts) where
  -- n steps lead from an instruction to another
  abbrev pub LeadsInSteps : ℕ → ℕ → ℕ → Type 0
  LeadsInSteps zero p q = p ≡ q
  LeadsInSteps (suc n) p q = (r : ℕ) × IsMember r (nexts p (instr_at c p)) × LeadsInSteps n r q

  -- an instruction is in the code of an area
  pub record IsInCodeOf (a : Area) (p : ℕ) : Type 0 where
    pub steps : ℕ
    pub way : LeadsInSteps steps (entry c a) p

  -- an area is there: its block has a layout, or its fork is in an area that is there, with that child
  abbrev pub IsArea : Area → Type 0
  IsArea (Body b) = (l : Layout) × (layout_of c.layouts b ≡ Some l)
  IsArea (Child a p k) = IsArea a × IsInCodeOf a p × ((t : ChildTable) × (child_at c p k ≡ Some t))

  module _ (a : Area) where
    -- a way of n instructions brings these shapes to an instruction
    abbrev pub BringsShapes : ℕ → ℕ → List Shape → Type 0
    BringsShapes zero p ss = (p ≡ entry c a) × (ss ≡ [])
    BringsShapes (suc n) q ts = (p : ℕ) × (ss : List Shape) × BringsShapes n p ss
        × LeadsWith (instr_shapes c a (instr_at c p) p ss) q ts

    -- some way brings them
    pub record Reaches (p : ℕ) (ss : List Shape) : Type 0 where
      pub steps : ℕ
      pub way : BringsShapes steps p ss

    -- an instruction is whole, where these shapes are brought: no two differ, and it takes what it needs of them
    abbrev pub IsWhole : (ℕ → List Shape → Type 0) → ℕ → Type 0
    IsWhole Brought p = ((ss ts : List Shape) → Brought p ss → Brought p ts → ss ≡ ts)
        × ((ss : List Shape) → Brought p ss → instr_shapes c a (instr_at c p) p ss ≢ Wrong)

    -- a way of at most n instructions brings these shapes, and goes on from an instruction only while all such ways
    -- leave it whole
    abbrev pub Arrives : ℕ → ℕ → List Shape → Type 0
    Arrives zero p ss = (p ≡ entry c a) × (ss ≡ [])
    Arrives (suc n) q ts = Arrives n q ts
        ⊎ ((p : ℕ) × (ss : List Shape) × Arrives n p ss × IsWhole (Arrives n) p
        × LeadsWith (instr_shapes c a (instr_at c p) p ss) q ts)
