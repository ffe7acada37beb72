-- None of this belongs to what the program promises: it is for contracts between crates.
-- What a part declares stands in the tables of the program from the next numbers on. The induction over the
-- declarations keeps it, from the innermost block outward.
use Rattle.std.specs.Prelude.{◌≡◌, ℕ, suc, ◌≤◌, List, [], ◌∷◌, Some, slice_get}
use Rattle.sp_tree.specs.PlainNamed as n
use Rattle.sp_tree.specs.Plain.{Program, Block}
use Rattle.sp_code.specs.Scopes.{scopes_of}
use Rattle.sp_types.specs.Tables.{answer_variable}
use Rattle.sp_front.specs.ScopeFacts.{InStatement}

module _ (p : Program) (constants : ℕ) where
  -- these blocks stand in the program from a number on
  abbrev pub HoldsBlocks : ℕ → List n.Block → Type 0
  HoldsBlocks k [] = Unit {0}
  HoldsBlocks k (b ∷ bs) = ((c : Block) × (slice_get p.blocks k ≡ Some c) × (c.parent ≡ b.parent)
      × (c.formals ≡ b.formals) × (c.answer ≡ answer_variable b.answer)) × HoldsBlocks (suc k) bs

  -- each name in the blocks from a number on is of a visible declaration
  abbrev pub AreScoped : ℕ → List n.Block → Type 0
  AreScoped k [] = Unit {0}
  AreScoped k (b ∷ bs) = InStatement p constants (scopes_of p k) b.body × AreScoped (suc k) bs

-- a block stands in one with a lower number
abbrev pub AreBelow : ℕ → List n.Block → Type 0
AreBelow k [] = Unit {0}
AreBelow k (b ∷ bs) = ((q : ℕ) → b.parent ≡ Some q → suc q ≤ k) × AreBelow (suc k) bs
