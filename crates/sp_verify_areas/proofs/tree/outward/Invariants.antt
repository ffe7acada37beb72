use Rattle.std.proofs.Common.{◌≡◌, ℕ, ◌<◌, List, length, drop}
use Rattle.sp_code.specs.declared.code.Layout.{Layout}
use Rattle.sp_code.specs.Memory.{Home}
use Rattle.sp_verify_areas.specs.Tree.{AreLists}
use Rattle.sp_verify_areas.proofs.tree.outward.Given as goal

-- from the node that was reached, what is left of the levels leads to the same
abbrev pub invariant-levels : goal.invariant-levels
invariant-levels l = (ls : List Layout) (lists : ℕ → List Home) → AreLists ls l.tree lists → l.node < length l.tree
    → (l.at < length l.tree) × (drop l.up (lists l.node) ≡ drop l.left (lists l.at))

abbrev pub decreases-levels : goal.decreases-levels
decreases-levels l = l.left
