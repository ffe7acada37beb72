-- None of this belongs to what the program promises: it is for contracts between crates.
-- Operands of calls whose edges are there: of a block, an area that calls it, and a list of shapes that so many
-- operands of the call are above.
use Rattle.std.specs.Prelude.{◌≡◌, ℕ, ◌+◌, ◌<◌, List, Bool, Some, true, length, slice_get}
use Rattle.std.specs.declared.cmp.Ordering.{Ordering}
use Rattle.std.specs.Ordering.{ordering_then}
use Rattle.std.specs.BTreeSet.{BTreeSet, contains}
use Rattle.sp_code.specs.declared.code.Layout.{Layout}
use Rattle.sp_code.specs.Machine.{layout_of}
use Rattle.sp_verify_rules.specs.Shapes.{Shape}
use Rattle.sp_verify_shapes.specs.declared.stacks.Stacks.{Stacks}
use Rattle.sp_verify_shapes.specs.Stacks.{list_of}
use Rattle.sp_verify_effects.specs.declared.edges.Edge.{Edge}
use Rattle.sp_verify_effects.specs.Edges.{HasEdge, deep_edge}
use Rattle.sp_verify_effects.specs.Facts.{pair_cmp}

-- the order of what is kept
abbrev pub link_cmp : (ℕ × ℕ) × (ℕ × ℕ) → (ℕ × ℕ) × (ℕ × ℕ) → Ordering
link_cmp x y = ordering_then (pair_cmp x.0 y.0) (pair_cmp x.1 y.1)

-- it is kept of a block b, an area t, and a list n below d operands
abbrev pub has_link : BTreeSet ((ℕ × ℕ) × (ℕ × ℕ)) → (b t n d : ℕ) → Bool
has_link ks b t n d = contains link_cmp ks ((b, t), (n, d))

-- the edges of the operands from there on are there
abbrev pub IsLinked : Stacks → List (List Edge) → Layout → (t n d : ℕ) → Type 0
IsLinked st rows l t n d = (i : ℕ) (s : Shape) (e : Edge) → slice_get (list_of st n) i ≡ Some s
    → d + i < length l.formals → deep_edge l t (d + i) s ≡ Some e → HasEdge rows l.entry e

-- so it is for all that is kept of a block
abbrev pub AreLinkedOf : Stacks → List (List Edge) → Layout → (b t : ℕ) → BTreeSet ((ℕ × ℕ) × (ℕ × ℕ)) → Type 0
AreLinkedOf st rows l b t ks = (n d : ℕ) → has_link ks b t n d ≡ true → IsLinked st rows l t n d

-- and for all blocks
abbrev pub AreLinked : List Layout → Stacks → List (List Edge) → BTreeSet ((ℕ × ℕ) × (ℕ × ℕ)) → Type 0
AreLinked ls st rows ks = (b t : ℕ) (l : Layout) → layout_of ls b ≡ Some l → AreLinkedOf st rows l b t ks
