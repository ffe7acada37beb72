-- Some of this belongs to what the program promises (docs/promise.txt).
-- What a text is by the phases up to types: its checked tree, or the first rule that it breaks. The contract of the
-- check promises it, and the top call's causes cite it; a phase's rules count only where the phases before it have
-- none.
use Rattle.std.specs.Prelude.{◌≡◌, ◌⊎◌, ℕ, List, Result, Ok, Err}
use Rattle.sp_base.specs.declared.halt.Halt.{Halt}
use Rattle.sp_base.specs.declared.halt.Halt.TheVariants as halt
use Rattle.sp_base.specs.declared.halt.Refusal.{Refusal}
use Rattle.sp_tree.specs.declared.checked.Checked.{Checked}
use Rattle.sp_tree.specs.PlainSyntax as s
use Rattle.sp_tree.specs.PlainNamed as n
use Rattle.sp_tree.specs.Breaches.{IsTree, IsFirstBroken}
use Rattle.sp_tree.specs.NameFirst.{name_resolution}
use Rattle.sp_tree.specs.PlainChecked as c
use Rattle.sp_tree.specs.CheckedOf as checked
use Rattle.sp_tree.specs.Bare.{without_places}
use Rattle.sp_tree.specs.Plain as m
use Rattle.sp_types.specs.TypeFirst.{types_outcome}

-- the text is that of the tree, and the names in it stand for these declarations
abbrev pub HasNamedTree : List ℕ → n.Program → Type 0
HasNamedTree text p = (tree : s.Program) × IsTree text tree × (name_resolution tree ≡ Ok p)

-- the text has this checked tree
abbrev pub IsChecked : List ℕ → c.Program → Type 0
IsChecked text p = (named : n.Program) × HasNamedTree text named × (types_outcome named ≡ Ok p)

-- the text has a tree, and this is the first rule of names that it breaks
abbrev pub BreaksNames : List ℕ → Refusal → Type 0
BreaksNames text r = (tree : s.Program) × IsTree text tree × (name_resolution tree ≡ Err r)

-- the text breaks no rule of names, and this is the first rule of types that it breaks
abbrev pub BreaksTypes : List ℕ → Refusal → Type 0
BreaksTypes text r = (named : n.Program) × HasNamedTree text named × (types_outcome named ≡ Err r)

-- the first rule that the text breaks: of its characters and its grammar, then of its names, then of its types
abbrev pub FirstBrokenUpToTypes : List ℕ → Refusal → Type 0
FirstBrokenUpToTypes text r = IsFirstBroken text r ⊎ (BreaksNames text r ⊎ BreaksTypes text r)

-- the answer of the check; want of memory is free
abbrev pub Checks : List ℕ → Result Checked Halt → Type 0
Checks text (Ok tree) = IsChecked text (checked.program_of tree)
Checks text (Err (halt.Refused r)) = FirstBrokenUpToTypes text r
Checks text (Err halt.Memory) = Unit {0}

-- the text breaks no rule
abbrev pub AcceptedUpToTypes : List ℕ → Type 0
AcceptedUpToTypes text = (r : Refusal) → FirstBrokenUpToTypes text r → ⊥

-- The program of the text, as the meaning takes it: its checked tree without the places.
abbrev pub IsProgramOf : List ℕ → m.Program → Type 0
IsProgramOf text p = (tree : c.Program) × IsChecked text tree × (without_places tree ≡ p)
