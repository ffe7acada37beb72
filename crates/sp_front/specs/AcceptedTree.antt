-- None of this belongs to what the program promises: it is for contracts between crates.
-- What the phases of names and types give of the tree of a program that breaks no rule. The laws of this crate promise
-- it, and `sp_execute` makes of it all that the code asks for.
use Rattle.std.specs.Prelude.{◌≡◌, ℕ, suc, ◌≤◌, List, Some, Ok, slice_get}
use Rattle.sp_tree.specs.declared.checked.Role.TheVariants as role
use Rattle.sp_tree.specs.Cells.{variables_of}
use Rattle.sp_tree.specs.PlainSyntax as syntax
use Rattle.sp_tree.specs.NamedTree.{program_named}
use Rattle.sp_tree.specs.Plain.{Program, Variable, Block}
use Rattle.sp_base.specs.declared.place.Place.{Place}
use Rattle.sp_base.specs.declared.rule.Rule.{Rule}
use Rattle.sp_tree.specs.PlainChecked as checked
use Rattle.sp_tree.specs.PlainNamed as named
use Rattle.sp_tree.specs.Breaches.{IsTree}
use Rattle.sp_tree.specs.NameFirst.{name_resolution}
use Rattle.sp_types.specs.TypeFirst.{types_outcome}
use Rattle.sp_tree.specs.Interferes.{Interferes}
use Rattle.sp_code.specs.Scopes.{as_list}
use Rattle.sp_types.specs.CheckedTree.{program_checked}
use Rattle.sp_tree.specs.Bare.{without_places}
use Rattle.sp_tree.specs.TreeShape.{is_parameter, is_answer, numbers_with_role}

-- the tree without places of a program
abbrev pub tree : syntax.Program → Program
tree s = without_places (program_checked (program_named s))

-- facts of the tree, of names alone
pub record IsNumberedTree (p : Program) : Type 0 where
  -- a block stands in one with a lower number
  pub parents : (f q : ℕ) (b : Block) → slice_get p.blocks f ≡ Some b → b.parent ≡ Some q → suc q ≤ f
  -- parameters and result
  pub formals : (f : ℕ) (b : Block) → slice_get p.blocks f ≡ Some b
      → b.formals ≡ numbers_with_role is_parameter (variables_of f 0 p.variables)
  pub answers : (f : ℕ) (b : Block) → slice_get p.blocks f ≡ Some b
      → as_list b.answer ≡ numbers_with_role is_answer (variables_of f 0 p.variables)
  pub results : (f : ℕ) (b : Block) (x : ℕ) → slice_get p.blocks f ≡ Some b → b.answer ≡ Some x → (v : Variable)
      × (slice_get p.variables x ≡ Some v) × (v.role ≡ role.Answer) × (v.block ≡ f)
  pub input : (v : Variable) × (slice_get p.variables 0 ≡ Some v) × (v.role ≡ role.Console)
  pub output : (v : Variable) × (slice_get p.variables 1 ≡ Some v) × (v.role ≡ role.Console)

-- no rule of interference is broken
abbrev pub KeepsInterference : checked.Program → Type 0
KeepsInterference c = (r : Rule) (at : Place) → Interferes c r at → ⊥

-- the text breaks no rule, and has this checked tree
abbrev pub IsAccepted : List ℕ → checked.Program → Type 0
IsAccepted text c = ((m : named.Program) × ((s : syntax.Program) × IsTree text s × (name_resolution s ≡ Ok m))
    × (types_outcome m ≡ Ok c)) × KeepsInterference c
