-- What the answers of the phases say: where a tree comes out, no rule is broken, and the tree is the one of the
-- definitions.
use Rattle.std.proofs.Common.{◌≡◌, [], Some, None, Ok, refl, sym, ◌∙◌}
use Rattle.sp_tree.specs.PhaseResults.{FirstRefusal, phase_result}
use Rattle.sp_tree.specs.PlainSyntax as syntax
use Rattle.sp_tree.specs.PlainNamed as n
use Rattle.sp_tree.specs.PlainChecked as c
use Rattle.sp_tree.specs.NamedTree.{program_named}
use Rattle.sp_tree.specs.NameFirst.{broken_name_rules, names_first, name_resolution}
use Rattle.sp_types.specs.TypeFirst.{types_broken, types_first, types_outcome}
use Rattle.sp_types.specs.CheckedTree.{program_checked}
use Rattle.sp_scope.proofs.NameLaws as names
use Rattle.sp_types.proofs.Laws as types
use Rattle.sp_front.proofs.NoBreachInParts.{none_in_list}

-- a phase that gives a tree found nothing, and gives its tree
none_found : {A : Type 0} (f : FirstRefusal) (x y : A) → phase_result f x ≡ Ok y → (f ≡ None) × (x ≡ y)
none_found None x y e = (refl, cc e)
none_found (Some r) x y e = absurd (cc e)

pub names_kept : (s : syntax.Program) (p : n.Program) → name_resolution s ≡ Ok p → (broken_name_rules s ≡ [])
    × (program_named s ≡ p)
names_kept s p e = let h = none_found (names_first s) (program_named s) p e in
    (none_in_list (broken_name_rules s) (sym (names.first_of_all s) ∙ h.0), h.1)

pub types_kept : (m : n.Program) (p : c.Program) → types_outcome m ≡ Ok p → (types_broken m ≡ [])
    × (program_checked m ≡ p)
types_kept m p e = let h = none_found (types_first m) (program_checked m) p e in
    (none_in_list (types_broken m) (sym (types.first_of_all m) ∙ h.0), h.1)
