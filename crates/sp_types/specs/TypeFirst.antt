-- Some of this belongs to what the program promises (docs/promise.txt).
-- The first broken rule of types of a program, and what checking its types gives: the contract of the phase. Each is
-- one line over the walk of TypeWalk.antt.
use Rattle.std.specs.Prelude.{List, [], None, Result}
use Rattle.sp_base.specs.declared.halt.Refusal.{Refusal}
use Rattle.sp_tree.specs.PhaseResults.{FirstRefusal, earlier_refusal, refusal_list, phase_result}
use Rattle.sp_tree.specs.NameFirst.{Onward, none_more, then_rest, both_lists}
use Rattle.sp_tree.specs.PlainNamed.{Program}
use Rattle.sp_tree.specs.PlainChecked as c
use Rattle.sp_types.specs.TypeWalk.{program_sites}
use Rattle.sp_types.specs.CheckedTree.{program_checked}

-- the rule that is broken at a node
abbrev pub at_node : FirstRefusal → Onward
at_node r given = earlier_refusal given r

-- all broken rules of types of a program, of those of one node the first
abbrev pub types_broken : Program → List Refusal
types_broken = program_sites [] both_lists refusal_list

-- the first broken rule of types of a program
abbrev pub types_first : Program → FirstRefusal
types_first p = program_sites none_more then_rest at_node p None

-- the first broken rule of types, or the checked tree
abbrev pub types_outcome : Program → Result c.Program Refusal
types_outcome p = phase_result (types_first p) (program_checked p)
