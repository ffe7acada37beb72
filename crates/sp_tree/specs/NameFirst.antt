-- Some of this belongs to what the program promises (docs/promise.txt).
-- The first broken rule of names of a program, and what resolving its names gives: the contract of the resolution.
-- Each is one line over the walk of `NameWalk.antt`.
use Rattle.std.specs.Prelude.{List, [], ◌++◌, None, Result}
use Rattle.sp_base.specs.declared.halt.Refusal.{Refusal}
use Rattle.sp_tree.specs.PlainNamed as n
use Rattle.sp_tree.specs.PhaseResults.{FirstRefusal, earlier_refusal, refusal_list, phase_result}
use Rattle.sp_tree.specs.Scopes.{Env}
use Rattle.sp_tree.specs.NameRules.{Site, broken_rule}
use Rattle.sp_tree.specs.NameWalk.{program_sites}
use Rattle.sp_tree.specs.NamedTree.{program_named}
use Rattle.sp_tree.specs.PlainSyntax.{Program}

-- the first of what is given and what is found
abbrev pub Onward : Type 0
Onward = FirstRefusal → FirstRefusal

-- nothing is found
abbrev pub none_more : Onward
none_more given = given

-- what is found first, and then the rest
abbrev pub then_rest : Onward → Onward → Onward
then_rest f g given = g (f given)

-- the rule that is broken at a site
abbrev pub at_site : Env → Site → Onward
at_site env s given = earlier_refusal given (broken_rule env s)

-- all of both
abbrev pub both_lists : List Refusal → List Refusal → List Refusal
both_lists rs ss = rs ++ ss

-- none or one, as a list
abbrev pub all_at : Env → Site → List Refusal
all_at env s = refusal_list (broken_rule env s)

-- all broken rules of names of a program, of those at one site the first
abbrev pub broken_name_rules : Program → List Refusal
broken_name_rules = program_sites [] both_lists all_at

-- the first broken rule of names of a program
abbrev pub names_first : Program → FirstRefusal
names_first p = program_sites none_more then_rest at_site p None

-- the first broken rule of names, or the tree with numbers for names
abbrev pub name_resolution : Program → Result n.Program Refusal
name_resolution p = phase_result (names_first p) (program_named p)
