use Rattle.std.proofs.Common.{subst, sym}
use Rattle.sp_tree.specs.NameFirst.{broken_name_rules}
use Rattle.sp_scope.specs.Laws.{IsFirstOf}
use Rattle.sp_scope.proofs.NameLaws.{first_of_all}
use Rattle.sp_scope.proofs.TakenFirst.{taken_first}
use Rattle.sp_scope.proofs.laws.first_of_names.Goals as goal

pub returns : goal.returns
returns c = λ p. subst (IsFirstOf (broken_name_rules p)) (sym (first_of_all p)) (taken_first (broken_name_rules p))
