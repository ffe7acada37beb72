use Rattle.sp_format.proofs.SameTree.{same_tree}
use Rattle.sp_format.proofs.law.one_tree_but_for_places.Goals as goal

pub returns : goal.returns
returns c = same_tree
