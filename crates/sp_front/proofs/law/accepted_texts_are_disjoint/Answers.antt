use Rattle.std.proofs.Common.{sym as back_of, subst}
use Rattle.sp_tree.specs.Interference.{IsFreeOfInterference}
use Rattle.sp_front.proofs.law.accepted_texts_are_disjoint.Goals as goal

pub returns : goal.returns
returns c = λ text p h g e. c.rule_keepers_are_disjoint.ensures g
    (subst IsFreeOfInterference (back_of e) (c.accepted_trees_are_fine.ensures.free text p h))
