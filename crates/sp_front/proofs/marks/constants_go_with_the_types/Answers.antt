use Rattle.sp_tree.specs.CheckedOf.{program_of}
use Rattle.sp_front.proofs.ConstantNames.{as_many_names}
use Rattle.sp_front.proofs.marks.constants_go_with_the_types.Goals as goal

pub returns : goal.returns
returns c = λ text r is k n e.
    as_many_names c.one_verdict.ensures.tree text (program_of r.checked) is.constants.0 is.accepted.0 is.constants.1
    r.constants is.constants.2 k n e
