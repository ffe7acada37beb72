use Rattle.sp_tree.specs.CheckedOf.{program_of}
use Rattle.sp_front.proofs.analysis.analyse.Goals as goal

pub sets_of-requires-clause-numbers : goal.sets_of-requires-clause-numbers
sets_of-requires-clause-numbers c = c.numbered_trees.ensures.numbers c.args.text.now
    (program_of c.in_ok-checked.checked) c.in_ok-checked.ensures.checks

pub sets_of-requires-clause-parents : goal.sets_of-requires-clause-parents
sets_of-requires-clause-parents c = c.numbered_trees.ensures.parents c.args.text.now
    (program_of c.in_ok-checked.checked) c.in_ok-checked.ensures.checks

pub returns : goal.returns
returns c = (c.in_ok-checked.ensures.checks, c.in_ok-sets.ensures)
