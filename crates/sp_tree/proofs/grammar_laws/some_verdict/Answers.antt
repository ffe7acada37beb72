use Rattle.sp_tree.proofs.Existence.{tree_or_broken}
use Rattle.sp_tree.proofs.grammar_laws.some_verdict.Goals as goal

pub returns : goal.returns
returns c = λ text ts h. tree_or_broken text ts h
