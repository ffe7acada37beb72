use Rattle.sp_tree.proofs.Firsts.{one_bad}
use Rattle.sp_tree.proofs.grammar_laws.one_first_bad.Goals as goal

pub returns-clause-token : goal.returns-clause-token
returns-clause-token c = λ text ts front other t u x y. (one_bad text ts front other t u x y).1

pub returns-clause-front : goal.returns-clause-front
returns-clause-front c = λ text ts front other t u x y. (one_bad text ts front other t u x y).0
