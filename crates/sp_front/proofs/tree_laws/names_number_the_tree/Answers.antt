use Rattle.sp_front.proofs.Program.{parents, formals, answers, results, input, output}
use Rattle.sp_front.proofs.tree_laws.names_number_the_tree.Goals as goal

pub returns : goal.returns
returns c = λ s calm. record {
  parents = parents s calm;
  formals = formals s calm;
  answers = answers s calm;
  results = results s calm;
  input = input s calm;
  output = output s calm;
}
