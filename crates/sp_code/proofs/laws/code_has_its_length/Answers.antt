use Rattle.sp_code.proofs.Counts.{code_count}
use Rattle.sp_code.proofs.Blocks.{program_count}
use Rattle.sp_code.proofs.laws.code_has_its_length.Goals as goal

pub returns-clause-statement : goal.returns-clause-statement
returns-clause-statement k = λ p sc t n q s. code_count p sc t n q s

pub returns-clause-program : goal.returns-clause-program
returns-clause-program k = λ p moves shares. program_count p moves shares
