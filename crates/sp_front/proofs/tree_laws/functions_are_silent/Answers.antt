use Rattle.sp_front.proofs.Unbroken.{function_is_silent}
use Rattle.sp_front.proofs.tree_laws.functions_are_silent.Goals as goal

pub returns : goal.returns
returns c = λ g calm f x b at ans. function_is_silent g calm f x b at ans
