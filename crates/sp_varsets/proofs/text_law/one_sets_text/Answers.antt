use Rattle.sp_varsets.proofs.OneText.{one_text}
use Rattle.sp_varsets.proofs.text_law.one_sets_text.Goals as goal

pub returns : goal.returns
returns c = λ p s t a b h k x y. one_text p s t h k a b x y
