use Rattle.sp_format.proofs.ItemLists.{one_items, one_text, same_text}
use Rattle.sp_format.proofs.law.one_canonical_text.Goals as goal

pub returns-clause-items : goal.returns-clause-items
returns-clause-items c = λ text is js x y. one_items x y

pub returns-clause-text : goal.returns-clause-text
returns-clause-text c = λ text a b x y. one_text x y

pub returns-clause-same : goal.returns-clause-same
returns-clause-same c = λ text other a b is x y p q. same_text x y p q
