use Rattle.std.proofs.Common.{◌∷◌, [], ◌++◌, ap, ◌∙◌, arith}
use Rattle.sp_format.proofs.ItemLists.{indent_more}
use Rattle.sp_format.proofs.put.put_indentation.Goals as goal

pub more-preserved : goal.more-preserved
more-preserved c = indent_more c.more.out.items c.push-in-more.new.self.items _ c.more.left c.more.invariant
    (omega arith) (c.in_ok-push-2.ensures.items ∙ ap (λ l. l ++ 32 ∷ []) c.in_ok-push.ensures.items)
