use Rattle.sp_verify_shapes.proofs.Memos.{none_kept}
use Rattle.sp_verify_shapes.proofs.memo.Memo.new.Goals as goal

pub returns : goal.returns
returns c = none_kept (record { fits = c.new.result }) c.new.ensures.empty
