use denote.Exit.{yes}
use denote.Param.Send.{param_send, arg_send}
use Rattle.sp_front.proofs.ThreadBounds.{marked_send}
use Rattle.sp_front.proofs.marks.marked_apart.Goals as goal

pub apart-requires-send-T : goal.apart-requires-send-T
apart-requires-send-T g c κs within = param_send 1 _ (arg_send _ yes _ marked_send)
