use Rattle.sp_where.proofs.FrameTexts.{process_text}
use Rattle.sp_where.proofs.laws.frames_stand.Goals as goal

pub returns : goal.returns
returns f = λ w g q c s n z h f o there beside b l home found read.
    process_text w g q c s n z h f o there beside b l home found read
