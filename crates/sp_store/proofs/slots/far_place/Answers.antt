use Rattle.sp_store.proofs.Places.{is_here}
use Rattle.sp_store.proofs.slots.far_place.Goals as goal

pub returns-in-Some : goal.returns-in-Some
returns-in-Some c = is_here _ _ c.requires.sorted c.requires.lengths _ _ c.in-Some.ensures.0 c.in-Some.ensures.1
