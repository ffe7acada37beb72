use Rattle.sp_witness.proofs.Offers.{offers_there}
use Rattle.sp_witness.proofs.laws.races_have_offers.Goals as goal

pub returns : goal.returns
returns c = offers_there
