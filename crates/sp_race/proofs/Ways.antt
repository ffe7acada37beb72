-- Ways are told apart by their test.
use Rattle.std.proofs.Common.{◌≡◌, true, refl}
use Rattle.sp_journal.specs.declared.entry.Way.{Way}
use Rattle.sp_journal.specs.declared.entry.Way.TheVariants as way
use Rattle.sp_journal.specs.Names.{same_way}

pub way_itself : (w : Way) → same_way w w ≡ true
way_itself way.Send = refl
way_itself way.Receive = refl

pub way_is : (a b : Way) → same_way a b ≡ true → a ≡ b
way_is way.Send way.Send h = refl
way_is way.Send way.Receive h = absurd (cc h)
way_is way.Receive way.Send h = absurd (cc h)
way_is way.Receive way.Receive h = refl
