-- The tests of names and channels, as equalities.
use Rattle.std.proofs.Common.{◌≡◌, true, ◌==◌, refl, eqb-true, eq-eqb}
use Rattle.std.proofs.lemmas.Bool.{and_from}
use Rattle.sp_base.proofs.Facts.{first_true, second_true}
use Rattle.sp_journal.specs.Names.{Channel, same_name, same_channel}
use Rattle.sp_journal.proofs.NameLaws.{name_itself, name_is}

pub channel_is : (c d : Channel) → same_channel c d ≡ true → c ≡ d
channel_is c d e =
    let x = name_is c.owner d.owner (first_true (same_name c.owner d.owner) (c.nth == d.nth) e) in
    let y = eqb-true c.nth d.nth (second_true (same_name c.owner d.owner) (c.nth == d.nth) e) in
    λ i. record { owner = x i; nth = y i }

pub channel_itself : (c : Channel) → same_channel c c ≡ true
channel_itself c = and_from (same_name c.owner c.owner) (c.nth == c.nth) (name_itself c.owner) (eq-eqb c.nth c.nth refl)
