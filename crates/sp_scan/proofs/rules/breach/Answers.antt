use Rattle.sp_scan.proofs.Breaches.{other_token}
use Rattle.sp_scan.proofs.rules.breach.Goals as goal

pub returns-in_default : goal.returns-in_default
returns-in_default c = other_token c.requires.closed c.args.kind c.requires.longest c.in_default.not-Number
    c.in_default.not-Name
