use Rattle.std.proofs.Common.{◌≡◌, ◌-◌, length, ◌∙◌, arith}
use Rattle.sp_codefile.proofs.LeadLaws.{last_by_place, none_by_place}
use Rattle.sp_codefile.proofs.decoder.last_children.Goals as goal

pub returns-in-Some : goal.returns-in-Some
returns-in-Some c =
    let place : c.saturating_sub.result ≡ length c.args.forks.now - 1 = omega
    (arith, c.len.ensures, c.saturating_sub.ensures) in
    c.len-in-Some.ensures
    ∙ last_by_place c.args.forks.now c.saturating_sub.result c.in-Some.table.now place c.in-Some.ensures

pub returns-in-None : goal.returns-in-None
returns-in-None c =
    let place : c.saturating_sub.result ≡ length c.args.forks.now - 1 = omega
    (arith, c.len.ensures, c.saturating_sub.ensures) in
    none_by_place c.args.forks.now c.saturating_sub.result place c.in-None.ensures
