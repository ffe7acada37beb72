use Rattle.std.proofs.Common.{ap, ◌∙◌}
use Rattle.std.proofs.lemmas.Result.{on_ok_weaker}
use Rattle.sp_race.specs.Clocks.{count_of, IsAsked}
use Rattle.sp_race.proofs.TableLaws.{own_raised, clock_is}
use Rattle.sp_race.proofs.table.raise.Goals as goal

pub returns-clause-clocks : goal.returns-clause-clocks
returns-clause-clocks c =
    on_ok_weaker c.renew.result (λ h p q a. own_raised c.args.clocks.now.items c.args.process c.args.count
    c.index_mut.result.now c.renew.new.self (IsAsked c.args.until.now c.args.now) c.requires
    (λ r. ap (λ x. count_of x r) c.index_mut.ensures.value
    ∙ clock_is c.args.clocks.now.items c.args.process c.index_mut.result.now r c.requires) h p q a) c.renew.ensures
