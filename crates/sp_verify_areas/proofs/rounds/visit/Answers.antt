use Rattle.std.proofs.Common.{List, Bool, ap, sym, ◌∙◌, subst}
use Rattle.sp_verify_areas.specs.Rounds.{Widens, with_flag}
use Rattle.sp_verify_areas.proofs.CycleFreedom.{widens_ways}
use Rattle.sp_verify_areas.proofs.rounds.visit.Goals as goal

pub returns : goal.returns
returns c = λ s led.
    let code = c.args.code.now in
    let fs = c.args.flags.now in
    let ways = c.free_ways-ways.result in
    subst (λ (gs : List Bool). Widens code s fs gs) (sym (c.flag-2.ensures
    ∙ ap (λ (gs : List Bool). with_flag gs ways.second) c.flag.ensures))
    (widens_ways code s fs c.args.p ways.first ways.second led (sym c.flag_at.ensures
    ∙ c.if-not-flag_at.false) c.free_ways-ways.ensures)
