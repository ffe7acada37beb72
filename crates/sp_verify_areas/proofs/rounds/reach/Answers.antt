use Rattle.std.proofs.Common.{List, Bool, sym, subst}
use Rattle.sp_verify_areas.specs.Rounds.{AreFlagsReached, Widens}
use Rattle.sp_verify_areas.proofs.CycleFreedom.{led_flag, less_flag}
use Rattle.sp_verify_areas.proofs.rounds.reach.Goals as goal

pub rounds-smaller : goal.rounds-smaller
rounds-smaller c =
    let code = c.args.code.now in
    let s = c.args.start in
    let fs = c.rounds.flags in
    let gs = c.hurry.new.flags in
    let q = c.in-Some.q in
    let found = c.in-Some.ensures in
    let next : AreFlagsReached code s c.flag.new.flags = subst (λ (hs : List Bool). AreFlagsReached code s hs)
    (sym c.flag.ensures) (led_flag code s fs q c.rounds.invariant found.0) in
    (less_flag code s fs gs q found.1 found.2
    (subst (λ (hs : List Bool). Widens code s hs gs) c.flag.ensures (c.hurry.ensures s next))).1

pub rounds-preserved : goal.rounds-preserved
rounds-preserved c =
    let code = c.args.code.now in
    let s = c.args.start in
    let fs = c.rounds.flags in
    let next : AreFlagsReached code s c.flag.new.flags = subst (λ (hs : List Bool). AreFlagsReached code s hs)
    (sym c.flag.ensures) (led_flag code s fs c.in-Some.q c.rounds.invariant c.in-Some.ensures.0) in
    (c.hurry.ensures s next).led

pub returns-in-None : goal.returns-in-None
returns-in-None c = (c.rounds.invariant, c.in-None.ensures)
