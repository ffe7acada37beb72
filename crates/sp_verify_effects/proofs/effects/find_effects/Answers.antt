use Rattle.std.proofs.Common.{sym, subst}
use Rattle.sp_verify_effects.specs.declared.asked_areas.Asked.{Asked}
use Rattle.sp_verify_effects.specs.AskedAreas.{Asks}
use Rattle.sp_verify_effects.proofs.effects.find_effects.Goals as goal

pub returns : goal.returns
returns c =
    let found = c.in-Ok-effects_of.ensures in
    record {
      asks = subst (λ (k : Asked). Asks c.args.g.now.code.now k) (sym found.asked) c.in-Ok-asked_of.ensures.asks;
      found = found.found;
    }
