use Rattle.sp_verify_effects.specs.declared.facts.Effect.TheVariants as effect
use Rattle.sp_verify_effects.proofs.Rows.{puts_stored, puts_loaded, adds_effect}
use Rattle.sp_verify_effects.proofs.effects.put.Goals as goal

pub returns-in-Ok : goal.returns-in-Ok
returns-in-Ok c =
    let r = c.args.row.now in
    adds_effect r (record { stored = c.push.new.self; loaded = r.loaded; stops = r.stops }) c.args.effect
    (effect.Stores c.in-Stores.x) c.in-Stores.is
    (puts_stored r c.push.new.self c.in-Stores.x c.in-Ok.ensures.ok)

pub returns-in-Ok-push : goal.returns-in-Ok-push
returns-in-Ok-push c =
    let r = c.args.row.now in
    adds_effect r (record { stored = r.stored; loaded = c.push-in-Loads.new.self; stops = r.stops }) c.args.effect
    (effect.Loads c.in-Loads.x) c.in-Loads.is
    (puts_loaded r c.push-in-Loads.new.self c.in-Loads.x c.in-Ok-push.ensures.ok)
