use Rattle.sp_verify_effects.specs.declared.facts.Effect.TheVariants as effect
use Rattle.sp_verify_effects.proofs.FactSets.{puts_stores, puts_loads, adds_effect}
use Rattle.sp_verify_effects.proofs.facts.put_effect.Goals as goal

pub returns-in-Ok : goal.returns-in-Ok
returns-in-Ok c =
    let old = c.args.sets.now in
    let x = c.in-Stores.x in
    adds_effect old (record { stored = c.insert.new.self; loaded = old.loaded; stops = old.stops }) c.args.effect
    (effect.Stores x)
    c.in-Stores.is (puts_stores old c.insert.new.self x c.in-Ok.ensures.updates.0)

pub returns-in-Ok-insert : goal.returns-in-Ok-insert
returns-in-Ok-insert c =
    let old = c.args.sets.now in
    let x = c.in-Loads.x in
    adds_effect old (record { stored = old.stored; loaded = c.insert-in-Loads.new.self; stops = old.stops })
    c.args.effect (effect.Loads x)
    c.in-Loads.is (puts_loads old c.insert-in-Loads.new.self x c.in-Ok-insert.ensures.updates.0)
