use Rattle.sp_verify_effects.proofs.effects.known_breaches.Goals as goal

pub returns : goal.returns
returns c = record { clash = c.in-Ok.ensures; side_effect = c.in-Ok-known_side_effect.ensures }
